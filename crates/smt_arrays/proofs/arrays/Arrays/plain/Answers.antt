use Rattle.std.proofs.Common.{◌∙◌, sym, ap}
use Rattle.smt_values.specs.Element.{known_element}
use Rattle.smt_arrays.specs.Element.{known_plain}
use Rattle.smt_arrays.specs.Cells.{arrays_of}
use Rattle.smt_arrays.proofs.LiftLemmas.{are_arrays, known_lifted, plain_of_lifted}
use Rattle.smt_arrays.proofs.arrays.Arrays.plain.Goals as goal

pub returns : goal.returns
returns c =
    let arrays = arrays_of c.args.self.now in
    c.unless_array.ensures
    ∙ sym (plain_of_lifted arrays (are_arrays c.args.self.now) (known_element c.args.value))
    ∙ ap known_plain (sym (known_lifted arrays c.args.value))
