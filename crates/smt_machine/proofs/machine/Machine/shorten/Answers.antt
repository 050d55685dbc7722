use Rattle.std.proofs.Common.{◌≡◌, ◌∙◌, ap, length, min, refl, sym, take}
use Rattle.std.proofs.lemmas.List.{length-map, take-map}
use Rattle.smt_arrays.specs.Tables.{all_known_in, known_in}
use Rattle.smt_machine.specs.Memory.{arrays_in}
use Rattle.smt_machine.proofs.HeldLemmas.{grows_not}
use Rattle.smt_machine.proofs.StateLemmas.{states_same}
use Rattle.smt_machine.proofs.machine.Machine.shorten.Goals as goal

pub returns : goal.returns
returns c =
    let arrays = arrays_in c.args.self.now in
    let frames = c.args.self.now.frames.items in
    let shorter : all_known_in arrays c.truncate.new.self.items ≡ take c.args.len (all_known_in arrays frames) =
    ap (all_known_in arrays) c.truncate.ensures.items ∙ sym (take-map (known_in arrays) c.args.len frames) in
    let left : length c.as_slice.result.now ≡ length (take c.args.len (all_known_in arrays frames)) =
    ap length c.as_slice.ensures.value
    ∙ sym (length-map c.truncate.new.self.items (known_in arrays)) ∙ ap length shorter in
    record {
      tasks = refl;
      state = states_same _ _ _ _ _ _ refl shorter
          (c.lesser-self.ensures ∙ ap (λ k. min c.args.base k) left);
      kept = refl;
      grown = grows_not arrays;
    }
