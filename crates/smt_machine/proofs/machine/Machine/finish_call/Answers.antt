use Rattle.std.proofs.Common.{◌∙◌, ◌+◌, Some, ap, length, sym}
use Rattle.std.proofs.lemmas.List.{length-map}
use Rattle.std.specs.Prelude.{option_map}
use Rattle.smt_machine.specs.Internal.Parts.{number_of, numbers_of}
use Rattle.smt_machine.specs.Tables.{call}
use Rattle.smt_machine.proofs.StepLemmas.{entered_step, if_done}
use Rattle.smt_machine.proofs.machine.Machine.finish_call.Goals as goal

pub returns-in-Some : goal.returns-in-Some
returns-in-Some c = if_done c.enter.result c.enter.ensures
    (λ is nodes at. entered_step nodes c.args.number (length c.args.args.ids.now) (number_of c.in-Some.body)
    (numbers_of c.args.args) c.args.self.now c.enter.new.self
    (sym (ap (λ b. Some (call (option_map number_of b) (numbers_of c.args.args))) c.in-Some.is) ∙ at)
    (length-map c.args.args.ids.now (λ id. c.args.args.shift + id)) is c.requires)
