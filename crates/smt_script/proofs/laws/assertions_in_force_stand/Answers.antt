use Rattle.std.proofs.Common.{◌++◌, ap, ◌∙◌}
use Rattle.smt_script.specs.Command.{Command}
use Rattle.smt_script.specs.Stack.{Brought, Stands, assertions_by}
use Rattle.smt_script.proofs.BroughtLemmas.{asserted_itself, assertions_in_words, brought_in_order, part_found}
use Rattle.smt_script.proofs.BroughtLemmas.{part_stands}
use Rattle.smt_script.proofs.HistoryLemmas.{assertion_stands_after}
use Rattle.smt_script.proofs.StandingLemmas.{assertion_or_not}
use Rattle.smt_script.proofs.laws.assertions_in_force_stand.Goals as goal

pub returns : goal.returns
returns c = record {
  stands = λ profile commands earlier d term s is.
      let among = part_stands profile assertion_stands_after Stands (assertions_in_words profile)
      (λ (b : Brought). b.assertions)
      commands earlier d s s.later s.place in
      (among.0, among.1, among.2 ∙ ap (λ (e : Command). among.0 ++ (assertions_by d.number e ++ among.1)) is);
  found = λ profile commands first last a h.
      let b = part_found profile assertion_stands_after Stands (assertions_in_words profile)
      (λ (b : Brought). b.assertions)
      commands a (first, last, h) in
      let own = asserted_itself b.command.number b.command.command a
      (assertion_or_not b.command.number b.command.command) b.among in
      (b.earlier, b.command, b.standing, own.0, own.1);
  ordered = λ profile. brought_in_order profile assertion_stands_after Stands (assertions_in_words profile)
      (λ (b : Brought). b.assertions);
}
