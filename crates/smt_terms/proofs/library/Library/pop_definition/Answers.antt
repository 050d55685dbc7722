use Rattle.std.proofs.Common.{ap, length, sym, ◌∙◌, arith}
use Rattle.std.proofs.lemmas.List.{length-take}
use Rattle.smt_terms.specs.Ends.{ends_from}
use Rattle.smt_terms.proofs.EndLemmas.{ends_taken, length-ends}
use Rattle.smt_terms.proofs.library.Library.pop_definition.Goals as goal

pub invariant_of-self : goal.invariant_of-self
invariant_of-self c =
    let old = c.args.self.now in
    let ends = ap length old.ended ∙ length-ends 0 old.bodies.items in
    record {
      paired = ap length c.pop.ensures.rest ∙ length-take _ old.bodies.items
          ∙ omega (
            arith,
            old.paired,
            old.bodies.ok,
            old.definitions.ok,
            ap length c.pop-3.ensures.rest ∙ length-take
                _ old.definitions.items,
          );
      ended = c.pop-2.ensures.rest
          ∙ ends_taken old.ends.items old.bodies.items _ _ old.ended
          (omega (arith, ends, old.ends.ok, old.bodies.ok))
          ∙ ap (ends_from 0) (sym c.pop.ensures.rest);
    }
