use Rattle.std.proofs.Common.{◌++◌, ◌∷◌, [], length, ap, ◌∙◌, arith}
use Rattle.std.proofs.lemmas.List.{length-append}
use Rattle.smt_terms.proofs.EndLemmas.{ends_pushed}
use Rattle.smt_terms.proofs.library.Library.push_definition.Goals as goal

pub invariant_of-self-2 : goal.invariant_of-self-2
invariant_of-self-2 c =
    let old = c.args.self.now in
    let pushed = c.push_reserved.ensures.items ∙ ap (λ js. js ++ c.args.node ∷ []) c.in_ok-reserve-2.ensures.items in
    record {
      paired = ap length pushed ∙ length-append old.bodies.items (c.args.node ∷ [])
          ∙ omega (
            arith,
            old.paired,
            ap length c.in_ok-push.ensures.items,
            length-append
                old.definitions.items (c.args.definition ∷ []),
          );
      ended = ends_pushed old.ends.items old.bodies.items c.push_reserved-2.new.self.items
          c.push_reserved.new.self.items c.args.node c.max-end.result old.ended pushed
          (c.push_reserved-2.ensures.items ∙ ap (λ es. es ++ c.max-end.result ∷ []) c.in_ok-reserve.ensures.items)
          (c.max-end.ensures ∙ omega (arith, c.end.ensures, c.number.ensures));
    }
