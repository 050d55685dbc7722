use Rattle.std.proofs.Common.{◌≡◌, ap, subst, sym, true, ◌∙◌}
use Rattle.smt_diagrams.specs.Diagram.{AreDistinct, element_at}
use Rattle.smt_diagrams.specs.contracts.diagram.DiagramPartialEq.TheImpl.{eq-value}
use Rattle.smt_diagrams.proofs.DiagramLemmas.{one_diagram}
use Rattle.smt_diagrams.proofs.ForkLemmas.{diagram_itself, equal_diagrams}
use Rattle.smt_diagrams.proofs.diagrams.Diagrams.are_same.Goals as goal

pub returns : goal.returns
returns c =
    let equal : c.eq.result ≡ eq-value.it c.args.a c.args.b = c.eq.ensures in (
      λ yes i less.
          ap (λ d. element_at c.args.self.now c.args.bits d i) (equal_diagrams c.args.a c.args.b (sym equal ∙ yes)),
      λ alike.
          let same =
          one_diagram c.args.bits c.args.self.now c.args.a c.args.b (subst AreDistinct c.self.view_is c.self.invariant)
          c.requires.a c.requires.b alike
          in
          equal ∙ subst (λ d. eq-value.it c.args.a d ≡ true) same (diagram_itself c.args.a),
    )
