use Rattle.std.proofs.Common.{sym, ap, subst, ◌∙◌, arith, ◌-◌, ◌/◌}
use Rattle.std.proofs.lemmas.Result.{IfOk-weaker}
use Rattle.smt_diagrams.specs.Diagram.{IsDiagram, IsJoined, IsWritten, halves}
use Rattle.smt_diagrams.proofs.HalfLemmas.{half_of}
use Rattle.smt_diagrams.proofs.StoreLemmas.{half_diagrams, put_even, put_odd}
use Rattle.smt_diagrams.proofs.diagrams.+put.Goals as goal

pub put-requires : goal.put-requires
put-requires t c =
    let fork = c.halves_in-fork.ensures ∙ ap (λ xs. halves xs c.args.diagram) c.as_slice.ensures.keys in
    let both = half_diagrams c.args.forks.now.keys c.args.bits c.args.diagram c.if-bits-eq0.false
    c.requires.diagram in (
      omega (arith, c.decreases, c.if-bits-eq0.false),
      (
        c.requires.distinct,
        (
          subst (λ f. IsDiagram c.args.forks.now.keys (c.args.bits - 1) f.even) (sym fork) both.0,
          half_of c.args.bits c.args.number c.requires.number c.if-bits-eq0.false,
        ),
      ),
    )

pub put-requires-else-number-eq0 : goal.put-requires-else-number-eq0
put-requires-else-number-eq0 t c =
    let fork = c.halves_in-fork.ensures ∙ ap (λ xs. halves xs c.args.diagram) c.as_slice.ensures.keys in
    let both = half_diagrams c.args.forks.now.keys c.args.bits c.args.diagram c.if-bits-eq0.false
    c.requires.diagram in (
      omega (arith, c.decreases, c.if-bits-eq0.false),
      (
        c.requires.distinct,
        (
          subst (λ f. IsDiagram c.args.forks.now.keys (c.args.bits - 1) f.odd) (sym fork) both.1,
          half_of c.args.bits c.args.number c.requires.number c.if-bits-eq0.false,
        ),
      ),
    )

pub returns-in_ok-even-clause-written : goal.returns-in_ok-even-clause-written
returns-in_ok-even-clause-written t c =
    let fork = c.halves_in-fork.ensures ∙ ap (λ xs. halves xs c.args.diagram) c.as_slice.ensures.keys in
    IfOk-weaker c.join.result _ _
    (λ made j. put_even c.args.forks.now.keys c.put.new.forks.keys c.join.new.forks.keys c.args.bits c.args.diagram
    c.in_ok-even.even made c.args.number c.args.element c.if-bits-eq0.false c.requires.diagram
    c.if-number-eq0.true c.in_ok-even.ensures.grown c.join.ensures.grown
    (subst (λ f. IsWritten c.args.forks.now.keys c.put.new.forks.keys (c.args.bits - 1) f.even (c.args.number / 2)
    c.args.element c.in_ok-even.even) fork c.in_ok-even.ensures.written)
    (subst (λ f. IsJoined c.join.new.forks.keys c.in_ok-even.even f.odd made) fork j))
    c.join.ensures.made

pub returns-in_ok-odd-clause-written : goal.returns-in_ok-odd-clause-written
returns-in_ok-odd-clause-written t c =
    let fork = c.halves_in-fork.ensures ∙ ap (λ xs. halves xs c.args.diagram) c.as_slice.ensures.keys in
    IfOk-weaker c.join-else-number-eq0.result _ _
    (λ made j. put_odd c.args.forks.now.keys c.put-else-number-eq0.new.forks.keys
    c.join-else-number-eq0.new.forks.keys c.args.bits c.args.diagram c.in_ok-odd.odd made c.args.number
    c.args.element c.if-bits-eq0.false c.requires.diagram c.if-number-eq0.false
    c.in_ok-odd.ensures.grown c.join-else-number-eq0.ensures.grown
    (subst (λ f. IsWritten c.args.forks.now.keys c.put-else-number-eq0.new.forks.keys (c.args.bits - 1) f.odd
    (c.args.number / 2) c.args.element c.in_ok-odd.odd) fork c.in_ok-odd.ensures.written)
    (subst (λ f. IsJoined c.join-else-number-eq0.new.forks.keys f.even c.in_ok-odd.odd made) fork j))
    c.join-else-number-eq0.ensures.made
