use Rattle.std.proofs.Common.{◌+◌, [], ◌∷◌, ◌++◌, drop, map, refl, ap, sym, ◌∙◌, append_assoc, append-nil}
use Rattle.std.proofs.Common.{arith}
use Rattle.std.specs.List.{zip}
use Rattle.smt_plain.specs.PlainTerm.{known_single, known_singles}
use Rattle.smt_plain.specs.Internal.PlainEvaluation.{known_scope}
use Rattle.smt_plain.proofs.ScopeLemmas.{zip_done, zip_on}
use Rattle.smt_plain.proofs.scope.bind.Goals as goal

pub loop-place-init : goal.loop-place-init
loop-place-init c = rw c.new-variables.ensures.items refl

pub loop-place-preserved : goal.loop-place-preserved
loop-place-preserved c =
    let n = c.loop-place.place in
    let before = known_scope c.loop-place.variables.items in
    let rest =
    zip (map (λ p. p.0.items) (drop (n + 1) c.args.params.now))
    (known_singles (drop (n + 1) c.args.args.now)) in
    c.loop-place.invariant
    ∙ ap (λ xs. before ++ xs)
    (zip_on (λ p. p.0.items) known_single c.args.params.now c.args.args.now n c.index-params-place.result
    c.index-args-place.result (omega (arith, c.loop-place-test.true, c.min-place-end.ensures))
    (omega (arith, c.loop-place-test.true, c.min-place-end.ensures)) c.index-params-place.is
    c.index-args-place.is)
    ∙ ap (λ x. before ++ (x, known_single c.index-args-place.result) ∷ rest)
    (ap (λ q. q.0.items) c.index-params-place.is ∙ sym c.as_slice.ensures.value)
    ∙ sym (ap (λ xs. xs ++ rest) c.in_ok-push_variable.ensures ∙ append_assoc before
    ((c.as_slice.result.now, known_single c.index-args-place.result) ∷ []) rest)

pub returns : goal.returns
returns c =
    let n = c.loop-place.place in
    sym (c.loop-place.invariant ∙ ap (λ xs. known_scope c.loop-place.variables.items ++ xs)
    (zip_done (λ p. p.0.items) known_single c.args.params.now c.args.args.now n
    (omega (arith, c.loop-place-test.false, c.min-place-end.ensures))) ∙ append-nil
    (known_scope c.loop-place.variables.items))
