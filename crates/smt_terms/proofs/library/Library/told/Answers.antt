use Rattle.std.proofs.Common.{◌≡◌, Option, Some, None, Ok, Result, MatchOption, MatchResult, cond, ap, subst, sym, ◌∙◌}
use Rattle.smt_trees.specs.View.{sexp_of}
use Rattle.smt_faults.specs.Outcome.{Tells}
use Rattle.smt_faults.specs.declared.term_flaw.TermFlaw.{TermFlaw}
use Rattle.smt_terms.specs.Items.{told_in}
use Rattle.smt_terms.specs.Signature.{Entry}
use Rattle.smt_terms.proofs.library.Library.told.Goals as goal

pub returns-then-is_wide : goal.returns-then-is_wide
returns-then-is_wide c = λ s stands.
    let tree = sexp_of c.args.item in
    let wide = sym (c.is_wide.ensures s stands) ∙ c.if-is_wide.true in
    subst (λ o. MatchOption c.told_in.result (o ≡ None)
    (λ told. (r : Result (Option Entry) TermFlaw) × (o ≡ Some r) × MatchResult told (λ _. r ≡ Ok None) (Tells r)))
    (sym (ap (λ b. cond b (told_in s tree) None) wide)) (c.told_in.ensures s stands wide)

pub returns-else-is_wide : goal.returns-else-is_wide
returns-else-is_wide c = λ s stands.
    ap (λ b. cond b (told_in s (sexp_of c.args.item)) None) (sym (c.is_wide.ensures s stands) ∙ c.if-is_wide.false)
