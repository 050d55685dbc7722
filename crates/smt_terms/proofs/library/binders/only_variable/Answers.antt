use Rattle.std.proofs.Common.{◌≡◌, ◌∷◌, [], List, ap, arith, length, refl, ◌∙◌}
use Rattle.smt_theory.specs.Sort.{Sort}
use Rattle.smt_trees.specs.Sexp.{Atom, Cons, Items, Symbol}
use Rattle.smt_trees.specs.View.{sexps_of}
use Rattle.smt_terms.specs.Internal.Frames.{variables_of}
use Rattle.smt_terms.proofs.LetFrameLemmas.{no_variables}
use Rattle.smt_terms.proofs.library.binders.only_variable.Goals as goal

none : {xs : List Sort} → length xs ≡ 0 → xs ≡ []
none {xs = []} h = refl
none {xs = x ∷ xs} h = absurd (omega (arith, h))

pub returns-in-None : goal.returns-in-None
returns-in-None c =
    let sort = c.in-Some.sort.now in
    let name = c.in-Some-split_name.name.now in
    let one : c.args.sorts.now ≡ sort ∷ [] =
    c.in-Some.ensures.cases.0 ∙ ap (λ xs. sort ∷ xs) (none c.in-None.ensures.cases) in
    ap (λ ts. variables_of ts c.args.sorts.now) c.in-Some-split_name.ensures
    ∙ ap (variables_of (Cons (Items (Cons (Atom Symbol name) (sexps_of c.in-Some-split_name.field-0-1)))
    (sexps_of c.in-Some-split_name.field-0-2))) one ∙ ap (λ vs. (name, sort) ∷ vs) (no_variables (sexps_of c.in-Some-split_name.field-0-2))
