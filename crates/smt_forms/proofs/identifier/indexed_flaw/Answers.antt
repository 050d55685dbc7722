use Rattle.std.proofs.Common.{◌≡◌, ℕ, List, Option, Some, None, Ok, Result, is_some, ok_or, option_map, refl, ap, sym, true}
use Rattle.std.proofs.Common.{◌∙◌}
use Rattle.smt_trees.specs.Sexp.{Atom, Cons, Symbol}
use Rattle.smt_trees.specs.View.{sexp_of, sexps_of}
use Rattle.smt_theory.specs.Index.{IndexView}
use Rattle.smt_faults.specs.declared.term_flaw.TermFlaw.TheVariants.{Form}
use Rattle.smt_forms.specs.Identifier.{Identifier, Indexed, all_indexes, indexed}
use Rattle.smt_forms.proofs.identifier.indexed_flaw.Goals as goal

some_indexes : (name : List ℕ) (o : Option (List IndexView)) → is_some o ≡ true
    → (f : Identifier) × (ok_or (option_map (λ is. Indexed name is) o) Form ≡ Ok f)
some_indexes name (Some is) h = (Indexed name is, refl)
some_indexes name None h = cc

pub returns : goal.returns
returns c =
    let rest = sexps_of c.in-Some-Symbol-default.rest in
    let name = c.in-Some-Symbol-default.field-0-0-0.now in
    let parts = c.in-Some-Symbol-default.ensures
    ∙ ap (λ t. Cons (sexp_of t) rest) c.in-Some-Symbol-default.field-0-0-is in
    let found = some_indexes name (all_indexes (Cons (sexp_of c.in-Some.field-0.0) (sexps_of c.in-Some.field-0.1)))
    (ap (λ ts. is_some (all_indexes ts)) (sym c.in-Some.ensures) ∙ sym c.are_indexes.ensures
    ∙ c.if-not-are_indexes.false) in
    (found.0, ap indexed (parts ∙ ap (Cons (Atom Symbol name)) c.in-Some.ensures) ∙ found.1)
