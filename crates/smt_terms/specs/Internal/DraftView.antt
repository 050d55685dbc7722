-- What is kept of a term while it is checked.
use Rattle.std.specs.Prelude.{◌≤◌, ◌<◌, ◌-◌, ℕ, ◌+◌, List, [], ◌∷◌, Bool, drop, length, map, take}
use Rattle.smt_trees.specs.Sexp.{Sexp, Sexps}
use Rattle.smt_theory.specs.Sort.{Sort}
use Rattle.smt_forms.specs.ScopeOf.{scope_of}
use Rattle.smt_forms.specs.Variables.{any_uses_outer, bindings_use_outer, uses_outer}
use Rattle.smt_terms.specs.declared.library.arguments.Arguments.{Arguments}
use Rattle.smt_terms.specs.declared.library.draft.Bound.{Bound}
use Rattle.smt_terms.specs.declared.library.draft.Draft.{Draft}

-- variables with their sorts and places, the innermost first
abbrev pub Variables : Type 0
Variables = List (List ℕ × Bound)

abbrev pub sorts_of : Variables → List (List ℕ × Sort)
sorts_of = map (λ v. (v.0, v.1.sort))

-- those that a term sees
abbrev pub seen_by : Draft → Variables
seen_by draft = scope_of draft.scope

abbrev pub sorts_seen : Draft → List (List ℕ × Sort)
sorts_seen draft = sorts_of (seen_by draft)

-- the first so many variables with places from this one on
abbrev pub placed_from : ℕ → List (List ℕ × Sort) → Variables
placed_from place [] = []
placed_from place (v ∷ vs) = (v.0, record { sort = v.1; place = place }) ∷ placed_from (place + 1) vs

-- those that are bound inside, behind the outermost `base`; and those outside
abbrev pub inside : ℕ → Variables → Variables
inside base variables = take (length variables - base) variables

abbrev pub outside : ℕ → Variables → Variables
outside base variables = drop (length variables - base) variables

abbrev pub names_inside : Draft → List (List ℕ)
names_inside draft = map (λ v. v.0) (inside draft.base (seen_by draft))

abbrev pub sorts_outside : Draft → List (List ℕ × Sort)
sorts_outside draft = sorts_of (outside draft.base (seen_by draft))

-- whether terms use a variable that stands outside
abbrev pub is_open : Draft → Sexp → Bool
is_open draft term = uses_outer (names_inside draft) (sorts_outside draft) term

abbrev pub are_open : Draft → Sexps → Bool
are_open draft terms = any_uses_outer (names_inside draft) (sorts_outside draft) terms

abbrev pub are_open_bindings : Draft → Sexps → Bool
are_open_bindings draft bindings = bindings_use_outer (names_inside draft) (sorts_outside draft) bindings

-- the place of each variable is below this one; or from this one on
abbrev pub AreBelow : ℕ → Variables → Type 0
AreBelow n [] = Unit {0}
AreBelow n (v ∷ vs) = (v.1.place < n) × AreBelow n vs

abbrev pub AreFrom : ℕ → Variables → Type 0
AreFrom n [] = Unit {0}
AreFrom n (v ∷ vs) = (n ≤ v.1.place) × AreFrom n vs

-- the places are below the number of variables; those inside are from `base` on, and those outside below it
pub record IsPlaced (variables : Variables) (base : ℕ) : Type 0 where
  pub within : base ≤ length variables
  pub all : AreBelow (length variables) variables
  pub inner : AreFrom base (inside base variables)
  pub outer : AreBelow base (outside base variables)

-- ---- arguments that were checked of terms that are not yet

abbrev pub argument_sorts : Arguments → List Sort
argument_sorts arguments = arguments.sorts.items

abbrev pub argument_terms : Arguments → List ℕ
argument_terms arguments = arguments.terms.items

-- those from this one on
abbrev pub sorts_from : ℕ → Arguments → List Sort
sorts_from start arguments = drop start (argument_sorts arguments)

abbrev pub terms_from : ℕ → Arguments → List ℕ
terms_from start arguments = drop start (argument_terms arguments)
