-- When what is known of variables and their values agree, and when values fit a scope: the premises of the
-- laws.
use Rattle.std.specs.Prelude.{ℕ, List, Option, Some, None}
use Rattle.smt_theory.specs.Words.{look_up}
use Rattle.smt_theory.specs.Sort.{Sort}
use Rattle.smt_arrays.specs.Element.{Agrees, Element, IsOfSort}

-- both have the variable or neither has it, and what is known of its value is true
abbrev pub AgreeBoth : Option (Option Element) → Option Element → Type 0
AgreeBoth None None = Unit {0}
AgreeBoth (Some known) (Some e) = Agrees known e
AgreeBoth _ _ = ⊥

abbrev pub AgreesWith : List (List ℕ × Option Element) → List (List ℕ × Element) → Type 0
AgreesWith known r = (x : List ℕ) → AgreeBoth (look_up known x) (look_up r x)

-- each variable's value is of its sort
abbrev pub IsOfSorts : Option Sort → Option Element → Type 0
IsOfSorts None None = Unit {0}
IsOfSorts (Some sort) (Some e) = IsOfSort sort e
IsOfSorts _ _ = ⊥

abbrev pub FitsScope : List (List ℕ × Sort) → List (List ℕ × Element) → Type 0
FitsScope scope r = (x : List ℕ) → IsOfSorts (look_up scope x) (look_up r x)
