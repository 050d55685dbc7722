-- What the labels are that terms gave so far.
use Rattle.std.specs.Prelude.{◌≡◌, ℕ, List, [], ◌∷◌, ◌++◌, Option, None, Ok, map, if◌then◌else◌}
use Rattle.smt_trees.specs.Sexp.{Sexp}
use Rattle.smt_trees.specs.View.{sexp_of}
use Rattle.smt_theory.specs.Words.{look_up}
use Rattle.smt_terms.specs.Checking.{sort_in}
use Rattle.smt_terms.specs.Definitions.{definition}
use Rattle.smt_terms.specs.Elements.{ElementNames, element_among}
use Rattle.smt_terms.specs.Labels as spec
use Rattle.smt_terms.specs.Signature.{Entry, Names, Rank, rank_of_entry, unlabelled}
use Rattle.smt_terms.specs.declared.labels.Label.{Label}
use Rattle.smt_terms.specs.declared.labels.Labels.{Labels}

abbrev pub given_names : Labels → List (List ℕ)
given_names labels = map (λ l. l.name.items) labels.given.items

-- the labels with their terms
abbrev pub given_terms : Labels → List (List ℕ × Sexp)
given_terms labels = map (λ l. (l.name.items, sexp_of l.body)) labels.given.items

abbrev pub labels_view : Labels → spec.Labels
labels_view labels = if labels.refused then spec.Refused else spec.Given (given_names labels)

-- the term of each label has the label's sort, over these names and no variables
abbrev pub AreSorted : Names → List Label → Type 0
AreSorted names [] = Unit {0}
AreSorted names (l ∷ ls) = (sort_in (unlabelled names) [] (sexp_of l.body) ≡ Ok l.sort) × AreSorted names ls

-- these labels, each with its term, were given behind the old ones
pub record AreGiven (names : Names) (old new : Labels) (more : List (List ℕ × Sexp)) : Type 0 where
  pub refused : new.refused ≡ old.refused
  pub given : given_terms new ≡ given_terms old ++ more
  pub sorted : AreSorted names old.given.items → AreSorted names new.given.items

-- what a label brings: a constant that its term defines
abbrev pub label_entry : Label → Entry
label_entry l = definition l.name.items [] l.sort (sexp_of l.body)

-- the name of each label stands for nothing, behind those before it, and is no element's
abbrev pub AreNew : Option ElementNames → List (List ℕ × Rank) → List Label → Type 0
AreNew elements ranks [] = Unit {0}
AreNew elements ranks (l ∷ ls) =
    (look_up ranks l.name.items ≡ None) × (element_among elements l.name.items ≡ None)
    × AreNew elements (ranks ++ (l.name.items, rank_of_entry (label_entry l)) ∷ []) ls
