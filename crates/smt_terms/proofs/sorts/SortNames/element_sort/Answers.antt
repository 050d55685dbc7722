use Rattle.std.proofs.Common.{◌≡◌, ◌∙◌, arith, refl, sym, ℕ, List, [], ◌∷◌, length, Option, Some, None}
use Rattle.std.specs.Prelude.{option_and_then}
use Rattle.smt_theory.specs.Words.{look_up}
use Rattle.smt_forms.specs.ElementNames.{sort_of_element}
use Rattle.smt_terms.specs.Elements.{if_declared}
use Rattle.smt_terms.specs.Internal.LibraryView.{abbreviations_of}
use Rattle.smt_terms.specs.declared.named_sort.NamedSort.{NamedSort}
use Rattle.smt_terms.proofs.sorts.SortNames.element_sort.Goals as goal

-- where no name stands for a sort, nothing is an element
none : (es : List (List ℕ × NamedSort)) (name : Option (List ℕ)) → length es ≡ 0
    → None ≡ option_and_then if_declared (option_and_then (look_up es) name)
none [] None h = refl
none [] (Some x) h = refl
none (e ∷ es) name h = absurd (omega (arith, h))

pub returns-then-len-eq0 : goal.returns-then-len-eq0
returns-then-len-eq0 c =
    none (abbreviations_of c.args.self.now) (sort_of_element c.args.symbol.now) (sym c.len.ensures ∙ c.if-len-eq0.true)
