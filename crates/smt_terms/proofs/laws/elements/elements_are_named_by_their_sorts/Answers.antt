use Rattle.std.proofs.Common.{Option, ap, ◌∙◌}
use Rattle.std.specs.Prelude.{option_and_then}
use Rattle.smt_theory.specs.Words.{look_up}
use Rattle.smt_terms.specs.Elements.{if_declared}
use Rattle.smt_terms.specs.declared.named_sort.NamedSort.{NamedSort}
use Rattle.smt_terms.proofs.laws.elements.elements_are_named_by_their_sorts.Goals as goal

pub returns : goal.returns
returns c = record {
  first = λ sorts u numeral n is found.
      ap (λ o. option_and_then if_declared (option_and_then (look_up sorts.abbreviations) o))
      (c.elements_name_their_sorts.ensures.named u numeral is) ∙ ap (λ (o : Option NamedSort). option_and_then if_declared o) found;
  abbreviated = λ sorts u numeral s is found.
      ap (λ o. option_and_then if_declared (option_and_then (look_up sorts.abbreviations) o))
      (c.elements_name_their_sorts.ensures.named u numeral is) ∙ ap (λ (o : Option NamedSort). option_and_then if_declared o) found;
  undeclared = λ sorts u numeral is found.
      ap (λ o. option_and_then if_declared (option_and_then (look_up sorts.abbreviations) o))
      (c.elements_name_their_sorts.ensures.named u numeral is) ∙ ap (λ (o : Option NamedSort). option_and_then if_declared o) found;
}
