use Rattle.std.proofs.Common.{◌≡◌, ◌≢◌, ℕ, false, inl, inr}
use Rattle.std.specs.Prelude.{◌==◌}
use Rattle.std.proofs.lemmas.Bool.Decides.{eqb_tells}
use Rattle.smt_terms.proofs.ElementLawLemmas.{new_element, no_sign, other_sign}
use Rattle.smt_terms.proofs.laws.elements.qualified_elements_begin_with_an_at_sign.Goals as goal

differs : (c : ℕ) → c ≢ 64 → (c == 64) ≡ false
differs c h = elim (eqb_tells c 64) [ inl p ↦ absurd (h p.1) | inr p ↦ p.0 ]

pub returns : goal.returns
returns c = record {
  others = λ names scope x cs sort no. other_sign names.elements names.ranks x cs sort (differs x no);
  empty = λ names scope sort. no_sign names.elements names.ranks sort;
  element = λ script earlier scope cs sort n wide absent new sorted.
      new_element script earlier cs sort n wide absent new sorted;
}
