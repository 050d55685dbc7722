use Rattle.std.proofs.Common.{◌≡◌, ◌<◌, ◌^◌, ◌∙◌, ap, sym, subst, List, ℕ, [], ◌∷◌, slice_index_or}
use Rattle.smt_ratios.specs.Bytes.{of_seven, seven_of}
use Rattle.smt_ratios.proofs.ByteLemmas.{seven_back}
use Rattle.smt_ratios.proofs.words.SevenBytes.new.Goals as goal

abbrev first_seven : List ℕ → List ℕ
first_seven bs =
    slice_index_or bs 0 0 ∷ slice_index_or bs 1 0 ∷ slice_index_or bs 2 0 ∷ slice_index_or bs 3 0
    ∷ slice_index_or bs 4 0 ∷ slice_index_or bs 5 0 ∷ slice_index_or bs 6 0 ∷ []

made : (c : goal.After-to_le_bytes) → first_seven c.to_le_bytes.result ≡ seven_of c.args.n
unfolding seven_of
made c = ap first_seven c.to_le_bytes.ensures

pub invariant_of-result : goal.invariant_of-result
invariant_of-result c =
    let back : of_seven (seven_of c.args.n) ≡ c.args.n = seven_back c.args.n c.requires in
    subst (λ bs. (of_seven bs < 2 ^ 56) × (seven_of (of_seven bs) ≡ bs)) (sym (made c))
    (subst (λ n. n < 2 ^ 56) (sym back) c.requires, ap seven_of back)

pub returns : goal.returns
returns c = ap of_seven (made c) ∙ seven_back c.args.n c.requires
