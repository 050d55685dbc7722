use Rattle.std.proofs.Common.{◌≡◌, ◌<◌, ◌^◌, ◌∙◌, ap, sym, subst}
use Rattle.smt_ratios.specs.Bytes.{eight_of, of_eight}
use Rattle.smt_ratios.proofs.ByteLemmas.{eight_back}
use Rattle.smt_ratios.proofs.words.EightBytes.new.Goals as goal

made : (c : goal.After-to_le_bytes) → c.to_le_bytes.result ≡ eight_of c.args.n
unfolding eight_of
made c = c.to_le_bytes.ensures

pub invariant_of-result : goal.invariant_of-result
invariant_of-result c =
    let back : of_eight (eight_of c.args.n) ≡ c.args.n = eight_back c.args.n c.ranges.n.fits in
    subst (λ bs. (of_eight bs < 2 ^ 64) × (eight_of (of_eight bs) ≡ bs)) (sym (made c))
    (subst (λ n. n < 2 ^ 64) (sym back) c.ranges.n.fits, ap eight_of back)

pub returns : goal.returns
returns c = ap of_eight (made c) ∙ eight_back c.args.n c.ranges.n.fits
