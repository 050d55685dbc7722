use Rattle.std.proofs.Common.{◌≡◌, length, arith, subst}
use Rattle.smt_text.proofs.AtomLemmas.{all_atoms}
use Rattle.smt_text.specs.Internal.AtomScanning.{IsAtomScan}
use Rattle.smt_text.proofs.atom_places.atom_spans.Goals as goal

pub returns : goal.returns
returns c =
    let end : c.loop-place.place ≡ length c.args.text.now =
    omega (arith, c.loop-place-test.false, c.loop-place.auto.place-end) in
    all_atoms c.args.text.now c.loop-place.scan
    (subst (λ n. IsAtomScan c.args.text.now n c.loop-place.scan) end c.loop-place.invariant)
