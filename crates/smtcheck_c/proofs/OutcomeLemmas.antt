-- The numbers of verdicts.
use Rattle.std.proofs.Common.{◌≡◌, ◌<◌, arith, refl}
use Rattle.smt_report.specs.Verdict.{status_of}
use Rattle.smt_report.specs.declared.verdict.Verdict.{Verdict}
use Rattle.smt_report.specs.declared.verdict.Verdict.TheVariants.{Invalid, NotDecided, Refused, Valid}

pub number_below : (v : Verdict) → status_of v < 4
number_below Valid = omega arith
number_below Invalid = omega arith
number_below NotDecided = omega arith
number_below Refused = omega arith

-- 0 is valid alone, and 1 invalid
pub number_of_valid : (v : Verdict) → status_of v ≡ 0 → v ≡ Valid
number_of_valid Valid e = refl
number_of_valid Invalid e = absurd (omega (arith, e))
number_of_valid NotDecided e = absurd (omega (arith, e))
number_of_valid Refused e = absurd (omega (arith, e))

pub number_of_invalid : (v : Verdict) → status_of v ≡ 1 → v ≡ Invalid
number_of_invalid Invalid e = refl
number_of_invalid Valid e = absurd (omega (arith, e))
number_of_invalid NotDecided e = absurd (omega (arith, e))
number_of_invalid Refused e = absurd (omega (arith, e))
