use Rattle.std.proofs.Common.{refl}
use Rattle.smt_forms.proofs.NumeralLemmas.{no_numeral, of_digits}
use Rattle.smt_forms.proofs.laws.numerals_begin_with_no_zero.Goals as goal

pub returns : goal.returns
returns c = record {
  zero = refl;
  digits = of_digits;
  padded = λ d ds. refl;
  others = no_numeral;
  empty = refl;
}
