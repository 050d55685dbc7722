use Rattle.std.proofs.Common.{[], codes, true}
use Rattle.smt_text.proofs.ExampleLemmas.{reads}
use Rattle.smt_text.proofs.ReadingLemmas.{one_forest}
use Rattle.smt_text.specs.Grammar.{max_depth}
use Rattle.smt_text.proofs.laws.examples.forests.Goals as goal

pub returns : goal.returns
returns c = record {
  empty = λ most. reads most true [];
  two_symbols = reads max_depth true (codes "a b");
  one_symbol = λ h. let e = one_forest max_depth max_depth (codes "ab") _ _ (reads max_depth true (codes "ab")) h in cc;
  reserved = reads max_depth true (codes "(assert)");
  no_symbol = λ h. let e = one_forest max_depth max_depth (codes "(assert)") _ _
      (reads max_depth true (codes "(assert)")) h in cc;
  quoted = reads max_depth true (codes "|assert|");
  quoted_empty = reads max_depth true (codes "||");
  quoted_space = reads max_depth true (codes "(|a b| x)");
  numbers = reads max_depth true (codes "0 10 0.50 #xAf0 #b011");
  keyword = reads max_depth true (codes ":1a(:x)");
}
