use Rattle.std.proofs.Common.{[], ◌∷◌, codes, true, false}
use Rattle.smt_text.proofs.ExampleLemmas.{reads}
use Rattle.smt_text.specs.Grammar.{max_depth}
use Rattle.smt_text.proofs.laws.examples.faults.Goals as goal

pub returns : goal.returns
returns c = record {
  closed = reads max_depth true (codes "sat)");
  closed_later = reads max_depth true (codes "sat )");
  closed_quoted = reads max_depth true (codes "|sat|)");
  unclosed = reads max_depth true (codes "(a");
  may_close = reads max_depth false (codes "(a");
  numeral = reads max_depth true (codes "1a");
  zero = reads max_depth true (codes "01");
  point = reads max_depth true (codes "1.");
  no_fraction = reads max_depth true (codes "1.)");
  after_a_tree = reads max_depth true (codes "(a) 01");
  after_a_quoted_symbol = reads max_depth true (codes "|a|b");
  backslash = reads max_depth true (124 ∷ 97 ∷ 92 ∷ 98 ∷ 124 ∷ []);
  no_digit = reads max_depth true (codes "#xg");
  no_binary_digit = reads max_depth true (codes "#b2");
  mark_alone = reads max_depth true (codes "#x");
  mark_before_list = reads max_depth true (codes "#x(");
  colon_before_list = reads max_depth true (codes ":(");
  byte_order_mark = reads max_depth true (239 ∷ 187 ∷ 191 ∷ []);
  told_at_once = reads max_depth false (codes "01");
}
