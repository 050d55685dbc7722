use Rattle.std.proofs.Common.{[], ◌∷◌, ◌++◌, codes, true, false}
use Rattle.smt_text.proofs.ExampleLemmas.{reads}
use Rattle.smt_text.specs.Grammar.{max_depth}
use Rattle.smt_text.proofs.laws.examples.comments.Goals as goal

pub returns : goal.returns
returns c = record {
  ends_with_text = reads max_depth true (codes "a ; b");
  after_atom = reads max_depth true (codes "a;b");
  line_feed = reads max_depth true (codes "a;" ++ 10 ∷ 98 ∷ []);
  carriage_return = reads max_depth true (codes "a;" ++ 13 ∷ 98 ∷ []);
  any_byte = reads max_depth true (59 ∷ 0 ∷ 127 ∷ 255 ∷ 10 ∷ []);
  closes_nothing = reads max_depth true (codes "(a ;)");
  ends_an_atom = reads max_depth false (codes "a;");
}
