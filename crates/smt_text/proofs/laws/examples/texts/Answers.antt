use Rattle.std.proofs.Common.{[], ◌∷◌, true, false}
use Rattle.smt_text.proofs.ExampleLemmas.{reads}
use Rattle.smt_text.proofs.ReadingLemmas.{one_forest}
use Rattle.smt_text.specs.Grammar.{max_depth}
use Rattle.smt_text.proofs.laws.examples.texts.Goals as goal

pub returns : goal.returns
returns c = record {
  empty = reads max_depth true (34 ∷ 34 ∷ []);
  one_quote = reads max_depth true (34 ∷ 97 ∷ 34 ∷ 34 ∷ 98 ∷ 34 ∷ []);
  no_two = λ h. let e = one_forest max_depth max_depth (34 ∷ 97 ∷ 34 ∷ 34 ∷ 98 ∷ 34 ∷ []) _ _
      (reads max_depth true (34 ∷ 97 ∷ 34 ∷ 34 ∷ 98 ∷ 34 ∷ [])) h in cc;
  any_encoding = reads max_depth true (34 ∷ 92 ∷ 195 ∷ 164 ∷ 10 ∷ 34 ∷ []);
  delete = reads max_depth true (34 ∷ 127 ∷ 34 ∷ []);
  neighbour = reads max_depth true (34 ∷ 97 ∷ 34 ∷ 98 ∷ []);
  open_end = reads max_depth true (34 ∷ 97 ∷ []);
  may_be_first_of_two = reads max_depth false (34 ∷ 97 ∷ 34 ∷ []);
  complete = reads max_depth false (34 ∷ 97 ∷ 34 ∷ 32 ∷ []);
}
