-- What is left of a text that is at hand, as its pieces are fed and its trees are taken.
use Rattle.std.proofs.Common.{◌≡◌, ◌≤◌, ℕ, zero, suc, ◌+◌, ◌-◌, cond, Bool, true, false, ◌||◌, not, List, [], ◌∷◌}
use Rattle.std.proofs.Common.{◌++◌, Option, Some, None, MatchOption, arith, drop, is_some, length, take, refl}
use Rattle.std.proofs.Common.{ap, sym, ◌∙◌, subst}
use Rattle.std.proofs.lemmas.Bool.Decides.{nat_tests}
use Rattle.std.proofs.lemmas.List.{take-append-drop, take_all}
use Rattle.std.specs.Prelude.{IfOk, Result, Ok, Err, nat_eq}
use Rattle.smt_text.specs.Reader.{depth_limit, is_finished}
use Rattle.smt_text.specs.Reading.{Reads}
use Rattle.smt_trees.specs.Sexp.{Sexp, Sexps, Nil, Cons, append}
use Rattle.smt_trees.specs.Owned.{sexp_of}
use Rattle.smt_trees.specs.declared.owned.OwnedTree.{OwnedTree}
use Rattle.smt_faults.specs.declared.text_flaw.TextFlaw.{TextFlaw}
use Rattle.smt_dialogue.proofs.GrowthLemmas.{IsDecided, taken_stays}
use Rattle.smt_dialogue.proofs.ReadSoFarLemmas.{FaultsStay, TreesStay, grown_text}
use Rattle.smt_dialogue.proofs.ReportExists.{EveryTextReads, text}
use Rattle.smt_dialogue.proofs.ReportUnique.{OneReading}
use Rattle.smt_dialogue.proofs.TreeQueueLemmas.{ended_text}
use Rattle.smt_dialogue.proofs.TreesLemmas.{append_assoc, same_behind}
use Rattle.smt_dialogue.specs.Answers as answers
use Rattle.smt_dialogue.specs.Answers.{taken}
use Rattle.smt_dialogue.specs.FirstFault.{TextSoFar, is_over}
use Rattle.smt_dialogue.specs.Pairs.{next_of, with_answer}
use Rattle.smt_dialogue.specs.Report.{IsRead}
use Rattle.smt_dialogue.specs.SoFar.{AreGrown, IsGrown}
use Rattle.smt_dialogue.specs.Internal.AnswerView.{tree_of}
use Rattle.smt_dialogue.specs.Internal.GivenView.{HasGiven, IsLooked, IsTakenOf, taken_tree}
use Rattle.smt_dialogue.specs.Internal.NextAnswerView.{IsLeft, IsTaken, answering_view}
use Rattle.smt_dialogue.specs.Internal.TreeQueueView.{GoesOnFrom, HasQueue, IsAhead, is_wait, next_trees}
use Rattle.smt_dialogue.specs.declared.given_text.GivenText.{GivenText}
use Rattle.smt_dialogue.specs.declared.need.Need.{Need}
use Rattle.smt_dialogue.specs.declared.need.Need.TheVariants.{Nothing, Optional, Needed}
use Rattle.smt_dialogue.specs.declared.next_answer.NextAnswer.{NextAnswer}
use Rattle.smt_dialogue.specs.declared.next_answer.NextAnswer.TheVariants as found
use Rattle.smt_dialogue.specs.declared.tree_queue.Ahead.{Ahead}
use Rattle.smt_dialogue.specs.declared.tree_queue.Ahead.TheVariants as comes

-- ---- what is fed

-- what is read of the beginning of a text, and what of the whole
grown_whole : OneReading → TreesStay → FaultsStay → (depth fed : ℕ) (told : Bool) (bytes : List ℕ)
    (so_far whole : TextSoFar) → (told ≡ true → drop fed bytes ≡ []) → IsRead depth told (take fed bytes) so_far
    → IsRead depth true bytes whole → IsGrown so_far whole
grown_whole one trees faults depth fed told bytes so_far whole end' read all =
    let behind : AreGrown told (take fed bytes) true bytes = record {
      more = drop fed bytes;
      bytes_are = sym (take-append-drop fed bytes);
      none_behind = λ e. (end' e, refl);
    } in
    grown_text one trees faults depth told (take fed bytes) true bytes so_far whole behind read all

-- nothing of the text was fed
pub given_new : OneReading → TreesStay → FaultsStay → EveryTextReads → (given : GivenText) (max_depth : ℕ)
    (whole : TextSoFar) → take given.fed given.text.now ≡ [] → depth_limit given.queue.reader ≡ max_depth
    → ((so_far : TextSoFar) → IsRead max_depth false [] so_far → HasQueue given.queue [] so_far so_far.trees)
    → IsRead max_depth true given.text.now whole → HasGiven given whole whole.trees
given_new one trees faults every given max_depth whole none limit front all =
    let some = every max_depth false [] in
    let so_far = text false some.0 some.1 in
    let read : IsRead max_depth false [] so_far = record { told_so = refl; reads = some.2 } in
    let grown = grown_whole one trees faults max_depth given.fed false given.text.now so_far whole (λ e. absurd (cc))
    (subst (λ bs. IsRead max_depth false bs so_far) (sym none) read) all in
    record {
      read = subst (λ m. IsRead m true given.text.now whole) (sym limit) all;
      so_far = so_far;
      left = so_far.trees;
      queue = subst (λ bs. HasQueue given.queue bs so_far so_far.trees) (sym none) (front so_far read);
      grown = grown;
      rest_is = grown.trees;
    }

-- more of the text was fed, or its end was told
pub given_on : OneReading → TreesStay → FaultsStay → EveryTextReads → (x y : GivenText) (told : Bool)
    → y.text.now ≡ x.text.now → depth_limit y.queue.reader ≡ depth_limit x.queue.reader
    → (told ≡ true → drop y.fed x.text.now ≡ [])
    → GoesOnFrom x.queue y.queue (take x.fed x.text.now) told (take y.fed x.text.now)
    → (whole : TextSoFar) (rest : Sexps) → HasGiven x whole rest → HasGiven y whole rest
given_on one trees faults every x y told same limit end' goes whole rest h =
    let depth = depth_limit x.queue.reader in
    let bytes = take y.fed x.text.now in
    let some = every depth told bytes in
    let more = text told some.0 some.1 in
    let read : IsRead depth told bytes more = record { told_so = refl; reads = some.2 } in
    let step = goes h.so_far more h.left h.queue read in
    let all = grown_whole one trees faults depth y.fed told x.text.now more whole end' read h.read in
    let first = h.so_far.trees in
    let behind : h.grown.later ≡ append step.0.later all.later = same_behind first
    (sym h.grown.trees ∙ all.trees ∙ ap (λ ts. append ts all.later) step.0.trees
    ∙ append_assoc first step.0.later all.later) in
    record {
      read = subst (λ m. IsRead m true y.text.now whole) (sym limit)
          (subst (λ bs. IsRead depth true bs whole) (sym same) h.read);
      so_far = more;
      left = append h.left step.0.later;
      queue = subst (λ bs. HasQueue y.queue (take y.fed bs) more (append h.left step.0.later)) (sym same) step.1;
      grown = all;
      rest_is = h.rest_is ∙ ap (append h.left) behind ∙ sym (append_assoc h.left step.0.later all.later);
    }

pub take_on : (n m : ℕ) (xs : List ℕ) → take n xs ++ take m (drop n xs) ≡ take (n + m) xs
take_on zero m xs = ap (λ k. take k xs) (omega arith)
take_on (suc n) m [] = take_all m [] (omega arith) ∙ sym (take_all (suc n + m) [] (omega arith))
take_on (suc n) m (x ∷ xs) =
    let more : suc (n + m) ≡ suc n + m = omega arith in
    ap (λ ys. x ∷ ys) (take_on n m xs) ∙ ap (λ k. take k (x ∷ xs)) more

drop_length : (n : ℕ) (xs : List ℕ) → length (drop n xs) ≤ length xs - n
drop_length zero xs = omega arith
drop_length (suc n) [] = omega arith
drop_length (suc n) (x ∷ xs) = omega (arith, drop_length n xs)

-- a piece of what was not fed, behind what was
pub piece_on : (n m : ℕ) (xs : List ℕ) → take n xs ++ take m (take (length xs - n) (drop n xs)) ≡ take (n + m) xs
piece_on n m xs =
    ap (λ ys. take n xs ++ take m ys) (take_all (length xs - n) (drop n xs) (drop_length n xs)) ∙ take_on n m xs

empty_by : (ys : List ℕ) → true ≡ nat_eq (length ys) 0 → ys ≡ []
empty_by [] h = refl
empty_by (y ∷ ys) h = absurd (grind (arith, nat_tests, h))

-- nothing is left to be fed
pub all_fed : (n : ℕ) (xs : List ℕ) → true ≡ nat_eq (length (take (length xs - n) (drop n xs))) 0 → drop n xs ≡ []
all_fed n xs none = empty_by (drop n xs)
    (subst (λ ys. true ≡ nat_eq (length ys) 0) (take_all (length xs - n) (drop n xs) (drop_length n xs)) none)

-- what is fed lets the text wait
pub still_open : (ended waits : Bool) → ended || not waits ≡ false → ended ≡ false
still_open true waits h = absurd (cc)
still_open false waits h = refl

-- ---- what comes next

-- the queue alone has changed, and stands for the same
pub given_alike : (x y : GivenText) → y.text.now ≡ x.text.now → y.fed ≡ x.fed
    → depth_limit y.queue.reader ≡ depth_limit x.queue.reader
    → (whole : TextSoFar) (rest : Sexps) → (h : HasGiven x whole rest)
    → HasQueue y.queue (take x.fed x.text.now) h.so_far h.left → HasGiven y whole rest
given_alike x y same fed limit whole rest h queue = record {
  read = subst (λ m. IsRead m true y.text.now whole) (sym limit)
      (subst (λ bs. IsRead (depth_limit x.queue.reader) true bs whole) (sym same) h.read);
  so_far = h.so_far;
  left = h.left;
  queue = subst (λ n. HasQueue y.queue (take n y.text.now) h.so_far h.left) (sym fed)
      (subst (λ bs. HasQueue y.queue (take x.fed bs) h.so_far h.left) (sym same) queue);
  grown = h.grown;
  rest_is = h.rest_is;
}

over_by : (ahead : Ahead) (ended : Bool) (next : Option OwnedTree) (so_far : TextSoFar) (left : Sexps)
    → ended || not (is_wait ahead) ≡ true → so_far.told ≡ ended → IsAhead ahead next so_far left → left ≡ Nil
    → is_over so_far ≡ true
over_by comes.Tree ended next so_far left stops told h none =
    absurd (let e = sym none ∙ h.3 in cc)
over_by comes.Wait true next so_far left stops told h none = ended_text so_far told
over_by comes.Wait false next so_far left stops told h none = absurd (cc)
over_by (comes.End fault) ended next so_far left stops told h none = h.2

-- it was looked at, and the text is over where no tree comes
pub given_looked : (x y : GivenText) (ahead : Ahead) → y.text.now ≡ x.text.now → y.fed ≡ x.fed
    → depth_limit y.queue.reader ≡ depth_limit x.queue.reader → is_finished x.queue.reader ≡ x.ended
    → x.ended || not (is_wait ahead) ≡ true → (whole : TextSoFar) (rest : Sexps) → (h : HasGiven x whole rest)
    → HasQueue y.queue (take x.fed x.text.now) h.so_far h.left × IsAhead ahead y.queue.next h.so_far h.left
    → IsLooked ahead y whole rest
unfolding given_alike
given_looked x y ahead same fed limit finished stops whole rest h looked = record {
  given_is = given_alike x y same fed limit whole rest h looked.0;
  ahead_is = looked.1;
  over = λ none. over_by ahead x.ended y.queue.next h.so_far h.left stops (h.queue.told ∙ finished) looked.1 none;
}

-- ---- what is taken

first_taken : (next : OwnedTree) (tree : Sexp) (later behind more : Sexps)
    → Cons tree later ≡ append (Cons (sexp_of next) behind) more → later ≡ append behind more
first_taken next tree later behind more h = cc

begins_with : (o : Option OwnedTree) (t : OwnedTree) (left behind : Sexps) → o ≡ Some t
    → left ≡ append (next_trees o) behind → left ≡ Cons (sexp_of t) behind
begins_with o t left behind is h = h ∙ ap (λ n. append (next_trees n) behind) is

-- the tree that came next was taken
pub given_taken : (x y : GivenText) (t : OwnedTree) → y.text.now ≡ x.text.now → y.fed ≡ x.fed
    → depth_limit y.queue.reader ≡ depth_limit x.queue.reader → x.queue.next ≡ Some t
    → ((bytes : List ℕ) (so_far : TextSoFar) (later : Sexps) → HasQueue x.queue bytes so_far (Cons (sexp_of t) later)
    → HasQueue y.queue bytes so_far later)
    → (whole : TextSoFar) (later : Sexps) → HasGiven x whole (Cons (sexp_of t) later) → HasGiven y whole later
given_taken x y t same fed limit is goes whole later h =
    let behind = h.queue.behind in
    let left_is = begins_with x.queue.next t h.left behind is h.queue.begins in
    record {
      read = subst (λ m. IsRead m true y.text.now whole) (sym limit)
          (subst (λ bs. IsRead (depth_limit x.queue.reader) true bs whole) (sym same) h.read);
      so_far = h.so_far;
      left = behind;
      queue = subst (λ n. HasQueue y.queue (take n y.text.now) h.so_far behind) (sym fed)
          (subst (λ bs. HasQueue y.queue (take x.fed bs) h.so_far behind) (sym same)
          (goes (take x.fed x.text.now) h.so_far behind
          (subst (HasQueue x.queue (take x.fed x.text.now) h.so_far) left_is h.queue)));
      grown = h.grown;
      rest_is = first_taken t (sexp_of t) later behind h.grown.later
          (h.rest_is ∙ ap (λ ts. append ts h.grown.later) left_is);
    }

pub given_matches : (x y : GivenText) (o : Option OwnedTree) → y.text.now ≡ x.text.now → y.fed ≡ x.fed
    → depth_limit y.queue.reader ≡ depth_limit x.queue.reader
    → MatchOption o (x.queue.next ≡ None) (λ tree. (x.queue.next ≡ Some tree)
    × ((bytes : List ℕ) (so_far : TextSoFar) (later : Sexps)
    → HasQueue x.queue bytes so_far (Cons (sexp_of tree) later) → HasQueue y.queue bytes so_far later))
    → MatchOption o (x.queue.next ≡ None) (λ tree. (x.queue.next ≡ Some tree)
    × ((whole : TextSoFar) (later : Sexps) → HasGiven x whole (Cons (sexp_of tree) later) → HasGiven y whole later))
given_matches x y None same fed limit h = h
given_matches x y (Some t) same fed limit h = (h.0, given_taken x y t same fed limit h.0 h.1)

-- ---- the answer of a command

waits_only : (over : Bool) (need : Need) (next : Option Sexp) → taken over need next ≡ answers.Waits → over ≡ false
waits_only over Nothing next h = absurd (cc)
waits_only true (Optional form) None h = absurd (cc)
waits_only false (Optional form) None h = refl
waits_only over (Optional form) (Some a) h = by (answers.has_form form a) h
  where
    by : (b : Bool) → cond b (answers.Takes (Some a)) (answers.Takes None) ≡ answers.Waits → over ≡ false
    by true e = absurd (cc)
    by false e = absurd (cc)
waits_only true (Needed form) None h = absurd (cc)
waits_only false (Needed form) None h = refl
waits_only over (Needed form) (Some a) h = by (answers.has_form form a) h
  where
    by : (b : Bool) → cond b (answers.Takes (Some a)) answers.Unexpected ≡ answers.Waits → over ≡ false
    by true e = absurd (cc)
    by false e = absurd (cc)

some_never : (over : Bool) (need : Need) (a : Sexp) → taken over need (Some a) ≡ answers.Waits → ⊥
some_never over Nothing a h = absurd (cc)
some_never over (Optional form) a h = by (answers.has_form form a) h
  where
    by : (b : Bool) → cond b (answers.Takes (Some a)) (answers.Takes None) ≡ answers.Waits → ⊥
    by true e = absurd (cc)
    by false e = absurd (cc)
some_never over (Needed form) a h = by (answers.has_form form a) h
  where
    by : (b : Bool) → cond b (answers.Takes (Some a)) answers.Unexpected ≡ answers.Waits → ⊥
    by true e = absurd (cc)
    by false e = absurd (cc)

pub never_waits : (over : Bool) (need : Need) (left : Sexps) → (left ≡ Nil → over ≡ true)
    → taken over need (next_of left) ≡ answers.Waits → ⊥
never_waits over need Nil ends h = let e = sym (ends refl) ∙ waits_only over need None h in absurd (cc)
never_waits over need (Cons a left) ends h = some_never over need a h

decided_so : (k : answers.Taken) → (k ≡ answers.Waits → ⊥) → IsDecided k
decided_so (answers.Takes o) never = tt
decided_so answers.Waits never = never refl
decided_so answers.Missing never = tt
decided_so answers.Unexpected never = tt

left_same : (f : NextAnswer) (so_far : TextSoFar) (before after : Sexps) → IsLeft f so_far before after
    → before ≡ with_answer (taken_tree f) after
left_same (found.Takes o) so_far before after h = h
left_same found.Waits so_far before after h = h
left_same (found.Missing fault) so_far before after h = h.0
left_same found.Unexpected so_far before after h = h

with_behind : (o : Option Sexp) (left more : Sexps) → append (with_answer o left) more ≡ with_answer o (append left more)
with_behind None left more = refl
with_behind (Some a) left more = refl

over_whole : (told : Bool) (fault : Option TextFlaw) → told ≡ true → told || is_some fault ≡ true
over_whole true fault h = refl
over_whole false fault h = absurd (cc)

-- what is taken of what was fed, once it was looked at, is what is taken of the whole text
pub given_answer : (x y : GivenText) (ahead : Ahead) (f : NextAnswer) (need : Need) → y.text.now ≡ x.text.now
    → y.fed ≡ x.fed → depth_limit y.queue.reader ≡ depth_limit x.queue.reader
    → (whole : TextSoFar) (rest : Sexps) → (h : IsLooked ahead x whole rest)
    → IsTaken f need h.given_is.so_far h.given_is.left (take x.fed x.text.now) y.queue
    → IsTakenOf f need whole rest y
given_answer x y ahead f need same fed limit whole rest h t =
    let g = h.given_is in
    let over = over_whole whole.told whole.fault g.read.told_so in
    let stays = taken_stays (is_over g.so_far) (is_over whole) need g.left g.grown.later (answering_view f)
    (λ e. ((g.grown.over e).0, over))
    (decided_so (answering_view f) (λ e. never_waits (is_over g.so_far) need g.left h.over (sym t.taken_so ∙ e)))
    (sym t.taken_so) in
    record {
      left = append t.left g.grown.later;
      given_is = record {
        read = subst (λ m. IsRead m true y.text.now whole) (sym limit)
            (subst (λ bs. IsRead (depth_limit x.queue.reader) true bs whole) (sym same) g.read);
        so_far = g.so_far;
        left = t.left;
        queue = subst (λ n. HasQueue y.queue (take n y.text.now) g.so_far t.left) (sym fed)
            (subst (λ bs. HasQueue y.queue (take x.fed bs) g.so_far t.left) (sym same) t.front_is);
        grown = g.grown;
        rest_is = refl;
      };
      taken_so = sym stays ∙ ap (λ r. taken (is_over whole) need (next_of r)) (sym g.rest_is);
      left_is = g.rest_is ∙ ap (λ ts. append ts g.grown.later) (left_same f g.so_far g.left t.left t.left_is)
          ∙ with_behind (taken_tree f) t.left g.grown.later;
    }

-- a command that needs nothing takes nothing
pub given_nothing : (given : GivenText) (whole : TextSoFar) (rest : Sexps) → HasGiven given whole rest
    → IsTakenOf (found.Takes None) Nothing whole rest given
given_nothing given whole rest h = record { left = rest; given_is = h; taken_so = refl; left_is = refl }

-- the same where it may be refused
pub taken_by : {E : Type 0} (x y : GivenText) (r : Result NextAnswer E) (ahead : Ahead) (need : Need) (old : GivenText)
    → y.text.now ≡ x.text.now → y.fed ≡ x.fed → depth_limit y.queue.reader ≡ depth_limit x.queue.reader
    → ((whole : TextSoFar) (rest : Sexps) → HasGiven old whole rest → IsLooked ahead x whole rest)
    → IfOk r (λ f. (bytes : List ℕ) (so_far : TextSoFar) (left : Sexps) → HasQueue x.queue bytes so_far left
    → IsTaken f need so_far left bytes y.queue)
    → IfOk r (λ f. (whole : TextSoFar) (rest : Sexps) → HasGiven old whole rest → IsTakenOf f need whole rest y)
taken_by x y (Ok f) ahead need old same fed limit looks takes = λ whole rest g.
    let h = looks whole rest g in
    given_answer x y ahead f need same fed limit whole rest h
    (takes (take x.fed x.text.now) h.given_is.so_far h.given_is.left h.given_is.queue)
taken_by x y (Err e) ahead need old same fed limit looks takes = tt
