-- What a command takes of the answers so far.
use Rattle.std.proofs.Common.{◌≡◌, ℕ, Bool, true, false, cond, List, Option, Some, None, refl, ap, sym, ◌∙◌}
use Rattle.smt_trees.specs.Sexp.{Sexp, Sexps, Nil, Cons}
use Rattle.smt_trees.specs.Owned.{sexp_of}
use Rattle.smt_trees.specs.declared.owned.OwnedTree.{OwnedTree}
use Rattle.smt_faults.specs.declared.text_flaw.TextFlaw.{TextFlaw}
use Rattle.smt_dialogue.specs.Answers as answers
use Rattle.smt_dialogue.specs.Answers.{has_form, taken}
use Rattle.smt_dialogue.specs.FirstFault.{TextSoFar, is_over}
use Rattle.smt_dialogue.specs.Pairs.{next_of}
use Rattle.smt_dialogue.specs.Internal.AnswerView.{tree_of}
use Rattle.smt_dialogue.specs.Internal.NextAnswerView.{IsFound, IsTaken}
use Rattle.smt_dialogue.specs.Internal.TreeQueueView.{HasQueue, IsAhead}
use Rattle.smt_dialogue.specs.declared.need.AnswerForm.{AnswerForm}
use Rattle.smt_dialogue.specs.declared.need.Need.{Need}
use Rattle.smt_dialogue.specs.declared.need.Need.TheVariants.{Nothing, Optional, Needed}
use Rattle.smt_dialogue.specs.declared.answer.TakenAnswer.{TakenAnswer}
use Rattle.smt_dialogue.specs.declared.next_answer.NextAnswer.TheVariants as found
use Rattle.smt_dialogue.specs.declared.tree_queue.Ahead.TheVariants as comes
use Rattle.smt_dialogue.specs.declared.tree_queue.TreeQueue.{TreeQueue}

-- ---- an answer that has the form, or hasn't

optional_yes : (over : Bool) (form : AnswerForm) (a : Sexp) → has_form form a ≡ true
    → answers.Takes (Some a) ≡ taken over (Optional form) (Some a)
optional_yes over form a h = sym (ap (λ b. cond b (answers.Takes (Some a)) (answers.Takes None)) h)

optional_no : (over : Bool) (form : AnswerForm) (a : Sexp) → has_form form a ≡ false
    → answers.Takes None ≡ taken over (Optional form) (Some a)
optional_no over form a h = sym (ap (λ b. cond b (answers.Takes (Some a)) (answers.Takes None)) h)

needed_yes : (over : Bool) (form : AnswerForm) (a : Sexp) → has_form form a ≡ true
    → answers.Takes (Some a) ≡ taken over (Needed form) (Some a)
needed_yes over form a h = sym (ap (λ b. cond b (answers.Takes (Some a)) answers.Unexpected) h)

needed_no : (over : Bool) (form : AnswerForm) (a : Sexp) → has_form form a ≡ false
    → answers.Unexpected ≡ taken over (Needed form) (Some a)
needed_no over form a h = sym (ap (λ b. cond b (answers.Takes (Some a)) answers.Unexpected) h)

some_same : {a b : OwnedTree} → ◌≡◌ {A = Option OwnedTree} (Some a) (Some b) → a ≡ b
some_same h = cc

-- the answer that stood ready is the first of those that are left
first_is : (next : Option OwnedTree) (tree other : OwnedTree) (rest later : Sexps) → next ≡ Some other
    → next ≡ Some tree
    → rest ≡ Cons (sexp_of other) later → rest ≡ Cons (sexp_of tree) later
first_is next tree other rest later is same h =
    h ∙ ap (λ t. Cons (sexp_of t) later) (some_same (sym is ∙ same))

-- ---- what is taken

pub nothing_taken : (text : TextSoFar) (rest : Sexps) (bytes : List ℕ) (front : TreeQueue)
    → HasQueue front bytes text rest → IsTaken (found.Takes None) Nothing text rest bytes front
nothing_taken text rest bytes front h = record { left = rest; front_is = h; taken_so = refl; left_is = refl }

pub optional_ready : (form : AnswerForm) (o : Option TakenAnswer) (next : Option OwnedTree) (text : TextSoFar)
    (rest : Sexps)
    (bytes : List ℕ) (front : TreeQueue) → IsAhead comes.Tree next text rest → IsFound form o next text rest bytes front
    → IsTaken (found.Takes o) (Optional form) text rest bytes front
optional_ready form (Some answer) next text rest bytes front ahead h =
    let first = first_is next answer.tree ahead.0 rest ahead.1 ahead.2 h.0 ahead.3 in
    record {
      left = ahead.1;
      front_is = h.2 ahead.1 first;
      taken_so = optional_yes (is_over text) form (tree_of answer) h.1
          ∙ ap (λ r. taken (is_over text) (Optional form) (next_of r)) (sym first);
      left_is = first;
    }
optional_ready form None next text rest bytes front ahead h = record {
  left = rest;
  front_is = h.1;
  taken_so = optional_no (is_over text) form (sexp_of ahead.0) (h.0 ahead.0 ahead.2)
      ∙ ap (λ r. taken (is_over text) (Optional form) (next_of r)) (sym ahead.3);
  left_is = refl;
}

pub needed_taken : (form : AnswerForm) (answer : TakenAnswer) (next : Option OwnedTree) (text : TextSoFar)
    (rest : Sexps)
    (bytes : List ℕ) (front : TreeQueue) → IsAhead comes.Tree next text rest
    → IsFound form (Some answer) next text rest bytes front
    → IsTaken (found.Takes (Some answer)) (Needed form) text rest bytes front
needed_taken form answer next text rest bytes front ahead h =
    let first = first_is next answer.tree ahead.0 rest ahead.1 ahead.2 h.0 ahead.3 in
    record {
      left = ahead.1;
      front_is = h.2 ahead.1 first;
      taken_so = needed_yes (is_over text) form (tree_of answer) h.1
          ∙ ap (λ r. taken (is_over text) (Needed form) (next_of r)) (sym first);
      left_is = first;
    }

pub needed_unfit : (form : AnswerForm) (next : Option OwnedTree) (text : TextSoFar) (rest : Sexps)
    (bytes : List ℕ) (front : TreeQueue) → IsAhead comes.Tree next text rest
    → IsFound form None next text rest bytes front
    → IsTaken found.Unexpected (Needed form) text rest bytes front
needed_unfit form next text rest bytes front ahead h = record {
  left = rest;
  front_is = h.1;
  taken_so = needed_no (is_over text) form (sexp_of ahead.0) (h.0 ahead.0 ahead.2)
      ∙ ap (λ r. taken (is_over text) (Needed form) (next_of r)) (sym ahead.3);
  left_is = refl;
}

-- ---- where no answer stands ready

at_none : (need : Need) (text : TextSoFar) (rest : Sexps) (over : Bool) (k : answers.Taken) → rest ≡ Nil
    → is_over text ≡ over → k ≡ taken over need None → k ≡ taken (is_over text) need (next_of rest)
at_none need text rest over k none is h =
    h ∙ ap (λ b. taken b need None) (sym is) ∙ ap (λ r. taken (is_over text) need (next_of r)) (sym none)

pub optional_waits : (form : AnswerForm) (next : Option OwnedTree) (text : TextSoFar) (rest : Sexps) (bytes : List ℕ)
    (front : TreeQueue) → IsAhead comes.Wait next text rest → HasQueue front bytes text rest
    → IsTaken found.Waits (Optional form) text rest bytes front
optional_waits form next text rest bytes front ahead h = record {
  left = rest;
  front_is = h;
  taken_so = at_none (Optional form) text rest false answers.Waits ahead.0 ahead.1 refl;
  left_is = refl;
}

pub needed_waits : (form : AnswerForm) (next : Option OwnedTree) (text : TextSoFar) (rest : Sexps) (bytes : List ℕ)
    (front : TreeQueue) → IsAhead comes.Wait next text rest → HasQueue front bytes text rest
    → IsTaken found.Waits (Needed form) text rest bytes front
needed_waits form next text rest bytes front ahead h = record {
  left = rest;
  front_is = h;
  taken_so = at_none (Needed form) text rest false answers.Waits ahead.0 ahead.1 refl;
  left_is = refl;
}

pub optional_ended : (form : AnswerForm) (fault : Option TextFlaw) (next : Option OwnedTree) (text : TextSoFar)
    (rest : Sexps) (bytes : List ℕ) (front : TreeQueue) → IsAhead (comes.End fault) next text rest
    → HasQueue front bytes text rest → IsTaken (found.Takes None) (Optional form) text rest bytes front
optional_ended form fault next text rest bytes front ahead h = record {
  left = rest;
  front_is = h;
  taken_so = at_none (Optional form) text rest true (answers.Takes None) ahead.0 ahead.2 refl;
  left_is = refl;
}

pub needed_missing : (form : AnswerForm) (fault : Option TextFlaw) (next : Option OwnedTree) (text : TextSoFar)
    (rest : Sexps) (bytes : List ℕ) (front : TreeQueue) → IsAhead (comes.End fault) next text rest
    → HasQueue front bytes text rest → IsTaken (found.Missing fault) (Needed form) text rest bytes front
needed_missing form fault next text rest bytes front ahead h = record {
  left = rest;
  front_is = h;
  taken_so = at_none (Needed form) text rest true answers.Missing ahead.0 ahead.2 refl;
  left_is = (refl, sym ahead.1);
}
