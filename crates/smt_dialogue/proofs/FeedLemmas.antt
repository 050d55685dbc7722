-- An exchange goes on as more of a text comes, or its end is told.
use Rattle.std.proofs.Common.{true, ◌||◌, is_some, ◌≡◌, ℕ, Bool, false, List, Option, Some, None, refl, ap, sym, ◌∙◌}
use Rattle.std.proofs.Common.{subst}
use Rattle.smt_script.specs.StackView.{profile_of, start_of}
use Rattle.smt_text.specs.Reader as readers
use Rattle.smt_text.specs.Reader.{depth_limit, is_finished}
use Rattle.smt_text.specs.Reading.{Reads}
use Rattle.smt_text.specs.declared.reader.Reader.{Reader}
use Rattle.smt_trees.specs.Sexp.{Sexps, Nil, append}
use Rattle.smt_trees.specs.declared.owned.OwnedTree.{OwnedTree}
use Rattle.smt_dialogue.proofs.SoFarLemmas.{paired_more}
use Rattle.smt_dialogue.proofs.TreesLemmas.{append_assoc, append_nil}
use Rattle.smt_dialogue.specs.FirstFault.{TextSoFar, is_over}
use Rattle.smt_dialogue.specs.History.{of_side}
use Rattle.smt_dialogue.specs.Pairs.{Pair}
use Rattle.smt_dialogue.specs.Report.{ArePaired, IsRead}
use Rattle.smt_dialogue.specs.SoFar.{IsGrown}
use Rattle.smt_dialogue.specs.Internal.AcceptedState.{Fits, state_behind}
use Rattle.smt_dialogue.specs.Internal.PairingView.{GoesOnWith, IsClosing, IsInTurn, IsUnderWay, Texts, bytes_at}
use Rattle.smt_dialogue.specs.Internal.PairingView.{queue_at, with_read}
use Rattle.smt_dialogue.specs.Internal.TreeQueueView.{GoesOnFrom, HasQueue, next_trees}
use Rattle.smt_dialogue.specs.declared.pairing.Pairing.{Pairing}
use Rattle.smt_dialogue.specs.declared.tree_queue.TreeQueue.{TreeQueue}
use Rattle.smt_report.specs.declared.line.Side.{Side}
use Rattle.smt_report.specs.declared.line.Side.TheVariants.{Answers, Script}
use Rattle.smt_theory.specs.declared.profile.Profile.{Profile}

-- a text that did not grow
abbrev pub no_more : (text : TextSoFar) → IsGrown text text
no_more text = record {
  later = Nil;
  trees = sym (append_nil text.trees);
  over = λ over. (refl, refl);
  told = λ told. told;
}

-- what is left of a text with more of it
pub front_more : (f g : TreeQueue) (bytes more_bytes : List ℕ) (text grown : TextSoFar) (rest : Sexps)
    (s : IsGrown text grown) → g.next ≡ f.next → depth_limit g.reader ≡ depth_limit f.reader
    → ((taken : Sexps) → readers.StandsFor f.reader bytes taken → readers.StandsFor g.reader more_bytes taken)
    → IsRead (depth_limit f.reader) (is_finished g.reader) more_bytes grown
    → HasQueue f bytes text rest → HasQueue g more_bytes grown (append rest s.later)
front_more f g bytes more_bytes text grown rest s same limit stands read h = record {
  taken = h.taken;
  stands = subst (λ o. readers.StandsFor g.reader more_bytes (append h.taken (next_trees o))) (sym same)
      (stands (append h.taken (next_trees f.next)) h.stands);
  told = read.told_so;
  reads = subst (λ m. Reads m grown.told more_bytes grown.trees grown.fault) (sym limit)
      (subst (λ b. Reads (depth_limit f.reader) b more_bytes grown.trees grown.fault) (sym read.told_so) read.reads);
  trees = s.trees ∙ ap (λ ts. append ts s.later) h.trees ∙ append_assoc h.taken rest s.later;
  behind = append h.behind s.later;
  begins = ap (λ ts. append ts s.later) h.begins ∙ append_assoc (next_trees f.next) h.behind s.later
      ∙ ap (λ o. append (next_trees o) (append h.behind s.later)) (sym same);
}

in_turn_more : (profile : Profile) (o : Option OwnedTree) (pairs : List Pair) (later left more : Sexps)
    → IsInTurn profile o pairs later left
    → IsInTurn profile o pairs (append later more) (append left more)
in_turn_more profile None pairs later left more h = ap (λ ts. append ts more) h
in_turn_more profile (Some c) pairs later left more h = (h.0, ap (λ ts. append ts more) h.1, h.2, h.3)

over_told : (text : TextSoFar) → text.told ≡ true → is_over text ≡ true
over_told text told = ap (λ b. b || is_some text.fault) told

closing_more : (profile : Profile) (o : Option OwnedTree) (texts grown : Texts) (later : Sexps)
    (s : IsGrown texts.script grown.script)
    → IsClosing profile o texts later → IsClosing profile o grown (append later s.later)
closing_more profile (Some t) texts grown later s h = h
closing_more profile None texts grown later s h =
    let over = s.over (over_told texts.script h.2) in
    (ap (λ ts. append ts s.later) h.0 ∙ over.0, over.1 ∙ h.1, s.told h.2)

-- both texts have more, or one of them
both_more : (x y : Pairing) (texts grown : Texts) (pairs : List Pair) (later rest : Sexps)
    → grown.taken ≡ texts.taken → y.dialogue ≡ x.dialogue → y.command ≡ x.command
    → (h : IsUnderWay x texts pairs later rest)
    → (s : IsGrown texts.script grown.script) → (a : IsGrown texts.answers grown.answers)
    → HasQueue y.script grown.script_bytes grown.script (append h.left s.later)
    → HasQueue y.answers grown.answers_bytes grown.answers (append rest a.later)
    → IsUnderWay y grown pairs (append later s.later) (append rest a.later)
both_more x y texts grown pairs later rest taken dialogue command h s a script_front answers_front = record {
  left = append h.left s.later;
  in_turn = subst (λ d. IsInTurn (profile_of d.stack) y.command pairs (append later s.later)
      (append h.left s.later)) (sym dialogue)
      (subst (λ o. IsInTurn (profile_of x.dialogue.stack) o pairs (append later s.later) (append h.left s.later))
      (sym command)
      (in_turn_more (profile_of x.dialogue.stack) x.command pairs later h.left s.later h.in_turn));
  script_front = script_front;
  answers_front = answers_front;
  early = h.early;
  stands = subst (λ ls. Fits h.early (state_behind ls y.dialogue) pairs) (sym taken)
      (subst (λ d. Fits h.early (state_behind texts.taken d) pairs) (sym dialogue) h.stands);
  closing = λ e. subst (λ d. IsClosing (profile_of d.stack) y.command grown (append later s.later)) (sym dialogue)
      (subst (λ o. IsClosing (profile_of x.dialogue.stack) o grown (append later s.later)) (sym command)
      (closing_more (profile_of x.dialogue.stack) x.command texts grown later s (h.closing e)));
  paired = subst (λ d. ArePaired (start_of d.stack) grown.script grown.answers pairs
      (append later s.later) (append rest a.later)) (sym dialogue)
      (paired_more (start_of x.dialogue.stack) texts.script texts.answers grown.script grown.answers
      pairs later rest s a h.paired);
}

front_same : (f g : TreeQueue) (bytes : List ℕ) (text : TextSoFar) (rest : Sexps) → g ≡ f → HasQueue f bytes text rest
    → HasQueue g bytes text (append rest Nil)
front_same f g bytes text rest same h =
    subst (HasQueue g bytes text) (sym (append_nil rest)) (subst (λ f'. HasQueue f' bytes text rest) (sym same) h)

-- the text of this side has more, and the other stays
pub goes_on_with : (side : Side) (x y : Pairing) (texts : Texts) (told : Bool) (bytes : List ℕ)
    → y.dialogue ≡ x.dialogue → y.command ≡ x.command
    → of_side side y.answers y.script ≡ of_side side x.answers x.script
    → GoesOnFrom (queue_at side x) (queue_at side y) (bytes_at side texts) told bytes
    → GoesOnWith side x y texts told bytes
goes_on_with Script x y texts told bytes dialogue command same goes = λ pairs later rest text h read.
    let f = goes texts.script text h.left h.script_front read in (
      append later f.0.later,
      append rest Nil,
      both_more x y texts (with_read Script bytes text texts) pairs later rest refl dialogue command h f.0
          (no_more texts.answers) f.1
          (front_same x.answers y.answers texts.answers_bytes texts.answers rest same h.answers_front),
    )
goes_on_with Answers x y texts told bytes dialogue command same goes = λ pairs later rest text h read.
    let f = goes texts.answers text rest h.answers_front read in (
      append later Nil,
      append rest f.0.later,
      both_more x y texts (with_read Answers bytes text texts) pairs later rest refl dialogue command h
          (no_more texts.script) f.0
          (front_same x.script y.script texts.script_bytes texts.script h.left same h.script_front) f.1,
    )

-- what is read of a text whose end was not told
pub read_open : (f : TreeQueue) (bytes : List ℕ) (text : TextSoFar) (rest : Sexps) → is_finished f.reader ≡ false
    → HasQueue f bytes text rest → IsRead (depth_limit f.reader) false bytes text
read_open f bytes text rest open' h =
    let told : text.told ≡ false = h.told ∙ open' in
    record {
      told_so = told;
      reads = subst (λ b. Reads (depth_limit f.reader) b bytes text.trees text.fault) told h.reads;
    }

pub read_now : (max_depth : ℕ) (reader : Reader) (told : Bool) (bytes : List ℕ) (text : TextSoFar)
    → is_finished reader ≡ told → IsRead max_depth told bytes text → IsRead max_depth (is_finished reader) bytes text
read_now max_depth reader told bytes text is read = subst (λ b. IsRead max_depth b bytes text) (sym is) read
