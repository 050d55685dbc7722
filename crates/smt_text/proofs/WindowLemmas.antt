-- A window of a text: its bytes are offered, and what is read of it is read of the text.
use Rattle.std.proofs.Common.{◌≡◌, ◌≤◌, ◌+◌, ◌-◌, ℕ, List, [], ◌∷◌, length, take, drop, Some, sym, ap, ◌∙◌}
use Rattle.std.proofs.Common.{inl, inr, arith, subst, ◌++◌}
use Rattle.std.proofs.lemmas.List.{drop-drop, drop-take, length-take, length-take-le, take-take}
use Rattle.smt_text.proofs.RunLemmas.{rest_is, rest_length, rest_of}
use Rattle.smt_text.specs.Internal.LexerStates.{State, run}
use Rattle.smt_text.specs.Internal.ReaderState.{state_of, trees_in, AreMarked, GoesOn, KeepsText, Marks}
use Rattle.smt_text.specs.declared.builder.Builder.{Builder}
use Rattle.smt_text.specs.declared.builder.Ready.{Ready}
use Rattle.smt_text.specs.declared.reader.Reader.{Reader}
use Rattle.smt_trees.specs.Owned.{sexp_of, sexps_of}
use Rattle.smt_trees.specs.Sexp.{Sexps, Nil, Cons, append}
use Rattle.smt_trees.specs.Tape.{part}
use Rattle.smt_trees.specs.TapeView.{text_of, Holds}
use Rattle.smt_trees.specs.declared.tape.Tape.{Tape}

-- ## Bytes that were offered

held_within : (held bytes : List ℕ) (at mark count : ℕ) → mark + count ≤ length bytes
    → part held at (length bytes) ≡ bytes → part held (at + mark) count ≡ take count (drop mark bytes)
held_within held bytes at mark count le h =
    let behind = drop at held in
    let left = length bytes - mark in
    let all : mark + left ≡ length bytes = omega (arith, le) in
    ap (take count) (sym (drop-drop mark at held))
    ∙ sym (take-take count left (drop mark behind) (omega (arith, le)))
    ∙ ap (take count) (sym (drop-take mark left behind))
    ∙ ap (λ n. take count (drop mark (take n behind))) all
    ∙ ap (λ x. take count (drop mark x)) h

-- some of them, behind a mark
pub held_part : (tape : Tape) (at : ℕ) (text : List ℕ) (mark count : ℕ) → mark + count ≤ length text
    → Holds tape at text → Holds tape (at + mark) (take count (rest_of text mark))
held_part tape at text mark count le h =
    let rest = rest_is text mark in
    let many : length (take count (rest_of text mark)) ≡ count =
    omega (arith, length-take count (rest_of text mark), rest_length text mark, le) in
    record {
      within = omega (arith, h.within, many, le);
      same = ap (part (text_of tape) (at + mark)) many
          ∙ held_within (text_of tape) text at mark count le h.same
          ∙ ap (take count) (sym rest);
    }

-- those left, where the text stays
pub held_rest : (tape next : Tape) (at : ℕ) (text : List ℕ) (count : ℕ) → count ≤ length text
    → text_of next ≡ text_of tape → Holds tape at text → Holds next (at + count) (rest_of text count)
held_rest tape next at text count le e h =
    let part = held_part tape at text count (length text - count) (omega (arith, le)) h in
    let whole : take (length text - count) (rest_of text count) ≡ rest_of text count =
    take-take (length text - count) (length text - count) (drop count text) (omega arith) in
    let now = subst (Holds tape (at + count)) whole part in
    record {
      within = omega (arith, now.within, ap length e);
      same = ap (λ held. take (length (rest_of text count)) (drop (at + count) held)) e ∙ now.same;
    }

-- what is left behind two places
pub rest_twice : (text : List ℕ) (place count : ℕ) → rest_of (rest_of text place) count ≡ rest_of text (place + count)
rest_twice text place count =
    rest_is (rest_of text place) count ∙ ap (drop count) (rest_is text place) ∙ drop-drop count place text
    ∙ sym (rest_is text (place + count))

-- the text goes on, where it was not taken
pub held_on : (old new : Builder) (at : ℕ) (window : List ℕ) (place count : ℕ) → count ≤ length (rest_of window place)
    → KeepsText old new → (length (text_of new.list) ≡ 0 → ⊥) → Holds old.list at (rest_of window place)
    → Holds new.list (at + count) (rest_of window (place + count))
held_on old new at window place count le (inl same) some h =
    subst (Holds new.list (at + count)) (rest_twice window place count)
    (held_rest old.list new.list at (rest_of window place) count le same h)
held_on old new at window place count le (inr none) some h = absurd (some (ap length none))

-- ## A state that stays

pub goes_same : (old mid new : Reader) (text : List ℕ) (count : ℕ) → state_of new ≡ state_of mid
    → new.max_depth ≡ mid.max_depth → new.token ≡ mid.token → new.bytes ≡ mid.bytes → GoesOn old text count mid
    → GoesOn old text count new
goes_same old mid new text count s n u v h = record {
  within = h.within;
  runs = h.runs ∙ ap Some (sym s);
  limit = n ∙ h.limit;
  token = u ∙ h.token;
  bytes = v ∙ h.bytes;
}

pub marks_same : (old mid new : Reader) (text : List ℕ) → new.builder.ready ≡ mid.builder.ready → Marks old text mid
    → Marks old text new
marks_same old mid new text kept h =
    record { more = h.more; ready = ap (λ q. q.items) kept ∙ h.ready; marked = h.marked }

-- ## What is read of a window

run_wider : (max_depth : ℕ) (s end : State) (text : List ℕ) (size count : ℕ) → count ≤ size
    → run max_depth s (take count (take size text)) ≡ Some end → run max_depth s (take count text) ≡ Some end
run_wider max_depth s end text size count le e =
    ap (run max_depth s) (sym (take-take count size text le)) ∙ e

marked_wider : (max_depth : ℕ) (s : State) (text : List ℕ) (size limit : ℕ) (before : Sexps) (rs : List Ready)
    → size ≤ length text → AreMarked max_depth s (take size text) (limit - (length text - size)) before rs
    → AreMarked max_depth s text limit before rs
marked_wider max_depth s text size limit before [] le h = tt
marked_wider max_depth s text size limit before (r ∷ rs) le h =
    let count = h.0.0 in
    let at = h.0.2 in
    let long : length (take size text) ≡ size = length-take-le size text le in
    let few : count ≤ size = omega (arith, at.within, long) in (
      (
        count,
        h.0.1 ∙ omega (arith, long, few, le),
        record {
          within = omega (arith, few, le);
          end = at.end;
          runs = run_wider max_depth s at.end text size count few at.runs;
          all = at.all;
          whole = at.whole;
        },
      ),
      marked_wider max_depth s text size limit (append before (Cons (sexp_of r.tree) Nil)) rs le h.1,
    )

pub marks_wider : (old start mid new : Reader) (text : List ℕ) (size : ℕ) → size ≤ length text
    → start.builder.limit ≡ old.builder.limit - (length text - size)
    → start.max_depth ≡ old.max_depth → state_of start ≡ state_of old
    → start.builder.ready ≡ old.builder.ready → new.builder.ready ≡ mid.builder.ready
    → Marks start (take size text) mid → Marks old text new
marks_wider old start mid new text size le limit m s ready kept h = record {
  more = h.more;
  ready = ap (λ q. q.items) kept ∙ h.ready ∙ ap (λ q. q.items ++ h.more) ready;
  marked = marked_wider old.max_depth (state_of old) text size old.builder.limit
      (sexps_of (trees_in old.builder.ready.items)) h.more le
      (subst (λ q. AreMarked old.max_depth (state_of old) (take size text) (old.builder.limit - (length text - size))
      (sexps_of (trees_in q.items)) h.more) ready
      (subst (λ n. AreMarked old.max_depth (state_of old) (take size text) n
      (sexps_of (trees_in start.builder.ready.items)) h.more) limit
      (subst (λ x. AreMarked old.max_depth x (take size text) start.builder.limit
      (sexps_of (trees_in start.builder.ready.items)) h.more) s
      (subst (λ d. AreMarked d (state_of start) (take size text) start.builder.limit
      (sexps_of (trees_in start.builder.ready.items)) h.more) m h.marked))));
}
