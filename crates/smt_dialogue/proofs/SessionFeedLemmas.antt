-- Sessions: a piece of a text, or its end, was taken in.
use Rattle.std.proofs.Common.{◌≡◌, ◌<◌, ◌≤◌, ◌^◌, ℕ, ◌+◌, Bool, true, false, List, [], ◌∷◌, ◌++◌, length, None}
use Rattle.std.proofs.Common.{is_some, refl, ap, sym, ◌∙◌, subst, arith, inl, inr, length-append}
use Rattle.std.proofs.lemmas.Bool.Decides.{nat_tests}
use Rattle.std.proofs.lemmas.List.{append-nil}
use Rattle.smt_dialogue.proofs.SessionGrowthLemmas.{AreTold, as_before, end_told, piece_more}
use Rattle.smt_dialogue.proofs.SessionTurnLemmas.{limited_on, none_by}
use Rattle.std.specs.Prelude.{if◌then◌else◌, nat_eq}
use Rattle.smt_text.specs.Reader.{bytes_fed, depth_limit, is_finished}
use Rattle.smt_dialogue.specs.FirstFault.{TextSoFar}
use Rattle.smt_dialogue.specs.History.{HasGrown, HasMore, History, IsLong, Told, of_side, other_side, text_at}
use Rattle.smt_dialogue.specs.History.{with_end, with_more, with_piece, with_text}
use Rattle.smt_dialogue.specs.Depth.{max_depth_of}
use Rattle.smt_dialogue.specs.Report.{IsRead}
use Rattle.smt_dialogue.specs.Session.{AreCounted, IsCounted, StandsFor, is_answers_ended, is_ended, is_script_ended}
use Rattle.smt_dialogue.specs.SoFar.{IsBeginning}
use Rattle.smt_dialogue.specs.Internal.AcceptedState.{options_of}
use Rattle.smt_dialogue.specs.Internal.PairingView.{AreLimited, AreLimitedAlike, GoesOnWith, IsUnderWay, Texts}
use Rattle.smt_dialogue.specs.Internal.PairingView.{bytes_at, queue_at, waiting}
use Rattle.smt_dialogue.specs.Internal.PairingView.{with_read}
use Rattle.smt_dialogue.specs.Internal.SessionStep.{IsFed, IsGoingOn, TextLaws, fed_at, left_of, with_fed}
use Rattle.smt_dialogue.specs.Internal.SessionView.{GoesOn, IsOpen, IsToldText, texts_of}
use Rattle.smt_dialogue.specs.declared.pairing.Pairing.{Pairing}
use Rattle.smt_dialogue.specs.declared.session.Fed.{Fed}
use Rattle.smt_dialogue.specs.declared.session.Session.{Session}
use Rattle.smt_report.specs.declared.line.Side.{Side}
use Rattle.smt_report.specs.declared.line.Side.TheVariants.{Answers, Script}

-- ---- a piece, or an end

-- what holds of both texts holds with another on one side, once it holds of that one
by_side : {A B : Type 0} (R : A → B → Type 0) (side : Side) (x : A) (y : B) (xs xa : A) (ys ya : B)
    → R xs ys → R xa ya → R x y
    → R (of_side side x xs) (of_side side y ys) × R (of_side side xa x) (of_side side ya y)
by_side R Script x y xs xa ys ya s a new = (new, a)
by_side R Answers x y xs xa ys ya s a new = (s, new)

-- and of the one on this side
at_side : {A B : Type 0} (R : A → B → Type 0) (side : Side) (xs xa : A) (ys ya : B) → R xs ys → R xa ya
    → R (of_side side xs xa) (of_side side ys ya)
at_side R Script xs xa ys ya s a = s
at_side R Answers xs xa ys ya s a = a

pub told_piece : (side : Side) (s t : Session) (h : History) (piece : List ℕ)
    → is_script_ended t ≡ is_script_ended s → is_answers_ended t ≡ is_answers_ended s → StandsFor s h
    → AreTold t (with_piece side h piece)
told_piece Script s t h piece script answers k =
    record { script = script ∙ k.script_ended; answers = answers ∙ k.answers_ended }
told_piece Answers s t h piece script answers k =
    record { script = script ∙ k.script_ended; answers = answers ∙ k.answers_ended }

pub told_end : (side : Side) (s t : Session) (h : History)
    → is_script_ended t ≡ of_side side true (is_script_ended s)
    → is_answers_ended t ≡ of_side side (is_answers_ended s) true → StandsFor s h → AreTold t (with_end side h)
told_end Script s t h script answers k = record { script = script; answers = answers ∙ k.answers_ended }
told_end Answers s t h script answers k = record { script = script ∙ k.script_ended; answers = answers }

pub is_open : (side : Side) (s : Session) (h : History) → is_ended side s ≡ false → StandsFor s h
    → (text_at side h).ended ≡ false
is_open Script s h open' k = sym k.script_ended ∙ open'
is_open Answers s h open' k = sym k.answers_ended ∙ open'

grows_with : (side : Side) (h : History) (told : Told) → HasMore (text_at side h) told
    → HasGrown h (with_text side told h)
grows_with Script h told more = record {
  options = refl;
  script = more;
  answers = as_before h.answers.ended h.answers.bytes;
}
grows_with Answers h told more = record {
  options = refl;
  script = as_before h.script.ended h.script.bytes;
  answers = more;
}

pub piece_grows : (side : Side) (s : Session) (h : History) (piece : List ℕ) → is_ended side s ≡ false
    → StandsFor s h → HasGrown h (with_piece side h piece)
piece_grows side s h piece open' k =
    grows_with side h _ (piece_more (text_at side h).ended (text_at side h).bytes piece (is_open side s h open' k))

pub end_grows : (side : Side) (s : Session) (h : History) → is_ended side s ≡ false → StandsFor s h
    → HasGrown h (with_end side h)
end_grows side s h open' k =
    grows_with side h _ (end_told (text_at side h).ended (text_at side h).bytes (is_open side s h open' k))

long_with : (side : Side) (h : History) (told : Told) → 2 ^ 64 ≤ length told.bytes → IsLong (with_text side told h)
long_with Script h told long = inl long
long_with Answers h told long = inr long

counted_at : (side : Side) (s : Session) (h : History) → AreCounted s h
    → IsCounted (fed_at side s) (text_at side h)
counted_at side s h k = at_side IsCounted side s.script s.answers h.script h.answers k.script k.answers

pub piece_long : (side : Side) (s : Session) (h : History) (piece : List ℕ) → AreCounted s h
    → 2 ^ 64 ≤ (fed_at side s).bytes + length piece → IsLong (with_piece side h piece)
piece_long side s h piece k long =
    long_with side h _ (omega (arith, long, (counted_at side s h k).bytes, length-append (text_at side h).bytes piece))

counted_with : (side : Side) (s t : Session) (h : History) (fed : Fed) (told : Told) → t ≡ with_fed side fed s
    → AreCounted s h → IsCounted fed told → AreCounted t (with_text side told h)
counted_with side s t h fed told is k new =
    let b = by_side IsCounted side fed told s.script s.answers h.script h.answers k.script k.answers new in
    subst (λ (t' : Session). AreCounted t' (with_text side told h)) (sym is)
    (record { script = b.0; answers = b.1 })

pub piece_counted : (side : Side) (s t : Session) (h : History) (piece : List ℕ) (bytes : ℕ)
    → t ≡ with_fed side (record (fed_at side s) { bytes = bytes }) s → AreCounted s h
    → (fed_at side s).bytes + length piece < 2 ^ 64 → bytes ≡ (fed_at side s).bytes + length piece
    → AreCounted t (with_piece side h piece)
piece_counted side s t h piece bytes is k fits sum =
    let now = counted_at side s h k in
    let fed = length-append (text_at side h).bytes piece in
    counted_with side s t h _ _ is k (record {
      bytes = omega (arith, sum, now.bytes, fed);
      fits = omega (arith, fits, now.bytes, fed);
    })

pub end_counted : (side : Side) (s t : Session) (h : History)
    → t ≡ with_fed side (record (fed_at side s) { ended = true }) s → AreCounted s h
    → AreCounted t (with_end side h)
end_counted side s t h is k =
    let now = counted_at side s h k in
    counted_with side s t h _ _ is k (record { bytes = now.bytes; fits = now.fits })

same_bytes : (side : Side) (h : History) (script answers : TextSoFar)
    → bytes_at side (texts_of h script answers) ≡ (text_at side h).bytes
same_bytes Script h script answers = refl
same_bytes Answers h script answers = refl

same_texts : (side : Side) (h : History) (script answers text : TextSoFar) (told : Told)
    → with_read side told.bytes text (texts_of h script answers)
    ≡ texts_of (with_text side told h) (of_side side text script) (of_side side answers text)
same_texts Script h script answers text told = refl
same_texts Answers h script answers text told = refl

-- how deep lists may nest in the text of this side
limit_at : (side : Side) (max_depth : ℕ) (x : Pairing) → AreLimited max_depth x
    → depth_limit (queue_at side x).reader ≡ max_depth
limit_at Script max_depth x limited = limited.script
limit_at Answers max_depth x limited = limited.answers

-- the dialogue is under way with more of a text
open_with : TextLaws → (side : Side) (x y : Pairing) (h : History) (told : Told) → y.dialogue ≡ x.dialogue
    → AreLimitedAlike x y
    → ((texts : Texts) → bytes_at side texts ≡ (text_at side h).bytes
    → GoesOnWith side x y texts told.ended told.bytes)
    → IsOpen x h → IsOpen y (with_text side told h)
open_with laws side x y h told dialogue alike goes o =
    let depth = max_depth_of h.options.profile in
    let a = laws.every depth told.ended told.bytes in
    let text : TextSoFar = record { told = told.ended; trees = a.0; fault = a.1 } in
    let read : IsToldText depth told text = record { told_so = refl; reads = a.2 } in
    let both = by_side (IsToldText depth) side told text h.script h.answers o.script o.answers o.read.script_read
    o.read.answers_read read in
    let on = goes (texts_of h o.script o.answers) (same_bytes side h o.script o.answers) o.pairs o.later o.rest text
    o.way (subst (λ m. IsRead m told.ended told.bytes text) (sym (limit_at side depth x o.limits)) read) in
    record {
      script = of_side side text o.script;
      answers = of_side side o.answers text;
      read = record { script_read = both.0; answers_read = both.1 };
      pairs = o.pairs;
      later = on.0;
      rest = on.1;
      way = subst (λ ts. IsUnderWay y ts o.pairs on.0 on.1) (same_texts side h o.script o.answers text told) on.2;
      start = ap options_of dialogue ∙ o.start;
      limits = limited_on x y depth alike o.limits;
    }

pub is_under_way : (s : Session) (h : History) → s.failure ≡ None → false ≡ is_some s.summary → StandsFor s h
    → IsOpen s.exchange h
is_under_way s h none unset k =
    subst (λ f. GoesOn None f s.exchange h) none
    (subst (λ v. GoesOn v s.failure s.exchange h) (none_by s.summary unset) k.goes_on)

-- ---- more of a text, counted

-- m is s with another text on this side, and its exchange goes on to y
takes_more : TextLaws → (side : Side) (s m : Session) (y : Pairing) (h : History) (fed : Fed) (told : Told)
    → m.failure ≡ None → false ≡ is_some m.summary → m ≡ with_fed side fed s → AreTold m (with_text side told h)
    → (AreCounted s h → AreCounted m (with_text side told h)) → y.dialogue ≡ m.exchange.dialogue
    → AreLimitedAlike m.exchange y
    → ((texts : Texts) → bytes_at side texts ≡ (text_at side h).bytes
    → GoesOnWith side m.exchange y texts told.ended told.bytes)
    → StandsFor s h → IsGoingOn (record m { exchange = y }) (with_text side told h)
takes_more laws side s m y h fed told none unset is ends counts dialogue alike goes k =
    let exchange : m.exchange ≡ s.exchange = ap (λ (m' : Session). m'.exchange) is in
    let summary : m.summary ≡ s.summary = ap (λ (m' : Session). m'.summary) is in
    let failure : m.failure ≡ s.failure = ap (λ (m' : Session). m'.failure) is in
    let counted = counts (k.counted (sym failure ∙ none)) in
    record {
      failure = none;
      summary = none_by m.summary unset;
      script_ended = ends.script;
      answers_ended = ends.answers;
      counted = record { script = counted.script; answers = counted.answers };
      open' = open_with laws side m.exchange y h told dialogue alike goes
          (subst (λ x. IsOpen x h) (sym exchange)
          (is_under_way s h (sym failure ∙ none) (unset ∙ ap is_some summary) k));
    }

-- and a piece of it
pub piece_fed : TextLaws → (side : Side) (s m : Session) (y : Pairing) (h : History) (piece : List ℕ)
    (before after : ℕ) → m.failure ≡ None → false ≡ is_some m.summary → is_ended side s ≡ false
    → m ≡ with_fed side (record (fed_at side s) { bytes = after }) s → AreTold m (with_piece side h piece)
    → before ≡ (fed_at side s).bytes → (before + length piece < 2 ^ 64) × (after ≡ before + length piece)
    → y.dialogue ≡ m.exchange.dialogue → AreLimitedAlike m.exchange y
    → ((texts : Texts) → GoesOnWith side m.exchange y texts false (bytes_at side texts ++ piece))
    → StandsFor s h → IsGoingOn (record m { exchange = y }) (with_piece side h piece)
piece_fed laws side s m y h piece before after none unset open' is ends read sum dialogue alike goes k =
    let told : Told = record { bytes = (text_at side h).bytes ++ piece; ended = (text_at side h).ended } in
    takes_more laws side s m y h (record (fed_at side s) { bytes = after }) told none unset is ends
    (λ counted. piece_counted side s m h piece after is counted (omega (arith, sum.0, read))
    (omega (arith, sum.1, read))) dialogue alike
    (λ texts same. subst (λ b. GoesOnWith side m.exchange y texts b ((text_at side h).bytes ++ piece))
    (sym (is_open side s h open' k))
    (subst (λ bs. GoesOnWith side m.exchange y texts false (bs ++ piece)) same (goes texts))) k

-- or its end
pub end_fed : TextLaws → (side : Side) (s m : Session) (y : Pairing) (h : History) → m.failure ≡ None
    → false ≡ is_some m.summary → m ≡ with_fed side (record (fed_at side s) { ended = true }) s
    → AreTold m (with_end side h) → y.dialogue ≡ m.exchange.dialogue → AreLimitedAlike m.exchange y
    → ((texts : Texts) → GoesOnWith side m.exchange y texts true (bytes_at side texts))
    → StandsFor s h → IsGoingOn (record m { exchange = y }) (with_end side h)
end_fed laws side s m y h none unset is ends dialogue alike goes k =
    let told : Told = record { bytes = (text_at side h).bytes; ended = true } in
    takes_more laws side s m y h (record (fed_at side s) { ended = true }) told none unset is ends
    (end_counted side s m h is) dialogue alike
    (λ texts same. subst (λ bs. GoesOnWith side m.exchange y texts true bs) same (goes texts)) k

-- the reader of this side is open, and has read what was counted
pub is_open_front : (side : Side) (s : Session) (h : History) → IsOpen s.exchange h → is_ended side s ≡ false
    → StandsFor s h → is_finished (queue_at side s.exchange).reader ≡ false
is_open_front Script s h o open' k =
    sym o.way.script_front.told ∙ o.read.script_read.told_so ∙ sym k.script_ended ∙ open'
is_open_front Answers s h o open' k =
    sym o.way.answers_front.told ∙ o.read.answers_read.told_so ∙ sym k.answers_ended ∙ open'

pub has_read : (side : Side) (s : Session) (h : History) → IsOpen s.exchange h → AreCounted s h
    → bytes_fed (queue_at side s.exchange).reader ≡ (fed_at side s).bytes
has_read Script s h o k = o.way.script_front.stands.0 ∙ sym k.script.bytes
has_read Answers s h o k = o.way.answers_front.stands.0 ∙ sym k.answers.bytes

pub kept_same : (x y : Pairing) → y ≡ x → IsBeginning (waiting x) (waiting y)
kept_same x y same = ([], ap waiting same ∙ sym (append-nil (waiting x)))

-- the reader of this side takes more, where m has the texts of s
pub open_at : (side : Side) (s m : Session) (h : History) → m.exchange ≡ s.exchange → s.failure ≡ None
    → false ≡ is_some s.summary → is_ended side s ≡ false → StandsFor s h
    → is_finished (queue_at side m.exchange).reader ≡ false
open_at side s m h same none unset open' k =
    ap (λ x. is_finished (queue_at side x).reader) same
    ∙ is_open_front side s h (is_under_way s h none unset k) open' k

pub fed_so_far : (side : Side) (s m : Session) (h : History) → m.exchange ≡ s.exchange → s.failure ≡ None
    → false ≡ is_some s.summary → StandsFor s h
    → bytes_fed (queue_at side m.exchange).reader ≡ (fed_at side s).bytes
fed_so_far side s m h same none unset k =
    ap (λ x. bytes_fed (queue_at side x).reader) same
    ∙ has_read side s h (is_under_way s h none unset k) (k.counted none)

-- less is to come
abbrev ends_left : Bool → ℕ
ends_left b = if b then 0 else 1

one_end : (b : Bool) → b ≡ false → ends_left b ≡ 1
one_end true h = absurd (cc)
one_end false h = refl

pub left_end : (side : Side) (s m : Session) → m ≡ with_fed side (record (fed_at side s) { ended = true }) s
    → is_ended side s ≡ false → left_of m < left_of s
left_end Script s m is open' =
    subst (λ (m' : Session). left_of m' < left_of s) (sym is) (omega (arith, one_end s.script.ended open'))
left_end Answers s m is open' =
    subst (λ (m' : Session). left_of m' < left_of s) (sym is) (omega (arith, one_end s.answers.ended open'))

pub left_piece : (side : Side) (s m : Session) (bytes more : ℕ)
    → m ≡ with_fed side (record (fed_at side s) { bytes = bytes }) s → bytes ≡ (fed_at side s).bytes + more
    → bytes < 2 ^ 64 → 0 < more → left_of m < left_of s
left_piece Script s m bytes more is sum fits some =
    subst (λ (m' : Session). left_of m' < left_of s) (sym is) (omega (arith, sum, fits, some))
left_piece Answers s m bytes more is sum fits some =
    subst (λ (m' : Session). left_of m' < left_of s) (sym is) (omega (arith, sum, fits, some))

-- ---- a piece, or the end where it is empty

no_bytes : (xs : List ℕ) → length xs ≡ 0 → xs ≡ []
no_bytes [] h = refl
no_bytes (x ∷ xs) h = absurd (cc)

pub none_there : (xs : List ℕ) → true ≡ nat_eq (length xs) 0 → length xs ≡ 0
none_there [] h = refl
none_there (x ∷ xs) h = absurd (grind (arith, nat_tests, h))

pub some_there : (xs : List ℕ) → false ≡ nat_eq (length xs) 0 → 0 < length xs
some_there [] h = absurd (grind (arith, nat_tests, h))
some_there (x ∷ xs) h = omega arith

pub more_end : (side : Side) (t : Session) (h : History) (piece : List ℕ) (ended : Bool) → length piece ≡ 0
    → ended ≡ true → IsFed t (with_end side h) → IsFed t (with_more side h piece ended)
more_end side t h piece ended none is k =
    subst (λ e. IsFed t (with_more side h piece e)) (sym is)
    (subst (λ p. IsFed t (with_more side h p true)) (sym (no_bytes piece none))
    (subst (λ bs. IsFed t (with_text side (record { bytes = bs; ended = true }) h))
    (sym (append-nil (text_at side h).bytes)) k))

pub more_piece : (side : Side) (s t : Session) (h : History) (piece : List ℕ) → is_ended side t ≡ is_ended side s
    → StandsFor s h → IsFed t (with_piece side h piece) → IsFed t (with_more side h piece (is_ended side t))
more_piece Script s t h piece same k on =
    subst (λ e. IsFed t (with_more Script h piece e)) (sym (same ∙ k.script_ended)) on
more_piece Answers s t h piece same k on =
    subst (λ e. IsFed t (with_more Answers h piece e)) (sym (same ∙ k.answers_ended)) on

pub ended_now : (side : Side) (s t : Session) → is_script_ended t ≡ of_side side true (is_script_ended s)
    → is_answers_ended t ≡ of_side side (is_answers_ended s) true → is_ended side t ≡ true
ended_now Script s t script answers = script
ended_now Answers s t script answers = answers

pub other_same : (side : Side) (s t : Session) → is_script_ended t ≡ of_side side true (is_script_ended s)
    → is_answers_ended t ≡ of_side side (is_answers_ended s) true
    → is_ended (other_side side) t ≡ is_ended (other_side side) s
other_same Script s t script answers = answers
other_same Answers s t script answers = script

pub ended_same : (side : Side) (s t : Session) → is_script_ended t ≡ is_script_ended s
    → is_answers_ended t ≡ is_answers_ended s → is_ended side t ≡ is_ended side s
ended_same Script s t script answers = script
ended_same Answers s t script answers = answers
