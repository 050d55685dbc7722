-- Several bytes at once.
use Rattle.std.proofs.Common.{◌≡◌, ◌+◌, ◌-◌, ◌<◌, ◌≤◌, ℕ, zero, suc, List, [], ◌∷◌, ◌++◌, length, take, drop}
use Rattle.std.proofs.Common.{get_or, Some, None, Err, true, refl, sym, ap, ◌∙◌, arith, subst, ◌⊎◌, inl, inr}
use Rattle.std.proofs.lemmas.Bool.{cases_lt}
use Rattle.std.proofs.Math.Seq.{take-add}
use Rattle.std.proofs.lemmas.List.{append-nil, append_assoc, take_more, take_all, get_or-drop, length-drop}
use Rattle.smt_text.proofs.BuilderLemmas.{end_taken}
use Rattle.smt_text.proofs.ByteLemmas.{white_ends, white_separates}
use Rattle.smt_text.proofs.ReaderCompleteness.{step-at, run-push, run-cons, run-append}
use Rattle.smt_text.specs.Lexical.{ends_token, is_white}
use Rattle.smt_text.specs.Internal.LexerStates.{Levels, State, At, add_if, atom_of, ended, levels_in, lex}
use Rattle.smt_text.specs.Internal.LexerStates.{separated, token_in, step, run, depth_of, blame, refusal_of, flaw_at}
use Rattle.smt_text.specs.Internal.ReaderState.{state_of, BeginsAtom, GoesOn, GoesOver, GoesThrough}
use Rattle.smt_text.specs.declared.lexer.AtomState.{AtomState}
use Rattle.smt_text.specs.declared.lexer.AtomState.TheVariants.{Nothing, InComment}
use Rattle.smt_text.specs.declared.lexer.LexerStep.{LexerStep}
use Rattle.smt_text.specs.declared.lexer.LexerStep.TheVariants.{Push, Skip, Finish, Open, Close, Stuck}
use Rattle.smt_faults.specs.declared.failure.Failure.TheVariants.{Fault}
use Rattle.smt_text.specs.declared.refusal.Refusal.{Refusal}
use Rattle.smt_faults.specs.declared.text_flaw.TextFlaw.{TextFlaw}
use Rattle.smt_text.specs.declared.reader.Reader.{Reader}

-- bytes that are kept
pub kept_run : (max_depth : ℕ) (levels : Levels) (token : AtomState) (bytes text : List ℕ) (n : ℕ)
    → n ≤ length text → ((k : ℕ) → k < n → lex token (get_or text k 0) ≡ Push token)
    → run max_depth (At token bytes levels) (take n text) ≡ Some (At token (bytes ++ take n text) levels)
kept_run max_depth levels token bytes text zero le h = ap (λ x. Some (At token x levels)) (sym (append-nil bytes))
kept_run max_depth levels token bytes [] (suc n) le h = absurd (omega arith)
kept_run max_depth levels token bytes (b ∷ text) (suc n) le h =
    run-push max_depth levels token token bytes b (take n text) (h 0 (omega arith))
    ∙ kept_run max_depth levels token (bytes ++ b ∷ []) text n (omega arith) (λ k lt. h (suc k) (omega arith))
    ∙ ap (λ x. Some (At token x levels)) (append_assoc bytes (b ∷ []) (take n text))

-- bytes of a comment
pub skipped_run : (max_depth : ℕ) (levels : Levels) (token : AtomState) (bytes text : List ℕ) (n : ℕ)
    → token ≡ InComment → n ≤ length text
    → ((k : ℕ) → k < n → lex InComment (get_or text k 0) ≡ Skip InComment)
    → run max_depth (At token bytes levels) (take n text) ≡ Some (At token bytes levels)
skipped_run max_depth levels token bytes text n e le h =
    subst (λ t. run max_depth (At t bytes levels) (take n text) ≡ Some (At t bytes levels)) (sym e)
    (in_comment text n le h)
  where
    in_comment : (text : List ℕ) (n : ℕ) → n ≤ length text
        → ((k : ℕ) → k < n → lex InComment (get_or text k 0) ≡ Skip InComment)
        → run max_depth (At InComment bytes levels) (take n text) ≡ Some (At InComment bytes levels)
    in_comment text zero le h = refl
    in_comment [] (suc n) le h = absurd (omega arith)
    in_comment (b ∷ text) (suc n) le h =
        run-cons max_depth (At InComment bytes levels) (At InComment bytes levels) b (take n text)
        (step-at max_depth (At InComment bytes levels) b (Skip InComment) (h 0 (omega arith)))
        ∙ in_comment text n (omega arith) (λ k lt. h (suc k) (omega arith))

-- an atom, from its first byte on
pub atom_run : (max_depth : ℕ) (levels : Levels) (start token : AtomState) (text : List ℕ) (n : ℕ)
    → 0 < n → n ≤ length text → lex start (get_or text 0 0) ≡ Push token
    → ((k : ℕ) → k < n → lex token (get_or text k 0) ≡ Push token)
    → run max_depth (At start [] levels) (take n text) ≡ Some (At token (take n text) levels)
atom_run max_depth levels start token text zero some le first h = absurd (omega arith)
atom_run max_depth levels start token [] (suc n) some le first h = absurd (omega arith)
atom_run max_depth levels start token (b ∷ text) (suc n) some le first h =
    run-push max_depth levels start token [] b (take n text) first
    ∙ kept_run max_depth levels token (b ∷ []) text n (omega arith) (λ k lt. h (suc k) (omega arith))

-- and the byte behind it
one_more : (max_depth : ℕ) (s mid next : State) (text : List ℕ) (n : ℕ) → n < length text
    → run max_depth s (take n text) ≡ Some mid → step max_depth mid (get_or text n 0) ≡ Some next
    → run max_depth s (take (n + 1) text) ≡ Some next
one_more max_depth s mid next text n lt e k =
    ap (run max_depth s) (take_more text n 0 lt) ∙ run-append max_depth s mid (take n text)
    (get_or text n 0 ∷ []) e ∙ run-cons max_depth mid next (get_or text n 0) [] k

abbrev pub Over : ℕ → State → List ℕ → ℕ → State → Type 0
Over max_depth s text n next = (0 < n) × (n ≤ length text) × (run max_depth s (take n text) ≡ Some next)

white_step : (max_depth : ℕ) (levels : Levels) (token : AtomState) (said : List ℕ) (b : ℕ)
    → lex token b ≡ separated b → is_white b ≡ true
    → step max_depth (At token said levels) b ≡ Some (At Nothing [] (add_if (atom_of token said) levels))
white_step max_depth levels token said b e h =
    step-at max_depth (At token said levels) b (Finish Nothing) (e ∙ white_separates b h)

pub close_step : (max_depth : ℕ) (levels next : Levels) (token : AtomState) (said : List ℕ) (b : ℕ)
    → lex token b ≡ separated b → b ≡ 41 → 0 < depth_of levels
    → ended (add_if (atom_of token said) levels) ≡ next
    → step max_depth (At token said levels) b ≡ Some (At Nothing [] next)
close_step max_depth levels next token said b s e h k =
    step-at max_depth (At token said levels) b Close (s ∙ ap separated e) ∙ end_taken max_depth
    (At token said levels) next h k

pub at_nothing : (token : AtomState) (bytes : List ℕ) (levels : Levels) → token ≡ Nothing → bytes ≡ []
    → At Nothing [] levels ≡ At token bytes levels
at_nothing token bytes levels e f = ap (λ t. At t [] levels) (sym e) ∙ ap (λ x. At token x levels) (sym f)

-- what is left of a piece
abbrev pub rest_of : List ℕ → ℕ → List ℕ
rest_of piece place = take (length piece - place) (drop place piece)

pub rest_is : (piece : List ℕ) (place : ℕ) → rest_of piece place ≡ drop place piece
rest_is piece place =
    take_all (length piece - place) (drop place piece) (omega (arith, length-drop place piece))

pub first_of_rest : (piece : List ℕ) (place : ℕ) → get_or (rest_of piece place) 0 0 ≡ get_or piece place 0
first_of_rest piece place = ap (λ x. get_or x 0 0) (rest_is piece place) ∙ get_or-drop place piece 0 0 ∙ ap
    (λ n. get_or piece n 0) (omega arith)

pub at_rest : (piece : List ℕ) (place k : ℕ) → get_or (rest_of piece place) k 0 ≡ get_or piece (place + k) 0
at_rest piece place k = ap (λ x. get_or x k 0) (rest_is piece place) ∙ get_or-drop place piece k 0 ∙ ap
    (λ n. get_or piece n 0) (omega arith)

pub rest_length : (piece : List ℕ) (place : ℕ) → length (rest_of piece place) ≡ length piece - place
rest_length piece place = ap length (rest_is piece place) ∙ length-drop place piece

pub further : (max_depth : ℕ) (s mid next : State) (piece : List ℕ) (place n : ℕ)
    → run max_depth s (take place piece) ≡ Some mid → run max_depth mid (take n (rest_of piece place)) ≡ Some next
    → run max_depth s (take (place + n) piece) ≡ Some next
further max_depth s mid next piece place n e f =
    ap (run max_depth s) (take-add place n piece) ∙ run-append max_depth s mid (take place piece)
    (take n (drop place piece)) e
    ∙ ap (λ x. run max_depth mid (take n x)) (sym (rest_is piece place)) ∙ f

-- some bytes, and more behind them
pub goes_further : (old mid new : Reader) (text : List ℕ) (place n : ℕ) → GoesOn old text place mid
    → GoesOn mid (rest_of text place) n new → GoesOn old text (place + n) new
goes_further old mid new text place n h k = record {
  within = omega (arith, rest_length text place, h.within, k.within);
  runs = further old.max_depth (state_of old) (state_of mid) (state_of new) text place n h.runs
      (subst (λ m. run m (state_of mid) (take n (rest_of text place)) ≡ Some (state_of new)) h.limit k.runs);
  limit = k.limit ∙ h.limit;
  token = k.token ∙ h.token;
  bytes = k.bytes ∙ h.bytes;
}

pub over_goes : (old new : Reader) (text : List ℕ) (n : ℕ)
    → Over old.max_depth (state_of old) text n (state_of new) → new.max_depth ≡ old.max_depth
    → new.token ≡ old.token → new.bytes ≡ old.bytes → GoesOn old text n new
over_goes old new text n h m e f = record {
  within = h.1;
  runs = h.2;
  limit = m;
  token = e;
  bytes = f;
}

-- bytes that are known to be kept, and those that were found to be
pub kept_on : (token : AtomState) (text : List ℕ) (mark known count : ℕ)
    → ((k : ℕ) → k < known → lex token (get_or text (mark + k) 0) ≡ Push token)
    → ((k : ℕ) → k < count → lex token (get_or (rest_of (rest_of text mark) known) k 0) ≡ Push token)
    → (k : ℕ) → k < known + count → lex token (get_or (rest_of text mark) k 0) ≡ Push token
kept_on token text mark known count first found k lt = by (cases_lt k known)
  where
    by : (k < known) ⊎ (known ≤ k) → lex token (get_or (rest_of text mark) k 0) ≡ Push token
    by (inl h) = ap (lex token) (at_rest text mark k) ∙ first k h
    by (inr h) =
        let n = k - known in
        let at : get_or (rest_of text mark) k 0 ≡ get_or (rest_of (rest_of text mark) known) n 0 =
        ap (λ m. get_or (rest_of text mark) m 0) (omega arith) ∙ sym (at_rest (rest_of text mark) known n) in
        ap (lex token) at ∙ found n (omega arith)

-- an atom behind its mark
pub marked_run : (max_depth : ℕ) (s : State) (text : List ℕ) (mark n : ℕ) (token : AtomState) → BeginsAtom max_depth s text mark token → 0 < n
    → mark + n ≤ length text
    → ((k : ℕ) → k < n → lex token (get_or (rest_of text mark) k 0) ≡ Push token)
    → run max_depth s (take (mark + n) text) ≡ Some (At token (take n (rest_of text mark)) (levels_in s))
marked_run max_depth s text mark n token begins some le h =
    let first : lex begins.start (get_or (rest_of text mark) 0 0) ≡ Push token = ap (lex begins.start)
    (first_of_rest text mark) ∙ begins.first (ap (lex token) (sym (first_of_rest text mark)) ∙ h 0 some) in
    further max_depth s (At begins.start [] (levels_in s))
    (At token (take n (rest_of text mark)) (levels_in s)) text mark n begins.marked
    (atom_run max_depth (levels_in s) begins.start token (rest_of text mark) n some
    (omega (arith, rest_length text mark)) first h)

pub atom_white : (max_depth : ℕ) (s : State) (next : Levels) (token new : AtomState) (left text : List ℕ) (mark n : ℕ)
    → BeginsAtom max_depth s text mark token → new ≡ Nothing → left ≡ [] → 0 < n → mark + n < length text
    → ((k : ℕ) → k < n → lex token (get_or (rest_of text mark) k 0) ≡ Push token)
    → is_white (get_or text (mark + n) 0) ≡ true
    → next ≡ add_if (atom_of token (take n (rest_of text mark))) (levels_in s)
    → Over max_depth s text (mark + n + 1) (At new left next)
atom_white max_depth s next token new left text mark n begins e f some lt h white adds =
    let said = take n (rest_of text mark) in
    let b = get_or text (mark + n) 0 in (
      omega arith,
      omega arith,
      one_more max_depth s (At token said (levels_in s)) (At new left next) text (mark + n) lt
          (marked_run max_depth s text mark n token begins some (omega arith) h)
          (white_step max_depth (levels_in s) token said b (begins.ended b (white_ends b white)) white ∙ ap
          (λ x. Some (At Nothing [] x)) (sym adds) ∙ ap Some (at_nothing new left next e f)),
    )

pub atom_close : (max_depth : ℕ) (s : State) (mid next : Levels) (token new : AtomState) (left text : List ℕ) (mark n : ℕ)
    → BeginsAtom max_depth s text mark token → new ≡ Nothing → left ≡ [] → 0 < n → mark + n < length text
    → ((k : ℕ) → k < n → lex token (get_or (rest_of text mark) k 0) ≡ Push token)
    → get_or text (mark + n) 0 ≡ 41 → 0 < depth_of (levels_in s)
    → mid ≡ add_if (atom_of token (take n (rest_of text mark))) (levels_in s) → ended mid ≡ next
    → Over max_depth s text (mark + n + 1) (At new left next)
atom_close max_depth s mid next token new left text mark n begins e f some lt h close deep adds ends =
    let said = take n (rest_of text mark) in
    let b = get_or text (mark + n) 0 in (
      omega arith,
      omega arith,
      one_more max_depth s (At token said (levels_in s)) (At new left next) text (mark + n) lt
          (marked_run max_depth s text mark n token begins some (omega arith) h)
          (close_step max_depth (levels_in s) next token said b (begins.ended b (ap ends_token close)) close
          deep (ap ended (sym adds) ∙ ends) ∙ ap Some (at_nothing new left next e f)),
    )

pub run_kept : (max_depth : ℕ) (levels : Levels) (token : AtomState) (bytes longer text : List ℕ) (n : ℕ) → 0 < n
    → n ≤ length text → ((k : ℕ) → k < n → lex token (get_or text k 0) ≡ Push token)
    → longer ≡ bytes ++ take n text → Over max_depth (At token bytes levels) text n (At token longer levels)
run_kept max_depth levels token bytes longer text n some le h is =
    (some, le, kept_run max_depth levels token bytes text n le h ∙ ap (λ x. Some (At token x levels)) (sym is))

blame-at : (place : ℕ) (what : LexerStep) → flaw_at place (refusal_of what) ≡ blame place what
blame-at place (Push token) = refl
blame-at place (Skip token) = refl
blame-at place (Finish token) = refl
blame-at place Open = refl
blame-at place Close = refl
blame-at place Stuck = refl

-- a byte of a piece that was refused
pub refused : (max_depth : ℕ) (s mid new : State) (piece : List ℕ) (place before now : ℕ) (refusal : Refusal)
    (flaw : TextFlaw) → place < length piece → run max_depth s (take place piece) ≡ Some mid → now ≡ before
    → flaw ≡ flaw_at (now + place) refusal → GoesOver max_depth mid (rest_of piece place) (Err (Fault refusal)) new
    → GoesThrough max_depth s before piece (Err (Fault flaw)) new
refused max_depth s mid new piece place before now refusal flaw lt e same is g =
    let byte = get_or piece place 0 in
    let stays : mid ≡ new = sym g.2 in
    let stops : step max_depth new byte ≡ None = ap (λ x. step max_depth x byte) g.2 ∙ ap (step max_depth mid)
    (sym (first_of_rest piece place)) ∙ g.0 in
    let what : refusal ≡ refusal_of (lex (token_in new) byte) = g.1 ∙ ap
    (λ b. refusal_of (lex (token_in mid) b)) (first_of_rest piece place) ∙ ap
    (λ x. refusal_of (lex (token_in x) byte)) stays in (
      place,
      lt,
      e ∙ ap Some stays,
      stops,
      is ∙ ap (flaw_at (now + place)) what ∙ ap
          (λ n. flaw_at (n + place) (refusal_of (lex (token_in new) byte))) same ∙ blame-at (before + place)
          (lex (token_in new) byte),
    )
