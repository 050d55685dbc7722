-- What is open at the end of a text, place by place.
use Rattle.std.proofs.Common.{◌≡◌, ◌⊎◌, ◌<◌, ◌≤◌, ◌+◌, ◌-◌, ℕ, suc, List, [], ◌∷◌, ◌++◌, length, take, get_or}
use Rattle.std.proofs.Common.{Option, Bool, true, false, refl, sym, ap, ◌∙◌, inl, inr, arith, subst}
use Rattle.std.specs.Prelude.{if◌then◌else◌}
use Rattle.std.proofs.Common.{slice_get}
use Rattle.std.proofs.Math.ListN.{get_or-append}
use Rattle.std.proofs.Math.Seq.{get_or-append_seam}
use Rattle.std.proofs.lemmas.Bool.{cases_lt, false≢true}
use Rattle.std.proofs.lemmas.List.{get_or-take, length-append, length-take-le}
use Rattle.std.proofs.lemmas.Option.{get_or_from_slice_get, slice_get-get_or}
use Rattle.smt_text.specs.Internal.LexerStates.{lex, token_behind}
use Rattle.smt_text.specs.Internal.Scanning.{beginning_of, IsAt, IsScan, IsStack}
use Rattle.smt_text.specs.OpenPlaces.{IsBegun, IsFirst, IsLast, IsOpenList}
use Rattle.smt_text.specs.Places.{depth_at, depth_behind, is_between, step_at, token_at}
use Rattle.smt_text.specs.declared.lexer.AtomState.{AtomState}
use Rattle.smt_text.specs.declared.lexer.LexerStep.{LexerStep}
use Rattle.smt_text.specs.declared.unfinished.Scan.{Scan}
use Rattle.smt_text.specs.declared.lexer.LexerStep.TheVariants.{Push, Skip, Finish, Open, Stuck}

-- a place up to the next one is that, or one up to here
pub upto : (place later : ℕ) → later ≤ place + 1 → (later ≡ place + 1) ⊎ (later ≤ place)
upto place later le = by (cases_lt place later)
  where
    by : (place < later) ⊎ (later ≤ place) → (later ≡ place + 1) ⊎ (later ≤ place)
    by (inl lt) = inl (omega arith)
    by (inr le) = inr le

pub only_next : (place later : ℕ) → place < later → later ≤ place + 1 → place + 1 ≡ later
only_next place later lt le = omega arith

suc_is : (place : ℕ) → suc place ≡ place + 1
suc_is place = omega arith

-- ## Lists

-- a list stays open
stays_open : (text : List ℕ) (place list : ℕ) → IsOpenList text place list
    → depth_at text list < depth_at text (place + 1) → IsOpenList text (place + 1) list
stays_open text place list h deep = record {
  within = omega (arith, h.within);
  opens = h.opens;
  stays = λ later lt le. by later lt (upto place later le);
}
  where
    by : (later : ℕ) → list < later → (later ≡ place + 1) ⊎ (later ≤ place)
        → depth_at text list < depth_at text later
    by later lt (inl e) = subst (λ n. depth_at text list < depth_at text n) (sym e) deep
    by later lt (inr le) = h.stays later lt le

begins_open : (text : List ℕ) (place : ℕ) → step_at text place ≡ Open
    → depth_at text place < depth_at text (place + 1) → IsOpenList text (place + 1) place
begins_open text place e deep = record {
  within = omega arith;
  opens = e;
  stays = λ later lt le. subst (λ n. depth_at text place < depth_at text n) (only_next place later lt le) deep;
}

pub stack_same : (text lists : List ℕ) (place : ℕ) → depth_at text (place + 1) ≡ depth_at text place
    → IsStack text place lists → IsStack text (place + 1) lists
stack_same text lists place e h = record {
  depth = h.depth ∙ sym e;
  opened = λ i lt.
      let list = get_or lists i 0 in
      let one = h.opened i lt in
      (stays_open text place list one.0 (omega (arith, one.1, lt, h.depth, e)), one.1);
}

pub stack_closed : (text lists more : List ℕ) (place : ℕ) → depth_at text (place + 1) ≡ depth_at text place - 1
    → more ≡ take (length lists - 1) lists → IsStack text place lists → IsStack text (place + 1) more
stack_closed text lists more place e is h = subst (IsStack text (place + 1)) (sym is) (record {
  depth = length-take-le (length lists - 1) lists (omega arith) ∙ omega (arith, e, h.depth);
  opened = λ i lt.
      let few : length (take (length lists - 1) lists) ≡ length lists - 1 =
      length-take-le (length lists - 1) lists (omega arith) in
      let below : i < length lists - 1 = omega (arith, few, lt) in
      let list = get_or lists i 0 in
      let one = h.opened i (omega (arith, below)) in
      subst (λ n. IsOpenList text (place + 1) n × (depth_at text n ≡ i))
      (sym (get_or-take (length lists - 1) lists i 0 below))
      (stays_open text place list one.0 (omega (arith, one.1, below, h.depth, e)), one.1);
})

pub stack_opened : (text lists more : List ℕ) (place : ℕ) → step_at text place ≡ Open
    → depth_at text (place + 1) ≡ depth_at text place + 1 → more ≡ lists ++ place ∷ []
    → IsStack text place lists → IsStack text (place + 1) more
stack_opened text lists more place o e is h = subst (IsStack text (place + 1)) (sym is) (record {
  depth = length-append lists (place ∷ []) ∙ omega (arith, e, h.depth);
  opened = λ i lt. by i (upto (length lists) (i + 1) (omega (arith, lt, length-append lists (place ∷ []))));
})
  where
    old : (i : ℕ) → i < length lists → IsOpenList text (place + 1) (get_or lists i 0) × (depth_at text (get_or lists i 0) ≡ i)
    old i lt =
        let one = h.opened i lt in
        (stays_open text place (get_or lists i 0) one.0 (omega (arith, one.1, lt, h.depth, e)), one.1)

    by : (i : ℕ) → (i + 1 ≡ length lists + 1) ⊎ (i + 1 ≤ length lists)
        → IsOpenList text (place + 1) (get_or (lists ++ place ∷ []) i 0)
        × (depth_at text (get_or (lists ++ place ∷ []) i 0) ≡ i)
    by i (inl last) =
        let at : i ≡ length lists = omega arith in
        let read : get_or (lists ++ place ∷ []) i 0 ≡ place = ap (λ n. get_or (lists ++ place ∷ []) n 0) at
        ∙ get_or-append_seam lists place [] 0 in
        subst (λ n. IsOpenList text (place + 1) n × (depth_at text n ≡ i)) (sym read)
        (begins_open text place o (omega (arith, e)), omega (arith, at, h.depth))
    by i (inr le) = subst (λ n. IsOpenList text (place + 1) n × (depth_at text n ≡ i))
        (sym (get_or-append lists (place ∷ []) 0 i (omega arith))) (old i (omega arith))

-- ## The lists that are open

first_open : (text lists : List ℕ) (end : ℕ) → IsStack text end lists
    → IsFirst (IsOpenList text end) (slice_get lists 0)
first_open text [] end h = λ list o. omega (arith, h.depth, o.stays end o.within (omega arith))
first_open text (first ∷ lists) end h =
    let one = h.opened 0 (omega arith) in
    (one.0, λ other o. by other o (cases_lt other first))
  where
    by : (other : ℕ) → IsOpenList text end other → (other < first) ⊎ (first ≤ other) → first ≤ other
    by other o (inr le) = le
    by other o (inl lt) =
        let one = h.opened 0 (omega arith) in
        absurd (omega (arith, one.1, o.stays first lt (omega (arith, one.0.within))))

pub outer_first : (text lists : List ℕ) (end : ℕ) (found : Option ℕ) → IsStack text end lists
    → found ≡ slice_get lists 0 → IsFirst (IsOpenList text end) found
outer_first text lists end found h e = subst (IsFirst (IsOpenList text end)) (sym e) (first_open text lists end h)

pub inner_last : (text lists : List ℕ) (end : ℕ) (found : Option ℕ) → IsStack text end lists
    → found ≡ slice_get lists (length lists - 1) → IsLast (IsOpenList text end) found
inner_last text [] end found h e =
    subst (IsLast (IsOpenList text end)) (sym e) (λ list o. omega (arith, h.depth, o.stays end o.within (omega arith)))
inner_last text (first ∷ lists) end found h e =
    subst (IsLast (IsOpenList text end)) (sym (e ∙ ap (slice_get (first ∷ lists)) (omega arith)
    ∙ slice_get-get_or (first ∷ lists) (length lists) 0 (omega arith)))
    (one.0, λ other o. by other o (cases_lt last other))
  where
    last : ℕ
    last = get_or (first ∷ lists) (length lists) 0

    one : IsOpenList text end last × (depth_at text last ≡ length lists)
    one = h.opened (length lists) (omega arith)

    by : (other : ℕ) → IsOpenList text end other → (last < other) ⊎ (other ≤ last) → other ≤ last
    by other o (inr le) = le
    by other o (inl lt) =
        absurd (omega (arith, h.depth, one.1, one.0.stays other lt (omega (arith, o.within)), o.stays end o.within (omega arith)))

-- ## The token

pub token_next : (text : List ℕ) (place begun : ℕ)
    → (is_between (token_at text place) ≡ false → IsBegun text place begun)
    → is_between (token_at text (place + 1)) ≡ false
    → IsBegun text (place + 1) (beginning_of (token_at text place) begun place)
token_next text place begun h more = by (is_between (token_at text place)) refl
  where
    by : (b : Bool) → is_between (token_at text place) ≡ b
        → IsBegun text (place + 1) (if b then place else begun)
    by true e = record {
      within = omega arith;
      begins = e;
      goes_on = λ later lt le. subst (λ n. is_between (token_at text n) ≡ false) (only_next place later lt le) more;
    }
    by false e = record {
      within = omega (arith, (h e).within);
      begins = (h e).begins;
      goes_on = λ later lt le. further later lt (upto place later le);
    }
      where
        further : (later : ℕ) → begun < later → (later ≡ place + 1) ⊎ (later ≤ place)
            → is_between (token_at text later) ≡ false
        further later lt (inl same) = subst (λ n. is_between (token_at text n) ≡ false) (sym same) more
        further later lt (inr le) = (h e).goes_on later lt le

-- ## One byte

-- what the byte does to the token
pub step_is : (text : List ℕ) (token : AtomState) (byte place : ℕ) (what : LexerStep) → IsAt text byte place
    → token ≡ token_at text place → what ≡ lex token byte → what ≡ step_at text place
step_is text token byte place what at same e =
    e ∙ ap (λ t. lex t byte) same
    ∙ ap (lex (token_at text place)) (sym (get_or_from_slice_get text place byte 0 at))

pub token_is : (text : List ℕ) (place : ℕ) (what : LexerStep) (next : AtomState) → what ≡ step_at text place
    → next ≡ token_behind what → next ≡ token_at text (place + 1)
token_is text place what next e f =
    f ∙ ap token_behind e ∙ subst (λ n. token_behind (step_at text place) ≡ token_at text n) (suc_is place) refl

pub depth_is : (text : List ℕ) (place : ℕ) (what : LexerStep) → what ≡ step_at text place
    → depth_at text (place + 1) ≡ depth_behind what (depth_at text place)
depth_is text place what e =
    subst (λ n. depth_at text n ≡ depth_behind (step_at text place) (depth_at text place)) (suc_is place) refl
    ∙ ap (λ w. depth_behind w (depth_at text place)) (sym e)

pub scan_next : (text : List ℕ) (old new : Scan) (what : LexerStep) (byte place : ℕ) → IsAt text byte place
    → what ≡ lex old.token byte → new.token ≡ token_behind what
    → new.begun ≡ beginning_of old.token old.begun place → IsScan text place old
    → (what ≡ step_at text place → IsStack text (place + 1) new.lists.items) → IsScan text (place + 1) new
scan_next text old new what byte place at e token begun h lists =
    let step = step_is text old.token byte place what at h.token e in
    let from : new.begun ≡ beginning_of (token_at text place) old.begun place =
    begun ∙ ap (λ t. beginning_of t old.begun place) h.token in
    record {
      token = token_is text place what new.token step token;
      begun = λ more. subst (IsBegun text (place + 1)) (sym from) (token_next text place old.begun h.begun more);
      lists = lists step;
    }

pub scan_new : (text : List ℕ) (scan : Scan) → scan.token ≡ token_at text 0 → scan.lists.items ≡ []
    → IsScan text 0 scan
scan_new text scan token none = record {
  token = token;
  begun = λ more. absurd (false≢true (sym more));
  lists = subst (IsStack text 0) (sym none) (record { depth = refl; opened = λ i lt. absurd (omega (arith, lt)) });
}

-- other bytes than parentheses
pub stays : (what : LexerStep) (depth : ℕ)
    → ((next : AtomState) × (what ≡ Push next)) ⊎ (((next : AtomState) × (what ≡ Skip next))
    ⊎ (((next : AtomState) × (what ≡ Finish next)) ⊎ (what ≡ Stuck))) → depth_behind what depth ≡ depth
stays what depth (inl (next, e)) = ap (λ w. depth_behind w depth) e
stays what depth (inr (inl (next, e))) = ap (λ w. depth_behind w depth) e
stays what depth (inr (inr (inl (next, e)))) = ap (λ w. depth_behind w depth) e
stays what depth (inr (inr (inr e))) = ap (λ w. depth_behind w depth) e
