-- After a parse, an argument with a default has a value, and its parser takes it.
use Rattle.std.proofs.Common.{◌≡◌, ◌∙◌, ◌<◌, ◌≤◌, ◌++◌, ◌||◌, ℕ, zero, suc, Bool, true, false, List, [], ◌∷◌}
use Rattle.std.proofs.Common.{length, is_some, Option, Some, None, ap, arith, inl, inr, refl, subst, sym}
use Rattle.std.specs.Prelude.{find, option_and_then, option_map, slice_get}
use Rattle.std.specs.Borrow.{Bor}
use Rattle.std.specs.List.{All, slice_index_or}
use Rattle.std.specs.Str.{bytes_eq}
use Rattle.std.proofs.lemmas.List.{append-nil, append_assoc, get_or_default}
use Rattle.std.proofs.lemmas.List.Elements.{All-get_or, All-nil}
use Rattle.std.proofs.lemmas.Slice.Eq.{bytes_eq-Decides}
use Rattle.clap.specs.Built.{AddsArg, AddsInTurn, FitsChain, HasDistinctIds, IsAuto, IsParsedFrom, IsPlain}
use Rattle.clap.specs.Built.{IsPlainArg, KeepsList, SameRules}
use Rattle.clap.specs.Facts.{Entry, EntryPasses, HasId, HasReading, IsFilledEntry, IsKnownGroup, PassesArg}
use Rattle.clap.specs.Facts.{WantsDefault, args_of, groups_of, least_values, parser_of, parser_of_value}
use Rattle.clap.specs.Matches.{first_value, found_of, matched_of, one_text}
use Rattle.clap.specs.Values.{Accepts, read_as, reading_of}
use Rattle.clap.specs.Walk.{Rule, Text, rule_of, texts}
use Rattle.clap.specs.declared.builder.action.ArgAction.TheVariants.{Count, Set}
use Rattle.clap.specs.declared.builder.arg.Arg.{Arg}
use Rattle.clap.specs.declared.builder.command.Command.{Command}
use Rattle.clap.specs.declared.builder.command.Command.TheViews.{out-Command}
use Rattle.clap.specs.declared.builder.value_parser.Reading.{Reading}
use Rattle.clap.specs.declared.builder.value_parser.ValueParser.{ValueParser}
use Rattle.clap.specs.declared.parser.matches.ArgMatches.{ArgMatches}
use Rattle.clap.specs.declared.parser.matches.Found.{Found}
use Rattle.clap.specs.declared.parser.matches.MatchedArg.{MatchedArg}
use Rattle.clap.proofs.CallerLemmas.{added_plain, default_present, entry_by_id, same_rules_by_id}

-- ---- an option with a default

-- the argument takes a value, has a default under no condition, and this parser takes its values
pub record HasDefault (a : Arg) (q : ValueParser) : Type 0 where
  pub wants : WantsDefault a
  pub action : a.action ≡ Some Set
  pub undivided : a.val_delim ≡ None
  pub least : 1 ≤ least_values a
  pub parser : a.value_parser ≡ Some q

some_items : (xs : List (Bor Text)) (t : Text) → texts xs ≡ t ∷ [] → 0 < length xs
some_items [] t e = cc
some_items (x ∷ xs) t e = omega arith

-- and so says its rule
pub has_default : (a : Arg) (r : Rule) (q : ValueParser) (t : Text) → rule_of a ≡ r → a.val_delim ≡ None
    → a.default_vals_ifs.items ≡ [] → r.action ≡ Some Set → r.range ≡ None → r.parser ≡ Some q
    → r.defaults ≡ t ∷ [] → HasDefault a q
has_default a r q t is undivided unconditional action range parser default =
    let no_range : a.num_vals ≡ None = ap (λ (x : Rule). x.range) is ∙ range in
    record {
      wants = (unconditional, some_items _ t (ap (λ (x : Rule). x.defaults) is ∙ default));
      action = ap (λ (x : Rule). x.action) is ∙ action;
      undivided = undivided;
      least = rw no_range (omega arith);
      parser = ap (λ (x : Rule). x.parser) is ∙ parser;
    }

kept_default : (a b : Arg) (q : ValueParser) → SameRules a b → HasDefault a q → HasDefault b q
kept_default a b q same h = record {
  wants = (same.ifs ∙ h.wants.0, rw (same.defaults h.wants.1) h.wants.1);
  action = same.action Set h.action;
  undivided = same.val_delim ∙ h.undivided;
  least = same.least h.action h.least;
  parser = same.parser q h.parser;
}

-- ---- what the matches have for an argument

-- a text that the parser takes, and that the getters read
pub record Reads (f : Found) (id : Text) (ignore_case : Bool) (q : ValueParser) : Type 0 where
  pub text : Text
  pub first : first_value f id ≡ Some text
  pub one : one_text f id ≡ Some (read_as (reading_of q) text)
  pub passed : Accepts ignore_case q text

found : (xs : List Entry) (id : Text) (i : ℕ) → i < length xs
    → ((d : Entry) → bytes_eq (slice_index_or xs i d).0.now id ≡ true)
    → is_some (option_map (λ (e : Entry). e.1) (find (λ e. bytes_eq e.0.now id) xs)) ≡ true
found [] id i lt at = absurd (omega arith)
found (x ∷ xs) id zero lt at = rw (at x) refl
found (x ∷ xs) id (suc i) lt at = go (bytes_eq x.0.now id) refl (found xs id i (omega arith) at)
  where
    go : (t : Bool) → bytes_eq x.0.now id ≡ t
        → is_some (option_map (λ (e : Entry). e.1) (find (λ e. bytes_eq e.0.now id) xs)) ≡ true
        → is_some (option_map (λ (e : Entry). e.1) (find (λ e. bytes_eq e.0.now id) (x ∷ xs))) ≡ true
    go true e rest = rw e refl
    go false e rest = rw e rest

abbrev first_of_entry : MatchedArg → Option Text
first_of_entry x = option_map (λ s. s.now) (slice_get x.vals.items 0)

abbrev one_of_entry : MatchedArg → Option Text
one_of_entry x = option_map (λ s. read_as x.reading s.now) (slice_get x.vals.items 0)

-- the value that an entry begins with
first : (P : Bor Text → Type 0) (how : Reading) (vs : List (Bor Text)) → All P vs → 0 < length vs
    → (v : Bor Text) × (option_map (λ s. s.now) (slice_get vs 0) ≡ Some v.now)
    × (option_map (λ s. read_as how s.now) (slice_get vs 0) ≡ Some (read_as how v.now)) × P v
first P how [] all lt = absurd (omega arith)
first P how (v ∷ vs) all lt = (v, refl, refl, All-get_or P (v ∷ vs) 0 v (omega arith) all)

accepted : (a b : Arg) (q : ValueParser) (t : Text) → SameRules a b → a.value_parser ≡ Some q
    → Accepts b.ignore_case (parser_of b) t → Accepts a.ignore_case q t
accepted a b q t same is passed =
    let by_q : Accepts b.ignore_case q t = subst (λ (w : ValueParser). Accepts b.ignore_case w t)
    (ap parser_of_value (same.parser q is)) passed in
    subst (λ (i : Bool). Accepts i q t) same.ignore_case by_q

-- the argument a of the caller's, at the place k, where nothing excludes anything
pub default_reads : (old : Command) (m : ArgMatches) (p : IsParsedFrom old m) → IsPlain old
    → (out-Command old).has_globals ≡ false
    → (k : ℕ) (a : Arg) (q : ValueParser) → k < length (args_of old) → slice_index_or (args_of old) k a ≡ a
    → HasDefault a q
    → ((j : ℕ) (e : Arg) → j < length (args_of old)
    → bytes_eq (slice_index_or (args_of old) j e).id.now a.id.now ≡ true → j ≡ k)
    → (a.id.now ≡ [] → ⊥) → (IsAuto a → ⊥) → Reads (found_of m) a.id.now a.ignore_case q
default_reads old m p plain globals k a q lt at default unique named own =
    let has = subst (λ (x : Arg). HasId (found_of m) x.id.now) at
    (default_present old m p globals k a lt (subst WantsDefault (sym at) default.wants)) in
    go (matched_of (found_of m) a.id.now) refl (found (found_of m).entries.items a.id.now has.0 has.1 has.2)
  where
    same : (j : ℕ) (x : Arg) → j < length (args_of p.built) → slice_index_or (args_of p.built) j x ≡ x
        → bytes_eq x.id.now a.id.now ≡ true → SameRules a x
    same j x low there is =
        let only : (i : ℕ) (e : Arg) → i < length (args_of old)
        → bytes_eq (slice_index_or (args_of old) i e).id.now (slice_index_or (args_of old) k a).id.now
        ≡ true → i ≡ k =
        λ i e under one. unique i e under
        (subst (λ (y : Arg). bytes_eq (slice_index_or (args_of old) i e).id.now y.id.now ≡ true) at one)
        in
        let is_at = subst (λ (y : Arg). bytes_eq x.id.now y.id.now ≡ true) (sym at) is in
        subst (λ (y : Arg). SameRules y x) at
        (same_rules_by_id old m p k a lt only (λ auto. own (subst IsAuto at auto)) j x low there is_at)

    no_group : (e : Entry) → e.0.now ≡ a.id.now → IsKnownGroup p.built e.0.now → ⊥
    no_group e key (inl empty) = named (sym key ∙ empty)
    no_group e key (inr lots) =
        let no_groups : groups_of p.built ≡ [] = (p.from.plain plain).1 in
        let bad : 0 < 0 = rw no_groups at lots in
        omega arith

    filled : (e : Entry) → e.0.now ≡ a.id.now → IsFilledEntry p.built e → 0 < length e.1.vals.items
    filled e key f =
        elim f [
          | inl h ↦ absurd (no_group e key h.1)
          | inr (inl v) ↦ v
          | inr (inr (inl h)) ↦
              let any = h.1 in
              let s = same any.0 any.1 any.2 any.3 (rw key at any.4.0) in
              let is_set : any.1.action ≡ Some Set = s.action Set default.action in
              let bad : Set ≡ Count = rw is_set at any.4.1 in
              cc
          | inr (inr (inr h)) ↦
              let s = same h.0 h.1 h.2 h.3 (rw key at h.4.0) in
              elim h.4.1 [
                | inl none ↦
                    let one = s.least default.action default.least in
                    absurd (omega arith)
                | inr has ↦
                    let bad : false ≡ true = rw (s.val_delim, default.undivided) at has in
                    cc
              ]
        ]

    passed : (id t : Text) → id ≡ a.id.now → PassesArg p.built id t → Accepts a.ignore_case q t
    passed id t key pass =
        let is : bytes_eq pass.1.id.now a.id.now ≡ true = subst
        (λ (x : Text). bytes_eq pass.1.id.now x ≡ true) key pass.4.0 in
        accepted a pass.1 q t (same pass.0 pass.1 pass.2 pass.3 is) default.parser pass.4.1

    read : (id : Text) (how : Reading) → id ≡ a.id.now → HasReading p.built id how → how ≡ reading_of q
    read id how key any =
        let is : bytes_eq any.1.id.now a.id.now ≡ true = subst
        (λ (x : Text). bytes_eq any.1.id.now x ≡ true) key any.4.0 in
        let s = same any.0 any.1 any.2 any.3 is in
        let is_q : parser_of any.1 ≡ q = ap parser_of_value (s.parser q default.parser) in
        sym any.4.1 ∙ ap reading_of is_q

    go : (o : Option MatchedArg) → matched_of (found_of m) a.id.now ≡ o
        → is_some (matched_of (found_of m) a.id.now) ≡ true → Reads (found_of m) a.id.now a.ignore_case q
    go None e some =
        let bad : false ≡ true = rw e at some in
        cc
    go (Some x) e some =
        let parsed = (p.parsed (p.from.globals ∙ globals)).values in
        let got = entry_by_id (EntryPasses p.built) (found_of m).entries.items a.id.now x parsed e in
        let key : got.0.0.now ≡ a.id.now = (bytes_eq-Decides _ _).0 got.2 in
        let values : All (λ v. PassesArg p.built got.0.0.now v.now) got.0.1.vals.items = elim got.3.0
        [ inl g ↦ absurd (no_group got.0 key (got.3.3 g)) | inr v ↦ v ] in
        let how : got.0.1.reading ≡ reading_of q = elim got.3.4
        [ inl g ↦ absurd (no_group got.0 key (got.3.3 g)) | inr h ↦ read got.0.0.now _ key h ] in
        let one = first (λ v. PassesArg p.built got.0.0.now v.now) got.0.1.reading got.0.1.vals.items values
        (filled got.0 key got.3.1) in
        record {
          text = one.0.now;
          first = ap (option_and_then first_of_entry) e ∙ ap first_of_entry (sym got.1) ∙ one.1;
          one = ap (option_and_then one_of_entry) e ∙ ap one_of_entry (sym got.1) ∙ one.2 ∙ ap
              (λ (r : Reading). Some (read_as r one.0.now)) how;
          passed = passed got.0.0.now one.0.now key one.3;
        }

-- ---- a chain of `.arg(..)` calls

-- what a chain leaves: the arguments that it adds, place by place, in a command of the same kind
record IsChain (start end : Command) (xs : List Arg) : Type 0 where
  added : List Arg
  args : args_of end ≡ args_of start ++ added
  kept : KeepsList xs added
  plain : IsPlain end
  globals : (out-Command end).has_globals ≡ false

neither : (a b : Bool) → a ≡ false → b ≡ false → (a || b) ≡ false
neither a b x y = rw (x, y) refl

places_kept : (x y : Arg) (xs ys : List Arg) → SameRules x y
    → ((k : ℕ) (d e : Arg) → k < length xs → SameRules (slice_index_or xs k d) (slice_index_or ys k e))
    → (k : ℕ) (d e : Arg) → k < length (x ∷ xs)
    → SameRules (slice_index_or (x ∷ xs) k d) (slice_index_or (y ∷ ys) k e)
places_kept x y xs ys same rest zero d e lt = same
places_kept x y xs ys same rest (suc k) d e lt = rest k d e (omega arith)

chain : (start end : Command) (xs : List Arg) → AddsInTurn AddsArg start xs end → All FitsChain xs
    → IsPlain start → (out-Command start).has_globals ≡ false → IsChain start end xs
chain start end [] same fit plain globals = record {
  added = [];
  args = rw same (sym (append-nil _));
  kept = (refl, λ k d e lt. absurd (omega arith));
  plain = rw (← same) plain;
  globals = rw (← same) globals;
}
chain start end (x ∷ xs) steps fit plain globals =
    let adds = steps.1 in
    let fits = fit 0 x (omega arith) in
    let rest = chain steps.0 end xs steps.2 (λ k d lt. fit (suc k) d (omega arith))
    (added_plain start steps.0 x adds plain fits.0) (adds.globals ∙ neither _ _ globals fits.1) in
    record {
      added = adds.arg ∷ rest.added;
      args = rest.args ∙ (ap (λ l. l ++ rest.added) adds.args
          ∙ append_assoc (args_of start) (adds.arg ∷ []) rest.added);
      kept = (ap suc rest.kept.0, places_kept x adds.arg xs rest.added adds.rules rest.kept.1);
      plain = rest.plain;
      globals = rest.globals;
    }

-- the argument x of such a chain, at the place k, where no two ids are one
pub default_in_chain : (start end : Command) (xs : List Arg) (k : ℕ) (x : Arg) (q : ValueParser)
    (m : ArgMatches) → AddsInTurn AddsArg start xs end → args_of start ≡ [] → groups_of start ≡ []
    → (out-Command start).has_globals ≡ false → All FitsChain xs → HasDistinctIds xs → k < length xs
    → slice_index_or xs k x ≡ x → HasDefault x q → IsParsedFrom end m
    → Reads (found_of m) x.id.now x.ignore_case q
default_in_chain start end xs k x q m steps args groups globals fit distinct lt at default p =
    let none : IsPlain start = (subst (All IsPlainArg) (sym args) (All-nil IsPlainArg), groups) in
    let c = chain start end xs steps fit none globals in
    let list : args_of end ≡ c.added = c.args ∙ ap (λ l. l ++ c.added) args in
    let len : length (args_of end) ≡ length xs = ap length list ∙ c.kept.0 in
    let there : k < length (args_of end) = omega arith in
    let a = slice_index_or (args_of end) k x in
    let same : SameRules x a = rw list (subst (λ (y : Arg). SameRules y (slice_index_or c.added k x)) at
    (c.kept.1 k x x lt)) in
    let fits : FitsChain x = subst FitsChain at (fit k x lt) in
    let own : a.id.now ≡ x.id.now = ap (λ s. s.now) same.id in
    let unique : (j : ℕ) (e : Arg) → j < length (args_of end)
    → bytes_eq (slice_index_or (args_of end) j e).id.now a.id.now ≡ true → j ≡ k =
    λ j e low is.
    let in_chain : j < length xs = omega arith in
    let id : (slice_index_or (args_of end) j e).id ≡ (slice_index_or xs j e).id =
    ap (λ l. (slice_index_or l j e).id) list ∙ (c.kept.1 j e e in_chain).id in
    distinct j k x e in_chain lt (rw (← ap (λ s. s.now) id, at, ← own) is) in
    let reads = default_reads end m p c.plain c.globals k a q there (get_or_default (args_of end) k a x there)
    (kept_default x a q same default) unique (λ empty. fits.2 (sym own ∙ empty))
    (λ auto. fits.3 (elim auto [ inl h ↦ inl (sym own ∙ h) | inr h ↦ inr (sym own ∙ h) ])) in
    record {
      text = reads.text;
      first = subst (λ t. first_value (found_of m) t ≡ Some reads.text) own reads.first;
      one = subst (λ t. one_text (found_of m) t ≡ Some (read_as (reading_of q) reads.text)) own reads.one;
      passed = subst (λ i. Accepts i q reads.text) same.ignore_case reads.passed;
    }
