-- Where clap's definition gives a simple command no fault on some words, the command takes them.
use Rattle.std.proofs.Common.{◌≡◌, ◌∙◌, ◌&&◌, ◌||◌, ◌==◌, ◌+◌, min, ℕ, Bool, true, false, not, nat_lt, nat_le}
use Rattle.std.proofs.Common.{zero, suc, List, [], ◌∷◌, Option, Some, None, refl, sym, arith, if◌then◌else◌}
use Rattle.std.proofs.Common.{length, drop, is_some}
use Rattle.std.specs.Prelude.{codes, encode_utf8, slice_get}
use Rattle.std.specs.List.{list_all, list_any}
use Rattle.std.specs.Option.{option_map_or}
use Rattle.std.specs.Str.{bytes_eq, chars}
use Rattle.std.proofs.lemmas.Bool.Decides.{nat_tests}
use Rattle.clap.specs.Lexer.{long_of, short_of}
use Rattle.clap.specs.Kinds.{Kinds, check_kinds, or_else, range_kinds, value_kinds, values_kinds}
use Rattle.clap.specs.Values.{refused_kind}
use Rattle.clap.specs.ValueTests.{accepts}
use Rattle.clap.specs.Walk.{action_of, is_pending, most_values, takes_several, values_or_missing, Held, Names}
use Rattle.clap.specs.Walk.{Row, Rule, Step, Text, Walk, arg_by_id, arg_by_index, arg_by_long, arg_by_short}
use Rattle.clap.specs.Walk.{attached_value, count_of, finished, has_row, next, nothing_held, settled}
use Rattle.clap.specs.Walk.{subcommand, subcommand_met, takes_values, trailing, value, walk, walk_from}
use Rattle.clap.specs.Walk.{walked, word_met}
use Rattle.clap.specs.Facts.{explicit_source, parser_of_value, unwrap_or_range}
use Rattle.clap.specs.Matches.{count_text}
use Rattle.clap.specs.Simple.{App, Shape, argument_words, built, is_simple}
use Rattle.clap.specs.Faults.{action_fault, bundle_step_fault, count_fault, check_fault, fault_of}
use Rattle.clap.specs.Faults.{flag_word_fault, flags_fault, level_fault, long_fault, option_fault}
use Rattle.clap.specs.Faults.{other_fault, positional_fault, react_fault, settle_fault, short_fault}
use Rattle.clap.specs.Faults.{step_fault, stray_fault, turn_fault, use_fault, walk_fault}
use Rattle.clap.specs.Takes.{action_passes, bundle_step_passes, count_passes, default_passes}
use Rattle.clap.specs.Takes.{flag_word_passes, flags_pass, is_given, is_valid, level_passes, long_passes}
use Rattle.clap.specs.Takes.{option_passes, other_passes, positional_passes, react_passes, settle_passes}
use Rattle.clap.specs.Takes.{short_passes, step_passes, takes, turn_passes, use_passes, walk_passes}
use Rattle.clap.specs.declared.builder.ArgAction.{ArgAction}
use Rattle.clap.specs.declared.builder.ArgAction.TheVariants.{Set, Append, SetTrue, SetFalse, Count, Help}
use Rattle.clap.specs.declared.builder.ArgAction.TheVariants.{HelpShort, HelpLong, Version}
use Rattle.clap.specs.declared.builder.ValueParser.{ValueParser}
use Rattle.clap.specs.declared.error.kind.ErrorKind.{ErrorKind}
use Rattle.clap.specs.declared.error.kind.ErrorKind.TheVariants as kind
use Rattle.clap.proofs.FaultLemmas.{leaf_fault}
use Rattle.clap.proofs.TakesLemmas.{leaf_takes}

-- ---- tests and the kinds that they give

both : (a b : Bool) → a ≡ true → b ≡ true → (a && b) ≡ true
both a b x y = rw (x, y) refl

parts : (a b : Kinds) → or_else a b ≡ [] → (a ≡ []) × (b ≡ [])
parts [] b e = (refl, e)
parts (k ∷ ks) b e = cc

or_nothing : (b : Bool) (x : Kinds) (p : Bool) → (x ≡ [] → p ≡ true) → (if b then [] else x) ≡ []
    → (b || p) ≡ true
or_nothing true x p f e = refl
or_nothing false x p f e = f e

one_of_both : (b : Bool) (x y : Kinds) (p q : Bool) → (x ≡ [] → p ≡ true) → (y ≡ [] → q ≡ true)
    → (if b then x else y) ≡ [] → (if b then p else q) ≡ true
one_of_both true x y p q f g e = f e
one_of_both false x y p q f g e = g e

unless : (b : Bool) (k : ErrorKind) (x : Kinds) (p : Bool) → (x ≡ [] → p ≡ true)
    → (if b then k ∷ [] else x) ≡ [] → (not b && p) ≡ true
unless true k x p f e = cc
unless false k x p f e = f e

excused : (a b : Bool) (k : ErrorKind) (ks : Kinds) → (if a && not b then k ∷ ks else []) ≡ []
    → (not a || b) ≡ true
excused true true k ks e = refl
excused true false k ks e = cc
excused false b k ks e = refl

-- ---- values, and one use of an argument

value_taken : (i : Bool) (p : ValueParser) (t : Text) → value_kinds i p t ≡ [] → accepts i p t ≡ true
value_taken i p t = go (accepts i p t)
  where
    go : (b : Bool) → (if b then [] else refused_kind p ∷ []) ≡ [] → b ≡ true
    go true e = refl
    go false e = cc

values_taken : (i : Bool) (p : ValueParser) (ts : List Text) → values_kinds i p ts ≡ []
    → list_all (accepts i p) ts ≡ true
values_taken i p [] e = refl
values_taken i p (t ∷ ts) e =
    let h = parts _ _ e in
    both _ _ (value_taken i p t h.0) (values_taken i p ts h.1)

count_taken : (a : Rule) (ts : List Text) (rows : List Row) → count_fault a ts rows ≡ []
    → count_passes a ts rows ≡ true
count_taken a [] rows e =
    value_taken a.ignore_case (parser_of_value a.parser) (count_text (min (count_of a.id rows + 1) 255)) e
count_taken a (t ∷ ts) rows e = values_taken a.ignore_case (parser_of_value a.parser) (t ∷ ts) e

action_taken : (x : ArgAction) (again : Bool) (a : Rule) (ts : List Text) (rows : List Row)
    → action_fault x again a ts rows ≡ [] → action_passes x again a ts rows ≡ true
action_taken Set again a ts rows e =
    let h = parts _ _ e in
    both _ _ (excused (has_row a.id rows) again _ _ h.0)
    (values_taken a.ignore_case (parser_of_value a.parser) ts h.1)
action_taken SetTrue again a ts rows e =
    let h = parts _ _ e in
    both _ _ (excused (has_row a.id rows) again _ _ h.0)
    (values_taken a.ignore_case (parser_of_value a.parser) ts h.1)
action_taken SetFalse again a ts rows e =
    let h = parts _ _ e in
    both _ _ (excused (has_row a.id rows) again _ _ h.0)
    (values_taken a.ignore_case (parser_of_value a.parser) ts h.1)
action_taken Append again a ts rows e = values_taken a.ignore_case (parser_of_value a.parser) ts e
action_taken Count again a ts rows e = count_taken a ts rows e
action_taken Help again a ts rows e = cc
action_taken HelpShort again a ts rows e = cc
action_taken HelpLong again a ts rows e = cc
action_taken Version again a ts rows e = cc

in_range : (least most n : ℕ) → range_kinds least most n ≡ []
    → (nat_le least n ≡ true) × (nat_le n most ≡ true)
in_range least most n e = go (nat_lt 0 least && n == 0) (least == most) (least == n) (nat_lt n least)
    (nat_lt most n) refl refl refl refl e
  where
    go : (none one exact few many : Bool) → (least == most) ≡ one → (least == n) ≡ exact
        → nat_lt n least ≡ few → nat_lt most n ≡ many
        → (if none then kind.InvalidValue ∷ []
        else (if one then (if exact then [] else kind.WrongNumberOfValues ∷ [])
        else (if few then kind.TooFewValues ∷ []
        else (if many then kind.TooManyValues ∷ [] else [])))) ≡ []
        → (nat_le least n ≡ true) × (nat_le n most ≡ true)
    go true one exact few many p q r s e = cc
    go false true true few many p q r s e = (grind (arith, nat_tests), grind (arith, nat_tests))
    go false true false few many p q r s e = cc
    go false false exact true many p q r s e = cc
    go false false exact false true p q r s e = cc
    go false false exact false false p q r s e = (grind (arith, nat_tests), grind (arith, nat_tests))

use_taken : (again : Bool) (a : Rule) (ts : List Text) (rows : List Row) → use_fault again a ts rows ≡ []
    → use_passes again a ts rows ≡ true
use_taken again a ts rows e =
    let h = parts _ _ e in
    let range = in_range (unwrap_or_range a.range).start_inclusive (most_values a) (length ts) h.0 in
    both _ _ range.0 (both _ _ range.1 (action_taken (action_of a) again a (values_or_missing a ts) rows h.1))

-- ---- one word

settle_taken : (c : List Rule) (again : Bool) (h : Held) → settle_fault c again h ≡ []
    → settle_passes c again h ≡ true
settle_taken c again h = go h.pending
  where
    of_rule : (o : Option Rule) (ts : List Text) → option_map_or (λ a. use_fault again a ts h.rows) o [] ≡ []
        → option_map_or (λ a. use_passes again a ts h.rows) o true ≡ true
    of_rule None ts e = refl
    of_rule (Some a) ts e = use_taken again a ts h.rows e

    go : (o : Option (Text × List Text))
        → option_map_or (λ p. option_map_or (λ a. use_fault again a p.1 h.rows) (arg_by_id c p.0) []) o []
        ≡ []
        → option_map_or (λ p. option_map_or (λ a. use_passes again a p.1 h.rows) (arg_by_id c p.0) true) o
        true ≡ true
    go None e = refl
    go (Some p) e = of_rule (arg_by_id c p.0) p.1 e

react_taken : (c : List Rule) (again : Bool) (a : Rule) (ts : List Text) (h : Held)
    → react_fault c again a ts h ≡ [] → react_passes c again a ts h ≡ true
react_taken c again a ts h e =
    let f = parts _ _ e in
    both _ _ (settle_taken c again h f.0) (use_taken again a ts (settled c h).rows f.1)

option_taken : (c : List Rule) (again : Bool) (a : Rule) (v : Option Text) (h : Held)
    → option_fault c again a v h ≡ [] → option_passes c again a v h ≡ true
option_taken c again a (Some v) h e = react_taken c again a (v ∷ []) h e
option_taken c again a None h e = settle_taken c again h e

long_taken : (c : List Rule) (again : Bool) (o : Option Rule) (v : Option Text) (h : Held)
    → long_fault c again o v h ≡ [] → long_passes c again o v h ≡ true
long_taken c again None v h e = cc
long_taken c again (Some a) v h e =
    one_of_both (takes_values a) _ _ _ _ (option_taken c again a v h)
    (unless (is_some v) _ _ _ (react_taken c again a [] h)) e

short_taken : (c : List Rule) (again : Bool) (o : Option Rule) (rest : Text) (h : Held)
    (faults : Held → Kinds) (passes : Held → Bool)
    → ((k : Held) → faults k ≡ [] → passes k ≡ true) → short_fault c again o rest h faults ≡ []
    → short_passes c again o rest h passes ≡ true
short_taken c again None rest h faults passes more e = cc
short_taken c again (Some a) rest h faults passes more e =
    one_of_both (takes_values a) _ _ _ _ (option_taken c again a (attached_value rest) h)
    (λ f. let g = parts _ _ f in both _ _ (react_taken c again a [] h g.0) (more _ g.1)) e

step_of_bundle : (c : List Rule) (again : Bool) (o : Option ℕ) (flags : Text) (skip : ℕ) (h : Held)
    (faults : Text → ℕ → Held → Kinds) (passes : Text → ℕ → Held → Bool)
    → ((t : Text) (n : ℕ) (k : Held) → faults t n k ≡ [] → passes t n k ≡ true)
    → bundle_step_fault c again o flags skip h faults ≡ []
    → bundle_step_passes c again o flags skip h passes ≡ true
step_of_bundle c again None flags skip h faults passes more e = refl
step_of_bundle c again (Some x) flags zero h faults passes more e =
    let rest = drop (length (encode_utf8 x)) flags in
    short_taken c again (arg_by_short c x) rest h _ _ (more rest 0) e
step_of_bundle c again (Some x) flags (suc skip) h faults passes more e =
    more (drop (length (encode_utf8 x)) flags) skip h e

flags_taken : (c : List Rule) (again : Bool) (k : ℕ) (flags : Text) (skip : ℕ) (h : Held)
    → flags_fault c again k flags skip h ≡ [] → flags_pass c again k flags skip h ≡ true
unfolding flags_fault flags_pass
flags_taken c again zero flags skip h e = refl
flags_taken c again (suc k) flags skip h e =
    step_of_bundle c again (slice_get (chars flags) 0) flags skip h _ _ (flags_taken c again k) e

flag_word_taken : (c : List Rule) (again : Bool) (o : Option (Text × Option Text)) (word : Text) (h : Held)
    → flag_word_fault c again o word h ≡ [] → flag_word_passes c again o word h ≡ true
flag_word_taken c again (Some p) word h e = long_taken c again (arg_by_long c p.0) p.1 h e
flag_word_taken c again None word h e = go (short_of word) e
  where
    go : (o : Option Text) → option_map_or
        (λ flags. flags_fault c again (length flags) flags h.skip (record h { skip = 0 })) o [] ≡ []
        → option_map_or (λ flags. flags_pass c again (length flags) flags h.skip (record h { skip = 0 })) o
        true ≡ true
    go None e = refl
    go (Some flags) e = flags_taken c again (length flags) flags h.skip (record h { skip = 0 }) e

other_taken : (s : Shape) (o : Option Text) (word : Text) (h : Held) → other_fault s o word h ≡ []
    → other_passes s o word h ≡ true
other_taken s (Some name) word h e = excused (bytes_eq name (codes "help")) s.disable_help_subcommand _ _ e
other_taken s None word h e = or_nothing (bytes_eq word (45 ∷ 45 ∷ [])) _ _
    (flag_word_taken s.rules s.args_override_self (long_of word) word h) e

step_taken : (s : Shape) (position : ℕ) (h : Held) (x : Step) → step_fault s position h x ≡ []
    → step_passes s position h x ≡ true
step_taken s position h (next w) e = refl
step_taken s position h (trailing n) e = refl
step_taken s position h (subcommand name) e = refl
step_taken s position h value e = go (arg_by_index s.rules position) e
  where
    stray : (leaf : Bool) (k l m : ErrorKind) → (if leaf then k ∷ [] else l ∷ m ∷ []) ≡ [] → false ≡ true
    stray true k l m e = cc
    stray false k l m e = cc

    go : (o : Option Rule) → option_map_or (λ a. positional_fault s.rules s.args_override_self a h) o
        (stray_fault s) ≡ []
        → option_map_or (λ a. positional_passes s.rules s.args_override_self a h) o false ≡ true
    go None e = stray s.is_leaf _ _ _ e
    go (Some a) e = or_nothing (is_pending a h.pending && takes_several a) _ _
        (settle_taken s.rules s.args_override_self h) e

turn_taken : (s : Shape) (names : Names) (w : Walk) (word : Text) → turn_fault s names w word ≡ []
    → turn_passes s names w word ≡ true
turn_taken s names w word e =
    let met = word_met s.rules names w.is_trailing w.waiting w.position word w.held in
    or_nothing (is_some w.stopped) _ _ (λ f.
    let g = parts _ _ f in
    both _ _ (or_nothing w.is_trailing _ _
    (other_taken s (subcommand_met names w.waiting word) word w.held) g.0)
    (step_taken s w.position met.0 met.1 g.1)) e

walk_taken : (s : Shape) (names : Names) (w : Walk) (words : List Text) → walk_fault s names w words ≡ []
    → walk_passes s names w words ≡ true
unfolding walk_fault walk_passes
walk_taken s names w [] e = refl
walk_taken s names w (word ∷ rest) e =
    let f = parts _ _ e in
    both _ _ (turn_taken s names w word f.0) (walk_taken s names (walked s.rules names w word) rest f.1)

-- ---- the last checks

no_checks : (a b c : Bool) → check_kinds a b c ≡ [] → (a ≡ false) × (b ≡ false) × (c ≡ false)
no_checks true b c e = cc
no_checks false true c e = cc
no_checks false false true e = cc
no_checks false false false e = (refl, refl, refl)

all_given : (rows : List Row) (rules : List Rule)
    → list_any (λ a. a.required && not (is_given a.id rows)) rules ≡ false
    → list_all (λ a. not a.required || is_given a.id rows) rules ≡ true
all_given rows [] e = refl
all_given rows (a ∷ rest) e = go a.required (is_given a.id rows) (all_given rows rest) e
  where
    go : (required given : Bool)
        → (list_any (λ a. a.required && not (is_given a.id rows)) rest ≡ false
        → list_all (λ a. not a.required || is_given a.id rows) rest ≡ true)
        → (required && not given || list_any (λ a. a.required && not (is_given a.id rows)) rest) ≡ false
        → ((not required || given) && list_all (λ a. not a.required || is_given a.id rows) rest) ≡ true
    go true true f e = f e
    go true false f e = cc
    go false given f e = f e

checks_hold : (s : Shape) (rows : List Row) → list_all (λ a. a.is_free) s.rules ≡ true
    → check_fault s rows false ≡ [] → is_valid s rows false ≡ true
checks_hold s rows free e =
    let none = no_checks (s.arg_required_else_help && not (list_any (λ r. explicit_source r.source) rows))
    s.subcommand_required
    (not (s.subcommand_negates_reqs && false)
    && list_any (λ a. a.required && not (is_given a.id rows)) s.rules) e in
    both _ _ (unwanted s.arg_required_else_help (list_any (λ r. explicit_source r.source) rows) none.0)
    (both _ _ (unless_wanted s.subcommand_required none.1)
    (both _ _ free (go s.subcommand_negates_reqs none.2)))
  where
    unwanted : (a b : Bool) → (a && not b) ≡ false → (not a || b) ≡ true
    unwanted true true e = refl
    unwanted true false e = cc
    unwanted false b e = refl

    unless_wanted : (a : Bool) → a ≡ false → (not a || false) ≡ true
    unless_wanted true e = cc
    unless_wanted false e = refl

    go : (negates : Bool) → (not (negates && false)
        && list_any (λ a. a.required && not (is_given a.id rows)) s.rules) ≡ false
        → (negates && false || list_all (λ a. not a.required || is_given a.id rows) s.rules) ≡ true
    go true e = all_given rows s.rules e
    go false e = all_given rows s.rules e

level_taken : (s : Shape) (names : Names) (h : Held) (words : List Text)
    → list_all default_passes s.rules ≡ true → list_all (λ a. a.is_free) s.rules ≡ true
    → level_fault s names h words false [] ≡ [] → level_passes s names h words false ≡ true
level_taken s names h words defaults free e =
    let end = (walk s.rules names h words).held in
    let first = parts _ _ e in
    let second = parts _ _ first.1 in
    let third = parts _ _ second.1 in
    both _ _ (walk_taken s names (walk_from h) words first.0)
    (both _ _ (settle_taken s.rules s.args_override_self end second.0)
    (both _ _ defaults (checks_hold s (finished s.rules end) free third.1)))

-- a simple command without subcommands and defaults, whose arguments have no rule on one another
pub takes-without_fault : (a : App) (words : List Text) → is_simple a ≡ true → (built a).subs ≡ []
    → list_all default_passes (built a).top.rules ≡ true
    → list_all (λ r. r.is_free) (built a).top.rules ≡ true → fault_of a words ≡ [] → takes a words ≡ true
takes-without_fault a words simple leaf defaults free e =
    let rest = argument_words a words in
    let level = sym (leaf_fault (built a) nothing_held rest leaf) ∙ e in
    both _ _ simple (leaf_takes (built a) nothing_held rest leaf
    (level_taken (built a).top [] nothing_held rest defaults free level))
