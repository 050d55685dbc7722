-- Which pairs the assertions in force come from.
use Rattle.std.proofs.Common.{◌≡◌, ◌≤◌, ◌+◌, ℕ, Bool, true, false, ◌&&◌, ◌||◌, List, [], ◌∷◌, ◌++◌, length}
use Rattle.std.proofs.Common.{cond, refl, ap, sym, ◌∙◌, subst, arith, append-nil, append_assoc}
use Rattle.std.specs.List.{list_any}
use Rattle.smt_trees.specs.Sexp.{Sexp}
use Rattle.smt_script.specs.Command.{Command, Assert}
use Rattle.smt_script.specs.Stack.{Assertion, KeepLevels, Numbered, Stands, assertions_in_force}
use Rattle.smt_script.specs.Stack.{depth_in_force, is_reset}
use Rattle.smt_dialogue.proofs.StructureLemmas.{one_more}
use Rattle.smt_dialogue.specs.InForce.{assertions_after, levels_after}
use Rattle.smt_dialogue.specs.Pairs.{Pair, effective_commands, effective_from, is_effective}
use Rattle.smt_dialogue.specs.Validity.{IsAsserted}
use Rattle.smt_theory.specs.declared.profile.Profile.{Profile}

-- the laws of the assertions in force: those of commands that stand
abbrev pub AssertionsStand : Type 0
AssertionsStand = (profile : Profile) (commands earlier : List Numbered) (c : Numbered) (term : Sexp)
    → Stands commands earlier c
    → c.command ≡ Assert term
    → (first last : List Assertion)
    × (assertions_in_force profile commands ≡ first ++ record { command = c.number; term = term } ∷ last)

abbrev pub AssertionsAreFound : Type 0
AssertionsAreFound = (profile : Profile) (commands : List Numbered) (first last : List Assertion) (a : Assertion)
    → assertions_in_force profile commands ≡ first ++ a ∷ last
    → (earlier : List Numbered) × (c : Numbered) × Stands commands earlier c × (c.command ≡ Assert a.term)
    × (c.number ≡ a.command)

abbrev pub numbered : ℕ → Command → Numbered
numbered n c = record { number = n; command = c }

-- ## The command of an assertion in force stands

pub asserted_stands : (before earlier : List Pair) (term : Sexp) → IsAsserted before earlier term
    → Stands (effective_commands before) (effective_commands earlier)
    (numbered (length earlier + 1) (Assert term))
asserted_stands before earlier term x =
    subst (λ (c : Command). Stands (effective_commands before) (effective_commands earlier)
    (numbered (length earlier + 1) c)) x.command x.stands

-- ## The pair that a command comes from

-- the pairs, the first of which is command n, in which a command stands behind these
record Source (n : ℕ) (pairs : List Pair) (first : List Numbered) (c : Numbered) : Type 0 where
  pub earlier : List Pair
  pub pair : Pair
  pub between : List Pair
  pub place : pairs ≡ earlier ++ pair ∷ between
  pub effective : is_effective pair ≡ true
  pub command : pair.command ≡ c.command
  pub number : c.number ≡ n + length earlier
  pub before_it : effective_from n earlier ≡ first

head_same : {A : Type 0} {x y : A} {xs ys : List A} → x ∷ xs ≡ y ∷ ys → x ≡ y
head_same h = cc

tail_same : {A : Type 0} {x y : A} {xs ys : List A} → x ∷ xs ≡ y ∷ ys → xs ≡ ys
tail_same h = cc

-- the same behind one more pair
source_later : (n : ℕ) (p : Pair) (ps : List Pair) (b : Bool) (front first : List Numbered) (c : Numbered)
    → is_effective p ≡ b → cond b (numbered n p.command ∷ []) [] ++ front ≡ first → Source (n + 1) ps front c
    → Source n (p ∷ ps) first c
source_later n p ps b front first c is whole g = record {
  earlier = p ∷ g.earlier;
  pair = g.pair;
  between = g.between;
  place = ap (λ (xs : List Pair). p ∷ xs) g.place;
  effective = g.effective;
  command = g.command;
  number = g.number ∙ omega arith;
  before_it = ap (λ (t : Bool). cond t (numbered n p.command ∷ []) [] ++ effective_from (n + 1) g.earlier) is
      ∙ ap (λ (l : List Numbered). cond b (numbered n p.command ∷ []) [] ++ l) g.before_it
      ∙ whole;
}

source_by : (n : ℕ) (p : Pair) (ps : List Pair) (first : List Numbered) (c : Numbered) (last : List Numbered)
    (b : Bool) → is_effective p ≡ b
    → ((front : List Numbered) → effective_from (n + 1) ps ≡ front ++ c ∷ last
    → Source (n + 1) ps front c)
    → cond b (numbered n p.command ∷ []) [] ++ effective_from (n + 1) ps ≡ first ++ c ∷ last
    → Source n (p ∷ ps) first c
source_by n p ps first c last false is later h =
    source_later n p ps false first first c is refl (later first h)
source_by n p ps [] c last true is later h =
    let same : numbered n p.command ≡ c = head_same h in
    record {
      earlier = [];
      pair = p;
      between = ps;
      place = refl;
      effective = is;
      command = ap (λ (d : Numbered). d.command) same;
      number = sym (ap (λ (d : Numbered). d.number) same) ∙ omega arith;
      before_it = refl;
    }
source_by n p ps (x ∷ first) c last true is later h =
    source_later n p ps true first (x ∷ first) c is (ap (λ (d : Numbered). d ∷ first) (head_same h))
    (later first (tail_same h))

source : (n : ℕ) (pairs : List Pair) (first : List Numbered) (c : Numbered) (last : List Numbered)
    → effective_from n pairs ≡ first ++ c ∷ last → Source n pairs first c
source n [] [] c last h = absurd (cc)
source n [] (x ∷ first) c last h = absurd (cc)
source n (p ∷ ps) first c last h =
    source_by n p ps first c last (is_effective p) refl (λ front e. source (n + 1) ps front c last e) h

numbered_same : (n : ℕ) (d : Command) (c : Numbered) → n ≡ c.number → d ≡ c.command → numbered n d ≡ c
numbered_same n d c is_n is_d =
    ap (λ (k : ℕ). numbered k d) is_n ∙ ap (λ (e : Command). numbered c.number e) is_d

-- where an assertion in force comes from
pub record ComesFrom (before : List Pair) (a : Assertion) : Type 0 where
  pub earlier : List Pair
  pub asserted : IsAsserted before earlier a.term
  pub number : a.command ≡ length earlier + 1

pub comes_from : (before : List Pair) (first : List Numbered) (c : Numbered) (a : Assertion)
    → Stands (effective_commands before) first c → c.command ≡ Assert a.term → c.number ≡ a.command
    → ComesFrom before a
comes_from before first c a s is_assert is_number =
    let g = source 1 before first c s.later s.place in
    let number : length g.earlier + 1 ≡ c.number = omega (arith, g.number) in
    let same : c ≡ numbered (length g.earlier + 1) g.pair.command =
    sym (numbered_same (length g.earlier + 1) g.pair.command c number g.command) in
    record {
      earlier = g.earlier;
      asserted = record {
        pair = g.pair;
        between = g.between;
        place = g.place;
        command = g.command ∙ is_assert;
        effective = g.effective;
        stands = subst (λ (d : Numbered). Stands (effective_commands before) (effective_commands g.earlier) d)
            same (subst (λ (l : List Numbered). Stands (effective_commands before) l c) (sym g.before_it) s);
      };
      number = sym is_number ∙ sym number;
    }

-- ## Assertions in force, by pairs

-- an assertion in force is one of a pair that stands
pub asserted_from : (profile : Profile) → AssertionsAreFound
    → (before : List Pair) (first last : List Assertion) (a : Assertion)
    → assertions_after profile before ≡ first ++ a ∷ last
    → (earlier : List Pair) × IsAsserted before earlier a.term × (a.command ≡ length earlier + 1)
asserted_from profile found before first last a h =
    let standing = found profile (effective_commands before) first last a h in
    let source = comes_from before standing.0 standing.1 a standing.2 standing.3 standing.4 in
    (source.earlier, source.asserted, source.number)

pub asserted_in_force : (profile : Profile) → AssertionsStand → (before earlier : List Pair) (term : Sexp)
    → IsAsserted before earlier term
    → (first last : List Assertion)
    × (assertions_after profile before ≡ first ++ record { command = length earlier + 1; term = term } ∷ last)
asserted_in_force profile stand before earlier term asserted =
    stand profile (effective_commands before) (effective_commands earlier)
    (numbered (length earlier + 1) (Assert term)) term (asserted_stands before earlier term asserted) refl

-- an assertion that takes effect is in force behind itself
pub asserted_here : (before : List Pair) (p : Pair) (term : Sexp) → p.command ≡ Assert term
    → is_effective p ≡ true → IsAsserted (before ++ p ∷ []) before term
asserted_here before p term command effective = record {
  pair = p;
  between = [];
  place = refl;
  command = command;
  effective = effective;
  stands = record { later = []; place = one_more before p true effective; no_reset = refl; levels = tt };
}

keep_more : (level : ℕ) (before xs : List Numbered) (c : Numbered) → KeepLevels level before xs
    → level ≤ depth_in_force ((before ++ xs) ++ c ∷ []) → KeepLevels level before (xs ++ c ∷ [])
keep_more level before [] c kept enough =
    (subst (λ (cs : List Numbered). level ≤ depth_in_force (cs ++ c ∷ [])) (append-nil before) enough, tt)
keep_more level before (x ∷ xs) c kept enough = (
  kept.0,
  keep_more level (before ++ x ∷ []) xs c kept.1
      (subst (λ (cs : List Numbered). level ≤ depth_in_force (cs ++ c ∷ []))
      (sym (append_assoc before (x ∷ []) xs)) enough),
)

none_more : (xs : List Numbered) (c : Numbered) → list_any (λ (d : Numbered). is_reset d.command) xs ≡ false
    → is_reset c.command ≡ false → list_any (λ (d : Numbered). is_reset d.command) (xs ++ c ∷ []) ≡ false
none_more [] c none other = rw other refl
none_more (x ∷ xs) c none other = by (is_reset x.command) (λ h. none_more xs c h other) none
  where
    by : (b : Bool) → (list_any (λ (d : Numbered). is_reset d.command) xs ≡ false
        → list_any (λ (d : Numbered). is_reset d.command) (xs ++ c ∷ []) ≡ false)
        → b || list_any (λ (d : Numbered). is_reset d.command) xs ≡ false
        → b || list_any (λ (d : Numbered). is_reset d.command) (xs ++ c ∷ []) ≡ false
    by true on h = cc
    by false on h = on h

-- what stands does so behind one more command that removes nothing of its level
stands_more : (commands earlier : List Numbered) (c d : Numbered) → Stands commands earlier c
    → is_reset d.command ≡ false
    → depth_in_force (earlier ++ c ∷ []) ≤ depth_in_force (commands ++ d ∷ [])
    → Stands (commands ++ d ∷ []) earlier c
stands_more commands earlier c d s other enough =
    let behind : (earlier ++ c ∷ []) ++ s.later ≡ commands =
    append_assoc earlier (c ∷ []) s.later ∙ sym s.place in
    record {
      later = s.later ++ d ∷ [];
      place = ap (λ (cs : List Numbered). cs ++ d ∷ []) s.place
          ∙ append_assoc earlier (c ∷ s.later) (d ∷ []);
      no_reset = none_more s.later d s.no_reset other;
      levels = keep_more (depth_in_force (earlier ++ c ∷ [])) (earlier ++ c ∷ []) s.later d s.levels
          (subst (λ (cs : List Numbered). depth_in_force (earlier ++ c ∷ []) ≤ depth_in_force (cs ++ d ∷ []))
          (sym behind) enough);
    }

-- it stays behind one more pair that removes nothing of its level
pub asserted_stays : (before earlier : List Pair) (p : Pair) (term : Sexp)
    → (a : IsAsserted before earlier term) → is_effective p && is_reset p.command ≡ false
    → levels_after (earlier ++ a.pair ∷ []) ≤ levels_after (before ++ p ∷ [])
    → IsAsserted (before ++ p ∷ []) earlier term
asserted_stays before earlier p term a other enough =
    let level : depth_in_force (effective_commands earlier ++ c ∷ []) ≤ levels_after (before ++ p ∷ []) =
    subst (λ (cs : List Numbered). depth_in_force cs ≤ levels_after (before ++ p ∷ []))
    (one_more earlier a.pair true a.effective) enough in
    record {
      pair = a.pair;
      between = a.between ++ p ∷ [];
      place = ap (λ (bs : List Pair). bs ++ p ∷ []) a.place
          ∙ append_assoc earlier (a.pair ∷ a.between) (p ∷ []);
      command = a.command;
      effective = a.effective;
      stands = by (is_effective p) refl other level;
    }
  where
    c : Numbered
    c = numbered (length earlier + 1) a.pair.command

    by : (b : Bool) → is_effective p ≡ b → b && is_reset p.command ≡ false
        → depth_in_force (effective_commands earlier ++ c ∷ []) ≤ levels_after (before ++ p ∷ [])
        → Stands (effective_commands (before ++ p ∷ [])) (effective_commands earlier) c
    by true is other' level =
        let d = numbered (length before + 1) p.command in
        subst (λ (cs : List Numbered). Stands cs (effective_commands earlier) c) (sym (one_more before p true is))
        (stands_more (effective_commands before) (effective_commands earlier) c d a.stands other'
        (subst (λ (cs : List Numbered). depth_in_force (effective_commands earlier ++ c ∷ []) ≤ depth_in_force cs)
        (one_more before p true is) level))
    by false is other' level =
        subst (λ (cs : List Numbered). Stands cs (effective_commands earlier) c)
        (sym (one_more before p false is ∙ append-nil (effective_commands before))) a.stands
