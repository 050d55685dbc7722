-- A set of marks and one more, and names that have none.
use Rattle.std.proofs.Common.{◌≡◌, ℕ, suc, ◌<◌, ◌≤◌, ◌*◌, ◌%◌, ◌^◌, ◌==◌, ◌++◌, Bool, true, false, List, [], ◌∷◌}
use Rattle.std.proofs.Common.{None, Some, length, refl, ap, sym, subst, ◌∙◌, arith, max}
use Rattle.std.proofs.Math.Nat.{mod-eq_of_lt, mod-lt}
use Rattle.std.proofs.Math.Pow.{pow_mono}
use Rattle.std.proofs.lemmas.Bool.{eqb-true}
use Rattle.std.proofs.lemmas.Nat.Bits.{bit_at-lt, bit_at-pow_same, bit_at_or}
use Rattle.std.specs.Int.{bit_at}
use Rattle.std.specs.Int.Bits.{bit_or}
use Rattle.std.specs.Prelude.{bytes_eq, if◌then◌else◌}
use Rattle.std.specs.Option.{option_or}
use Rattle.std.specs.Cmp.Lexicographic.{same_text}
use Rattle.smt_forms.specs.Internal.Marks.{AreMarked, is_marked, mark_of}
use Rattle.smt_forms.specs.Internal.Places.{names_of, place_from}
use Rattle.smt_forms.specs.declared.places.Placed.{Placed}
use Rattle.smt_forms.proofs.PlaceLemmas.{names-append}

-- a mark of a word of 64 bits
shifted : (k : ℕ) → k < 64 → 1 * 2 ^ k % 18446744073709551616 ≡ 2 ^ k
shifted k small =
    let least : 2 ^ k ≤ 2 ^ 63 = pow_mono {i = k} {j = 63} (omega (arith, small)) in
    let below : 1 * 2 ^ k < 18446744073709551616 = omega (arith, least) in
    mod-eq_of_lt below ∙ omega arith

max-one : (a b : ℕ) → a < 2 → b ≡ 1 → max a b ≡ 1
max-one a b small is = omega (arith, small, is)

one-max : (a b : ℕ) → a ≡ 1 → b < 2 → max a b ≡ 1
one-max a b is small = omega (arith, small, is)

mark-small : (name : List ℕ) → mark_of name < 64
mark-small name = mod-lt _ (omega arith)

pub marked-own : (marks k : ℕ) (name : List ℕ) → k ≡ mark_of name
    → is_marked (bit_or marks (1 * 2 ^ k % 18446744073709551616)) name ≡ true
marked-own marks k name is =
    let m = mark_of name in
    let bits : 1 * 2 ^ k % 18446744073709551616 ≡ 2 ^ m =
    ap (λ n. 1 * 2 ^ n % 18446744073709551616) is ∙ shifted m (mark-small name) in
    ap (λ n. is_marked (bit_or marks n) name) bits
    ∙ ap (λ n. n == 1) (bit_at_or marks (2 ^ m) m
    ∙ max-one (bit_at marks m) (bit_at (2 ^ m) m) (bit_at-lt marks m) (bit_at-pow_same m))

pub marked-other : (marks more : ℕ) (name : List ℕ) → is_marked marks name ≡ true → is_marked (bit_or marks more) name ≡ true
marked-other marks more name h =
    let m = mark_of name in
    ap (λ n. n == 1) (bit_at_or marks more m
    ∙ one-max (bit_at marks m) (bit_at more m) (eqb-true (bit_at marks m) 1 h) (bit_at-lt more m))

-- no name of a set of marks that lacks this one's is this one
pub place-unmarked : (at marks : ℕ) (names : List (List ℕ)) (name : List ℕ) → AreMarked marks names
    → is_marked marks name ≡ false → place_from at names name ≡ None
place-unmarked at marks [] name are not = refl
place-unmarked at marks (x ∷ xs) name are not =
    by (bytes_eq name x) refl (place-unmarked (suc at) marks xs name are.1 not)
  where
    by : (b : Bool) → bytes_eq name x ≡ b → place_from (suc at) xs name ≡ None
        → option_or (place_from (suc at) xs name) (if b then Some at else None) ≡ None
    by true is rest =
        let same : name ≡ x = same_text name x (sym is) in
        let marked = are.0 in let has = ap (λ n. is_marked marks n) same in cc
    by false is rest = ap (λ o. option_or o None) rest

pub marked-append : (marks : ℕ) (names : List (List ℕ)) (name : List ℕ) → AreMarked marks names
    → is_marked marks name ≡ true → AreMarked marks (names ++ name ∷ [])
marked-append marks [] name are has = (has, record {})
marked-append marks (x ∷ xs) name are has = (are.0, marked-append marks xs name are.1 has)

pub marked-more : (old new : ℕ) (names : List (List ℕ))
    → ((name : List ℕ) → is_marked old name ≡ true → is_marked new name ≡ true) → AreMarked old names → AreMarked new names
marked-more old new [] more are = record {}
marked-more old new (x ∷ xs) more are = (more x are.0, marked-more old new xs more are.1)

pub marked-front : (marks : ℕ) (names : List (List ℕ)) (name : List ℕ) → AreMarked marks (names ++ name ∷ [])
    → AreMarked marks names
marked-front marks [] name are = record {}
marked-front marks (x ∷ xs) name are = (are.0, marked-front marks xs name are.1)

-- ---- places

pub marked-push : (old new : ℕ) (ns : List Placed) (added : Placed) → AreMarked old (names_of ns)
    → is_marked new added.name.now ≡ true → ((name : List ℕ) → is_marked old name ≡ true → is_marked new name ≡ true)
    → AreMarked new (names_of (ns ++ added ∷ []))
marked-push old new ns added are own more =
    subst (AreMarked new) (sym (names-append ns (added ∷ [])))
    (marked-append new (names_of ns) added.name.now (marked-more old new (names_of ns) more are) own)

pub marked-pop : (marks : ℕ) (ns : List Placed) (gone : Placed) → AreMarked marks (names_of (ns ++ gone ∷ []))
    → AreMarked marks (names_of ns)
marked-pop marks ns gone are =
    marked-front marks (names_of ns) gone.name.now (subst (AreMarked marks) (names-append ns (gone ∷ [])) are)

pub marked-none : (marks : ℕ) (ns : List Placed) → length ns ≡ 0 → AreMarked marks (names_of ns)
marked-none marks [] none = record {}
marked-none marks (n ∷ ns) none = cc
