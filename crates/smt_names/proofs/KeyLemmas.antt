-- Keys of names.
use Rattle.std.proofs.Common.{◌≡◌, ℕ, zero, suc, ◌+◌, ◌-◌, ◌*◌, ◌/◌, ◌<◌, ◌≤◌, Bool, true, false, List, [], ◌∷◌}
use Rattle.std.proofs.Common.{length, drop, take, get_or, refl, ap, sym, ◌∙◌, arith, ◌++◌}
use Rattle.std.proofs.lemmas.List.{take-append-drop, length-take, length-drop}
use Rattle.std.proofs.lemmas.Nat.{le_bytes_4}
use Rattle.std.proofs.lemmas.Bool.{lt-ltb, le-leb, lt-leb, ltb-true, ltb-false}
use Rattle.std.proofs.lemmas.Cmp.{nat_list_eq_equiv}
use Rattle.std.specs.Cmp.Lexicographic.{same_text}
use Rattle.std.proofs.lemmas.List.{drop-drop}
use Rattle.std.specs.Prelude.{bytes_eq, bit_xor}
use Rattle.std.proofs.Math.Dec.{ltb}
use Rattle.std.specs.Int.{w32, w64, from_le_bytes}
use Rattle.smt_names.specs.Internal.Keys.{AreBytes, tiny_key, short_key, long_key, key_of, mixed_of}
use Rattle.smt_names.specs.Internal.Keys.{front_key, lane_after}

pub tiny-one : (xs : List ℕ) (a : ℕ) → length xs ≡ 1 → a ≡ get_or xs 0 0 → a ≡ tiny_key xs
unfolding tiny_key
tiny-one [] a l x = absurd (omega arith)
tiny-one (y ∷ []) a l x = x
tiny-one (y ∷ z ∷ ys) a l x = absurd (omega arith)

pub tiny-two : (xs : List ℕ) (a b : ℕ) → length xs ≡ 2 → a ≡ get_or xs 0 0 → b ≡ get_or xs 1 0
    → a + b * 256 ≡ tiny_key xs
unfolding tiny_key
tiny-two [] a b l x y = absurd (omega arith)
tiny-two (p ∷ []) a b l x y = absurd (omega arith)
tiny-two (p ∷ q ∷ []) a b l x y = omega arith
tiny-two (p ∷ q ∷ r ∷ ps) a b l x y = absurd (omega arith)

pub tiny-three : (xs : List ℕ) (a b c : ℕ) → length xs ≡ 3 → a ≡ get_or xs 0 0 → b ≡ get_or xs 1 0
    → c ≡ get_or xs 2 0 → a + b * 256 + c * 65536 ≡ tiny_key xs
unfolding tiny_key
tiny-three [] a b c l x y z = absurd (omega arith)
tiny-three (p ∷ []) a b c l x y z = absurd (omega arith)
tiny-three (p ∷ q ∷ []) a b c l x y z = absurd (omega arith)
tiny-three (p ∷ q ∷ r ∷ []) a b c l x y z = omega arith
tiny-three (p ∷ q ∷ r ∷ s ∷ ps) a b c l x y z = absurd (omega arith)

pub tiny-none : (xs : List ℕ) → length xs ≡ 0 → 0 ≡ tiny_key xs
unfolding tiny_key
tiny-none [] l = refl
tiny-none (x ∷ xs) l = absurd (omega arith)

tiny-same : (a b : List ℕ) → AreBytes a → AreBytes b → length a ≡ length b → length a < 4
    → tiny_key a ≡ tiny_key b → a ≡ b
unfolding tiny_key
tiny-same [] [] p q l s e = refl
tiny-same [] (y ∷ b) p q l s e = absurd (omega arith)
tiny-same (x ∷ a) [] p q l s e = absurd (omega arith)
tiny-same (x ∷ []) (y ∷ []) p q l s e = ap (λ n. n ∷ []) e
tiny-same (x ∷ []) (y ∷ y' ∷ b) p q l s e = absurd (omega arith)
tiny-same (x ∷ x' ∷ a) (y ∷ []) p q l s e = absurd (omega arith)
tiny-same (x ∷ x' ∷ []) (y ∷ y' ∷ []) p q l s e = two x x' y y' (p 0) (p 1) (q 0) (q 1) e
  where
    two : (x x' y y' : ℕ) → x < 256 → x' < 256 → y < 256 → y' < 256 → x + x' * 256 ≡ y + y' * 256
        → x ∷ x' ∷ [] ≡ y ∷ y' ∷ []
    two x x' y y' a b c d e =
        let f : x ≡ y = omega arith in
        let g : x' ≡ y' = omega arith in
        cc
tiny-same (x ∷ x' ∷ []) (y ∷ y' ∷ y'' ∷ b) p q l s e = absurd (omega arith)
tiny-same (x ∷ x' ∷ x'' ∷ a) (y ∷ y' ∷ []) p q l s e = absurd (omega arith)
tiny-same (x ∷ x' ∷ x'' ∷ []) (y ∷ y' ∷ y'' ∷ []) p q l s e =
    three x x' x'' y y' y'' (p 0) (p 1) (p 2) (q 0) (q 1) (q 2) e
  where
    three : (x x' x'' y y' y'' : ℕ) → x < 256 → x' < 256 → x'' < 256 → y < 256 → y' < 256 → y'' < 256
        → x + x' * 256 + x'' * 65536 ≡ y + y' * 256 + y'' * 65536
        → x ∷ x' ∷ x'' ∷ [] ≡ y ∷ y' ∷ y'' ∷ []
    three x x' x'' y y' y'' a b c d e f g =
        let h : x ≡ y = omega arith in
        let i : x' ≡ y' = omega arith in
        let j : x'' ≡ y'' = omega arith in
        cc
tiny-same (x ∷ x' ∷ x'' ∷ []) (y ∷ y' ∷ y'' ∷ y''' ∷ b) p q l s e = absurd (omega arith)
tiny-same (x ∷ x' ∷ x'' ∷ x''' ∷ a) b p q l s e = absurd (omega arith)

-- ## The key of a length

pub key-tiny : (xs : List ℕ) → length xs < 4 → key_of xs ≡ tiny_key xs
unfolding key_of
key-tiny xs h = rw (lt-ltb (length xs) 4 h)

pub key-short : (xs : List ℕ) → 4 ≤ length xs → length xs ≤ 8 → key_of xs ≡ short_key xs
unfolding key_of
key-short xs h l = rw (lt-leb (suc (length xs)) 4 (omega arith), le-leb (length xs) 8 l)

pub key-long : (xs : List ℕ) → 8 < length xs → key_of xs ≡ long_key xs
unfolding key_of
key-long xs h = rw (lt-leb (suc (length xs)) 4 (omega arith), lt-leb (length xs) 8 h)

-- four bytes by their number
four-same : (a b : List ℕ) (m : ℕ) → length a ≡ 4 → length b ≡ 4 → AreBytes a → AreBytes b
    → m ≡ from_le_bytes w32 a → m ≡ from_le_bytes w32 b → a ≡ b
four-same a b m l k p q e f = sym (le_bytes_4 a m l p e) ∙ le_bytes_4 b m k q f

four-less : (a : List ℕ) → length a ≡ 4 → AreBytes a → from_le_bytes w32 a < 4294967296
four-less a l p = omega (arith, p 0, p 1, p 2, p 3)

take-bytes : (n : ℕ) (a : List ℕ) → AreBytes a → AreBytes (take n a)
take-bytes zero a p i = omega arith
take-bytes (suc n) [] p i = omega arith
take-bytes (suc n) (x ∷ a) p zero = p 0
take-bytes (suc n) (x ∷ a) p (suc i) = take-bytes n a (λ j. p (suc j)) i

drop-bytes : (n : ℕ) (a : List ℕ) → AreBytes a → AreBytes (drop n a)
drop-bytes zero a p i = p i
drop-bytes (suc n) [] p i = omega arith
drop-bytes (suc n) (x ∷ a) p i = drop-bytes n a (λ j. p (suc j)) i

short-same : (a b : List ℕ) → AreBytes a → AreBytes b → length a ≡ length b → 4 ≤ length a → length a ≤ 8
    → short_key a ≡ short_key b → a ≡ b
unfolding short_key
short-same a b p q l s t e =
    let b4 : 4 ≤ length b = omega arith in
    let ta : length (take 4 a) ≡ 4 = omega (arith, length-take 4 a) in
    let tb : length (take 4 b) ≡ 4 = omega (arith, length-take 4 b) in
    let da : length (drop (length a - 4) a) ≡ 4 = omega (arith, length-drop (length a - 4) a) in
    let db : length (drop (length b - 4) b) ≡ 4 = omega (arith, length-drop (length b - 4) b) in
    let ba = take-bytes 4 a p in
    let bb = take-bytes 4 b q in
    let ca = drop-bytes (length a - 4) a p in
    let cb = drop-bytes (length b - 4) b q in
    let both = apart (from_le_bytes w32 (take 4 a)) (from_le_bytes w32 (take 4 b))
    (from_le_bytes w32 (drop (length a - 4) a)) (from_le_bytes w32 (drop (length b - 4) b))
    (four-less (take 4 a) ta ba) (four-less (take 4 b) tb bb) e in
    let front = four-same (take 4 a) (take 4 b) (from_le_bytes w32 (take 4 a)) ta tb ba bb refl both.0 in
    let back = four-same (drop (length a - 4) a) (drop (length b - 4) b)
    (from_le_bytes w32 (drop (length a - 4) a)) da db ca cb refl both.1 in
    overlap a b (length a - 4) l (omega arith) front (back ∙ ap (λ n. drop (n - 4) b) (sym l))
  where
    apart : (x x' y y' : ℕ) → x < 4294967296 → x' < 4294967296 → x + y * 4294967296 ≡ x' + y' * 4294967296
        → (x ≡ x') × (y ≡ y')
    apart x x' y y' f g e = (omega arith, omega arith)

    overlap : (a b : List ℕ) (k : ℕ) → length a ≡ length b → k ≤ 4 → take 4 a ≡ take 4 b → drop k a ≡ drop k b
        → a ≡ b
    overlap a b k l h f g =
        let four : k + (4 - k) ≡ 4 = omega arith in
        let same : drop 4 a ≡ drop 4 b =
        sym (drop-drop (4 - k) k a ∙ ap (λ n. drop n a) four)
        ∙ ap (λ xs. drop (4 - k) xs) g ∙ drop-drop (4 - k) k b ∙ ap (λ n. drop n b) four in
        sym (take-append-drop 4 a) ∙ ap (λ xs. xs ++ drop 4 a) f ∙ ap (λ xs. take 4 b ++ xs) same
        ∙ take-append-drop 4 b

pub key-same : (a b : List ℕ) → AreBytes a → AreBytes b → length a ≡ length b → length a ≤ 8
    → key_of a ≡ key_of b → a ≡ b
key-same a b p q l s e = by (ltb (length a) 4) refl
  where
    by : (t : Bool) → ltb (length a) 4 ≡ t → a ≡ b
    by true is =
        let h = ltb-true (length a) 4 is in
        tiny-same a b p q l h (sym (key-tiny a h) ∙ e ∙ key-tiny b (omega arith))
    by false is =
        let h = ltb-false (length a) 4 is in
        short-same a b p q l h s (sym (key-short a h s) ∙ e ∙ key-short b (omega arith) (omega arith))

-- ## A hash

abbrev pub IsHashed : List ℕ → List ℕ → ℕ → ℕ → Type 0
IsHashed name left even odd =
    (k : ℕ) × ((k * 16 + length left ≡ length name) × (left ≡ drop (k * 16) name)
    × (even ≡ lane_after (length name) 0 name k) × (odd ≡ lane_after 0 8 name k))

pub hash-begun : (name : List ℕ) → IsHashed name name (length name) 0
unfolding lane_after
hash-begun name = (0, (omega arith, refl, refl, refl))

-- one more step of a hash
lane-more : (seed at : ℕ) (name left : List ℕ) (k hash : ℕ) → left ≡ drop (k * 16 + at) name
    → hash ≡ lane_after seed at name k
    → mixed_of (bit_xor hash (from_le_bytes w64 (take 8 left))) ≡ lane_after seed at name (suc k)
unfolding lane_after
lane-more seed at name left k hash d e =
    ap (λ n. mixed_of (bit_xor n (from_le_bytes w64 (take 8 left)))) e
    ∙ ap (λ xs. mixed_of (bit_xor (lane_after seed at name k) (from_le_bytes w64 (take 8 xs)))) d

pub hash-more : (name left rest : List ℕ) (even odd : ℕ) → IsHashed name left even odd → 16 ≤ length left
    → rest ≡ drop 8 left → IsHashed name (drop 8 rest)
    (mixed_of (bit_xor even (from_le_bytes w64 (take 8 left))))
    (mixed_of (bit_xor odd (from_le_bytes w64 (take 8 rest))))
hash-more name left rest even odd (k, (l, d, e, o)) h r =
    let begun : k * 16 ≡ k * 16 + 0 = omega arith in
    let next : k * 16 + 8 + 8 ≡ suc k * 16 = omega arith in
    let behind : rest ≡ drop (k * 16 + 8) name = r ∙ ap (λ xs. drop 8 xs) d ∙ drop-drop 8 (k * 16) name in
    let shorter = length-drop 8 left in
    let shortest = length-drop 8 rest in
    let same = ap (λ (xs : List ℕ). length xs) r in (
      suc k,
      (
        omega (arith, shorter, shortest, same),
        ap (λ xs. drop 8 xs) behind ∙ drop-drop 8 (k * 16 + 8) name ∙ ap (λ n. drop n name) next,
        lane-more (length name) 0 name left k even (d ∙ ap (λ n. drop n name) begun) e,
        lane-more 0 8 name rest k odd behind o,
      ),
    )

pub hash-done : (name left : List ℕ) (even odd first last : ℕ) → IsHashed name left even odd → length left < 16
    → first ≡ from_le_bytes w64 (take 8 (drop (length name - 16) name))
    → last ≡ from_le_bytes w64 (drop (length name - 8) name)
    → mixed_of (bit_xor (bit_xor (mixed_of (bit_xor even first)) odd) last) ≡ long_key name
unfolding long_key
hash-done name left even odd first last (k, (l, d, e, o)) h f is =
    let all : k ≡ length name / 16 = omega arith in
    let even_is = e ∙ ap (λ n. lane_after (length name) 0 name n) all in
    let odd_is = o ∙ ap (λ n. lane_after 0 8 name n) all in
    ap (λ n. mixed_of (bit_xor (bit_xor (mixed_of (bit_xor n first)) odd) last)) even_is
    ∙ ap (λ n. mixed_of (bit_xor (bit_xor (mixed_of
    (bit_xor (lane_after (length name) 0 name (length name / 16)) n)) odd) last)) f
    ∙ ap (λ n. mixed_of (bit_xor (bit_xor (front_key name) n) last)) odd_is
    ∙ ap (λ n. mixed_of (bit_xor (bit_xor (front_key name) (lane_after 0 8 name (length name / 16))) n)) is

-- ## Whether two names are the same

pub same_names : (a b : List ℕ) → a ≡ b → true ≡ bytes_eq a b
same_names a b e = sym (ap (λ x. bytes_eq a x) (sym e) ∙ nat_list_eq_equiv.refl a)

pub other_names : (a b : List ℕ) → (a ≡ b → ⊥) → false ≡ bytes_eq a b
other_names a b differ = by (bytes_eq a b) refl
  where
    by : (t : Bool) → t ≡ bytes_eq a b → false ≡ t
    by true e = absurd (differ (same_text a b e))
    by false e = refl
