-- What names of elements are read as: the character before the last digits tells where the name of the sort ends.
use Rattle.std.proofs.Common.{◌≡◌, ◌≢◌, ◌⊎◌, ◌↔◌, ℕ, suc, ◌+◌, ◌-◌, ◌<◌, ◌≤◌, Bool, true, false, not, ◌&&◌}
use Rattle.std.proofs.Common.{List, [], ◌∷◌, ◌++◌, length, take, drop, Option, Some, None, option_map, Bor, MatchOption}
use Rattle.std.proofs.Common.{refl, ap, sym, ◌∙◌, subst, inl, inr, arith, append_assoc, append-nil, get_or}
use Rattle.std.specs.Prelude.{codes, nat_eq, ◌==◌, option_and_then, if◌then◌else◌}
use Rattle.std.specs.Cmp.Lexicographic.{pointwise}
use Rattle.std.specs.Char.{is_ascii_digit}
use Rattle.std.specs.List.{list_all}
use Rattle.std.specs.Option.{option_or}
use Rattle.std.proofs.lemmas.Bool.{eq-eqb, eqb-true}
use Rattle.std.proofs.lemmas.Bool.Decides.{Decides-eqb}
use Rattle.std.proofs.lemmas.List.{append_cancel_right, drop_all, length-drop, take_all, take_more}
use Rattle.std.proofs.lemmas.Slice.Eq.{strip_prefix_is}
use Rattle.std.proofs.Math.Seq.{drop-cons}
use Rattle.smt_forms.specs.ElementNames.{before_numeral, behind, is_numeral, is_numeral_behind, sort_of_element}

-- ## What stands behind characters

behind_whole : (first rest : List ℕ) → behind first (first ++ rest) ≡ Some rest
behind_whole [] rest = refl
behind_whole (c ∷ cs) rest =
    ap (λ b. if b then behind cs (cs ++ rest) else None) (eq-eqb c c refl) ∙ behind_whole cs rest

behind_is : (first symbol rest : List ℕ) → behind first symbol ≡ Some rest → symbol ≡ first ++ rest
behind_is [] symbol rest h = cc
behind_is (c ∷ cs) [] rest h = cc
behind_is (c ∷ cs) (d ∷ ds) rest h = by (λ m. behind_is cs ds rest m) (c == d) refl h
  where
    by : (behind cs ds ≡ Some rest → ds ≡ cs ++ rest) → (b : Bool) → (c == d) ≡ b
        → (if b then behind cs ds else None) ≡ Some rest → d ∷ ds ≡ c ∷ (cs ++ rest)
    by more true e h = let s = eqb-true c d e in let m = more h in cc
    by more false e h = cc

behind_none : (first symbol : List ℕ) → ((rest : List ℕ) → symbol ≢ first ++ rest) → behind first symbol ≡ None
behind_none first symbol none = by (behind first symbol) refl
  where
    by : (o : Option (List ℕ)) → behind first symbol ≡ o → o ≡ None
    by None h = refl
    by (Some rest) h = absurd (none rest (behind_is first symbol rest h))

-- what the standard library's function answers
pub stripped : (first symbol : List ℕ) (r : Option (Bor (List ℕ)))
    → MatchOption r (pointwise nat_eq (take (length first) symbol) first ≡ false)
    (λ x. (pointwise nat_eq (take (length first) symbol) first ≡ true) × (x.now ≡ drop (length first) symbol)
    × (length x.now + length first ≡ length symbol))
    → option_map (λ x. x.now) r ≡ behind first symbol
stripped first symbol r h = by r (strip_prefix_is Decides-eqb symbol first r h)
  where
    by : (r : Option (Bor (List ℕ)))
        → MatchOption r ((rest : List ℕ) → symbol ≢ first ++ rest) (λ x. symbol ≡ first ++ x.now)
        → option_map (λ x. x.now) r ≡ behind first symbol
    by None h = sym (behind_none first symbol h)
    by (Some x) h = sym (ap (behind first) h ∙ behind_whole first x.now)

-- ## What stands before a mark and a numeral

abbrev Names : Type 0
Names = List ℕ

-- the answer at a character, by whether the mark and a numeral stand there
abbrev at_first : Names → ℕ → Names → Bool → Option Names
at_first mark c cs b = if b then Some [] else option_map (λ front. c ∷ front) (before_numeral mark cs)

map-map : (front : Names) (c : ℕ) (o : Option Names)
    → option_map (λ f. front ++ f) (option_map (λ f. c ∷ f) o) ≡ option_map (λ f. (front ++ c ∷ []) ++ f) o
map-map front c None = refl
map-map front c (Some f) = ap Some (sym (append_assoc front (c ∷ []) f))

-- the answer of the whole is that of what is left, with what came before put in front
abbrev pub IsLeft : (mark symbol : Names) → ℕ → Type 0
IsLeft mark symbol at =
    before_numeral mark symbol ≡ option_map (λ f. take at symbol ++ f) (before_numeral mark (drop at symbol))

whole : (symbol : Names) (at : ℕ) → take (length symbol - at) (drop at symbol) ≡ drop at symbol
whole symbol at = take_all (length symbol - at) (drop at symbol) (rw length-drop (omega arith))

pub all_left : (mark symbol : Names) → IsLeft mark symbol 0
all_left mark symbol = by (before_numeral mark symbol)
  where
    by : (o : Option Names) → o ≡ option_map (λ f. [] ++ f) o
    by None = refl
    by (Some f) = refl

pub passed : (mark symbol : Names) (at : ℕ) → at < length symbol
    → is_numeral_behind (behind mark (take (length symbol - at) (drop at symbol))) ≡ false
    → IsLeft mark symbol at → IsLeft mark symbol (at + 1)
passed mark symbol at l other h =
    let c = get_or symbol at 0 in
    let cs = drop (suc at) symbol in
    let cut = drop-cons symbol at 0 l in
    let no_here = ap (λ x. is_numeral_behind (behind mark x)) (sym (whole symbol at ∙ cut)) ∙ other in
    let next : suc at ≡ at + 1 = omega arith in
    h ∙ ap (λ o. option_map (λ f. take at symbol ++ f) o)
    (ap (before_numeral mark) cut ∙ ap (at_first mark c cs) no_here)
    ∙ map-map (take at symbol) c (before_numeral mark cs)
    ∙ ap (λ front. option_map (λ f. front ++ f) (before_numeral mark cs)) (sym (take_more symbol at 0 l))
    ∙ ap (λ k. option_map (λ f. take (at + 1) symbol ++ f) (before_numeral mark (drop k symbol))) next

pub found : (mark symbol : Names) (at : ℕ) → at < length symbol
    → is_numeral_behind (behind mark (take (length symbol - at) (drop at symbol))) ≡ true
    → IsLeft mark symbol at → Some (take at symbol) ≡ before_numeral mark symbol
found mark symbol at l here h =
    let c = get_or symbol at 0 in
    let cs = drop (suc at) symbol in
    let cut = drop-cons symbol at 0 l in
    let is_here = ap (λ x. is_numeral_behind (behind mark x)) (sym (whole symbol at ∙ cut)) ∙ here in
    sym (h ∙ ap (λ o. option_map (λ f. take at symbol ++ f) o)
    (ap (before_numeral mark) cut ∙ ap (at_first mark c cs) is_here) ∙ ap Some (append-nil (take at symbol)))

pub none_left : (mark symbol : Names) (at : ℕ) → length symbol ≤ at
    → IsLeft mark symbol at → None ≡ before_numeral mark symbol
none_left mark symbol at l h =
    sym (h ∙ ap (λ x. option_map (λ f. take at symbol ++ f) (before_numeral mark x)) (drop_all at symbol l))

-- ## The character before the last digits

second : (a b : Bool) → a && b ≡ true → b ≡ true
second true b h = h
second false b h = cc

abbrev AreDigits : Names → Type 0
AreDigits n = list_all is_ascii_digit n ≡ true

digits : (n : Names) → is_numeral n ≡ true → AreDigits n
digits [] h = cc
digits (d ∷ []) h = ap (λ b. b && true) h
digits (d ∷ e ∷ ds) h = second (not (d == 48)) (list_all is_ascii_digit (d ∷ e ∷ ds)) h

-- among digits stands no other character
inside : (b m n : Names) (d : ℕ) → AreDigits n → is_ascii_digit d ≡ false → n ≡ b ++ d ∷ m → ⊥
inside [] m n d all other e =
    let z : false ≡ true =
    sym (ap (λ b. b && list_all is_ascii_digit m) other) ∙ subst (λ l. AreDigits l) e all in
    cc
inside (x ∷ b) m n d all other e =
    inside b m (b ++ d ∷ m) d
    (second (is_ascii_digit x) (list_all is_ascii_digit (b ++ d ∷ m)) (subst (λ l. AreDigits l) e all)) other refl

last_place : (a b n m : Names) (c d : ℕ) → AreDigits n → AreDigits m → is_ascii_digit c ≡ false
    → is_ascii_digit d ≡ false → a ++ c ∷ n ≡ b ++ d ∷ m → (a ≡ b) × (c ≡ d)
last_place [] [] n m c d ns ms other_c other_d e = (refl, cc)
last_place [] (x ∷ b) n m c d ns ms other_c other_d e = absurd (inside b m n d ns other_d cc)
last_place (x ∷ a) [] n m c d ns ms other_c other_d e = absurd (inside a n m c ms other_c cc)
last_place (x ∷ a) (y ∷ b) n m c d ns ms other_c other_d e =
    let more = last_place a b n m c d ns ms other_c other_d cc in
    let first : x ≡ y = cc in
    let rest = more.0 in
    (cc, more.1)

-- a mark, by its last character and what stands before that
seam : (f ms n : Names) (c : ℕ) → (f ++ (ms ++ c ∷ [])) ++ n ≡ (f ++ ms) ++ c ∷ n
seam f ms n c =
    append_assoc f (ms ++ c ∷ []) n ∙ ap (λ l. f ++ l) (append_assoc ms (c ∷ []) n)
    ∙ sym (append_assoc f ms (c ∷ n))

same_front : (f g ms ks n m : Names) (c d : ℕ) → is_numeral n ≡ true → is_numeral m ≡ true
    → is_ascii_digit c ≡ false → is_ascii_digit d ≡ false
    → (f ++ (ms ++ c ∷ [])) ++ n ≡ (g ++ (ks ++ d ∷ [])) ++ m → (f ++ ms ≡ g ++ ks) × (c ≡ d)
same_front f g ms ks n m c d ns ms_are other_c other_d e =
    last_place (f ++ ms) (g ++ ks) n m c d (digits n ns) (digits m ms_are) other_c other_d
    (sym (seam f ms n c) ∙ e ∙ seam g ks m d)

-- ## What is found

-- a mark and a numeral end a symbol
abbrev pub Ends : (mark symbol front : Names) → Type 0
Ends mark symbol front = (n : Names) × (is_numeral n ≡ true) × (symbol ≡ (front ++ mark) ++ n)

before_is : (mark symbol f : Names) → before_numeral mark symbol ≡ Some f → Ends mark symbol f
before_is mark [] f h = cc
before_is mark (c ∷ cs) f h = by (λ g o. before_is mark cs g o) (is_numeral_behind (behind mark (c ∷ cs))) refl h
  where
    here : (o : Option Names) → behind mark (c ∷ cs) ≡ o → is_numeral_behind o ≡ true → Ends mark (c ∷ cs) []
    here None o is = cc
    here (Some n) o is = (n, is, behind_is mark (c ∷ cs) n o)

    behind_first : ((g : Names) → before_numeral mark cs ≡ Some g → Ends mark cs g) → (o : Option Names)
        → before_numeral mark cs ≡ o → option_map (λ front. c ∷ front) o ≡ Some f → Ends mark (c ∷ cs) f
    behind_first more None o e = cc
    behind_first more (Some g) o e =
        let r = more g o in
        let is : c ∷ g ≡ f = cc in
        subst (λ x. Ends mark (c ∷ cs) x) is (r.0, r.1, ap (λ l. c ∷ l) r.2)

    by : ((g : Names) → before_numeral mark cs ≡ Some g → Ends mark cs g) → (b : Bool)
        → is_numeral_behind (behind mark (c ∷ cs)) ≡ b → at_first mark c cs b ≡ Some f → Ends mark (c ∷ cs) f
    by more true is e =
        let empty : [] ≡ f = cc in
        subst (λ x. Ends mark (c ∷ cs) x) empty (here (behind mark (c ∷ cs)) refl is)
    by more false is e = behind_first more (before_numeral mark cs) refl e

some_found : (k : ℕ) (ks f n : Names) → is_numeral n ≡ true
    → (g : Names) × (before_numeral (k ∷ ks) ((f ++ k ∷ ks) ++ n) ≡ Some g)
some_found k ks [] n h =
    ([], ap (at_first (k ∷ ks) k (ks ++ n)) (ap is_numeral_behind (behind_whole (k ∷ ks) n) ∙ h))
some_found k ks (c ∷ cs) n h =
    by (some_found k ks cs n h) (is_numeral_behind (behind (k ∷ ks) (c ∷ ((cs ++ k ∷ ks) ++ n))))
  where
    by : (g : Names) × (before_numeral (k ∷ ks) ((cs ++ k ∷ ks) ++ n) ≡ Some g) → (b : Bool)
        → (g : Names) × (at_first (k ∷ ks) c ((cs ++ k ∷ ks) ++ n) b ≡ Some g)
    by r true = ([], refl)
    by r false = (c ∷ r.0, ap (λ o. option_map (λ front. c ∷ front) o) r.1)

-- a mark that ends in no digit is found where it stands
before_whole : (k : ℕ) (ks ms : Names) (c : ℕ) → k ∷ ks ≡ ms ++ c ∷ [] → is_ascii_digit c ≡ false → (f n : Names)
    → is_numeral n ≡ true → before_numeral (k ∷ ks) ((f ++ k ∷ ks) ++ n) ≡ Some f
before_whole k ks ms c is other f n h =
    let r = some_found k ks f n h in
    let s = before_is (k ∷ ks) ((f ++ k ∷ ks) ++ n) r.0 r.1 in
    let e = ap (λ x. (f ++ x) ++ n) (sym is) ∙ s.2 ∙ ap (λ x. (r.0 ++ x) ++ s.0) is in
    let same = append_cancel_right f r.0 ms (same_front f r.0 ms ms n s.0 c c h s.1 other other e).0 in
    r.1 ∙ ap Some (sym same)

-- ## Elements

abbrev uc_sort : Names → Option Names
uc_sort symbol = option_and_then (before_numeral (codes "_")) (behind (codes "@uc_") symbol)

val_whole : (f n : Names) → is_numeral n ≡ true
    → before_numeral (codes "!val!") ((f ++ codes "!val!") ++ n) ≡ Some f
val_whole = before_whole 33 (codes "val!") (codes "!val") 33 refl refl

uc_whole : (f n : Names) → is_numeral n ≡ true → before_numeral (codes "_") ((f ++ codes "_") ++ n) ≡ Some f
uc_whole = before_whole 95 [] [] 95 refl refl

pub named : (sort n : Names) → is_numeral n ≡ true → sort_of_element (sort ++ codes "!val!" ++ n) ≡ Some sort
named sort n h = ap (λ o. option_or o (uc_sort (sort ++ codes "!val!" ++ n))) (val_whole sort n h)

apart : {A : Type 0} (c d : ℕ) → (c == d) ≡ false → c ≡ d → A
apart c d other same = let e = eq-eqb c d same in cc

-- no symbol ends in both ways
no_val : (sort n : Names) → is_numeral n ≡ true
    → before_numeral (codes "!val!") (codes "@uc_" ++ sort ++ codes "_" ++ n) ≡ None
no_val sort n h = by (before_numeral (codes "!val!") (codes "@uc_" ++ sort ++ codes "_" ++ n)) refl
  where
    by : (o : Option Names) → before_numeral (codes "!val!") (codes "@uc_" ++ sort ++ codes "_" ++ n) ≡ o
        → o ≡ None
    by None e = refl
    by (Some g) e =
        let s = before_is (codes "!val!") (codes "@uc_" ++ sort ++ codes "_" ++ n) g e in
        apart 95 33 refl
        (same_front (codes "@uc_" ++ sort) g [] (codes "!val") n s.0 95 33 h s.1 refl refl s.2).1

named_uc : (sort n : Names) → is_numeral n ≡ true
    → sort_of_element (codes "@uc_" ++ sort ++ codes "_" ++ n) ≡ Some sort
named_uc sort n h =
    let symbol = codes "@uc_" ++ sort ++ codes "_" ++ n in
    ap (λ o. option_or o (uc_sort symbol)) (no_val sort n h)
    ∙ ap (option_and_then (before_numeral (codes "_"))) (behind_whole (codes "@uc_") (sort ++ codes "_" ++ n))
    ∙ uc_whole sort n h

abbrev pub IsNamed : (symbol sort : Names) → Type 0
IsNamed symbol sort =
    (n : Names) × (is_numeral n ≡ true)
    × ((symbol ≡ sort ++ codes "!val!" ++ n) ⊎ (symbol ≡ codes "@uc_" ++ sort ++ codes "_" ++ n))

pub alone : (symbol sort : Names) → (sort_of_element symbol ≡ Some sort) ↔ IsNamed symbol sort
alone symbol sort = (by (before_numeral (codes "!val!") symbol) refl, back)
  where
    by_uc : (o : Option Names) → behind (codes "@uc_") symbol ≡ o
        → option_and_then (before_numeral (codes "_")) o ≡ Some sort → IsNamed symbol sort
    by_uc None o e = cc
    by_uc (Some rest) o e =
        let s = before_is (codes "_") rest sort e in
        (s.0, s.1, inr (behind_is (codes "@uc_") symbol rest o ∙ ap (λ l. codes "@uc_" ++ l) s.2))

    by : (o : Option Names) → before_numeral (codes "!val!") symbol ≡ o
        → option_or o (uc_sort symbol) ≡ Some sort → IsNamed symbol sort
    by None o e = by_uc (behind (codes "@uc_") symbol) refl e
    by (Some g) o e =
        let s = before_is (codes "!val!") symbol sort (o ∙ e) in
        (s.0, s.1, inl s.2)

    of_form : (n : Names) → is_numeral n ≡ true
        → (symbol ≡ sort ++ codes "!val!" ++ n) ⊎ (symbol ≡ codes "@uc_" ++ sort ++ codes "_" ++ n)
        → sort_of_element symbol ≡ Some sort
    of_form n h (inl e) = ap sort_of_element e ∙ named sort n h
    of_form n h (inr e) = ap sort_of_element e ∙ named_uc sort n h

    back : IsNamed symbol sort → sort_of_element symbol ≡ Some sort
    back h = of_form h.0 h.1 h.2
