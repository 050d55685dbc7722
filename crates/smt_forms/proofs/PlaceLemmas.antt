-- Places of names, one more name or one fewer at the end.
use Rattle.std.proofs.Common.{◌≡◌, ℕ, zero, suc, ◌+◌, ◌-◌, ◌<◌, ◌≤◌, Bool, true, false, cond, List, [], ◌∷◌}
use Rattle.std.proofs.Common.{◌++◌}
use Rattle.std.proofs.Common.{length, drop, take, Option, Some, None, refl, ap, sym, ◌∙◌, arith, add-zero}
use Rattle.std.proofs.Common.{get_or, Result, Ok, Err}
use Rattle.std.proofs.Common.{OnOk, OnErr}
use Rattle.std.proofs.Common.{append_assoc, append-nil}
use Rattle.std.proofs.lemmas.List.{drop-append-le, drop_all, length-drop, length-take, length-append}
use Rattle.std.proofs.lemmas.List.{take_more}
use Rattle.std.proofs.lemmas.List.{take-append-drop}
use Rattle.std.proofs.lemmas.Option.{none-some}
use Rattle.std.proofs.lemmas.Cmp.{nat_list_eq_equiv}
use Rattle.std.specs.Cmp.Lexicographic.{same_text}
use Rattle.std.specs.Prelude.{bytes_eq, if◌then◌else◌}
use Rattle.std.specs.Map.{update}
use Rattle.std.specs.Option.{option_flatten, option_or}
use Rattle.smt_theory.specs.Words.{look_up}
use Rattle.smt_names.specs.Entries.{entries_of}
use Rattle.smt_names.specs.declared.map.NameMap.{NameMap}
use Rattle.smt_forms.specs.declared.places.Placed.{Placed}
use Rattle.smt_forms.specs.Internal.Places.{AreHiding, IsIndexed, names_of, place_from, place_in}

abbrev Names : Type 0
Names = List (List ℕ)

or_assoc : (a b c : Option ℕ) → option_or (option_or a b) c ≡ option_or a (option_or b c)
or_assoc None b c = refl
or_assoc (Some x) b c = refl

or_none : (o : Option ℕ) → option_or o None ≡ o
or_none None = refl
or_none (Some x) = refl

-- names and names behind them
pub place-append : (at : ℕ) (xs ys : Names) (name : List ℕ)
    → place_from at (xs ++ ys) name ≡ option_or (place_from (at + length xs) ys name) (place_from at xs name)
place-append at [] ys name = rw add-zero (sym (or_none (place_from at ys name)))
place-append at (x ∷ xs) ys name =
    let last = if bytes_eq name x then Some at else None in
    let shifted : suc at + length xs ≡ at + suc (length xs) = omega arith in
    ap (λ o. option_or o last) (place-append (suc at) xs ys name)
    ∙ or_assoc (place_from (suc at + length xs) ys name) (place_from (suc at) xs name) last
    ∙ ap (λ n. option_or (place_from n ys name) (place_from at (x ∷ xs) name)) shifted

-- one more name
pub place-push : (at : ℕ) (xs : Names) (y name : List ℕ)
    → place_from at (xs ++ y ∷ []) name
    ≡ (if bytes_eq name y then Some (at + length xs) else place_from at xs name)
place-push at xs y name =
    place-append at xs (y ∷ []) name ∙ by (bytes_eq name y) (place_from at xs name)
  where
    by : (b : Bool) (o : Option ℕ) → option_or (option_or None (cond b (Some (at + length xs)) None)) o
        ≡ cond b (Some (at + length xs)) o
    by true o = refl
    by false o = refl

pub names-append : (xs ys : List Placed) → names_of (xs ++ ys) ≡ names_of xs ++ names_of ys
names-append [] ys = refl
names-append (x ∷ xs) ys = ap (λ ns. x.name.now ∷ ns) (names-append xs ys)

pub length-names : (xs : List Placed) → length (names_of xs) ≡ length xs
length-names [] = refl
length-names (x ∷ xs) = ap suc (length-names xs)

-- ## What is hidden

pub hiding-push : (few : ℕ) (before : Names) (ns : List Placed) (n : Placed) → AreHiding few before ns
    → n.hidden ≡ place_from few (drop few (before ++ names_of ns)) n.name.now
    → AreHiding few before (ns ++ n ∷ [])
hiding-push few before [] n h is = (rw (← append-nil before) is, tt)
hiding-push few before (m ∷ ms) n h is =
    (h.0, hiding-push few (before ++ m.name.now ∷ []) ms n h.1 (rw append_assoc is))

pub hiding-front : (few : ℕ) (before : Names) (ns : List Placed) (n : Placed)
    → AreHiding few before (ns ++ n ∷ []) → AreHiding few before ns
hiding-front few before [] n h = tt
hiding-front few before (m ∷ ms) n h = (h.0, hiding-front few (before ++ m.name.now ∷ []) ms n h.1)

pub hiding-last : (few : ℕ) (before : Names) (ns : List Placed) (n : Placed)
    → AreHiding few before (ns ++ n ∷ [])
    → n.hidden ≡ place_from few (drop few (before ++ names_of ns)) n.name.now
hiding-last few before [] n h = rw (append-nil before) h.0
hiding-last few before (m ∷ ms) n h =
    rw (← append_assoc before (m.name.now ∷ []) (names_of ms))
    (hiding-last few (before ++ m.name.now ∷ []) ms n h.1)

-- ## One more name behind the few

late : (few : ℕ) (ns : List Placed) (n : Placed) (name : List ℕ) → few ≤ length ns
    → place_from few (drop few (names_of (ns ++ n ∷ []))) name
    ≡ (if bytes_eq name n.name.now then Some (length ns) else place_from few (drop few (names_of ns)) name)
late few ns n name h =
    let xs = names_of ns in
    let long : few ≤ length xs = omega (arith, length-names ns) in
    let size : few + length (drop few xs) ≡ length ns = omega (arith, length-names ns, length-drop few xs) in
    ap (λ ys. place_from few (drop few ys) name) (names-append ns (n ∷ []))
    ∙ ap (λ ys. place_from few ys name) (drop-append-le few xs (n.name.now ∷ []) long)
    ∙ place-push few (drop few xs) n.name.now name
    ∙ ap (λ k. if bytes_eq name n.name.now then Some k else place_from few (drop few xs) name) size

-- few names, all of them before the map
early : (few : ℕ) (ns : List Placed) (name : List ℕ) → length ns ≤ few
    → place_from few (drop few (names_of ns)) name ≡ None
early few ns name h =
    let short : length (names_of ns) ≤ few = omega (arith, length-names ns) in
    ap (λ ys. place_from few ys name) (drop_all few (names_of ns) short)

-- ## The map, one name more or fewer

pub indexed-none : (few : ℕ) (m : NameMap (Option ℕ)) → entries_of m ≡ [] → IsIndexed few [] m
indexed-none few m h = record {
  found = λ name. ap (λ es. option_flatten (look_up es name)) h ∙ sym (early few [] name (omega arith));
  hiding = tt;
}

pub indexed-few : (few : ℕ) (ns : List Placed) (n : Placed) (m : NameMap (Option ℕ))
    → length ns < few → n.hidden ≡ None → IsIndexed few ns m → IsIndexed few (ns ++ n ∷ []) m
indexed-few few ns n m l none i =
    let short : length (ns ++ n ∷ []) ≤ few = omega (arith, length-append ns (n ∷ [])) in
    record {
      found = λ name. i.found name ∙ early few ns name (omega arith)
          ∙ sym (early few (ns ++ n ∷ []) name short);
      hiding = hiding-push few [] ns n i.hiding (none ∙ sym (early few ns n.name.now (omega arith)));
    }

pub indexed-front : (few : ℕ) (ns : List Placed) (n : Placed) (m : NameMap (Option ℕ))
    → length ns < few → IsIndexed few (ns ++ n ∷ []) m → IsIndexed few ns m
indexed-front few ns n m l i =
    let short : length (ns ++ n ∷ []) ≤ few = omega (arith, length-append ns (n ∷ [])) in
    record {
      found = λ name. i.found name ∙ early few (ns ++ n ∷ []) name short
          ∙ sym (early few ns name (omega arith));
      hiding = hiding-front few [] ns n i.hiding;
    }

pub indexed-push : (few : ℕ) (ns : List Placed) (n : Placed) (m m' : NameMap (Option ℕ)) (k : ℕ)
    → few ≤ length ns → k ≡ length ns → n.hidden ≡ place_in m n.name.now
    → ((name : List ℕ) → place_in m' name ≡ update bytes_eq (place_in m) n.name.now (Some k) name)
    → IsIndexed few ns m → IsIndexed few (ns ++ n ∷ []) m'
indexed-push few ns n m m' k l at hides after i =
    record {
      found = λ name. after name
          ∙ ap (λ j. if bytes_eq n.name.now name then Some j else place_in m name) at
          ∙ ap (λ b. if b then Some (length ns) else place_in m name) (nat_list_eq_equiv.symm n.name.now name)
          ∙ ap (λ o. if bytes_eq name n.name.now then Some (length ns) else o) (i.found name)
          ∙ sym (late few ns n name l);
      hiding = hiding-push few [] ns n i.hiding (hides ∙ i.found n.name.now);
    }

pub indexed-pop : (few : ℕ) (ns : List Placed) (n : Placed) (m m' : NameMap (Option ℕ))
    (hidden : Option ℕ) → few ≤ length ns → n.hidden ≡ hidden
    → ((name : List ℕ) → place_in m' name ≡ update bytes_eq (place_in m) n.name.now hidden name)
    → IsIndexed few (ns ++ n ∷ []) m → IsIndexed few ns m'
indexed-pop few ns n m m' hidden l same after i =
    record {
      found = λ name. after name
          ∙ ap (λ o. if bytes_eq n.name.now name then o else place_in m name) (sym same)
          ∙ by name (bytes_eq n.name.now name) refl;
      hiding = hiding-front few [] ns n i.hiding;
    }
  where
    by : (name : List ℕ) (b : Bool) → bytes_eq n.name.now name ≡ b
        → cond b n.hidden (place_in m name) ≡ place_from few (drop few (names_of ns)) name
    by name true is =
        hiding-last few [] ns n i.hiding
        ∙ ap (λ x. place_from few (drop few (names_of ns)) x) (same_text n.name.now name (sym is))
    by name false is =
        i.found name ∙ late few ns n name l
        ∙ ap (λ b. if b then Some (length ns) else place_from few (drop few (names_of ns)) name)
        (nat_list_eq_equiv.symm name n.name.now ∙ is)

-- a name at the end has a place
pub last-known : (few : ℕ) (ns : List Placed) (n : Placed) (m : NameMap (Option ℕ))
    → few ≤ length ns → IsIndexed few (ns ++ n ∷ []) m → place_in m n.name.now ≡ Some (length ns)
last-known few ns n m l i =
    i.found n.name.now ∙ late few ns n n.name.now l
    ∙ ap (λ b. if b then Some (length ns) else place_from few (drop few (names_of ns)) n.name.now)
    (nat_list_eq_equiv.refl n.name.now)

-- ## A search from the last name to the first

pub back-one : (ns : List Placed) (k : ℕ) (d : Placed) (name : List ℕ) → 0 < k → k ≤ length ns
    → place_from 0 (names_of (take k ns)) name
    ≡ (if bytes_eq name (get_or ns (k - 1) d).name.now then Some (k - 1)
    else place_from 0 (names_of (take (k - 1) ns)) name)
back-one ns k d name p l =
    let at = k - 1 in
    let n = get_or ns at d in
    let front = names_of (take at ns) in
    let next : k ≡ at + 1 = omega arith in
    let inside : at < length ns = omega arith in
    let size : 0 + length front ≡ at =
    omega (arith, length-names (take at ns), length-take at ns) in
    ap (λ i. place_from 0 (names_of (take i ns)) name) next
    ∙ ap (λ xs. place_from 0 (names_of xs) name) (take_more ns at d inside)
    ∙ ap (λ xs. place_from 0 xs name) (names-append (take at ns) (n ∷ []))
    ∙ place-push 0 front n.name.now name
    ∙ ap (λ i. if bytes_eq name n.name.now then Some i else place_from 0 front name) size

pub back-found : (ns : List Placed) (k : ℕ) (d : Placed) (name : List ℕ) (b : Bool) → 0 < k → k ≤ length ns
    → b ≡ bytes_eq name (get_or ns (k - 1) d).name.now → b ≡ true
    → place_from 0 (names_of (take k ns)) name ≡ Some (k - 1)
back-found ns k d name b p l is same =
    back-one ns k d name p l
    ∙ ap (λ t. if t then Some (k - 1) else place_from 0 (names_of (take (k - 1) ns)) name) (sym is ∙ same)

pub back-more : (ns : List Placed) (k : ℕ) (d : Placed) (name : List ℕ) (b : Bool) → 0 < k → k ≤ length ns
    → b ≡ bytes_eq name (get_or ns (k - 1) d).name.now → b ≡ false
    → place_from 0 (names_of (take k ns)) name ≡ place_from 0 (names_of (take (k - 1) ns)) name
back-more ns k d name b p l is other =
    back-one ns k d name p l
    ∙ ap (λ t. if t then Some (k - 1) else place_from 0 (names_of (take (k - 1) ns)) name) (sym is ∙ other)

-- ## The whole, by the map and the few

names-drop : (n : ℕ) (ns : List Placed) → names_of (drop n ns) ≡ drop n (names_of ns)
names-drop zero ns = refl
names-drop (suc n) [] = refl
names-drop (suc n) (x ∷ xs) = names-drop n xs

whole : (few : ℕ) (ns : List Placed) (m : NameMap (Option ℕ)) (name : List ℕ) → few ≤ length ns
    → IsIndexed few ns m → place_from 0 (names_of ns) name
    ≡ option_or (place_in m name) (place_from 0 (names_of (take few ns)) name)
whole few ns m name l i =
    let front = names_of (take few ns) in
    let size : 0 + length front ≡ few = omega (arith, length-names (take few ns), length-take few ns) in
    ap (λ ys. place_from 0 (names_of ys) name) (sym (take-append-drop few ns))
    ∙ ap (λ xs. place_from 0 xs name) (names-append (take few ns) (drop few ns))
    ∙ place-append 0 front (names_of (drop few ns)) name
    ∙ ap (λ k. option_or (place_from k (names_of (drop few ns)) name) (place_from 0 front name)) size
    ∙ ap (λ xs. option_or (place_from few xs name) (place_from 0 front name)) (names-drop few ns)
    ∙ ap (λ o. option_or o (place_from 0 front name)) (sym (i.found name))

pub found-late : (few : ℕ) (ns : List Placed) (m : NameMap (Option ℕ)) (name : List ℕ) (k : ℕ)
    → few ≤ length ns → IsIndexed few ns m → place_in m name ≡ Some k
    → place_from 0 (names_of ns) name ≡ Some k
found-late few ns m name k l i is =
    whole few ns m name l i ∙ ap (λ o. option_or o (place_from 0 (names_of (take few ns)) name)) is

pub found-early : (few : ℕ) (ns : List Placed) (m : NameMap (Option ℕ)) (name : List ℕ)
    → few ≤ length ns → IsIndexed few ns m → place_in m name ≡ None
    → place_from 0 (names_of ns) name ≡ place_from 0 (names_of (take few ns)) name
found-early few ns m name l i is =
    whole few ns m name l i ∙ ap (λ o. option_or o (place_from 0 (names_of (take few ns)) name)) is

-- ## What the map has of a name

-- a name that has a place stands for one
stands_for : (o : Option (Option ℕ)) (k : ℕ) → option_flatten o ≡ Some k → o ≡ Some (Some k)
stands_for None k is = cc
stands_for (Some p) k is = ap (λ q. Some q) is

-- a place that is written, among those of all names
pub placed_alone : (m m' : NameMap (Option ℕ)) (name : List ℕ) (place : Option ℕ)
    → ((other : List ℕ) → look_up (entries_of m') other
    ≡ (if bytes_eq name other then Some place else look_up (entries_of m) other))
    → (other : List ℕ) → place_in m' other ≡ update bytes_eq (place_in m) name place other
placed_alone m m' name place alone other =
    ap option_flatten (alone other) ∙ by (bytes_eq name other) (look_up (entries_of m) other)
  where
    by : (b : Bool) (o : Option (Option ℕ)) → option_flatten (cond b (Some place) o) ≡ cond b place (option_flatten o)
    by true o = refl
    by false o = refl

-- what a write of a name that is there makes: it takes no memory
pub written : {T E P : Type 0} (r : Result T E) (o : Option (Option ℕ)) (k : ℕ) → OnOk r P → OnErr r (o ≡ None)
    → option_flatten o ≡ Some k → P
written (Ok v) o k h i is = h
written (Err f) o k h i is = absurd (none-some (Some k) (sym i ∙ stands_for o k is))
