-- The logics of the profile Wide, by their theories.
use Rattle.std.proofs.Common.{◌≡◌, ℕ, Bool, true, false, cond, ◌&&◌, ◌||◌, List, [], ◌∷◌}
use Rattle.std.proofs.Common.{◌++◌, take, drop, Option, Some, refl, ap, sym, ◌∙◌, subst}
use Rattle.std.specs.Prelude.{bytes_eq, codes}
use Rattle.std.specs.List.{filter, list_any}
use Rattle.std.proofs.lemmas.List.{take-append-drop}
use Rattle.std.proofs.lemmas.Slice.Eq.{bytes_eq-Decides}
use Rattle.smt_theory.specs.Theories.{AreWideLogicsOf, base_theories, base_theories_named, first_with}
use Rattle.smt_theory.specs.Theories.{is_logic_of_bit_vectors, is_logic_of_integers, is_spelled, theories_by}
use Rattle.smt_theory.specs.Theories.{theories_named, wide_logics, without_letters}
use Rattle.smt_theory.specs.declared.profile.Profile.TheVariants.{Wide}
use Rattle.smt_theory.specs.declared.theories.Theories.{Theories}
use Rattle.smt_theory.proofs.LookUpLemmas.{Each}

-- rows of letters with names
abbrev Rows : Type 0
Rows = List (List ℕ × List (List ℕ))

abbrev is_same_bool : Bool → Bool → Bool
is_same_bool true b = b
is_same_bool false true = false
is_same_bool false false = true

same_bool : (b : Bool) → is_same_bool b b ≡ true
same_bool true = refl
same_bool false = refl

-- whether theories are the same
abbrev is_same : Theories → Theories → Bool
is_same t u = is_same_bool t.ints u.ints && (is_same_bool t.bits u.bits
    && (is_same_bool t.reals u.reals && (is_same_bool t.arrays u.arrays && is_same_bool t.wide u.wide)))

both : (a b : Bool) → a ≡ true → b ≡ true → a && b ≡ true
both true b h g = g
both false b h g = cc

same : (t u : Theories) → t ≡ u → is_same t u ≡ true
same t u e = subst (λ (v : Theories). is_same t v ≡ true) e
    (both _ _ (same_bool t.ints) (both _ _ (same_bool t.bits)
    (both _ _ (same_bool t.reals) (both _ _ (same_bool t.arrays) (same_bool t.wide)))))

-- the rows with these theories
abbrev rows_of : Theories → Rows → Rows
rows_of t rows = filter (λ row. is_same (theories_by row.0) t) rows

abbrev has_name : List ℕ → List ℕ × List (List ℕ) → Bool
has_name name row = list_any (bytes_eq name) row.1

or_left : (a b : Bool) → a ≡ true → a || b ≡ true
or_left true b h = refl
or_left false b h = cc

or_right : (a b : Bool) → b ≡ true → a || b ≡ true
or_right true b h = refl
or_right false b h = h

either : {A : Type 0} (a b : Bool) → a || b ≡ true → (a ≡ true → A) → (b ≡ true → A) → A
either true b h f g = f refl
either false b h f g = g h

-- the theories of a name are those of a row that has it
found : (rows : Rows) (name : List ℕ) (t : Theories) → first_with rows name ≡ Some t
    → list_any (has_name name) (rows_of t rows) ≡ true
found [] name t h = cc
found (row ∷ rows) name t h = by (has_name name row) refl h (λ g. found rows name t g)
  where
    later : (b c : Bool) (xs : Rows) → list_any (has_name name) xs ≡ true
        → list_any (has_name name) (cond b (row ∷ xs) xs) ≡ true
    later true c xs h = or_right (has_name name row) _ h
    later false c xs h = h

    here : (b : Bool) → b ≡ true → has_name name row ≡ true → (xs : Rows)
        → list_any (has_name name) (cond b (row ∷ xs) xs) ≡ true
    here true h has xs = ap (λ c. c || list_any (has_name name) xs) has
    here false h has xs = cc

    by : (b : Bool) → has_name name row ≡ b
        → cond b (Some (theories_by row.0)) (first_with rows name) ≡ Some t
        → (first_with rows name ≡ Some t → list_any (has_name name) (rows_of t rows) ≡ true)
        → list_any (has_name name) (rows_of t (row ∷ rows)) ≡ true
    by true has h next =
        let e : theories_by row.0 ≡ t = cc in
        here (is_same (theories_by row.0) t) (same (theories_by row.0) t e) has (rows_of t rows)
    by false has h next = later (is_same (theories_by row.0) t) true (rows_of t rows) (next h)

spelled : (logic name : List ℕ) → without_letters logic ≡ name → is_spelled logic name ≡ true
spelled logic name e = by (bytes_eq (take 3 logic) (codes "QF_"))
    (bytes_eq-Decides (take 3 logic) (codes "QF_")).0 e
  where
    by : (b : Bool) → (b ≡ true → take 3 logic ≡ codes "QF_")
        → cond b (drop 3 logic) logic ≡ name → is_spelled logic name ≡ true
    by true front e = or_right (bytes_eq logic name) _ ((bytes_eq-Decides logic (codes "QF_" ++ name)).1
        (sym (take-append-drop 3 logic) ∙ ap (λ xs. xs ++ drop 3 logic) (front refl)
        ∙ ap (λ xs. codes "QF_" ++ xs) e))
    by false front e = or_left _ _ ((bytes_eq-Decides logic name).1 e)

all_spelled : (logic : List ℕ) (names : List (List ℕ))
    → list_any (bytes_eq (without_letters logic)) names ≡ true → list_any (is_spelled logic) names ≡ true
all_spelled logic [] h = h
all_spelled logic (name ∷ names) h = either (bytes_eq (without_letters logic) name) _ h
    (λ is. or_left _ _ (spelled logic name ((bytes_eq-Decides (without_letters logic) name).0 is)))
    (λ rest. or_right (is_spelled logic name) _ (all_spelled logic names rest))

-- a name is that of a logic with these theories, in both its forms
abbrev pub IsLogicOf : Theories → List ℕ → Type 0
IsLogicOf t name = (theories_named Wide name ≡ Some t) × (theories_named Wide (codes "QF_" ++ name) ≡ Some t)

named : (t : Theories) (logic : List ℕ) (names : List (List ℕ)) → Each (IsLogicOf t) names
    → list_any (is_spelled logic) names ≡ true → theories_named Wide logic ≡ Some t
named t logic [] each h = cc
named t logic (name ∷ names) each h = either (is_spelled logic name) _ h
    (λ here. either (bytes_eq logic name) _ here
    (λ is. ap (theories_named Wide) ((bytes_eq-Decides logic name).0 is) ∙ each.0.0)
    (λ is. ap (theories_named Wide) ((bytes_eq-Decides logic (codes "QF_" ++ name)).0 is) ∙ each.0.1))
    (λ rest. named t logic names each.1 rest)

or_false : (b : Bool) → b || false ≡ true → b ≡ true
or_false true h = refl
or_false false h = h

-- the logics of theories are those of their row
pub logics_of : (t : Theories) (letters : List ℕ) (names : List (List ℕ))
    → rows_of t wide_logics ≡ (letters, names) ∷ [] → Each (IsLogicOf t) names → AreWideLogicsOf t names
logics_of t letters names row each logic = (
  λ h. all_spelled logic names (or_false _ (sym (ap (list_any (has_name (without_letters logic))) row)
      ∙ found wide_logics (without_letters logic) t h)),
  named t logic names each,
)

-- what the profile Wide has is wide
pub wide_named : (rows : Rows) (name : List ℕ) (t : Theories) → first_with rows name ≡ Some t
    → t.wide ≡ true
wide_named [] name t h = cc
wide_named (row ∷ rows) name t h = by (has_name name row) h (wide_named rows name t)
  where
    by : (b : Bool) → cond b (Some (theories_by row.0)) (first_with rows name) ≡ Some t
        → (first_with rows name ≡ Some t → t.wide ≡ true) → t.wide ≡ true
    by true h next =
        let e : theories_by row.0 ≡ t = cc in
        sym (ap (λ (u : Theories). u.wide) e)
    by false h next = next h

-- theories with these integers and bit vectors, which the profile Wide has for the logic
abbrev pub IsTakenAs : List ℕ → Theories → Type 0
IsTakenAs logic t = (more : Theories) × (theories_named Wide logic ≡ Some more) × (more.ints ≡ t.ints)
    × (more.bits ≡ t.bits)

any_named : (logic : List ℕ) (more : Theories) (names : List (List ℕ))
    → Each (λ name. theories_named Wide name ≡ Some more) names → list_any (bytes_eq logic) names ≡ true
    → theories_named Wide logic ≡ Some more
any_named logic more [] each h = cc
any_named logic more (name ∷ names) each h = either (bytes_eq logic name) _ h
    (λ is. ap (theories_named Wide) ((bytes_eq-Decides logic name).0 is) ∙ each.0)
    (λ rest. any_named logic more names each.1 rest)

first_taken : (logic : List ℕ) (b : Bool) (t u : Theories) (rest : Option Theories)
    → (b ≡ true → IsTakenAs logic t) → (rest ≡ Some u → IsTakenAs logic u) → cond b (Some t) rest ≡ Some u
    → IsTakenAs logic u
first_taken logic true t u rest here next h = let e : t ≡ u = cc in subst (IsTakenAs logic) e (here refl)
first_taken logic false t u rest here next h = next h

-- what the profile Base takes the profile Wide takes
pub taken_wide : (logic : List ℕ) (t : Theories) → base_theories_named logic ≡ Some t → IsTakenAs logic t
taken_wide logic t h =
    first_taken logic (bytes_eq logic (codes "QF_UF")) (base_theories false false) t _
    (λ is. (
      theories_by (codes ""),
      any_named logic _ (codes "QF_UF" ∷ []) (refl, tt) (or_left _ _ is),
      refl,
      refl,
    ))
    (first_taken logic (is_logic_of_integers logic) (base_theories true false) t _
    (λ is. (
      theories_by (codes "I"),
      any_named logic _ (codes "QF_IDL" ∷ codes "QF_LIA" ∷ codes "QF_NIA"
          ∷ codes "QF_UFIDL" ∷ codes "QF_UFLIA" ∷ codes "QF_UFNIA" ∷ []) (
            refl,
            (
              refl,
              (
                refl,
                (
                  refl,
                  (
                    refl,
                    (
                      refl,
                      tt,
                    ),
                  ),
                ),
              ),
            ),
          ) is,
      refl,
      refl,
    ))
    (first_taken logic (is_logic_of_bit_vectors logic) (base_theories false true) t _
    (λ is. (
      theories_by (codes "B"),
      either (bytes_eq logic (codes "QF_BV")) _ is
          (λ here. any_named logic _ (codes "QF_BV" ∷ []) (refl, tt) (or_left _ _ here))
          (λ here. any_named logic _ (codes "QF_UFBV" ∷ []) (refl, tt) (or_left _ _ here)),
      refl,
      refl,
    ))
    (first_taken logic (bytes_eq logic (codes "ALL")) (base_theories true true) t _
    (λ is. (
      theories_by (codes "ABIR"),
      any_named logic _ (codes "ALL" ∷ []) (refl, tt) (or_left _ _ is),
      refl,
      refl,
    ))
    (λ none. cc)))) h
