-- The logics that are supported, with the theories that each has besides Core. Which are supported is this
-- project's own choice.
use Rattle.std.specs.Prelude.{ℕ, List, [], ◌∷◌, Bool, true, false, ◌||◌, Option, Some, None, bytes_eq, codes}
use Rattle.std.specs.Prelude.{◌≡◌, ◌↔◌, ◌==◌, ◌++◌, if◌then◌else◌, take, drop}
use Rattle.std.specs.List.{list_any}
use Rattle.smt_theory.specs.declared.profile.Profile.{Profile}
use Rattle.smt_theory.specs.declared.profile.Profile.TheVariants.{Base, Wide}
use Rattle.smt_theory.specs.declared.theories.Theories.{Theories}

-- all theories of a profile
abbrev pub all_theories : Profile → Theories
all_theories Base =
    record { ints = true; bits = true; reals = false; arrays = false; wide = false }
all_theories Wide =
    record { ints = true; bits = true; reals = true; arrays = true; wide = true }

-- those of the profile Base besides Core
abbrev pub base_theories : (ints bits : Bool) → Theories
base_theories ints bits =
    record { ints = ints; bits = bits; reals = false; arrays = false; wide = false }

-- ---- the logics of the profile Base

abbrev pub is_logic_of_integers : List ℕ → Bool
is_logic_of_integers logic =
    list_any (bytes_eq logic)
    (codes "QF_IDL" ∷ codes "QF_LIA" ∷ codes "QF_NIA" ∷ codes "QF_UFIDL" ∷ codes "QF_UFLIA"
    ∷ codes "QF_UFNIA" ∷ [])

abbrev pub is_logic_of_bit_vectors : List ℕ → Bool
is_logic_of_bit_vectors logic = bytes_eq logic (codes "QF_BV") || bytes_eq logic (codes "QF_UFBV")

abbrev pub base_theories_named : List ℕ → Option Theories
base_theories_named logic =
    if bytes_eq logic (codes "QF_UF") then Some (base_theories false false)
    else if is_logic_of_integers logic then Some (base_theories true false)
    else if is_logic_of_bit_vectors logic then Some (base_theories false true)
    else if bytes_eq logic (codes "ALL") then Some (base_theories true true)
    else None

-- ---- the logics of the profile Wide

-- the theories beside Core that letters stand for: A for arrays, B for bit vectors, I for integers, R for reals
abbrev pub theories_by : List ℕ → Theories
theories_by letters =
    record {
      ints = list_any (λ c. c == 73) letters;
      bits = list_any (λ c. c == 66) letters;
      reals = list_any (λ c. c == 82) letters;
      arrays = list_any (λ c. c == 65) letters;
      wide = true;
    }

-- these letters, with the names of their logics but for a QF_ at the front: that a term has no quantifier is
-- asked of the term. Declared sorts and datatypes, UF and DT, are no theory; SAT is of Core alone
abbrev pub wide_logics : List (List ℕ × List (List ℕ))
wide_logics =
    (codes "", codes "UF" ∷ codes "DT" ∷ codes "UFDT" ∷ codes "SAT" ∷ [])
    ∷ (
      codes "I",
      codes "IDL" ∷ codes "LIA" ∷ codes "NIA" ∷ codes "UFIDL" ∷ codes "UFLIA"
          ∷ codes "UFNIA" ∷ codes "UFDTLIA" ∷ codes "UFDTNIA" ∷ [],
    )
    ∷ (
      codes "R",
      codes "RDL" ∷ codes "LRA" ∷ codes "NRA" ∷ codes "UFRDL" ∷ codes "UFLRA"
          ∷ codes "UFNRA" ∷ [],
    )
    ∷ (
      codes "IR",
      codes "LIRA" ∷ codes "NIRA" ∷ codes "UFLIRA" ∷ codes "UFNIRA"
          ∷ codes "UFDTLIRA" ∷ codes "UFDTNIRA" ∷ [],
    )
    ∷ (codes "B", codes "BV" ∷ codes "UFBV" ∷ codes "UFBVDT" ∷ [])
    ∷ (codes "BI", codes "BVLIA" ∷ codes "BVNIA" ∷ codes "UFBVLIA" ∷ codes "UFBVNIA" ∷ [])
    ∷ (codes "A", codes "AX" ∷ codes "AUF" ∷ codes "AUFDT" ∷ [])
    ∷ (
      codes "AI",
      codes "ALIA" ∷ codes "ANIA" ∷ codes "AUFLIA" ∷ codes "AUFNIA"
          ∷ codes "AUFDTLIA" ∷ codes "AUFDTNIA" ∷ [],
    )
    ∷ (codes "AR", codes "ALRA" ∷ codes "ANRA" ∷ codes "AUFLRA" ∷ codes "AUFNRA" ∷ [])
    ∷ (
      codes "AIR",
      codes "ALIRA" ∷ codes "ANIRA" ∷ codes "AUFLIRA" ∷ codes "AUFNIRA"
          ∷ codes "AUFDTLIRA" ∷ codes "AUFDTNIRA" ∷ [],
    )
    ∷ (codes "AB", codes "ABV" ∷ codes "AUFBV" ∷ codes "AUFBVDT" ∷ [])
    ∷ (
      codes "ABI",
      codes "ABVLIA" ∷ codes "AUFBVLIA" ∷ codes "AUFBVNIA" ∷ codes "AUFBVDTLIA"
          ∷ codes "AUFBVDTNIA" ∷ [],
    )
    ∷ (
      codes "ABR",
      codes "ABVLRA" ∷ codes "ABVNRA" ∷ codes "AUFBVLRA" ∷ codes "AUFBVNRA" ∷ [],
    )
    ∷ (
      codes "ABIR",
      codes "ALL" ∷ codes "ALL_SUPPORTED" ∷ codes "AUFBVLIRA" ∷ codes "AUFBVNIRA"
          ∷ codes "AUFBVDTLIRA" ∷ codes "AUFBVDTNIRA" ∷ [],
    )
    ∷ []

-- the theories of the first row that has the name
abbrev pub first_with : List (List ℕ × List (List ℕ)) → List ℕ → Option Theories
first_with [] name = None
first_with (row ∷ rows) name =
    if list_any (bytes_eq name) row.1 then Some (theories_by row.0) else first_with rows name

-- a name but for a QF_ at its front
abbrev pub without_letters : List ℕ → List ℕ
without_letters logic = if bytes_eq (take 3 logic) (codes "QF_") then drop 3 logic else logic

-- ---- the theories of the logic of a name

abbrev pub theories_named : Profile → List ℕ → Option Theories
theories_named Base logic = base_theories_named logic
theories_named Wide logic = first_with wide_logics (without_letters logic)

-- whether a logic has the name, with or without a QF_ at its front
abbrev pub is_spelled : List ℕ → List ℕ → Bool
is_spelled logic name = bytes_eq logic name || bytes_eq logic (codes "QF_" ++ name)

-- the logics of these names have these theories in the profile Wide, and no others have
abbrev pub AreWideLogicsOf : Theories → List (List ℕ) → Type 0
AreWideLogicsOf theories names = (logic : List ℕ) → (theories_named Wide logic ≡ Some theories)
    ↔ (list_any (is_spelled logic) names ≡ true)
