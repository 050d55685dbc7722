-- Behind pairs without a fault a model gives a structure.
use Rattle.std.proofs.Common.{◌≡◌, ℕ, ◌+◌, Bool, true, false, cond, List, [], ◌∷◌, ◌++◌, length, None, Ok}
use Rattle.std.proofs.Common.{refl, ap, ◌∙◌, subst, append-nil, arith, length-append}
use Rattle.smt_trees.specs.Sexp.{Sexps}
use Rattle.smt_terms.specs.Signature.{Signature}
use Rattle.smt_terms.specs.WellSorted.{AreIntroduced}
use Rattle.smt_eval.specs.Model.{model_in}
use Rattle.smt_eval.specs.Structure.{IsStructure, structure_of}
use Rattle.smt_script.specs.Stack.{HaveNoFlaw, Numbered, flaw_of_effect, signature_in_force}
use Rattle.smt_dialogue.specs.InForce.{AreFaultless, signature_after}
use Rattle.smt_dialogue.specs.Pairs.{Pair, effective_commands, effective_from, is_effective, numbered_if}
use Rattle.smt_dialogue.specs.Window.{structure_at}
use Rattle.smt_dialogue.proofs.PairLemmas.{effective_commands-push}
use Rattle.smt_theory.specs.declared.profile.Profile.{Profile}

-- the first of faultless pairs are faultless
faultless_first : (profile : Profile) (before xs ys : List Pair) → AreFaultless profile before (xs ++ ys)
    → AreFaultless profile before xs
faultless_first profile before [] ys h = tt
faultless_first profile before (x ∷ xs) ys h = (h.0, h.1, faultless_first profile (before ++ x ∷ []) xs ys h.2)

-- one more pair brings its command, where it took effect
pub one_more : (before : List Pair) (p : Pair) (b : Bool) → is_effective p ≡ b
    → effective_commands (before ++ p ∷ [])
    ≡ effective_commands before ++ cond b (record { number = length before + 1; command = p.command } ∷ []) []
one_more before p b is =
    effective_commands-push before p
    ∙ ap (λ (e : Bool). effective_commands before ++ numbered_if e (length before + 1) p.command) is

-- so the commands of faultless pairs that took effect have no fault
no_faults : (profile : Profile) (before pairs : List Pair) → AreFaultless profile before pairs
    → HaveNoFlaw profile (effective_commands before) (effective_from (length before + 1) pairs)
no_faults profile before [] h = tt
no_faults profile before (p ∷ pairs) h = by (is_effective p) refl h.1 (no_faults profile (before ++ p ∷ []) pairs h.2)
  where
    further : length (before ++ p ∷ []) + 1 ≡ (length before + 1) + 1
    further = omega (arith, length-append before (p ∷ []))

    by : (b : Bool) → is_effective p ≡ b
        → cond b (flaw_of_effect profile (effective_commands before) (length before + 1) p.command) None ≡ None
        → HaveNoFlaw profile (effective_commands (before ++ p ∷ []))
        (effective_from (length (before ++ p ∷ []) + 1) pairs)
        → HaveNoFlaw profile (effective_commands before)
        (cond b (record { number = length before + 1; command = p.command } ∷ []) []
        ++ effective_from ((length before + 1) + 1) pairs)
    by true is fault next = (
      fault,
      subst (λ (n : ℕ). HaveNoFlaw profile
          (effective_commands before ++ record { number = length before + 1; command = p.command } ∷ [])
          (effective_from n pairs)) further
          (subst (λ (cs : List Numbered). HaveNoFlaw profile cs
          (effective_from (length (before ++ p ∷ []) + 1) pairs)) (one_more before p true is) next),
    )
    by false is fault next =
        subst (λ (n : ℕ). HaveNoFlaw profile (effective_commands before) (effective_from n pairs)) further
        (subst (λ (cs : List Numbered). HaveNoFlaw profile cs (effective_from (length (before ++ p ∷ []) + 1) pairs))
        (one_more before p false is ∙ append-nil (effective_commands before)) next)

-- the laws of names in force, and of models of such names
abbrev pub NamesAreIntroduced : Type 0
NamesAreIntroduced = (profile : Profile) (commands : List Numbered) → HaveNoFlaw profile [] commands
    → AreIntroduced (signature_in_force profile commands).theories None []
    (signature_in_force profile commands).entries

abbrev pub ModelsGiveStructures : Type 0
ModelsGiveStructures = (script : Signature) (parts : Sexps) (definitions : Signature)
    → model_in script parts ≡ Ok definitions → AreIntroduced script.theories None [] script.entries
    → IsStructure (structure_of script definitions)

pub structure_behind : (profile : Profile) → NamesAreIntroduced → ModelsGiveStructures
    → (before after : List Pair) (parts : Sexps) (definitions : Signature) → AreFaultless profile [] (before ++ after)
    → model_in (signature_after profile before) parts ≡ Ok definitions
    → IsStructure (structure_at profile definitions before)
structure_behind profile introduced gives before after parts definitions faultless read =
    gives (signature_after profile before) parts definitions read
    (introduced profile (effective_commands before)
    (no_faults profile [] before (faultless_first profile [] before after faultless)))
