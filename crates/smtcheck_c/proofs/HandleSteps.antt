-- What the proofs of a handle's functions share: the handle's row, and a handle that is put together of its parts.
use Rattle.std.proofs.Common.{◌≡◌, List, [], ◌∷◌, ◌++◌, Option, refl, lit<, subst}
use seplogic.Ra.Ura.{Ura}
use lib.Dec.{T}
use mathlib.Core.Bool.{◌&&◌, true}
use mir.Val.{Val, vstruct, vcons, vnil, of_list, has_ty, WT}
use types.Logic.{Logic}
use types.Kit.{Item, Goal, Step, step, ‵, ◌$◌, move, fjoin, fpack, feq_i}
use denote.RattleType.{RattleType, Valss}
use denote.RawPtr.{Ptr, RawPtr, null_ptr, ptr_val}
use denote.Steps.{nothing}
use denote.Struct.Struct.{within}
use denote.Struct.Owning.{shape}
use Rattle.std.proofs.alloc.Calls.{α, Fits, token}
use Rattle.std.proofs.ResultValues.{and_tt}
use Rattle.std.proofs.BoxSteps.Form.{Bx, R, P, X, handle}
use Rattle.smtcheck_c.specs.Held.{held_at}
use Rattle.smtcheck_c.specs.contracts.handle.Handle as handles

-- the row of a handle of such a value
abbrev pub Handled : Bx → RattleType
Handled E = handles.the_row (R E) (P E) E.al.g

abbrev pub pair_val : Val → Val → Val
pair_val v w = vstruct (vcons v (vcons w vnil))

-- the machine value of a struct of a pointer and an allocator, of which its parts are told
pub told_pair : (vs ps hs : List Val) (p q : Ptr) (hv : Val) → vs ≡ vstruct (of_list (ps ++ (hs ++ []))) ∷ []
    → ps ≡ ptr_val p ∷ [] → p ≡ q → hs ≡ hv ∷ [] → vs ≡ pair_val (ptr_val q) hv ∷ []
told_pair vs ps hs p q hv whole pointer same rest =
    subst (λ (r : Ptr). vs ≡ pair_val (ptr_val r) hv ∷ []) same
    (subst (λ (ws : List Val). vs ≡ vstruct (of_list (ptr_val p ∷ (ws ++ []))) ∷ []) rest
    (subst (λ (ws : List Val). vs ≡ vstruct (of_list (ws ++ (hs ++ []))) ∷ []) pointer whole))

pub pair_typed : (E : Bx) (hv : Val) → Fits E.al hv → T (has_ty (α E.al) hv && true) × WT (pair_val (ptr_val null_ptr) hv)
pair_typed E hv fits = (and_tt (has_ty (α E.al) hv) fits.0, (record { fits = lit< tt }, (fits.1, tt)))

module _ (E : Bx) {M : Type 1} {𝓤 : Ura M} {𝓛 : Logic 𝓤} {K : Type 0} {Γ : List (Item 𝓤)} {G : Goal 𝓤 𝓛.H} where
  -- of what it holds and the allocator
  pub handle_in : K → (p : Ptr) (hv : Val) (a : E.al.row.Denot) (o : Option (X E))
      → Step K 𝓛 (‵ ((Handled E).own_val (record { at = p; alloc = a; value = o }) (pair_val (ptr_val p) hv ∷ [])) ∷ Γ) G
      (‵ (held_at (token E.al a) (R E) p o) ∷ ‵ (handle E a hv) ∷ Γ) G
  handle_in t p hv a o = step (λ s. let v : Val = pair_val (ptr_val p) hv in
      nothing t $ move t (2 ∷ 0 ∷ []) $ fjoin t $ feq_i t (List Val) (ptr_val p ∷ []) (ptr_val p ∷ []) refl $ fjoin t $
      feq_i t (List Val) (v ∷ []) (v ∷ []) refl $ fjoin t $
      fpack t (Valss (RawPtr ∷ P E ∷ [])) (within (shape (handles.the_type (R E) (P E) E.al.g)) (p, (a, tt)) (v ∷ []))
      (ptr_val p ∷ [], (hv ∷ [], tt)) $ fjoin t $ s)
