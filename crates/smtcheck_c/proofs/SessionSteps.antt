-- What the proofs on both forms of a session's handle share: what one owns is told by its parts, and made of them.
use Rattle.std.proofs.Common.{◌≡◌, List, [], ◌∷◌, Option, refl, lit<}
use seplogic.Ra.Ura.{Ura}
use lib.Dec.{T}
use mathlib.Core.Bool.{◌&&◌, true}
use mir.Syntax.{impl, tnil, dnil, ty_ptr}
use mir.Val.{Val, has_ty, WT}
use types.Logic.{Logic}
use types.Kit.{Item, Goal, Seq, Step, step, ‵, ◌$◌, move, drop, fsplit, fjoin, fpick, fpack, feq_l, feq_i}
use denote.RattleType.{RattleType, Valss}
use denote.Param.{layout}
use denote.RawPtr.{Ptr, RawPtr, block_ptr, null_ptr, ptr_val}
use denote.Steps.{nothing}
use denote.Struct.Struct.{within}
use denote.Struct.Owning.{shape}
use Rattle.std.proofs.alloc.Calls.{Al, Fits, handle_tells}
use Rattle.std.proofs.alloc.Global.TheLaws as heap_laws
use Rattle.std.proofs.ResultValues.{and_tt}
use Rattle.std.specs.contracts.alloc.Global as heap
use Rattle.std.specs.contracts.impls.GlobalAllocator.TheImpl.{ghosts}
use Rattle.std.specs.declared.alloc.Global.{Global}
use Rattle.smtcheck_c.specs.Rows.{feed_at}
use Rattle.smtcheck_c.specs.contracts.feed.Feed.{the_row as feed_row}
use Rattle.smtcheck_c.specs.contracts.handle.Handle as handles
use Rattle.smtcheck_c.specs.contracts.session_handle.SmtcheckSession as sessions
use Rattle.smtcheck_c.specs.declared.feed.Feed.{Feed}
use Rattle.smtcheck_c.proofs.HandleSteps.{pair_val, told_pair}

-- the row of a handle of a session
abbrev pub Handled : RattleType
Handled = handles.the_row feed_row heap.the_row ghosts

abbrev pub al : Al
al = record { row = heap.the_row; laws = heap_laws.the_row_laws; g = ghosts; d = impl [] tnil dnil; drops = impl [] tnil dnil }

pub ptr_typed : (p : Ptr) → T (has_ty ty_ptr (ptr_val p)) × WT (ptr_val p)
ptr_typed null_ptr = (tt, record { fits = lit< tt })
ptr_typed (block_ptr b o) = (tt, tt)

pub pair_typed : (p : Ptr) (hv : Val) → Fits al hv
    → T (has_ty ty_ptr (ptr_val p) && (has_ty (layout heap.the_row) hv && true)) × WT (pair_val (ptr_val p) hv)
pair_typed null_ptr hv fits = (and_tt (has_ty (layout heap.the_row) hv) fits.0, (record { fits = lit< tt }, (fits.1, tt)))
pair_typed (block_ptr b o) hv fits = (and_tt (has_ty (layout heap.the_row) hv) fits.0, (tt, (fits.1, tt)))

module _ {M : Type 1} {𝓤 : Ura M} {𝓛 : Logic 𝓤} {K : Type 0} {Γ : List (Item 𝓤)} {G : Goal 𝓤 𝓛.H} where
  pub handle_out : K → (d : Handled.Denot) (vs : List Val)
      → ((hv : Val) → vs ≡ pair_val (ptr_val d.at) hv ∷ [] → Fits al hv
      → Seq K 𝓛 (‵ (feed_at d.alloc d.at d.value) ∷ ‵ ((heap.the_row).own_val d.alloc (hv ∷ [])) ∷ Γ) G)
      → Seq K 𝓛 (‵ (Handled.own_val d vs) ∷ Γ) G
  handle_out t d vs k =
      fsplit t $ fpick t (λ vss. fsplit t $ feq_l t (λ ev. fsplit t $ feq_l t (λ ep. fsplit t $ handle_tells al t d.alloc vss.1.0 (λ hv ea fits.
      move t (1 ∷ []) $ drop t $ move t (1 ∷ []) $ k hv
      (told_pair vs vss.0 vss.1.0 d.at d.at hv ev ep refl ea) fits))))

  pub handle_in : K → (p : Ptr) (hv : Val) (a : Global) (o : Option Feed)
      → Step K 𝓛 (‵ (Handled.own_val (record { at = p; alloc = a; value = o }) (pair_val (ptr_val p) hv ∷ [])) ∷ Γ) G
      (‵ (feed_at a p o) ∷ ‵ ((heap.the_row).own_val a (hv ∷ [])) ∷ Γ) G
  handle_in t p hv a o = step (λ s. let v : Val = pair_val (ptr_val p) hv in
      nothing t $ move t (2 ∷ 0 ∷ []) $ fjoin t $ feq_i t (List Val) (ptr_val p ∷ []) (ptr_val p ∷ []) refl $ fjoin t $
      feq_i t (List Val) (v ∷ []) (v ∷ []) refl $ fjoin t $
      fpack t (Valss (RawPtr ∷ heap.the_row ∷ [])) (within (shape (handles.the_type feed_row heap.the_row ghosts)) (p, (a, tt)) (v ∷ []))
      (ptr_val p ∷ [], (hv ∷ [], tt)) $ fjoin t $ s)

  pub session_out : K → (d : (sessions.the_row).Denot) (vs : List Val)
      → ((hv : Val) → vs ≡ pair_val (ptr_val d.at) hv ∷ [] → Fits al hv
      → Seq K 𝓛 (‵ (feed_at d.alloc d.at d.feed) ∷ ‵ ((heap.the_row).own_val d.alloc (hv ∷ [])) ∷ Γ) G)
      → Seq K 𝓛 (‵ ((sessions.the_row).own_val d vs) ∷ Γ) G
  session_out t d vs k =
      fsplit t $ fpick t (λ vss. fsplit t $ feq_l t (λ ev. fsplit t $ feq_l t (λ ep. fsplit t $ handle_tells al t d.alloc vss.1.0 (λ hv ea fits.
      move t (1 ∷ []) $ drop t $ move t (1 ∷ []) $ k hv
      (told_pair vs vss.0 vss.1.0 d.at d.at hv ev ep refl ea) fits))))

  pub session_in : K → (p : Ptr) (hv : Val) (a : Global) (o : Option Feed)
      → Step K 𝓛 (‵ ((sessions.the_row).own_val (record { at = p; alloc = a; feed = o }) (pair_val (ptr_val p) hv ∷ [])) ∷ Γ) G
      (‵ (feed_at a p o) ∷ ‵ ((heap.the_row).own_val a (hv ∷ [])) ∷ Γ) G
  session_in t p hv a o = step (λ s. let v : Val = pair_val (ptr_val p) hv in
      nothing t $ move t (2 ∷ 0 ∷ []) $ fjoin t $ feq_i t (List Val) (ptr_val p ∷ []) (ptr_val p ∷ []) refl $ fjoin t $
      feq_i t (List Val) (v ∷ []) (v ∷ []) refl $ fjoin t $
      fpack t (Valss (RawPtr ∷ (heap.the_field).row ∷ [])) (within (shape sessions.the_type) (p, (((tt, tt), tt), tt)) (v ∷ []))
      (ptr_val p ∷ [], (hv ∷ [], tt)) $ fjoin t $ s)
