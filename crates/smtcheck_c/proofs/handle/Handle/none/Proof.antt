-- `none` is made of the allocator alone.
use Rattle.std.proofs.Common.{List, [], ◌∷◌, ◌++◌, None, refl, sym, subst}
use mir.MapTy.{inst_fn}
use mir.Val.{Val}
use base.Logic.{SProp, ent, id⊢}
use base.Fml.{ftrue, flft}
use prog.Wp.{WpFn}
use contract.Running.{tables}
use types.Kit.{‵, raw, ◌⊛◌, ◌$◌, ◌∵◌, !, qed, move, keep, drop, split, fsplit, fjoin, join, suffices, done}
use types.Part.{agg}
use types.Run.{lit, no_more, and_then, of_opd, returns, enter}
use types.ByLocal.{alloc_all, pass_all, free_all, look_at, get, sets}
use denote.Exit.{no}
use denote.RattleType.{owns}
use denote.RawPtr.{null_ptr, ptr_val}
use denote.Signature.{types_at, plain}
use denote.Steps.{nothing}
use denote.Triple.Walked.{Stays, stay_dropped, walk_of, says, ends_at}
use Rattle.std.proofs.alloc.Calls.{Goes-blank, handle_tells}
use Rattle.std.proofs.raw_atomic.Walks.{proved_at}
use Rattle.std.proofs.BoxSteps.Form.{Bx, P, args}
use Rattle.smtcheck_c.proofs.HandleSteps.{pair_val, handle_in, pair_typed}
use Rattle.smtcheck_c.specs.contracts.handle.Handle.none.{ended, clauses}
use Rattle.smtcheck_c.specs.contracts.handle.Handle.none.Key.{name as #self}
use Rattle.smtcheck_c.proofs.handle.Handle.none.Statement.{statement}
use Rattle.smtcheck_c.proofs.handle.Handle.none.Code as code

pub none_spec : {M : Type 1} → statement M
none_spec 𝓤 𝓛 𝓜 𝓡 wired T A L LA g d dd allocator freed =
    let E : Bx = record { row = T; laws = L; al = record { row = A; laws = LA; g = g; d = d; drops = dd } } in
    let 𝓣 = tables 𝓤 𝓛.H 𝓜 𝓡 𝓡.env in let En = ended T A g d dd in let c = clauses T A g d dd 𝓛 𝓜.mem 𝓡.returns in
    let fn = inst_fn (args E) code.function in
    let hs : Stays En.signature.params En.kept = (stay_dropped (plain (λ _. P E)) no, tt) in
    proved_at 𝓛 En hs c 𝓜 𝓡 (Goes-blank 𝓛 2 (plain (λ _. P E)) no (λ κs x f. tt), tt) (#self (args E)) fn
    (code.unfolded 𝓤 𝓛.H 𝓜 𝓡 wired (T, (A, tt)) d dd) (λ z are.
    let κs = z.0.0 in let qs = z.0.1 in let a = z.0.3.0 in let Post : Val → SProp 𝓤 = (walk_of 𝓛 En hs c).post z in
    let Run : List Val → SProp 𝓤 = λ ws. WpFn 𝓤 𝓛.H 𝓣.C 𝓣.Λ fn ws Post in
    let toks = ‵ (flft κs.0 qs.0) ⊛ ‵ (flft κs.1.0 qs.1.0) ⊛ ‵ ftrue in
    qed 𝓛 ((toks ⊛ ‵ (owns (types_at En.signature.params κs) z.0.3 z.0.4)) ∷ raw ((c κs z.0.3).requires z.1) ∷ []) ∵
    split ! $ move ! (1 ∷ []) $ fsplit ! $ handle_tells E.al ! a z.0.4.0 (λ hv is fits.
    suffices ! (Run (hv ∷ [])) (subst (λ (us : List Val). ent 𝓤 (Run (hv ∷ [])) (Run us)) (sym (λ i. is i ++ [])) (id⊢ 𝓤 (Run (hv ∷ [])))) $
    enter ! 𝓣.C 𝓣.Λ fn (hv ∷ []) Post $ alloc_all ! (λ l. pass_all ! refl (fits, tt) $
    sets ! (of_opd ! (get ! refl)) refl fits $ sets ! (agg ! (and_then ! (lit ! tt) (and_then ! (get ! refl) (no_more !)))) refl (pair_typed E hv fits) $
    returns ! (look_at ! 0 refl) $ free_all ! refl $
    -- [the allocator; nothing; the tokens; what is required]
    nothing ! $ handle_in E ! null_ptr hv a None $ move ! (1 ∷ []) $ drop ! $ keep ! (0 ∷ 1 ∷ []) $
    suffices ! _ (ends_at 𝓛 En hs c z (pair_val (ptr_val null_ptr) hv) (record { at = null_ptr; alloc = a; value = None }) (tt, tt) (tt, tt)) $ says ! refl $
    nothing ! $ nothing ! $ fjoin ! $ join ! $ move ! (1 ∷ 0 ∷ []) $ join ! $ done !)))
