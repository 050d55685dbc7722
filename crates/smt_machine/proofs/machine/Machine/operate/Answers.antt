use Rattle.std.proofs.Common.{◌≡◌, ◌-◌, ◌++◌, ◌∷◌, [], ◌∙◌, List, Option, ap, arith, drop, is_ok, length, length-drop}
use Rattle.std.proofs.Common.{refl, subst, sym, take, take_all, ℕ}
use Rattle.std.proofs.lemmas.List.Elements.{All-drop, All-take}
use Rattle.smt_arrays.specs.Cells.{arrays_of}
use Rattle.smt_arrays.specs.Known.{known_step}
use Rattle.smt_arrays.specs.Tables.{AreHeld, IsHeldIfKnown, all_known_in, known_in}
use Rattle.smt_values.specs.declared.value.Value.{Value}
use Rattle.smt_machine.proofs.HeldLemmas.{all_held_more, all_stay, as_many, front_held, kept_more_held, pushed_held}
use Rattle.smt_machine.proofs.StateLemmas.{operated, states_same, stays_before}
use Rattle.smt_machine.specs.declared.task.Task.{Task}
use Rattle.smt_machine.proofs.machine.Machine.operate.Goals as goal

pub operate-value-requires : goal.operate-value-requires
operate-value-requires c =
    let start = c.saturating_sub-start.result in
    let cells = c.args.self.now.arrays in
    let items = c.args.self.now.values.items in
    let values = c.deref_mut.result.now in
    let count : ℕ = length (arrays_of cells) in
    let sees : take (length values - start) (drop start values) ≡ drop start items =
    take_all _ _ (omega (arith, length-drop start values)) ∙ ap (drop start) c.deref_mut.ensures.value in
    record {
      held = subst (λ (n : ℕ). AreHeld n (take (length values - start) (drop start values))) (as_many cells)
          (subst (λ (xs : List (Option Value)). AreHeld count xs) (sym sees)
          (All-drop (IsHeldIfKnown count) start items c.args.self.now.values_held));
    }

pub invariant_of-self : goal.invariant_of-self
invariant_of-self c =
    let start = c.saturating_sub-start.result in
    let old = arrays_of c.args.self.now.arrays in
    let new = arrays_of c.operate-value.new.self in
    let items = c.args.self.now.values.items in
    let grown = c.operate-value.ensures.grown in
    let values = c.deref_mut.result.now in
    let before : c.truncate.new.self.items ≡ take start items =
    c.truncate.ensures.items ∙ stays_before start _ values _ _ (omega arith) (omega arith)
    ∙ ap (take start) c.deref_mut.ensures.value in
    record {
      values_held = front_held old new start items c.truncate.new.self.items grown c.args.self.now.values_held before;
      frames_held = all_held_more old new c.args.self.now.frames.items grown c.args.self.now.frames_held;
      kept_held = kept_more_held old new c.args.self.now.kept grown c.args.self.now.kept_held;
    }

pub invariant_of-self-2 : goal.invariant_of-self-2
invariant_of-self-2 c =
    let start = c.saturating_sub-start.result in
    let old = arrays_of c.args.self.now.arrays in
    let new = arrays_of c.operate-value.new.self in
    let items = c.args.self.now.values.items in
    let grown = c.operate-value.ensures.grown in
    let values = c.deref_mut.result.now in
    let value = c.in_ok-value.field-0 in
    let before : c.truncate.new.self.items ≡ take start items =
    c.truncate.ensures.items ∙ stays_before start _ values _ _ (omega arith) (omega arith)
    ∙ ap (take start) c.deref_mut.ensures.value in
    let held : AreHeld (length new) c.truncate.new.self.items =
    front_held old new start items c.truncate.new.self.items grown c.args.self.now.values_held before in
    let one : IsHeldIfKnown (length new) value =
    subst (λ (n : ℕ). IsHeldIfKnown n value) (sym (as_many c.operate-value.new.self)) c.in_ok-value.ensures.held in
    record {
      values_held = subst (λ (xs : List (Option Value)). AreHeld (length new) xs) (sym c.push.ensures.items)
          (pushed_held (length new) (is_ok c.push.result) c.truncate.new.self.items value held one);
      frames_held = all_held_more old new c.args.self.now.frames.items grown c.args.self.now.frames_held;
      kept_held = kept_more_held old new c.args.self.now.kept grown c.args.self.now.kept_held;
    }

pub returns : goal.returns
returns c =
    let start = c.saturating_sub-start.result in
    let old = arrays_of c.args.self.now.arrays in
    let new = arrays_of c.operate-value.new.self in
    let items = c.args.self.now.values.items in
    let grown = c.operate-value.ensures.grown in
    let values = c.deref_mut.result.now in
    let value = c.in_ok-value.field-0 in
    let sees : take (length values - start) (drop start values) ≡ drop start items =
    take_all _ _ (omega (arith, length-drop start values)) ∙ ap (drop start) c.deref_mut.ensures.value in
    let is : known_in new value ≡ known_step c.args.op (all_known_in old (drop start items)) =
    c.in_ok-value.ensures.known ∙ ap (λ xs. known_step c.args.op (all_known_in old xs)) sees in
    let from : start ≡ length items - c.args.count = omega arith in
    let before : c.truncate.new.self.items ≡ take start items =
    c.truncate.ensures.items ∙ stays_before start _ values _ _ (omega arith) (omega arith)
    ∙ ap (take start) c.deref_mut.ensures.value in
    let made : c.push.new.self.items ≡ take start items ++ value ∷ [] =
    c.in_ok-push.ensures.items ∙ ap (λ xs. xs ++ value ∷ []) before in
    record {
      tasks = refl {A = List Task};
      state = states_same _ _ _ _ _ _
          (ap (all_known_in new) made ∙ operated old new c.args.op items c.args.count start value grown
          (All-take (IsHeldIfKnown (length old)) start items c.args.self.now.values_held) from is)
          (all_stay old new c.args.self.now.frames.items grown c.args.self.now.frames_held) (refl {A = ℕ});
      kept = refl;
      grown = grown;
    }
