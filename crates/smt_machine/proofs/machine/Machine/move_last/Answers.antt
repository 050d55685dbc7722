use Rattle.std.proofs.Common.{◌≡◌, ◌-◌, ◌++◌, ◌∷◌, [], ◌∙◌, List, ap, arith, drop, length, refl, sym, ℕ}
use Rattle.smt_arrays.specs.Tables.{all_known_in}
use Rattle.smt_machine.specs.Memory.{arrays_in}
use Rattle.smt_machine.proofs.HeldLemmas.{grows_not}
use Rattle.smt_machine.proofs.StateLemmas.{before_known, moved, states_same}
use Rattle.smt_machine.specs.declared.task.Task.{Task}
use Rattle.smt_machine.proofs.machine.Machine.move_last.Goals as goal

pub returns : goal.returns
returns c =
    let start = c.saturating_sub-start.result in
    let arrays = arrays_in c.args.self.now in
    let items = c.args.self.now.values.items in
    let frames = c.args.self.now.frames.items in
    let sees : c.items_from.result.now ≡ drop start items = cc in
    let from : start ≡ length items - c.args.count = omega arith in
    let new : c.extend_from_slice.new.self.items ≡ frames ++ drop start items =
    c.in_ok-extend_from_slice.ensures.items ∙ ap (λ xs. frames ++ xs) sees in
    record {
      tasks = ◌∙◌ {A = List Task} c.in_ok-push.ensures.items
          (ap (λ t. c.args.self.now.tasks.items ++ t ∷ []) c.task_of.ensures);
      state = states_same _ _ _ _ _ _
          (ap (all_known_in arrays) c.truncate.ensures.items
          ∙ sym (before_known arrays items c.args.count start from))
          (ap (all_known_in arrays) new ∙ moved arrays frames items c.args.count start from) (refl {A = ℕ});
      kept = refl;
      grown = grows_not arrays;
    }
