use Rattle.std.proofs.Common.{◌≡◌, ◌-◌, ◌+◌, ℕ, sym, subst, arith, length}
use Rattle.std.specs.Str.Parse.{digits_value}
use Rattle.smt_terms.specs.Contents.{contents_of}
use Rattle.smt_script.specs.Command.{Pop}
use Rattle.smt_script.specs.Internal.Effect.{HasEffect}
use Rattle.smt_script.proofs.LevelLemmas.{pop_effect, pop_none}
use Rattle.smt_script.proofs.NeedLemmas.{needs_effect, needs_popped, popped_none, popped_some}
use Rattle.smt_script.proofs.stack.Stack.pop.Goals as goal

pub returns-then-count-gt0-clause-effect : goal.returns-then-count-gt0-clause-effect
returns-then-count-gt0-clause-effect c =
    let same = c.in-Some.ensures.0 in
    let most = c.in-Some.ensures.1 in
    let depth = c.len-depth.ensures in
    let sum : (c.len-depth.result - c.in-Some.count) + digits_value 10 c.args.digits.now
    ≡ length c.args.self.now.levels = omega arith in
    let law = c.earlier_marks_are_kept.ensures in
    let enough = c.needed_nodes_are_enough.ensures in
    let cut = c.cut_to-level.ensures in
    needs_effect (record { names = enough.names; terms = enough.terms }) c.args.self.now c.cut_to-level.new.self
    c.drop_unneeded.new.self (c.len-depth.result - c.in-Some.count) (digits_value 10 c.args.digits.now)
    c.cut_to-level.result cut.level cut.cut c.drop_unneeded.ensures cut.notes
    (pop_effect (record { first = law.first; within = law.within }) c.args.self.now c.cut_to-level.new.self
    (digits_value 10 c.args.digits.now) (c.len-depth.result - c.in-Some.count) cut.cut sum cut.notes)

pub returns-then-count-gt0-clause-held : goal.returns-then-count-gt0-clause-held
returns-then-count-gt0-clause-held c =
    let same = c.in-Some.ensures.0 in
    let depth = c.len-depth.ensures in
    let some = c.if-count-gt0.true in
    let cut = c.cut_to-level.ensures in
    popped_some c.args.self.now (contents_of c.drop_unneeded.new.self.library)
    (c.len-depth.result - c.in-Some.count) (digits_value 10 c.args.digits.now) (omega arith) (omega arith)
    (needs_popped c.args.self.now c.cut_to-level.new.self c.drop_unneeded.new.self
    (c.len-depth.result - c.in-Some.count) c.cut_to-level.result cut.level cut.cut c.drop_unneeded.ensures cut.notes)

pub returns-else-count-gt0-clause-effect : goal.returns-else-count-gt0-clause-effect
returns-else-count-gt0-clause-effect c =
    let same = c.in-Some.ensures.0 in
    let none = c.if-count-gt0.false in
    let zero : digits_value 10 c.args.digits.now ≡ 0 = omega arith in
    subst (λ (m : ℕ). (n : ℕ) → HasEffect c.args.self.now c.args.self.now n (Pop m)) (sym zero)
    (pop_none c.args.self.now)

pub returns-else-count-gt0-clause-held : goal.returns-else-count-gt0-clause-held
returns-else-count-gt0-clause-held c =
    let same = c.in-Some.ensures.0 in
    let none = c.if-count-gt0.false in
    popped_none c.args.self.now (digits_value 10 c.args.digits.now) (omega arith)
