use Rattle.std.proofs.Common.{◌<◌, ◌∙◌, append-nil, arith, length, sym}
use Rattle.smt_script.specs.Internal.Runs.{levels_in}
use Rattle.smt_script.proofs.RunLemmas.{before_last, left_there, length_is, level_there, whole_is}
use Rattle.smt_script.proofs.stack.level_runs.Levels.cut.Goals as goal

pub overflow_sub-outside : goal.overflow_sub-outside
overflow_sub-outside c =
    let i = c.loop-run.invariant in
    let long = length_is c.pop.new.self.items c.loop-run.self-inside.runs.items c.in-Some.run' c.in-Some.ensures.items in
    let counted = i.counted in
    omega arith

pub invariant_of-self : goal.invariant_of-self
invariant_of-self c =
    let counted = c.loop-run.invariant.counted in
    let long = length_is c.pop.new.self.items c.loop-run.self-inside.runs.items c.in-Some.run' c.in-Some.ensures.items in
    let out = c.if-outside-depth.true in
    let here = length_is c.pop.new.self.items c.push_reserved.new.self.items _ c.push_reserved.ensures.items in
    omega arith

pub invariant_of-self-else-count-gt0 : goal.invariant_of-self-else-count-gt0
invariant_of-self-else-count-gt0 c =
    let counted = c.loop-run.invariant.counted in
    let long = length_is c.pop.new.self.items c.loop-run.self-inside.runs.items c.in-Some.run' c.in-Some.ensures.items in
    let out = c.if-outside-depth.true in
    let none = c.if-count-gt0.false in
    omega arith

pub returns-then-count-gt0-clause-level : goal.returns-then-count-gt0-clause-level
returns-then-count-gt0-clause-level c =
    let i = c.loop-run.invariant in
    let counted = i.counted in
    let long = length_is c.pop.new.self.items c.loop-run.self-inside.runs.items c.in-Some.run' c.in-Some.ensures.items in
    let out = c.if-outside-depth.true in
    sym i.there
    ∙ level_there c.pop.new.self.items c.loop-run.self-inside.runs.items c.in-Some.run' c.args.depth
    c.in-Some.ensures.items (omega arith) i.below

pub returns-else-count-gt0-clause-level : goal.returns-else-count-gt0-clause-level
returns-else-count-gt0-clause-level c =
    let i = c.loop-run.invariant in
    let counted = i.counted in
    let long = length_is c.pop.new.self.items c.loop-run.self-inside.runs.items c.in-Some.run' c.in-Some.ensures.items in
    let out = c.if-outside-depth.true in
    sym i.there
    ∙ level_there c.pop.new.self.items c.loop-run.self-inside.runs.items c.in-Some.run' c.args.depth
    c.in-Some.ensures.items (omega arith) i.below

pub returns-then-count-gt0-clause-left : goal.returns-then-count-gt0-clause-left
returns-then-count-gt0-clause-left c =
    let i = c.loop-run.invariant in
    let counted = i.counted in
    let below = i.below in
    let long = length_is c.pop.new.self.items c.loop-run.self-inside.runs.items c.in-Some.run' c.in-Some.ensures.items in
    let out = c.if-outside-depth.true in
    whole_is c.pop.new.self.items c.push_reserved.new.self.items _ c.push_reserved.ensures.items
    ∙ sym (left_there c.pop.new.self.items c.loop-run.self-inside.runs.items c.in-Some.run' c.args.depth _
    c.in-Some.ensures.items (omega arith) (omega arith))
    ∙ i.first

pub returns-else-count-gt0-clause-left : goal.returns-else-count-gt0-clause-left
returns-else-count-gt0-clause-left c =
    let i = c.loop-run.invariant in
    let counted = i.counted in
    let long = length_is c.pop.new.self.items c.loop-run.self-inside.runs.items c.in-Some.run' c.in-Some.ensures.items in
    let out = c.if-outside-depth.true in
    let none = c.if-count-gt0.false in
    sym (append-nil (levels_in c.pop.new.self.items))
    ∙ sym (left_there c.pop.new.self.items c.loop-run.self-inside.runs.items c.in-Some.run' c.args.depth 0
    c.in-Some.ensures.items (omega arith) (omega arith))
    ∙ i.first

pub loop-run-preserved : goal.loop-run-preserved
loop-run-preserved c =
    let i = c.loop-run.invariant in
    let counted = i.counted in
    let long = length_is c.pop.new.self.items c.loop-run.self-inside.runs.items c.in-Some.run' c.in-Some.ensures.items in
    let inside = c.if-outside-depth.false in
    let below : c.args.depth < length (levels_in c.pop.new.self.items) = omega arith in
    let same = before_last c.pop.new.self.items c.loop-run.self-inside.runs.items c.in-Some.run' c.args.depth
    c.in-Some.ensures.items below in
    record {
      counted = omega arith;
      below = below;
      first = same.0 ∙ i.first;
      there = same.1 ∙ i.there;
    }
