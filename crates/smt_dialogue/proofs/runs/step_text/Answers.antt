use Rattle.std.proofs.Common.{subst, sym, take, ◌<◌, ◌∙◌}
use Rattle.smt_dialogue.proofs.RunLemmas.{cut_source, map_ok, none_before, pulled_end, running_text, settled_step}
use Rattle.smt_dialogue.specs.History.{with_more}
use Rattle.smt_dialogue.specs.Run.{Tap}
use Rattle.smt_dialogue.specs.Session.{failure_of, is_ended}
use Rattle.smt_dialogue.specs.Internal.RunStep.{IsCutOff, with_tap}
use Rattle.smt_dialogue.specs.Internal.SessionStep.{IsFed, left_of}
use Rattle.smt_dialogue.specs.Internal.StreamsView.{tap_of}
use Rattle.smt_dialogue.proofs.runs.step_text.Goals as goal

pub settle-requires-clause-fed : goal.settle-requires-clause-fed
settle-requires-clause-fed g c = (_, c.take_next.ensures.fed c.requires.stands.0 c.requires.stands.1)

pub returns-in-Ok-clause-stepped : goal.returns-in-Ok-clause-stepped
returns-in-Ok-clause-stepped g c = λ options before all r.
    let side = c.args.side in
    let old : Tap = tap_of g.R.Source c.args.source.now in
    let new : Tap = tap_of g.R.Source c.pull.new.self in
    let out = g.L.Outlet.taken c.args.lines.now in
    let fed = running_text side
    (g.V.LineVisitor.has_visited c.args.visitor.now) options before all c.args.session.now c.take_next.new.self old new
    out
    (take c.in-Ok.count c.pull.new.buf) c.in-Ok.ensures.bytes
    (λ h k. subst (λ e. IsFed c.take_next.new.self (with_more side h (take c.in-Ok.count c.pull.new.buf) e))
    (pulled_end (is_ended side c.take_next.new.self) new.ended c.pull.new.buf c.in-Ok.count c.in-Ok.ensures.bound.0
    c.take_next.ensures.ended c.in-Ok.ensures.end) (c.take_next.ensures.fed h k)) r in
    settled_step g.L.Outlet.is_done c.settle.result (g.L.Outlet.is_broken c.settle.new.self)
    (g.V.LineVisitor.has_visited c.settle.new.visitor) options before
    (with_tap side new (g.L.Outlet.taken c.settle.new.self) all) c.settle.new.session c.settle.ensures.blamed
    (c.settle.ensures.settled options before (with_tap side new out all) fed)

pub returns-in-Ok-clause-smaller : goal.returns-in-Ok-clause-smaller
returns-in-Ok-clause-smaller g c =
    map_ok c.settle.result c.settle.ensures.rest (λ rest.
    subst (λ n. n < left_of c.args.session.now) (sym c.settle.ensures.texts.left)
    (c.take_next.ensures.smaller
    (none_before (failure_of c.take_next.new.self)
    (failure_of c.settle.new.session) c.settle.ensures.stays rest.failure)))

pub returns-in-Err-clause-stepped : goal.returns-in-Err-clause-stepped
returns-in-Err-clause-stepped g c = λ options before all r.
    let side = c.args.side in
    let old : Tap = tap_of g.R.Source c.args.source.now in
    let new : Tap = tap_of g.R.Source c.pull.new.self in
    let out = g.L.Outlet.taken c.args.lines.now in
    subst (λ fault. IsCutOff (g.V.LineVisitor.has_visited c.args.visitor.now) g.L.Outlet.is_done fault options before
    (with_tap side new out all) c.args.session.now)
    (sym c.source_fault.ensures)
    (cut_source g.L.Outlet.is_done side
    (g.V.LineVisitor.has_visited c.args.visitor.now) options before all c.args.session.now old new out c.requires.rest
    c.in-Err.ensures.bytes (c.requires.source_open ∙ sym c.in-Err.ensures.end) r)
