use Rattle.std.proofs.Common.{subst, sym}
use Rattle.smt_dialogue.proofs.RunLemmas.{put_fed, put_run, stopped_failed, stopped_put}
use Rattle.smt_dialogue.specs.Run.{Devices, HasStopped}
use Rattle.smt_dialogue.proofs.outlet.put_some.Goals as goal

pub returns-in-Ok-put_lines-clause-put : goal.returns-in-Ok-put_lines-clause-put
returns-in-Ok-put_lines-clause-put g c = λ options before now r.
    let start : Devices = record now { out = g.W.Sink.taken c.args.out.now } in
    put_run (g.V.LineVisitor.has_visited c.args.visitor.now) (g.V.LineVisitor.has_visited c.put_lines.new.visitor)
    options before start c.args.session.now c.take_turns.new.self c.put_lines.new.session
    (g.W.Sink.taken c.put_lines.new.out) c.in-Ok.more c.in-Ok.ensures.turned c.put_lines.ensures.stands
    c.put_lines.ensures.going_on c.in-Ok-put_lines.ensures.put
    c.in-Ok-put_lines.ensures.visited r

pub returns-in-Ok-put_lines-clause-fed : goal.returns-in-Ok-put_lines-clause-fed
returns-in-Ok-put_lines-clause-fed g c = λ is.
    put_fed c.args.session.now c.take_turns.new.self c.put_lines.new.session c.in-Ok.more is c.in-Ok.ensures.turned
    c.put_lines.ensures.going_on c.requires.fed

pub returns-in-Err-put_lines-clause-stopped : goal.returns-in-Err-put_lines-clause-stopped
returns-in-Err-put_lines-clause-stopped g c = λ options before now r.
    let start : Devices = record now { out = g.W.Sink.taken c.args.out.now } in
    subst (λ v. HasStopped options before (record start { out = g.W.Sink.taken c.put_lines.new.out })
    (g.V.LineVisitor.has_visited v) c.in-Err-put_lines.fault) (sym c.in-Err-put_lines.ensures.unvisited)
    (stopped_put (g.V.LineVisitor.has_visited c.args.visitor.now) options before start c.args.session.now
    c.take_turns.new.self (g.W.Sink.taken c.put_lines.new.out)
    c.in-Ok.more c.in-Err-put_lines.fault (g.W.Sink.is_broken c.put_lines.new.out) c.in-Err-put_lines.ensures.failed
    c.in-Ok.ensures.failed c.in-Ok.ensures.turned c.in-Err-put_lines.ensures.part r)

pub returns-in-Err-clause-stopped : goal.returns-in-Err-clause-stopped
returns-in-Err-clause-stopped g c = λ options before now r.
    let start : Devices = record now { out = g.W.Sink.taken c.args.out.now } in
    stopped_failed (g.V.LineVisitor.has_visited c.args.visitor.now) options before start c.args.session.now
    c.take_turns.new.self c.in-Err.failed c.fault_of.result
    c.fault_of.ensures c.in-Err.ensures.failed c.in-Err.ensures.turned r
