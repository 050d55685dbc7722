use Rattle.std.proofs.Common.{◌∙◌, ◌≡◌, ℕ, arith, subst, take, Err, Some}
use Rattle.smt_text.proofs.MarkedLemmas.{marks_further}
use Rattle.smt_text.proofs.RunLemmas.{further, refused, rest_length, rest_of}
use Rattle.smt_text.specs.Internal.LexerStates.{run}
use Rattle.smt_text.specs.Internal.ReaderState.{state_of, GoesOver, Marks, UnlessRefused}
use Rattle.smt_text.specs.declared.refusal.Refusal.{Refusal}
use Rattle.smt_faults.specs.declared.failure.Failure.{Failure}
use Rattle.smt_faults.specs.declared.failure.Failure.TheVariants.{Fault}
use Rattle.smt_text.proofs.reader.Reader.read.Goals as goal

pub loop-place-preserved : goal.loop-place-preserved
loop-place-preserved c = record {
  within = omega (
    arith,
    c.in-Ok.ensures.goes.1,
    rest_length c.args.piece.now c.loop-place.place,
    c.loop-place.invariant.within,
  );
  beside = (
    c.in-Ok.ensures.beside.0 ∙ c.loop-place.invariant.beside.0,
    c.in-Ok.ensures.beside.1 ∙ c.loop-place.invariant.beside.1,
    c.in-Ok.ensures.beside.2 ∙ c.loop-place.invariant.beside.2,
    c.in-Ok.ensures.beside.3 ∙ c.loop-place.invariant.beside.3,
    c.in-Ok.ensures.beside.4 ∙ c.loop-place.invariant.beside.4,
    c.in-Ok.ensures.beside.5 ∙ c.loop-place.invariant.beside.5,
  );
  runs = further c.args.self.now.max_depth (state_of c.args.self.now) (state_of c.loop-place.self)
      (state_of c.read_some.new.self) c.args.piece.now c.loop-place.place c.in-Ok.count
      c.loop-place.invariant.runs
      (subst (λ m. run m (state_of c.loop-place.self)
      (take c.in-Ok.count (rest_of c.args.piece.now c.loop-place.place)) ≡ Some (state_of c.read_some.new.self))
      c.loop-place.invariant.beside.3 c.in-Ok.ensures.goes.2);
  marks = marks_further c.args.self.now c.loop-place.self c.args.piece.now c.read_some.new.self
      c.loop-place.place c.loop-place.invariant.within c.loop-place.invariant.runs
      c.loop-place.invariant.beside.3 c.loop-place.invariant.beside.5 c.loop-place.invariant.marks
      c.in-Ok.ensures.marks;
}

pub returns-in-Err-Fault-clause-goes : goal.returns-in-Err-Fault-clause-goes
returns-in-Err-Fault-clause-goes c =
    refused c.args.self.now.max_depth (state_of c.args.self.now) (state_of c.loop-place.self)
    (state_of c.read_some.new.self) c.args.piece.now c.loop-place.place c.args.self.now.fed
    c.read_some.new.self.fed c.in-Err-Fault.refusal c.at.result c.loop-place-test.true
    c.loop-place.invariant.runs
    (c.in-Err-Fault.ensures.beside.0 ∙ c.loop-place.invariant.beside.0) c.at.ensures
    (subst (λ m. GoesOver m (state_of c.loop-place.self) (rest_of c.args.piece.now c.loop-place.place)
    (Err (Fault c.in-Err-Fault.refusal)) (state_of c.read_some.new.self)) c.loop-place.invariant.beside.3
    (subst (λ e. GoesOver c.loop-place.self.max_depth (state_of c.loop-place.self)
    (rest_of c.args.piece.now c.loop-place.place) (Err e) (state_of c.read_some.new.self))
    c.in-Err-Fault.field-0-is c.in-Err-Fault.ensures.goes))

pub returns-in-Err-Fault-clause-marks : goal.returns-in-Err-Fault-clause-marks
returns-in-Err-Fault-clause-marks c =
    marks_further c.args.self.now c.loop-place.self c.args.piece.now c.read_some.new.self c.loop-place.place
    c.loop-place.invariant.within c.loop-place.invariant.runs c.loop-place.invariant.beside.3
    c.loop-place.invariant.beside.5 c.loop-place.invariant.marks
    (subst (λ (e : Failure Refusal). UnlessRefused {T = ℕ} (Err e) (Marks c.loop-place.self
    (rest_of c.args.piece.now c.loop-place.place) c.read_some.new.self)) c.in-Err-Fault.field-0-is
    c.in-Err-Fault.ensures.marks)
