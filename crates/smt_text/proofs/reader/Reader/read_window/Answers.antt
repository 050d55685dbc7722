use Rattle.std.proofs.Common.{◌∙◌, ap, eq-eqb, length, refl, sym}
use Rattle.std.proofs.lemmas.Bool.{false≢true}
use Rattle.smt_text.proofs.MarkedLemmas.{marks_further}
use Rattle.smt_text.proofs.RunLemmas.{goes_further}
use Rattle.smt_text.proofs.WindowLemmas.{goes_same, held_on, marks_same}
use Rattle.smt_text.specs.Internal.LexerStates.{At}
use Rattle.smt_trees.specs.TapeView.{text_of}
use Rattle.smt_text.proofs.reader.Reader.read_window.Goals as goal

pub returns-then-count-eq0-clause-marks : goal.returns-then-count-eq0-clause-marks
returns-then-count-eq0-clause-marks c =
    marks_further c.args.self.now c.loop-place.self c.args.window.now c.read_token.new.self c.loop-place.place
    c.loop-place.invariant.goes.within c.loop-place.invariant.goes.runs c.loop-place.invariant.beside.3
    c.loop-place.invariant.beside.5 c.loop-place.invariant.marks c.in_ok-count.ensures.marks

pub loop-place-preserved-then-is_text_taken : goal.loop-place-preserved-then-is_text_taken
loop-place-preserved-then-is_text_taken c =
    let now = record c.read_token.new.self { builder = c.offer-then-is_text_taken.new.self } in
    let goes = goes_further c.args.self.now c.loop-place.self c.read_token.new.self c.args.window.now c.loop-place.place
    c.in_ok-count.count c.loop-place.invariant.goes c.in_ok-count.ensures.goes in
    let marks = marks_further c.args.self.now c.loop-place.self c.args.window.now c.read_token.new.self c.loop-place.place
    c.loop-place.invariant.goes.within c.loop-place.invariant.goes.runs c.loop-place.invariant.beside.3
    c.loop-place.invariant.beside.5 c.loop-place.invariant.marks c.in_ok-count.ensures.marks in
    record {
      beside = (
        c.in_ok-count.ensures.beside.0 ∙ c.loop-place.invariant.beside.0,
        c.in_ok-count.ensures.beside.1 ∙ c.loop-place.invariant.beside.1,
        c.in_ok-count.ensures.beside.2 ∙ c.loop-place.invariant.beside.2,
        c.in_ok-count.ensures.beside.3 ∙ c.loop-place.invariant.beside.3,
        c.in_ok-count.ensures.beside.4 ∙ c.loop-place.invariant.beside.4,
        c.in_ok-at-2.ensures.limit ∙ c.in_ok-count.ensures.beside.5 ∙ c.loop-place.invariant.beside.5,
      );
      goes = goes_same c.args.self.now c.read_token.new.self now c.args.window.now _
          (ap (At c.read_token.new.self.token c.read_token.new.self.bytes.items) c.in_ok-at-2.ensures.levels)
          refl refl refl goes;
      marks = marks_same c.args.self.now c.read_token.new.self now c.args.window.now c.in_ok-at-2.ensures.ready marks;
      held = c.in_ok-at-2.ensures.held;
    }

pub loop-place-preserved : goal.loop-place-preserved
loop-place-preserved c = record {
  beside = (
    c.in_ok-count.ensures.beside.0 ∙ c.loop-place.invariant.beside.0,
    c.in_ok-count.ensures.beside.1 ∙ c.loop-place.invariant.beside.1,
    c.in_ok-count.ensures.beside.2 ∙ c.loop-place.invariant.beside.2,
    c.in_ok-count.ensures.beside.3 ∙ c.loop-place.invariant.beside.3,
    c.in_ok-count.ensures.beside.4 ∙ c.loop-place.invariant.beside.4,
    c.in_ok-count.ensures.beside.5 ∙ c.loop-place.invariant.beside.5,
  );
  goes = goes_further c.args.self.now c.loop-place.self c.read_token.new.self c.args.window.now c.loop-place.place
      c.in_ok-count.count c.loop-place.invariant.goes c.in_ok-count.ensures.goes;
  marks = marks_further c.args.self.now c.loop-place.self c.args.window.now c.read_token.new.self c.loop-place.place
      c.loop-place.invariant.goes.within c.loop-place.invariant.goes.runs c.loop-place.invariant.beside.3
      c.loop-place.invariant.beside.5 c.loop-place.invariant.marks c.in_ok-count.ensures.marks;
  held = held_on c.loop-place.self.builder c.read_token.new.self.builder c.loop-place.at c.args.window.now
      c.loop-place.place c.in_ok-count.count c.in_ok-count.ensures.goes.within c.in_ok-count.ensures.text
      (λ none. false≢true (sym c.if-is_text_taken.false ∙ c.is_text_taken.ensures
      ∙ eq-eqb (length (text_of c.read_token.new.self.builder.list)) 0 none)) c.loop-place.invariant.held;
}
