use Rattle.std.proofs.Common.{◌≡◌, ◌<◌, ◌+◌, ℕ, true, ltb-true, eqb-true, arith, get_or, length, subst, sym, ap, ◌∙◌}
use Rattle.std.proofs.Common.{take}
use Rattle.std.proofs.lemmas.Bool.{false≢true}
use Rattle.smt_text.proofs.BuilderLemmas.{depth_of-flush}
use Rattle.smt_text.proofs.EndingLemmas.{ends_inside}
use Rattle.smt_text.proofs.MarkedLemmas.{marks_atom, marks_end}
use Rattle.smt_text.proofs.WindowLemmas.{held_part}
use Rattle.smt_text.proofs.RunLemmas.{atom_white, atom_close, kept_on, over_goes, rest_of}
use Rattle.smt_text.specs.Internal.ReaderState.{levels_of, state_of}
use Rattle.smt_text.specs.Internal.LexerStates.{At, depth_of}
use Rattle.smt_text.specs.Lexical.{is_white}
use Rattle.smt_text.proofs.reader.Reader.read_atom.Goals as goal
use Rattle.smt_text.proofs.reader.Reader.read_atom.Goals.{then-text-end-eq41, else-text-end-eq41}
use Rattle.smt_text.proofs.reader.Reader.read_atom.Goals.{else-not-closes-via-else-not-closes}
use Rattle.smt_text.proofs.reader.Reader.read_atom.Goals.{else-not-closes-via-then-not-closes+else-not-is_white}

pub add_atom-requires-clause-held : goal.add_atom-requires-clause-held
add_atom-requires-clause-held c =
    held_part c.args.self.now.builder.list c.args.at c.args.text.now c.args.mark (c.args.known + c.run_length.result)
    (omega arith) c.requires.held

pub end_list-requires : goal.end_list-requires
end_list-requires c =
    let mid = c.add_atom.new.self in
    let said = take (c.args.known + c.run_length.result) (rest_of c.args.text.now c.args.mark) in
    let levels = levels_of c.args.self.now.builder in
    let same : depth_of (levels_of mid.builder) ≡ depth_of levels = ap depth_of c.in_ok-add_atom.ensures.added
    ∙ depth_of-flush (At c.args.token said levels) in
    let deep : 0 < depth_of levels = elim c.if-text-end-eq41.branch [
      | then-text-end-eq41 w ↦ subst (λ (x : ℕ). 0 < x) w.depth.ensures
          (ltb-true 0 w.depth.result (sym w.closes-is ∙ c.if-closes.true))
      | else-text-end-eq41 w ↦ absurd (w.if-text-end-eq41.false
          (eqb-true (get_or c.args.text.now (c.args.mark + (c.args.known + c.run_length.result)) 0) 41
          (sym w.closes-is ∙ c.if-closes.true)))
    ] in
    subst (λ (x : ℕ). 0 < x) (sym same) deep

pub returns-in_ok-end_list-clause-goes : goal.returns-in_ok-end_list-clause-goes
returns-in_ok-end_list-clause-goes c =
    let text = c.args.text.now in
    let mark = c.args.mark in
    let n = c.args.known + c.run_length.result in
    let kept = kept_on c.args.token text mark c.args.known c.run_length.result c.requires.kept
    c.run_length.ensures.kept in
    let levels = levels_of c.args.self.now.builder in
    let mid = c.add_atom.new.self in
    let token = c.in_ok-add_atom.ensures.token ∙ c.requires.token in
    let left = ap (λ v. v.items) c.in_ok-add_atom.ensures.bytes ∙ c.requires.bytes in
    let closes : (get_or text (mark + n) 0 ≡ 41) × (0 < depth_of levels) = elim c.if-text-end-eq41.branch [
      | then-text-end-eq41 w ↦ (
        w.if-text-end-eq41.true,
        subst (λ (x : ℕ). 0 < x) w.depth.ensures
            (ltb-true 0 w.depth.result (sym w.closes-is ∙ c.if-closes.true)),
      )
      | else-text-end-eq41 w ↦ absurd (w.if-text-end-eq41.false
          (eqb-true (get_or text (mark + n) 0) 41 (sym w.closes-is ∙ c.if-closes.true)))
    ] in
    over_goes c.args.self.now _ text (mark + n + 1)
    (atom_close c.args.self.now.max_depth (state_of c.args.self.now) (levels_of mid.builder)
    (levels_of c.end_list.new.self) c.args.token mid.token mid.bytes.items text mark n c.requires.begins token left
    (omega arith) (omega arith) kept closes.0 closes.1 c.in_ok-add_atom.ensures.added
    c.in_ok-end_list.ensures.levels) c.in_ok-add_atom.ensures.beside.3 c.in_ok-add_atom.ensures.token
    c.in_ok-add_atom.ensures.bytes

pub returns-in_ok-end_list-clause-marks : goal.returns-in_ok-end_list-clause-marks
returns-in_ok-end_list-clause-marks c =
    let text = c.args.text.now in
    let n = c.args.known + c.run_length.result in
    let mid = c.add_atom.new.self in
    let levels = levels_of c.args.self.now.builder in
    let said = take n (rest_of text c.args.mark) in
    let same : depth_of (levels_of mid.builder) ≡ depth_of levels = ap depth_of c.in_ok-add_atom.ensures.added
    ∙ depth_of-flush (At c.args.token said levels) in
    let deep : 0 < depth_of (levels_of mid.builder) = elim c.if-text-end-eq41.branch [
      | then-text-end-eq41 w ↦ subst (λ (x : ℕ). 0 < x) (w.depth.ensures ∙ sym same)
          (ltb-true 0 w.depth.result (sym w.closes-is ∙ c.if-closes.true))
      | else-text-end-eq41 w ↦ absurd (w.if-text-end-eq41.false
          (eqb-true (get_or text (c.args.mark + n) 0) 41 (sym w.closes-is ∙ c.if-closes.true)))
    ] in
    let goes = returns-in_ok-end_list-clause-goes c in
    marks_end c.args.self.now (record mid { builder = c.end_list.new.self }) text (c.args.mark + n + 1)
    goes.within (sym (c.in_ok-add_atom.ensures.token ∙ c.requires.token)) goes.runs
    (ends_inside (record { left = length text; read = c.args.mark + n })
    (record { left = length text; read = c.args.mark + n + 1 }) c.args.self.now.builder
    mid.builder c.end_list.new.self deep c.in_ok-add_atom.ensures.beside.5 c.in_ok-add_atom.ensures.ready c.in_ok-end_list.ensures.ready)

pub returns-else-closes-clause-goes : goal.returns-else-closes-clause-goes
returns-else-closes-clause-goes c =
    let text = c.args.text.now in
    let mark = c.args.mark in
    let n = c.args.known + c.run_length.result in
    let kept = kept_on c.args.token text mark c.args.known c.run_length.result c.requires.kept
    c.run_length.ensures.kept in
    let mid = c.add_atom.new.self in
    let token = c.in_ok-add_atom.ensures.token ∙ c.requires.token in
    let left = ap (λ v. v.items) c.in_ok-add_atom.ensures.bytes ∙ c.requires.bytes in
    let white : is_white (get_or text (mark + n) 0) ≡ true = elim c.else-not-closes.branch [
      | else-not-closes-via-else-not-closes v ↦ absurd
          (false≢true (sym c.if-closes.false ∙ v.if-not-closes.false))
      | else-not-closes-via-then-not-closes+else-not-is_white v ↦ sym v.is_white.ensures ∙ v.if-not-is_white.false
    ] in
    over_goes c.args.self.now _ text (mark + n + 1)
    (atom_white c.args.self.now.max_depth (state_of c.args.self.now) (levels_of mid.builder) c.args.token
    mid.token mid.bytes.items text mark n c.requires.begins token left (omega arith) (omega arith) kept white
    c.in_ok-add_atom.ensures.added) c.in_ok-add_atom.ensures.beside.3 c.in_ok-add_atom.ensures.token
    c.in_ok-add_atom.ensures.bytes

pub returns-else-closes-clause-marks : goal.returns-else-closes-clause-marks
returns-else-closes-clause-marks c =
    let n = c.args.known + c.run_length.result in
    let kept = kept_on c.args.token c.args.text.now c.args.mark c.args.known c.run_length.result c.requires.kept
    c.run_length.ensures.kept in
    marks_atom c.args.self.now c.add_atom.new.self c.args.text.now c.args.mark n c.args.token
    c.requires.begins (omega arith) (omega arith) kept c.in_ok-add_atom.ensures.added
    c.in_ok-add_atom.ensures.ready
