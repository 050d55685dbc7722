use Rattle.std.proofs.Common.{◌+◌, sym, refl, ◌∙◌, subst}
use Rattle.smt_text.proofs.AtomLemmas.{scan_ended, scan_inside, scan_outside}
use Rattle.smt_text.specs.Internal.AtomScanning.{IsAtomScan}
use Rattle.smt_text.specs.declared.atom_places.AtomScan.{AtomScan}
use Rattle.smt_text.proofs.atom_places.AtomScan.take.Goals as goal
use Rattle.smt_text.proofs.atom_places.AtomScan.take.Goals.{then-not-is_inside}
use Rattle.smt_text.proofs.atom_places.AtomScan.take.Goals.{else-not-is_inside+then-not-is_inside-2+in_ok-push}
use Rattle.smt_text.proofs.atom_places.AtomScan.take.Goals.{else-not-is_inside+else-not-is_inside-2}

pub returns : goal.returns
returns c =
    λ text at h. let old = c.args.self.now in
    elim c.if-not-is_inside.branch [
      | then-not-is_inside w ↦ subst
          (λ (s : AtomScan). IsAtomScan text (c.args.place + 1) (record s { token = c.next-next.result }))
          (sym w.self-is)
          (scan_outside text old (record old { begun = c.args.place; token = c.next-next.result })
          c.after.result c.args.byte c.args.place at c.after.ensures c.next-next.ensures refl refl
          (sym c.is_inside.ensures ∙ w.if-not-is_inside.true) h)
      | else-not-is_inside+then-not-is_inside-2+in_ok-push w ↦ subst
          (λ (s : AtomScan). IsAtomScan text (c.args.place + 1) (record s { token = c.next-next.result }))
          (sym w.self-is)
          (scan_ended text old (record old { spans = w.push.new.self; token = c.next-next.result }) c.after.result
          c.args.byte c.args.place w.place_behind-end.result at c.after.ensures c.next-next.ensures
          w.in_ok-push.ensures.items w.place_behind-end.ensures
          (sym c.is_inside.ensures ∙ w.if-not-is_inside.false)
          (sym w.is_inside-else-not-is_inside.ensures ∙ w.if-not-is_inside-2.true) h)
      | else-not-is_inside+else-not-is_inside-2 w ↦ subst
          (λ (s : AtomScan). IsAtomScan text (c.args.place + 1) (record s { token = c.next-next.result }))
          (sym w.self-is)
          (scan_inside text old (record old { token = c.next-next.result }) c.after.result c.args.byte c.args.place
          at c.after.ensures c.next-next.ensures refl refl (sym c.is_inside.ensures ∙ w.if-not-is_inside.false)
          (sym w.is_inside-else-not-is_inside.ensures ∙ w.if-not-is_inside-2.false) h)
    ]
