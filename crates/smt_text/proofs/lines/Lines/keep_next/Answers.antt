use Rattle.std.proofs.Common.{◌≡◌, ℕ, Global, List, Vec, arith, length, subst, sym, vec_len}
use Rattle.smt_text.specs.Lines.{AreKnown}
use Rattle.smt_text.specs.declared.position.Position.{Position}
use Rattle.smt_text.proofs.LineLemmas.{known_more, position_next}
use Rattle.smt_text.proofs.lines.Lines.keep_next.Goals as goal

counted : (known : Vec Position Global) (n : ℕ) → n ≡ vec_len known → n ≡ length known.items
counted known n h = omega arith

pub invariant_of-self-2 : goal.invariant_of-self-2
invariant_of-self-2 c =
    let lines = c.args.self.now in
    record {
      are_known = subst (λ (ps : List Position). AreKnown lines.text.now ps) (sym c.in_ok-push.ensures.items)
          (known_more lines.text.now lines.known.items lines.next lines.are_known lines.next_so);
      next_so = position_next lines.text.now c.len-strides.result lines.next _ c.part_of.result.now lines.known.items
          (counted lines.known _ c.len-strides.ensures) lines.next_so c.part_of.ensures c.after-self.ensures _ lines.next
          c.in_ok-push.ensures.items;
    }
