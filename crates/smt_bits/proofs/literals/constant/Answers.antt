use Rattle.std.proofs.Common.{◌*◌, length, sym, ◌∙◌, ap, refl, Some}
use Rattle.smt_theory.specs.Width.{width_of}
use Rattle.smt_bits.proofs.LiteralLemmas.{of_width, too_wide}
use Rattle.smt_bits.proofs.literals.constant.Goals as goal

pub returns-then-digits-gt128 : goal.returns-then-digits-gt128
returns-then-digits-gt128 c = sym
    (too_wide c.args.bits (length c.args.digits.now) c.args.digits.now c.args.base c.requires.some
    c.if-digits-gt128.true refl)

pub returns : goal.returns
returns c =
    let found = sym (ap (λ n. width_of (n * length c.args.digits.now)) c.from.ensures) ∙ sym c.new.ensures ∙
    c.in_ok-width.was in
    ap Some c.new-2.ensures ∙ of_width c.args.bits c.args.digits.now c.args.base c.in_ok-width.width
    c.known_or_read.result found c.known_or_read.ensures
