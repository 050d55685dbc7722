use Rattle.std.proofs.Common.{Some, cond, drop, ◌+◌, ap, sym, ◌∙◌, option_map}
use Rattle.smt_names.specs.Entries.{entries_of}
use Rattle.smt_theory.specs.Words.{look_up}
use Rattle.smt_terms.proofs.LibraryLemmas.{look_on}
use Rattle.smt_terms.proofs.library.Library.get_among_few.Goals as goal

pub returns-then-eq : goal.returns-then-eq
returns-then-eq c =
    let es = entries_of c.args.self.now.names in
    let x = c.args.name.now in
    let r = c.unwrap.result in
    let at = sym c.get_index.ensures ∙ ap (option_map (λ p. (p.0.now, p.1.now))) c.unwrap.ensures in
    let same = sym c.if-eq.ensures in
    let rest = look_up (drop (c.loop-place.place + 1) es) x in
    sym (c.loop-place.invariant ∙ look_on es x c.loop-place.place (r.0.now, r.1.now) at ∙ ap
    (λ b. cond b (Some r.1.now) rest) same)

pub loop-place-preserved : goal.loop-place-preserved
loop-place-preserved c =
    let es = entries_of c.args.self.now.names in
    let x = c.args.name.now in
    let r = c.unwrap.result in
    let at = sym c.get_index.ensures ∙ ap (option_map (λ p. (p.0.now, p.1.now))) c.unwrap.ensures in
    let other = sym c.if-eq.ensures in
    let rest = look_up (drop (c.loop-place.place + 1) es) x in
    c.loop-place.invariant ∙ look_on es x c.loop-place.place (r.0.now, r.1.now) at ∙ ap
    (λ b. cond b (Some r.1.now) rest) other
