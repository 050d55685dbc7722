use Rattle.std.proofs.Common.{Some, cond, drop, ◌+◌, ap, sym, ◌∙◌, option_map}
use Rattle.smt_terms.specs.DeclaredSorts.{name_of_sort}
use Rattle.smt_terms.specs.Internal.LibraryView.{abbreviations_of}
use Rattle.smt_terms.proofs.DeclaredSortLemmas.{name_on}
use Rattle.smt_terms.proofs.library.Library.name_of_sort.Goals as goal

pub returns-then-declares : goal.returns-then-declares
returns-then-declares c =
    let es = abbreviations_of c.args.self.now.sorts in
    let sort = c.args.sort.now in
    let r = c.unwrap.result in
    let at = sym c.get_index.ensures ∙ ap (option_map (λ p. (p.0.now, p.1.now))) c.unwrap.ensures in
    let same = sym c.declares.ensures ∙ c.if-declares.true in
    let rest = name_of_sort (drop (c.loop-place.place + 1) es) sort in
    sym (c.loop-place.invariant ∙ name_on es sort c.loop-place.place (r.0.now, r.1.now) at ∙ ap
    (λ b. cond b (Some r.0.now) rest) same)

pub loop-place-preserved : goal.loop-place-preserved
loop-place-preserved c =
    let es = abbreviations_of c.args.self.now.sorts in
    let sort = c.args.sort.now in
    let r = c.unwrap.result in
    let at = sym c.get_index.ensures ∙ ap (option_map (λ p. (p.0.now, p.1.now))) c.unwrap.ensures in
    let other = sym c.declares.ensures ∙ c.if-declares.false in
    let rest = name_of_sort (drop (c.loop-place.place + 1) es) sort in
    c.loop-place.invariant ∙ name_on es sort c.loop-place.place (r.0.now, r.1.now) at ∙ ap
    (λ b. cond b (Some r.0.now) rest) other
