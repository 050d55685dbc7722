use Rattle.std.proofs.Common.{ap, arith, length, reverse, sym, take, ◌∙◌}
use Rattle.smt_trees.specs.Sexp.{Items}
use Rattle.smt_trees.proofs.OwnedLemmas.{first_list, first_parts, one_is_counted}
use Rattle.smt_trees.proofs.TapeLemmas.{list_left, outermost}
use Rattle.smt_trees.proofs.tape.Tape.take_in.Goals as goal

pub overflow_sub-len : goal.overflow_sub-len
overflow_sub-len c =
    let o = outermost (take c.args.self.now.used c.args.self.now.text.items) c.args.self.now.cells.items
    (reverse c.args.self.now.begins.items) c.requires c.args.self.now.nested in
    omega (arith, o.some, c.len.ensures, c.args.self.now.cells.ok.0)

pub slice_bounds-of_in-count : goal.slice_bounds-of_in-count
slice_bounds-of_in-count c =
    let o = outermost (take c.args.self.now.used c.args.self.now.text.items) c.args.self.now.cells.items
    (reverse c.args.self.now.begins.items) c.requires c.args.self.now.nested in
    omega (arith, o.some, ap length c.as_slice-cells.ensures.value)

pub slice_bounds-of_in-start : goal.slice_bounds-of_in-start
slice_bounds-of_in-start c = slice_bounds-of_in-count c

pub of_in-requires : goal.of_in-requires
of_in-requires c =
    let text = take c.args.self.now.used c.args.self.now.text.items in
    let all = c.args.self.now.cells.items in
    let o = outermost text all (reverse c.args.self.now.begins.items) c.requires c.args.self.now.nested in
    one_is_counted _ _ (list_left text _ all _ (reverse c.args.self.now.begins.items) c.in_ok-count.count o
    (ap (take c.args.self.now.used) c.as_slice-text.ensures.value) c.as_slice-cells.ensures.value
    (omega (arith, c.in_ok-count.ensures, c.len.ensures, c.args.self.now.cells.ok.0)))

pub returns-clause-taken : goal.returns-clause-taken
returns-clause-taken c = λ parts h.
    let text = take c.args.self.now.used c.args.self.now.text.items in
    let all = c.args.self.now.cells.items in
    let o = outermost text all (reverse c.args.self.now.begins.items) c.requires c.args.self.now.nested in
    first_list _ _ (c.in_ok-tree.ensures
    ∙ list_left text _ all _ (reverse c.args.self.now.begins.items) c.in_ok-count.count o
    (ap (take c.args.self.now.used) c.as_slice-text.ensures.value) c.as_slice-cells.ensures.value
    (omega (arith, c.in_ok-count.ensures, c.len.ensures, c.args.self.now.cells.ok.0)))
    ∙ ap Items (first_parts _ _ (sym o.lists ∙ h))
