use Rattle.std.proofs.Common.{◌∙◌, Some, ap, sym, inl, inr}
use Rattle.smt_arrays.specs.Cells.{arrays_of}
use Rattle.smt_arrays.specs.Internal.{known_same_in}
use Rattle.smt_arrays.specs.Tables.{array_at}
use Rattle.smt_arrays.proofs.AlikeLemmas.{alike_by_parts, deeper, not_deeper, plain_same}
use Rattle.smt_arrays.proofs.sameness.+sameness.Goals as goal
use Rattle.smt_arrays.proofs.sameness.+sameness.Goals.{sameness-in_default-via-in-Some+in_default}
use Rattle.smt_arrays.proofs.sameness.+sameness.Goals.{sameness-in_default-via-in_default}

pub are_alike-returns : goal.are_alike-returns
are_alike-returns t c =
    alike_by_parts (known_same_in c.args.depth) (array_at (arrays_of c.args.cells.now) c.args.a)
    (array_at (arrays_of c.args.cells.now) c.args.b) c.default_sameness.result c.are_alike_where_written-first.result
    c.are_alike_where_written-second.result c.both.result c.both-2.result c.default_sameness.ensures
    c.are_alike_where_written-first.ensures c.are_alike_where_written-second.ensures c.both.ensures c.both-2.ensures

pub are_alike-returns-in-Some : goal.are_alike-returns-in-Some
are_alike-returns-in-Some t c = sym (c.in-Some.ensures c.args.depth)

pub sameness-returns-in_default : goal.sameness-returns-in_default
sameness-returns-in_default t c =
    ap Some c.are_plain_and_same.ensures
    ∙ sym (plain_same c.args.cells.now c.args.depth c.args.a.now c.args.b.now c.requires.older c.requires.a c.requires.b
    (elim c.in_default.branch [
      | sameness-in_default-via-in-Some+in_default w ↦ inr (sym c.place_of-2.ensures ∙ w.in_default.is-1)
      | sameness-in_default-via-in_default w ↦ inl (sym c.place_of.ensures ∙ w.in_default.is-0)
    ]))

pub sameness-returns-then-depth-eq0 : goal.sameness-returns-then-depth-eq0
sameness-returns-then-depth-eq0 t c =
    not_deeper c.args.cells.now c.args.depth c.args.a.now c.args.b.now c.in-Some-Some.first c.in-Some-Some.second
    c.requires.older c.requires.a c.requires.b c.in-Some-Some.ensures c.in-Some-Some.ensures' c.if-depth-eq0.true

pub sameness-returns : goal.sameness-returns
sameness-returns t c =
    c.are_alike.ensures
    ∙ deeper c.args.cells.now c.args.depth c.args.a.now c.args.b.now c.in-Some-Some.first c.in-Some-Some.second
    c.requires.older c.requires.a c.requires.b c.in-Some-Some.ensures c.in-Some-Some.ensures' c.if-depth-eq0.false
