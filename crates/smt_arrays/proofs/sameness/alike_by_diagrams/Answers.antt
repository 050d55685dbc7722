use Rattle.std.proofs.Common.{◌≡◌, subst, sym}
use Rattle.smt_diagrams.specs.Diagram.{IsDiagram}
use Rattle.smt_arrays.specs.Cells.{arrays_of}
use Rattle.smt_arrays.specs.Lookup.{bits_of}
use Rattle.smt_arrays.specs.Tables.{array_at}
use Rattle.smt_arrays.specs.declared.lookup.Kind.{Kind}
use Rattle.smt_arrays.specs.declared.lookup.Kind.TheVariants.{Integers}
use Rattle.smt_arrays.proofs.CompareLemmas.{ArePlain, are_plain, compared_so, finite}
use Rattle.smt_arrays.proofs.CompareLemmas.{known_by_defaults, known_different, known_finite}
use Rattle.smt_arrays.proofs.sameness.alike_by_diagrams.Goals as goal

pub are_same-requires-clause-a : goal.are_same-requires-clause-a
are_same-requires-clause-a c =
    subst (λ n. IsDiagram c.args.lookups.now.diagrams n c.in_ok-first.first.diagram) (sym c.bits_of.ensures)
    ((c.requires.lookups.each c.args.a c.in_ok-first.first c.in_ok-first.ensures).serves c.in_ok-kind.kind
    c.in_ok-kind.ensures.0).diagram

pub are_same-requires-clause-b : goal.are_same-requires-clause-b
are_same-requires-clause-b c =
    subst (λ n. IsDiagram c.args.lookups.now.diagrams n c.in_ok-second.second.diagram) (sym c.bits_of.ensures)
    ((c.requires.lookups.each c.args.b c.in_ok-second.second c.in_ok-second.ensures).serves c.in_ok-kind.kind
    c.in_ok-kind.ensures.1).diagram

pub returns-then-not-are_same : goal.returns-then-not-are_same
returns-then-not-are_same c =
    let l = c.args.lookups.now in
    let are = are_plain c.args.cells.now l.elements l.diagrams l.tables.items c.args.a c.args.b c.in_ok-first.first
    c.in_ok-second.second c.in_ok-kind.kind c.requires.older c.requires.lookups c.in_ok-first.ensures
    c.in_ok-second.ensures c.in_ok-kind.ensures in
    known_different are c.are_same.result
    (compared_so l.diagrams c.in_ok-kind.kind c.bits_of.result c.in_ok-first.first.diagram
    c.in_ok-second.second.diagram c.are_same.result c.bits_of.ensures c.are_same.ensures)
    c.if-not-are_same.true

pub returns-in-Truths : goal.returns-in-Truths
returns-in-Truths c =
    let l = c.args.lookups.now in
    let are = are_plain c.args.cells.now l.elements l.diagrams l.tables.items c.args.a c.args.b c.in_ok-first.first
    c.in_ok-second.second c.in_ok-kind.kind c.requires.older c.requires.lookups c.in_ok-first.ensures
    c.in_ok-second.ensures c.in_ok-kind.ensures in
    known_finite are c.are_same.result
    (compared_so l.diagrams c.in_ok-kind.kind c.bits_of.result c.in_ok-first.first.diagram
    c.in_ok-second.second.diagram c.are_same.result c.bits_of.ensures c.are_same.ensures)
    c.if-not-are_same.false (finite c.in_ok-kind.kind c.in-Truths.is)

pub returns-in-Integers : goal.returns-in-Integers
returns-in-Integers c =
    let cells = c.args.cells.now in
    let l = c.args.lookups.now in
    let t = c.in_ok-first.first in
    let u = c.in_ok-second.second in
    let a = array_at (arrays_of cells) c.args.a in
    let b = array_at (arrays_of cells) c.args.b in
    let are = are_plain cells l.elements l.diagrams l.tables.items c.args.a c.args.b t u c.in_ok-kind.kind
    c.requires.older c.requires.lookups c.in_ok-first.ensures c.in_ok-second.ensures c.in_ok-kind.ensures in
    known_by_defaults (subst (λ (k : Kind). ArePlain cells l.elements l.diagrams k a b t.diagram u.diagram)
    c.in-Integers.is are) c.are_same.result
    (compared_so l.diagrams Integers c.bits_of.result t.diagram u.diagram c.are_same.result
    (subst (λ k. c.bits_of.result ≡ bits_of k) c.in-Integers.is c.bits_of.ensures) c.are_same.ensures)
    c.if-not-are_same.false t.default u.default (c.requires.lookups.each c.args.a t c.in_ok-first.ensures).other
    (c.requires.lookups.each c.args.b u c.in_ok-second.ensures).other
