use Rattle.std.proofs.Common.{◌≡◌, length, subst}
use Rattle.std.proofs.lemmas.List.{length-map}
use Rattle.smt_trees.specs.View.{sexp_of}
use Rattle.smt_forms.specs.ScopeView.{scope_view}
use Rattle.smt_terms.specs.Denotes.{Denotes, slots_from}
use Rattle.smt_terms.specs.Internal.DraftView.{is_open}
use Rattle.smt_terms.specs.Internal.NodesView.{KeepsNamed, Stands}
use Rattle.smt_terms.specs.Internal.TableView.{IsReady, table_in}
use Rattle.smt_terms.proofs.DraftLemmas.{carried_sort, names_of}
use Rattle.smt_terms.proofs.NodeLemmas.{if_both}
use Rattle.smt_terms.proofs.TableLemmas.{grows_on, grows_same}
use Rattle.smt_terms.proofs.WholeTermLemmas.{on_answered, whole_denotes, whole_named, whole_placed, whole_sort}
use Rattle.smt_terms.proofs.library.Library.check_over.Goals as goal

pub sort_of-requires : goal.sort_of-requires
sort_of-requires c =
    whole_placed c.args.draft.now c.bind.new.self (scope_view c.args.variables.now) c.requires.none c.requires.base
    c.in_ok-bind.ensures.bound c.bind.ensures.base

pub returns-clause-sort : goal.returns-clause-sort
returns-clause-sort c =
    carried_sort c.sort_of.result _ _
    (whole_sort c.args.draft.now c.bind.new.self (scope_view c.args.variables.now) c.requires.none c.requires.base
    c.in_ok-bind.ensures.bound c.bind.ensures.base c.args.self.now (sexp_of c.args.term)
    c.bind.ensures.labels) c.sort_of.ensures.sort

pub returns-clause-node : goal.returns-clause-node
returns-clause-node c =
    let d = c.args.draft.now in
    let inner = c.bind.new.self in
    let new = c.sort_of.new.draft in
    let term = sexp_of c.args.term in
    let bound = scope_view c.args.variables.now in
    if_both c.sort_of.result (λ found. found.is_open ≡ is_open inner term) (Stands c.args.self.now inner new 0 term)
    (λ found. IsReady (table_in c.args.self.now d) → Denotes (table_in c.args.self.now new)
    (slots_from 0 (names_of bound)) (length c.args.variables.now) 0 found.node term)
    (λ found opened stands ready.
    subst (λ n. Denotes (table_in c.args.self.now new) (slots_from 0 (names_of bound)) n 0 found.node term)
    (length-map c.args.variables.now _)
    (whole_denotes d inner bound c.requires.none c.requires.base c.in_ok-bind.ensures.bound c.bind.ensures.base
    c.args.self.now new term found c.bind.ensures.labels c.bind.ensures.nodes opened stands ready))
    c.sort_of.ensures.open c.sort_of.ensures.node

pub returns-clause-named : goal.returns-clause-named
returns-clause-named c =
    on_answered c.sort_of.result
    (Stands c.args.self.now c.bind.new.self c.sort_of.new.draft 0 (sexp_of c.args.term))
    (KeepsNamed c.args.self.now c.args.draft.now c.sort_of.new.draft)
    (λ found. whole_named c.args.self.now c.args.draft.now c.bind.new.self c.sort_of.new.draft
    (sexp_of c.args.term) found c.bind.ensures.labels c.bind.ensures.nodes) c.sort_of.ensures.node

pub returns-clause-longer : goal.returns-clause-longer
returns-clause-longer c =
    grows_on c.args.draft.now c.bind.new.self c.sort_of.new.draft
    (grows_same c.args.draft.now c.bind.new.self c.bind.ensures.labels c.bind.ensures.nodes)
    c.sort_of.ensures.longer
