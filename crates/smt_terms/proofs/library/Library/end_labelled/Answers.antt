use Rattle.std.proofs.Common.{refl, subst, arith}
use Rattle.std.proofs.lemmas.Result.{err_from_is_err_and}
use Rattle.smt_trees.specs.View.{sexp_of, sexps_of}
use Rattle.smt_terms.specs.Internal.Calls.{IsSortedUnlessOpen}
use Rattle.smt_terms.specs.Internal.DraftView.{sorts_seen}
use Rattle.smt_terms.specs.Internal.Frames.{IsDone, LabelledWaits, begun}
use Rattle.smt_terms.proofs.FrameLemmas.{between_same, split_same}
use Rattle.smt_terms.proofs.LabelFrameLemmas.{done_as, label_fault, labelled_done, used_whole, waits_as}
use Rattle.smt_terms.proofs.TableLemmas.{grows_given, grows_on}
use Rattle.smt_terms.proofs.library.Library.end_labelled.Goals as goal

pub give_labels-requires : goal.give_labels-requires
give_labels-requires c =
    let lie = c.requires.2 in
    let same = between_same c.args.whole c.between-args.result c.args.labelled.parts c.args.labelled.end _ lie
    c.between-args.ensures.part in
    let split = split_same _ _ _ _ (sexps_of c.between-args.result) same.0 c.in-Some.ensures in
    subst (λ t. IsSortedUnlessOpen c.args.self.now c.args.checked t) split.0 c.requires.3

pub returns-in_err-give_labels-clause-done : goal.returns-in_err-give_labels-clause-done
returns-in_err-give_labels-clause-done c outer inner placed w done =
    let p = err_from_is_err_and c.from_residual.result c.from_residual.ensures.1 in
    let library = c.args.self.now in
    let l = c.args.labelled in
    let term = sexp_of c.in-Some.term in
    let same = between_same c.args.whole c.between-args.result l.parts l.end _ w.lie c.between-args.ensures.part in
    let split = split_same _ _ _ _ (sexps_of c.between-args.result) same.0 c.in-Some.ensures in
    let part = begun term inner.around inner.draft in
    let waits : LabelledWaits c.args.whole l outer part =
    waits_as c.args.whole l outer inner term (sexps_of c.in-Some.attributes) w split.0 split.1 in
    let last = c.args.draft.now in
    let is_done : IsDone library part last c.args.checked = done_as library inner term last c.args.checked split.0 done in
    rw (p.1, p.2)
    (label_fault library c.args.whole l outer part last c.args.checked _ waits is_done
    (c.in_err-give_labels.ensures.fault (sorts_seen outer.draft)
    (used_whole library c.args.whole l outer part last c.args.checked waits is_done)))

pub returns-in_err-give_labels-clause-longer : goal.returns-in_err-give_labels-clause-longer
returns-in_err-give_labels-clause-longer c =
    let last = c.args.draft.now in
    grows_given last (record last { labels = c.give_labels.new.labels }) c.give_labels.ensures.longer.0 refl
    c.give_labels.ensures.longer.1

pub returns-in_err-named-clause-longer : goal.returns-in_err-named-clause-longer
returns-in_err-named-clause-longer c =
    let last = c.args.draft.now in
    grows_on last (record last { labels = c.give_labels.new.labels }) c.push.new.self
    (grows_given last (record last { labels = c.give_labels.new.labels }) c.give_labels.ensures.longer.0 refl
    c.give_labels.ensures.longer.1)
    c.push.ensures.longer

pub returns-clause-longer : goal.returns-clause-longer
returns-clause-longer c =
    let last = c.args.draft.now in
    grows_on last (record last { labels = c.give_labels.new.labels }) c.push.new.self
    (grows_given last (record last { labels = c.give_labels.new.labels }) c.give_labels.ensures.longer.0 refl
    c.give_labels.ensures.longer.1)
    c.push.ensures.longer

pub returns-clause-done : goal.returns-clause-done
returns-clause-done c outer inner placed w done =
    let library = c.args.self.now in
    let l = c.args.labelled in
    let term = sexp_of c.in-Some.term in
    let same = between_same c.args.whole c.between-args.result l.parts l.end _ w.lie c.between-args.ensures.part in
    let split = split_same _ _ _ _ (sexps_of c.between-args.result) same.0 c.in-Some.ensures in
    let part = begun term inner.around inner.draft in
    let waits : LabelledWaits c.args.whole l outer part =
    waits_as c.args.whole l outer inner term (sexps_of c.in-Some.attributes) w split.0 split.1 in
    let last = c.args.draft.now in
    let is_done : IsDone library part last c.args.checked = done_as library inner term last c.args.checked split.0 done in
    let given = c.in_ok-give_labels.ensures in
    let added = c.in_ok-named.ensures in
    labelled_done library c.args.whole l outer part last c.push.new.self c.give_labels.new.labels _
    c.give_labels.ensures.longer.0 c.args.checked c.in_ok-named.named waits is_done
    (omega (arith, c.len.ensures, c.len-2.ensures))
    (given.fault (sorts_seen outer.draft)
    (used_whole library c.args.whole l outer part last c.args.checked waits is_done))
    given.labels given.nodes c.give_labels.ensures.longer.1 given.named added.sort added.open added.added
    c.push.ensures.longer added.scope added.base added.labels added.arguments
