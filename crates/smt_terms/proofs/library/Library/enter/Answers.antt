use Rattle.std.proofs.Common.{◌≡◌, ap, inr, reverse, subst, sym, ◌∙◌}
use Rattle.std.proofs.lemmas.Result.{err_from_is_err_and}
use Rattle.smt_trees.specs.Sexp.{Cons, Items, Reserved, Sexps}
use Rattle.smt_trees.specs.View.{sexp_of, sexps_of}
use Rattle.smt_trees.specs.declared.reserved.Word.TheVariants.{As, Underscore}
use Rattle.smt_faults.specs.declared.term_fault.TermFault.TheVariants.{Form}
use Rattle.smt_terms.specs.Checking.{sort_in}
use Rattle.smt_terms.specs.Internal.DraftView.{sorts_seen}
use Rattle.smt_terms.specs.Internal.Frames.{Chain, IsDone, begun}
use Rattle.smt_terms.specs.Internal.LabelsView.{labels_view}
use Rattle.smt_terms.specs.Internal.LibraryView.{names_for, names_of_library}
use Rattle.smt_terms.proofs.ApplicationLemmas.{none_given, same_seen, same_waiting}
use Rattle.smt_terms.proofs.CheckerLemmas.{as_head, underscore_head}
use Rattle.smt_terms.proofs.FrameLemmas.{between_same, fault_through}
use Rattle.smt_terms.proofs.library.Library.enter.Goals as goal

pub returns-in_default-clause-next : goal.returns-in_default-clause-next
returns-in_default-clause-next c first e =
    let d = c.args.draft.now in
    let names = names_for c.args.self.now (labels_view d.labels) in
    let same = between_same c.args.whole c.between-parts.result c.args.part.from c.args.part.to e.trees e.lie
    c.between-parts.ensures.part in
    fault_through c.args.self.now c.args.whole (reverse c.args.frames.now.items) first _ Form e.chain
    (inr (ap (λ ts. sort_in names (sorts_seen d) (Items ts)) (sym same.0 ∙ c.in_default.ensures.trees)))

pub returns-in_err-checked-clause-next : goal.returns-in_err-checked-clause-next
returns-in_err-checked-clause-next c first e =
    let p = err_from_is_err_and c.from_residual.result c.from_residual.ensures.1 in
    let library = c.args.self.now in
    let whole = c.args.whole in
    let fs = reverse c.args.frames.now.items in
    let args = sexps_of c.in-Some.args in
    let same = between_same whole c.between-parts.result c.args.part.from c.args.part.to e.trees e.lie
    c.between-parts.ensures.part in
    let is : e.trees ≡ Cons (Reserved Underscore) args = sym same.0 ∙ c.in-Some.ensures.trees
    ∙ ap (λ h. Cons h args) (underscore_head (sexp_of c.in-Some.head) (sym c.if-is_underscore.ensures)) in
    rw (p.1, p.2)
    (fault_through library whole fs first _ _
    (subst (λ (ts : Sexps). Chain library whole fs first (begun (Items ts) c.args.part.around c.args.draft.now)) is
    e.chain) c.in_err-checked.ensures.fault)

pub returns-then-is_underscore-clause-next : goal.returns-then-is_underscore-clause-next
returns-then-is_underscore-clause-next c first e =
    let library = c.args.self.now in
    let whole = c.args.whole in
    let fs = reverse c.args.frames.now.items in
    let args = sexps_of c.in-Some.args in
    let same = between_same whole c.between-parts.result c.args.part.from c.args.part.to e.trees e.lie
    c.between-parts.ensures.part in
    let is : e.trees ≡ Cons (Reserved Underscore) args = sym same.0 ∙ c.in-Some.ensures.trees
    ∙ ap (λ h. Cons h args) (underscore_head (sexp_of c.in-Some.head) (sym c.if-is_underscore.ensures)) in
    record {
      inner = begun (Items (Cons (Reserved Underscore) args)) c.args.part.around c.args.draft.now;
      placed = c.requires;
      done = c.in_ok-checked.ensures.done;
      chain = subst (λ (ts : Sexps). Chain library whole fs first
          (begun (Items ts) c.args.part.around c.args.draft.now)) is e.chain;
    }

pub returns-in_err-checked-2-clause-next : goal.returns-in_err-checked-2-clause-next
returns-in_err-checked-2-clause-next c first e =
    let p = err_from_is_err_and c.from_residual-in_err-checked-2.result c.from_residual-in_err-checked-2.ensures.1 in
    let library = c.args.self.now in
    let whole = c.args.whole in
    let fs = reverse c.args.frames.now.items in
    let args = sexps_of c.in-Some.args in
    let same = between_same whole c.between-parts.result c.args.part.from c.args.part.to e.trees e.lie
    c.between-parts.ensures.part in
    let is : e.trees ≡ Cons (Reserved As) args = sym same.0 ∙ c.in-Some.ensures.trees
    ∙ ap (λ h. Cons h args) (as_head (sexp_of c.in-Some.head) (sym c.if-is_as.ensures)) in
    rw (p.1, p.2)
    (fault_through library whole fs first (begun (Items (Cons (Reserved As) args)) c.args.part.around c.args.draft.now) _
    (subst (λ (ts : Sexps). Chain library whole fs first (begun (Items ts) c.args.part.around c.args.draft.now)) is
    e.chain) c.in_err-checked-2.ensures.sort)

pub returns-then-is_as-clause-next : goal.returns-then-is_as-clause-next
returns-then-is_as-clause-next c first e =
    let library = c.args.self.now in
    let whole = c.args.whole in
    let fs = reverse c.args.frames.now.items in
    let d = c.args.draft.now in
    let new = c.sort_of_qualified.new.draft in
    let args = sexps_of c.in-Some.args in
    let found = c.in_ok-checked-2.ensures in
    let inner = begun (Items (Cons (Reserved As) args)) c.args.part.around d in
    let same = between_same whole c.between-parts.result c.args.part.from c.args.part.to e.trees e.lie
    c.between-parts.ensures.part in
    let is : e.trees ≡ Cons (Reserved As) args = sym same.0 ∙ c.in-Some.ensures.trees
    ∙ ap (λ h. Cons h args) (as_head (sexp_of c.in-Some.head) (sym c.if-is_as.ensures)) in
    let done : IsDone library inner new c.in_ok-checked-2.checked = record {
      sort = found.sort;
      labels = none_given (names_of_library library) d.labels new.labels found.labels;
      kept = same_seen d new found.scope found.base;
      waiting = same_waiting d new found.arguments;
      used = found.open;
      node = found.node;
      longer = found.longer;
    } in
    record {
      inner = inner;
      placed = c.requires;
      done = done;
      chain = subst (λ (ts : Sexps). Chain library whole fs first (begun (Items ts) c.args.part.around d)) is e.chain;
    }
