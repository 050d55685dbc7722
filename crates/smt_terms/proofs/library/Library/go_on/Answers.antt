use Rattle.std.proofs.Common.{Err, Ok, reverse, subst}
use Rattle.std.proofs.lemmas.Result.{err_from_is_err_and}
use Rattle.smt_terms.specs.Internal.Frames.{ArgumentWaits, BindingWaits, BodyWaits, LabelledWaits, Waits}
use Rattle.smt_terms.specs.declared.library.frames.Frame.{Frame}
use Rattle.smt_terms.proofs.ApplicationLemmas.{called_next}
use Rattle.smt_terms.proofs.FrameLemmas.{between_same, done_next}
use Rattle.smt_terms.proofs.LetFrameLemmas.{bound_next}
use Rattle.smt_terms.proofs.library.Library.go_on.Goals as goal

pub returns-in_ok-push-in-Argument-clause-next : goal.returns-in_ok-push-in-Argument-clause-next
returns-in_ok-push-in-Argument-clause-next c first inner done chain =
    let library = c.args.self.now in
    let whole = c.args.whole in
    let draft = c.args.draft.now in
    let link = chain.1 in
    let a = c.in-Argument.application in
    let left = c.in-Argument.left in
    let is_open = c.in-Argument.is_open in
    let waits : ArgumentWaits library whole a left is_open chain.0 link.part =
    subst (λ (f : Frame). Waits library whole f chain.0 link.part) c.in-Argument.is link.waits in
    record {
      outer = chain.0;
      trees = waits.lie.part;
      placed = link.placed;
      called = called_next library whole a left is_open chain.0 link.part waits.lie.part draft c.push.new.self
          c.args.checked waits waits.lie.are waits.lie.lies (link.leads.done draft c.args.checked done)
          c.in_ok-push-in-Argument.ensures.sorts c.in_ok-push-in-Argument.ensures.terms;
      from_is = waits.lie.from_is;
      chain = chain.2;
    }

pub returns-in_ok-next-in-Binding-clause-next : goal.returns-in_ok-next-in-Binding-clause-next
returns-in_ok-next-in-Binding-clause-next c first inner done chain =
    let library = c.args.self.now in
    let whole = c.args.whole in
    let draft = c.args.draft.now in
    let link = chain.1 in
    let b = c.in-Binding.binder in
    let left = c.in-Binding.left in
    let distinct = c.in-Binding.distinct in
    let is_open = c.in-Binding.is_open in
    let waits : BindingWaits library whole b left distinct is_open chain.0 link.part =
    subst (λ (f : Frame). Waits library whole f chain.0 link.part) c.in-Binding.is link.waits in
    let same = between_same whole c.between-left.result left b.body waits.rest waits.lie
    c.between-left.ensures.part in
    c.in_ok-next-in-Binding.ensures.next first chain.0 link.placed
    (bound_next library whole b left distinct is_open chain.0 link.part c.between-left.result draft
    c.push-in-Binding.new.self c.args.checked waits same.0 same.1 (link.leads.done draft c.args.checked done)
    c.in_ok-push-in-Binding.ensures.sorts c.in_ok-push-in-Binding.ensures.terms)
    chain.2

pub returns-in_err-next-in-Binding-clause-next : goal.returns-in_err-next-in-Binding-clause-next
returns-in_err-next-in-Binding-clause-next c first inner done chain =
    let p = err_from_is_err_and c.from_residual-in_err-next-in-Binding.result
    c.from_residual-in_err-next-in-Binding.ensures.1 in
    let library = c.args.self.now in
    let whole = c.args.whole in
    let draft = c.args.draft.now in
    let link = chain.1 in
    let b = c.in-Binding.binder in
    let left = c.in-Binding.left in
    let distinct = c.in-Binding.distinct in
    let is_open = c.in-Binding.is_open in
    let waits : BindingWaits library whole b left distinct is_open chain.0 link.part =
    subst (λ (f : Frame). Waits library whole f chain.0 link.part) c.in-Binding.is link.waits in
    let same = between_same whole c.between-left.result left b.body waits.rest waits.lie
    c.between-left.ensures.part in
    rw (p.1, p.2)
    (c.in_err-next-in-Binding.ensures.next first chain.0 link.placed
    (bound_next library whole b left distinct is_open chain.0 link.part c.between-left.result draft
    c.push-in-Binding.new.self c.args.checked waits same.0 same.1 (link.leads.done draft c.args.checked done)
    c.in_ok-push-in-Binding.ensures.sorts c.in_ok-push-in-Binding.ensures.terms)
    chain.2)

pub returns-in_ok-next-in-Body-clause-next : goal.returns-in_ok-next-in-Body-clause-next
returns-in_ok-next-in-Body-clause-next c first inner done chain =
    let library = c.args.self.now in
    let whole = c.args.whole in
    let link = chain.1 in
    let waits : BodyWaits library c.in-Body.body c.in-Body.is_open chain.0 link.part =
    subst (λ (f : Frame). Waits library whole f chain.0 link.part) c.in-Body.is link.waits in
    done_next (Ok c.in_ok-next-in-Body.next) library whole (reverse c.args.frames.now.items) first chain.0
    c.end_let.new.draft
    (c.in_ok-next-in-Body.ensures.done chain.0 link.part link.placed waits
    (link.leads.done c.args.draft.now c.args.checked done))
    link.placed chain.2

pub returns-in_err-next-in-Body-clause-next : goal.returns-in_err-next-in-Body-clause-next
returns-in_err-next-in-Body-clause-next c first inner done chain =
    let p = err_from_is_err_and c.from_residual-in_err-next-in-Body.result
    c.from_residual-in_err-next-in-Body.ensures.1 in
    let library = c.args.self.now in
    let whole = c.args.whole in
    let link = chain.1 in
    let waits : BodyWaits library c.in-Body.body c.in-Body.is_open chain.0 link.part =
    subst (λ (f : Frame). Waits library whole f chain.0 link.part) c.in-Body.is link.waits in
    rw (p.1, p.2)
    (done_next (Err _) library whole (reverse c.args.frames.now.items) first chain.0 c.end_let.new.draft
    (c.in_err-next-in-Body.ensures.done chain.0 link.part link.placed waits
    (link.leads.done c.args.draft.now c.args.checked done))
    link.placed chain.2)

pub returns-in_ok-next-in-Labelled-clause-next : goal.returns-in_ok-next-in-Labelled-clause-next
returns-in_ok-next-in-Labelled-clause-next c first inner done chain =
    let library = c.args.self.now in
    let whole = c.args.whole in
    let link = chain.1 in
    let waits : LabelledWaits whole c.in-Labelled.labelled chain.0 link.part =
    subst (λ (f : Frame). Waits library whole f chain.0 link.part) c.in-Labelled.is link.waits in
    done_next (Ok c.in_ok-next-in-Labelled.next) library whole (reverse c.args.frames.now.items) first chain.0
    c.end_labelled.new.draft
    (c.in_ok-next-in-Labelled.ensures.done chain.0 link.part link.placed waits
    (link.leads.done c.args.draft.now c.args.checked done))
    link.placed chain.2

pub returns-in_err-next-in-Labelled-clause-next : goal.returns-in_err-next-in-Labelled-clause-next
returns-in_err-next-in-Labelled-clause-next c first inner done chain =
    let p = err_from_is_err_and c.from_residual-in_err-next-in-Labelled.result
    c.from_residual-in_err-next-in-Labelled.ensures.1 in
    let library = c.args.self.now in
    let whole = c.args.whole in
    let link = chain.1 in
    let waits : LabelledWaits whole c.in-Labelled.labelled chain.0 link.part =
    subst (λ (f : Frame). Waits library whole f chain.0 link.part) c.in-Labelled.is link.waits in
    rw (p.1, p.2)
    (done_next (Err _) library whole (reverse c.args.frames.now.items) first chain.0 c.end_labelled.new.draft
    (c.in_err-next-in-Labelled.ensures.done chain.0 link.part link.placed waits
    (link.leads.done c.args.draft.now c.args.checked done))
    link.placed chain.2)
