use Rattle.std.proofs.Common.{◌≡◌, ◌+◌, ◌-◌, ◌∷◌, [], ℕ, List, Ok, ap, refl, reverse, subst, sym, ◌∙◌, arith, length}
use Rattle.std.proofs.lemmas.List.{length-append}
use Rattle.std.proofs.lemmas.Result.{err_from_is_err_and}
use Rattle.smt_trees.specs.Places.{IsListIn, size_of}
use Rattle.smt_trees.specs.View.{sexp_of}
use Rattle.smt_terms.specs.Internal.DraftView.{argument_sorts}
use Rattle.smt_terms.specs.Internal.Frames.{Begins, Chain, begun}
use Rattle.smt_terms.specs.declared.library.frames.Frame.{Frame}
use Rattle.smt_terms.specs.declared.library.frames.Frame.TheVariants as frame
use Rattle.smt_terms.specs.declared.library.frames.Next.{Next}
use Rattle.smt_terms.specs.declared.library.frames.Next.TheVariants.{Enter}
use Rattle.smt_terms.proofs.ArgumentLemmas.{sees_with}
use Rattle.smt_terms.proofs.DraftLemmas.{kept_on, placed_kept}
use Rattle.smt_terms.proofs.FrameLemmas.{begun_next, fault_through, link_fault, pushed}
use Rattle.smt_terms.proofs.LetFrameLemmas.{all_bound, binding_link, binding_waits, bound_next, twice_fault}
use Rattle.smt_terms.proofs.TableLemmas.{grows_on}
use Rattle.smt_terms.proofs.library.Library.check_bindings.Goals as goal

pub returns-then-distinct-eq0-clause-next : goal.returns-then-distinct-eq0-clause-next
returns-then-distinct-eq0-clause-next c first outer placed bound chain =
    let library = c.args.self.now in
    let whole = c.args.whole in
    let so = c.loop-term.invariant in
    fault_through library whole (reverse c.args.frames.now.items) first outer _ chain
    (twice_fault library whole c.args.binder c.loop-term.left c.in-Some.field-0-0.now (sexp_of c.in-Some.term) _
    c.loop-term.distinct c.loop-term.is_open outer c.loop-term.draft (so.bound outer bound) c.if-distinct-eq0.true
    c.in-Some.ensures.trees)

pub returns-in_err-checked-clause-next : goal.returns-in_err-checked-clause-next
returns-in_err-checked-clause-next c first outer placed bound chain =
    let p = err_from_is_err_and c.from_residual.result c.from_residual.ensures.1 in
    let library = c.args.self.now in
    let whole = c.args.whole in
    let b = c.args.binder in
    let mid = c.loop-term.draft in
    let rest = c.in-Some.rest in
    let term = sexp_of c.in-Some.term in
    let distinct = c.loop-term.distinct in
    let is_open = c.loop-term.is_open in
    let place = size_of rest + b.body in
    let inner = begun term 0 mid in
    let now = c.loop-term.invariant.bound outer bound in
    let waits = binding_waits library whole b c.loop-term.left rest c.in-Some.field-0-0.now term place distinct is_open
    outer mid now c.in-Some.ensures.trees ((c.in-Some.ensures.places whole b.body now.lies).0) refl
    (omega (arith, c.if-distinct-eq0.false)) in
    rw (p.1, p.2)
    (fault_through library whole (reverse c.args.frames.now.items) first outer _ chain
    (link_fault library whole (frame.Binding b place (distinct - 1) is_open) outer inner _
    (binding_link library whole b place (distinct - 1) is_open outer inner placed waits)
    c.in_err-checked.ensures.fault))

pub returns-in_err-checked-clause-longer : goal.returns-in_err-checked-clause-longer
returns-in_err-checked-clause-longer c =
    grows_on c.args.draft.now c.loop-term.draft c.begin.new.draft c.loop-term.invariant.longer c.begin.ensures.longer

pub returns-in_err-push-in-Checked-clause-longer : goal.returns-in_err-push-in-Checked-clause-longer
returns-in_err-push-in-Checked-clause-longer c =
    grows_on c.args.draft.now c.loop-term.draft c.begin.new.draft c.loop-term.invariant.longer c.begin.ensures.longer

pub loop-term-preserved : goal.loop-term-preserved
loop-term-preserved c =
    let library = c.args.self.now in
    let whole = c.args.whole in
    let b = c.args.binder in
    let d = c.args.draft.now in
    let mid = c.loop-term.draft in
    let last = c.begin.new.draft in
    let rest = c.in-Some.rest in
    let term = sexp_of c.in-Some.term in
    let distinct = c.loop-term.distinct in
    let place = size_of rest + b.body in
    let inner = begun term 0 mid in
    let is_open = c.loop-term.is_open in
    let arguments = c.push.new.self in
    let checked = c.in-Checked.checked in
    let so = c.loop-term.invariant in
    let added = c.in_ok-push-in-Checked.ensures in
    let done = subst (λ (n : Next). Begins library inner last c.in-Some.term (c.size.result + b.body) n) c.in-Checked.is
    c.in_ok-checked.ensures.begun in
    record {
      kept = sees_with d last arguments (kept_on d mid last so.kept done.kept);
      start = omega (
        arith,
        so.start,
        ap length added.sorts,
        ap length done.waiting.sorts,
        length-append (argument_sorts last.arguments) (checked.sort ∷ []),
      );
      longer = grows_on d mid last so.longer c.begin.ensures.longer;
      frames = so.frames;
      smaller = omega (arith, c.in-Some.ensures.sizes, so.smaller);
      bound = λ outer bound.
          let now = so.bound outer bound in
          let lies = (c.in-Some.ensures.places whole b.body now.lies).0 in
          bound_next library whole b place (distinct - 1) is_open outer inner rest last arguments checked
          (binding_waits library whole b c.loop-term.left rest c.in-Some.field-0-0.now term place distinct is_open outer mid
          now c.in-Some.ensures.trees lies refl (omega (arith, c.if-distinct-eq0.false))) refl lies done added.sorts
          added.terms;
    }

pub returns-in-Enter-clause-next : goal.returns-in-Enter-clause-next
returns-in-Enter-clause-next c first outer placed bound chain =
    let library = c.args.self.now in
    let whole = c.args.whole in
    let b = c.args.binder in
    let mid = c.loop-term.draft in
    let last = c.begin.new.draft in
    let rest = c.in-Some.rest in
    let term = sexp_of c.in-Some.term in
    let part = c.in-Enter.part in
    let end = c.size.result + b.body in
    let inner = begun term 0 mid in
    let distinct = c.loop-term.distinct in
    let is_open = c.loop-term.is_open in
    let so = c.loop-term.invariant in
    let now = so.bound outer bound in
    let places = c.in-Some.ensures.places whole b.body now.lies in
    let is = subst (λ (n : Next). Begins library inner last c.in-Some.term end n) c.in-Enter.is
    c.in_ok-checked.ensures.begun in
    let f : Frame = frame.Binding b part.to (distinct - 1) is_open in
    let waits = binding_waits library whole b c.loop-term.left rest c.in-Some.field-0-0.now term part.to distinct is_open
    outer mid now c.in-Some.ensures.trees places.0 (is.to ∙ ap (λ n. n + b.body) c.size.ensures)
    (omega (arith, c.if-distinct-eq0.false)) in
    let fs : reverse c.push-in-Enter.new.self.items ≡ f ∷ reverse c.args.frames.now.items =
    pushed c.loop-term.frames.items c.push-in-Enter.new.self.items f c.in_ok-push-in-Enter.ensures.items
    ∙ ap (λ (xs : List Frame). f ∷ reverse xs) so.frames in
    begun_next (Ok (Enter part)) library whole (reverse c.push-in-Enter.new.self.items) first inner last c.in-Some.term
    end is tt refl (placed_kept c.args.draft.now mid so.kept c.requires.placed)
    (subst (λ (n : ℕ). IsListIn whole c.in-Some.term (n + b.body)) (sym c.size.ensures) places.1)
    (subst (λ (xs : List Frame). Chain library whole xs first inner) (sym fs)
    (outer, binding_link library whole b part.to (distinct - 1) is_open outer inner placed waits, chain))

pub returns-clause-next : goal.returns-clause-next
returns-clause-next c first outer placed bound chain =
    let library = c.args.self.now in
    let whole = c.args.whole in
    let so = c.loop-term.invariant in
    let now = so.bound outer bound in
    c.begin_body.ensures.next first outer now.bindings now.body now.bound placed now.binder
    (all_bound library whole c.args.binder c.loop-term.left c.loop-term.distinct c.loop-term.is_open outer
    c.loop-term.draft now c.in_default.ensures.trees)
    (subst (λ (xs : List Frame). Chain library whole (reverse xs) first outer) (sym so.frames) chain)

pub returns-clause-longer : goal.returns-clause-longer
returns-clause-longer c =
    grows_on c.args.draft.now c.loop-term.draft c.begin_body.new.draft c.loop-term.invariant.longer
    c.begin_body.ensures.longer
