use Rattle.std.proofs.Common.{◌≡◌, ◌+◌, ◌*◌, ◌∷◌, [], ℕ, List, Ok, ap, refl, reverse, subst, sym, ◌∙◌, arith, length}
use Rattle.std.proofs.lemmas.List.{length-append}
use Rattle.std.proofs.lemmas.Result.{err_from_is_err_and}
use Rattle.smt_trees.specs.Places.{IsListIn, size_of, size_of_list}
use Rattle.smt_trees.specs.View.{sexp_of}
use Rattle.smt_terms.specs.Internal.DraftView.{argument_sorts}
use Rattle.smt_terms.specs.Internal.Frames.{Begins, Chain, IsLess, begun}
use Rattle.smt_terms.specs.declared.library.frames.Frame.{Frame}
use Rattle.smt_terms.specs.declared.library.frames.Frame.TheVariants as frame
use Rattle.smt_terms.specs.declared.library.frames.Next.{Next}
use Rattle.smt_terms.specs.declared.library.frames.Next.TheVariants.{Checked, Enter}
use Rattle.smt_terms.proofs.ApplicationLemmas.{argument_link, call_done, call_fault, called_next, waits_first}
use Rattle.smt_terms.proofs.ArgumentLemmas.{sees_with}
use Rattle.smt_terms.proofs.CheckerLemmas.{in_profile}
use Rattle.smt_terms.proofs.DraftLemmas.{kept_on, placed_kept}
use Rattle.smt_terms.proofs.FrameLemmas.{begun_next, fault_through, link_fault, push_less, pushed}
use Rattle.smt_terms.proofs.TableLemmas.{grows_on}
use Rattle.smt_terms.proofs.library.Library.check_arguments.Goals as goal

pub returns-in_err-checked-clause-next : goal.returns-in_err-checked-clause-next
returns-in_err-checked-clause-next c first outer placed called chain =
    let p = err_from_is_err_and c.from_residual.result c.from_residual.ensures.1 in
    let library = c.args.self.now in
    let whole = c.args.whole in
    let a = c.args.application in
    let mid = c.loop-term.draft in
    let rest = c.in-Some.rest in
    let term = sexp_of c.in-Some.term in
    let place = size_of rest + a.end in
    let inner = begun term 0 mid in
    let now = c.loop-term.invariant.called outer called in
    let waits = waits_first library whole a c.loop-term.left rest term place c.loop-term.is_open outer mid now
    c.in-Some.ensures.trees ((c.in-Some.ensures.places whole a.end now.lies).0) refl in
    rw (p.1, p.2)
    (fault_through library whole (reverse c.args.frames.now.items) first outer _ chain
    (link_fault library whole (frame.Argument a place c.loop-term.is_open) outer inner _
    (argument_link library whole a place c.loop-term.is_open outer inner placed waits) c.in_err-checked.ensures.fault))

pub returns-in_err-checked-clause-longer : goal.returns-in_err-checked-clause-longer
returns-in_err-checked-clause-longer c =
    grows_on c.args.draft.now c.loop-term.draft c.begin.new.draft c.loop-term.invariant.longer c.begin.ensures.longer

pub returns-in_err-push-in-Checked-clause-longer : goal.returns-in_err-push-in-Checked-clause-longer
returns-in_err-push-in-Checked-clause-longer c =
    grows_on c.args.draft.now c.loop-term.draft c.begin.new.draft c.loop-term.invariant.longer c.begin.ensures.longer

pub loop-term-preserved : goal.loop-term-preserved
loop-term-preserved c =
    let library = c.args.self.now in
    let whole = c.args.whole in
    let a = c.args.application in
    let d = c.args.draft.now in
    let mid = c.loop-term.draft in
    let last = c.begin.new.draft in
    let rest = c.in-Some.rest in
    let term = sexp_of c.in-Some.term in
    let place = size_of rest + a.end in
    let inner = begun term 0 mid in
    let is_open = c.loop-term.is_open in
    let arguments = c.push.new.self in
    let checked = c.in-Checked.checked in
    let so = c.loop-term.invariant in
    let added = c.in_ok-push-in-Checked.ensures in
    let done = subst (λ (n : Next). Begins library inner last c.in-Some.term (c.size.result + a.end) n) c.in-Checked.is
    c.in_ok-checked.ensures.begun in
    record {
      kept = sees_with d last arguments (kept_on d mid last so.kept done.kept);
      start = omega (
        arith,
        so.start,
        ap length added.sorts,
        ap length done.waiting.sorts,
        length-append (argument_sorts last.arguments) (checked.sort ∷ []),
      );
      longer = grows_on d mid last so.longer c.begin.ensures.longer;
      frames = so.frames;
      smaller = omega (arith, c.in-Some.ensures.sizes, so.smaller);
      called = λ outer called.
          let now = so.called outer called in
          let lies = (c.in-Some.ensures.places whole a.end now.lies).0 in
          called_next library whole a place is_open outer inner rest last arguments checked
          (waits_first library whole a c.loop-term.left rest term place is_open outer mid now
          c.in-Some.ensures.trees lies refl) refl lies done added.sorts added.terms;
    }

pub returns-in-Enter-clause-next : goal.returns-in-Enter-clause-next
returns-in-Enter-clause-next c first outer placed called chain =
    let library = c.args.self.now in
    let whole = c.args.whole in
    let a = c.args.application in
    let mid = c.loop-term.draft in
    let last = c.begin.new.draft in
    let rest = c.in-Some.rest in
    let term = sexp_of c.in-Some.term in
    let part = c.in-Enter.part in
    let end = c.size.result + a.end in
    let inner = begun term 0 mid in
    let is_open = c.loop-term.is_open in
    let so = c.loop-term.invariant in
    let now = so.called outer called in
    let places = c.in-Some.ensures.places whole a.end now.lies in
    let is = subst (λ (n : Next). Begins library inner last c.in-Some.term end n) c.in-Enter.is
    c.in_ok-checked.ensures.begun in
    let f : Frame = frame.Argument a part.to is_open in
    let waits = waits_first library whole a c.loop-term.left rest term part.to is_open outer mid now
    c.in-Some.ensures.trees places.0 (is.to ∙ ap (λ n. n + a.end) c.size.ensures) in
    let fs : reverse c.push-in-Enter.new.self.items ≡ f ∷ reverse c.args.frames.now.items =
    pushed c.loop-term.frames.items c.push-in-Enter.new.self.items f c.in_ok-push-in-Enter.ensures.items
    ∙ ap (λ (xs : List Frame). f ∷ reverse xs) so.frames in
    begun_next (Ok (Enter part)) library whole (reverse c.push-in-Enter.new.self.items) first inner last c.in-Some.term
    end is tt refl (placed_kept c.args.draft.now mid so.kept c.requires.placed)
    (subst (λ (n : ℕ). IsListIn whole c.in-Some.term (n + a.end)) (sym c.size.ensures) places.1)
    (subst (λ (xs : List Frame). Chain library whole xs first inner) (sym fs)
    (outer, argument_link library whole a part.to is_open outer inner placed waits, chain))

pub returns-in-Enter-clause-less : goal.returns-in-Enter-clause-less
returns-in-Enter-clause-less c nested within =
    let a = c.args.application in
    let part = c.in-Enter.part in
    let mid = c.loop-term.draft in
    let inner = begun (sexp_of c.in-Some.term) 0 mid in
    let so = c.loop-term.invariant in
    let is =
    subst (λ (n : Next). Begins c.args.self.now inner c.begin.new.draft c.in-Some.term (c.size.result + a.end) n)
    c.in-Enter.is c.in_ok-checked.ensures.begun in
    let f : Frame = frame.Argument a part.to c.loop-term.is_open in
    let fs : reverse c.push-in-Enter.new.self.items ≡ f ∷ reverse c.args.frames.now.items =
    pushed c.loop-term.frames.items c.push-in-Enter.new.self.items f c.in_ok-push-in-Enter.ensures.items
    ∙ ap (λ (xs : List Frame). f ∷ reverse xs) so.frames in
    let size : size_of_list c.in-Some.term ≡ size_of is.parts = ap size_of_list is.is in
    push_less (reverse c.args.frames.now.items) (reverse c.push-in-Enter.new.self.items) f part
    (size_of c.args.left + a.end) fs (omega arith)
    (within, omega (arith, is.to), nested)
    (omega (arith, is.from, is.to, c.size.ensures, size, c.in-Some.ensures.sizes, so.smaller))

pub returns-in_err-checked-2-clause-next : goal.returns-in_err-checked-2-clause-next
returns-in_err-checked-2-clause-next c first outer placed called chain =
    let p = err_from_is_err_and c.from_residual-in_err-checked-2.result c.from_residual-in_err-checked-2.ensures.1 in
    let library = c.args.self.now in
    let whole = c.args.whole in
    let a = c.args.application in
    let now = c.loop-term.invariant.called outer called in
    let app = now.application in
    rw (p.1, p.2)
    (fault_through library whole (reverse c.args.frames.now.items) first outer _ chain
    (call_fault library whole a c.loop-term.left c.loop-term.is_open outer c.loop-term.draft _ now
    c.in_default.ensures.trees
    ((c.in_err-checked-2.ensures.call app.head now.args app.identifier app.lie
    (in_profile library.sorts.theories.wide app.head now.args app.identifier app.named)).0)))

pub returns-in_err-checked-2-clause-longer : goal.returns-in_err-checked-2-clause-longer
returns-in_err-checked-2-clause-longer c =
    grows_on c.args.draft.now c.loop-term.draft c.sort_of_application.new.draft c.loop-term.invariant.longer
    c.sort_of_application.ensures.longer

pub returns-clause-longer : goal.returns-clause-longer
returns-clause-longer c =
    grows_on c.args.draft.now c.loop-term.draft c.sort_of_application.new.draft c.loop-term.invariant.longer
    c.sort_of_application.ensures.longer

pub returns-clause-next : goal.returns-clause-next
returns-clause-next c first outer placed called chain =
    let library = c.args.self.now in
    let whole = c.args.whole in
    let a = c.args.application in
    let now = c.loop-term.invariant.called outer called in
    let app = now.application in
    let added = c.in_ok-checked-2.ensures in
    let call = added.call app.head now.args app.identifier app.lie
    (in_profile library.sorts.theories.wide app.head now.args app.identifier app.named) in
    record {
      inner = outer;
      placed = placed;
      done = call_done library whole a c.loop-term.left c.loop-term.is_open outer c.loop-term.draft
          c.sort_of_application.new.draft c.truncate.new.self c.in_ok-checked-2.checked now c.in_default.ensures.trees
          call.0 added.open call.1 added.longer added.scope added.base added.labels added.arguments
          c.truncate.ensures.sorts c.truncate.ensures.terms;
      chain = subst (λ (xs : List Frame). Chain library whole (reverse xs) first outer)
          (sym c.loop-term.invariant.frames) chain;
    }

pub returns-clause-less : goal.returns-clause-less
returns-clause-less c nested within =
    let a = c.args.application in
    let m = 3 * (size_of c.args.left + a.end) + 2 + 2 * length (reverse c.args.frames.now.items) in
    let next : Next = Checked c.in_ok-checked-2.checked in
    let less : IsLess (reverse c.args.frames.now.items) m next = record { nested = nested; less = omega arith } in
    subst (λ (xs : List Frame). IsLess (reverse xs) m next) (sym c.loop-term.invariant.frames) less
