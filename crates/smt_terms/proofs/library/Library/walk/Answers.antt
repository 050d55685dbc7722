use Rattle.std.proofs.Common.{◌≡◌, ◌≤◌, [], List, ap, arith, refl, reverse, subst, sym}
use Rattle.std.proofs.lemmas.Result.{err_from_is_err_and}
use Rattle.smt_trees.specs.Sexp.{Items}
use Rattle.smt_trees.specs.View.{sexps_of}
use Rattle.smt_terms.specs.Internal.Frames.{AreNested, Chain, HasChecked, HasLeft, IsNested, IsNestedStep, IsNext}
use Rattle.smt_terms.specs.Internal.Frames.{IsStep, begun, place_behind}
use Rattle.smt_terms.specs.declared.library.frames.Frame.{Frame}
use Rattle.smt_terms.specs.declared.library.frames.Next.{Next}
use Rattle.smt_terms.specs.declared.library.frames.Step.{Step}
use Rattle.smt_terms.proofs.ApplicationLemmas.{called_between}
use Rattle.smt_terms.proofs.FrameLemmas.{goes_on, leads_itself, pushed, whole_lies}
use Rattle.smt_terms.proofs.TableLemmas.{grows_itself, grows_on}
use Rattle.smt_terms.proofs.library.Library.walk.Goals as goal

pub loop-step-init : goal.loop-step-init
loop-step-init c =
    let library = c.args.self.now in
    let whole = c.args.whole in
    let d = c.args.draft.now in
    let first = begun (Items (sexps_of whole)) c.args.around d in
    let none : [] ≡ reverse c.args.frames.now.items = sym (ap reverse c.requires.none) in
    record {
      is = record {
        trees = sexps_of whole;
        lie = record {
          part = whole;
          lies = whole_lies whole;
          from_is = omega (arith, c.in_ok-from.ensures, c.size.ensures);
          are = refl;
        };
        placed = c.requires.placed;
        chain = subst (λ (xs : List Frame). Chain library whole xs first first) none (leads_itself library first);
      };
      nested = subst (λ (xs : List Frame). (place_behind xs ≤ 0) × AreNested xs) none (omega arith, tt);
      longer = grows_itself d;
    }

pub returns-in_err-step-in-Next-Enter-clause-longer : goal.returns-in_err-step-in-Next-Enter-clause-longer
returns-in_err-step-in-Next-Enter-clause-longer c =
    grows_on c.args.draft.now c.loop-step.draft c.enter.new.draft c.loop-step.invariant.longer c.enter.ensures.longer

pub returns-in_err-step-in-Some-clause-longer : goal.returns-in_err-step-in-Some-clause-longer
returns-in_err-step-in-Some-clause-longer c =
    grows_on c.args.draft.now c.loop-step.draft c.go_on.new.draft c.loop-step.invariant.longer c.go_on.ensures.longer

pub returns-in_err-next-in-Arguments-clause-longer : goal.returns-in_err-next-in-Arguments-clause-longer
returns-in_err-next-in-Arguments-clause-longer c =
    grows_on c.args.draft.now c.loop-step.draft c.check_arguments.new.draft c.loop-step.invariant.longer
    c.check_arguments.ensures.longer

pub go_on-requires-clause-ready : goal.go_on-requires-clause-ready
go_on-requires-clause-ready c =
    let library = c.args.self.now in
    let whole = c.args.whole in
    let first = begun (Items (sexps_of whole)) c.args.around c.args.draft.now in
    let draft = c.loop-step.draft in
    let frame = c.in-Some.frame in
    let checked = c.in-Next-Checked.checked in
    let found : HasChecked library whole (reverse c.loop-step.frames.items) first draft checked =
    subst (λ (n : Next). IsNext library whole (reverse c.loop-step.frames.items) first draft n)
    c.in-Next-Checked.field-0-is
    (subst (λ (s : Step). IsStep library whole (reverse c.loop-step.frames.items) first draft s) c.in-Next-Checked.is
    c.loop-step.invariant.is) in
    let known = subst (λ (xs : List Frame). HasChecked library whole xs first draft checked)
    (pushed c.pop.new.self.items c.loop-step.frames.items frame c.in-Some.ensures.items) found in
    goes_on library whole frame known.chain.0 known.inner draft checked known.chain.1 known.done

pub returns-in_err-step-in-Some-clause-fault : goal.returns-in_err-step-in-Some-clause-fault
returns-in_err-step-in-Some-clause-fault c =
    let p = err_from_is_err_and c.from_residual-in_err-step-in-Some.result
    c.from_residual-in_err-step-in-Some.ensures.1 in
    let library = c.args.self.now in
    let whole = c.args.whole in
    let first = begun (Items (sexps_of whole)) c.args.around c.args.draft.now in
    let draft = c.loop-step.draft in
    let checked = c.in-Next-Checked.checked in
    let found : HasChecked library whole (reverse c.loop-step.frames.items) first draft checked =
    subst (λ (n : Next). IsNext library whole (reverse c.loop-step.frames.items) first draft n)
    c.in-Next-Checked.field-0-is
    (subst (λ (s : Step). IsStep library whole (reverse c.loop-step.frames.items) first draft s) c.in-Next-Checked.is
    c.loop-step.invariant.is) in
    let known = subst (λ (xs : List Frame). HasChecked library whole xs first draft checked)
    (pushed c.pop.new.self.items c.loop-step.frames.items c.in-Some.frame c.in-Some.ensures.items) found in
    rw (p.1, p.2) (c.in_err-step-in-Some.ensures.next first known.inner known.done known.chain)

pub returns-in_err-next-in-Arguments-clause-fault : goal.returns-in_err-next-in-Arguments-clause-fault
returns-in_err-next-in-Arguments-clause-fault c =
    let p = err_from_is_err_and c.from_residual-in_err-next-in-Arguments.result
    c.from_residual-in_err-next-in-Arguments.ensures.1 in
    let library = c.args.self.now in
    let whole = c.args.whole in
    let first = begun (Items (sexps_of whole)) c.args.around c.args.draft.now in
    let a = c.in-Arguments.application in
    let left = c.in-Arguments.left in
    let is_open = c.in-Arguments.is_open in
    let fs = reverse c.loop-step.frames.items in
    let draft = c.loop-step.draft in
    let known : HasLeft library whole fs first draft a left is_open =
    subst (λ (s : Step). IsStep library whole fs first draft s) c.in-Arguments.is c.loop-step.invariant.is in
    rw (p.1, p.2) (c.in_err-next-in-Arguments.ensures.next first known.outer known.placed
    (called_between library whole a c.between-left.result is_open draft fs first left known
    c.between-left.ensures.part).0 known.chain)

pub loop-step-preserved-in_ok-step-in-Next-Enter : goal.loop-step-preserved-in_ok-step-in-Next-Enter
loop-step-preserved-in_ok-step-in-Next-Enter c =
    let library = c.args.self.now in
    let whole = c.args.whole in
    let first = begun (Items (sexps_of whole)) c.args.around c.args.draft.now in
    let fs = reverse c.loop-step.frames.items in
    let draft = c.loop-step.draft in
    let enters = subst (λ (n : Next). IsNext library whole fs first draft n) c.in-Next-Enter.field-0-is
    (subst (λ (s : Step). IsStep library whole fs first draft s) c.in-Next-Enter.is c.loop-step.invariant.is) in
    let nested = subst (λ (n : Next). IsNested fs n) c.in-Next-Enter.field-0-is
    (subst (λ (s : Step). IsNestedStep fs s) c.in-Next-Enter.is c.loop-step.invariant.nested) in
    record {
      is = c.in_ok-step-in-Next-Enter.ensures.next first enters;
      nested = (c.in_ok-step-in-Next-Enter.ensures.less nested).nested;
      longer = grows_on c.args.draft.now c.loop-step.draft c.enter.new.draft c.loop-step.invariant.longer
          c.enter.ensures.longer;
    }

pub loop-step-preserved-in_ok-step-in-Some : goal.loop-step-preserved-in_ok-step-in-Some
loop-step-preserved-in_ok-step-in-Some c =
    let library = c.args.self.now in
    let whole = c.args.whole in
    let first = begun (Items (sexps_of whole)) c.args.around c.args.draft.now in
    let draft = c.loop-step.draft in
    let checked = c.in-Next-Checked.checked in
    let fs = reverse c.loop-step.frames.items in
    let is = pushed c.pop.new.self.items c.loop-step.frames.items c.in-Some.frame c.in-Some.ensures.items in
    let found : HasChecked library whole fs first draft checked =
    subst (λ (n : Next). IsNext library whole fs first draft n) c.in-Next-Checked.field-0-is
    (subst (λ (s : Step). IsStep library whole fs first draft s) c.in-Next-Checked.is c.loop-step.invariant.is) in
    let known = subst (λ (xs : List Frame). HasChecked library whole xs first draft checked) is found in
    let nested = subst (λ (xs : List Frame). AreNested xs) is
    (subst (λ (n : Next). IsNested fs n) c.in-Next-Checked.field-0-is
    (subst (λ (s : Step). IsNestedStep fs s) c.in-Next-Checked.is c.loop-step.invariant.nested)) in
    record {
      is = c.in_ok-step-in-Some.ensures.next first known.inner known.done known.chain;
      nested = (c.in_ok-step-in-Some.ensures.less nested).nested;
      longer = grows_on c.args.draft.now draft c.go_on.new.draft c.loop-step.invariant.longer c.go_on.ensures.longer;
    }

pub loop-step-preserved : goal.loop-step-preserved
loop-step-preserved c =
    let library = c.args.self.now in
    let whole = c.args.whole in
    let first = begun (Items (sexps_of whole)) c.args.around c.args.draft.now in
    let draft = c.loop-step.draft in
    let a = c.in-Arguments.application in
    let left = c.in-Arguments.left in
    let is_open = c.in-Arguments.is_open in
    let fs = reverse c.loop-step.frames.items in
    let known : HasLeft library whole fs first draft a left is_open =
    subst (λ (s : Step). IsStep library whole fs first draft s) c.in-Arguments.is c.loop-step.invariant.is in
    let nested = subst (λ (s : Step). IsNestedStep fs s) c.in-Arguments.is c.loop-step.invariant.nested in
    let found = called_between library whole a c.between-left.result is_open draft fs first left known
    c.between-left.ensures.part in
    record {
      is = c.in_ok-next-in-Arguments.ensures.next first known.outer known.placed found.0 known.chain;
      nested = (c.in_ok-next-in-Arguments.ensures.less nested.2 nested.0).nested;
      longer = grows_on c.args.draft.now draft c.check_arguments.new.draft c.loop-step.invariant.longer
          c.check_arguments.ensures.longer;
    }
