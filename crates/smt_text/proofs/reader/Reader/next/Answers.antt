use Rattle.std.proofs.Common.{◌∙◌, None, subst, sym, refl}
use Rattle.smt_text.proofs.ReaderLemmas.{answers_none, answers_fault, answers_tree, stands_handed}
use Rattle.smt_text.proofs.TreeEndLemmas.{ends_handed, ends_later, ends_same}
use Rattle.smt_trees.specs.Owned.{sexp_of}
use Rattle.smt_text.specs.Reader.{Answers, depth_limit, is_finished}
use Rattle.smt_text.specs.Reading.{Reads}
use Rattle.smt_text.specs.declared.reader.Next.TheVariants.{Fault}
use Rattle.smt_text.proofs.reader.Reader.next.Goals as goal

pub returns-in-Some-clause-right : goal.returns-in-Some-clause-right
returns-in-Some-clause-right c =
    λ fed taken h. answers_tree c.args.self.now fed taken c.in-Some.first c.hand_out.new.self.ready.items
    c.if-is_refused.ensures c.in-Some.ensures.first h

pub returns-in-Some-clause-stands : goal.returns-in-Some-clause-stands
returns-in-Some-clause-stands c =
    λ fed taken h. stands_handed c.args.self.now
    (record c.args.self.now { builder = c.hand_out.new.self; tree_end = c.in-Some.first.end }) fed taken c.in-Some.first refl refl refl
    refl refl refl c.hand_out.ensures.list c.in-Some.ensures.first h

pub returns-in-Some-clause-ends : goal.returns-in-Some-clause-ends
returns-in-Some-clause-ends c =
    λ fed taken h. ends_handed c.args.self.now
    (record c.args.self.now { builder = c.hand_out.new.self; tree_end = c.in-Some.first.end }) fed taken
    c.in-Some.first refl refl c.if-is_refused.ensures c.in-Some.ensures.first h

pub returns-in-Some-clause-later : goal.returns-in-Some-clause-later
returns-in-Some-clause-later c =
    λ fed taken h. ends_later c.args.self.now
    (record c.args.self.now { builder = c.hand_out.new.self; tree_end = c.in-Some.first.end }) fed taken
    (sexp_of c.in-Some.first.tree) refl h (returns-in-Some-clause-ends c fed taken h)

pub returns-in-Some-failure-clause-right : goal.returns-in-Some-failure-clause-right
returns-in-Some-failure-clause-right c =
    λ fed taken h. subst (λ f. Answers (depth_limit c.args.self.now) (is_finished c.args.self.now) fed taken (Fault f)) (sym c.from.ensures)
    (answers_fault c.args.self.now fed taken c.in-Some-failure.failure c.in_default.ensures.first.0
    c.in-Some-failure.is h)

pub returns-in-None-clause-right : goal.returns-in-None-clause-right
returns-in-None-clause-right c =
    λ fed taken h. (
      c.if-self.true,
      subst (λ b. Reads (depth_limit c.args.self.now) b fed taken None) c.if-self.true
          (answers_none c.args.self.now fed taken c.in_default.ensures.first.0 c.in-None.is h),
    )

pub returns-in-None-2-clause-right : goal.returns-in-None-2-clause-right
returns-in-None-2-clause-right c =
    λ fed taken h. (
      c.if-self.false,
      subst (λ b. Reads (depth_limit c.args.self.now) b fed taken None) c.if-self.false
          (answers_none c.args.self.now fed taken c.in_default.ensures.first.0 c.in-None.is h),
    )

pub returns-in-Some-failure-clause-ends : goal.returns-in-Some-failure-clause-ends
returns-in-Some-failure-clause-ends c =
    λ fed taken h. ends_same c.args.self.now (record c.args.self.now { builder = c.hand_out.new.self }) fed taken
    refl refl (c.in_default.ensures.first.1 ∙ sym c.in_default.ensures.first.0) refl h

pub returns-in-None-clause-ends : goal.returns-in-None-clause-ends
returns-in-None-clause-ends c =
    λ fed taken h. ends_same c.args.self.now (record c.args.self.now { builder = c.hand_out.new.self }) fed taken
    refl refl (c.in_default.ensures.first.1 ∙ sym c.in_default.ensures.first.0) refl h

pub returns-in-None-2-clause-ends : goal.returns-in-None-2-clause-ends
returns-in-None-2-clause-ends c =
    λ fed taken h. ends_same c.args.self.now (record c.args.self.now { builder = c.hand_out.new.self }) fed taken
    refl refl (c.in_default.ensures.first.1 ∙ sym c.in_default.ensures.first.0) refl h
