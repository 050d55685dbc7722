use Rattle.std.proofs.Common.{◌≡◌, [], Bool, cond, refl, sym, subst}
use Rattle.smt_terms.specs.Contents.{Contents, contents_of, needed_of}
use Rattle.smt_terms.specs.Library.{Holds, StandsFor}
use Rattle.smt_terms.specs.Signature.{no_names}
use Rattle.smt_script.specs.StackView.{WhenGlobal}
use Rattle.smt_script.proofs.stack.Stack.drop_names.Goals as goal

pub returns-then-self-clause-dropped : goal.returns-then-self-clause-dropped
returns-then-self-clause-dropped c =
    let old = contents_of c.args.self.now.library in
    record {
      library = λ s h.
          subst (λ (g : Bool). StandsFor c.drop_unneeded.new.self (cond g s (no_names s.theories)))
          (sym c.if-self.true)
          (subst (λ (x : Contents). Holds x s) (sym c.drop_unneeded.ensures.left)
          (c.needed_nodes_are_enough.ensures.names 0 old s h));
      assertions = refl;
      levels = refl;
      assumptions = refl;
      alloc = refl;
      notes =
          record { logic = refl; global = refl; print_success = refl; start = refl; exited = refl; last = refl };
    }

pub returns-then-self-clause-held : goal.returns-then-self-clause-held
returns-then-self-clause-held c =
    let now = contents_of c.drop_unneeded.new.self in
    subst (λ (g : Bool). WhenGlobal g (now ≡ needed_of 0 (contents_of c.args.self.now.library)) (now.rows ≡ []))
    (sym c.if-self.true) c.drop_unneeded.ensures.left

pub returns-else-self-clause-held : goal.returns-else-self-clause-held
returns-else-self-clause-held c =
    let now = contents_of c.new.result in
    subst (λ (g : Bool). WhenGlobal g (now ≡ needed_of 0 (contents_of c.args.self.now.library)) (now.rows ≡ []))
    (sym c.if-self.false) c.new.ensures.empty
