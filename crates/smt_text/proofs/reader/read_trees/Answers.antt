use Rattle.std.proofs.Common.{◌≡◌, [], ◌∷◌, Some, true, ap, subst, sym, ◌∙◌}
use Rattle.smt_trees.specs.OwnedJoins.{sexps_of-append}
use Rattle.smt_text.specs.Reader.{StandsFor, depth_limit}
use Rattle.smt_text.specs.Reading.{Reads}
use Rattle.smt_trees.specs.Sexp.{Sexps, Nil, Cons, append}
use Rattle.smt_trees.specs.Owned.{sexp_of, sexps_of}
use Rattle.smt_text.proofs.reader.read_trees.Goals as goal

pub loop-tree-preserved : goal.loop-tree-preserved
loop-tree-preserved c =
    let pushed : sexps_of c.push.new.self.items
    ≡ append (sexps_of c.loop-tree.trees.items) (Cons (sexp_of c.in-Tree.tree) Nil) = ap sexps_of
    c.in_ok-push-in-Tree.ensures.items ∙ sexps_of-append c.loop-tree.trees.items (c.in-Tree.tree ∷ [])
    in (
      subst (λ (taken : Sexps). StandsFor c.next.new.self c.args.text.now taken) (sym pushed)
          (c.in-Tree.ensures.stands c.args.text.now
          (sexps_of c.loop-tree.trees.items) c.loop-tree.invariant.0),
      c.in-Tree.ensures.finished ∙ c.loop-tree.invariant.1,
      c.in-Tree.ensures.limit ∙ c.loop-tree.invariant.2,
    )

pub returns-in-Fault : goal.returns-in-Fault
returns-in-Fault c =
    λ flaw e. (
      sexps_of c.loop-tree.trees.items,
      subst (λ m. Reads m true c.args.text.now (sexps_of c.loop-tree.trees.items) (Some flaw))
          c.loop-tree.invariant.2
          (subst (λ b. Reads (depth_limit c.loop-tree.reader) b c.args.text.now (sexps_of c.loop-tree.trees.items)
          (Some flaw)) c.loop-tree.invariant.1
          (c.in-Fault.ensures.right c.args.text.now (sexps_of c.loop-tree.trees.items) c.loop-tree.invariant.0 flaw
          e)),
    )
