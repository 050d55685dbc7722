-- the literals so far are formulas, whose terms these are, and the fault of all is that of those that are left
use Rattle.std.proofs.Common.{◌≡◌, ◌++◌, List}
use Rattle.smt_trees.specs.Sexp.{Sexp, weight_all}
use Rattle.smt_trees.specs.View.{sexps_of}
use Rattle.smt_terms.specs.Contents.{contents_of}
use Rattle.smt_terms.specs.Library as libraries
use Rattle.smt_terms.specs.Library.{terms_of}
use Rattle.smt_terms.specs.Signature.{Signature, names_of}
use Rattle.smt_script.specs.Stack.{flaw_of_literals, trees_of}
use Rattle.smt_script.specs.StackView.{AreTerms}
use Rattle.smt_script.proofs.stack.effects.check_literals.Given as goal

abbrev pub invariant-loop-literal : goal.invariant-loop-literal
invariant-loop-literal l = record {
  held : contents_of l.library ≡ contents_of l.fn.library;
  flaw : (s : Signature) → libraries.StandsFor l.fn.library s
      → flaw_of_literals (names_of s) (sexps_of l.literals) ≡ flaw_of_literals (names_of s) (sexps_of l.left);
  done : (s : Signature) → libraries.StandsFor l.fn.library s → (ts : List Sexp)
      × (trees_of (sexps_of l.literals) ≡ ts ++ trees_of (sexps_of l.left))
      × AreTerms (terms_of l.library) l.terms.items ts;
}

abbrev pub decreases-loop-literal : goal.decreases-loop-literal
decreases-loop-literal l = weight_all (sexps_of l.left)
