use Rattle.std.proofs.Common.{◌≡◌, ◌+◌, ◌*◌, ◌≤◌, ◌++◌}
use Rattle.smt_trees.specs.Sexp.{weight, weight_all}
use Rattle.smt_trees.specs.View.{sexp_of, sexps_of}
use Rattle.smt_plain.specs.PlainTerm.{known_singles}
use Rattle.smt_plain.specs.Internal.PlainEvaluation.{known_scope, meaning_of, seen_weight}
use Rattle.smt_eval.specs.Known.{knowns_bound, knowns_of}
use Rattle.smt_plain.proofs.+known_plain.Given as goal

abbrev pub decreases-evaluator::known_value : goal.decreases-evaluator::known_value
decreases-evaluator::known_value l = 8 * (seen_weight l.over + weight (sexp_of l.term)) + 1

abbrev pub decreases-evaluator::known_symbol : goal.decreases-evaluator::known_symbol
decreases-evaluator::known_symbol l = 8 * seen_weight l.over + 6

abbrev pub decreases-evaluator::known_list : goal.decreases-evaluator::known_list
decreases-evaluator::known_list l = 8 * (seen_weight l.over + weight_all (sexps_of l.parts)) + 7

abbrev pub decreases-evaluator::known_reserved : goal.decreases-evaluator::known_reserved
decreases-evaluator::known_reserved l =
    8 * (seen_weight l.over + weight_all (sexps_of l.args)) + 6

abbrev pub decreases-evaluator::known_let : goal.decreases-evaluator::known_let
decreases-evaluator::known_let l = 8 * (seen_weight l.over + weight_all (sexps_of l.args)) + 5

abbrev pub decreases-evaluator::knowns_bound_by : goal.decreases-evaluator::knowns_bound_by
decreases-evaluator::knowns_bound_by l =
    8 * (seen_weight l.over + weight_all (sexps_of l.bindings)) + 4

abbrev pub decreases-evaluator::known_call : goal.decreases-evaluator::known_call
decreases-evaluator::known_call l = 8 * (seen_weight l.over + weight_all (sexps_of l.args)) + 6

abbrev pub decreases-evaluator::known_all : goal.decreases-evaluator::known_all
decreases-evaluator::known_all l = 8 * (seen_weight l.over + weight_all (sexps_of l.terms)) + 4

abbrev pub decreases-names::known_applied : goal.decreases-names::known_applied
decreases-names::known_applied l = 8 * seen_weight l.over + 5

abbrev pub decreases-names::known_named : goal.decreases-names::known_named
decreases-names::known_named l = 8 * seen_weight l.over + 4

abbrev pub decreases-names::known_body : goal.decreases-names::known_body
decreases-names::known_body l =
    8 * (seen_weight l.earlier + weight (sexp_of l.definition.now.body)) + 2

abbrev pub invariant-evaluator::known_all-loop-term :
    goal.invariant-evaluator::known_all-loop-term
invariant-evaluator::known_all-loop-term l = record {
  answer : knowns_of (meaning_of l.over) (known_scope l.scope) (sexps_of l.terms)
      ≡ known_singles l.known.items
      ++ knowns_of (meaning_of l.over) (known_scope l.scope) (sexps_of l.left);
  lighter : weight_all (sexps_of l.left) ≤ weight_all (sexps_of l.terms);
}

abbrev pub decreases-evaluator::known_all-loop-term :
    goal.decreases-evaluator::known_all-loop-term
decreases-evaluator::known_all-loop-term l = weight_all (sexps_of l.left)

abbrev pub invariant-evaluator::knowns_bound_by-loop-name :
    goal.invariant-evaluator::knowns_bound_by-loop-name
invariant-evaluator::knowns_bound_by-loop-name l = record {
  answer : knowns_bound (meaning_of l.over) (known_scope l.scope) (sexps_of l.bindings)
      ≡ known_scope l.variables.items
      ++ knowns_bound (meaning_of l.over) (known_scope l.scope) (sexps_of l.left);
  lighter : weight_all (sexps_of l.left) ≤ weight_all (sexps_of l.bindings);
}

abbrev pub decreases-evaluator::knowns_bound_by-loop-name :
    goal.decreases-evaluator::knowns_bound_by-loop-name
decreases-evaluator::knowns_bound_by-loop-name l = weight_all (sexps_of l.left)
