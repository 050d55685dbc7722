use Rattle.std.proofs.Common.{◌≡◌, ◌+◌, ◌-◌, ℕ, suc, [], ◌++◌, List, Result, refl, ap, arith, sym, ◌∙◌, subst}
use Rattle.smt_trees.specs.Sexp.{count}
use Rattle.smt_trees.specs.View.{sexp_of, sexps_of}
use Rattle.smt_terms.specs.Items.{items_before, list_of}
use Rattle.smt_terms.specs.Signature.{Entry}
use Rattle.smt_eval.specs.Internal.ItemFault.{model_fault_of_item}
use Rattle.smt_eval.specs.Model.{items_from}
use Rattle.smt_eval.specs.ModelFaults.{TellsModel}
use Rattle.smt_eval.specs.declared.model_fault.ModelFlaw.{ModelFlaw}
use Rattle.smt_eval.proofs.ReadLemmas.{item_refused, item_taken}
use Rattle.smt_eval.proofs.interpretation.read_items.Goals as goal

pub loop-item-init : goal.loop-item-init
loop-item-init c = record {
  reads = c.in-Ok.ensures.reads;
  left = omega arith;
  items = λ s stands. ([], c.in-Ok.ensures.names s stands, (0, omega arith, refl));
}

pub returns-in-Err : goal.returns-in-Err
returns-in-Err c = λ s stands.
    let i = c.loop-item.invariant.items s stands in
    let n = i.2.0 in
    let first : count (sexps_of c.loop-item.left) ≡ suc (count (sexps_of c.in-Some.rest)) = ap count c.in-Some.ensures in
    let number : c.len.result - c.len-in-Err.result ≡ n + 1 = omega (arith, i.2.1, first, c.len.ensures, c.len-in-Err.ensures) in
    let refused = item_refused s i.0 (n + 1) (sexp_of c.in-Some.item)
    (sexps_of c.in-Some.rest) (sexps_of c.loop-item.left) c.in-Err.fault c.in-Some.ensures
    (c.in-Err.ensures.refused s (items_before s i.0) stands i.1) in
    let all : Result (List Entry) ModelFlaw = items_from s [] 1 (sexps_of c.args.items) in
    subst (TellsModel all)
    (sym (c.item_fault.ensures ∙ ap (λ (m : ℕ). model_fault_of_item m c.in-Err.fault) number))
    (subst (λ (r : Result (List Entry) ModelFlaw). TellsModel r (model_fault_of_item (n + 1) c.in-Err.fault))
    (sym i.2.2) refused)

pub loop-item-preserved : goal.loop-item-preserved
loop-item-preserved c =
    let first : count (sexps_of c.loop-item.left) ≡ suc (count (sexps_of c.in-Some.rest)) = ap count c.in-Some.ensures in
    let left = c.loop-item.invariant.left in
    record {
      reads = c.in_default-define_item.ensures.reads;
      left = omega (arith, left, first);
      items = λ s stands.
          let i = c.loop-item.invariant.items s stands in
          let made = c.in_default-define_item.ensures.defined s (items_before s i.0) stands i.1 in (
            i.0 ++ list_of made.0,
            made.2,
            (
              i.2.0 + 1,
              omega (arith, i.2.1, first),
              i.2.2 ∙ item_taken s i.0 (i.2.0 + 1) (sexp_of c.in-Some.item) (sexps_of c.in-Some.rest)
                  (sexps_of c.loop-item.left) made.0 c.in-Some.ensures made.1,
            ),
          );
    }

pub returns : goal.returns
returns c = λ s stands.
    let i = c.loop-item.invariant.items s stands in (
      i.0,
      i.2.2 ∙ ap (items_from s i.0 (i.2.0 + 1)) c.in_default-split_first.ensures,
      i.1,
    )
