use Rattle.std.proofs.Common.{◌+◌, [], ap, cond, length, sym, ◌∙◌}
use Rattle.smt_trees.specs.View.{sexps_of}
use Rattle.smt_forms.specs.Bindings.{are_named_trees}
use Rattle.smt_forms.specs.NamesIn.{names_in}
use Rattle.smt_forms.specs.Variables.{is_among}
use Rattle.smt_terms.specs.Internal.Frames.{distinct_from}
use Rattle.smt_terms.proofs.LetFrameLemmas.{name_counted}
use Rattle.smt_terms.proofs.library.binders.distinct_bindings.Goals as goal

pub loop-name-preserved : goal.loop-name-preserved
loop-name-preserved c = record {
  counted = c.loop-name.invariant.counted
      ∙ ap (λ b. length (names_in c.loop-name.names)
      + cond b (distinct_from (names_in c.loop-name.names) (sexps_of c.loop-name.left)) 0) c.if-is_distinct.false
      ∙ ap (λ b. length (names_in c.loop-name.names)
      + cond b (distinct_from (names_in c.loop-name.names) (sexps_of c.in-Some-split_named.rest)) 0)
      (sym c.if-is_distinct.false);
  named = c.loop-name.invariant.named ∙ ap are_named_trees c.in-Some-split_named.ensures;
}

pub loop-name-preserved-in_ok-is_distinct : goal.loop-name-preserved-in_ok-is_distinct
loop-name-preserved-in_ok-is_distinct c =
    let names = names_in c.loop-name.names in
    let x = c.in-Some-split_named.name.now in
    record {
      counted = name_counted (distinct_from [] (sexps_of c.args.bindings)) names (names_in c.add_name.new.names) x
          (sexps_of c.in-Some-split_named.rest) (is_among names x) c.in_ok-is_distinct.is_distinct
          c.in_ok-is_distinct.ensures.0 c.in_ok-is_distinct.ensures.1
          (c.loop-name.invariant.counted
          ∙ ap (λ b. length names + cond b (distinct_from names (sexps_of c.loop-name.left)) 0) c.if-is_distinct.true
          ∙ ap (λ ts. length names + distinct_from names ts) c.in-Some-split_named.ensures);
      named = c.loop-name.invariant.named ∙ ap are_named_trees c.in-Some-split_named.ensures;
    }
