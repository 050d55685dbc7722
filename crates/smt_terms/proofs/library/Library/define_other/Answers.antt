use Rattle.std.proofs.Common.{List, None, Some, Ok, ap, sym, ◌∙◌, subst}
use Rattle.std.proofs.lemmas.List.{append-nil}
use Rattle.std.proofs.lemmas.Result.{IfErr-weaker, on_ok_weaker}
use Rattle.smt_trees.specs.View.{sexp_of}
use Rattle.smt_theory.specs.Words.{result_and_then}
use Rattle.smt_forms.specs.ItemForm.{item_form}
use Rattle.smt_forms.specs.ItemView.{item_view}
use Rattle.smt_terms.specs.Items.{form_in, item_by, repeated_in}
use Rattle.smt_terms.specs.Library.{StandsFor}
use Rattle.smt_terms.specs.Signature.{Entry}
use Rattle.smt_terms.proofs.DefinitionLemmas.{same_fault}
use Rattle.smt_terms.proofs.RepeatedLemmas.{parts_aside, parts_kept, same_refusal}
use Rattle.smt_terms.proofs.library.Library.define_other.Goals as goal

pub returns-then-sets_aside-clause-defined : goal.returns-then-sets_aside-clause-defined
returns-then-sets_aside-clause-defined c =
    let tree = sexp_of c.args.item in
    let form = item_view c.in_ok-form.form in
    on_ok_weaker c.check_repeated.result
    (λ repeated s m stands items. (
      None,
      parts_aside s m.entries tree form c.in_ok-form.ensures
          (sym (c.sets_aside.ensures s stands) ∙ c.if-sets_aside.true) ∙ repeated s stands,
      subst (λ (es : List Entry). StandsFor c.args.self.now (record m { entries = es }))
          (sym (append-nil m.entries)) items,
    ))
    c.check_repeated.ensures.repeated

pub returns-then-sets_aside-clause-refused : goal.returns-then-sets_aside-clause-refused
returns-then-sets_aside-clause-refused c =
    let tree = sexp_of c.args.item in
    let form = item_view c.in_ok-form.form in
    IfErr-weaker c.check_repeated.result _ _
    (λ fault refused s m stands items.
    same_fault (repeated_in s form) (result_and_then (item_form tree) (item_by s m.entries)) fault
    (parts_aside s m.entries tree form c.in_ok-form.ensures
    (sym (c.sets_aside.ensures s stands) ∙ c.if-sets_aside.true)) (refused s stands))
    c.check_repeated.ensures.refused

pub returns-else-sets_aside-clause-defined : goal.returns-else-sets_aside-clause-defined
returns-else-sets_aside-clause-defined c =
    let tree = sexp_of c.args.item in
    let form = item_view c.in_ok-form.form in
    on_ok_weaker c.add_item.result
    (λ defined s m stands items.
    let made = defined s m stands items in (
      Some made.0,
      parts_kept s m.entries tree form c.in_ok-form.ensures
          (sym (c.sets_aside.ensures s stands) ∙ c.if-sets_aside.false)
          ∙ ap (λ r. result_and_then r (λ e. Ok (Some e))) made.1,
      made.2,
    ))
    c.add_item.ensures.defined

pub returns-else-sets_aside-clause-refused : goal.returns-else-sets_aside-clause-refused
returns-else-sets_aside-clause-refused c =
    let tree = sexp_of c.args.item in
    let form = item_view c.in_ok-form.form in
    IfErr-weaker c.add_item.result _ _
    (λ fault refused s m stands items.
    same_fault (result_and_then (form_in s m.entries form) (λ e. Ok (Some e))) (result_and_then (item_form tree) (item_by s m.entries)) fault
    (parts_kept s m.entries tree form c.in_ok-form.ensures
    (sym (c.sets_aside.ensures s stands) ∙ c.if-sets_aside.false))
    (same_refusal (form_in s m.entries form) fault (refused s m stands items)))
    c.add_item.ensures.refused
