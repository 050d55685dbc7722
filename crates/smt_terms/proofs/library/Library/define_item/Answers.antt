use Rattle.std.proofs.Common.{◌∙◌}
use Rattle.std.proofs.lemmas.Result.{IfErr-weaker, on_ok_weaker}
use Rattle.smt_trees.specs.View.{sexp_of}
use Rattle.smt_theory.specs.Words.{result_and_then}
use Rattle.smt_forms.specs.ItemForm.{item_form}
use Rattle.smt_terms.specs.Items.{item_by, item_in}
use Rattle.smt_terms.proofs.DefinitionLemmas.{same_fault}
use Rattle.smt_terms.proofs.RepeatedLemmas.{item_untold, told_ok, told_refused}
use Rattle.smt_terms.proofs.library.Library.define_item.Goals as goal

pub returns-in-Some-clause-defined : goal.returns-in-Some-clause-defined
returns-in-Some-clause-defined c =
    told_ok c.args.script.now c.args.self.now (sexp_of c.args.item) c.in-Some.told c.in-Some.ensures

pub returns-in-Some-clause-refused : goal.returns-in-Some-clause-refused
returns-in-Some-clause-refused c =
    told_refused c.args.script.now c.args.self.now (sexp_of c.args.item) c.in-Some.told c.in-Some.ensures

pub returns-in-None-clause-defined : goal.returns-in-None-clause-defined
returns-in-None-clause-defined c =
    let tree = sexp_of c.args.item in
    on_ok_weaker c.define_other.result
    (λ defined s m stands items.
    let made = defined s m stands items in
    (made.0, item_untold s m.entries tree (c.in-None.ensures s stands) ∙ made.1, made.2))
    c.define_other.ensures.defined

pub returns-in-None-clause-refused : goal.returns-in-None-clause-refused
returns-in-None-clause-refused c =
    let tree = sexp_of c.args.item in
    IfErr-weaker c.define_other.result _ _
    (λ fault refused s m stands items.
    same_fault (result_and_then (item_form tree) (item_by s m.entries)) (item_in s m.entries tree) fault
    (item_untold s m.entries tree (c.in-None.ensures s stands)) (refused s m stands items))
    c.define_other.ensures.refused
