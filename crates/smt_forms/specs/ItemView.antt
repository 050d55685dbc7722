-- What a contract sees of the parts of an item.
use Rattle.smt_trees.specs.View.{sexp_of, sexps_of}
use Rattle.smt_forms.specs.Bindings.{named_trees}
use Rattle.smt_forms.specs.ItemForm as items
use Rattle.smt_forms.specs.declared.items.ItemForm.{ItemForm}

abbrev pub item_view : ItemForm → items.ItemForm
item_view form = record {
  name = form.name.now;
  parameters = named_trees (sexps_of form.parameters);
  sort = sexp_of form.sort;
  body = sexp_of form.body;
}
