use Rattle.std.proofs.Common.{◌∙◌, [], ap, subst, sym}
use Rattle.smt_terms.specs.Contents.{contents_of}
use Rattle.smt_terms.specs.Items.{items_before}
use Rattle.smt_terms.specs.Library.{Holds}
use Rattle.smt_terms.specs.Signature.{no_names}
use Rattle.smt_terms.proofs.ItemLemmas.{for_items}
use Rattle.smt_terms.proofs.library.Library.for_model.Goals as goal

pub returns-clause-names : goal.returns-clause-names
returns-clause-names c = λ s stands.
    subst (λ es. Holds (record (contents_of c.reserve.new.self) { elements = es }) (items_before s []))
    (sym c.lent-library.ensures) (for_items c.args.self.now c.reserve.new.self s stands
    (subst (λ held. Holds held (no_names c.args.self.now.sorts.theories)) (sym c.reserve.ensures.contents)
    c.new-library.ensures.stands))

pub returns-clause-reads : goal.returns-clause-reads
returns-clause-reads c = record {
  theories = ap (λ sorts. sorts.theories) c.reserve.ensures.sorts ∙ c.new-library.ensures.stands.theories;
  elements = c.lent-library.ensures;
}
