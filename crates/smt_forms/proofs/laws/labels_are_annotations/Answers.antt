use Rattle.smt_forms.proofs.PartLemmas.{labels_stand, ordered}
use Rattle.smt_forms.proofs.laws.labels_are_annotations.Goals as goal

pub returns : goal.returns
returns c = record {
  standing = labels_stand;
  ordered = ordered;
}
