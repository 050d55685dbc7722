use Rattle.smt_terms.proofs.ProfileLemmas.{same_item}
use Rattle.smt_terms.proofs.laws.items_are_the_same_in_the_wide_profile.Goals as goal

pub returns : goal.returns
returns c = same_item
