use Rattle.std.proofs.Common.{refl}
use Rattle.smt_terms.proofs.labels.Labels.push.Goals as goal

pub returns-in-Ok-clause-pushed : goal.returns-in-Ok-clause-pushed
returns-in-Ok-clause-pushed c =
    (_, c.in_ok-push.ensures.items, c.in_ok-from_slice.ensures.ok, refl, refl, refl)
