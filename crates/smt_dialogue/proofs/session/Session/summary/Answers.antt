use Rattle.std.proofs.Common.{◌++◌}
use Rattle.smt_dialogue.proofs.SessionVerdictLemmas.{ended_invalid, ended_valid, has_ended, if_some}
use Rattle.smt_dialogue.specs.Session.{lines_waiting}
use Rattle.smt_dialogue.proofs.session.Session.summary.Goals as goal

pub returns-clause-valid : goal.returns-clause-valid
returns-clause-valid c = λ h k.
    let s = c.args.self.now in
    if_some s.summary (λ v some is. ended_valid (record {
      complete = c.models_are_complete.ensures;
      known = c.known_values_are_true.ensures;
      introduced = c.names_in_force_are_introduced.ensures;
      structures = c.models_give_structures.ensures;
      stand = c.assertions_in_force_stand.ensures.stands;
      found = c.assertions_in_force_stand.ensures.found;
    })
    c.one_forest.ensures.one v h (h.taken ++ lines_waiting s) is (has_ended s h v some k))

pub returns-clause-invalid : goal.returns-clause-invalid
returns-clause-invalid c = λ h k.
    let s = c.args.self.now in
    if_some s.summary (λ v some is. ended_invalid (record {
      complete = c.models_are_complete.ensures;
      known = c.known_values_are_true.ensures;
      introduced = c.names_in_force_are_introduced.ensures;
      structures = c.models_give_structures.ensures;
      stand = c.assertions_in_force_stand.ensures.stands;
      found = c.assertions_in_force_stand.ensures.found;
    })
    v h (h.taken ++ lines_waiting s) is (has_ended s h v some k))
