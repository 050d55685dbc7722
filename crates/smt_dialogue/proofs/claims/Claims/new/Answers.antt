use Rattle.smt_terms.specs.Contents.{contents_of}
use Rattle.smt_terms.specs.Library.{terms_of}
use Rattle.smt_script.specs.Stack.{assertions_in_force, assumptions_in_force}
use Rattle.smt_script.specs.StackView.{library_of, profile_of}
use Rattle.smt_dialogue.proofs.TakenClaimLemmas.{all_are_claimed, all_are_sized}
use Rattle.smt_dialogue.proofs.claims.Claims.new.Goals as goal

pub returns-clause-claimed : goal.returns-clause-claimed
returns-clause-claimed c = λ commands stands.
    let library = library_of c.args.stack.now in
    all_are_claimed (contents_of library) (terms_of library)
    (λ i t is. c.held_terms_are_terms.ensures library i t is) c.assertions.result.now c.assumptions.result.now
    (assertions_in_force (profile_of c.args.stack.now) commands) (assumptions_in_force commands)
    (c.assertions.ensures commands stands)
    (c.assumptions.ensures commands stands)

pub returns-clause-sized : goal.returns-clause-sized
returns-clause-sized c = λ commands stands.
    let library = library_of c.args.stack.now in
    all_are_sized (contents_of library) (terms_of library)
    (λ i t is. c.held_terms_are_terms.ensures library i t is) c.assertions.result.now c.assumptions.result.now
    (assertions_in_force (profile_of c.args.stack.now) commands) (c.assertions.ensures commands stands)
