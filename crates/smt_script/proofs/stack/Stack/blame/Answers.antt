use Rattle.smt_script.specs.Stack.{signature_in_force}
use Rattle.smt_script.specs.StackView.{profile_of}
use Rattle.smt_script.proofs.stack.Stack.blame.Goals as goal

pub returns : goal.returns
returns c = λ commands stands.
    c.blame_over.ensures (signature_in_force (profile_of c.args.self.now) commands)
    (c.library.ensures.stands commands stands)
