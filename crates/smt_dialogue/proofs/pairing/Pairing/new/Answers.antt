use Rattle.std.proofs.Common.{[], false, refl, subst, sym}
use Rattle.smt_dialogue.proofs.PairingLemmas.{begun}
use Rattle.smt_dialogue.specs.FirstFault.{TextSoFar}
use Rattle.smt_dialogue.specs.Depth.{max_depth_of}
use Rattle.smt_dialogue.specs.Report.{IsRead}
use Rattle.smt_dialogue.proofs.pairing.Pairing.new.Goals as goal

pub returns-clause-way : goal.returns-clause-way
returns-clause-way c = λ script answers script_read answers_read.
    let at_depth = λ (text : TextSoFar) (read : IsRead (max_depth_of c.args.options.profile) false [] text).
    subst (λ m. IsRead m false [] text) (sym c.max_depth-max_depth.ensures) read in
    begun _ (record {
      script_bytes = [];
      script = script;
      answers_bytes = [];
      answers = answers;
      taken = [];
    }) refl c.new.ensures.stands (c.new-2.ensures.front script (at_depth script script_read))
    (c.new-3.ensures.front answers (at_depth answers answers_read))
