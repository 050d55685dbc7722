use Rattle.std.proofs.Common.{◌∙◌}
use Rattle.smt_terms.specs.Contents.{contents_of}
use Rattle.smt_script.proofs.stack.Stack.try_effect.Goals as goal

pub returns-in-Err-clause-unchanged : goal.returns-in-Err-clause-unchanged
returns-in-Err-clause-unchanged c =
    let more = c.in-Err.ensures.unchanged in
    record {
      library = c.cut.ensures.left
          ∙ c.contents_are_kept.ensures.first c.mark-mark.result (contents_of c.args.self.now.library)
          (contents_of c.take_effect.new.self.library) c.mark-mark.ensures.within more.library
          ∙ c.mark-mark.ensures.all;
      transient = c.cut.ensures.transient ∙ more.transient;
      assertions = more.assertions;
      assumptions = more.assumptions;
      levels = more.levels;
      notes = record {
        logic = more.notes.logic;
        global = more.notes.global;
        print_success = more.notes.print_success;
        start = more.notes.start;
        exited = more.notes.exited;
        last = more.notes.last;
      };
    }
