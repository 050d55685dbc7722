use Rattle.std.proofs.Common.{ℕ, false, List, [], None, refl, ap, ◌∙◌, rules}
use Rattle.smt_text.proofs.ReaderLemmas.{stands_new}
use Rattle.smt_text.proofs.TreeEndLemmas.{ends_new}
use Rattle.smt_text.specs.Internal.LexerStates.{At}
use Rattle.smt_text.specs.Internal.ReaderState.{levels_of}
use Rattle.smt_text.specs.declared.lexer.AtomState.TheVariants.{Nothing}
use Rattle.smt_text.proofs.reader.Reader.new.Goals as goal

pub returns-clause-stands : goal.returns-clause-stands
returns-clause-stands c =
    stands_new (record {
      max_depth = c.args.max_depth;
      fed = 0;
      tree_end = 0;
      finished = false;
      token = Nothing;
      bytes = c.new.result;
      builder = c.new-2.result;
      failure = None;
    }) refl refl refl
    (ap (λ (bytes : List ℕ). At Nothing bytes (levels_of c.new-2.result)) c.new.ensures.items ∙ ap
    (At Nothing []) c.new-2.ensures.levels)

pub returns-clause-ends : goal.returns-clause-ends
returns-clause-ends c =
    ends_new (record {
      max_depth = c.args.max_depth;
      fed = 0;
      tree_end = 0;
      finished = false;
      token = Nothing;
      bytes = c.new.result;
      builder = c.new-2.result;
      failure = None;
    }) refl c.new-2.ensures.ready

pub returns-clause-finished : goal.returns-clause-finished
returns-clause-finished c = search rules
