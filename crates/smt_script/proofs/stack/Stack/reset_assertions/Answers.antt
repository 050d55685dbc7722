use Rattle.smt_script.proofs.LevelLemmas.{reset_assertions_effect}
use Rattle.smt_script.proofs.stack.Stack.reset_assertions.Goals as goal

pub returns-clause-effect : goal.returns-clause-effect
returns-clause-effect c =
    let dropped = c.drop_names.ensures.dropped in
    let notes = dropped.notes in
    let before = c.drop_names.new.self in
    reset_assertions_effect c.args.self.now
    (record before { assertions = c.truncate.new.self; levels = c.clear.new.self })
    (record {
      library = dropped.library;
      assertions = c.truncate.ensures.items;
      levels = c.clear.ensures;
    })
    (record {
      logic = notes.logic;
      global = notes.global;
      print_success = notes.print_success;
      start = notes.start;
      exited = notes.exited;
      last = notes.last;
    })
