use Rattle.std.proofs.Common.{ap, arith, reverse, take, ◌∙◌, ◌++◌, ◌∷◌, [], List}
use Rattle.smt_trees.proofs.TapeLemmas.{length-lists, offered_added}
use Rattle.smt_trees.specs.declared.tape.Cell.{Cell}
use Rattle.smt_trees.specs.declared.tape.Cell.TheVariants as cells
use Rattle.smt_trees.proofs.tape.Tape.add_offered.Goals as goal

pub invariant_of-self-2 : goal.invariant_of-self-2
invariant_of-self-2 c = record {
  nested = (offered_added c.args.self.now.text.items c.args.self.now.used _
      c.args.self.now.cells.items c.push_reserved.new.self.items (reverse c.args.self.now.begins.items) c.args.kind
      c.args.place c.args.count
      (c.push_reserved.ensures.items
      ∙ ap (λ (xs : List Cell). xs ++ cells.Atom c.args.kind c.args.place c.args.count ∷ []) c.in_ok-make_room.ensures.items)
      c.requires.within (omega arith) (omega arith)
      (omega (
        arith,
        c.requires.some,
        length-lists (take c.args.self.now.used c.args.self.now.text.items)
            c.args.self.now.cells.items (reverse c.args.self.now.begins.items),
      )) c.args.self.now.nested).1;
  within = omega (arith, c.requires.within, c.max-self.ensures, c.args.self.now.within);
  short = c.args.self.now.short;
}

pub returns-clause-lists : goal.returns-clause-lists
returns-clause-lists c =
    (offered_added c.args.self.now.text.items c.args.self.now.used _
    c.args.self.now.cells.items c.push_reserved.new.self.items (reverse c.args.self.now.begins.items) c.args.kind
    c.args.place c.args.count
    (c.push_reserved.ensures.items
    ∙ ap (λ (xs : List Cell). xs ++ cells.Atom c.args.kind c.args.place c.args.count ∷ []) c.in_ok-make_room.ensures.items)
    c.requires.within (omega arith) (omega arith)
    (omega (
      arith,
      c.requires.some,
      length-lists (take c.args.self.now.used c.args.self.now.text.items)
          c.args.self.now.cells.items (reverse c.args.self.now.begins.items),
    )) c.args.self.now.nested).0
