use Rattle.std.proofs.Common.{◌∙◌, ap, subst, IfSome}
use Rattle.smt_text.proofs.BuilderLemmas.{add_inside}
use Rattle.smt_text.specs.Internal.ReaderState.{trees_in}
use Rattle.smt_trees.specs.Sexp.{Atom}
use Rattle.smt_trees.specs.Tape.{added, kind_of}
use Rattle.smt_trees.specs.Owned.{sexps_of}
use Rattle.smt_trees.specs.TapeView.{lists_of, Holds}
use Rattle.smt_text.proofs.builder.Builder.add_atom.Goals as goal

pub returns-in_ok-add_atom-in-None-clause-levels : goal.returns-in_ok-add_atom-in-None-clause-levels
returns-in_ok-add_atom-in-None-clause-levels c =
    add_inside (lists_of c.args.self.now.list) (lists_of c.add_atom.new.self)
    (sexps_of (trees_in c.args.self.now.ready.items)) (Atom (kind_of c.args.kind) c.args.bytes.now)
    (λ none. c.if-depth-eq0.false (c.depth.ensures ∙ none)) c.in_ok-add_atom-in-None.ensures

pub returns-in_ok-add_offered-in-Some-clause-levels : goal.returns-in_ok-add_offered-in-Some-clause-levels
returns-in_ok-add_offered-in-Some-clause-levels c =
    let held : Holds c.args.self.now.list c.in-Some.place c.args.bytes.now =
    subst (λ at. IfSome at (λ place. Holds c.args.self.now.list place c.args.bytes.now)) c.in-Some.is c.requires in
    add_inside (lists_of c.args.self.now.list) (lists_of c.add_offered.new.self)
    (sexps_of (trees_in c.args.self.now.ready.items)) (Atom (kind_of c.args.kind) c.args.bytes.now)
    (λ none. c.if-depth-eq0.false (c.depth.ensures ∙ none)) (c.in_ok-add_offered-in-Some.ensures.lists
    ∙ ap (λ bytes. added (lists_of c.args.self.now.list) (Atom (kind_of c.args.kind) bytes)) held.same)
