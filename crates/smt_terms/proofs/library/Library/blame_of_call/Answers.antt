use Rattle.std.proofs.Common.{subst, sym, ◌∙◌}
use Rattle.smt_trees.specs.Sexp.{Items}
use Rattle.smt_trees.specs.View.{sexps_of}
use Rattle.smt_forms.specs.IdentifierView.{identifier_view}
use Rattle.smt_forms.specs.ScopeOf.{scope_of}
use Rattle.smt_terms.specs.Blame.{IsCall}
use Rattle.smt_terms.specs.Internal.DraftView.{sorts_of}
use Rattle.smt_terms.proofs.BlameLemmas.{called, symbol_of}
use Rattle.smt_terms.proofs.library.Library.blame_of_call.Goals as goal

pub returns-then-is_variable : goal.returns-then-is_variable
returns-then-is_variable c =
    let f = identifier_view c.args.identifier.now in
    let k = called (sexps_of c.args.parts) f c.requires.call in
    let v =
    symbol_of (sorts_of (scope_of c.args.draft.now.scope)) f (sym c.is_variable.ensures ∙ c.if-is_variable.true) in
    (v.0, k.0, subst (λ g. IsCall (Items (sexps_of c.args.parts)) g k.0) v.1 k.1)
