use Rattle.std.proofs.Common.{◌≡◌, ap, sym, ◌∙◌, subst}
use Rattle.std.proofs.lemmas.Result.{IfOk-weaker}
use Rattle.smt_terms.specs.Library.{terms_of}
use Rattle.smt_trees.specs.View.{sexp_of}
use Rattle.smt_eval.specs.Model.{model_in}
use Rattle.smt_script.specs.Stack.{signature_in_force}
use Rattle.smt_script.specs.StackView.{profile_of}
use Rattle.smt_dialogue.specs.Internal.Claims.{AreClaimed, HaveSizes, claims_in_force, claims_left}
use Rattle.smt_dialogue.specs.Judgement.{judged_in, judgement_of}
use Rattle.smt_dialogue.proofs.AnswerLemmas.{same_items}
use Rattle.smt_dialogue.proofs.judgement.judge.Goals as goal

pub returns-in-Ok : goal.returns-in-Ok
returns-in-Ok c = λ commands items stands list.
    let script = signature_in_force (profile_of c.args.stack.now) commands in
    let all = claims_in_force (profile_of c.args.stack.now) commands in
    let names = c.library-library.ensures.stands commands stands in
    let read = c.in-Ok.ensures.model script names in
    let terms = subst (λ l. AreClaimed (terms_of l) (claims_left c.new-claims.result) all)
    (sym c.library-library.ensures.view) (c.new-claims.ensures.claimed commands stands) in
    let same = same_items _ items (sym (ap sexp_of c.in-List.is) ∙ c.view.ensures ∙ list) in
    IfOk-weaker c.judge_read-judgement.result _
    (λ j. j ≡ judgement_of c.args.limit.steps script all items)
    (λ j h. h ∙ ap (judged_in c.args.limit.steps script all) (sym read.1 ∙ ap (model_in script) same))
    (c.judge_read-judgement.ensures script read.0 all names read.2 terms)

pub judge_read-judgement-requires-clause-sized : goal.judge_read-judgement-requires-clause-sized
judge_read-judgement-requires-clause-sized c =
    subst (λ l. HaveSizes (terms_of l) (claims_left c.new-claims.result)) (sym c.library-library.ensures.view)
    (c.new-claims.ensures.sized c.requires.stands.0 c.requires.stands.1)

pub judge_read-judgement-requires-clause-fits : goal.judge_read-judgement-requires-clause-fits
judge_read-judgement-requires-clause-fits c =
    let script = signature_in_force (profile_of c.args.stack.now) c.requires.stands.0 in
    let names = c.library-library.ensures.stands c.requires.stands.0 c.requires.stands.1 in
    let read = c.in-Ok.ensures.model script names in
    record { script = script; definitions = read.0; names = names; holds = read.2 }
