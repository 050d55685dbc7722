use Rattle.std.proofs.Common.{ap, refl, reverse, ◌+◌, ◌∙◌}
use Rattle.smt_trees.specs.Sexp.{Cons, Items}
use Rattle.smt_trees.specs.View.{sexp_of, sexps_of}
use Rattle.smt_faults.specs.Faults.{flaw_of_term_fault}
use Rattle.smt_forms.specs.Identifier.{applied_in}
use Rattle.std.proofs.Common.{◌≡◌, Some, rules}
use Rattle.smt_terms.specs.Internal.DraftView.{sorts_seen}
use Rattle.smt_terms.specs.Internal.Frames.{IsApplication, IsCalled, begun}
use Rattle.smt_terms.specs.Internal.LabelsView.{labels_view}
use Rattle.smt_terms.specs.Internal.LibraryView.{names_for}
use Rattle.smt_terms.specs.declared.library.frames.Application.{Application}
use Rattle.smt_terms.proofs.ApplicationLemmas.{arguments_start}
use Rattle.smt_terms.proofs.CheckerLemmas.{fault_of_form, told}
use Rattle.smt_terms.proofs.FrameLemmas.{fault_through}
use Rattle.smt_terms.proofs.library.Library.enter_application.Goals as goal
use Rattle.std.proofs.Common.{false}

pub returns-in-Some-clause-next : goal.returns-in-Some-clause-next
returns-in-Some-clause-next c first plain lie lies chain =
    let head = sexp_of c.args.head in
    let args = sexps_of c.args.args in
    let made : flaw_of_term_fault c.from.result ≡ Some c.in-Some.flaw = search rules in
    fault_through c.args.self.now c.args.whole (reverse c.args.frames.now.items) first _ c.from.result chain
    (fault_of_form (names_for c.args.self.now (labels_view c.args.draft.now.labels)) (sorts_seen c.args.draft.now) head
    args (Cons head args) c.from.result refl plain
    (told (applied_in c.args.self.now.sorts.theories.wide head args) c.in-Some.flaw c.from.result
    c.in-Some.ensures made))

pub returns-clause-next : goal.returns-clause-next
returns-clause-next c first plain lie lies chain =
    let library = c.args.self.now in
    let d = c.args.draft.now in
    let head = sexp_of c.args.head in
    let args = sexps_of c.args.args in
    let outer = begun (Items (Cons head args)) c.args.part.around d in
    let a : Application = record {
      parts = c.args.part.from;
      end = c.args.part.to;
      start = c.in_ok-start.start;
      around = c.args.part.around;
    } in
    let application : IsApplication library c.args.whole a outer args = record {
      head = head;
      identifier = c.in_default.ensures.0;
      lie = lie;
      is = refl;
      plain = plain;
      named = c.in_default.ensures.1;
      around = refl;
      start = c.in_ok-start.ensures ∙ c.len.ensures;
    } in
    let called : IsCalled library c.args.whole a c.args.args false outer d =
    record { args = args; application = application; lies = lies; so_far = arguments_start library d args } in
    record {
      outer = outer;
      trees = c.args.args;
      placed = c.requires;
      called = called;
      from_is = c.in_ok-place_before.ensures ∙ ap (λ n. n + c.args.part.to) c.size.ensures;
      chain = chain;
    }
