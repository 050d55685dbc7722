use Rattle.std.proofs.Common.{◌≡◌, ap, is_some, rules, subst, sym, ◌∙◌, inr, true, false, IfOk}
use Rattle.smt_trees.specs.Sexp.{Cons}
use Rattle.smt_trees.specs.View.{sexp_of, sexps_of}
use Rattle.smt_theory.specs.Words.{look_up}
use Rattle.smt_forms.specs.Identifier.{Identifier, Plain, applied}
use Rattle.smt_terms.specs.Checking.{sort_applied, sort_of_call}
use Rattle.smt_terms.specs.Internal.DraftView.{seen_by, sorts_from, sorts_seen, terms_from}
use Rattle.smt_terms.specs.Internal.LibraryView.{names_of_library}
use Rattle.smt_terms.specs.Internal.NodesView.{AddsApplied}
use Rattle.smt_terms.proofs.ApplicationLemmas.{plain_applied}
use Rattle.smt_terms.proofs.CheckerLemmas.{call_of_name, call_of_variable}
use Rattle.smt_terms.proofs.DraftLemmas.{carried_sort, found_sorts}
use Rattle.smt_terms.proofs.FrameLemmas.{between_same, split_same}
use Rattle.smt_terms.proofs.library.Library.sort_of_application.Goals as goal

pub returns-then-is_some-clause-call : goal.returns-then-is_some-clause-call
returns-then-is_some-clause-call c head args f lie named =
    let a = c.args.application in
    let d = c.args.draft.now in
    let name = c.in-Some-Symbol-default.name.now in
    let same = between_same c.args.whole c.between-parts.result a.parts a.end (Cons head args) lie
    c.between-parts.ensures.part in
    let split = split_same head (sexp_of c.in-Some-Symbol-default.field-0-0) args
    (sexps_of c.in-Some-Symbol-default.field-0-1) (sexps_of c.between-parts.result) same.0
    c.in-Some-Symbol-default.ensures in
    let plain : f ≡ Plain name = plain_applied name args f (ap (λ h. applied h args)
    (sym (split.0 ∙ ap sexp_of c.in-Some-Symbol-default.field-0-0-is)) ∙ named) in
    let found : is_some (look_up (seen_by d) name) ≡ true = search rules in
    let names = names_of_library c.args.self.now in
    let sorts = sorts_from a.start d.arguments in (
      inr (ap (λ g. sort_of_call names (sorts_seen d) g sorts) plain
          ∙ call_of_variable names (sorts_seen d) (Plain name) sorts (found_sorts (seen_by d) name ∙ found)),
      tt,
    )

pub returns-else-is_some-clause-call : goal.returns-else-is_some-clause-call
returns-else-is_some-clause-call c head args f lie named =
    let a = c.args.application in
    let d = c.args.draft.now in
    let new = c.sort_of_plain.new.draft in
    let name = c.in-Some-Symbol-default.name.now in
    let same = between_same c.args.whole c.between-parts.result a.parts a.end (Cons head args) lie
    c.between-parts.ensures.part in
    let split = split_same head (sexp_of c.in-Some-Symbol-default.field-0-0) args
    (sexps_of c.in-Some-Symbol-default.field-0-1) (sexps_of c.between-parts.result) same.0
    c.in-Some-Symbol-default.ensures in
    let plain : f ≡ Plain name = plain_applied name args f (ap (λ h. applied h args)
    (sym (split.0 ∙ ap sexp_of c.in-Some-Symbol-default.field-0-0-is)) ∙ named) in
    let none : is_some (look_up (seen_by d) name) ≡ false = search rules in
    let names = names_of_library c.args.self.now in
    let sorts = sorts_from a.start d.arguments in
    let terms = terms_from a.start d.arguments in (
      carried_sort c.sort_of_plain.result (sort_applied names (Plain name) sorts) (sort_of_call names (sorts_seen d) f sorts)
          (ap (λ g. sort_of_call names (sorts_seen d) g sorts) plain
          ∙ call_of_name names (sorts_seen d) (Plain name) sorts (found_sorts (seen_by d) name ∙ none))
          c.sort_of_plain.ensures.sort,
      subst (λ (g : Identifier). IfOk c.sort_of_plain.result (AddsApplied c.args.self.now d new a.around g sorts terms))
          (sym plain) c.sort_of_plain.ensures.added,
    )

pub returns-in-Some : goal.returns-in-Some
returns-in-Some c =
    let a = c.args.application in
    record {
      call = λ head args f lie named.
          let same = between_same c.args.whole c.between-parts.result a.parts a.end (Cons head args) lie
          c.between-parts.ensures.part in
          let split = split_same head (sexp_of c.in-Some.head) args (sexps_of c.in-Some.args)
          (sexps_of c.between-parts.result) same.0 c.in-Some.ensures in
          c.sort_of_other_call.ensures.call f
          (ap (λ h. applied h (sexps_of c.in-Some.args)) (sym split.0) ∙ ap (applied head) (sym split.1) ∙ named);
      «open» = c.sort_of_other_call.ensures.open;
      longer = c.sort_of_other_call.ensures.longer;
      scope = c.sort_of_other_call.ensures.scope;
      base = c.sort_of_other_call.ensures.base;
      labels = c.sort_of_other_call.ensures.labels;
      arguments = c.sort_of_other_call.ensures.arguments;
    }
