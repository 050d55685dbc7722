-- Applications, one argument at a time.
use Rattle.std.proofs.Common.{◌≡◌, ◌+◌, ℕ, [], ◌∷◌, ◌++◌, ◌||◌, false, Ok, Err, Result, Bool, refl, ap, sym, List}
use Rattle.std.proofs.Common.{subst, ◌∙◌, take, IfOk, OnOk}
use Rattle.smt_trees.specs.Places.{LiesIn, size_of}
use Rattle.smt_trees.specs.Sexp.{Atom, Cons, Items, Nil, Sexp, Sexps, Symbol}
use Rattle.smt_trees.specs.View.{sexps_of}
use Rattle.smt_trees.specs.declared.view.Trees.{Trees}
use Rattle.smt_forms.specs.Identifier.{Identifier, Plain, applied}
use Rattle.smt_terms.proofs.CheckerLemmas.{in_profile}
use Rattle.smt_forms.specs.Labels.{labels_in, labels_in_all}
use Rattle.smt_forms.specs.ScopeOf.{scope_of}
use Rattle.smt_faults.specs.Outcome.{IsOutcome, Tells}
use Rattle.smt_faults.specs.declared.term_fault.TermFault.{TermFault}
use Rattle.smt_terms.specs.Checking.{sort_in, sort_of_call}
use Rattle.smt_terms.specs.Denotes.{AreDenoted}
use Rattle.smt_terms.specs.Internal.Calls.{HasTheSame, SeesTheSame}
use Rattle.smt_terms.specs.Internal.DraftView.{IsPlaced, are_open, argument_sorts, argument_terms, is_open, seen_by}
use Rattle.smt_terms.specs.Internal.DraftView.{sorts_from, sorts_seen, terms_from}
use Rattle.smt_terms.specs.Internal.Frames.{ArgumentWaits, ArgumentsSoFar, Begun, HasFault, IsCalled}
use Rattle.smt_terms.specs.Internal.Frames.{HasLeft, IsDone, Link, begun}
use Rattle.smt_terms.specs.Internal.LabelsView.{AreGiven, labels_view}
use Rattle.smt_terms.specs.Internal.LibraryView.{names_for, names_of_library}
use Rattle.smt_terms.specs.Internal.NodesView.{AddsApplied, GrowsTo, Stands, TermsStand}
use Rattle.smt_terms.specs.Internal.SoFar.{sorts_since, terms_since, waiting}
use Rattle.smt_terms.specs.Signature.{Names}
use Rattle.smt_terms.specs.declared.labels.Labels.{Labels}
use Rattle.smt_terms.specs.declared.library.Library.{Library}
use Rattle.smt_terms.specs.declared.library.arguments.Arguments.{Arguments}
use Rattle.smt_terms.specs.declared.library.draft.CheckedTerm.{CheckedTerm}
use Rattle.smt_terms.specs.declared.library.draft.Draft.{Draft}
use Rattle.smt_terms.specs.declared.library.frames.Application.{Application}
use Rattle.smt_terms.specs.declared.library.frames.Frame.{Frame}
use Rattle.smt_terms.specs.declared.library.frames.Frame.TheVariants as frame
use Rattle.smt_terms.proofs.ArgumentLemmas.{called_from, sees_with, since_more, since_none, so_far_with, stands_with}
use Rattle.smt_terms.proofs.ArgumentLemmas.{start_counted, taken_away, terms_start}
use Rattle.smt_terms.proofs.CheckerLemmas.{sorts_behind-end, sorts_behind-next, sorts_behind-start}
use Rattle.smt_terms.proofs.DraftLemmas.{kept_on, open_args, open_kept, opened_all, opened_next, sorts_kept}
use Rattle.smt_terms.proofs.DraftLemmas.{tells_same}
use Rattle.smt_terms.proofs.FrameLemmas.{leads_itself}
use Rattle.smt_terms.proofs.LabelLemmas.{AreGiven-none, AreGivenOf-all, AreGivenOf-next, AreGivenOf-none}
use Rattle.smt_terms.proofs.LabelLemmas.{given_by_args, names_behind}
use Rattle.smt_terms.proofs.NodeLemmas.{call_stands}
use Rattle.smt_terms.proofs.PartNodeLemmas.{no_term, so_far-all, so_far-next, so_far-none, term_first}
use Rattle.smt_terms.proofs.TableLemmas.{grows_on}

-- at first no argument is checked
pub arguments_start : (library : Library) (d : Draft) (args : Sexps) → ArgumentsSoFar library d d args args false
arguments_start library d args =
    let none = since_none d in
    record {
      answer = sorts_behind-start (names_for library (labels_view d.labels)) (sorts_seen d) (sorts_since d d) args
          none.0;
      given = AreGivenOf-none (names_of_library library) d.labels (labels_in_all args);
      kept = record { variables = refl; base = refl };
      opened = refl;
      waits = none.2;
      stand = so_far-none AreDenoted library d args (terms_since d d) none.1;
    }

-- one argument more
pub argument_next : (library : Library) (old : Draft) (inner : Begun) (args left : Sexps) (open_so_far : Bool)
    (last : Draft) (arguments : Arguments) (c : CheckedTerm)
    → ArgumentsSoFar library old inner.draft args (Cons inner.term left) open_so_far
    → inner.around ≡ 0 → IsDone library inner last c
    → argument_sorts arguments ≡ argument_sorts last.arguments ++ c.sort ∷ []
    → argument_terms arguments ≡ argument_terms last.arguments ++ c.node ∷ []
    → ArgumentsSoFar library old (record last { arguments = arguments }) args left (open_so_far || c.is_open)
argument_next library old inner args left open_so_far last arguments c so none done sorts terms =
    let names = names_of_library library in
    let mid = inner.draft in
    let new : Draft = record last { arguments = arguments } in
    let here = names_for library (labels_view mid.labels) in
    let term = inner.term in
    let more = since_more old mid last new c.sort c.node so.waits done.waiting sorts terms in
    record {
      answer = so.answer
          ∙ sorts_behind-next here (names_for library (labels_view last.labels)) (sorts_seen old) (sorts_since old mid)
          (sorts_since old new) term left (Cons term left) c.sort
          (names_behind library names mid.labels last.labels (labels_in term) done.labels) refl
          (ap (λ vs. sort_in here vs term) (sym (sorts_kept old mid so.kept)) ∙ done.sort) more.0;
      given = AreGivenOf-next names old.labels mid.labels last.labels (labels_in_all args)
          (labels_in_all (Cons term left)) (labels_in term) (labels_in_all left) so.given refl done.labels;
      kept = sees_with old last arguments (kept_on old mid last so.kept done.kept);
      opened = opened_next (are_open old args) open_so_far c.is_open (is_open old term) (are_open old left)
          (are_open old (Cons term left)) so.opened refl (done.used ∙ open_kept old mid so.kept term);
      waits = more.2;
      stand = so_far_with AreDenoted library old last arguments args left (terms_since old new)
          (open_so_far || c.is_open)
          (so_far-next AreDenoted library old mid last args (Cons term left) left (terms_since old mid)
          (terms_since old new) open_so_far term c so.stand so.kept (term_first term (Cons term left) left refl)
          done.longer (subst (λ n. Stands library mid last n term c) none done.node) more.1);
    }

-- the first argument that is left waits, behind those that are checked
abbrev pub waits_first : (library : Library) (whole : Trees) (a : Application) (left rest : Trees) (term : Sexp)
    (place : ℕ) (b : Bool) (outer : Begun) (d : Draft) → IsCalled library whole a left b outer d
    → sexps_of left ≡ Cons term (sexps_of rest) → LiesIn whole rest a.end → place ≡ size_of rest + a.end
    → ArgumentWaits library whole a place b outer (begun term 0 d)
waits_first library whole a left rest term place b outer d called split lies from = record {
  args = called.args;
  rest = sexps_of rest;
  application = called.application;
  lie = record { part = rest; lies = lies; from_is = from; are = refl };
  none_around = refl;
  so_far = subst (λ ts. ArgumentsSoFar library outer.draft d called.args ts b) split called.so_far;
}

-- an argument that waited was checked
pub called_next : (library : Library) (whole : Trees) (a : Application) (place : ℕ) (b : Bool) (outer inner : Begun)
    (left : Trees) (last : Draft) (arguments : Arguments) (c : CheckedTerm)
    → (w : ArgumentWaits library whole a place b outer inner) → sexps_of left ≡ w.rest → LiesIn whole left a.end
    → IsDone library inner last c
    → argument_sorts arguments ≡ argument_sorts last.arguments ++ c.sort ∷ []
    → argument_terms arguments ≡ argument_terms last.arguments ++ c.node ∷ []
    → IsCalled library whole a left (b || c.is_open) outer (record last { arguments = arguments })
called_next library whole a place b outer inner left last arguments c w are lies done sorts terms =
    let new : Draft = record last { arguments = arguments } in
    record {
      args = w.args;
      application = w.application;
      lies = lies;
      so_far = subst (λ ts. ArgumentsSoFar library outer.draft new w.args ts (b || c.is_open)) (sym are)
          (argument_next library outer.draft inner w.args w.rest b last arguments c w.so_far w.none_around done sorts
          terms);
    }

-- the arguments that are left are those between two places
pub called_between : (library : Library) (whole : Trees) (a : Application) (result : Trees) (b : Bool) (draft : Draft)
    (fs : List Frame) (first : Begun) (left : ℕ) → (known : HasLeft library whole fs first draft a left b)
    → ((p : Trees) → LiesIn whole p a.end → left ≡ size_of p + a.end
    → (sexps_of result ≡ sexps_of p) × LiesIn whole result a.end × (size_of result ≡ size_of p))
    → IsCalled library whole a result b known.outer draft × (size_of result + a.end ≡ left)
called_between library whole a result b draft fs first left known found =
    let same = found known.trees known.called.lies known.from_is in
    let called : IsCalled library whole a result b known.outer draft = record {
      args = known.called.args;
      application = known.called.application;
      lies = same.1;
      so_far = subst (λ ts. ArgumentsSoFar library known.outer.draft draft known.called.args ts b) (sym same.0)
          known.called.so_far;
    } in
    (called, ap (λ n. n + a.end) same.2 ∙ sym known.from_is)

-- an argument that waits is linked to its application
pub argument_link : (library : Library) (whole : Trees) (a : Application) (place : ℕ) (b : Bool) (outer inner : Begun)
    → IsPlaced (seen_by outer.draft) outer.draft.base → ArgumentWaits library whole a place b outer inner
    → Link library whole (frame.Argument a place b) outer inner
argument_link library whole a place b outer inner placed w =
    record { part = inner; leads = leads_itself library inner; placed = placed; waits = w }

-- the sort of the call is that of the application
call_sorted : (library : Library) (whole : Trees) (a : Application) (left : Trees) (b : Bool) (outer : Begun)
    (mid : Draft) → (called : IsCalled library whole a left b outer mid) → sexps_of left ≡ Nil
    → sort_in (names_for library (labels_view outer.draft.labels)) (sorts_seen outer.draft) outer.term
    ≡ sort_of_call (names_of_library library) (sorts_seen mid) called.application.identifier
    (sorts_from a.start mid.arguments)
call_sorted library whole a left b outer mid called none =
    let d = outer.draft in
    let app = called.application in
    let so = called.so_far in
    let names = names_for library (labels_view d.labels) in
    ap (sort_in names (sorts_seen d)) app.is
    ∙ called_from library d mid app.head called.args (Cons app.head called.args) app.identifier a.start
    (sorts_since d mid) refl app.plain app.named
    (so.answer ∙ sorts_behind-end (names_for library (labels_view mid.labels)) (sorts_seen d) (sorts_since d mid)
    (sexps_of left) none)
    so.waits.sorts app.start so.kept

pub call_fault : (library : Library) (whole : Trees) (a : Application) (left : Trees) (b : Bool) (outer : Begun)
    (mid : Draft) (e : TermFault) → (called : IsCalled library whole a left b outer mid) → sexps_of left ≡ Nil
    → Tells (sort_of_call (names_of_library library) (sorts_seen mid) called.application.identifier
    (sorts_from a.start mid.arguments)) e
    → HasFault library outer e
call_fault library whole a left b outer mid e called none h =
    tells_same _ _ e (call_sorted library whole a left b outer mid called none) h

-- the application is checked, and its arguments wait no more
pub call_done : (library : Library) (whole : Trees) (a : Application) (left : Trees) (b : Bool) (outer : Begun)
    (mid new : Draft) (arguments : Arguments) (c : CheckedTerm)
    → (called : IsCalled library whole a left b outer mid) → sexps_of left ≡ Nil
    → sort_of_call (names_of_library library) (sorts_seen mid) called.application.identifier
    (sorts_from a.start mid.arguments) ≡ Ok c.sort
    → c.is_open ≡ b
    → AddsApplied library mid new a.around called.application.identifier (sorts_from a.start mid.arguments)
    (terms_from a.start mid.arguments) c
    → GrowsTo mid new → new.scope ≡ mid.scope → new.base ≡ mid.base → new.labels ≡ mid.labels
    → new.arguments ≡ mid.arguments
    → argument_sorts arguments ≡ take a.start (argument_sorts new.arguments)
    → argument_terms arguments ≡ take a.start (argument_terms new.arguments)
    → IsDone library outer (record new { arguments = arguments }) c
call_done library whole a left b outer mid new arguments c called none sort used added longer scope base labels same
    sorts terms =
    let names = names_of_library library in
    let d = outer.draft in
    let app = called.application in
    let so = called.so_far in
    let start = a.start in
    let args = called.args in
    let parts = Cons app.head args in
    let last : Draft = record new { arguments = arguments } in
    record {
      sort = call_sorted library whole a left b outer mid called none ∙ sort;
      labels = subst (λ t. AreGiven names d.labels new.labels (labels_in t)) (sym app.is)
          (given_by_args {E = TermFault} (Ok c) names d.labels new.labels app.head args parts refl app.plain
          (subst (λ ls. AreGiven names d.labels ls (labels_in_all args)) (sym labels)
          (AreGivenOf-all names d.labels mid.labels (labels_in_all args) (labels_in_all (sexps_of left)) so.given
          (ap labels_in_all none))));
      kept = sees_with d new arguments
          (kept_on d mid new so.kept (record { variables = ap scope_of scope; base = base }));
      waiting = taken_away d mid last start (sorts_since d mid) (terms_since d mid)
          app.start so.waits.sorts so.waits.terms
          (sorts ∙ ap (λ x. take start (argument_sorts x)) same)
          (terms ∙ ap (λ x. take start (argument_terms x)) same);
      used = used ∙ opened_all (are_open d args) b (are_open d (sexps_of left)) so.opened (ap (are_open d) none)
          ∙ sym (ap (is_open d) app.is ∙ open_args d app.head args parts refl app.plain);
      node = subst (λ n. Stands library d last n outer.term c) (sym app.around)
          (subst (λ t. Stands library d last a.around t c) (sym app.is)
          (stands_with library d new a.around arguments (Items parts) c
          (call_stands library d mid new a.around app.head args parts app.identifier (sorts_from start mid.arguments)
          (terms_from start mid.arguments) b c refl app.plain
          (in_profile library.sorts.theories.wide app.head args app.identifier app.named) used so.stand.longer
          (subst (λ js. TermsStand library d mid args js b)
          (sym (terms_start d mid start (terms_since d mid) app.start so.waits.terms))
          (so_far-all AreDenoted library d mid args (sexps_of left) (terms_since d mid) b
          (no_term (sexps_of left) none) so.stand))
          (start_counted mid start) longer added)));
      longer = grows_on d mid new so.stand.longer longer;
    }

-- ---- parts that are checked at once

-- what is found of a part, and what it leaves, is that it is checked
pub done_by : (r : Result CheckedTerm TermFault) (library : Library) (p : Begun) (new : Draft)
    → IsOutcome (λ (c : CheckedTerm). c.sort)
    (sort_in (names_for library (labels_view p.draft.labels)) (sorts_seen p.draft) p.term) r
    → OnOk r (AreGiven (names_of_library library) p.draft.labels new.labels (labels_in p.term))
    → OnOk r (SeesTheSame p.draft new) → OnOk r (HasTheSame p.draft new)
    → IfOk r (λ (c : CheckedTerm). c.is_open ≡ is_open p.draft p.term)
    → IfOk r (Stands library p.draft new p.around p.term) → GrowsTo p.draft new → IfOk r (IsDone library p new)
done_by (Ok c) library p new sort labels kept waiting used node longer = record {
  sort = sort;
  labels = labels;
  kept = kept;
  waiting = waiting;
  used = used;
  node = node;
  longer = longer;
}
done_by (Err e) library p new sort labels kept waiting used node longer = tt

-- a draft that has gained nodes alone sees the same variables, and has the same arguments
pub same_seen : (old new : Draft) → new.scope ≡ old.scope → new.base ≡ old.base → SeesTheSame old new
same_seen old new scope base = record { variables = ap scope_of scope; base = base }

pub same_waiting : (old new : Draft) → new.arguments ≡ old.arguments → HasTheSame old new
same_waiting old new arguments =
    record { sorts = ap argument_sorts arguments; terms = ap argument_terms arguments }

pub on_ok : (r : Result CheckedTerm TermFault) (P : Type 0) → P → OnOk r P
on_ok (Ok c) P p = p
on_ok (Err e) P p = tt

pub none_given : (names : Names) (old new : Labels) → new ≡ old → AreGiven names old new []
none_given names old new same = subst (λ (ls : Labels). AreGiven names old ls []) (sym same) (AreGiven-none names old)

-- a symbol before arguments is applied
pub plain_applied : (name : List ℕ) (args : Sexps) (f : Identifier) → applied (Atom Symbol name) args ≡ Ok f
    → f ≡ Plain name
plain_applied name Nil f h = cc
plain_applied name (Cons x xs) f h = cc
