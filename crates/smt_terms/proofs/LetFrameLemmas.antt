-- Lets, one binding at a time, and their bodies.
use Rattle.std.proofs.Common.{◌≡◌, ◌+◌, ◌-◌, ◌<◌, ℕ, List, [], ◌∷◌, ◌++◌, ◌||◌, true, false, Ok, Bool, refl, ap}
use Rattle.std.proofs.Common.{sym, subst, ◌∙◌, take, drop, cond, map, is_some, arith, append-nil, append_assoc, length, inr, None, Err, not}
use Rattle.std.proofs.lemmas.List.{length-append}
use Rattle.smt_trees.specs.Places.{LiesIn, size_of}
use Rattle.smt_trees.specs.Sexp.{Sexp, Sexps, Atom, Cons, Items, Nil, Reserved, Symbol}
use Rattle.smt_trees.specs.View.{sexps_of}
use Rattle.smt_trees.specs.declared.reserved.Word.TheVariants.{Let}
use Rattle.smt_trees.specs.declared.view.Trees.{Trees}
use Rattle.smt_theory.specs.Words.{look_up}
use Rattle.smt_theory.specs.Sort.{Sort}
use Rattle.smt_forms.specs.Bindings.{are_bindings, are_named_trees, first_named, let_form}
use Rattle.smt_forms.specs.Labels.{labels_in, labels_in_bindings}
use Rattle.smt_forms.specs.ScopeOf.{scope_of}
use Rattle.smt_forms.specs.Variables.{is_among}
use Rattle.smt_faults.specs.declared.term_fault.TermFault.TheVariants.{BoundTwice}
use Rattle.smt_nodes.specs.Node as node
use Rattle.smt_terms.specs.Checking.{sort_in}
use Rattle.smt_terms.specs.Denotes.{AreBound}
use Rattle.smt_terms.specs.Internal.DraftView.{IsPlaced, are_open_bindings, argument_sorts, argument_terms, is_open}
use Rattle.smt_terms.specs.Internal.DraftView.{placed_from, seen_by, sorts_from, sorts_seen, terms_from}
use Rattle.smt_terms.specs.Internal.Frames.{Begun, BindingWaits, BodyWaits, HasFault, IsBinding, IsDone}
use Rattle.smt_terms.specs.Internal.Frames.{LetSoFar, Link, begun, distinct_from, variables_of}
use Rattle.smt_terms.specs.Internal.LabelsView.{AreGiven, labels_view}
use Rattle.smt_terms.specs.Internal.LibraryView.{names_for, names_of_library}
use Rattle.smt_terms.specs.Internal.NodesView.{AddsNode, GrowsTo, Stands}
use Rattle.smt_terms.specs.Internal.SoFar.{binding, sorts_since, terms_since, waiting}
use Rattle.smt_faults.specs.declared.term_flaw.TermFlaw.TheVariants.{Form}
use Rattle.smt_terms.specs.Signature.{Names}
use Rattle.smt_terms.specs.declared.library.Library.{Library}
use Rattle.smt_terms.specs.declared.library.arguments.Arguments.{Arguments}
use Rattle.smt_terms.specs.declared.library.draft.CheckedTerm.{CheckedTerm}
use Rattle.smt_terms.specs.declared.library.draft.Draft.{Draft}
use Rattle.smt_terms.specs.declared.library.frames.Binder.{Binder}
use Rattle.smt_terms.specs.declared.library.frames.Body.{Body}
use Rattle.smt_terms.specs.declared.library.frames.Frame.TheVariants as frame
use Rattle.smt_terms.proofs.ArgumentLemmas.{sees_with, since_more, since_none, so_far_with, sorts_start}
use Rattle.smt_terms.proofs.ArgumentLemmas.{stands_with, taken_away, terms_start}
use Rattle.smt_terms.proofs.BinderLemmas.{bound_in-next, bound_in-twice, fault_of_bindings, let_in}
use Rattle.smt_terms.proofs.BinderNodeLemmas.{let_stands}
use Rattle.smt_terms.proofs.ClosedLemmas.{bound-names}
use Rattle.smt_terms.proofs.DraftLemmas.{among, cut_back, kept_on, let_sorted, open_kept, open_let, opened_all}
use Rattle.smt_terms.proofs.DraftLemmas.{opened_next, sorts_kept, tells_same}
use Rattle.smt_terms.proofs.FrameLemmas.{leads_itself}
use Rattle.smt_terms.proofs.LabelLemmas.{AreGiven-append, AreGivenOf-all, AreGivenOf-next, AreGivenOf-none, names_behind}
use Rattle.smt_terms.proofs.PartNodeLemmas.{binding_first, no_binding, none_left, so_far-all, so_far-next, so_far-none}
use Rattle.smt_terms.proofs.TableLemmas.{grows_bound, grows_on, grows_same}

-- bindings are named trees
pub named_of : (bindings : Sexps) → are_bindings bindings ≡ true → are_named_trees bindings ≡ true
named_of Nil h = refl
named_of (Cons b bs) h = h

-- trees that are no bindings and a body are out of form
pub let_out : (names : Names) (scope : List (List ℕ × Sort)) (args : Sexps) → let_form args ≡ None
    → let_in names scope args ≡ Err Form
let_out names scope (Cons (Items bindings) (Cons body Nil)) h = cc
let_out names scope _ h = refl

-- ---- names that are distinct

counted_twice : (among : Bool) (more : ℕ) → 0 ≡ cond among 0 (1 + more) → among ≡ true
counted_twice true more h = refl
counted_twice false more h = absurd (omega (arith, h))

counted_fresh : (among : Bool) (n more : ℕ) → n ≡ cond among 0 (1 + more) → 0 < n
    → (among ≡ false) × (n - 1 ≡ more)
counted_fresh true n more h some = absurd (omega (arith, h))
counted_fresh false n more h some = (refl, omega (arith, h))

pub twice : (bound : List (List ℕ × Sort)) (x : List ℕ) (term : Sexp) (left rest : Sexps)
    → left ≡ Cons (binding x term) rest → 0 ≡ distinct_from (map (λ v. v.0) bound) left
    → is_some (look_up bound x) ≡ true
twice bound x term left rest split counted =
    sym (among bound x)
    ∙ counted_twice (is_among (map (λ v. v.0) bound) x) (distinct_from (map (λ v. v.0) bound ++ x ∷ []) rest)
    (counted ∙ ap (distinct_from (map (λ v. v.0) bound)) split)

pub fresh : (bound : List (List ℕ × Sort)) (x : List ℕ) (term : Sexp) (left rest : Sexps) (n : ℕ)
    → left ≡ Cons (binding x term) rest → n ≡ distinct_from (map (λ v. v.0) bound) left → 0 < n
    → (is_some (look_up bound x) ≡ false) × (n - 1 ≡ distinct_from (map (λ v. v.0) bound ++ x ∷ []) rest)
fresh bound x term left rest n split counted some =
    let found = counted_fresh (is_among (map (λ v. v.0) bound) x) n
    (distinct_from (map (λ v. v.0) bound ++ x ∷ []) rest)
    (counted ∙ ap (distinct_from (map (λ v. v.0) bound)) split) some in
    (sym (among bound x) ∙ found.0, found.1)

-- a name more is counted, if it is distinct from those before it
pub name_counted : (total : ℕ) (names after : List (List ℕ)) (x : List ℕ) (rest : Sexps) (among added : Bool)
    → added ≡ not among → after ≡ cond added (names ++ x ∷ []) names
    → total ≡ length names + cond among 0 (1 + distinct_from (names ++ x ∷ []) rest)
    → total ≡ length after + cond added (distinct_from after rest) 0
name_counted total names after x rest true added is after_is h =
    let same : after ≡ names = after_is ∙ ap (λ b. cond b (names ++ x ∷ []) names) is in
    h ∙ ap (λ (xs : List (List ℕ)). length xs + 0) (sym same)
    ∙ ap (λ b. length after + cond b (distinct_from after rest) 0) (sym is)
name_counted total names after x rest false added is after_is h =
    let same : after ≡ names ++ x ∷ [] = after_is ∙ ap (λ b. cond b (names ++ x ∷ []) names) is in
    let one : length names + (1 + distinct_from (names ++ x ∷ []) rest)
    ≡ length (names ++ x ∷ []) + distinct_from (names ++ x ∷ []) rest =
    omega (arith, length-append names (x ∷ [])) in
    h ∙ one ∙ ap (λ (xs : List (List ℕ)). length xs + distinct_from xs rest) (sym same)
    ∙ ap (λ b. length after + cond b (distinct_from after rest) 0) (sym is)

-- what is no binding is no named tree
pub not_named : (first : Sexp) (rest : Sexps) → first_named (Cons first rest) ≡ None
    → are_named_trees (Cons first rest) ≡ false
not_named (Items (Cons (Atom Symbol x) (Cons term Nil))) rest h = cc
not_named _ rest h = refl

pub no_variables : (bindings : Sexps) → variables_of bindings [] ≡ []
no_variables (Cons (Items (Cons (Atom Symbol x) tail)) rest) = refl
no_variables _ = refl

-- ---- bindings

-- at first no binding is checked
pub let_start : (library : Library) (d : Draft) (bindings : Sexps) → are_bindings bindings ≡ true
    → LetSoFar library d d bindings bindings [] false
let_start library d bindings form =
    let none = since_none d in
    record {
      answer = refl;
      given = AreGivenOf-none (names_of_library library) d.labels (labels_in_bindings bindings);
      kept = record { variables = refl; base = refl };
      opened = refl;
      named = named_of bindings form;
      waits = none.2;
      stand = so_far-none AreBound library d bindings (terms_since d d) none.1;
      variables = λ sorts. ap (λ ss. variables_of bindings (ss ++ sorts)) none.0;
    }

-- one binding more
pub binding_next : (library : Library) (old : Draft) (inner : Begun) (bindings left : Sexps)
    (bound : List (List ℕ × Sort)) (name : List ℕ) (open_so_far : Bool) (last : Draft) (arguments : Arguments)
    (c : CheckedTerm)
    → LetSoFar library old inner.draft bindings (Cons (binding name inner.term) left) bound open_so_far
    → is_some (look_up bound name) ≡ false → inner.around ≡ 0 → IsDone library inner last c
    → argument_sorts arguments ≡ argument_sorts last.arguments ++ c.sort ∷ []
    → argument_terms arguments ≡ argument_terms last.arguments ++ c.node ∷ []
    → LetSoFar library old (record last { arguments = arguments }) bindings left (bound ++ (name, c.sort) ∷ [])
    (open_so_far || c.is_open)
binding_next library old inner bindings left bound name open_so_far last arguments c so fresh none done sorts terms =
    let names = names_of_library library in
    let mid = inner.draft in
    let new : Draft = record last { arguments = arguments } in
    let here = names_for library (labels_view mid.labels) in
    let term = inner.term in
    let before = Cons (binding name term) left in
    let more = since_more old mid last new c.sort c.node so.waits done.waiting sorts terms in
    record {
      answer = so.answer
          ∙ bound_in-next here (names_for library (labels_view last.labels)) (sorts_seen old) bound
          (bound ++ (name, c.sort) ∷ []) name term left before c.sort
          (names_behind library names mid.labels last.labels (labels_in term) done.labels) refl fresh
          (ap (λ vs. sort_in here vs term) (sym (sorts_kept old mid so.kept)) ∙ done.sort) refl;
      given = AreGivenOf-next names old.labels mid.labels last.labels (labels_in_bindings bindings)
          (labels_in_bindings before) (labels_in term) (labels_in_bindings left) so.given refl done.labels;
      kept = sees_with old last arguments (kept_on old mid last so.kept done.kept);
      opened = opened_next (are_open_bindings old bindings) open_so_far c.is_open (is_open old term)
          (are_open_bindings old left) (are_open_bindings old before) so.opened refl
          (done.used ∙ open_kept old mid so.kept term);
      named = so.named;
      waits = more.2;
      stand = so_far_with AreBound library old last arguments bindings left (terms_since old new)
          (open_so_far || c.is_open)
          (so_far-next AreBound library old mid last bindings before left (terms_since old mid)
          (terms_since old new) open_so_far term c so.stand so.kept (binding_first name term before left refl)
          done.longer (subst (λ n. Stands library mid last n term c) none done.node) more.1);
      variables = λ ss.
          ap (λ xs. variables_of bindings (xs ++ ss)) more.0
          ∙ ap (variables_of bindings) (append_assoc (sorts_since old mid) (c.sort ∷ []) ss)
          ∙ so.variables (c.sort ∷ ss)
          ∙ sym (append_assoc bound ((name, c.sort) ∷ []) (variables_of left ss));
    }

-- the first binding that is left waits for its term, behind those that are checked
abbrev pub binding_waits : (library : Library) (whole : Trees) (b : Binder) (left rest : Trees) (name : List ℕ) (term : Sexp)
    (place distinct : ℕ) (o : Bool) (outer : Begun) (d : Draft) → IsBinding library whole b left distinct o outer d
    → sexps_of left ≡ Cons (binding name term) (sexps_of rest) → LiesIn whole rest b.body
    → place ≡ size_of rest + b.body → 0 < distinct
    → BindingWaits library whole b place (distinct - 1) o outer (begun term 0 d)
binding_waits library whole b left rest name term place distinct o outer d is split lies from some =
    let new = fresh is.bound name term (sexps_of left) (sexps_of rest) distinct split is.counted some in
    record {
      bindings = is.bindings;
      body = is.body;
      rest = sexps_of rest;
      name = name;
      bound = is.bound;
      binder = is.binder;
      lie = record { part = rest; lies = lies; from_is = from; are = refl };
      none_around = refl;
      fresh = new.0;
      counted = new.1;
      so_far = subst (λ ts. LetSoFar library outer.draft d is.bindings ts is.bound o) split is.so_far;
    }

names-more : (bound : List (List ℕ × Sort)) (x : List ℕ) (s : Sort)
    → map (λ v. v.0) (bound ++ (x, s) ∷ []) ≡ map (λ v. v.0) bound ++ x ∷ []
names-more [] x s = refl
names-more (v ∷ vs) x s = ap (λ xs. v.0 ∷ xs) (names-more vs x s)

-- a binding whose term waited was checked
pub bound_next : (library : Library) (whole : Trees) (b : Binder) (place distinct : ℕ) (o : Bool)
    (outer inner : Begun) (left : Trees) (last : Draft) (arguments : Arguments) (c : CheckedTerm)
    → (w : BindingWaits library whole b place distinct o outer inner) → sexps_of left ≡ w.rest
    → LiesIn whole left b.body → IsDone library inner last c
    → argument_sorts arguments ≡ argument_sorts last.arguments ++ c.sort ∷ []
    → argument_terms arguments ≡ argument_terms last.arguments ++ c.node ∷ []
    → IsBinding library whole b left distinct (o || c.is_open) outer (record last { arguments = arguments })
bound_next library whole b place distinct o outer inner left last arguments c w are lies done sorts terms =
    let new : Draft = record last { arguments = arguments } in
    let bound = w.bound ++ (w.name, c.sort) ∷ [] in
    record {
      bindings = w.bindings;
      body = w.body;
      bound = bound;
      binder = w.binder;
      lies = lies;
      counted = w.counted ∙ ap (λ xs. distinct_from xs w.rest) (sym (names-more w.bound w.name c.sort))
          ∙ ap (distinct_from (map (λ v. v.0) bound)) (sym are);
      so_far = subst (λ ts. LetSoFar library outer.draft new w.bindings ts bound (o || c.is_open)) (sym are)
          (binding_next library outer.draft inner w.bindings w.rest w.bound w.name o last arguments c w.so_far w.fresh
          w.none_around done sorts terms);
    }

-- a binding that waits is linked to its `let`
pub binding_link : (library : Library) (whole : Trees) (b : Binder) (place distinct : ℕ) (o : Bool)
    (outer inner : Begun) → IsPlaced (seen_by outer.draft) outer.draft.base
    → BindingWaits library whole b place distinct o outer inner
    → Link library whole (frame.Binding b place distinct o) outer inner
binding_link library whole b place distinct o outer inner placed w =
    record { part = inner; leads = leads_itself library inner; placed = placed; waits = w }

-- a name that is bound twice is the first fault of the `let`
pub twice_fault : (library : Library) (whole : Trees) (b : Binder) (left : Trees) (name : List ℕ) (term : Sexp)
    (rest : Sexps) (distinct : ℕ) (o : Bool) (outer : Begun) (d : Draft)
    → IsBinding library whole b left distinct o outer d → distinct ≡ 0 → sexps_of left ≡ Cons (binding name term) rest
    → HasFault library outer BoundTwice
twice_fault library whole b left name term rest distinct o outer d is none split =
    let names = names_for library (labels_view outer.draft.labels) in
    let here = names_for library (labels_view d.labels) in
    let scope = sorts_seen outer.draft in
    let found = twice is.bound name term (sexps_of left) rest split (sym none ∙ is.counted) in
    tells_same _ _ BoundTwice (ap (sort_in names scope) is.binder.is)
    (fault_of_bindings names scope (Cons (Items is.bindings) (Cons is.body Nil)) is.bindings is.body BoundTwice refl
    is.binder.form
    (inr (is.so_far.answer ∙ bound_in-twice here scope is.bound name term rest (sexps_of left) split found)))

-- no binding is left
pub all_bound : (library : Library) (whole : Trees) (b : Binder) (left : Trees) (distinct : ℕ) (o : Bool)
    (outer : Begun) (d : Draft) → (is : IsBinding library whole b left distinct o outer d)
    → first_named (sexps_of left) ≡ None → LetSoFar library outer.draft d is.bindings Nil is.bound o
all_bound library whole b left distinct o outer d is none =
    subst (λ ts. LetSoFar library outer.draft d is.bindings ts is.bound o)
    (none_left (sexps_of left) is.so_far.named none) is.so_far

-- ---- the body

-- the variables of all bindings are those that are bound
pub variables_bound : (library : Library) (old new : Draft) (bindings : Sexps) (bound : List (List ℕ × Sort)) (o : Bool)
    (start : ℕ) → start ≡ waiting old → LetSoFar library old new bindings Nil bound o
    → variables_of bindings (sorts_from start new.arguments) ≡ bound
variables_bound library old new bindings bound o start from so =
    ap (variables_of bindings)
    (sorts_start old new start (sorts_since old new) from so.waits.sorts ∙ sym (append-nil (sorts_since old new)))
    ∙ so.variables [] ∙ append-nil bound

-- the `let` is checked with its body
pub let_done : (library : Library) (b : Body) (o : Bool) (outer inner : Begun) (last cut new : Draft)
    (arguments : Arguments) (checked c : CheckedTerm) → IsPlaced (seen_by outer.draft) outer.draft.base
    → BodyWaits library b o outer inner → IsDone library inner last checked
    → seen_by cut ≡ drop (length (seen_by last) - b.outer) (seen_by last) → cut.base ≡ last.base
    → cut.labels ≡ last.labels → cut.nodes ≡ last.nodes → cut.arguments ≡ last.arguments
    → c.sort ≡ checked.sort → c.is_open ≡ (o || checked.is_open)
    → AddsNode library.nodes cut new b.around (node.Let (terms_from b.start cut.arguments) checked.node) c
    → GrowsTo cut new → new.scope ≡ cut.scope → new.base ≡ cut.base → new.labels ≡ cut.labels
    → new.arguments ≡ cut.arguments
    → argument_sorts arguments ≡ take b.start (argument_sorts new.arguments)
    → argument_terms arguments ≡ take b.start (argument_terms new.arguments)
    → IsDone library outer (record new { arguments = arguments }) c
let_done library b o outer inner last cut new arguments checked c placed w done seen cut_base cut_labels cut_nodes
    cut_arguments sort used added longer scope base labels same sorts terms =
    let names = names_of_library library in
    let d = outer.draft in
    let mid = w.mid in
    let body = inner.term in
    let args = Cons (Items w.bindings) (Cons body Nil) in
    let given = AreGivenOf-all names d.labels mid.labels (labels_in_bindings w.bindings) (labels_in_bindings Nil)
    w.so_far.given refl in
    let named = bound-names (names_for library (labels_view d.labels)) (sorts_seen d) [] w.bindings w.bound
    w.so_far.answer in
    let js = terms_since d mid in
    let after : Draft = record new { arguments = arguments } in
    let wait_sorts : argument_sorts last.arguments ≡ argument_sorts d.arguments ++ sorts_since d mid =
    done.waiting.sorts ∙ ap argument_sorts w.arguments ∙ w.so_far.waits.sorts in
    let wait_terms : argument_terms last.arguments ≡ argument_terms d.arguments ++ js =
    done.waiting.terms ∙ ap argument_terms w.arguments ∙ w.so_far.waits.terms in
    let opened : o ≡ are_open_bindings d w.bindings =
    opened_all (are_open_bindings d w.bindings) o (are_open_bindings d Nil) w.so_far.opened refl in
    record {
      sort = ap (sort_in (names_for library (labels_view d.labels)) (sorts_seen d)) w.is
          ∙ let_sorted library d mid inner.draft w.bound args w.bindings body refl w.form w.so_far.answer given
          w.so_far.kept w.seen w.labels
          ∙ done.sort ∙ ap Ok (sym sort);
      labels = subst (λ t. AreGiven names d.labels new.labels (labels_in t)) (sym w.is)
          (subst (λ ls. AreGiven names d.labels ls (labels_in_bindings w.bindings ++ labels_in body))
          (sym (labels ∙ cut_labels))
          (AreGiven-append names d.labels mid.labels last.labels (labels_in_bindings w.bindings) (labels_in body) given
          (subst (λ ls. AreGiven names ls last.labels (labels_in body)) w.labels done.labels)));
      kept = record {
        variables = ap scope_of scope ∙ seen
            ∙ ap (λ n. drop (length (seen_by last) - n) (seen_by last)) w.before
            ∙ cut_back w.bound (seen_by d) (seen_by last)
            (done.kept.variables ∙ w.seen
            ∙ ap (λ vs. placed_from (length vs) w.bound ++ vs) w.so_far.kept.variables);
        base = base ∙ cut_base ∙ done.kept.base ∙ w.base ∙ w.so_far.kept.base;
      };
      waiting = taken_away d last after b.start (sorts_since d mid) js w.start wait_sorts wait_terms
          (sorts ∙ ap (λ x. take b.start (argument_sorts x)) (same ∙ cut_arguments))
          (terms ∙ ap (λ x. take b.start (argument_terms x)) (same ∙ cut_arguments));
      used = used
          ∙ open_let d mid inner.draft w.bindings args body w.bound o checked.is_open w.so_far.kept placed.within w.seen
          w.base named refl opened done.used
          ∙ sym (ap (is_open d) w.is);
      node = subst (λ n. Stands library d after n outer.term c) (sym w.around)
          (subst (λ t. Stands library d after b.around t c) (sym w.is)
          (stands_with library d new b.around arguments (Items (Cons (Reserved Let) args)) c
          (let_stands library d mid inner.draft last cut new b.around args w.bindings body w.bound js o checked c refl
          w.so_far.kept placed.within w.seen w.base w.labels w.nodes named w.so_far.stand.longer
          (so_far-all AreBound library d mid w.bindings Nil js o (no_binding Nil refl) w.so_far.stand)
          done.longer (subst (λ n. Stands library inner.draft last n body checked) w.none_around done.node)
          cut_labels cut_nodes longer
          (subst (λ ns. AddsNode library.nodes cut new b.around (node.Let ns checked.node) c)
          (ap (terms_from b.start) cut_arguments ∙ terms_start d last b.start js w.start wait_terms) added)
          used)));
      longer = grows_on d last new
          (grows_bound d mid inner.draft last w.so_far.stand.longer w.labels w.nodes done.longer)
          (grows_on last cut new (grows_same last cut cut_labels cut_nodes) longer);
    }
