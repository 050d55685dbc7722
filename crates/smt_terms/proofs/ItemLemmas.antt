-- Items, one step at a time.
use Rattle.std.proofs.Common.{◌≡◌, ℕ, Bool, true, false, cond, not, ◌&&◌, ◌||◌, List, [], ◌∷◌, map, Option, Some}
use Rattle.std.proofs.Common.{None, is_some, option_map, Result, Ok, Err, refl, ap, sym, ◌∙◌, subst}
use Rattle.std.proofs.lemmas.List.Elements.{All-head, All-tail}
use Rattle.std.specs.List.{All}
use Rattle.std.specs.Option.{option_and_then}
use Rattle.std.specs.Prelude.{bytes_eq}
use Rattle.smt_theory.specs.Operators.{is_plain_operator}
use Rattle.smt_theory.specs.Shapes.{are_exactly}
use Rattle.smt_theory.specs.Sort.{is_same_sort}
use Rattle.smt_theory.specs.Words.{look_up, result_and_then}
use Rattle.smt_theory.specs.Sort.{Sort}
use Rattle.smt_theory.specs.declared.theories.Theories.{Theories}
use Rattle.smt_names.specs.Entries.{entries_of}
use Rattle.smt_terms.specs.Checking.{unless}
use Rattle.smt_terms.specs.Definitions.{definition_in, parameters_named}
use Rattle.smt_forms.specs.Variables.{is_among}
use Rattle.smt_terms.specs.Elements.{ElementNames, element_among, element_sort}
use Rattle.smt_terms.specs.Internal.LibraryView.{elements_lent, names_alone, names_of_library, places_of_library}
use Rattle.smt_terms.specs.Internal.LibraryView.{rank_of, sort_names}
use Rattle.smt_terms.specs.Internal.TableView.{head_of}
use Rattle.smt_forms.specs.ItemForm.{ItemForm}
use Rattle.smt_terms.specs.Freshness.{is_defined_before, is_element, is_element_name, is_taken, is_taken_undeclared}
use Rattle.smt_terms.specs.Freshness.{item_elements, name_flaw}
use Rattle.smt_terms.specs.Items.{defined_as, form_in, has_rank_of, items_before}
use Rattle.smt_terms.specs.Labels.{Refused}
use Rattle.smt_terms.specs.Library.{Holds, ReadsModelsOf, StandsFor, is_declared}
use Rattle.smt_terms.specs.Contents.{contents_of}
use Rattle.smt_terms.specs.Signature as signature
use Rattle.smt_terms.specs.Signature.{Entry, Origin, Rank, Signature, declared_named, entry_named}
use Rattle.smt_terms.specs.Signature.{if_declared, names_of, no_names, rank_of_entry, ranks_of, sort_names_of}
use Rattle.smt_terms.specs.SortTrees.{sort_named}
use Rattle.smt_faults.specs.declared.term_flaw.TermFlaw.{TermFlaw}
use Rattle.smt_faults.specs.declared.term_flaw.TermFlaw.TheVariants.{BoundTwice, IllSorted, NotFresh}
use Rattle.smt_terms.specs.declared.library.Entry.{Entry as Held}
use Rattle.smt_terms.specs.declared.library.Found.{Found}
use Rattle.smt_terms.specs.declared.library.Library.{Library}
use Rattle.smt_terms.proofs.ClosedLemmas.{neither}
use Rattle.smt_terms.proofs.EntryLemmas.{look_up-ranks}
use Rattle.smt_terms.proofs.NameLemmas.{same_name}
use Rattle.smt_terms.proofs.NameLookUps.{some_map}
use Rattle.smt_terms.proofs.LibraryLemmas.{Pairs, viewed}
use Rattle.smt_terms.proofs.StandsLemmas.{nothing_lent}
use Rattle.smt_terms.proofs.PlaceLemmas.{declared_place, is_declared_place, places-heads, places_from, places_in}

-- the names that a library holds are those of what it stands for
pub names_as : (library : Library) (s : Signature) → StandsFor library s
    → names_of_library library ≡ names_of s
names_as library s stands =
    λ i. record {
      theories = stands.theories i;
      elements = stands.elements i;
      ranks = stands.ranks i;
      labels = Refused;
    }

-- and so are those of sorts
pub sorts_as : (library : Library) (s : Signature) → StandsFor library s
    → sort_names library.sorts ≡ sort_names_of s
sorts_as library s stands =
    λ i. record { theories = stands.theories i; abbreviations = stands.abbreviations i }

-- the names alone
first_names : (es : List (List ℕ × Held)) → map (λ (r : List ℕ × Rank). r.0) (map (λ p. (p.0, rank_of p.1)) es)
    ≡ map (λ p. p.0) es
first_names [] = refl
first_names (p ∷ es) = ap (λ (xs : List (List ℕ)). p.0 ∷ xs) (first_names es)

entry_names : (es : List Entry) → map (λ (r : List ℕ × Rank). r.0) (ranks_of es) ≡ map (λ e. e.name) es
entry_names [] = refl
entry_names (e ∷ es) = ap (λ (xs : List (List ℕ)). e.name ∷ xs) (entry_names es)

taken_as : (library : Library) (s : Signature) → StandsFor library s
    → names_alone library.names ≡ map (λ e. e.name) s.entries
taken_as library s stands =
    sym (first_names (entries_of library.names))
    ∙ ap (λ (rs : List (List ℕ × Rank)). map (λ p. p.0) rs) stands.ranks ∙ entry_names s.entries

-- and what the items of models may name elements by
pub lent_as : (library : Library) (s : Signature) → StandsFor library s → elements_lent library ≡ item_elements s
lent_as library s stands =
    λ i. cond (stands.theories i).wide
    (Some (record {
      sorts = record { theories = stands.theories i; abbreviations = stands.abbreviations i };
      taken = taken_as library s stands i;
    })) None

-- whether a name has the form of an element's
pub formed_as : (library : Library) (s : Signature) (x : List ℕ) → StandsFor library s
    → (library.sorts.theories.wide && is_some (element_sort (sort_names library.sorts) x)) ≡ is_element_name s x
formed_as library s x stands =
    λ i. (stands.theories i).wide && is_some (element_sort (sorts_as library s stands i) x)

-- a name that has not the form of an element's is none
pub apart_where_formless : (library : Library) (x : List ℕ) (b : Bool)
    → b ≡ (library.sorts.theories.wide && is_some (element_sort (sort_names library.sorts) x)) → b ≡ false
    → element_among (elements_lent library) x ≡ None
apart_where_formless library x b is none = by library.sorts.theories.wide (sym is ∙ none)
  where
    names : ElementNames
    names = record { sorts = sort_names library.sorts; taken = names_alone library.names }

    inner : (t : Bool) (o : Option Sort) → is_some o ≡ false → cond t None o ≡ None
    inner true o h = refl
    inner false None h = refl
    inner false (Some sort) h = cc

    by : (w : Bool) → (w && is_some (element_sort (sort_names library.sorts) x)) ≡ false
        → element_among (cond w (Some names) None) x ≡ None
    by false h = refl
    by true h = inner (is_among (names_alone library.names) x) (element_sort (sort_names library.sorts) x) h

-- a library for the items of models, where it has no names
pub for_items : (library new : Library) (s : Signature) → StandsFor library s
    → Holds (contents_of new) (no_names library.sorts.theories)
    → Holds (record (contents_of new) { elements = elements_lent library }) (items_before s [])
for_items library new s stands empty =
    subst (λ ts. Holds (record (contents_of new) { elements = elements_lent library })
    (record (no_names ts) { elements = item_elements s })) stands.theories
    (subst (λ es. Holds (record (contents_of new) { elements = elements_lent library })
    (record (no_names library.sorts.theories) { elements = es })) (lent_as library s stands)
    (nothing_lent (contents_of new) library.sorts.theories (elements_lent library) empty))

-- a name stands where its entry does
places_viewed : (es : Pairs Held) → places_in (viewed head_of es) ≡ viewed (λ e. e.place) es
places_viewed [] = refl
places_viewed (p ∷ es) = ap (λ (ps : List (List ℕ × Found)). (p.0, p.1.place) ∷ ps) (places_viewed es)

pub places_as : (library : Library) (s : Signature) → StandsFor library s
    → places_of_library library ≡ places_from 0 0 s.entries
places_as library s stands =
    sym (places_viewed (entries_of library.names)) ∙ ap places_in stands.terms.heads ∙ places-heads 0 0 s.entries

-- those of what a model's library stands for are the ones that a body sees
pub names_before : (library script : Library) (s m : Signature) → ReadsModelsOf library script
    → StandsFor script s → StandsFor library m → names_of m ≡ names_of (items_before s m.entries)
names_before library script s m same stands items =
    let theories : m.theories ≡ s.theories = sym items.theories ∙ same.theories ∙ stands.theories in
    let elements : m.elements ≡ item_elements s = sym items.elements ∙ same.elements ∙ lent_as script s stands in
    λ i. record {
      theories = theories i;
      elements = elements i;
      ranks = ranks_of m.entries;
      labels = Refused;
    }

-- whether a name has an entry
pub is_named : (es : List Entry) (x : List ℕ) → is_some (entry_named es x) ≡ is_some (look_up (ranks_of es) x)
is_named es x = sym (some_map rank_of_entry (entry_named es x)) ∙ ap is_some (sym (look_up-ranks es x))

-- a name that stands for nothing is not declared
pub not_declared : (es : List Entry) (x : List ℕ) → None ≡ look_up (ranks_of es) x
    → None ≡ option_map rank_of_entry (declared_named es x)
not_declared es x h = by (entry_named es x) (h ∙ look_up-ranks es x)
  where
    by : (o : Option Entry) → None ≡ option_map rank_of_entry o
        → None ≡ option_map rank_of_entry (option_and_then (λ e. if_declared e e.origin) o)
    by None h = refl
    by (Some e) h = cc

-- one that stands for something is declared where it stands among the declared names
pub declared_at : (es : List Entry) (x : List ℕ) (f : Found) (r : Rank)
    → Some f ≡ look_up (places_from 0 0 es) x → Some r ≡ look_up (ranks_of es) x
    → cond (is_declared_place f) (Some r) None ≡ option_map rank_of_entry (declared_named es x)
declared_at es x f r place rank = by (entry_named es x)
    (ap (option_map is_declared_place) place ∙ declared_place 0 0 es x) (rank ∙ look_up-ranks es x)
  where
    by_origin : (e : Entry) (o : Origin) → is_declared_place f ≡ is_declared o
        → Some r ≡ Some (rank_of_entry e)
        → cond (is_declared_place f) (Some r) None ≡ option_map rank_of_entry (if_declared e o)
    by_origin e (signature.Declared command) h g = ap (λ b. cond b (Some r) None) h ∙ g
    by_origin e (signature.Defined ps body) h g = ap (λ b. cond b (Some r) None) h

    by : (o : Option Entry) → Some (is_declared_place f) ≡ option_map (λ e. is_declared e.origin) o
        → Some r ≡ option_map rank_of_entry o
        → cond (is_declared_place f) (Some r) None
        ≡ option_map rank_of_entry (option_and_then (λ e. if_declared e e.origin) o)
    by None h g = cc
    by (Some e) h g = by_origin e e.origin (cc) g

-- whether a rank, if there is one, has these sorts
abbrev pub is_rank_of : Option Rank → List Sort → Sort → Bool
is_rank_of None ps sort = true
is_rank_of (Some r) ps sort = are_exactly r.parameters ps && is_same_sort r.sort sort

-- a declared name keeps its rank
pub keeps : (o : Option Entry) (r : Option Rank) (ps : List Sort) (sort : Sort)
    → r ≡ option_map rank_of_entry o → is_rank_of r ps sort ≡ has_rank_of o ps sort
keeps None r ps sort h = ap (λ o. is_rank_of o ps sort) h
keeps (Some e) r ps sort h = ap (λ o. is_rank_of o ps sort) h

-- parameters with their sorts
abbrev pub Params : Type 0
Params = List (List ℕ × Sort)

-- what is defined by parts with a name that is fit
abbrev pub item_behind : Signature → List Entry → ItemForm → Result Entry TermFlaw
item_behind s es form = result_and_then (parameters_named (sort_names_of s) [] form.parameters)
    (λ ps. result_and_then (sort_named (sort_names_of s) form.sort) (λ sort. defined_as s es form ps sort))

pub item_named : (s : Signature) (es : List Entry) (form : ItemForm) → name_flaw s es form.name ≡ None
    → form_in s es form ≡ item_behind s es form
item_named s es form free = ap (λ o. unless o (item_behind s es form)) free

-- with parameters that have sorts
pub item_bound : (s : Signature) (es : List Entry) (form : ItemForm) (ps : Params)
    → name_flaw s es form.name ≡ None
    → parameters_named (sort_names_of s) [] form.parameters ≡ Ok ps
    → form_in s es form ≡ result_and_then (sort_named (sort_names_of s) form.sort)
    (λ sort. defined_as s es form ps sort)
item_bound s es form ps free bound =
    item_named s es form free ∙ ap
    (λ r. result_and_then r (λ qs. result_and_then (sort_named (sort_names_of s) form.sort)
    (λ sort. defined_as s es form qs sort))) bound

-- with a sort, and by whether it keeps the rank of its declaration
pub item_ranked : (s : Signature) (es : List Entry) (form : ItemForm) (ps : Params) (sort : Sort)
    (b : Bool) → name_flaw s es form.name ≡ None
    → parameters_named (sort_names_of s) [] form.parameters ≡ Ok ps
    → sort_named (sort_names_of s) form.sort ≡ Ok sort
    → has_rank_of (declared_named s.entries form.name) (map (λ p. p.1) ps) sort ≡ b
    → form_in s es form ≡ cond (not b) (Err IllSorted)
    (definition_in (names_of (items_before s es)) form.name ps sort form.body)
item_ranked s es form ps sort b free bound sorted kept =
    item_bound s es form ps free bound ∙ ap
    (λ r. result_and_then r (λ z. defined_as s es form ps z)) sorted
    ∙ ap (λ c. cond (not c) (Err IllSorted)
    (definition_in (names_of (items_before s es)) form.name ps sort form.body)) kept

-- what an item defines, where its name is fit, its sorts are known and it keeps the rank of its declaration
pub item_step : (library script : Library) (s m : Signature) (form : ItemForm) (ps qs rs : Params)
    (sort : Sort) (b : Bool) → ReadsModelsOf library script → StandsFor script s → StandsFor library m
    → name_flaw s m.entries form.name ≡ None
    → parameters_named (sort_names script.sorts) [] form.parameters ≡ Ok ps
    → Ok sort ≡ sort_named (sort_names script.sorts) form.sort
    → b ≡ has_rank_of (declared_named s.entries form.name) (map (λ p. p.1) qs) sort → b ≡ true
    → qs ≡ ps → rs ≡ ps → form_in s m.entries form ≡ definition_in (names_of m) form.name rs sort form.body
item_step library script s m form ps qs rs sort b same stands items free bound sorted kept true_ first
    second =
    item_ranked s m.entries form ps sort true free
    (ap (λ sorts. parameters_named sorts [] form.parameters) (sym (sorts_as script s stands)) ∙ bound)
    (ap (λ sorts. sort_named sorts form.sort) (sym (sorts_as script s stands)) ∙ sym sorted)
    (ap (λ (vs : Params). has_rank_of (declared_named s.entries form.name) (map (λ p. p.1) vs) sort)
    (sym first) ∙ sym kept ∙ true_)
    ∙ ap (λ names. definition_in names form.name ps sort form.body)
    (sym (names_before library script s m same stands items)) ∙ ap
    (λ (vs : Params). definition_in (names_of m) form.name vs sort form.body) (sym second)

-- a name that a library holds is a name of what it stands for
pub in_force : (library : Library) (m : Signature) (x : List ℕ) (b c : Bool) → StandsFor library m
    → b ≡ is_some (look_up (names_of_library library).ranks x) → b ≡ c → is_some (entry_named m.entries x) ≡ c
in_force library m x b c stands h i =
    is_named m.entries x ∙ ap (λ rs. is_some (look_up rs x)) (sym stands.ranks) ∙ sym h ∙ i

-- the fault of a name by two tests
pub name_flaw_by : (s : Signature) (es : List Entry) (x : List ℕ) (b c : Bool)
    → is_defined_before es x ≡ b → c ≡ (is_element_name s x || is_taken_undeclared s x)
    → name_flaw s es x ≡ cond b (Some BoundTwice) (cond c (Some NotFresh) None)
name_flaw_by s es x b c h i =
    ap (λ d. cond d (Some BoundTwice) (cond (is_element_name s x || is_taken_undeclared s x) (Some NotFresh) None))
    h
    ∙ ap (λ d. cond b (Some BoundTwice) (cond d (Some NotFresh) None)) (sym i)

-- ## Names that are no operator's

-- a name of entries of which none is an operator's
named_free : (theories : Theories) (es : List Entry) (x : List ℕ) (e : Entry)
    → All (λ d. is_plain_operator theories d.name ≡ false) es → entry_named es x ≡ Some e
    → is_plain_operator theories x ≡ false
named_free theories [] x e free at = cc
named_free theories (y ∷ es) x e free at =
    by (bytes_eq x y.name) refl at
    (named_free theories es x e (All-tail (λ d. is_plain_operator theories d.name ≡ false) y es free))
  where
    by : (b : Bool) → bytes_eq x y.name ≡ b → cond b (Some y) (entry_named es x) ≡ Some e
        → (entry_named es x ≡ Some e → is_plain_operator theories x ≡ false)
        → is_plain_operator theories x ≡ false
    by true same h rest = ap (is_plain_operator theories) (same_name x y.name same)
        ∙ All-head (λ d. is_plain_operator theories d.name ≡ false) y es free
    by false same h rest = rest h

-- one that may be an item's
item_free : (s : Signature) (x : List ℕ) → All (λ d. is_plain_operator s.theories d.name ≡ false) s.entries
    → is_taken_undeclared s x ≡ false → is_plain_operator s.theories x ≡ false
item_free s x free fit = by (entry_named s.entries x) refl fit
  where
    by : (o : Option Entry) → entry_named s.entries x ≡ o
        → (not (is_some (option_and_then (λ e. if_declared e e.origin) o))
        && is_taken (names_of s) x) ≡ false → is_plain_operator s.theories x ≡ false
    by None at h = (neither (is_element (names_of s) x || is_some (look_up (ranks_of s.entries) x))
        (is_plain_operator s.theories x) h).1
    by (Some e) at h = named_free s.theories s.entries x e free at

-- so is the name of an item that has no flaw, over the theories of the script
pub item_is_free : (library script : Library) (s m : Signature) (x : List ℕ) → ReadsModelsOf library script
    → StandsFor script s → StandsFor library m → name_flaw s m.entries x ≡ None
    → is_plain_operator m.theories x ≡ false
item_is_free library script s m x same stands items none =
    ap (λ ts. is_plain_operator ts x) (sym items.theories ∙ same.theories ∙ stands.theories)
    ∙ item_free s x stands.terms.free
    (by (is_defined_before m.entries x) (is_element_name s x) (is_taken_undeclared s x) none)
  where
    by : (b c d : Bool) → cond b (Some BoundTwice) (cond (c || d) (Some NotFresh) None) ≡ None → d ≡ false
    by true c d h = cc
    by false true d h = cc
    by false false true h = cc
    by false false false h = refl

-- and a name that is not taken is none's
pub not_operator : (library : Library) (s : Signature) (x : List ℕ) → StandsFor library s
    → is_taken (names_of_library library) x ≡ false → is_plain_operator s.theories x ≡ false
not_operator library s x stands free =
    ap (λ ts. is_plain_operator ts x) (sym stands.theories)
    ∙ (neither (is_element (names_of_library library) x || is_some (look_up (names_of_library library).ranks x))
    (is_plain_operator library.sorts.theories x) free).1
