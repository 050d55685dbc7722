-- The contents of libraries, cut and grown.
use Rattle.std.proofs.Common.{◌≡◌, ◌≤◌, ℕ, zero, suc, ◌+◌, List, [], ◌∷◌, ◌++◌, length, map, take}
use Rattle.std.proofs.Common.{refl, ap, sym, ◌∙◌, arith, append_assoc, Result, Ok, Err, OnOk, OnErr, subst}
use Rattle.std.proofs.Common.{Option, option_map}
use Rattle.std.specs.Global.{Vec}
use Rattle.std.proofs.lemmas.List.{append-nil, length-append, length-take-le, map-append, take-append-le, take-map}
use Rattle.smt_trees.specs.Sexp.{Sexp}
use Rattle.smt_nodes.specs.Node.{Row}
use Rattle.smt_nodes.specs.Nodes.{rows_of}
use Rattle.smt_terms.specs.declared.library.element_names.ElementNames.{ElementNames}
use Rattle.smt_terms.specs.declared.named_sort.NamedSort.{NamedSort}
use Rattle.smt_terms.specs.Contents.{Contents, Extends, IsBelow, IsWithin, contents_of, declaration_view}
use Rattle.smt_terms.specs.Contents.{first_of, terms_in}
use Rattle.smt_terms.specs.Denotes.{AreApart, IsLonger}
use Rattle.smt_terms.specs.Internal.Growing.{KeepsNames}
use Rattle.smt_terms.specs.Internal.LibraryView.{element_names, abbreviations_of}
use Rattle.smt_terms.specs.Internal.TableView.{names_of_definitions}
use Rattle.smt_terms.specs.Library.{IsTermOf}
use Rattle.smt_terms.specs.declared.library.Declared.{Declared}
use Rattle.smt_terms.specs.declared.library.Definition.{Definition}
use Rattle.smt_terms.specs.declared.library.Library.{Library}
use Rattle.smt_terms.specs.declared.library.marks.Mark.{Mark}
use Rattle.smt_terms.specs.declared.sorts.SortNames.{SortNames}
use Rattle.smt_terms.proofs.ApartLemmas.{apart_on, apart_same}
use Rattle.smt_terms.proofs.DenotesLemmas.{denotes_kept}

-- contents whose parts are the same
pub same_contents : (c d : Contents) → c.theories ≡ d.theories → c.elements ≡ d.elements → c.abbreviations ≡ d.abbreviations
    → c.ranks ≡ d.ranks → c.heads ≡ d.heads → c.declared ≡ d.declared → c.definitions ≡ d.definitions
    → c.bodies ≡ d.bodies → c.rows ≡ d.rows → c ≡ d
same_contents c d theories elements abbreviations ranks heads declared definitions bodies rows = λ i. record {
  theories = theories i;
  elements = elements i;
  abbreviations = abbreviations i;
  ranks = ranks i;
  heads = heads i;
  declared = declared i;
  definitions = definitions i;
  bodies = bodies i;
  rows = rows i;
}

-- ---- lists

-- perhaps more of the same behind
abbrev pub Goes : {A : Type 0} → List A → List A → Type 0
Goes {A} xs ys = (more : List A) × (ys ≡ xs ++ more)

-- the first so many stay as more come behind
take_kept : {A : Type 0} (n : ℕ) (xs ys : List A) → n ≤ length xs → (more : List A) × (ys ≡ xs ++ more)
    → take n ys ≡ take n xs
take_kept n xs ys within (more, is) = ap (take n) is ∙ take-append-le n xs more within

-- and there are so many still
within_kept : {A : Type 0} (n : ℕ) (xs ys : List A) → n ≤ length xs → (more : List A) × (ys ≡ xs ++ more)
    → n ≤ length ys
within_kept {A = A} n xs ys within (more, is) =
    let len : length ys ≡ length xs + length more =
    ap (λ (zs : List A). length zs) is ∙ length-append xs more in
    omega (arith, within, len)

-- the first so many of the first more
take_earlier : {A : Type 0} (m n : ℕ) (xs : List A) → m ≤ n → take m (take n xs) ≡ take m xs
take_earlier zero n xs h = refl
take_earlier (suc m) zero xs h = absurd (omega arith)
take_earlier (suc m) (suc n) [] h = refl
take_earlier {A = A} (suc m) (suc n) (x ∷ xs) h =
    ap (λ (ys : List A). x ∷ ys) (take_earlier m n xs (omega arith))

-- what is seen of the first so many
pub mapped : {A B : Type 0} (f : A → B) (n : ℕ) (xs new : List A) → new ≡ take n xs
    → map f new ≡ take n (map f xs)
mapped f n xs new is = ap (map f) is ∙ sym (take-map f n xs)

-- there are so many among the first more
within_earlier : {A : Type 0} (m n : ℕ) (xs : List A) → m ≤ n → n ≤ length xs → m ≤ length (take n xs)
within_earlier m n xs below within =
    let len : length (take n xs) ≡ n = length-take-le n xs within in omega (arith, below, len)

-- ---- marks

pub mark_kept : (mark : Mark) (c d : Contents) → IsWithin mark c → Extends c d
    → first_of mark d ≡ first_of mark c
mark_kept mark c d within more =
    same_contents (first_of mark d) (first_of mark c) more.theories more.elements
    (take_kept mark.abbreviations c.abbreviations d.abbreviations within.abbreviations more.abbreviations)
    (take_kept mark.names c.ranks d.ranks within.ranks more.ranks)
    (take_kept mark.names c.heads d.heads within.heads more.heads)
    (take_kept mark.declared c.declared d.declared within.declared more.declared)
    (take_kept mark.definitions c.definitions d.definitions within.definitions more.definitions)
    (take_kept mark.definitions c.bodies d.bodies within.bodies more.bodies)
    (take_kept mark.nodes c.rows d.rows within.rows more.rows)

pub mark_within : (mark : Mark) (c d : Contents) → IsWithin mark c → Extends c d → IsWithin mark d
mark_within mark c d within more = record {
  abbreviations =
      within_kept mark.abbreviations c.abbreviations d.abbreviations within.abbreviations more.abbreviations;
  ranks = within_kept mark.names c.ranks d.ranks within.ranks more.ranks;
  heads = within_kept mark.names c.heads d.heads within.heads more.heads;
  declared = within_kept mark.declared c.declared d.declared within.declared more.declared;
  definitions = within_kept mark.definitions c.definitions d.definitions within.definitions more.definitions;
  bodies = within_kept mark.definitions c.bodies d.bodies within.bodies more.bodies;
  rows = within_kept mark.nodes c.rows d.rows within.rows more.rows;
}

pub earlier_kept : (mark later : Mark) (c : Contents) → IsBelow mark later
    → first_of mark (first_of later c) ≡ first_of mark c
earlier_kept mark later c below =
    same_contents (first_of mark (first_of later c)) (first_of mark c) refl refl
    (take_earlier mark.abbreviations later.abbreviations c.abbreviations below.abbreviations)
    (take_earlier mark.names later.names c.ranks below.names)
    (take_earlier mark.names later.names c.heads below.names)
    (take_earlier mark.declared later.declared c.declared below.declared)
    (take_earlier mark.definitions later.definitions c.definitions below.definitions)
    (take_earlier mark.definitions later.definitions c.bodies below.definitions)
    (take_earlier mark.nodes later.nodes c.rows below.nodes)

pub earlier_within : (mark later : Mark) (c : Contents) → IsBelow mark later → IsWithin later c
    → IsWithin mark (first_of later c)
earlier_within mark later c below within = record {
  abbreviations = within_earlier mark.abbreviations later.abbreviations c.abbreviations below.abbreviations
      within.abbreviations;
  ranks = within_earlier mark.names later.names c.ranks below.names within.ranks;
  heads = within_earlier mark.names later.names c.heads below.names within.heads;
  declared = within_earlier mark.declared later.declared c.declared below.declared within.declared;
  definitions =
      within_earlier mark.definitions later.definitions c.definitions below.definitions within.definitions;
  bodies = within_earlier mark.definitions later.definitions c.bodies below.definitions within.bodies;
  rows = within_earlier mark.nodes later.nodes c.rows below.nodes within.rows;
}

-- the names of definitions go on as these do
pub names_go_on : (ds es : List Definition) → Goes ds es → Goes (names_of_definitions ds) (names_of_definitions es)
names_go_on ds es (more, is) = (
  names_of_definitions more,
  ap names_of_definitions is ∙ map-append (λ (d : Definition). d.name.items) ds more,
)

-- the table of longer contents is longer
pub terms_longer : (c d : Contents) → Extends c d → IsLonger (terms_in c) (terms_in d)
terms_longer c d more = record {
  theories = more.theories;
  elements = more.elements;
  heads = more.heads;
  apart = more.apart;
  names = names_go_on c.definitions d.definitions more.definitions;
  bodies = more.bodies;
  rows = more.rows;
}

-- and so a term is one of longer contents
pub term_kept : (c d : Contents) (i : ℕ) (t : Sexp) → Extends c d → IsTermOf c i t → IsTermOf d i t
term_kept c d i t more is = denotes_kept (terms_in c) (terms_in d) (terms_longer c d more) [] 0 0 i t is

-- ---- growing

goes_on : {A : Type 0} (xs ys zs : List A) → Goes xs ys → Goes ys zs → Goes xs zs
goes_on {A = A} xs ys zs (more, h) (rest, i) =
    (more ++ rest, i ∙ ap (λ (ls : List A). ls ++ rest) h ∙ append_assoc xs more rest)

-- what extends an extension extends the first
pub extends_on : (c d e : Contents) → Extends c d → Extends d e → Extends c e
extends_on c d e first second = record {
  theories = second.theories ∙ first.theories;
  elements = second.elements ∙ first.elements;
  abbreviations =
      goes_on c.abbreviations d.abbreviations e.abbreviations first.abbreviations second.abbreviations;
  ranks = goes_on c.ranks d.ranks e.ranks first.ranks second.ranks;
  heads = goes_on c.heads d.heads e.heads first.heads second.heads;
  apart = apart_on c.elements c.heads d.heads e.heads first.apart
      (subst (λ es. AreApart es d.heads e.heads) first.elements second.apart);
  declared = goes_on c.declared d.declared e.declared first.declared second.declared;
  definitions = goes_on c.definitions d.definitions e.definitions first.definitions second.definitions;
  bodies = goes_on c.bodies d.bodies e.bodies first.bodies second.bodies;
  rows = goes_on c.rows d.rows e.rows first.rows second.rows;
}

-- nothing more
pub nothing_more : {A : Type 0} (xs ys : List A) → ys ≡ xs → Goes xs ys
nothing_more xs ys is = ([], is ∙ sym (append-nil xs))

-- contents extend themselves
pub extends_itself : (c : Contents) → Extends c c
extends_itself c = record {
  theories = refl;
  elements = refl;
  abbreviations = nothing_more _ _ refl;
  ranks = nothing_more _ _ refl;
  heads = nothing_more _ _ refl;
  apart = apart_same c.elements c.heads c.heads refl;
  declared = nothing_more _ _ refl;
  definitions = nothing_more _ _ refl;
  bodies = nothing_more _ _ refl;
  rows = nothing_more _ _ refl;
}

-- ---- where no name comes

pub keeps_on : (c d e : Contents) → KeepsNames c d → KeepsNames d e → KeepsNames c e
keeps_on c d e first second = record {
  theories = second.theories ∙ first.theories;
  elements = second.elements ∙ first.elements;
  abbreviations = second.abbreviations ∙ first.abbreviations;
  ranks = second.ranks ∙ first.ranks;
  heads = second.heads ∙ first.heads;
  declared = second.declared ∙ first.declared;
  definitions = second.definitions ∙ first.definitions;
  bodies = second.bodies ∙ first.bodies;
  rows = goes_on c.rows d.rows e.rows first.rows second.rows;
}

pub grown_by : (c d : Contents) → KeepsNames c d → Extends c d
grown_by c d kept = record {
  theories = kept.theories;
  elements = kept.elements;
  abbreviations = nothing_more _ _ kept.abbreviations;
  ranks = nothing_more _ _ kept.ranks;
  heads = nothing_more _ _ kept.heads;
  apart = apart_same c.elements c.heads d.heads kept.heads;
  declared = nothing_more _ _ kept.declared;
  definitions = nothing_more _ _ kept.definitions;
  bodies = nothing_more _ _ kept.bodies;
  rows = kept.rows;
}

-- where no name and no node has come, the contents are the same
pub restored : (c d : Contents) → KeepsNames c d → d.rows ≡ c.rows → d ≡ c
restored c d kept rows =
    same_contents d c kept.theories kept.elements kept.abbreviations kept.ranks kept.heads kept.declared kept.definitions kept.bodies
    rows

-- where a term was checked, or refused
pub more_rows : {A E : Type 0} (r : Result A E) (old new : List Row) → OnOk r (Goes old new)
    → OnErr r (new ≡ old) → Goes old new
more_rows (Ok a) old new h i = h
more_rows (Err e) old new h i = nothing_more old new i

-- the same elements
pub same_elements : {o p : Option ElementNames} → p ≡ o → option_map element_names p ≡ option_map element_names o
same_elements same = ap (option_map element_names) same

-- a library that differs in nodes alone
pub keeps_names : (old new : Library) → new.names ≡ old.names → new.sorts ≡ old.sorts
    → new.elements ≡ old.elements → new.declared ≡ old.declared → new.definitions ≡ old.definitions → new.bodies ≡ old.bodies
    → Goes (rows_of old.nodes) (rows_of new.nodes) → KeepsNames (contents_of old) (contents_of new)
keeps_names old new names sorts elements declared definitions bodies rows = record {
  theories = ap (λ (z : SortNames). z.theories) sorts;
  elements = same_elements elements;
  abbreviations = ap abbreviations_of sorts;
  ranks = rw names refl;
  heads = rw names refl;
  declared = ap (λ (v : Vec Declared). map declaration_view v.items) declared;
  definitions = ap (λ (v : Vec Definition). v.items) definitions;
  bodies = ap (λ (v : Vec ℕ). v.items) bodies;
  rows = rows;
}

-- there is perhaps one abbreviation more
pub more_abbreviations : {A E : Type 0} (P : NamedSort → Type 0) (r : Result A E)
    (old new : List (List ℕ × NamedSort)) (x : List ℕ) → OnOk r ((sort : NamedSort) × P sort × (new ≡ old ++ (x, sort) ∷ [])) → OnErr r (new ≡ old)
    → Goes old new
more_abbreviations P (Ok a) old new x h i = ((x, h.0) ∷ [], h.2)
more_abbreviations P (Err e) old new x h i = nothing_more old new i
