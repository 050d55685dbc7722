-- What a library stands for, as abbreviations, terms, declarations and definitions are added.
use Rattle.std.proofs.Common.{◌≡◌, ℕ, zero, suc, ◌+◌, ◌-◌, false, cond, List, [], ◌∷◌, ◌++◌, length, map, take}
use Rattle.std.proofs.Common.{slice_get, Option, Some, None, option_map, refl, ap, sym, ◌∙◌, arith, subst, Result, Ok}
use Rattle.std.proofs.Common.{Err, OnErr}
use Rattle.std.specs.List.{All}
use Rattle.std.specs.Vec.{vec_len}
use Rattle.std.specs.Global.{Vec}
use Rattle.std.proofs.lemmas.List.{append-nil, length-append, length-map, map-append}
use Rattle.std.proofs.lemmas.List.Elements.{All-append, All-cons, All-nil, filter-append}
use Rattle.smt_trees.specs.Sexp.{Sexp}
use Rattle.smt_theory.specs.Words.{look_up}
use Rattle.smt_theory.specs.Sort.{Sort}
use Rattle.smt_theory.specs.Operators.{is_plain_operator}
use Rattle.smt_theory.specs.declared.theories.Theories.{Theories}
use Rattle.smt_terms.specs.declared.named_sort.NamedSort.{NamedSort}
use Rattle.smt_terms.specs.Elements.{ElementNames}
use Rattle.smt_terms.specs.Contents.{Contents, Declaration, terms_in}
use Rattle.smt_terms.specs.Definitions.{definition}
use Rattle.smt_terms.specs.Denotes.{AreApart, Denotes, Head, IsLonger, slots_from}
use Rattle.smt_terms.specs.Elements.{element_among}
use Rattle.smt_terms.specs.Internal.Growing.{Bodies, HoldsUnder, IsBodyUnder, KeepsNames, bodies_in, terms_under}
use Rattle.smt_terms.specs.Internal.TableView.{names_of_definitions}
use Rattle.smt_terms.specs.Library.{AreDefinitions, Holds, IsDefinitionOf, declaration_at}
use Rattle.smt_terms.specs.Library.{declarations_from, declared_among, defined_among, is_declared}
use Rattle.smt_terms.specs.Signature as signature
use Rattle.smt_terms.specs.Declarations.{declaration}
use Rattle.smt_terms.specs.Signature.{Entry, Origin, Rank, Signature, entry_named, rank_of_entry, ranks_of}
use Rattle.smt_terms.specs.Signature.{no_names, with_abbreviation, with_entry}
use Rattle.smt_terms.specs.declared.library.Definition.{Definition}
use Rattle.smt_terms.specs.TermsOf.{AreBodies, IsBody, first_heads, heads_from, heads_of, place_behind}
use Rattle.smt_terms.specs.TermsOf.{with_declared, with_defined}
use Rattle.smt_terms.specs.declared.library.Found.TheVariants as place
use Rattle.smt_terms.proofs.ApartLemmas.{apart_one, apart_same}
use Rattle.smt_terms.proofs.BodyLemmas.{IsLastBody, bodies_longer, bodies_push, heads-push}
use Rattle.smt_terms.proofs.ContentsLemmas.{Goes, nothing_more}
use Rattle.smt_terms.proofs.DenotesLemmas.{denotes_kept}
use Rattle.smt_terms.proofs.DeclarationLemmas.{declarations-push, declared-push}
use Rattle.smt_terms.proofs.EntryLemmas.{distinct-push, look_up-ranks}

-- a fact that holds holds of a refusal
pub on_err : {A E P : Type 0} (r : Result A E) → P → OnErr r P
on_err (Ok a) p = tt
on_err (Err e) p = p

-- and so does what follows from one
pub on_err_weaker : {A E P Q : Type 0} (r : Result A E) → (P → Q) → OnErr r P → OnErr r Q
on_err_weaker (Ok a) f p = tt
on_err_weaker (Err e) f p = f p

-- a vector's length is that of its list
pub counted : {A : Type 0} (v : Vec A) (n : ℕ) → n ≡ vec_len v → n ≡ length v.items
counted v n h = omega (arith, v.ok)

take_front : {A : Type 0} (xs more : List A) → take (length xs) (xs ++ more) ≡ xs
take_front [] more = refl
take_front {A = A} (x ∷ xs) more = ap (λ (ys : List A). x ∷ ys) (take_front xs more)

-- what was put behind all, and taken away again
pub undone_push : {A : Type 0} (xs pushed left : List A) (x : A) → pushed ≡ xs ++ x ∷ []
    → left ≡ take (length pushed - 1) pushed → left ≡ xs
undone_push {A = A} xs pushed left x is cut =
    let count : length pushed - 1 ≡ length xs =
    omega (arith, ap (λ (ys : List A). length ys) is ∙ length-append xs (x ∷ [])) in
    cut ∙ ap (λ (n : ℕ). take n pushed) count ∙ ap (λ (ys : List A). take (length xs) ys) is
    ∙ take_front xs (x ∷ [])

-- one more definition
definitions-push : (ds : List Definition) (es : List Entry) (d : Definition) (e : Entry)
    → AreDefinitions ds es → IsDefinitionOf d e → AreDefinitions (ds ++ d ∷ []) (es ++ e ∷ [])
definitions-push [] [] d e h is = (is, tt)
definitions-push [] (y ∷ es) d e h is = absurd h
definitions-push (x ∷ ds) [] d e h is = absurd h
definitions-push (x ∷ ds) (y ∷ es) d e h is = (h.0, definitions-push ds es d e h.1 is)

-- there is a definition for each defined entry
length-definitions : (ds : List Definition) (es : List Entry) → AreDefinitions ds es → length ds ≡ length es
length-definitions [] [] h = refl
length-definitions [] (e ∷ es) h = absurd h
length-definitions (d ∷ ds) [] h = absurd h
length-definitions (d ∷ ds) (e ∷ es) h = ap suc (length-definitions ds es h.1)

-- and it has the name of that entry
defined_names : (ds : List Definition) (es : List Entry) → AreDefinitions ds es
    → names_of_definitions ds ≡ map (λ e. e.name) es
defined_names [] [] h = refl
defined_names [] (e ∷ es) h = absurd h
defined_names (d ∷ ds) [] h = absurd h
defined_names (d ∷ ds) (e ∷ es) h =
    ap (λ (x : List ℕ). x ∷ names_of_definitions ds) h.0.name
    ∙ ap (λ (xs : List (List ℕ)). e.name ∷ xs) (defined_names ds es h.1)

-- and there is a declaration for each declared one
length-declarations : (n : ℕ) (es : List Entry) → length (declarations_from n es) ≡ length (declared_among es)
length-declarations n [] = refl
length-declarations n (e ∷ es) = by e.origin (length-declarations (n + 1) es)
  where
    by : (o : Origin) → length (declarations_from (n + 1) es) ≡ length (declared_among es)
        → length (declaration_at n e o ++ declarations_from (n + 1) es)
        ≡ length (cond (is_declared o) (e ∷ declared_among es) (declared_among es))
    by (signature.Declared command) rest = ap suc rest
    by (signature.Defined ps body) rest = rest

-- contents without names
pub nothing_stands : (c : Contents) (theories : Theories) → c.theories ≡ theories → c.elements ≡ None
    → c.abbreviations ≡ []
    → c.ranks ≡ [] → c.heads ≡ [] → c.declared ≡ [] → c.definitions ≡ [] → c.bodies ≡ []
    → Holds c (no_names theories)
nothing_stands c theories same elements abbreviations ranks heads declared definitions bodies = record {
  theories = same;
  elements = elements;
  distinct = tt;
  abbreviations = abbreviations;
  ranks = ranks;
  declared = declared;
  definitions = subst (λ ds. AreDefinitions ds []) (sym definitions) tt;
  terms = record {
    theories = same;
    elements = elements;
    heads = heads;
    free = All-nil (λ e. is_plain_operator theories e.name ≡ false);
    names = ap names_of_definitions definitions;
    bodies = bodies;
  };
}

-- with elements that terms may name
pub nothing_lent : (c : Contents) (theories : Theories) (elements : Option ElementNames) → Holds c (no_names theories)
    → Holds (record c { elements = elements }) (record (no_names theories) { elements = elements })
nothing_lent c theories elements stands = record {
  theories = stands.theories;
  elements = refl;
  distinct = stands.distinct;
  abbreviations = stands.abbreviations;
  ranks = stands.ranks;
  declared = stands.declared;
  definitions = stands.definitions;
  terms = record {
    theories = stands.terms.theories;
    elements = refl;
    heads = stands.terms.heads;
    free = stands.terms.free;
    names = stands.terms.names;
    bodies = stands.terms.bodies;
  };
}

-- ---- while bodies are still to come

-- what contents stand for, over the bodies that they have, and back
pub under : (c : Contents) (s : Signature) → Holds c s → HoldsUnder (bodies_in c) c s
under c s stands = record {
  theories = stands.theories;
  elements = stands.elements;
  distinct = stands.distinct;
  abbreviations = stands.abbreviations;
  ranks = stands.ranks;
  declared = stands.declared;
  definitions = stands.definitions;
  heads = stands.terms.heads;
  free = stands.terms.free;
  seen = stands.terms.bodies;
}

pub whole : (bodies : Bodies) (c : Contents) (s : Signature) → c.bodies ≡ bodies.nodes
    → names_of_definitions c.definitions ≡ bodies.names → HoldsUnder bodies c s → Holds c s
whole bodies c s same named stands = record {
  theories = stands.theories;
  elements = stands.elements;
  distinct = stands.distinct;
  abbreviations = stands.abbreviations;
  ranks = stands.ranks;
  declared = stands.declared;
  definitions = stands.definitions;
  terms = record {
    theories = stands.theories;
    elements = stands.elements;
    heads = stands.heads;
    free = stands.free;
    names = defined_names c.definitions (defined_among s.entries) stands.definitions;
    bodies =
        subst (λ (bs : List ℕ). AreBodies (terms_under (record (bodies_in c) { nodes = bs }) c) 0 c.bodies s.entries)
        (sym same)
        (subst (λ (ns : List (List ℕ)). AreBodies (terms_under (record bodies { names = ns }) c) 0 c.bodies s.entries)
        (sym named) stands.seen);
  };
}

-- with more bodies to come
abbrev pub and_more : Bodies → (names : List (List ℕ)) → (nodes : List ℕ) → Bodies
and_more bodies names nodes = record { names = bodies.names ++ names; nodes = bodies.nodes ++ nodes }

pub under_more : (bodies : Bodies) (names : List (List ℕ)) (nodes : List ℕ) (c : Contents) (s : Signature)
    → HoldsUnder bodies c s → HoldsUnder (and_more bodies names nodes) c s
under_more bodies names nodes c s stands = record {
  theories = stands.theories;
  elements = stands.elements;
  distinct = stands.distinct;
  abbreviations = stands.abbreviations;
  ranks = stands.ranks;
  declared = stands.declared;
  definitions = stands.definitions;
  heads = stands.heads;
  free = stands.free;
  seen = bodies_longer (terms_under bodies c) (terms_under (and_more bodies names nodes) c) 0 c.bodies s.entries
      (record {
        theories = refl;
        elements = refl;
        heads = nothing_more _ _ refl;
        apart = apart_same c.elements c.heads c.heads refl;
        names = (names, refl);
        bodies = (nodes, refl);
        rows = nothing_more _ _ refl;
      }) stands.seen;
}

-- the table over the same bodies, as names and nodes come
pub under_longer : (bodies : Bodies) (old new : Contents) → new.theories ≡ old.theories
    → new.elements ≡ old.elements → Goes old.heads new.heads → AreApart old.elements old.heads new.heads → Goes old.rows new.rows
    → IsLonger (terms_under bodies old) (terms_under bodies new)
under_longer bodies old new theories elements heads apart rows = record {
  theories = theories;
  elements = elements;
  heads = heads;
  apart = apart;
  names = nothing_more _ _ refl;
  bodies = nothing_more _ _ refl;
  rows = rows;
}

-- nothing but nodes has come
pub stands_kept : (bodies : Bodies) (old new : Contents) (s : Signature) → KeepsNames old new
    → HoldsUnder bodies old s → HoldsUnder bodies new s
stands_kept bodies old new s kept stands = record {
  theories = kept.theories ∙ stands.theories;
  elements = kept.elements ∙ stands.elements;
  distinct = stands.distinct;
  abbreviations = kept.abbreviations ∙ stands.abbreviations;
  ranks = kept.ranks ∙ stands.ranks;
  declared = kept.declared ∙ stands.declared;
  definitions = subst (λ ds. AreDefinitions ds (defined_among s.entries)) (sym kept.definitions)
      stands.definitions;
  heads = kept.heads ∙ stands.heads;
  free = stands.free;
  seen = bodies_longer (terms_under bodies old) (terms_under bodies new) 0 new.bodies s.entries
      (under_longer bodies old new kept.theories kept.elements (nothing_more _ _ kept.heads)
      (apart_same old.elements old.heads new.heads kept.heads) kept.rows)
      (subst (λ bs. AreBodies (terms_under bodies old) 0 bs s.entries) (sym kept.bodies) stands.seen);
}

pub stands_still : (old new : Contents) (s : Signature) → KeepsNames old new → Holds old s → Holds new s
stands_still old new s kept stands =
    whole (bodies_in old) new s kept.bodies (ap names_of_definitions kept.definitions)
    (stands_kept (bodies_in old) old new s kept (under old s stands))

-- an abbreviation has come
pub stands_abbreviated : (old new : Contents) (s : Signature) (x : List ℕ) (sort : NamedSort)
    → new.theories ≡ old.theories → new.elements ≡ old.elements
    → new.abbreviations ≡ old.abbreviations ++ (x, sort) ∷ []
    → new.ranks ≡ old.ranks → new.heads ≡ old.heads
    → new.declared ≡ old.declared → new.definitions ≡ old.definitions → new.bodies ≡ old.bodies
    → new.rows ≡ old.rows → Holds old s → Holds new (with_abbreviation s x sort)
stands_abbreviated old new s x sort theories elements abbreviations ranks heads declared definitions bodies rows
    stands = record {
      theories = theories ∙ stands.theories;
      elements = elements ∙ stands.elements;
      distinct = stands.distinct;
      abbreviations =
          abbreviations ∙ ap (λ (ss : List (List ℕ × NamedSort)). ss ++ (x, sort) ∷ []) stands.abbreviations;
      ranks = ranks ∙ stands.ranks;
      declared = declared ∙ stands.declared;
      definitions = subst (λ ds. AreDefinitions ds (defined_among s.entries)) (sym definitions)
          stands.definitions;
      terms = record {
        theories = theories ∙ stands.theories;
        elements = elements ∙ stands.elements;
        heads = heads ∙ stands.terms.heads;
        free = stands.terms.free;
        names = ap names_of_definitions definitions ∙ stands.terms.names;
        bodies = bodies_longer (terms_in old) (terms_in new) 0 new.bodies s.entries (record {
          theories = theories;
          elements = elements;
          heads = nothing_more _ _ heads;
          apart = apart_same old.elements old.heads new.heads heads;
          names = nothing_more _ _ (ap names_of_definitions definitions);
          bodies = nothing_more _ _ bodies;
          rows = nothing_more _ _ rows;
        }) (subst (λ bs. AreBodies (terms_in old) 0 bs s.entries) (sym bodies) stands.terms.bodies);
      };
    }

-- the ranks with one more
ranks-push : (es : List Entry) (e : Entry) (ranks : List (List ℕ × Rank)) → ranks ≡ ranks_of es
    → ranks ++ (e.name, rank_of_entry e) ∷ [] ≡ ranks_of (es ++ e ∷ [])
ranks-push es e ranks is = ap (λ (rs : List (List ℕ × Rank)). rs ++ (e.name, rank_of_entry e) ∷ []) is ∙ sym
    (map-append (λ d. (d.name, rank_of_entry d)) es (e ∷ []))

-- a name that has no rank has no entry
absent_entry : (es : List Entry) (x : List ℕ) (ranks : List (List ℕ × Rank)) → ranks ≡ ranks_of es
    → look_up ranks x ≡ None → entry_named es x ≡ None
absent_entry es x ranks is none =
    by (entry_named es x) (sym (look_up-ranks es x) ∙ ap (λ rs. look_up rs x) (sym is) ∙ none)
  where
    by : (o : Option Entry) → option_map rank_of_entry o ≡ None → o ≡ None
    by None h = refl
    by (Some e) h = cc

-- the names with one more stand where the entries do
heads-next : (es : List Entry) (e : Entry) (heads : List (List ℕ × Head)) (m n : ℕ)
    → heads ≡ heads_of es → m ≡ length (declared_among es) → n ≡ length (defined_among es)
    → heads ++ (e.name, record { place = place_behind m n e.origin; arity = length e.parameters }) ∷ []
    ≡ heads_of (es ++ e ∷ [])
heads-next es e heads m n is declared defined =
    ap (λ (hs : List (List ℕ × Head)).
    hs ++ (e.name, record { place = place_behind m n e.origin; arity = length e.parameters }) ∷ []) is
    ∙ ap (λ (k : ℕ). heads_of es
    ++ (e.name, record { place = place_behind k n e.origin; arity = length e.parameters }) ∷ [])
    (omega (arith, declared))
    ∙ ap (λ (k : ℕ). heads_of es ++ (
      e.name,
      record {
        place = place_behind (0 + length (declared_among es)) k e.origin;
        arity = length e.parameters;
      },
    ) ∷ []) (omega (arith, defined))
    ∙ sym (heads-push 0 0 es e)

-- and so the bodies with what one more entry has
seen-next : (bodies : Bodies) (more : List ℕ) (old new : Contents) (es : List Entry) (e : Entry)
    → new.theories ≡ old.theories → new.elements ≡ old.elements → Goes old.heads new.heads
    → AreApart old.elements old.heads new.heads → Goes old.rows new.rows → new.bodies ≡ old.bodies ++ more → AreBodies (terms_under bodies old) 0 old.bodies es
    → IsLastBody (terms_under bodies new) (length es) e more
    → AreBodies (terms_under bodies new) 0 new.bodies (es ++ e ∷ [])
seen-next bodies more old new es e theories elements heads apart rows is seen last =
    subst (λ bs. AreBodies (terms_under bodies new) 0 bs (es ++ e ∷ [])) (sym is)
    (bodies_push (terms_under bodies new) 0 old.bodies es e more
    (bodies_longer (terms_under bodies old) (terms_under bodies new) 0 old.bodies es
    (under_longer bodies old new theories elements heads apart rows) seen)
    (let same : length es ≡ 0 + length es = omega arith in
    subst (λ (n : ℕ). IsLastBody (terms_under bodies new) n e more) same last))

-- no name is an operator's, with one more that is none's
free-push : (theories : Theories) (es : List Entry) (e : Entry)
    → All (λ d. is_plain_operator theories d.name ≡ false) es → is_plain_operator theories e.name ≡ false
    → All (λ d. is_plain_operator theories d.name ≡ false) (es ++ e ∷ [])
free-push theories es e all free =
    All-append (λ d. is_plain_operator theories d.name ≡ false) es (e ∷ []) all
    (All-cons (λ d. is_plain_operator theories d.name ≡ false) e [] free
    (All-nil (λ d. is_plain_operator theories d.name ≡ false)))

-- a declared name has come
pub stands_declared : (old new : Contents) (s : Signature) (x : List ℕ) (d : Declaration)
    → look_up old.ranks x ≡ None → is_plain_operator old.theories x ≡ false
    → element_among old.elements x ≡ None → d.name ≡ length old.ranks → new.theories ≡ old.theories
    → new.elements ≡ old.elements
    → new.abbreviations ≡ old.abbreviations
    → new.ranks ≡ old.ranks ++ (x, record { parameters = d.parameters; sort = d.sort }) ∷ []
    → new.heads ≡ old.heads ++ (
      x,
      record {
        place = place.Declared (length old.declared);
        arity = length d.parameters;
      },
    ) ∷ []
    → new.declared ≡ old.declared ++ d ∷ []
    → new.definitions ≡ old.definitions → new.bodies ≡ old.bodies → Goes old.rows new.rows
    → Holds old s
    → Holds new (with_entry s
    (declaration x d.command (record { parameters = d.parameters; sort = d.sort })))
stands_declared old new s x d absent free apart next theories elements abbreviations ranks heads declared definitions
    bodies rows stands =
    let e : Entry = declaration x d.command (record { parameters = d.parameters; sort = d.sort }) in
    let counted : length old.declared ≡ length (declared_among s.entries) =
    ap (λ (ds : List Declaration). length ds) stands.declared ∙ length-declarations 0 s.entries in
    let named : length old.ranks ≡ length s.entries =
    ap (λ (rs : List (List ℕ × Rank)). length rs) stands.ranks ∙ length-map s.entries
    (λ d. (d.name, rank_of_entry d)) in
    let same : defined_among (s.entries ++ e ∷ []) ≡ defined_among s.entries =
    filter-append _ s.entries (e ∷ []) ∙ append-nil (defined_among s.entries) in
    whole (bodies_in old) new (with_entry s e) bodies (ap names_of_definitions definitions) (record {
      theories = theories ∙ stands.theories;
      elements = elements ∙ stands.elements;
      distinct =
          distinct-push s.entries e stands.distinct (absent_entry s.entries x old.ranks stands.ranks absent);
      abbreviations = abbreviations ∙ stands.abbreviations;
      ranks = ranks ∙ ranks-push s.entries e old.ranks stands.ranks;
      declared =
          declared-push old.declared new.declared d s.entries e declared stands.declared
          (ap (λ (n : ℕ). record {
            name = n;
            parameters = d.parameters;
            sort = d.sort;
            command = d.command;
          } ∷ []) (sym named ∙ sym next));
      definitions =
          subst (λ es. AreDefinitions new.definitions es) (sym same)
          (subst (λ ds. AreDefinitions ds (defined_among s.entries)) (sym definitions) stands.definitions);
      heads = heads ∙ heads-next s.entries e old.heads (length old.declared) _ stands.terms.heads counted refl;
      free = free-push s.theories s.entries e stands.terms.free
          (ap (λ ts. is_plain_operator ts x) (sym stands.theories) ∙ free);
      seen = seen-next (bodies_in old) [] old new s.entries e theories elements (_, heads)
          (apart_one old.elements old.heads new.heads x _ heads apart) rows
          (bodies ∙ sym (append-nil old.bodies)) stands.terms.bodies refl;
    })

-- the parameters of a definition, as names with their sorts
abbrev pub parameters_of : Definition → List (List ℕ × Sort)
parameters_of d = map (λ p. (p.0.items, p.1)) d.params.items

sorts_of_own : (ps : List (Vec ℕ × Sort))
    → map (λ (p : Vec ℕ × Sort). p.1) ps
    ≡ map (λ (p : List ℕ × Sort). p.1) (map (λ (p : Vec ℕ × Sort). (p.0.items, p.1)) ps)
sorts_of_own [] = refl
sorts_of_own (p ∷ ps) = ap (λ (ss : List Sort). p.1 ∷ ss) (sorts_of_own ps)

names_of_own : (ps : List (Vec ℕ × Sort))
    → map (λ (p : List ℕ × Sort). p.0) (map (λ (p : Vec ℕ × Sort). (p.0.items, p.1)) ps)
    ≡ map (λ (p : Vec ℕ × Sort). p.0.items) ps
names_of_own [] = refl
names_of_own (p ∷ ps) = ap (λ (xs : List (List ℕ)). p.0.items ∷ xs) (names_of_own ps)

length-heads : (m n : ℕ) (es : List Entry) → length (heads_from m n es) ≡ length es
length-heads m n [] = refl
length-heads m n (e ∷ es) = ap suc (length-heads (with_declared m e.origin) (with_defined n e.origin) es)

-- a body that sees all names is one for the next entry
body-next : (bodies : Bodies) (old new : Contents) (es : List Entry) (ps : List (List ℕ × Sort)) (t : Sexp)
    (j : ℕ) → new.theories ≡ old.theories → new.elements ≡ old.elements → Goes old.heads new.heads → Goes old.rows new.rows
    → old.heads ≡ heads_of es → IsBodyUnder bodies old ps j t
    → IsBody (terms_under bodies new) (length es) (length (map (λ p. p.1) ps)) (map (λ p. p.0) ps) t j
body-next bodies old new es ps t j theories elements heads rows are node =
    let count : length es ≡ length old.heads =
    sym (length-heads 0 0 es) ∙ ap (λ (hs : List (List ℕ × Head)). length hs) (sym are) in
    let names : length (map (λ (p : List ℕ × Sort). p.0) ps) ≡ length ps = length-map ps (λ p. p.0) in
    let front : take (length es) new.heads ≡ old.heads = ap (λ (n : ℕ). take n new.heads) count
    ∙ ap (λ (hs : List (List ℕ × Head)). take (length old.heads) hs) heads.1 ∙ take_front old.heads heads.0 in
    let first : IsLonger (terms_under bodies old) (first_heads (length es) (terms_under bodies new)) = record {
      theories = theories;
      elements = elements;
      heads = nothing_more _ _ front;
      apart = apart_same old.elements old.heads (take (length es) new.heads) front;
      names = nothing_more _ _ refl;
      bodies = nothing_more _ _ refl;
      rows = rows;
    } in
    record {
      counted = names ∙ sym (length-map ps (λ p. p.1));
      denotes = denotes_kept (terms_under bodies old) (first_heads (length es) (terms_under bodies new)) first
          (slots_from 0 (map (λ p. p.0) ps)) (length (map (λ p. p.0) ps)) 0 j t
          (subst (λ (n : ℕ). Denotes (terms_under bodies old) (slots_from 0 (map (λ p. p.0) ps)) n 0 j t)
          (sym names) node);
    }

-- a definition has come
pub stands_defined : (bodies : Bodies) (old new : Contents) (s : Signature) (x : List ℕ)
    (ps : List (List ℕ × Sort)) (d : Definition) (t : Sexp) (j : ℕ) → look_up old.ranks x ≡ None
    → is_plain_operator s.theories x ≡ false → element_among old.elements x ≡ None → d.name.items ≡ x
    → parameters_of d ≡ ps → IsBodyUnder bodies old ps j t
    → new.theories ≡ old.theories → new.elements ≡ old.elements → new.abbreviations ≡ old.abbreviations
    → new.ranks ≡ old.ranks ++ (x, record { parameters = map (λ p. p.1) ps; sort = d.result }) ∷ []
    → new.heads ≡ old.heads ++ (
      x,
      record {
        place = place.Defined (length old.definitions);
        arity = length (map (λ p. p.1) ps);
      },
    ) ∷ []
    → new.declared ≡ old.declared → new.definitions ≡ old.definitions ++ d ∷ []
    → new.bodies ≡ old.bodies ++ j ∷ [] → Goes old.rows new.rows
    → HoldsUnder bodies old s
    → HoldsUnder bodies new (with_entry s (definition x ps d.result t))
stands_defined bodies old new s x ps d t j absent free apart named bound node theories elements abbreviations ranks
    heads declared definitions joined rows stands =
    let e : Entry = definition x ps d.result t in
    let counted : length old.definitions ≡ length (defined_among s.entries) =
    length-definitions old.definitions (defined_among s.entries) stands.definitions in
    let more : defined_among (s.entries ++ e ∷ []) ≡ defined_among s.entries ++ e ∷ [] =
    filter-append _ s.entries (e ∷ []) in
    let is : IsDefinitionOf d e = record {
      name = named;
      parameters = sorts_of_own d.params.items ∙ ap (λ (qs : List (List ℕ × Sort)). map (λ p. p.1) qs) bound;
      sort = refl;
      origin = (
        t,
        ap
            (λ (qs : List (List ℕ × Sort)). signature.Defined (map (λ p. p.0) qs) t) (sym bound) ∙ ap
            (λ (xs : List (List ℕ)). signature.Defined xs t) (names_of_own d.params.items),
      );
    } in
    record {
      theories = theories ∙ stands.theories;
      elements = elements ∙ stands.elements;
      distinct =
          distinct-push s.entries e stands.distinct (absent_entry s.entries x old.ranks stands.ranks absent);
      abbreviations = abbreviations ∙ stands.abbreviations;
      ranks = ranks ∙ ranks-push s.entries e old.ranks stands.ranks;
      declared = declared ∙ stands.declared ∙ sym
          (declarations-push 0 s.entries e ∙ append-nil (declarations_from 0 s.entries));
      definitions =
          subst (λ es. AreDefinitions new.definitions es) (sym more)
          (subst (λ ds. AreDefinitions ds (defined_among s.entries ++ e ∷ [])) (sym definitions)
          (definitions-push old.definitions (defined_among s.entries) d e stands.definitions is));
      heads = heads ∙ heads-next s.entries e old.heads _ (length old.definitions) stands.heads refl counted;
      free = free-push s.theories s.entries e stands.free free;
      seen = seen-next bodies (j ∷ []) old new s.entries e theories elements (_, heads)
          (apart_one old.elements old.heads new.heads x _ heads apart) rows joined stands.seen
          (body-next bodies old new s.entries ps t j theories elements (_, heads) rows stands.heads node, refl);
    }

-- what stands at this place is the declaration of the entry
abbrev pub IsDeclarationAt : List Declaration → ℕ → Entry → Type 0
IsDeclarationAt ds n e =
    (d : Declaration) × (slice_get ds n ≡ Some d) × (d.parameters ≡ e.parameters) × (d.sort ≡ e.sort)
    × (e.origin ≡ signature.Declared d.command)

-- and at that of a declared one its declaration
pub declaration_found : (k : ℕ) (es : List Entry) (n : ℕ) (e : Entry)
    → slice_get (declared_among es) n ≡ Some e → IsDeclarationAt (declarations_from k es) n e
declaration_found k [] n e at = cc
declaration_found k (y ∷ es) n e at =
    by y.origin refl n at (λ m later. declaration_found (k + 1) es m e later)
  where
    by : (o : Origin) → y.origin ≡ o → (m : ℕ)
        → slice_get (cond (is_declared o) (y ∷ declared_among es) (declared_among es)) m ≡ Some e
        → ((i : ℕ) → slice_get (declared_among es) i ≡ Some e
        → IsDeclarationAt (declarations_from (k + 1) es) i e)
        → IsDeclarationAt (declaration_at k y o ++ declarations_from (k + 1) es) m e
    by (signature.Declared command) is zero here next =
        let same : y ≡ e = cc in (
          record { name = k; parameters = y.parameters; sort = y.sort; command = command },
          refl,
          ap
              (λ (z : Entry). z.parameters) same,
          ap (λ (z : Entry). z.sort) same,
          ap (λ (z : Entry). z.origin)
              (sym same) ∙ is,
        )
    by (signature.Declared command) is (suc m) here next = next m here
    by (signature.Defined ps body) is m here next = next m here
