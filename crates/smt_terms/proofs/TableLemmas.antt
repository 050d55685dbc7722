-- Tables that grow while a term is checked.
use Rattle.std.proofs.Common.{◌≡◌, ◌<◌, ◌-◌, ℕ, map, List, [], ◌∷◌, ◌++◌, length, append-nil, append_assoc, refl, ap, sym}
use Rattle.std.proofs.Common.{◌∙◌, subst, arith}
use Rattle.std.proofs.lemmas.List.{length-append, map-append}
use Rattle.smt_trees.specs.View.{sexp_of}
use Rattle.smt_nodes.specs.Node.{Row}
use Rattle.smt_nodes.specs.Nodes.{rows_of}
use Rattle.smt_theory.specs.Operators.{is_plain_operator}
use Rattle.smt_theory.specs.Words.{look_up}
use Rattle.smt_terms.specs.Denotes.{AreApart, IsLonger, Table}
use Rattle.smt_terms.specs.Internal.Calls.{SeesTheSame}
use Rattle.smt_terms.specs.Internal.DraftView.{Variables, inside, seen_by}
use Rattle.smt_terms.specs.Internal.LabelsView.{given_names}
use Rattle.smt_terms.specs.Internal.NodesView.{GrowsTo, KeepsNamed}
use Rattle.smt_terms.specs.Internal.TableView.{AreNamed, HasBody, IsReady, places_seen, rows_in, slots_seen}
use Rattle.smt_terms.specs.Internal.TableView.{names_of_definitions, table_in}
use Rattle.smt_terms.specs.declared.labels.Label.{Label}
use Rattle.smt_terms.specs.declared.labels.Labels.{Labels}
use Rattle.smt_terms.specs.declared.library.Found.{Found}
use Rattle.smt_terms.specs.declared.library.Found.TheVariants as place
use Rattle.smt_terms.specs.declared.library.Library.{Library}
use Rattle.smt_terms.specs.declared.library.draft.Draft.{Draft}
use Rattle.smt_terms.proofs.ApartLemmas.{apart_on, apart_same}
use Rattle.smt_terms.proofs.DenotesLemmas.{body_kept, denotes_kept}

-- ## Longer tables

pub longer_itself : (t : Table) → IsLonger t t
longer_itself t = record {
  theories = refl;
  elements = refl;
  heads = ([], sym (append-nil t.heads));
  apart = apart_same t.elements t.heads t.heads refl;
  names = ([], sym (append-nil t.names));
  bodies = ([], sym (append-nil t.bodies));
  rows = ([], sym (append-nil t.rows));
}

pub behind_behind : {A : Type 0} (xs ys zs more rest : List A) → ys ≡ xs ++ more → zs ≡ ys ++ rest
    → zs ≡ xs ++ (more ++ rest)
behind_behind xs ys zs more rest first second =
    second ∙ ap (λ ws. ws ++ rest) first ∙ append_assoc xs more rest

pub longer_on : (t u v : Table) → IsLonger t u → IsLonger u v → IsLonger t v
longer_on t u v first second = record {
  theories = second.theories ∙ first.theories;
  elements = second.elements ∙ first.elements;
  apart = apart_on t.elements t.heads u.heads v.heads first.apart
      (subst (λ es. AreApart es u.heads v.heads) first.elements second.apart);
  heads = (
    first.heads.0 ++ second.heads.0,
    behind_behind t.heads u.heads v.heads first.heads.0 second.heads.0 first.heads.1 second.heads.1,
  );
  names = (
    first.names.0 ++ second.names.0,
    behind_behind t.names u.names v.names first.names.0 second.names.0 first.names.1 second.names.1,
  );
  bodies = (
    first.bodies.0 ++ second.bodies.0,
    behind_behind t.bodies u.bodies v.bodies first.bodies.0 second.bodies.0 first.bodies.1 second.bodies.1,
  );
  rows = (
    first.rows.0 ++ second.rows.0,
    behind_behind t.rows u.rows v.rows first.rows.0 second.rows.0 first.rows.1 second.rows.1,
  );
}

-- a number of a row is one of the longer table too
pub below_longer : (t u : Table) (j : ℕ) → IsLonger t u → j < length t.rows → j < length u.rows
below_longer t u j longer h =
    omega (arith, h, ap length longer.rows.1, length-append t.rows longer.rows.0)

body_stays : (t u : Table) → IsLonger t u → (p : Found) → HasBody t p → HasBody u p
body_stays t u longer (place.Declared n) h = tt
body_stays t u longer (place.Defined n) h =
    (h.0, body_kept t u longer n h.0 h.1, below_longer t u h.0 longer h.2)

-- labels that stand for their terms do so in a longer table
pub named_kept : (t u : Table) → IsLonger t u → (ls : List Label) → AreNamed t ls → AreNamed u ls
named_kept t u longer [] h = tt
named_kept t u longer (l ∷ ls) h =
    (denotes_kept t u longer [] 0 0 l.node (sexp_of l.body) h.0, named_kept t u longer ls h.1)

-- ## Drafts that grow

pub grows_itself : (d : Draft) → GrowsTo d d
grows_itself d library = longer_itself (table_in library d)

pub grows_on : (a b c : Draft) → GrowsTo a b → GrowsTo b c → GrowsTo a c
grows_on a b c first second library =
    longer_on (table_in library a) (table_in library b) (table_in library c) (first library) (second library)

-- one with the same nodes and labels
pub grows_same : (old new : Draft) → new.labels ≡ old.labels → new.nodes ≡ old.nodes → GrowsTo old new
grows_same old new labels nodes library = record {
  theories = refl;
  elements = refl;
  heads = ([], sym (append-nil (table_in library old).heads));
  apart = apart_same (table_in library old).elements (table_in library old).heads (table_in library old).heads refl;
  names = (
    [],
    ap (λ (ls : Labels). names_of_definitions library.definitions.items ++ given_names ls) labels
        ∙ sym (append-nil (table_in library old).names),
  );
  bodies = (
    [],
    ap (λ (ls : Labels). library.bodies.items ++ map (λ l. l.node) ls.given.items) labels
        ∙ sym (append-nil (table_in library old).bodies),
  );
  rows = ([], ap (λ ns. rows_of library.nodes ++ rows_of ns) nodes ∙ sym (append-nil (rows_in library old)));
}

-- what is seen of more behind some, behind others
map_behind : {A B : Type 0} (before : List B) (f : A → B) (xs ys more : List A) → ys ≡ xs ++ more
    → (rest : List B) × (before ++ map f ys ≡ (before ++ map f xs) ++ rest)
map_behind {B = B} before f xs ys more is = (
  map f more,
  ap (λ (zs : List B). before ++ zs) (ap (map f) is ∙ map-append f xs more)
      ∙ sym (append_assoc before (map f xs) (map f more)),
)

-- one with the same nodes, and more labels
pub grows_given : (old new : Draft) (more : List Label) → new.nodes ≡ old.nodes
    → new.labels.given.items ≡ old.labels.given.items ++ more → GrowsTo old new
grows_given old new more nodes given library = record {
  theories = refl;
  elements = refl;
  heads = ([], sym (append-nil (table_in library old).heads));
  apart = apart_same (table_in library old).elements (table_in library old).heads (table_in library old).heads refl;
  names = map_behind (names_of_definitions library.definitions.items) (λ l. l.name.items) old.labels.given.items
      new.labels.given.items more given;
  bodies = map_behind library.bodies.items (λ l. l.node) old.labels.given.items new.labels.given.items more given;
  rows = ([], ap (λ ns. rows_of library.nodes ++ rows_of ns) nodes ∙ sym (append-nil (rows_in library old)));
}

-- one that grows after variables were bound, and one after labels were given
pub grows_bound : (old mid inner new : Draft) → GrowsTo old mid → inner.labels ≡ mid.labels → inner.nodes ≡ mid.nodes
    → GrowsTo inner new → GrowsTo old new
grows_bound old mid inner new first labels nodes second =
    grows_on old mid new first (grows_on mid inner new (grows_same mid inner labels nodes) second)

pub grows_labelled : (old mid new : Draft) (labels : Labels) → GrowsTo old mid
    → (more : List Label) × (labels.given.items ≡ mid.labels.given.items ++ more)
    → GrowsTo (record mid { labels = labels }) new → GrowsTo old new
grows_labelled old mid new labels first given second =
    let inner = record mid { labels = labels } in
    grows_on old mid new first (grows_on mid inner new (grows_given mid inner given.0 refl given.1) second)

-- one with more nodes, and the same labels
pub grows_rows : (old new : Draft) (more : List Row) → new.labels ≡ old.labels
    → rows_of new.nodes ≡ rows_of old.nodes ++ more → GrowsTo old new
grows_rows old new more labels rows library = record {
  theories = refl;
  elements = refl;
  heads = ([], sym (append-nil (table_in library old).heads));
  apart = apart_same (table_in library old).elements (table_in library old).heads (table_in library old).heads refl;
  names = (
    [],
    ap (λ (ls : Labels). names_of_definitions library.definitions.items ++ given_names ls) labels
        ∙ sym (append-nil (table_in library old).names),
  );
  bodies = (
    [],
    ap (λ (ls : Labels). library.bodies.items ++ map (λ l. l.node) ls.given.items) labels
        ∙ sym (append-nil (table_in library old).bodies),
  );
  rows = (
    more,
    ap (λ (rs : List Row). rows_of library.nodes ++ rs) rows
        ∙ sym (append_assoc (rows_of library.nodes) (rows_of old.nodes) more),
  );
}

-- so the nodes of the draft alone grow
pub rows_grow : (old new : Draft) → GrowsTo old new → (library : Library) → rows_of library.nodes ≡ []
    → (more : List Row) × (rows_of new.nodes ≡ rows_of old.nodes ++ more)
rows_grow old new longer library none =
    let rows = (longer library).rows in (
      rows.0,
      sym (ap (λ (rs : List Row). rs ++ rows_of new.nodes) none)
          ∙ rows.1
          ∙ ap (λ (rs : List Row). (rs ++ rows_of old.nodes) ++ rows.0) none,
    )

-- a table is ready where it is longer
pub ready_longer : (t u : Table) → IsLonger t u → u.heads ≡ t.heads → IsReady t → IsReady u
ready_longer t u longer same ready = record {
  free = λ x head at. ap (λ ts. is_plain_operator ts x) longer.theories
      ∙ ready.free x head (ap (λ hs. look_up hs x) (sym same) ∙ at);
  bodied = λ x head at. body_stays t u longer head.place
      (ready.bodied x head (ap (λ hs. look_up hs x) (sym same) ∙ at));
}

-- what is ready stays so
pub ready_kept : (library : Library) (old new : Draft) → GrowsTo old new → IsReady (table_in library old)
    → IsReady (table_in library new)
ready_kept library old new longer ready = record {
  free = ready.free;
  bodied = λ x head h. body_stays (table_in library old) (table_in library new) (longer library) head.place
      (ready.bodied x head h);
}

pub keeps_itself : (library : Library) (d : Draft) → KeepsNamed library d d
keeps_itself library d ready named = named

pub keeps_on : (library : Library) (a b c : Draft) → GrowsTo a b → KeepsNamed library a b
    → KeepsNamed library b c → KeepsNamed library a c
keeps_on library a b c longer first second ready named =
    second (ready_kept library a b longer ready) (first ready named)

-- with the same labels
pub keeps_labels : (library : Library) (old new : Draft) → GrowsTo old new → new.labels ≡ old.labels
    → KeepsNamed library old new
keeps_labels library old new longer same ready named =
    subst (λ (ls : Labels). AreNamed (table_in library new) ls.given.items) (sym same)
    (named_kept (table_in library old) (table_in library new) (longer library) old.labels.given.items named)

-- ## Variables that are seen

pub slots_kept : (old new : Draft) → SeesTheSame old new → slots_seen new ≡ slots_seen old
slots_kept old new same =
    ap (λ (vs : Variables). map (λ v. (v.0, v.1.place - new.base)) (inside new.base vs)) same.variables
    ∙ ap (λ (b : ℕ). map (λ v. (v.0, v.1.place - b)) (inside b (seen_by old))) same.base

pub places_kept : (old new : Draft) → SeesTheSame old new → places_seen new ≡ places_seen old
places_kept old new same =
    ap (λ (vs : Variables). length vs - new.base) same.variables
    ∙ ap (λ (b : ℕ). length (seen_by old) - b) same.base
