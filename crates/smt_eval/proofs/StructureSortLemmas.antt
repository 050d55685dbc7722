-- A script's definitions are well sorted behind those of a model.
use Rattle.std.proofs.Common.{◌≡◌, ℕ, Bool, true, false, cond, not, List, [], ◌∷◌, ◌++◌, Option, Some, None}
use Rattle.std.proofs.Common.{is_some, option_map, Ok, ◌||◌, refl, ap, sym, ◌∙◌, subst, append_assoc}
use Rattle.std.proofs.Common.{append-nil}
use Rattle.std.specs.List.{zip}
use Rattle.std.specs.Prelude.{bytes_eq}
use Rattle.std.proofs.lemmas.List.Elements.{filter-append}
use Rattle.smt_trees.specs.Sexp.{Sexp, Sexps}
use Rattle.smt_theory.specs.Operators.{is_plain_operator}
use Rattle.smt_theory.specs.Words.{look_up}
use Rattle.smt_theory.specs.Sort.{Sort}
use Rattle.smt_theory.specs.declared.theories.Theories.{Theories}
use Rattle.smt_terms.specs.Elements.{ElementNames}
use Rattle.smt_terms.specs.Checking.{sort_in}
use Rattle.smt_terms.specs.Library.{defined_among, is_declared}
use Rattle.smt_terms.specs.Signature.{AreDistinct, Entry, IsDeclared, KeepsRank, Names, Origin, Declared}
use Rattle.smt_terms.specs.Signature.{Defined, Rank, Signature, declared_named, entry_named, if_declared}
use Rattle.smt_terms.specs.Signature.{names_of, rank_of_entry, ranks_of, unlabelled_over}
use Rattle.smt_terms.specs.Freshness.{is_element, is_taken, item_elements}
use Rattle.smt_terms.specs.WellSorted.{AreIntroduced, AreWellSorted, IsDefinition, IsSortedIfDefined}
use Rattle.smt_terms.specs.WellSorted.{IsWellSortedFrom, Keeps}
use Rattle.smt_eval.proofs.NameLemmas.{same_name, same_self}
use Rattle.smt_eval.specs.CompleteModel.{IsModelOf}
use Rattle.smt_eval.specs.Structure.{IsStructure, structure_of}
use Rattle.smt_eval.proofs.CompleteModelLemmas.{AreFree, AreSound}
use Rattle.smt_eval.proofs.PlaceLemmas.{none_among}
use Rattle.smt_eval.proofs.StructureLemmas.{rank_named, structure_distinct, taken_named}

-- ---- entries by name

-- what is found among the first is found
found_first : (xs ys : List Entry) (x : List ℕ) (e : Entry) → entry_named xs x ≡ Some e
    → entry_named (xs ++ ys) x ≡ Some e
found_first [] ys x e h = absurd (cc)
found_first (c ∷ xs) ys x e h = by (bytes_eq x c.name) h (found_first xs ys x e)
  where
    by : (b : Bool) → cond b (Some c) (entry_named xs x) ≡ Some e
        → (entry_named xs x ≡ Some e → entry_named (xs ++ ys) x ≡ Some e)
        → cond b (Some c) (entry_named (xs ++ ys) x) ≡ Some e
    by true h next = h
    by false h next = next h

-- and what is not is looked for among the others
found_behind : (xs ys : List Entry) (x : List ℕ) → entry_named xs x ≡ None
    → entry_named (xs ++ ys) x ≡ entry_named ys x
found_behind [] ys x h = refl
found_behind (c ∷ xs) ys x h = by (bytes_eq x c.name) h (found_behind xs ys x)
  where
    by : (b : Bool) → cond b (Some c) (entry_named xs x) ≡ None
        → (entry_named xs x ≡ None → entry_named (xs ++ ys) x ≡ entry_named ys x)
        → cond b (Some c) (entry_named (xs ++ ys) x) ≡ entry_named ys x
    by true h next = absurd (cc)
    by false h next = next h

-- a definition is found among the definitions
abbrev IsDefinedBy : Origin → Type 0
IsDefinedBy (Declared command) = ⊥
IsDefinedBy (Defined parameters body) = Unit {0}

found_defined : (es : List Entry) (x : List ℕ) (e : Entry) → IsDefinedBy e.origin → entry_named es x ≡ Some e
    → entry_named (defined_among es) x ≡ Some e
found_defined [] x e defined h = absurd (cc)
found_defined (c ∷ es) x e defined h =
    by (bytes_eq x c.name) refl c.origin refl h (found_defined es x e defined)
  where
    kept : (o : Origin) → c.origin ≡ o → e.origin ≡ o → Some c ≡ Some e
        → entry_named (cond (not (is_declared o)) (c ∷ defined_among es) (defined_among es)) x
        ≡ cond (bytes_eq x c.name) (Some c) (entry_named (defined_among es) x)
    kept (Declared command) is other h = absurd (subst IsDefinedBy other defined)
    kept (Defined ps body) is other h = refl

    by : (b : Bool) → bytes_eq x c.name ≡ b → (o : Origin) → c.origin ≡ o
        → cond b (Some c) (entry_named es x) ≡ Some e
        → (entry_named es x ≡ Some e → entry_named (defined_among es) x ≡ Some e)
        → entry_named (cond (not (is_declared o)) (c ∷ defined_among es) (defined_among es)) x ≡ Some e
    by true here o is h next =
        let same : e ≡ c = cc in
        kept o is (ap (λ (z : Entry). z.origin) same ∙ is) h ∙ ap
        (λ b. cond b (Some c) (entry_named (defined_among es) x)) here ∙ h
    by false here (Declared command) is h next = next h
    by false here (Defined ps body) is h next =
        ap (λ b. cond b (Some c) (entry_named (defined_among es) x)) here ∙ next h

-- a name that is introduced is no operator's
introduced_free : (theories : Theories) (earlier es : List Entry) (x : List ℕ) (e : Entry)
    → AreIntroduced theories None earlier es → entry_named es x ≡ Some e → is_plain_operator theories x ≡ false
introduced_free theories earlier [] x e all h = absurd (cc)
introduced_free theories earlier (c ∷ es) x e all h =
    by (bytes_eq x c.name) refl h (introduced_free theories (earlier ++ c ∷ []) es x e all.1)
  where
    by : (b : Bool) → bytes_eq x c.name ≡ b → cond b (Some c) (entry_named es x) ≡ Some e
        → (entry_named es x ≡ Some e → is_plain_operator theories x ≡ false)
        → is_plain_operator theories x ≡ false
    by true same h next = ap (is_plain_operator theories) (same_name x c.name same) ∙ all.0.free
    by false same h next = next h

-- ---- definitions, one after another

sorted_both : (theories : Theories) (elements : Option ElementNames) (earlier xs ys : List Entry)
    → AreWellSorted theories elements earlier xs → AreWellSorted theories elements (earlier ++ xs) ys
    → AreWellSorted theories elements earlier (xs ++ ys)
sorted_both theories elements earlier [] ys h g =
    subst (λ (es : List Entry). AreWellSorted theories elements es ys) (append-nil earlier) g
sorted_both theories elements earlier (x ∷ xs) ys h g = (
  h.0,
  sorted_both theories elements (earlier ++ x ∷ []) xs ys h.1
      (subst (λ (es : List Entry). AreWellSorted theories elements es ys)
      (sym (append_assoc earlier (x ∷ []) xs)) g),
)

some_entry : {A B : Type 0} (f : A → B) (o : Option A) (b : B) → option_map f o ≡ Some b
    → (a : A) × (o ≡ Some a) × (f a ≡ b)
some_entry f None b h = absurd (cc)
some_entry f (Some a) b h = (a, refl, cc)

no_entry : {A B : Type 0} (f : A → B) (o : Option A) → option_map f o ≡ None → o ≡ None
no_entry f None h = refl
no_entry f (Some a) h = absurd (cc)

some_of : {A B : Type 0} (f : A → B) (o : Option A) → is_some (option_map f o) ≡ true → is_some o ≡ true
some_of f None h = h
some_of f (Some a) h = refl

-- the law that a sort is kept over more names
abbrev pub SortsAreKept : Type 0
SortsAreKept = (names more : Names) (scope : List (List ℕ × Sort)) (term : Sexp) (sort : Sort)
    → Keeps names more → sort_in names scope term ≡ Ok sort → sort_in more scope term ≡ Ok sort

module _ (law : SortsAreKept) (s d : Signature) (elements : Option ElementNames)
    (introduced : AreIntroduced s.theories None [] s.entries)
    (sorted : AreWellSorted s.theories elements [] d.entries)
    (complete : (x : List ℕ) (e : Entry) → entry_named s.entries x ≡ Some e → IsDeclared e.origin
    → KeepsRank e (entry_named d.entries x))
    (free : (x : List ℕ) → is_some (entry_named d.entries x) ≡ true → declared_named s.entries x ≡ None
    → is_taken (names_of s) x ≡ false) where
  -- the names that the script's terms see, and those with the elements of the model
  abbrev over : List Entry → Names
  over es = unlabelled_over s.theories None es

  abbrev over_model : List Entry → Names
  over_model es = unlabelled_over s.theories elements es

  -- a declared name has its rank in the model
  kept_rank : (es : List Entry) (x : List ℕ) (e : Entry) (o : Option Entry) → entry_named d.entries x ≡ o
      → KeepsRank e o → option_map rank_of_entry (entry_named (d.entries ++ es) x) ≡ Some (rank_of_entry e)
  kept_rank es x e None is h = absurd h
  kept_rank es x e (Some f) is h =
      ap (option_map rank_of_entry) (found_first d.entries es x f is) ∙ ap
      (λ ps. Some (record { parameters = ps; sort = f.sort })) h.0 ∙ ap
      (λ t. Some (record { parameters = e.parameters; sort = t })) h.1

  -- no item has the name of a definition
  not_an_item : (x : List ℕ) (e : Entry) → entry_named s.entries x ≡ Some e → IsDefinedBy e.origin
      → (o : Option Entry) → entry_named d.entries x ≡ o → o ≡ None
  not_an_item x e at defined None is = refl
  not_an_item x e at defined (Some f) is =
      absurd (clash (free x (ap is_some is) (undeclared e.origin refl defined)))
    where
      undeclared : (o : Origin) → e.origin ≡ o → IsDefinedBy o → declared_named s.entries x ≡ None
      undeclared (Declared command) from h = absurd h
      undeclared (Defined ps body) from h =
          ap (λ (r : Option Entry). declared_of r) at ∙ ap (if_declared e) from
        where
          declared_of : Option Entry → Option Entry
          declared_of None = None
          declared_of (Some c) = if_declared c c.origin

      clash : is_taken (names_of s) x ≡ false → ⊥
      clash h =
          let both : true ≡ false = sym (taken_named s x
          (ap is_some (rank_named s.entries x ∙ ap (option_map rank_of_entry) at))) ∙ h in
          absurd (cc)

  ranks_stay : (pre rest : List Entry) → s.entries ≡ pre ++ rest → (x : List ℕ) (rank : Rank)
      → look_up (ranks_of pre) x ≡ Some rank
      → look_up (ranks_of (d.entries ++ defined_among pre)) x ≡ Some rank
  ranks_stay pre rest all x rank h =
      let found = some_entry rank_of_entry (entry_named pre x) rank (sym (rank_named pre x) ∙ h) in
      let e = found.0 in
      let here : entry_named s.entries x ≡ Some e =
      ap (λ (es : List Entry). entry_named es x) all ∙ found_first pre rest x e found.1 in
      rank_named (d.entries ++ defined_among pre) x ∙ by e here found.1 e.origin refl ∙ ap Some found.2
    where
      by : (e : Entry) → entry_named s.entries x ≡ Some e → entry_named pre x ≡ Some e → (o : Origin)
          → e.origin ≡ o → option_map rank_of_entry (entry_named (d.entries ++ defined_among pre) x)
          ≡ Some (rank_of_entry e)
      by e here first (Declared command) is = kept_rank (defined_among pre) x e (entry_named d.entries x) refl
          (complete x e here (subst IsDeclared (sym is) tt))
      by e here first (Defined ps body) is =
          let defined : IsDefinedBy e.origin = subst IsDefinedBy (sym is) tt in
          ap (option_map rank_of_entry)
          (found_behind d.entries (defined_among pre) x
          (not_an_item x e here defined (entry_named d.entries x) refl) ∙ found_defined pre x e defined
          first)

  stays_free : (pre rest : List Entry) → s.entries ≡ pre ++ rest → (x : List ℕ)
      → look_up (ranks_of pre) x ≡ None
      → is_some (look_up (ranks_of (d.entries ++ defined_among pre)) x) ≡ true
      → is_plain_operator s.theories x ≡ false
  stays_free pre rest all x absent some =
      let none =
      none_among pre x (no_entry rank_of_entry (entry_named pre x) (sym (rank_named pre x) ∙ absent)) in
      let there : is_some (entry_named (d.entries ++ defined_among pre) x) ≡ true =
      some_of rank_of_entry (entry_named (d.entries ++ defined_among pre) x)
      (ap is_some (sym (rank_named (d.entries ++ defined_among pre) x)) ∙ some) in
      by none there (entry_named d.entries x) refl (entry_named s.entries x) refl
    where
      last_of : (a b c : Bool) → a || b || c ≡ false → c ≡ false
      last_of true b c h = absurd (cc)
      last_of false true c h = absurd (cc)
      last_of false false c h = h

      by : entry_named (defined_among pre) x ≡ None
          → is_some (entry_named (d.entries ++ defined_among pre) x) ≡ true → (o : Option Entry)
          → entry_named d.entries x ≡ o → (r : Option Entry) → entry_named s.entries x ≡ r
          → is_plain_operator s.theories x ≡ false
      by none there None is r found =
          absurd (no (sym (ap is_some (found_behind d.entries (defined_among pre) x is ∙ none)) ∙ there))
        where
          no : false ≡ true → ⊥
          no h = absurd (cc)
      by none there (Some f) is None found = last_of (is_element (names_of s) x)
          (is_some (look_up (ranks_of s.entries) x)) (is_plain_operator s.theories x)
          (free x (ap is_some is) (ap (λ (r : Option Entry). declared_of r) found))
        where
          declared_of : Option Entry → Option Entry
          declared_of None = None
          declared_of (Some c) = if_declared c c.origin
      by none there (Some f) is (Some e) found = introduced_free s.theories [] s.entries x e introduced found

  definition_kept : (pre rest : List Entry) → s.entries ≡ pre ++ rest
      → (sorts : List Sort) (sort : Sort) (ps : List (List ℕ)) (body : Sexp)
      → IsDefinition (over pre) sorts sort ps body
      → IsDefinition (over_model (d.entries ++ defined_among pre)) sorts sort ps body
  definition_kept pre rest all sorts sort ps body h =
      let keeps : Keeps (over pre) (over_model (d.entries ++ defined_among pre)) =
      record {
        theories = refl;
        elements = tt;
        ranks = ranks_stay pre rest all;
        labels = refl;
        fresh = λ x rank none some. stays_free pre rest all x none (ap is_some some);
        apart = λ x rank none some. refl;
      } in
      record {
        counted = h.counted;
        different = h.different;
        sorted =
            law (over pre) (over_model (d.entries ++ defined_among pre)) (zip ps sorts) body sort keeps h.sorted;
      }

  sorted_behind : (pre rest : List Entry) → s.entries ≡ pre ++ rest → AreIntroduced s.theories None pre rest
      → AreWellSorted s.theories elements (d.entries ++ defined_among pre) (defined_among rest)
  sorted_behind pre [] all h = tt
  sorted_behind pre (e ∷ rest) all h =
      by e.origin refl h.0.sorted
      (sorted_behind (pre ++ e ∷ []) rest (all ∙ sym (append_assoc pre (e ∷ []) rest)) h.1)
    where
      more : defined_among (pre ++ e ∷ []) ≡ defined_among pre ++ defined_among (e ∷ [])
      more = filter-append (λ (c : Entry). not (is_declared c.origin)) pre (e ∷ [])

      one : (o : Origin) → List Entry
      one o = cond (not (is_declared o)) (e ∷ []) []

      by : (o : Origin) → e.origin ≡ o → IsSortedIfDefined (over pre) e.parameters e.sort o
          → AreWellSorted s.theories elements (d.entries ++ defined_among (pre ++ e ∷ [])) (defined_among rest)
          → AreWellSorted s.theories elements (d.entries ++ defined_among pre)
          (cond (not (is_declared o)) (e ∷ defined_among rest) (defined_among rest))
      by (Declared command) is here next = subst
          (λ (es : List Entry). AreWellSorted s.theories elements (d.entries ++ es) (defined_among rest))
          (more ∙ ap (λ o. defined_among pre ++ one o) is ∙ append-nil (defined_among pre)) next
      by (Defined ps body) is here next = (
        subst (IsWellSortedFrom (over_model (d.entries ++ defined_among pre)) e.parameters e.sort) (sym is)
            (definition_kept pre (e ∷ rest) all e.parameters e.sort ps body here),
        subst (λ (es : List Entry). AreWellSorted s.theories elements es (defined_among rest))
            (ap (λ (es : List Entry). d.entries ++ es) (more ∙ ap (λ o. defined_among pre ++ one o) is) ∙ sym
            (append_assoc d.entries (defined_among pre) (e ∷ []))) next,
      )

  -- the whole structure
  pub structure_sorted : AreWellSorted s.theories elements [] (structure_of s d).entries
  structure_sorted =
      sorted_both s.theories elements [] d.entries (defined_among s.entries) sorted
      (subst (λ (es : List Entry). AreWellSorted s.theories elements es (defined_among s.entries))
      (append-nil d.entries) (sorted_behind [] s.entries refl introduced))

-- ---- the structure of a model

-- a name of an item that the script does not declare is free there
free_at : (s : Signature) (es : List Entry) → AreFree s es → (x : List ℕ) → is_some (entry_named es x) ≡ true
    → declared_named s.entries x ≡ None → is_taken (names_of s) x ≡ false
free_at s [] all x some absent = absurd (cc)
free_at s (e ∷ es) all x some absent = by (bytes_eq x e.name) refl some (free_at s es all.1 x)
  where
    by : (b : Bool) → bytes_eq x e.name ≡ b → is_some (cond b (Some e) (entry_named es x)) ≡ true
        → (is_some (entry_named es x) ≡ true → declared_named s.entries x ≡ None
        → is_taken (names_of s) x ≡ false) → is_taken (names_of s) x ≡ false
    by true is there next =
        let same = same_name x e.name is in
        ap (is_taken (names_of s)) same ∙ all.0 (ap (declared_named s.entries) (sym same) ∙ absent)
    by false is there next = next there absent

-- a name that came before is not introduced again
not_again : (theories : Theories) (earlier es : List Entry) (x : List ℕ) (e : Entry)
    → AreIntroduced theories None earlier es → entry_named earlier x ≡ Some e → entry_named es x ≡ None
not_again theories earlier [] x e all h = refl
not_again theories earlier (c ∷ es) x e all h = by (bytes_eq x c.name) refl
    (not_again theories (earlier ++ c ∷ []) es x e all.1 (found_first earlier (c ∷ []) x e h))
  where
    by : (b : Bool) → bytes_eq x c.name ≡ b → entry_named es x ≡ None
        → cond b (Some c) (entry_named es x) ≡ None
    by true is rest = let both : Some e
        ≡ None = sym h ∙ ap (entry_named earlier) (same_name x c.name is) ∙ all.0.new in absurd (cc)
    by false is rest = rest

-- so names that are introduced are distinct
introduced_distinct : (theories : Theories) (earlier es : List Entry) → AreIntroduced theories None earlier es
    → AreDistinct es
introduced_distinct theories earlier [] all = tt
introduced_distinct theories earlier (e ∷ es) all = (
  not_again theories (earlier ++ e ∷ []) es e.name e all.1
      (found_behind earlier (e ∷ []) e.name all.0.new ∙ ap (λ b. cond b (Some e) None) (same_self e.name)),
  introduced_distinct theories (earlier ++ e ∷ []) es all.1,
)

pub structure_of_model : SortsAreKept → (s d : Signature) (parts : Sexps)
    → AreIntroduced s.theories None [] s.entries → AreSound s d.entries → IsModelOf s parts d
    → IsStructure (structure_of s d)
structure_of_model law s d parts introduced sound model = record {
  well_sorted = subst (λ (t : Theories). AreWellSorted t d.elements [] (structure_of s d).entries)
      (sym model.theories)
      (subst (λ (o : Option ElementNames). AreWellSorted s.theories o [] (structure_of s d).entries)
      (sym model.elements) (structure_sorted law s d (item_elements s) introduced sound.sorted model.complete
      (free_at s d.entries sound.free)));
  distinct = structure_distinct s d (introduced_distinct s.theories [] s.entries introduced) sound;
}
