-- No name stands twice in the structure that a model gives to a script.
use Rattle.std.proofs.Common.{◌≡◌, ℕ, Bool, true, false, cond, not, ◌||◌, List, [], ◌∷◌, ◌++◌, Option, Some}
use Rattle.std.proofs.Common.{None, Ok, is_some, refl, ap, sym, ◌∙◌, subst}
use Rattle.std.specs.Prelude.{bytes_eq, option_and_then, option_map}
use Rattle.smt_trees.specs.Sexp.{Sexps}
use Rattle.smt_theory.specs.Operators.{is_plain_operator}
use Rattle.smt_theory.specs.Words.{look_up}
use Rattle.smt_theory.specs.declared.theories.Theories.{Theories}
use Rattle.smt_terms.specs.Elements.{ElementNames}
use Rattle.smt_terms.specs.Library.{defined_among, is_declared}
use Rattle.smt_terms.specs.Signature.{AreDistinct, Entry, Origin, Declared, Defined, IsDeclared, Signature}
use Rattle.smt_terms.specs.Signature.{declared_named, entry_named, if_declared, names_of, rank_of_entry}
use Rattle.smt_terms.specs.Signature.{ranks_of, unlabelled_over}
use Rattle.smt_terms.specs.Freshness.{is_element, is_taken, item_elements}
use Rattle.smt_terms.specs.WellSorted.{AreWellSorted, IsWellSortedFrom}
use Rattle.smt_eval.specs.Internal.DefinitionValues.{AllDefined, IsDefined}
use Rattle.smt_eval.specs.Structure.{structure_of}
use Rattle.smt_eval.specs.Model.{items_from}
use Rattle.smt_eval.proofs.CompleteModelLemmas.{AreFree, AreSound, AreSound-from, IsFree, TakenAreItems}
use Rattle.smt_eval.proofs.PlaceLemmas.{declared_alone, none_among, none_in_both}

-- definitions that are well sorted are definitions
pub sorted_defined : (theories : Theories) (elements : Option ElementNames) (before es : List Entry)
    → AreWellSorted theories elements before es → AllDefined es
sorted_defined theories elements before [] h = tt
sorted_defined theories elements before (e ∷ es) h =
    (by e.origin refl, sorted_defined theories elements (before ++ e ∷ []) es h.1)
  where
    by : (o : Origin) → e.origin ≡ o → IsDefined e.origin
    by (Defined ps body) is = subst IsDefined (sym is) tt
    by (Declared command) is = absurd
        (subst (λ (o : Origin). IsWellSortedFrom (unlabelled_over theories elements before) e.parameters e.sort o)
        is h.0)

-- items are definitions
pub items_defined : TakenAreItems → (script : Signature) (items : Sexps) (found : List Entry)
    → items_from script [] 1 items ≡ Ok found → AllDefined found
items_defined law script items found read = sorted_defined script.theories (item_elements script) [] found
    (AreSound-from law script [] 1 items found
    (record { sorted = tt; distinct = tt; ranked = tt; free = tt }) read).sorted

-- the definitions among distinct names
distinct_among : (es : List Entry) → AreDistinct es → AreDistinct (defined_among es)
distinct_among [] d = tt
distinct_among (e ∷ es) d = by (not (is_declared e.origin)) (distinct_among es d.1)
  where
    by : (b : Bool) → AreDistinct (defined_among es)
        → AreDistinct (cond b (e ∷ defined_among es) (defined_among es))
    by true rest = (none_among es e.name d.0, rest)
    by false rest = rest

-- no entry has a name of these
abbrev AreApart : List Entry → List Entry → Type 0
AreApart fs [] = Unit {0}
AreApart fs (e ∷ es) = (entry_named fs e.name ≡ None) × AreApart fs es

distinct_both : (es fs : List Entry) → AreDistinct es → AreDistinct fs → AreApart fs es
    → AreDistinct (es ++ fs)
distinct_both [] fs d f apart = f
distinct_both (e ∷ es) fs d f apart =
    (none_in_both es fs e.name d.0 apart.0, distinct_both es fs d.1 f apart.1)

-- the rank of a name is that of its entry
pub rank_named : (es : List Entry) (x : List ℕ)
    → look_up (ranks_of es) x ≡ option_map rank_of_entry (entry_named es x)
rank_named [] x = refl
rank_named (e ∷ es) x = by (bytes_eq x e.name) (rank_named es x)
  where
    by : (b : Bool) → look_up (ranks_of es) x ≡ option_map rank_of_entry (entry_named es x)
        → cond b (Some (rank_of_entry e)) (look_up (ranks_of es) x)
        ≡ option_map rank_of_entry (cond b (Some e) (entry_named es x))
    by true rest = refl
    by false rest = rest

-- a name that has a rank is taken
pub taken_named : (s : Signature) (x : List ℕ) → is_some (look_up (ranks_of s.entries) x) ≡ true
    → is_taken (names_of s) x ≡ true
taken_named s x some =
    by (is_element (names_of s) x) (is_some (look_up (ranks_of s.entries) x)) (is_plain_operator s.theories x)
    some
  where
    by : (a b c : Bool) → b ≡ true → a || b || c ≡ true
    by true b c h = refl
    by false true c h = refl
    by false false c h = cc

-- a name that is free, unless it was declared, is no definition's
apart_of_free : (script : Signature) (e : Entry) → AreDistinct script.entries → IsFree script e
    → entry_named (defined_among script.entries) e.name ≡ None
apart_of_free script e distinct free = by (entry_named script.entries e.name) refl
  where
    taken : (c : Entry) → entry_named script.entries e.name ≡ Some c
        → is_taken (names_of script) e.name ≡ true
    taken c at = taken_named script e.name
        (ap is_some (rank_named script.entries e.name ∙ ap (option_map rank_of_entry) at))

    found : (c : Entry) → entry_named script.entries e.name ≡ Some c → (o : Origin) → c.origin ≡ o
        → entry_named (defined_among script.entries) e.name ≡ None
    found c at (Declared command) from =
        declared_alone script.entries e.name c distinct at (subst IsDeclared (sym from) tt)
    found c at (Defined ps body) from =
        let none : declared_named script.entries e.name ≡ None =
        ap (option_and_then (λ d. if_declared d d.origin)) at ∙ ap (λ o. if_declared c o) from in
        let both : true ≡ false = sym (taken c at) ∙ free none in
        cc

    by : (o : Option Entry) → entry_named script.entries e.name ≡ o
        → entry_named (defined_among script.entries) e.name ≡ None
    by None at = none_among script.entries e.name at
    by (Some c) at = found c at c.origin refl

apart_all : (script : Signature) (es : List Entry) → AreDistinct script.entries → AreFree script es
    → AreApart (defined_among script.entries) es
apart_all script [] distinct free = tt
apart_all script (e ∷ es) distinct free =
    (apart_of_free script e distinct free.0, apart_all script es distinct free.1)

pub structure_distinct : (script definitions : Signature) → AreDistinct script.entries
    → AreSound script definitions.entries → AreDistinct (structure_of script definitions).entries
structure_distinct script definitions distinct sound =
    distinct_both definitions.entries (defined_among script.entries) sound.distinct
    (distinct_among script.entries distinct) (apart_all script definitions.entries distinct sound.free)
