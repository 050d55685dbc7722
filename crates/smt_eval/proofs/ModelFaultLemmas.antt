-- The fault of a model is its first.
use Rattle.std.proofs.Common.{◌≡◌, ◌↔◌, ℕ, zero, suc, ◌+◌, Bool, true, false, cond, List, [], ◌∷◌, ◌++◌, take}
use Rattle.std.proofs.Common.{slice_get, Option, Some, None, is_some, Result, Ok, Err, refl, ap, sym, ◌∙◌}
use Rattle.std.proofs.Common.{subst, arith}
use Rattle.std.specs.Option.{option_or}
use Rattle.smt_trees.specs.Sexp.{Sexps, Nil, Cons}
use Rattle.smt_theory.specs.Words.{result_and_then}
use Rattle.smt_terms.specs.Items.{item_in, items_before, list_of}
use Rattle.smt_terms.specs.Signature.{Entry, Origin, Declared, Defined, IsDeclared, Signature, entry_named}
use Rattle.smt_faults.specs.declared.term_flaw.TermFlaw.{TermFlaw}
use Rattle.smt_eval.specs.Model.{AreDefined, AreItems, HasFirstFlaw, IsFirstLacking, command_of_origin}
use Rattle.smt_eval.specs.Model.{complete_or, first_lacking, items_from, items_of, lacking_at, model_in}
use Rattle.smt_eval.specs.Model.{or_item}
use Rattle.smt_eval.specs.declared.model_fault.ModelFlaw.{ModelFlaw}
use Rattle.smt_eval.specs.declared.model_fault.ModelFlaw.TheVariants.{Item, Lacks}
use Rattle.smt_eval.proofs.CompleteModelLemmas.{items_back, items_read, not_lacking}

-- ---- items

fault_read : (script : Signature) (earlier : List Entry) (number : ℕ) (trees : Sexps) (m : ℕ)
    (fault : TermFlaw) → items_from script earlier number trees ≡ Err (Item m fault)
    → (n : ℕ) × (m ≡ number + n) × HasFirstFlaw script earlier trees n fault
fault_read script earlier number Nil m fault h = cc
fault_read script earlier number (Cons x xs) m fault h = by (item_in script earlier x) refl h
    (λ o g. fault_read script (earlier ++ list_of o) (number + 1) xs m fault g)
  where
    here : (f : TermFlaw) → item_in script earlier x ≡ Err f → Item number f ≡ Item m fault
        → (n : ℕ) × (m ≡ number + n) × HasFirstFlaw script earlier (Cons x xs) n fault
    here f is same = let number_is : number ≡ m = cc in let fault_is : f ≡ fault = cc
        in (zero, omega (arith, number_is), is ∙ ap (λ (g : TermFlaw). Err g) fault_is)

    by : (r : Result (Option Entry) TermFlaw) → item_in script earlier x ≡ r
        → or_item number r (λ o. items_from script (earlier ++ list_of o) (number + 1) xs) ≡ Err (Item m fault)
        → ((o : Option Entry) → items_from script (earlier ++ list_of o) (number + 1) xs ≡ Err (Item m fault)
        → (n : ℕ) × (m ≡ (number + 1) + n) × HasFirstFlaw script (earlier ++ list_of o) xs n fault)
        → (n : ℕ) × (m ≡ number + n) × HasFirstFlaw script earlier (Cons x xs) n fault
    by (Err f) is h next = here f is (let same : Item number f ≡ Item m fault = cc in same)
    by (Ok o) is h next = let p = next o h in (suc p.0, p.1 ∙ omega arith, (o, is, p.2))

fault_back : (script : Signature) (earlier : List Entry) (number : ℕ) (trees : Sexps) (n : ℕ)
    (fault : TermFlaw) → HasFirstFlaw script earlier trees n fault
    → items_from script earlier number trees ≡ Err (Item (number + n) fault)
fault_back script earlier number Nil n fault h = absurd h
fault_back script earlier number (Cons x xs) zero fault h =
    ap (λ r. or_item number r (λ o. items_from script (earlier ++ list_of o) (number + 1) xs)) h ∙ ap
    (λ (k : ℕ). Err (Item k fault)) (omega arith)
fault_back script earlier number (Cons x xs) (suc n) fault h =
    ap (λ r. or_item number r (λ o. items_from script (earlier ++ list_of o) (number + 1) xs)) h.1
    ∙ fault_back script (earlier ++ list_of h.0) (number + 1) xs n fault h.2 ∙ ap (λ (k : ℕ). Err (Item k fault))
    (omega arith)

pub fault_is_first : (script : Signature) (parts : Sexps) (n : ℕ) (fault : TermFlaw)
    → (model_in script parts ≡ Err (Item (n + 1) fault)) ↔ HasFirstFlaw script [] (items_of parts) n fault
fault_is_first script parts n fault = (λ h. by (items_from script [] 1 (items_of parts)) refl h, back)
  where
    same_place : (m : ℕ) → n + 1 ≡ 1 + m → HasFirstFlaw script [] (items_of parts) m fault
        → HasFirstFlaw script [] (items_of parts) n fault
    same_place m is h = let place : m ≡ n = omega (arith, is)
        in subst (λ (k : ℕ). HasFirstFlaw script [] (items_of parts) k fault) place h

    lacks : (o : Option ℕ) (items : List Entry)
        → complete_or o (items_before script items) ≡ Err (Item (n + 1) fault)
        → HasFirstFlaw script [] (items_of parts) n fault
    lacks (Some command) items h = cc
    lacks None items h = cc

    by : (r : Result (List Entry) ModelFlaw) → items_from script [] 1 (items_of parts) ≡ r
        → result_and_then r (λ items. complete_or (first_lacking script.entries items)
        (items_before script items)) ≡ Err (Item (n + 1) fault)
        → HasFirstFlaw script [] (items_of parts) n fault
    by (Ok items) read h = lacks (first_lacking script.entries items) items h
    by (Err f) read h =
        let is : f ≡ Item (n + 1) fault = cc in
        let p =
        fault_read script [] 1 (items_of parts) (n + 1) fault (read ∙ ap (λ (g : ModelFlaw). Err g) is)
        in
        same_place p.0 p.1 p.2

    back : HasFirstFlaw script [] (items_of parts) n fault → model_in script parts ≡ Err (Item (n + 1) fault)
    back h =
        ap (λ r. result_and_then r
        (λ items. complete_or (first_lacking script.entries items) (items_before script items)))
        (fault_back script [] 1 (items_of parts) n fault h ∙ ap (λ (k : ℕ). Err (Item k fault)) (omega arith))

-- ---- names that are lacking

-- an entry that is not lacking, before the others
defined_first : (d : Entry) (ds items : List Entry) (place : ℕ)
    → (IsDeclared d.origin → is_some (entry_named items d.name) ≡ true) → AreDefined (take place ds) items
    → AreDefined (take (suc place) (d ∷ ds)) items
defined_first d ds items place here later zero e at is = let same : d ≡ e = cc
    in subst (λ (x : Entry). IsDeclared x.origin → is_some (entry_named items x.name) ≡ true) same here is
defined_first d ds items place here later (suc k) e at is = later k e at is

none_of : (o : Option Entry) → is_some o ≡ false → o ≡ None
none_of None h = refl
none_of (Some e) h = cc

lacking_read : (ds items : List Entry) (command : ℕ) → first_lacking ds items ≡ Some command
    → IsFirstLacking ds items command
lacking_read [] items command h = cc
lacking_read (d ∷ ds) items command h =
    by (is_some (entry_named items d.name)) refl d.origin refl h (λ g. lacking_read ds items command g)
  where
    later : (IsDeclared d.origin → is_some (entry_named items d.name) ≡ true)
        → IsFirstLacking ds items command → IsFirstLacking (d ∷ ds) items command
    later here g = record {
      place = suc g.place;
      entry = g.entry;
      at = g.at;
      origin = g.origin;
      lacking = g.lacking;
      first = defined_first d ds items g.place here g.first;
    }

    by : (b : Bool) → is_some (entry_named items d.name) ≡ b → (o : Origin) → d.origin ≡ o
        → option_or (cond b None (command_of_origin o)) (first_lacking ds items) ≡ Some command
        → (first_lacking ds items ≡ Some command → IsFirstLacking ds items command)
        → IsFirstLacking (d ∷ ds) items command
    by true is o from h next = later (λ _. is) (next h)
    by false is (Defined ps t) from h next =
        later (λ declared. absurd (subst IsDeclared from declared)) (next h)
    by false is (Declared c) from h next =
        let same : c ≡ command = cc in
        record {
          place = zero;
          entry = d;
          at = refl;
          origin = from ∙ ap Declared same;
          lacking = none_of (entry_named items d.name) is;
          first = λ k e at declared. none k e at;
        }
      where
        none : (k : ℕ) (e : Entry) → slice_get (take zero (d ∷ ds)) k ≡ Some e
            → is_some (entry_named items e.name) ≡ true
        none k e at = cc

lacking_back : (ds items : List Entry) (command place : ℕ) (e : Entry) → slice_get ds place ≡ Some e
    → e.origin ≡ Declared command → entry_named items e.name ≡ None → AreDefined (take place ds) items
    → first_lacking ds items ≡ Some command
lacking_back [] items command place e at origin none first = cc
lacking_back (d ∷ ds) items command zero e at origin none first =
    let same : e ≡ d = cc in
    let here : lacking_at items e ≡ Some command =
    ap (λ (o : Option Entry). cond (is_some o) None (command_of_origin e.origin)) none ∙ ap
    command_of_origin origin in
    ap (λ (o : Option ℕ). option_or o (first_lacking ds items)) (ap (lacking_at items) (sym same) ∙ here)
lacking_back (d ∷ ds) items command (suc place) e at origin none first =
    ap (λ (o : Option ℕ). option_or o (first_lacking ds items))
    (not_lacking (is_some (entry_named items d.name)) d.origin (first zero d refl))
    ∙ lacking_back ds items command place e at origin none (λ k x there. first (suc k) x there)

-- an item never tells that a name is lacking
no_lacking_item : (script : Signature) (earlier : List Entry) (number : ℕ) (trees : Sexps) (command : ℕ)
    → items_from script earlier number trees ≡ Err (Lacks command) → ⊥
no_lacking_item script earlier number Nil command h = cc
no_lacking_item script earlier number (Cons x xs) command h = by (item_in script earlier x) h
    (λ o g. no_lacking_item script (earlier ++ list_of o) (number + 1) xs command g)
  where
    by : (r : Result (Option Entry) TermFlaw)
        → or_item number r (λ o. items_from script (earlier ++ list_of o) (number + 1) xs) ≡ Err (Lacks command)
        → ((o : Option Entry) → items_from script (earlier ++ list_of o) (number + 1) xs ≡ Err (Lacks command) → ⊥) → ⊥
    by (Err f) h next = cc
    by (Ok o) h next = next o h

pub lacking_is_first : (script : Signature) (parts : Sexps) (command : ℕ)
    → (model_in script parts ≡ Err (Lacks command))
    ↔ ((items : List Entry) × AreItems script [] (items_of parts) items
    × IsFirstLacking script.entries items command)
lacking_is_first script parts command = (λ h. by (items_from script [] 1 (items_of parts)) refl h, back)
  where
    lacks : (found : List Entry) (o : Option ℕ) → first_lacking script.entries found ≡ o
        → items_from script [] 1 (items_of parts) ≡ Ok found
        → complete_or o (items_before script found) ≡ Err (Lacks command)
        → (items : List Entry) × AreItems script [] (items_of parts) items
        × IsFirstLacking script.entries items command
    lacks found None none read h = cc
    lacks found (Some c) some read h =
        let same : c ≡ command = cc in
        let p = items_read script [] 1 (items_of parts) found read in (
          found,
          subst (AreItems script [] (items_of parts))
              (sym p.2) p.1,
          lacking_read script.entries found command (some ∙ ap (λ (n : ℕ). Some n) same),
        )

    by : (r : Result (List Entry) ModelFlaw) → items_from script [] 1 (items_of parts) ≡ r
        → result_and_then r (λ items. complete_or (first_lacking script.entries items)
        (items_before script items)) ≡ Err (Lacks command)
        → (items : List Entry) × AreItems script [] (items_of parts) items
        × IsFirstLacking script.entries items command
    by (Err f) read h = let is : f ≡ Lacks command = cc
        in absurd (no_lacking_item script [] 1 (items_of parts) command
        (read ∙ ap (λ (g : ModelFlaw). Err g) is))
    by (Ok found) read h = lacks found (first_lacking script.entries found) refl read h

    back : (items : List Entry) × AreItems script [] (items_of parts) items
        × IsFirstLacking script.entries items command → model_in script parts ≡ Err (Lacks command)
    back h =
        ap (λ r. result_and_then r
        (λ items. complete_or (first_lacking script.entries items) (items_before script items)))
        (items_back script [] 1 (items_of parts) h.0 h.1)
        ∙ ap (λ o. complete_or o (items_before script h.0))
        (lacking_back script.entries h.0 command h.2.place h.2.entry h.2.at h.2.origin h.2.lacking
        h.2.first)
