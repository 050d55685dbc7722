-- The bodies that a model gives to declared names, one name at a time.
use Rattle.std.proofs.Common.{◌≡◌, inl, inr, ℕ, zero, suc, ◌+◌, Bool, true, false, cond, List, [], ◌∷◌, ◌++◌, length}
use Rattle.std.proofs.Common.{slice_get, Option, Some, None, refl, ap, sym, ◌∙◌, subst}
use Rattle.std.specs.Option.{MatchOption}
use Rattle.std.specs.Str.{bytes_eq}
use Rattle.smt_terms.specs.Signature.{AreDistinct, Entry, Origin, Declared, Defined, KeepsRank}
use Rattle.smt_terms.specs.Signature.{Signature}
use Rattle.smt_terms.specs.Signature.{declared_among, defined_among, entry_named, is_declared}
use Rattle.smt_trees.specs.Sexp.{Sexps}
use Rattle.smt_terms.specs.Denotes.{Table}
use Rattle.smt_terms.specs.TermsOf.{AreBodies, IsNextBody}
use Rattle.smt_eval.specs.Internal.DefinitionValues.{AllDefined, IsDefined}
use Rattle.smt_eval.specs.Internal.GivenBodies.{TellsLacking}
use Rattle.smt_eval.specs.Model.{complete_or, model_in}
use Rattle.smt_eval.specs.ModelFaults.{TellsModel}
use Rattle.smt_eval.specs.declared.model_fault.ModelFault.{ModelFault}
use Rattle.smt_eval.specs.CompleteModel.{IsModelOf}
use Rattle.smt_eval.specs.Internal.GivenBodies.{GiveBodies, GivesBody}
use Rattle.smt_eval.specs.NodeValues.{GivesBodies}
use Rattle.smt_eval.proofs.PlaceLemmas.{all_defined, declared_is, name_of_found}
use Rattle.smt_eval.proofs.EntryLemmas.{entry_named-skip}
use Rattle.smt_eval.proofs.NameLemmas.{same_name, same_self}

-- ---- lists of bodies

-- one more at the end
pub give_more : (entries : List Entry) (bodies : List ℕ) (es : List Entry) (js : List ℕ) (e : Entry) (j : ℕ)
    → GiveBodies entries bodies es js → GivesBody entries bodies e.name j
    → GiveBodies entries bodies (es ++ e ∷ []) (js ++ j ∷ [])
give_more entries bodies [] [] e j all one = (one, tt)
give_more entries bodies (d ∷ es) (i ∷ js) e j all one =
    (all.0, give_more entries bodies es js e j all.1 one)
give_more entries bodies [] (i ∷ js) e j all one = absurd all
give_more entries bodies (d ∷ es) [] e j all one = absurd all

-- the one at a place
pub given_at : (entries : List Entry) (bodies : List ℕ) (es : List Entry) (js : List ℕ) (k : ℕ) (e : Entry)
    → GiveBodies entries bodies es js → slice_get es k ≡ Some e
    → (j : ℕ) × (slice_get js k ≡ Some j) × GivesBody entries bodies e.name j
given_at entries bodies [] js k e all at = cc
given_at entries bodies (d ∷ es) [] k e all at = absurd all
given_at entries bodies (d ∷ es) (i ∷ js) zero e all at =
    let is : d ≡ e = cc in (i, refl, subst (λ (f : Entry). GivesBody entries bodies f.name i) is all.0)
given_at entries bodies (d ∷ es) (i ∷ js) (suc k) e all at = given_at entries bodies es js k e all.1 at

-- ---- by their names

-- an entry stays found behind one of another name
found_behind : (c : Entry) (es : List Entry) (e : Entry) → entry_named es c.name ≡ None
    → entry_named es e.name ≡ Some e → entry_named (c ∷ es) e.name ≡ Some e
found_behind c es e none at = by (bytes_eq e.name c.name) refl
  where
    by : (b : Bool) → bytes_eq e.name c.name ≡ b → entry_named (c ∷ es) e.name ≡ Some e
    by true same =
        let is : entry_named es e.name ≡ None =
        ap (entry_named es) (same_name e.name c.name same) ∙ none in cc
    by false same = entry_named-skip c es e.name same ∙ at

-- a declared entry is found by its name
pub declared_named_at : (es : List Entry) (k : ℕ) (e : Entry) → AreDistinct es
    → slice_get (declared_among es) k ≡ Some e → entry_named es e.name ≡ Some e
declared_named_at [] k e distinct at = cc
declared_named_at (c ∷ es) k e distinct at =
    by c.origin refl k at (λ n h. found_behind c es e distinct.0 (declared_named_at es n e distinct.1 h))
  where
    by : (o : Origin) → c.origin ≡ o → (n : ℕ)
        → slice_get (cond (is_declared o) (c ∷ declared_among es) (declared_among es)) n ≡ Some e
        → ((m : ℕ) → slice_get (declared_among es) m ≡ Some e → entry_named (c ∷ es) e.name ≡ Some e)
        → entry_named (c ∷ es) e.name ≡ Some e
    by (Declared command) from zero at next =
        let here : c ≡ e = cc in
        subst (λ (f : Entry). entry_named (c ∷ es) f.name ≡ Some f) here
        (ap (λ b. cond b (Some c) (entry_named es c.name)) (same_self c.name))
    by (Declared command) from (suc m) at next = next m at
    by (Defined ps body) from n at next = next n at

-- where each declared name is defined with its rank, the definition takes as many arguments
pub same_arity : (e : Entry) (o : Option Entry) (d : Entry) → o ≡ Some d → KeepsRank e o
    → length d.parameters ≡ length e.parameters
same_arity e o d is keeps = ap (λ ps. length ps) (subst (KeepsRank e) is keeps).0

-- ---- of a model

-- where the bodies are those of the declared names, each is that of a definition of its name and arity
pub bodies_given : (script definitions : Signature) (parts : Sexps) (bodies declared : List ℕ)
    → IsModelOf script parts definitions → AreDistinct script.entries
    → GiveBodies definitions.entries bodies (declared_among script.entries) declared
    → GivesBodies declared script definitions bodies
bodies_given script definitions parts bodies declared model distinct all = λ k e at.
    let g = given_at definitions.entries bodies (declared_among script.entries) declared k e all at in
    let keeps = model.complete e.name e (declared_named_at script.entries k e distinct at)
    (declared_is script.entries k e at) in
    record {
      place = g.2.0;
      definition = g.2.1;
      body = g.0;
      defined = g.2.3;
      name = name_of_found definitions.entries e.name g.2.1 g.2.2;
      counted = same_arity e (entry_named definitions.entries e.name) g.2.1 g.2.2 keeps;
      node = g.2.4;
      listed = g.1;
    }

-- a name that is lacking is the fault of the model
pub lacking_told : (script definitions : Signature) (parts : Sexps) (first : Option ℕ) (fault : ModelFault)
    → model_in script parts ≡ complete_or first definitions → TellsLacking first fault
    → TellsModel (model_in script parts) fault
lacking_told script definitions parts first fault whole (inl memory) = inl memory
lacking_told script definitions parts first fault whole (inr tells) =
    subst (TellsModel (model_in script parts)) (sym tells.1) (inr (
      refl,
      whole ∙ ap (λ o. complete_or o definitions) tells.2,
    ))

-- ---- bodies of definitions

-- the k-th definition has the k-th body
pub body_at : (t : Table) (n : ℕ) (bodies : List ℕ) (es : List Entry) (p : ℕ) (e : Entry) → AllDefined es
    → AreBodies t n bodies es → slice_get es p ≡ Some e → (j : ℕ) × (slice_get bodies p ≡ Some j)
body_at t n bodies [] p e all are at = cc
body_at t n bodies (d ∷ es) p e all are at =
    by d.origin all.0 bodies are p at (λ js q rest here. body_at t (n + 1) js es q e all.1 rest here)
  where
    by : (o : Origin) → IsDefined o → (js : List ℕ)
        → IsNextBody t n (length d.parameters) o js (λ rest. AreBodies t (n + 1) rest es)
        → (q : ℕ) → slice_get (d ∷ es) q ≡ Some e
        → ((ks : List ℕ) (k : ℕ) → AreBodies t (n + 1) ks es → slice_get es k ≡ Some e
        → (j : ℕ) × (slice_get ks k ≡ Some j))
        → (j : ℕ) × (slice_get js q ≡ Some j)
    by (Declared command) is js h q here next = absurd is
    by (Defined ps body) is [] h q here next = absurd h
    by (Defined ps body) is (j ∷ js) h zero here next = (j, refl)
    by (Defined ps body) is (j ∷ js) h (suc k) here next = next js k h.1 here

-- definitions declare nothing
pub none_declared : (es : List Entry) → AllDefined es → declared_among es ≡ []
none_declared [] all = refl
none_declared (e ∷ es) all = by e.origin all.0 (none_declared es all.1)
  where
    by : (o : Origin) → IsDefined o → declared_among es ≡ []
        → cond (is_declared o) (e ∷ declared_among es) (declared_among es) ≡ []
    by (Declared command) is rest = absurd is
    by (Defined ps body) is rest = rest

-- so a definition that is found has a body
pub body_found : (entries : List Entry) (t : Table) (x : List ℕ) (place : ℕ) (e : Entry) (r : Option ℕ)
    → AllDefined entries → AreBodies t 0 t.bodies entries → entry_named entries x ≡ Some e
    → slice_get (defined_among entries) place ≡ Some e → r ≡ slice_get t.bodies place
    → MatchOption r (entry_named entries x ≡ None) (λ body. GivesBody entries t.bodies x body)
body_found entries t x place e None all are named at is =
    let body = body_at t 0 t.bodies entries place e all are
    (subst (λ es. slice_get es place ≡ Some e) (all_defined entries all) at) in
    let both : Some body.0 ≡ None = sym body.1 ∙ sym is in cc
body_found entries t x place e (Some j) all are named at is =
    (place, e, named, subst (λ es. slice_get es place ≡ Some e) (all_defined entries all) at, sym is)
