-- What a check with assumptions does to a stack, and which assumptions each command leaves.
use Rattle.std.proofs.Common.{◌≡◌, ℕ, List, [], ◌∷◌, ◌++◌, Option, None, false, refl, ap, sym, subst, ◌∙◌}
use Rattle.std.proofs.lemmas.List.{append-nil}
use Rattle.std.specs.Global.{Vec}
use Rattle.std.specs.Option.{option_or}
use Rattle.smt_trees.specs.Sexp.{Sexp, Sexps, Cons}
use Rattle.smt_terms.specs.Checking.{sort_in}
use Rattle.smt_terms.specs.Contents.{Extends, contents_of}
use Rattle.smt_terms.specs.Library as library
use Rattle.smt_terms.specs.Denotes.{Denotes, Table}
use Rattle.smt_terms.specs.Library.{terms_of}
use Rattle.smt_terms.specs.Signature.{Names, Signature, names_of}
use Rattle.smt_terms.specs.declared.library.Library.{Library}
use Rattle.smt_script.specs.Command.{Command, SetLogic, DeclareConst, DeclareFun, DefineFun, DeclareSort, DefineSort}
use Rattle.smt_script.specs.Command.{Assert}
use Rattle.smt_script.specs.Command.{effect_of, SetPrintSuccess, SetGlobalDeclarations, SetOption, SetInfo, Push, Pop}
use Rattle.smt_script.specs.Command.{Reset, ResetAssertions, Exit, CheckSat, CheckSatAssuming, GetModel, Echo, Get}
use Rattle.smt_script.specs.Stack as spec
use Rattle.smt_script.specs.Stack.{assertions_in_force, signature_in_force, assumptions_after, flaw_of_formula}
use Rattle.smt_script.specs.Stack.{ends_assumptions, flaw_of_literals, trees_of}
use Rattle.smt_script.specs.StackView.{AreAssertions, AreTerms, profile_of}
use Rattle.smt_script.specs.Internal.Effect.{ContentsAreKept, HasAssumed, HasEffect, assumptions_left}
use Rattle.smt_faults.specs.declared.command_flaw.CommandFlaw.{CommandFlaw}
use Rattle.smt_script.specs.declared.stack.Stack.{Stack}
use Rattle.smt_script.proofs.EffectLemmas.{Adds, added, assertions_stay, nothing_brought}
use Rattle.smt_theory.specs.declared.profile.Profile.{Profile}

-- the assumptions behind a command are those that it leaves or assumes
pub left_assumptions : (old new : Stack) (now : Table) (command : Command) (s : Signature) (ts : List Sexp)
    (items : List ℕ) → library.StandsFor old.library s → HasAssumed old new (effect_of command)
    → AreTerms (terms_of old.library) old.assumptions.items ts
    → items ≡ assumptions_left command new.assumptions.items
    → (ends_assumptions command ≡ false → now ≡ terms_of new.library)
    → AreTerms now items (assumptions_after ts command)
left_assumptions old new now command s ts items names h are is table = by command h is table
  where
    none : items ≡ [] → AreTerms now items []
    none e = subst (λ xs. AreTerms now xs []) (sym e) tt

    same : (us : List Sexp) → now ≡ terms_of new.library → items ≡ new.assumptions.items
        → AreTerms (terms_of new.library) new.assumptions.items us → AreTerms now items us
    same us t e them =
        subst (λ u. AreTerms u items us) (sym t)
        (subst (λ xs. AreTerms (terms_of new.library) xs us) (sym e) them)

    by : (d : Command) → HasAssumed old new (effect_of d) → items ≡ assumptions_left d new.assumptions.items
        → (ends_assumptions d ≡ false → now ≡ terms_of new.library) → AreTerms now items (assumptions_after ts d)
    by (SetLogic name) h is t = none is
    by (SetPrintSuccess on) h is t = same ts (t refl) is (h ts are)
    by (SetGlobalDeclarations on) h is t = same ts (t refl) is (h ts are)
    by (SetOption keyword value) h is t = same ts (t refl) is (h ts are)
    by (SetInfo keyword value) h is t = same ts (t refl) is (h ts are)
    by (DeclareConst x sort) h is t = none is
    by (DeclareFun x parameters sort) h is t = none is
    by (DefineFun x parameters sort body) h is t = none is
    by (DeclareSort x) h is t = none is
    by (DefineSort x sort) h is t = none is
    by (Assert term) h is t = none is
    by (Push levels) h is t = none is
    by (Pop levels) h is t = none is
    by Reset h is t = none is
    by ResetAssertions h is t = none is
    by Exit h is t = same ts (t refl) is (h ts are)
    by CheckSat h is t = none is
    by (CheckSatAssuming literals) h is t = same (trees_of literals) (t refl) is (h s names)
    by GetModel h is t = same ts (t refl) is (h ts are)
    by (Echo text) h is t = same ts (t refl) is (h ts are)
    by (Get query) h is t = same ts (t refl) is (h ts are)

-- terms that stay in a library
pub terms_stay : (l m : Library) → ((i : ℕ) (t : Sexp) → library.IsTerm l i t → library.IsTerm m i t) → (ids : List ℕ)
    (ts : List Sexp) → AreTerms (terms_of l) ids ts → AreTerms (terms_of m) ids ts
terms_stay l m kept [] [] h = tt
terms_stay l m kept [] (t ∷ ts) h = absurd h
terms_stay l m kept (i ∷ ids) [] h = absurd h
terms_stay l m kept (i ∷ ids) (t ∷ ts) h = (kept i t h.0, terms_stay l m kept ids ts h.1)

pub more_terms : (c : Table) (ids : List ℕ) (ts : List Sexp) (i : ℕ) (t : Sexp) → AreTerms c ids ts
    → Denotes c [] 0 0 i t → AreTerms c (ids ++ i ∷ []) (ts ++ t ∷ [])
more_terms c [] [] i t h one = (one, tt)
more_terms c [] (u ∷ ts) i t h one = absurd h
more_terms c (j ∷ ids) [] i t h one = absurd h
more_terms c (j ∷ ids) (u ∷ ts) i t h one = (h.0, more_terms c ids ts i t h.1 one)

-- a literal that is a formula has no fault
pub literal_next : (names : Names) (l : Sexp) (ls all : Sexps) → all ≡ Cons l ls
    → flaw_of_formula (sort_in names [] l) ≡ None → flaw_of_literals names all ≡ flaw_of_literals names ls
literal_next names l ls all e none =
    ap (flaw_of_literals names) e
    ∙ ap (λ (o : Option CommandFlaw). option_or o (flaw_of_literals names ls)) none

assumes_adds : (profile : Profile) (literals : Sexps) → Adds profile (CheckSatAssuming literals)
assumes_adds profile literals = record { no_reset = refl; level = λ d. refl; theories = λ t. refl }

-- literals that are formulas are assumed, and nothing else changes
pub assume_effect : ContentsAreKept → (old : Stack) (l : Library) (v : Vec ℕ) (n : ℕ) (literals : Sexps)
    → ((s : Signature) → library.StandsFor old.library s → library.StandsFor l s)
    → Extends (contents_of old.library) (contents_of l)
    → ((s : Signature) → library.StandsFor old.library s → flaw_of_literals (names_of s) literals ≡ None)
    → HasEffect old (record old { library = l; assumptions = v }) n (CheckSatAssuming literals)
assume_effect law old l v n literals names grown none = record {
  faultless = λ cs h. none (signature_in_force (profile_of old) cs) h.library;
  stands = λ cs h alike.
      added law old (record old { library = l; assumptions = v }) [] cs n (CheckSatAssuming literals) h alike
      (assumes_adds (profile_of old) literals) refl refl refl refl refl refl refl grown
      (sym (append-nil old.assertions.items))
      (nothing_brought l (signature_in_force (profile_of old) cs) n (CheckSatAssuming literals) refl refl
      (names (signature_in_force (profile_of old) cs) h.library))
      (subst (λ (bs : List spec.Assertion). AreAssertions (contents_of l) old.assertions.items bs)
      (sym (append-nil (assertions_in_force (profile_of old) cs)))
      (assertions_stay law (contents_of old.library) (contents_of l) grown old.assertions.items
      (assertions_in_force (profile_of old) cs) h.assertions));
  start = refl;
}
