-- What a search for what is to blame answers.
use denote.Ref.{Bor}
use Rattle.smt_faults.specs.Outcome.{IsOutcome}
use Rattle.smt_faults.specs.declared.memory.Memory.{Memory}
use Rattle.smt_faults.specs.declared.term_fault.TermFault.{TermFault}
use Rattle.smt_faults.specs.declared.term_flaw.TermFlaw.{TermFlaw}
use Rattle.smt_terms.specs.declared.library.draft.CheckedTerm.{CheckedTerm}
use Rattle.std.specs.Prelude.{◌≡◌, ◌⊎◌, ℕ, List, Bool, not, Option, Some, None, Result, Ok, IfSome, option_map}
use Rattle.std.specs.Prelude.{if◌then◌else◌}
use Rattle.smt_trees.specs.declared.view.Tree.{Tree}
use Rattle.smt_theory.specs.declared.theories.Theories.{Theories}
use Rattle.smt_terms.specs.declared.library.blamed_names.Unknown.{Unknown}
use Rattle.smt_terms.specs.declared.blame.Blame.TheVariants as blames
use Rattle.smt_terms.specs.declared.blame.Blame.TheVariants.{Lacks}
use Rattle.smt_terms.specs.declared.blame.Theory.TheVariants.{Integers, Reals, BitVectors, Arrays}
use Rattle.smt_trees.specs.Sexp.{Sexps, Nil, Cons}
use Rattle.smt_theory.specs.declared.misfits.RankFlaw.TheVariants as flaws
use Rattle.smt_theory.specs.declared.misfits.Wanted.{Wanted}
use Rattle.smt_theory.specs.Sort.{Sort}
use Rattle.smt_forms.specs.Identifier.{Identifier, applied}
use Rattle.smt_terms.specs.Blame.{IsBlamed, IsToldWhole, call_flaw, with_theory}
use Rattle.smt_terms.specs.Internal.LibraryView.{names_of_library, sort_names}
use Rattle.smt_terms.specs.Signature.{Names}
use Rattle.smt_terms.specs.SortTrees.{SortNames}
use Rattle.smt_terms.specs.declared.blame.Blame.{Blame}
use Rattle.smt_terms.specs.declared.library.Library.{Library}

-- what is told, if anything is, is to blame over the library's names
abbrev pub IsTold : Library → Option Blame → Type 0
IsTold library found = IfSome found (IsBlamed (names_of_library library) (sort_names library.sorts))

-- over the names of a script, or of the items of a model of it
abbrev pub IsToldOf : (script items : Library) → Option Blame → Type 0
IsToldOf script items found =
    IfSome found (λ blame. IsBlamed (names_of_library script) (sort_names script.sorts) blame
    ⊎ IsBlamed (names_of_library items) (sort_names items.sorts) blame)

-- ---- unknown parts

-- whether a test tells that something is unknown, in these theories and in these with one more
abbrev pub unknown_by : (Theories → Bool) → Theories → Unknown
unknown_by is_unknown theories =
    record {
      here = is_unknown theories;
      with_integers = is_unknown (with_theory Integers theories);
      with_reals = is_unknown (with_theory Reals theories);
      with_vectors = is_unknown (with_theory BitVectors theories);
      with_arrays = is_unknown (with_theory Arrays theories);
    }

-- the theory that is lacking to a part, or its name
abbrev pub blame_of_unknown : Tree → Option (Bor (List ℕ)) → Unknown → Option Blame
blame_of_unknown part name unknown =
    if not unknown.here then None
    else if not unknown.with_integers then Some (Lacks part Integers)
    else if not unknown.with_reals then Some (Lacks part Reals)
    else if not unknown.with_vectors then Some (Lacks part BitVectors)
    else if not unknown.with_arrays then Some (Lacks part Arrays) else option_map blames.Unknown name

-- ---- parts

-- a list of these parts applies the identifier
abbrev pub IsApplied : Sexps → Identifier → Type 0
IsApplied (Cons head args) f = applied head args ≡ Ok f
IsApplied Nil f = ⊥

-- the blame is that of the argument of such a list at this place, wherever it is the one that does not fit
abbrev pub IsMisfitOf : Sexps → List Sort → (place : ℕ) → Wanted → Blame → Type 0
IsMisfitOf parts sorts place wanted blame = (names : Names) (sort_names : SortNames) (f : Identifier)
    → IsApplied parts f → call_flaw names f sorts ≡ Some (flaws.Argument place wanted)
    → IsBlamed names sort_names blame

-- what is told of a term as a whole, whatever its sort is expected to be, where this is found of it
abbrev pub IsToldAsChecked : (wanted : Sort) → Result CheckedTerm TermFault → Result (Option Blame) Memory → Type 0
IsToldAsChecked wanted checked result =
    (sorted : Result Sort TermFlaw) → IsOutcome (λ c. c.sort) sorted checked → IsToldWhole wanted sorted result
