use Rattle.std.proofs.Common.{◌≡◌, ℕ, Bool, true, false, cond, List, Result, Ok, Err, inl, inr, ap, sym, ◌∙◌, subst}
use Rattle.std.proofs.lemmas.Result.{err_from_is_err_and}
use Rattle.smt_trees.specs.Sexp.{Sexp, Sexps}
use Rattle.smt_trees.specs.View.{sexp_of, sexps_of}
use Rattle.smt_theory.specs.Operators.{is_plain_operator}
use Rattle.smt_theory.specs.Words.{look_up, result_and_then}
use Rattle.smt_faults.specs.Outcome.{Tells}
use Rattle.smt_faults.specs.declared.term_fault.TermFault.{TermFault}
use Rattle.smt_faults.specs.declared.term_flaw.TermFlaw.{TermFlaw}
use Rattle.smt_faults.specs.declared.term_flaw.TermFlaw.TheVariants.{NotFresh}
use Rattle.smt_terms.specs.Declarations.{declaration, declared_in, rank_named}
use Rattle.smt_terms.specs.Freshness.{is_element, is_taken}
use Rattle.smt_terms.specs.Internal.LibraryView.{names_of_library, sort_names}
use Rattle.smt_terms.specs.Library.{StandsFor}
use Rattle.smt_terms.specs.Signature.{Entry, Rank, Signature, sort_names_of, with_entry}
use Rattle.smt_terms.specs.declared.library.Library.{Library}
use Rattle.smt_terms.proofs.ClosedLemmas.{neither}
use Rattle.smt_terms.proofs.ElementLemmas.{no_element}
use Rattle.smt_terms.proofs.ItemLemmas.{names_as, sorts_as}
use Rattle.smt_terms.proofs.NameLookUps.{free_name}
use Rattle.smt_terms.proofs.library.Library.declare.Goals as goal

pub add_declared-requires-clause-absent : goal.add_declared-requires-clause-absent
add_declared-requires-clause-absent c = (free_name (is_element (names_of_library c.args.self.now) c.args.name.now)
    (look_up (names_of_library c.args.self.now).ranks c.args.name.now)
    (is_plain_operator c.args.self.now.sorts.theories c.args.name.now) (sym c.if-is_taken.ensures)).1

pub add_declared-requires-clause-apart : goal.add_declared-requires-clause-apart
add_declared-requires-clause-apart c = no_element (names_of_library c.args.self.now).elements c.args.name.now
    (free_name (is_element (names_of_library c.args.self.now) c.args.name.now)
    (look_up (names_of_library c.args.self.now).ranks c.args.name.now)
    (is_plain_operator c.args.self.now.sorts.theories c.args.name.now) (sym c.if-is_taken.ensures)).0

pub add_declared-requires-clause-free : goal.add_declared-requires-clause-free
add_declared-requires-clause-free c = (neither _ _ (sym c.if-is_taken.ensures)).1

-- what a declaration brings by what a library says of its parts
declare_step : (library : Library) (s : Signature) (command : ℕ) (x : List ℕ) (params : Sexps) (tree : Sexp) (b : Bool)
    → StandsFor library s → b ≡ is_taken (names_of_library library) x
    → declared_in s command x params tree
    ≡ cond b (Err NotFresh) (result_and_then (rank_named (sort_names library.sorts) params tree)
    (λ rank. Ok (declaration x command rank)))
declare_step library s command x params tree b stands is =
    ap (λ t. cond t (Err NotFresh) (result_and_then (rank_named (sort_names_of s) params tree)
    (λ rank. Ok (declaration x command rank))))
    (ap (λ n. is_taken n x) (sym (names_as library s stands)) ∙ sym is)
    ∙ ap (λ sorts. cond b (Err NotFresh) (result_and_then (rank_named sorts params tree)
    (λ rank. Ok (declaration x command rank)))) (sym (sorts_as library s stands))

-- the fault of its rank is that of the declaration
same_rank_fault : (r : Result Rank TermFlaw) (d : Result Entry TermFlaw) (x : List ℕ) (command : ℕ)
    (fault : TermFault) → d ≡ result_and_then r (λ rank. Ok (declaration x command rank)) → Tells r fault
    → Tells d fault
same_rank_fault r d x command fault is (inl m) = inl m
same_rank_fault r d x command fault is (inr e) =
    inr (is ∙ ap (λ q. result_and_then q (λ rank. Ok (declaration x command rank))) e)

pub returns-then-is_taken-clause-refused : goal.returns-then-is_taken-clause-refused
returns-then-is_taken-clause-refused c = λ s stands. inr (declare_step c.args.self.now s c.args.command
    c.args.name.now (sexps_of c.args.params) (sexp_of c.args.sort) true stands c.if-is_taken.ensures)

pub returns-in_err-declared-clause-refused : goal.returns-in_err-declared-clause-refused
returns-in_err-declared-clause-refused c =
    let p = err_from_is_err_and c.from_residual.result c.from_residual.ensures.1 in
    let library = c.args.self.now in
    let params = sexps_of c.args.params in
    let tree = sexp_of c.args.sort in
    rw (p.1, p.2)
    (λ s stands. same_rank_fault (rank_named (sort_names library.sorts) params tree)
    (declared_in s c.args.command c.args.name.now params tree) c.args.name.now c.args.command _
    (declare_step library s c.args.command c.args.name.now params tree false stands c.if-is_taken.ensures)
    c.in_err-declared.ensures.rank)

pub returns-clause-declared : goal.returns-clause-declared
returns-clause-declared c =
    let library = c.args.self.now in
    let d = c.in_ok-declared.declared in
    let rank : Rank = record { parameters = d.params.items; sort = d.result } in
    λ s stands. (
      declaration c.args.name.now c.args.command rank,
      declare_step library s c.args.command c.args.name.now (sexps_of c.args.params) (sexp_of c.args.sort) false
          stands c.if-is_taken.ensures
          ∙ ap (λ r. result_and_then r (λ found. Ok (declaration c.args.name.now c.args.command found)))
          c.in_ok-declared.ensures.rank,
      subst (λ n. StandsFor c.add_declared.new.self (with_entry s (declaration c.args.name.now n rank)))
          c.in_ok-declared.ensures.next.0 (c.in_ok-add_declared.ensures.added s stands),
    )
