use Rattle.std.proofs.Common.{◌≡◌, ◌++◌, ◌∷◌, [], Err, Ok, true, cond, ap, subst, sym}
use Rattle.smt_names.specs.Entries.{entries_of}
use Rattle.smt_theory.specs.Sort.{Free}
use Rattle.smt_faults.specs.declared.term_flaw.TermFlaw.TheVariants.{NotFresh}
use Rattle.smt_terms.proofs.sorts.SortNames.declare.Goals as goal

pub returns-clause-declared : goal.returns-clause-declared
returns-clause-declared c = (
  record { sort = Free c.args.command; is_declared = true },
  ap (λ b. cond b (Err NotFresh) (Ok (record { sort = Free c.args.command; is_declared = true })))
      (sym c.if-is_taken.ensures),
  subst (λ sort. entries_of c.insert.new.self
      ≡ entries_of c.args.self.now.abbreviations ++ (c.args.name.now, record { sort = sort; is_declared = true }) ∷ [])
      c.free.ensures c.in_ok-insert.ensures.inserted,
)
