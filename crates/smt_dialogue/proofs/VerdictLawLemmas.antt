-- What the verdicts may not be.
use Rattle.std.proofs.Common.{◌≡◌, ◌+◌, ℕ, true, false, List, [], ◌∷◌, ◌++◌, length, Result, Ok, Err}
use Rattle.std.proofs.Common.{refl, ap, sym, ◌∙◌, subst}
use Rattle.std.specs.List.{AllByRecursion}
use Rattle.smt_trees.specs.Sexp.{Sexp, Sexps, Nil}
use Rattle.smt_theory.specs.Sort.{Boolean}
use Rattle.smt_arrays.specs.Element.{Element}
use Rattle.smt_arrays.specs.Operations.{truth}
use Rattle.smt_values.specs.Operations.{DivisionByZero, zero_by_zero}
use Rattle.smt_terms.specs.Checking.{sort_in}
use Rattle.smt_terms.specs.Signature.{Signature, in_assertion, names_of}
use Rattle.smt_eval.specs.CompleteModel.{IsModelOf}
use Rattle.smt_eval.specs.Meaning.{value_over}
use Rattle.smt_eval.specs.Model.{model_in}
use Rattle.smt_eval.specs.Structure.{IsStructure}
use Rattle.smt_eval.specs.declared.model_fault.ModelFlaw.{ModelFlaw}
use Rattle.smt_dialogue.specs.InForce.{signature_after}
use Rattle.smt_dialogue.specs.Pairs.{Pair, checks_in}
use Rattle.smt_dialogue.specs.Validity.{IsAsserted, IsAssumed, IsClaimed, IsConfirmed, IsFullyPaired, IsInvalid}
use Rattle.smt_dialogue.specs.Validity.{IsTrueModel, IsValid, names_of_claim}
use Rattle.smt_dialogue.specs.VerdictLaws.{IsModelIn, IsSatOf}
use Rattle.smt_dialogue.specs.Window.{Printed, models_from, structure_at, window}
use Rattle.smt_dialogue.specs.declared.options.Options.{Options}
use Rattle.smt_report.specs.declared.claim.Claim.{Claim}
use Rattle.smt_report.specs.declared.claim.Claim.TheVariants.{Assertion, Assumption}
use Rattle.smt_report.specs.declared.line.Line.{Line}
use Rattle.smt_report.specs.declared.line.Line.TheVariants.{Refuted}

-- ## Valid

-- the pairs of a valid dialogue are all its pairs
valid_pairs : (options : Options) (script answers : List ℕ) (pairs : List Pair)
    → (v : IsValid options script answers) → IsFullyPaired options script answers pairs → v.pairs ≡ pairs
valid_pairs options script answers pairs v w =
    sym (v.only pairs w.script_trees w.answer_trees Nil w.script_forest w.answers_forest w.pairing).0

-- so a check among them is confirmed
confirmed : (options : Options) (script answers : List ℕ) (before : List Pair) (check : Pair)
    (after : List Pair) → IsSatOf options script answers before check after → IsValid options script answers
    → IsConfirmed options.profile before check after
confirmed options script answers before check after c v =
    v.confirmed before after check (valid_pairs options script answers (before ++ check ∷ after) v c.paired)
    c.sat

pub all_at : {A : Type 0} (P : A → Type 0) (xs : List A) (x : A) (ys : List A) → AllByRecursion P (xs ++ x ∷ ys)
    → P x
all_at P [] x ys h = h.0
all_at P (y ∷ xs) x ys h = all_at P xs x ys h.1

-- each of its models is a true one
true_model : (options : Options) (script answers : List ℕ) (before : List Pair) (check : Pair)
    (after : List Pair) (m : Printed) → IsSatOf options script answers before check after
    → IsModelIn before after m → IsValid options script answers → IsTrueModel options.profile before check m.parts
true_model options script answers before check after m c i v =
    let g = confirmed options script answers before check after c v in
    all_at (λ (n : Printed). IsTrueModel options.profile before check n.parts) i.first m i.last
    (subst (AllByRecursion (λ (n : Printed). IsTrueModel options.profile before check n.parts))
    (sym g.models ∙ i.models)
    g.true_models)

pub without_model : (options : Options) (script answers : List ℕ) (before : List Pair) (check : Pair)
    (after : List Pair) → IsSatOf options script answers before check after
    → models_from (length before + 2) (window after) ≡ [] → IsValid options script answers → ⊥
without_model options script answers before check after c none v =
    let g = confirmed options script answers before check after c v in
    let bad : [] ≡ g.first ∷ g.others = sym none ∙ g.models in
    cc

pub with_faulty : (options : Options) (script answers : List ℕ) (before : List Pair) (check : Pair)
    (after : List Pair) (m : Printed) (fault : ModelFlaw) → IsSatOf options script answers before check after
    → IsModelIn before after m
    → model_in (signature_after options.profile before) m.parts ≡ Err fault → IsValid options script answers → ⊥
with_faulty options script answers before check after m fault c i faulty v =
    let one = true_model options script answers before check after m c i v in
    let bad : ◌≡◌ {A = Result Signature ModelFlaw} (Ok one.definitions) (Err fault) =
    sym one.model.read ∙ faulty in
    cc

-- an assertion in force, as what the check claims
claimed : (before earlier : List Pair) (check : Pair) (term : Sexp) → IsAsserted before earlier term
    → IsClaimed before check (Assertion (length earlier + 1)) earlier term
claimed before earlier check term asserted = (asserted, refl)

with_ill_sorted_claim : (options : Options) (script answers : List ℕ) (before : List Pair) (check : Pair)
    (after earlier : List Pair) (claim : Claim) (term : Sexp) → IsSatOf options script answers before check after
    → IsClaimed before check claim earlier term
    → (sort_in (names_of_claim claim (names_of (signature_after options.profile earlier))) [] term ≡ Ok Boolean → ⊥)
    → IsValid options script answers → ⊥
with_ill_sorted_claim options script answers before check after earlier claim term c is ill v =
    let g = confirmed options script answers before check after c v in
    ill (g.true_models.0.sorted claim earlier term is)

pub with_ill_sorted : (options : Options) (script answers : List ℕ) (before : List Pair) (check : Pair)
    (after earlier : List Pair) (term : Sexp) → IsSatOf options script answers before check after
    → IsAsserted before earlier term
    → (sort_in (in_assertion (names_of (signature_after options.profile earlier))) [] term ≡ Ok Boolean → ⊥)
    → IsValid options script answers → ⊥
with_ill_sorted options script answers before check after earlier term c asserted ill v =
    with_ill_sorted_claim options script answers before check after earlier (Assertion (length earlier + 1)) term c
    (claimed before earlier check term asserted) ill v

pub with_ill_sorted_assumption : (options : Options) (script answers : List ℕ) (before : List Pair) (check : Pair)
    (after : List Pair) (place : ℕ) (term : Sexp) → IsSatOf options script answers before check after
    → IsAssumed check place term
    → (sort_in (names_of (signature_after options.profile before)) [] term ≡ Ok Boolean → ⊥)
    → IsValid options script answers → ⊥
with_ill_sorted_assumption options script answers before check after place term c assumed ill v =
    with_ill_sorted_claim options script answers before check after before (Assumption place) term c
    (refl, assumed) ill v

-- the definitions of a model are those that it has
same_definitions : (script : Signature) (parts : Sexps) (d e : Signature) → model_in script parts ≡ Ok d
    → model_in script parts ≡ Ok e → d ≡ e
same_definitions script parts d e f g = let both : ◌≡◌ {A = Result Signature ModelFlaw} (Ok d) (Ok e) =
    sym f ∙ g in cc

pub structures_of : (options : Options) (script answers : List ℕ) (before : List Pair) (check : Pair)
    (after : List Pair) (m : Printed) (definitions : Signature)
    → IsSatOf options script answers before check after → IsModelIn before after m
    → model_in (signature_after options.profile before) m.parts ≡ Ok definitions → IsValid options script answers
    → IsModelOf (signature_after options.profile before) m.parts definitions
    × IsStructure (structure_at options.profile definitions before)
structures_of options script answers before check after m definitions c i read v =
    let one = true_model options script answers before check after m c i v in
    let same = same_definitions (signature_after options.profile before)
    m.parts one.definitions definitions one.model.read read in (
      subst (IsModelOf (signature_after options.profile before) m.parts) same one.model,
      subst (λ (d : Signature). IsStructure (structure_at options.profile d before)) same one.structure,
    )

with_untrue_claim : (options : Options) (script answers : List ℕ) (before : List Pair) (check : Pair)
    (after : List Pair) (m : Printed) (definitions : Signature) (claim : Claim) (earlier : List Pair) (term : Sexp)
    (z : DivisionByZero) → IsSatOf options script answers before check after → IsModelIn before after m
    → model_in (signature_after options.profile before) m.parts ≡ Ok definitions
    → IsClaimed before check claim earlier term
    → (value_over z (structure_at options.profile definitions before) [] term ≡ truth true → ⊥)
    → IsValid options script answers → ⊥
with_untrue_claim options script answers before check after m definitions claim earlier term z c i read is untrue v
    =
    let one = true_model options script answers before check after m c i v in
    let same = same_definitions (signature_after options.profile before)
    m.parts one.definitions definitions one.model.read read in
    untrue (ap (λ (d : Signature). value_over z (structure_at options.profile d before) [] term) (sym same)
    ∙ one.true_in z claim earlier term is)

pub with_untrue : (options : Options) (script answers : List ℕ) (before : List Pair) (check : Pair)
    (after : List Pair) (m : Printed) (definitions : Signature) (earlier : List Pair) (term : Sexp)
    (z : DivisionByZero) → IsSatOf options script answers before check after → IsModelIn before after m
    → model_in (signature_after options.profile before) m.parts ≡ Ok definitions → IsAsserted before earlier term
    → (value_over z (structure_at options.profile definitions before) [] term ≡ truth true → ⊥)
    → IsValid options script answers → ⊥
with_untrue options script answers before check after m definitions earlier term z c i read asserted untrue v
    = with_untrue_claim options script answers before check after m definitions (Assertion (length earlier + 1))
    earlier term z c i read (claimed before earlier check term asserted) untrue v

pub with_untrue_assumption : (options : Options) (script answers : List ℕ) (before : List Pair) (check : Pair)
    (after : List Pair) (m : Printed) (definitions : Signature) (place : ℕ) (term : Sexp)
    (z : DivisionByZero) → IsSatOf options script answers before check after → IsModelIn before after m
    → model_in (signature_after options.profile before) m.parts ≡ Ok definitions → IsAssumed check place term
    → (value_over z (structure_at options.profile definitions before) [] term ≡ truth true → ⊥)
    → IsValid options script answers → ⊥
with_untrue_assumption options script answers before check after m definitions place term z c i read assumed untrue v
    = with_untrue_claim options script answers before check after m definitions (Assumption place) before term z c i
    read (refl, assumed) untrue v

-- ## Invalid

not_true : (t : Element) → t ≡ truth false → t ≡ truth true → ⊥
not_true t a b = let bad : truth true ≡ truth false = sym b ∙ a in let worse : true ≡ false = cc in cc

-- the check that an invalid dialogue has
refuted_sat : (options : Options) (script answers : List ℕ) (ls : List Line)
    → (i : IsInvalid options script answers ls) → IsSatOf options script answers i.before i.check i.after
refuted_sat options script answers ls i =
    record { paired = subst (IsFullyPaired options script answers) i.place i.paired; sat = i.sat }

refuted_model : (options : Options) (script answers : List ℕ) (ls : List Line)
    → (i : IsInvalid options script answers ls) → IsModelIn i.before i.after i.model
refuted_model options script answers ls i =
    record { first = i.models_before; last = i.models_after; models = i.models }

pub not_both : (options : Options) (script answers : List ℕ) (ls : List Line) → IsValid options script answers
    → IsInvalid options script answers ls → ⊥
not_both options script answers ls v i =
    let z = zero_by_zero in
    with_untrue_claim options script answers i.before i.check i.after i.model i.definitions i.claim i.earlier
    i.term z (refuted_sat options script answers ls i) (refuted_model options script answers ls i)
    i.model_of.read i.claimed
    (not_true (value_over z (structure_at options.profile i.definitions i.before) [] i.term) (i.false_in z)) v

pub what_is_false : (options : Options) (script answers : List ℕ) (ls : List Line)
    → IsInvalid options script answers ls
    → (before : List Pair) × (check : Pair) × (after : List Pair) × (model : Printed)
    × (definitions : Signature) × (claim : Claim) × (earlier : List Pair) × (term : Sexp)
    × IsSatOf options script answers before check after × IsModelIn before after model
    × IsModelOf (signature_after options.profile before) model.parts definitions
    × IsStructure (structure_at options.profile definitions before) × IsClaimed before check claim earlier term
    × (sort_in (names_of_claim claim (names_of (signature_after options.profile earlier))) [] term ≡ Ok Boolean)
    × ((z : DivisionByZero) → value_over z (structure_at options.profile definitions before) [] term ≡ truth false)
    × (first : List Line) × (last : List Line)
    × (ls ≡ first ++ Refuted (checks_in before + 1) (length before + 1) model.command claim ∷ last)
what_is_false options script answers ls i = (
  i.before,
  i.check,
  i.after,
  i.model,
  i.definitions,
  i.claim,
  i.earlier,
  i.term,
  refuted_sat options script answers ls i,
  refuted_model options script answers ls i,
  i.model_of,
  i.structure,
  i.claimed,
  i.sorted,
  i.false_in,
  i.lines_before,
  i.lines_after,
  i.line,
)
