-- What is known over definitions, one step at a time.
use Rattle.std.proofs.Common.{◌≡◌, ℕ, zero, suc, ◌<◌, cond, List, [], ◌∷◌}
use Rattle.std.proofs.Common.{length, take, slice_get, Option, Some, None, refl, ap}
use Rattle.std.proofs.Common.{sym, ◌∙◌, arith}
use Rattle.std.proofs.Math.Seq.{take-length}
use Rattle.std.specs.Prelude.{bytes_eq}
use Rattle.smt_trees.specs.Sexp.{Sexp}
use Rattle.smt_theory.specs.Index.{IndexView}
use Rattle.smt_theory.specs.Operators.{op_by}
use Rattle.smt_arrays.specs.Element.{Element}
use Rattle.smt_forms.specs.Identifier.{Plain, Indexed, Qualified}
use Rattle.smt_terms.specs.Signature.{AreDistinct, Entry, Signature, entry_named}
use Rattle.smt_eval.proofs.EntryLemmas.{entry_named-take}
use Rattle.smt_eval.proofs.NameLemmas.{none_step, same_self}
use Rattle.smt_eval.specs.Internal.DefinitionValues.{first}
use Rattle.smt_values.specs.Element.{Naming}
use Rattle.smt_eval.specs.Known.{KnownMeaning, known_after, known_defined, known_in_by}
use Rattle.smt_eval.specs.Known.{known_of_op, known_operators, with_known}

-- ---- names

-- a name that is not defined keeps its meaning
pub known_absent : (m : KnownMeaning) (es : List Entry) (x : List ℕ) (args : List (Option Element))
    → entry_named es x ≡ None → (known_after m es).gives (Plain x) args ≡ m.gives (Plain x) args
known_absent m [] x args h = refl
known_absent m (e ∷ es) x args h =
    let n = none_step (bytes_eq x e.name) e (entry_named es x) h in
    known_absent (with_known m e) es x args n.1 ∙ ap
    (λ b. cond b (known_defined m e.origin args) (m.gives (Plain x) args)) n.0

-- and so does what has indexes
pub known_with_indexes : (m : KnownMeaning) (es : List Entry) (x : List ℕ) (indexes : List IndexView)
    (args : List (Option Element)) → (known_after m es).gives (Indexed x indexes) args ≡ m.gives (Indexed x indexes) args
known_with_indexes m [] x indexes args = refl
known_with_indexes m (e ∷ es) x indexes args = known_with_indexes (with_known m e) es x indexes args

-- and a constant array
pub known_constant : (m : KnownMeaning) (es : List Entry) (sort : Sexp) (args : List (Option Element))
    → (known_after m es).gives (Qualified sort) args ≡ m.gives (Qualified sort) args
known_constant m [] sort args = refl
known_constant m (e ∷ es) sort args = known_constant (with_known m e) es sort args

-- definitions change nothing of elements
pub element_kept : (m : KnownMeaning) (es : List Entry) → (known_after m es).element ≡ m.element
element_kept m [] = refl
element_kept m (e ∷ es) = element_kept (with_known m e) es

-- a name that is defined means what its definition gives over the earlier ones
known_at : (m : KnownMeaning) (es : List Entry) (n p : ℕ) (e : Entry) (args : List (Option Element))
    → AreDistinct es → slice_get es p ≡ Some e → p < n
    → (known_after m (take n es)).gives (Plain e.name) args ≡ known_defined (known_after m (take p es)) e.origin args
known_at m [] n p e args d at h = cc
known_at m (c ∷ es) zero p e args d at h = absurd (omega arith)
known_at m (c ∷ es) (suc n) zero e args d at h =
    let is : c ≡ e = cc in
    ap (λ z. (known_after (with_known m c) (take n es)).gives (Plain z.name) args) (sym is) ∙ known_absent
    (with_known m c) (take n es) c.name args (entry_named-take es c.name n d.0)
    ∙ ap (λ b. cond b (known_defined m c.origin args) (m.gives (Plain c.name) args)) (same_self c.name) ∙ ap
    (λ z. known_defined m z.origin args) is
known_at m (c ∷ es) (suc n) (suc p) e args d at h =
    known_at (with_known m c) es n p e args d.1 at (omega arith)

pub defined_means : (element : Naming) (d : Signature) (n p : ℕ) (e : Entry) (x : List ℕ) (args : List (Option Element))
    → AreDistinct d.entries → slice_get d.entries p ≡ Some e → p < n → e.name ≡ x
    → (known_in_by element (first n d)).gives (Plain x) args
    ≡ known_defined (known_in_by element (first p d)) e.origin args
defined_means element d n p e x args distinct at h is = ap (λ y. (known_in_by element (first n d)).gives (Plain y) args)
    (sym is) ∙ known_at (known_operators element d.theories) d.entries n p e args distinct at h

-- the first of as many as there are are all
pub all_first : (d : Signature) (n : ℕ) → n ≡ length d.entries → first n d ≡ d
all_first d n is = ap (λ (es : List Entry). record d { entries = es })
    (ap (λ k. take k d.entries) is ∙ take-length d.entries)

pub indexed_known : (element : Naming) (d : Signature) (n : ℕ) (x : List ℕ) (indexes : List IndexView)
    (args : List (Option Element))
    → (known_in_by element (first n d)).gives (Indexed x indexes) args
    ≡ known_of_op element (op_by d.theories x indexes) (Indexed x indexes) args
indexed_known element d n x indexes args =
    known_with_indexes (known_operators element d.theories) (take n d.entries) x indexes args

pub not_defined : (element : Naming) (d : Signature) (n : ℕ) (x : List ℕ) (args : List (Option Element))
    → entry_named (take n d.entries) x ≡ None
    → (known_in_by element (first n d)).gives (Plain x) args ≡ known_of_op element (op_by d.theories x []) (Plain x) args
not_defined element d n x args none = known_absent (known_operators element d.theories) (take n d.entries) x args none
