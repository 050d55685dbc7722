-- Attributes: what the test takes, and what the relation says.
use Rattle.std.proofs.Common.{◌≡◌, ℕ, Bool, true, false, not, ◌&&◌, ◌||◌, List, refl, ap, ◌∙◌}
use Rattle.smt_trees.specs.Sexp.{Sexp, Sexps, Atom, Nil, Cons, Keyword}
use Rattle.smt_forms.specs.Bindings.{AreAttributes, NoMore, Bare, Valued, are_attributes, go_on, go_on_behind}
use Rattle.smt_forms.specs.Bindings.{is_label, is_symbol_tree, is_value}

both : (a b : Bool) → a && b ≡ true → (a ≡ true) × (b ≡ true)
both true b h = (refl, h)
both false b h = cc

not_true : (b : Bool) → not b ≡ true → b ≡ false
not_true false h = refl
not_true true h = cc

-- a keyword without a value goes before attributes
bare : (k : List ℕ) (rest : Sexps) → is_label k ≡ false → go_on rest ≡ true → go_on_behind k rest ≡ true
bare k Nil plain h = ap not plain
bare k (Cons (Atom Keyword l) rest) plain h = ap (λ b. not b && go_on_behind l rest) plain ∙ h
bare k (Cons other rest) plain h = cc

-- so does one with its value
valued : (k : List ℕ) (value : Sexp) (rest : Sexps) → is_value k value ≡ true → go_on rest ≡ true
    → go_on_behind k (Cons value rest) ≡ true
valued k (Atom Keyword l) rest is h = cc
valued k value rest is h = ap (λ b. b && go_on rest) is ∙ h

-- the test takes attributes
taken : (trees : Sexps) → AreAttributes trees → go_on trees ≡ true
taken _ NoMore = refl
taken _ (Bare k rest plain more) = bare k rest plain (taken rest more)
taken _ (Valued k value rest is more) = valued k value rest is (taken rest more)

-- and nothing else
mutual
  read : (trees : Sexps) → go_on trees ≡ true → AreAttributes trees
  read Nil h = NoMore
  read (Cons (Atom Keyword k) rest) h = read_behind k rest h
  read (Cons other rest) h = cc

  read_behind : (k : List ℕ) (rest : Sexps) → go_on_behind k rest ≡ true
      → AreAttributes (Cons (Atom Keyword k) rest)
  read_behind k Nil h = Bare k Nil (not_true (is_label k) h) NoMore
  read_behind k (Cons (Atom Keyword l) rest) h =
      let p = both (not (is_label k)) (go_on_behind l rest) h in
      Bare k (Cons (Atom Keyword l) rest) (not_true (is_label k) p.0) (read_behind l rest p.1)
  read_behind k (Cons value rest) h =
      let p = both (not (is_label k) || is_symbol_tree value) (go_on rest) h in
      Valued k value rest p.0 (read rest p.1)

pub said : (trees : Sexps) → are_attributes trees ≡ true → (trees ≡ Nil → ⊥) × AreAttributes trees
said Nil h = cc
said (Cons tree trees) h = (λ none. cc, read (Cons tree trees) h)

pub tested : (trees : Sexps) → (trees ≡ Nil → ⊥) × AreAttributes trees → are_attributes trees ≡ true
tested Nil h = absurd (h.0 refl)
tested (Cons tree trees) h = taken (Cons tree trees) h.1
