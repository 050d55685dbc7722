-- SMT-LIB 2.6, section 3.3: the indexes of identifiers.
use Rattle.std.specs.Prelude.{ℕ, List}
use Rattle.smt_theory.specs.declared.index.Index.{Index}
use Rattle.smt_theory.specs.declared.index.Index.TheVariants as code

-- a numeral up to 2^64 - 1, a larger one, or a symbol
pub data IndexView : Type 0 where
  Number : (number : ℕ) → IndexView
  Large : IndexView
  Name : (name : List ℕ) → IndexView

abbrev pub index_view : Index → IndexView
index_view (code.Number n) = Number n
index_view code.Large = Large
index_view (code.Name name) = Name name.now
