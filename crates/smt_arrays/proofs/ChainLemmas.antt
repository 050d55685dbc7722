-- How an array is written, from the last write on.
use Rattle.std.proofs.Common.{◌≡◌, ◌<◌, ℕ, suc, Bool, List, [], ◌∷◌}
use Rattle.std.proofs.Common.{Option, length, get_or, sym, ap, ◌∙◌, subst, arith}
use Rattle.smt_values.specs.declared.value.Value.{Value}
use Rattle.smt_arrays.specs.Cells.{AreOlder, IsOlder, followed, made}
use Rattle.smt_arrays.specs.Internal.{IsLastWrite, both}
use Rattle.smt_arrays.specs.Reading.{indexes}
use Rattle.smt_arrays.specs.Tables.{AreHeld, array_at}
use Rattle.smt_arrays.specs.declared.arrays.Cell.{Cell}
use Rattle.smt_arrays.specs.declared.arrays.Cell.TheVariants.{Filled as FilledCell, Written as WrittenCell}
use Rattle.smt_arrays.proofs.CellLemmas.{found, older}
use Rattle.smt_arrays.proofs.PlainSameLemmas.{both_more}

-- ---- the last write

pub last_written : (cells : List Cell) (k : ℕ) (cell : Cell) (array : ℕ) (index element : Value) → AreOlder 0 cells
    → k < length cells → ((d : Cell) → cell ≡ get_or cells k d) → cell ≡ WrittenCell array index element
    → IsLastWrite (followed [] cells) k array index
last_written cells k cell array index element h less at is =
    let before = subst (IsOlder k) is (older cells k cell h less at) in
    (ap indexes (found cells k cell h less at ∙ ap (made (followed [] cells)) is), before.0, before.1)

pub not_written : (cells : List Cell) (k : ℕ) (cell : Cell) (element : Value) → AreOlder 0 cells
    → k < length cells → ((d : Cell) → cell ≡ get_or cells k d) → cell ≡ FilledCell element
    → indexes (array_at (followed [] cells) k) ≡ []
not_written cells k cell element h less at is =
    ap indexes (found cells k cell h less at ∙ ap (made (followed [] cells)) is)

-- ---- arguments that are held

pub held_rest : (n : ℕ) (xs rest : List (Option Value)) (x : Option Value) → AreHeld n xs → xs ≡ x ∷ rest
    → AreHeld n rest
held_rest n xs rest x h e = λ i d below. subst (AreHeld n) e h (suc i) d (omega (arith, below))

-- one step of a loop over arguments
pub loop_step : (g : List (Option Value) → Option Bool) (xs left rest : List (Option Value)) (x : Option Value)
    (found here now : Option Bool) → g xs ≡ both found (g left) → left ≡ x ∷ rest
    → g (x ∷ rest) ≡ both here (g rest) → now ≡ both found here → g xs ≡ both now (g rest)
loop_step g xs left rest x found here now so_far is more e =
    so_far ∙ ap (λ l. both found (g l)) is ∙ ap (both found) more ∙ sym (both_more found here (g rest))
    ∙ ap (λ o. both o (g rest)) (sym e)
