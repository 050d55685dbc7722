-- What a line on a check says behind the check is its outcome.
use Rattle.std.proofs.Common.{◌≡◌, ◌++◌, ◌⊎◌, inl, inr, ℕ, refl}
use Rattle.std.specs.Prelude.{codes}
use Rattle.smt_faults.specs.declared.term_flaw.TermFlaw.{TermFlaw}
use Rattle.smt_report.specs.LineText.{check_line, text_of}
use Rattle.smt_report.specs.Internal.CheckText.{text_of_outcome}
use Rattle.smt_report.specs.declared.claim.Claim.{Claim}
use Rattle.smt_report.specs.declared.line.CheckAnswer.{CheckAnswer}
use Rattle.smt_report.specs.declared.line.Line.{Line}
use Rattle.smt_report.specs.declared.line.Line.TheVariants.{Unchecked, Confirmed, NoModel, ItemFault, Lacks}
use Rattle.smt_report.specs.declared.line.Line.TheVariants.{TooLong, Refuted, NotDecided}
use Rattle.smt_report.proofs.line.LineDisplay.fmt.Goals as goal

-- the line is one on this check
abbrev IsCheckLine : Line → ℕ → ℕ → Type 0
IsCheckLine line k n = ((x : CheckAnswer) × (line ≡ Unchecked k n x))
    ⊎ ((line ≡ Confirmed k n)
    ⊎ ((line ≡ NoModel k n) ⊎
    (((x : ℕ) × (y : ℕ) × (z : TermFlaw) × (line ≡ ItemFault k n x y z))
    ⊎ (((x : ℕ) × (y : ℕ) × (line ≡ Lacks k n x y))
    ⊎ (((x : ℕ) × (line ≡ TooLong k n x))
    ⊎ (((x : ℕ) × (y : Claim) × (line ≡ Refuted k n x y))
    ⊎ ((x : ℕ) × (y : Claim) × (line ≡ NotDecided k n x y))))))))

text_behind_check : (line : Line) (k n : ℕ) → IsCheckLine line k n
    → text_of line ≡ check_line k n (codes ": " ++ text_of_outcome line)
text_behind_check line k n (inl (x, e)) = rw e refl
text_behind_check line k n (inr (inl e)) = rw e refl
text_behind_check line k n (inr (inr (inl e))) = rw e refl
text_behind_check line k n (inr (inr (inr (inl (x, y, z, e))))) = rw e refl
text_behind_check line k n (inr (inr (inr (inr (inl (x, y, e)))))) = rw e refl
text_behind_check line k n (inr (inr (inr (inr (inr (inl (x, e))))))) = rw e refl
text_behind_check line k n (inr (inr (inr (inr (inr (inr (inl (x, y, e)))))))) = rw e refl
text_behind_check line k n (inr (inr (inr (inr (inr (inr (inr (x, y, e)))))))) = rw e refl

pub returns-in-Unchecked-clause-writes : goal.returns-in-Unchecked-clause-writes
returns-in-Unchecked-clause-writes g c = λ plain ok.
    rw (text_behind_check c.args.self.now c.in-Unchecked.check c.in-Unchecked.command c.in-Unchecked.is)
    (c.write-in-Unchecked.ensures.writes plain ok)
