-- A table of the bytes as digits. Proofs and private contracts name this.
use Rattle.std.specs.Prelude.{ℕ, List, codes}

-- the value of each byte in turn as a digit, as a byte: '0' and what follows stand for 0 and what follows
abbrev pub digit_table : List ℕ
digit_table = codes
    "TTTTTTTTTTTTTTTTTTTTTTTTTTTTTTTTTTTTTTTTTTTTTTTT0123456789TTTTTTT:;<=>?@ABCDEFGHIJKLMNOPQRSTTTTTT:;<=>?@ABCDEFGHIJKLMNOPQRSTTTTTTTTTTTTTTTTTTTTTTTTTTTTTTTTTTTTTTTTTTTTTTTTTTTTTTTTTTTTTTTTTTTTTTTTTTTTTTTTTTTTTTTTTTTTTTTTTTTTTTTTTTTTTTTTTTTTTTTTTTTTTTTTTTTTT"
