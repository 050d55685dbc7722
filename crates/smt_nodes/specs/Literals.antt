-- The numbers that literals spell.
use Rattle.std.specs.Prelude.{ℕ, Option, Some, None}
use Rattle.smt_theory.specs.Literals.{spelled_number}
use Rattle.smt_nodes.specs.Node.{Node, Literal}

-- the number of a literal's digits, if it fits a word of 128 bits
abbrev pub spelled : Node → Option ℕ
spelled (Literal kind digits) = spelled_number kind digits
spelled _ = None

abbrev pub literal_number : Option Node → Option ℕ
literal_number None = None
literal_number (Some node) = spelled node
