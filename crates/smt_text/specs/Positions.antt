-- Lines and columns of a text. Lines count from 1, and each ends with a line feed, byte 10. Columns count the
-- bytes of a line, from 1. No number goes over 2^64 - 1, for which no text is long enough.
use Rattle.std.specs.Prelude.{ℕ, Bool, List, length, reverse, ◌+◌, ◌-◌, ◌^◌, min, not, ◌==◌, if◌then◌else◌}
use Rattle.std.specs.List.{filter, prefix_len}
use Rattle.smt_text.specs.declared.position.Position.{Position}

abbrev pub capped : ℕ → ℕ
capped n = min n (2 ^ 64 - 1)

abbrev pub ends_line : ℕ → Bool
ends_line b = b == 10

-- how many lines end in the bytes
abbrev pub lines_ended : List ℕ → ℕ
lines_ended bytes = length (filter ends_line bytes)

-- how many bytes come after the last end of a line among them: all where no line ends in them
abbrev pub bytes_in_last_line : List ℕ → ℕ
bytes_in_last_line bytes = prefix_len (λ b. not (ends_line b)) (reverse bytes)

-- where a text begins
abbrev pub beginning : Position
beginning = record { line = 1; column = 1 }

-- where the byte after these stands, which a text begins with
abbrev pub position_after : List ℕ → Position
position_after before = record {
  line = capped (1 + lines_ended before);
  column = capped (1 + bytes_in_last_line before);
}

-- where the byte after these stands, the first of which stands at a position: in its line, where no line ends
-- in them
abbrev pub after : Position → List ℕ → Position
after here bytes = record {
  line = capped (here.line + lines_ended bytes);
  column = capped
      ((if bytes_in_last_line bytes == length bytes then here.column else 1) + bytes_in_last_line bytes);
}
