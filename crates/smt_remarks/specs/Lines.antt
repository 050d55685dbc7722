-- The lines of an explanation: at most 200 printable characters of ASCII, and a line feed.
use Rattle.std.specs.Prelude.{ℕ, List, [], ◌∷◌, Bool, true, ◌&&◌, ◌==◌, ◌+◌, ◌-◌, if◌then◌else◌, nat_lt}
use Rattle.smt_remarks.specs.declared.form.Form.{Form}
use Rattle.smt_remarks.specs.declared.form.Form.TheVariants as forms

-- a space, a tilde, or a character between them
abbrev pub is_printable : ℕ → Bool
is_printable b = nat_lt 31 b && nat_lt b 127

-- whether a text is such lines, the first of which has room for so many characters
abbrev pub are_lines : ℕ → List ℕ → Bool
are_lines room [] = room == 200
are_lines room (b ∷ bs) =
    if b == 10 then are_lines 200 bs else (is_printable b && (nat_lt 0 room && are_lines (room - 1) bs))

-- how many lines a text has
abbrev pub line_count : List ℕ → ℕ
line_count [] = 0
line_count (b ∷ bs) = (if b == 10 then 1 else 0) + line_count bs

-- whether what is written in a form is such lines, where that form has lines
abbrev pub is_lined : Form → List ℕ → Bool
is_lined forms.Text bs = are_lines 200 bs
is_lined _ bs = true

-- how many such lines there are
abbrev pub count_in : Form → List ℕ → ℕ
count_in forms.Text bs = line_count bs
count_in _ bs = 0
