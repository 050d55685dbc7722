-- Lines at the end of lines.
use Rattle.std.proofs.Common.{◌≡◌, ◌≤◌, ℕ, List, [], ◌∷◌, ◌++◌, Bool, true, false, ◌&&◌, ◌==◌, ◌+◌, ◌-◌, length, refl, sym, ap, ◌∙◌, arith, nat_lt}
use Rattle.std.proofs.Common.{if◌then◌else◌}
use Rattle.std.specs.List.{list_all}
use Rattle.std.proofs.lemmas.Bool.Decides.{nat_tests}
use Rattle.smt_remarks.specs.Lines.{are_lines, is_printable, line_count}

left : (a b : Bool) → (a && b) ≡ true → a ≡ true
left true b h = refl
left false b h = h

right : (a b : Bool) → (a && b) ≡ true → b ≡ true
right true b h = h
right false b h = cc

both : (a b : Bool) → a ≡ true → b ≡ true → (a && b) ≡ true
both a b p q = ap (λ (x : Bool). x && b) p ∙ q

-- a printable character in a line with room
one_more : (b room : ℕ) (bs : List ℕ) → is_printable b ≡ true → nat_lt 0 room ≡ true → are_lines (room - 1) bs ≡ true
    → are_lines room (b ∷ bs) ≡ true
one_more b room bs p r h =
    let not_end : (b == 10) ≡ false = grind (arith, nat_tests) in
    ap (λ (c : Bool). if c then are_lines 200 bs else (is_printable b && (nat_lt 0 room && are_lines (room - 1) bs))) not_end
    ∙ both (is_printable b) (nat_lt 0 room && are_lines (room - 1) bs) p
    (both (nat_lt 0 room) (are_lines (room - 1) bs) r h)

-- printable characters and their line feed are a line where they have room
pub one_line : (room : ℕ) (line : List ℕ) → length line ≤ room → list_all is_printable line ≡ true
    → are_lines room (line ++ 10 ∷ []) ≡ true
one_line room [] fits all = refl
one_line room (b ∷ bs) fits all =
    let some : nat_lt 0 room ≡ true = grind (arith, nat_tests) in
    one_more b room (bs ++ 10 ∷ []) (left (is_printable b) (list_all is_printable bs) all) some
    (one_line (room - 1) bs (grind (arith)) (right (is_printable b) (list_all is_printable bs) all))

-- what the first character of lines says, with what holds of the rest behind a line's end and in a line
then_by : (c : Bool) (b room : ℕ) (bs more : List ℕ) → (b == 10) ≡ c
    → (if c then are_lines 200 bs else (is_printable b && (nat_lt 0 room && are_lines (room - 1) bs))) ≡ true
    → (are_lines 200 bs ≡ true → are_lines 200 more ≡ true)
    → (are_lines (room - 1) bs ≡ true → are_lines (room - 1) more ≡ true)
    → are_lines room (b ∷ more) ≡ true
then_by true b room bs more is h ended goes_on =
    ap (λ (c : Bool). if c then are_lines 200 more else (is_printable b && (nat_lt 0 room && are_lines (room - 1) more))) is
    ∙ ended h
then_by false b room bs more is h ended goes_on =
    let p = left (is_printable b) (nat_lt 0 room && are_lines (room - 1) bs) h in
    let q = right (is_printable b) (nat_lt 0 room && are_lines (room - 1) bs) h in
    one_more b room more p (left (nat_lt 0 room) (are_lines (room - 1) bs) q)
    (goes_on (right (nat_lt 0 room) (are_lines (room - 1) bs) q))

-- lines behind lines are lines
pub lines_then : (room : ℕ) (text line : List ℕ) → are_lines room text ≡ true → are_lines 200 line ≡ true
    → are_lines room (text ++ line) ≡ true
lines_then room [] line told ends =
    let is : room ≡ 200 = grind (arith, nat_tests) in ap (λ r. are_lines r line) is ∙ ends
lines_then room (b ∷ bs) line told ends =
    then_by (b == 10) b room bs (bs ++ line) refl told (λ h. lines_then 200 bs line h ends)
    (λ h. lines_then (room - 1) bs line h ends)

-- a line at the end of lines
pub line_added : (text line : List ℕ) → are_lines 200 text ≡ true → list_all is_printable line ≡ true
    → length line ≤ 200 → are_lines 200 (text ++ (line ++ 10 ∷ [])) ≡ true
line_added text line told all fits = lines_then 200 text (line ++ 10 ∷ []) told (one_line 200 line fits all)

sum : (a b c : ℕ) → a + (b + c) ≡ (a + b) + c
sum a b c = grind (arith)

-- printable characters and their line feed are one line
count_one : (line : List ℕ) → list_all is_printable line ≡ true → line_count (line ++ 10 ∷ []) ≡ 1
count_one [] all = refl
count_one (b ∷ bs) all =
    let p = left (is_printable b) (list_all is_printable bs) all in
    let not_end : (b == 10) ≡ false = grind (arith, nat_tests) in
    ap (λ (c : Bool). (if c then 1 else 0) + line_count (bs ++ 10 ∷ [])) not_end
    ∙ ap (λ n. 0 + n) (count_one bs (right (is_printable b) (list_all is_printable bs) all))

-- lines behind lines are counted together
pub count_then : (text line : List ℕ) → line_count (text ++ line) ≡ line_count text + line_count line
count_then [] line = grind (arith)
count_then (b ∷ bs) line =
    ap (λ n. (if b == 10 then 1 else 0) + n) (count_then bs line)
    ∙ sum (if b == 10 then 1 else 0) (line_count bs) (line_count line)

-- a line more
pub count_added : (text line : List ℕ) → list_all is_printable line ≡ true
    → line_count (text ++ (line ++ 10 ∷ [])) ≡ line_count text + 1
count_added text line all = count_then text (line ++ 10 ∷ []) ∙ ap (λ n. line_count text + n) (count_one line all)
