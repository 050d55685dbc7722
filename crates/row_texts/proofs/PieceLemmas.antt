-- Parts and open braces that are kept one by one, as pieces.
use mathlib.Core.Former.{Count}
use Rattle.std.proofs.Common.{◌≡◌, ℕ, zero, ◌+◌, ◌-◌, ◌<◌, ◌≤◌, suc, List, [], ◌∷◌, ◌++◌, length}
use Rattle.std.proofs.Common.{ap, sym, ◌∙◌, refl, arith, take, get_or, append-nil, append_assoc}
use Rattle.std.proofs.lemmas.List.{take_more, take_all}
use Rattle.row_texts.specs.Escapes as escapes
use Rattle.row_texts.specs.Escapes.{Piece, Pieces, Nil, Cons, and_then, count_of, bytes_of, bytes_of_all, repeated}
use Rattle.row_texts.specs.Internal.Parts.{piece_of, row_pieces, pieces_in, braces_onto}
use Rattle.row_texts.specs.declared.escapes.Part.{Part, Repeat, Repeat', Row_of-Part, end_of-Part, more_of-Part}
use Rattle.row_texts.specs.declared.escapes.Part.{items-the_row-Part, items_hidden-the_row-Part-0}
use Rattle.row_texts.specs.declared.escapes.Times.{Times}
use Rattle.std.specs.declared.vec.Vec.{Vec}
use Rattle.std.specs.declared.alloc.Global.{Global}

pub pieces_in-push : (parts : List Part) (part : Part)
    → pieces_in (parts ++ part ∷ []) ≡ and_then (pieces_in parts) (piece_of part)
pieces_in-push [] part = refl
pieces_in-push (first ∷ rest) part = ap (λ (ps : Pieces). Cons (piece_of first) ps) (pieces_in-push rest part)

pub braces_onto-push : (braces : List (Vec Part Global × Times)) (brace : Vec Part Global × Times)
    (later : List (Pieces × Times))
    → braces_onto (braces ++ brace ∷ []) later ≡ (pieces_in brace.0.items, brace.1) ∷ braces_onto braces later
braces_onto-push [] brace later = refl
braces_onto-push (first ∷ rest) brace later =
    braces_onto-push rest brace ((pieces_in first.0.items, first.1) ∷ later)

pub braces_onto-length : (braces : List (Vec Part Global × Times)) (later : List (Pieces × Times))
    → length (braces_onto braces later) ≡ length braces + length later
braces_onto-length [] later = omega arith
braces_onto-length (first ∷ rest) later =
    let shorter = braces_onto-length rest ((pieces_in first.0.items, first.1) ∷ later) in omega (arith, shorter)

row_pieces-items : (n : _) (row : Row_of-Part n) → row_pieces row ≡ pieces_in (items-the_row-Part n row)
row_pieces-items n end_of-Part = refl
row_pieces-items n (more_of-Part part rest) =
    ap (λ (ps : Pieces). Cons (piece_of part) ps) (row_pieces-items _ rest)

abbrev row_of : Part → (n : Count) × Row_of-Part n
row_of (Repeat' times shape row) = (_, row)
row_of _ = (_, end_of-Part)

pub piece_of-Repeat : (times : Times) (parts : Vec Part Global)
    → piece_of (Repeat times parts) ≡ escapes.Repeat times (pieces_in parts.items)
piece_of-Repeat times parts =
    let row = row_of (Repeat times parts) in
    ap (λ (ps : Pieces). escapes.Repeat times ps)
    (row_pieces-items row.0 row.1 ∙ ap pieces_in (items_hidden-the_row-Part-0 parts))

pub bytes_of_all-and_then : (pieces : Pieces) (piece : Piece) (number : ℕ)
    → bytes_of_all (and_then pieces piece) number ≡ bytes_of_all pieces number ++ bytes_of piece number
bytes_of_all-and_then Nil piece number = append-nil (bytes_of piece number)
bytes_of_all-and_then (Cons first rest) piece number =
    ap (λ bytes. bytes_of first number ++ bytes) (bytes_of_all-and_then rest piece number)
    ∙ sym (append_assoc (bytes_of first number) (bytes_of_all rest number) (bytes_of piece number))

-- the bytes of one more part
pub bytes_of_all-take_more : (parts : List Part) (i : ℕ) (part : Part) (number : ℕ) → i < length parts
    → part ≡ get_or parts i part
    → bytes_of_all (pieces_in (take (i + 1) parts)) number
    ≡ bytes_of_all (pieces_in (take i parts)) number ++ bytes_of (piece_of part) number
bytes_of_all-take_more parts i part number in_range is =
    ap (λ xs. bytes_of_all (pieces_in xs) number) (take_more parts i part in_range)
    ∙ ap (λ x. bytes_of_all (pieces_in (take i parts ++ x ∷ [])) number) (sym is)
    ∙ ap (λ ps. bytes_of_all ps number) (pieces_in-push (take i parts) part)
    ∙ bytes_of_all-and_then (pieces_in (take i parts)) (piece_of part) number

repeated-suc : (bytes_at : ℕ → List ℕ) (number : ℕ) → 1 ≤ number
    → repeated bytes_at number ≡ repeated bytes_at (number - 1) ++ bytes_at number
repeated-suc bytes_at zero positive = absurd (omega (arith, positive))
repeated-suc bytes_at (suc before) positive =
    let same : before ≡ suc before - 1 = omega arith in
    ap (λ n. repeated bytes_at n ++ bytes_at (suc before)) same

-- the bytes of one more repetition
pub repeated-more : (parts : List Part) (i number reached : ℕ) (start before after : List ℕ) → 1 ≤ number
    → length parts ≤ i → reached ≡ number
    → before ≡ start ++ repeated (bytes_of_all (pieces_in parts)) (number - 1)
    → after ≡ before ++ bytes_of_all (pieces_in (take i parts)) number
    → after ≡ start ++ repeated (bytes_of_all (pieces_in parts)) reached
repeated-more parts i number reached start before after positive whole same so_far more =
    let F : ℕ → List ℕ = bytes_of_all (pieces_in parts) in
    more ∙ ap (λ xs. before ++ bytes_of_all (pieces_in xs) number) (take_all i parts whole)
    ∙ ap (λ bytes. bytes ++ F number) so_far
    ∙ append_assoc start (repeated F (number - 1)) (F number)
    ∙ ap (λ bytes. start ++ bytes) (sym (repeated-suc F number positive))
    ∙ ap (λ n. start ++ repeated F n) (sym same)

-- the bytes of all repetitions
pub bytes_of-Repeat : (part : Part) (times : Times) (parts : Vec Part Global) (number count : ℕ)
    (start after : List ℕ) → part ≡ Repeat times parts → count ≡ count_of times number
    → after ≡ start ++ repeated (bytes_of_all (pieces_in parts.items)) count
    → after ≡ start ++ bytes_of (piece_of part) number
bytes_of-Repeat part times parts number count start after is counted written =
    let F : ℕ → List ℕ = bytes_of_all (pieces_in parts.items) in
    let piece = ap piece_of is ∙ piece_of-Repeat times parts in
    written ∙ ap (λ n. start ++ repeated F n) counted
    ∙ sym (ap (λ (p : Piece). start ++ bytes_of p number) piece)
