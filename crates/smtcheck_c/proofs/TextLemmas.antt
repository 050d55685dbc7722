-- The text of lines, one behind another.
use Rattle.std.proofs.Common.{◌≡◌, ◌∙◌, ◌++◌, ◌∷◌, List, [], ap, append_assoc, refl, sym}
use Rattle.std.proofs.lemmas.List.{append-nil}
use Rattle.smt_dialogue.specs.Run.{text_of_lines}
use Rattle.smt_report.specs.LineText.{text_of}
use Rattle.smt_report.specs.declared.line.Line.{Line}

pub text_append : (xs ys : List Line) → text_of_lines (xs ++ ys) ≡ text_of_lines xs ++ text_of_lines ys
text_append [] ys = refl
text_append (x ∷ xs) ys =
    ap (λ t. (text_of x ++ 10 ∷ []) ++ t) (text_append xs ys)
    ∙ sym (append_assoc (text_of x ++ 10 ∷ []) (text_of_lines xs) (text_of_lines ys))

pub text_push : (xs : List Line) (x : Line)
    → text_of_lines (xs ++ x ∷ []) ≡ text_of_lines xs ++ (text_of x ++ 10 ∷ [])
text_push xs x = text_append xs (x ∷ []) ∙ ap (λ t. text_of_lines xs ++ t) (append-nil (text_of x ++ 10 ∷ []))
