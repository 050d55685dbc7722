-- Declarations among names, one more at a time.
use Rattle.std.proofs.Common.{◌≡◌, ℕ, suc, ◌+◌, List, [], ◌∷◌, ◌++◌, length, ap, sym, ◌∙◌, arith}
use Rattle.std.proofs.Common.{append_assoc}
use Rattle.std.proofs.lemmas.List.{append-nil}
use Rattle.smt_terms.specs.Contents.{Declaration}
use Rattle.smt_terms.specs.Library.{declaration_at, declarations_from}
use Rattle.smt_terms.specs.Signature.{Entry}

pub declarations-push : (place : ℕ) (es : List Entry) (e : Entry)
    → declarations_from place (es ++ e ∷ [])
    ≡ declarations_from place es ++ declaration_at (place + length es) e e.origin
declarations-push place [] e =
    append-nil (declaration_at place e e.origin) ∙ ap (λ (n : ℕ). declaration_at n e e.origin) (omega arith)
declarations-push place (x ∷ es) e =
    ap (λ (ds : List Declaration). declaration_at place x x.origin ++ ds)
    (declarations-push (place + 1) es e ∙ ap
    (λ (n : ℕ). declarations_from (place + 1) es ++ declaration_at n e e.origin) (omega arith))
    ∙ sym (append_assoc (declaration_at place x x.origin) (declarations_from (place + 1) es)
    (declaration_at (place + suc (length es)) e e.origin))

-- one more declaration at the end
pub declared-push : (old new : List Declaration) (d : Declaration) (es : List Entry) (e : Entry)
    → new ≡ old ++ d ∷ [] → old ≡ declarations_from 0 es → declaration_at (length es) e e.origin ≡ d ∷ []
    → new ≡ declarations_from 0 (es ++ e ∷ [])
declared-push old new d es e is before here =
    is ∙ ap (λ (ds : List Declaration). ds ++ d ∷ []) before
    ∙ sym (declarations-push 0 es e ∙ ap (λ (n : ℕ). declarations_from 0 es ++ declaration_at n e e.origin)
    (omega arith) ∙ ap (λ (ds : List Declaration). declarations_from 0 es ++ ds) here)
