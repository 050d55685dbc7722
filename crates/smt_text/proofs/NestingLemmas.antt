-- Open parentheses alone.
use Rattle.std.proofs.Common.{◌≡◌, ◌<◌, ◌≤◌, ◌+◌, ℕ, suc, zero, List, [], ◌∷◌, ◌++◌, length, Some, None, true}
use Rattle.std.proofs.Common.{cond, replicate, codes, refl, sym, ap, ◌∙◌, arith, subst}
use Rattle.std.proofs.lemmas.Bool.{lt-ltb, le-ltb}
use Rattle.std.proofs.lemmas.List.{append-nil, append_assoc, length-append, length-replicate}
use Rattle.std.proofs.lemmas.List.{replicate-append-replicate}
use Rattle.smt_text.proofs.ReadingLemmas.{stuck_reads, ends_inside, inside_list}
use Rattle.smt_text.proofs.ReaderCompleteness.{run-cons, run-append}
use Rattle.smt_text.specs.Internal.LexerStates.{On, At, start, settle, step, run}
use Rattle.smt_text.specs.Reading.{Reads}
use Rattle.smt_trees.specs.Sexp.{Sexps, Nil}
use Rattle.smt_faults.specs.declared.text_flaw.TextFlaw.TheVariants.{Byte, Deep, End}
use Rattle.smt_text.specs.declared.lexer.AtomState.TheVariants.{Nothing, HexMark}

one_more : (n : ℕ) (lists : List Sexps) → replicate n Nil ++ (Nil ∷ lists) ≡ Nil ∷ (replicate n Nil ++ lists)
one_more zero lists = refl
one_more (suc n) lists = ap (λ x. Nil ∷ x) (one_more n lists)

step_in : (max_depth : ℕ) (lists : List Sexps) → length lists < max_depth
    → step max_depth (At Nothing [] (On lists Nil)) 40 ≡ Some (At Nothing [] (On (Nil ∷ lists) Nil))
step_in max_depth lists h =
    ap (λ t. settle (cond t (Some (On (Nil ∷ lists) Nil)) None)) (lt-ltb (length lists) max_depth h)

stops : (max_depth : ℕ) (lists : List Sexps) → max_depth ≤ length lists
    → step max_depth (At Nothing [] (On lists Nil)) 40 ≡ None
stops max_depth lists h =
    ap (λ t. settle (cond t (Some (On (Nil ∷ lists) Nil)) None)) (le-ltb (length lists) max_depth h)

run_in : (max_depth n : ℕ) (lists : List Sexps) → n + length lists ≤ max_depth
    → run max_depth (At Nothing [] (On lists Nil)) (replicate n 40)
    ≡ Some (At Nothing [] (On (replicate n Nil ++ lists) Nil))
run_in max_depth zero lists h = refl
run_in max_depth (suc n) lists h =
    run-cons max_depth (At Nothing [] (On lists Nil)) (At Nothing [] (On (Nil ∷ lists) Nil)) 40 (replicate n 40)
    (step_in max_depth lists (omega arith))
    ∙ run_in max_depth n (Nil ∷ lists) (omega arith) ∙ ap (λ x. Some (At Nothing [] (On x Nil)))
    (one_more n lists)

run_all : (max_depth : ℕ) → run max_depth start (replicate max_depth 40)
    ≡ Some (At Nothing [] (On (replicate max_depth Nil) Nil))
run_all max_depth = run_in max_depth max_depth [] (omega arith) ∙ ap (λ x. Some (At Nothing [] (On x Nil)))
    (append-nil (replicate max_depth Nil))

pub reads_at : (max_depth : ℕ) → 0 < max_depth → Reads max_depth true (replicate max_depth 40) Nil (Some (End max_depth))
reads_at zero h = absurd (omega arith)
reads_at (suc n) h =
    subst (λ p. Reads (suc n) true (replicate (suc n) 40) Nil (Some (End p))) (length-replicate (suc n) 40)
    (ends_inside (suc n) (replicate (suc n) 40) (At Nothing [] (On (replicate (suc n) Nil) Nil))
    (run_all (suc n)) (inside_list (At Nothing [] (On (replicate (suc n) Nil) Nil)) Nil
    (replicate n Nil) Nil refl))

pub reads_past : (max_depth : ℕ) → Reads max_depth true (replicate (max_depth + 1) 40) Nil (Some (Deep max_depth))
reads_past max_depth = stuck_reads max_depth true (replicate (max_depth + 1) 40)
    (At Nothing [] (On (replicate max_depth Nil) Nil)) (Deep max_depth) record {
      prefix = replicate max_depth 40;
      byte = 40;
      rest = [];
      parts = sym (replicate-append-replicate max_depth 1 40);
      runs = run_all max_depth;
      stops = stops max_depth (replicate max_depth Nil) (omega (arith, length-replicate max_depth Nil));
      is = ap Deep (sym (length-replicate max_depth 40));
    }

-- a parenthesis inside a token is no list, however deep
pub reads_no_token : (max_depth : ℕ)
    → Reads max_depth true (replicate max_depth 40 ++ codes "#x(") Nil (Some (Byte (max_depth + 2)))
reads_no_token max_depth = stuck_reads max_depth true (replicate max_depth 40 ++ codes "#x(")
    (At HexMark [] (On (replicate max_depth Nil) Nil)) (Byte (max_depth + 2)) record {
      prefix = replicate max_depth 40 ++ codes "#x";
      byte = 40;
      rest = [];
      parts = sym (append_assoc (replicate max_depth 40) (codes "#x") (40 ∷ []));
      runs = run-append max_depth start (At Nothing [] (On (replicate max_depth Nil) Nil)) (replicate max_depth 40)
          (codes "#x") (run_all max_depth);
      stops = refl;
      is = let n : max_depth + 2 ≡ length (replicate max_depth 40 ++ codes "#x") = omega
          (arith, length-append (replicate max_depth 40) (codes "#x"), length-replicate {A = ℕ} max_depth 40)
          in ap Byte n;
    }
