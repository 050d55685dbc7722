-- Heads of lists that pass a test.
use Rattle.std.proofs.Common.{◌≡◌, true, refl}
use Rattle.smt_trees.specs.Sexp.{Sexp, Reserved}
use Rattle.smt_trees.specs.declared.reserved.Word.TheVariants.{Bang, Let}
use Rattle.smt_forms.specs.Heads.{begins_annotated, begins_let}

pub let_head : (head : Sexp) → begins_let head ≡ true → head ≡ Reserved Let
let_head (Reserved Let) h = refl
let_head _ h = cc

pub bang_head : (head : Sexp) → begins_annotated head ≡ true → head ≡ Reserved Bang
bang_head (Reserved Bang) h = refl
bang_head _ h = cc
