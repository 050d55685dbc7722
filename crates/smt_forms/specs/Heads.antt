-- SMT-LIB 2.6, section 3.6: what a list is, by its head.
use Rattle.std.specs.Prelude.{Bool, true, false}
use Rattle.smt_trees.specs.Sexp.{Sexp, Reserved}
use Rattle.smt_trees.specs.declared.reserved.Word.TheVariants.{As, Bang, Let, Underscore}

-- whether a list of this head is an identifier with indexes
abbrev pub begins_indexed : Sexp → Bool
begins_indexed (Reserved Underscore) = true
begins_indexed _ = false

-- whether a list of this head is an identifier with its sort
abbrev pub begins_qualified : Sexp → Bool
begins_qualified (Reserved As) = true
begins_qualified _ = false

-- whether a list of this head is a `let`
abbrev pub begins_let : Sexp → Bool
begins_let (Reserved Let) = true
begins_let _ = false

-- whether a list of this head is an annotated term
abbrev pub begins_annotated : Sexp → Bool
begins_annotated (Reserved Bang) = true
begins_annotated _ = false
