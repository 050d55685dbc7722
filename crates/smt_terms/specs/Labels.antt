-- SMT-LIB 2.6, section 3.6.5: which labels a term may have. That a label is given to closed terms of
-- assertions alone is the standard's rule; which fault is told is this project's.
use Rattle.std.specs.Prelude.{ℕ, List, ◌++◌}

-- none, as outside assertions; or any but those that were given before; or they are not looked at
pub data Labels : Type 0 where
  Refused : Labels
  Given : (names : List (List ℕ)) → Labels
  Unread : Labels

-- the same behind more labels
abbrev pub with_labels : List (List ℕ) → Labels → Labels
with_labels more Refused = Refused
with_labels more (Given names) = Given (names ++ more)
with_labels more Unread = Unread
