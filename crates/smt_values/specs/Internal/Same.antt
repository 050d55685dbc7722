-- Whether two optional elements are the same. No part of any claim: it ties the code of `distinct` to its
-- definition.
use Rattle.std.specs.Prelude.{Bool, true, false, Option, Some, None}
use Rattle.smt_values.specs.Element.{Element}
use Rattle.smt_values.specs.Operations.{is_same}

abbrev pub is_same_known : Option Element → Option Element → Bool
is_same_known None None = true
is_same_known (Some a) (Some b) = is_same a b
is_same_known _ _ = false
