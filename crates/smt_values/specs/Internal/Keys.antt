-- By what `distinct` sorts its arguments. No part of any claim: it ties the code of `distinct` to its
-- definition.
use Rattle.std.specs.Prelude.{ℕ, ℤ, pos, List, [], Option, Some, None}
use Rattle.std.specs.Int.{from_bool}
use Rattle.std.specs.Ordering.{int_cmp, nat_cmp, ordering_then}
use Rattle.std.specs.Cmp.Lexicographic.{slice_cmp}
use Rattle.std.specs.declared.cmp.Ordering.{Ordering}
use Rattle.smt_values.specs.Element.{Element, Truth, Integer, Fraction, Vector, Abstract}

-- three numbers and a name that no other optional element has: the first says of which kind it is
abbrev pub key_of : Option Element → ℕ × ℤ × ℕ × List ℕ
key_of None = (0, pos 0, 0, [])
key_of (Some (Truth b)) = (1, pos 0, from_bool b, [])
key_of (Some (Integer z)) = (2, z, 0, [])
key_of (Some (Fraction n d)) = (5, n, d, [])
key_of (Some (Vector v)) = (3, pos v.width, v.number, [])
key_of (Some (Abstract name)) = (4, pos 0, 0, name)

-- how two optional elements are ordered: by the first number, then by the second, then by the third, then
-- by the name
abbrev pub compared : Option Element → Option Element → Ordering
compared x y =
    ordering_then (ordering_then (ordering_then (nat_cmp (key_of x).0 (key_of y).0)
    (int_cmp (key_of x).1 (key_of y).1)) (nat_cmp (key_of x).2 (key_of y).2))
    (slice_cmp nat_cmp (key_of x).3 (key_of y).3)
