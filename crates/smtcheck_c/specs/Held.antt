-- What a handle owns.
use Rattle.std.specs.Prelude.{Option, None, Some}
use mir.Syntax.{Ty}
use base.Fml.{Fml, ftrue}
use denote.RattleType.{RattleType}
use denote.RawPtr.{Ptr}
use Rattle.std.specs.Box.Ownership.{box_owns}

-- where it has a value: the value at the pointer, and the right to free its block; else nothing
abbrev pub held_at : (Ty → Ptr → Fml) → (R : RattleType) → Ptr → Option R.Denot → Fml
held_at frees R p None = ftrue
held_at frees R p (Some x) = box_owns frees R p x
