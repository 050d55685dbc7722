-- The machine's stacks of values as a contract sees them, and what is done to them.
use Rattle.std.specs.Prelude.{ℕ, ◌-◌, List, [], ◌∷◌, ◌++◌, Option, None, length, take, drop, min}
use Rattle.smt_arrays.specs.Element.{Element}
use Rattle.smt_arrays.specs.Tables.{all_known_in}
use Rattle.smt_machine.specs.Memory.{arrays_in}
use Rattle.smt_machine.specs.Nodes.{Frame}
use Rattle.smt_machine.specs.declared.machine.Machine.{Machine}

-- the values of what is evaluated, and the frames, of which the innermost begins at `base`
pub record State : Type 0 where
  pub values : List (Option Element)
  pub frames : List (Option Element)
  pub base : ℕ

abbrev pub state_of : Machine → State
state_of m = record {
  values = all_known_in (arrays_in m) m.values.items;
  frames = all_known_in (arrays_in m) m.frames.items;
  base = m.base;
}

abbrev pub frame_of : State → Frame
frame_of s = drop s.base s.frames

abbrev pub last_of : {A : Type 0} → ℕ → List A → List A
last_of k xs = drop (length xs - k) xs

abbrev pub before_last : {A : Type 0} → ℕ → List A → List A
before_last k xs = take (length xs - k) xs

-- one more value
abbrev pub with_value : Option Element → State → State
with_value v s = record { values = s.values ++ v ∷ []; frames = s.frames; base = s.base }

-- the last k values give way to one
abbrev pub with_last : ℕ → Option Element → State → State
with_last k v s = record { values = before_last k s.values ++ v ∷ []; frames = s.frames; base = s.base }

-- without the last k values
abbrev pub without_last : ℕ → State → State
without_last k s = record { values = before_last k s.values; frames = s.frames; base = s.base }

-- the first of values, which is open where there is none
abbrev pub first_of : {A : Type 0} → List (Option A) → Option A
first_of [] = None
first_of (v ∷ vs) = v

-- what is left of the frames begins at `base` again
abbrev pub with_frames : ℕ → ℕ → State → State
with_frames base len s = record {
  values = s.values;
  frames = take len s.frames;
  base = min base (length (take len s.frames));
}

-- an empty frame begins at `base`
abbrev pub with_base : ℕ → State → State
with_base base s = record { values = s.values; frames = s.frames; base = base }

-- the last k values go to the frames, of which the innermost begins at `base`
abbrev pub with_moved : ℕ → ℕ → State → State
with_moved base k s = record {
  values = before_last k s.values;
  frames = s.frames ++ last_of k s.values;
  base = base;
}
