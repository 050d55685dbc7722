-- What a clause reads of a sink into memory.
use Rattle.std.specs.Prelude.{ℕ, List, Bool, vec_items}
use Rattle.smt_streams.specs.declared.collected.Collected.{Collected}

-- the bytes taken so far
abbrev pub collected_bytes : Collected → List ℕ
collected_bytes sink = vec_items sink.bytes

-- the most bytes that a call takes
abbrev pub collected_most : Collected → ℕ
collected_most sink = sink.most

-- whether a call has failed
abbrev pub collected_broken : Collected → Bool
collected_broken sink = sink.broken
