-- What a clause reads of a source that keeps what it gave.
use Rattle.smtcheck.specs.declared.recorded.Recorded.{Recorded}

-- the source that it pulls from
abbrev pub inner_of : {S : Type 0} → Recorded S → S
inner_of source = source.inner
