-- What a clause reads of a reader or a writer that keeps why it failed.
use Rattle.smtcheck.specs.declared.inputs.Noted.{Noted}

-- the reader or the writer that it calls
abbrev pub noted_of : {T : Type 0} → Noted T → T
noted_of noted = noted.inner
