-- What a library holds, whether or not a name was declared in it.
use Rattle.std.proofs.Common.{◌≡◌, List, None, Result, Ok, Err}
use Rattle.std.specs.Prelude.{OnErr, OnOk}
use Rattle.smt_terms.specs.Contents.{Contents}
use Rattle.smt_terms.specs.Library.{Holds}
use Rattle.smt_terms.specs.Signature.{Entry, Signature, with_entries, with_entry}

-- the contents are those of a script
abbrev pub AreOfScript : Contents → Type 0
AreOfScript c = (s : Signature) × Holds c s × (s.elements ≡ None)

-- so they stay
pub stands : {A F : Type 0} (result : Result A F) (before after : Contents) (Is : Signature → Entry → Type 0)
    → OnOk result ((s : Signature) → Holds before s → (e : Entry) × Is s e × Holds after (with_entry s e))
    → OnErr result ((s : Signature) → Holds before s → Holds after s) → AreOfScript before → AreOfScript after
stands (Ok a) before after Is declared unchanged h = let d = declared h.0 h.1 in (with_entry h.0 d.0, d.2, h.2)
stands (Err f) before after Is declared unchanged h = (h.0, unchanged h.0 h.1, h.2)

pub stands_labelled : {A F : Type 0} (result : Result A F) (before after : Contents)
    (Is : Signature → List Entry → Type 0)
    → OnOk result ((s : Signature) → Holds before s → (es : List Entry) × Is s es × Holds after (with_entries s es))
    → OnErr result ((s : Signature) → Holds before s → Holds after s) → AreOfScript before → AreOfScript after
stands_labelled (Ok a) before after Is asserted unchanged h =
    let d = asserted h.0 h.1 in (with_entries h.0 d.0, d.2, h.2)
stands_labelled (Err f) before after Is asserted unchanged h = (h.0, unchanged h.0 h.1, h.2)
