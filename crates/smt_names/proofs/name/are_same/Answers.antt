use Rattle.std.proofs.Common.{◌∙◌, ap, sym, length}
use Rattle.std.proofs.lemmas.Bool.{le-leb}
use Rattle.smt_names.specs.Internal.Keys.{key_of}
use Rattle.smt_names.proofs.KeyLemmas.{key-same, other_names, same_names}
use Rattle.smt_names.proofs.name.are_same.Goals as goal
use Rattle.smt_names.proofs.name.are_same.Goals.{then-key-other_key-via-then-key-other_key, then-key-other_key-via-else-key-other_key+then-name-other}

pub returns-then-key-other_key : goal.returns-then-key-other_key
returns-then-key-other_key c =
    let name = c.args.name.now in
    let other = c.args.other.now in
    elim c.then-key-other_key.branch [
      | then-key-other_key-via-then-key-other_key w ↦
          other_names name other
          (λ e. w.if-key-other_key.true (c.requires.key.keyed ∙ ap (λ n. key_of n) e ∙ sym c.requires.other.keyed))
      | then-key-other_key-via-else-key-other_key+then-name-other w ↦
          other_names name other (λ e. w.if-name-other.true (ap length e))
    ]

pub returns-then-name-le8 : goal.returns-then-name-le8
returns-then-name-le8 c =
    let name = c.args.name.now in
    let other = c.args.other.now in
    le-leb (length name) 8 c.if-name-le8.true
    ∙ same_names name other
    (key-same name other c.requires.key.bytes c.requires.other.bytes c.if-name-other.false c.if-name-le8.true
    (sym c.requires.key.keyed ∙ c.if-key-other_key.false ∙ c.requires.other.keyed))
