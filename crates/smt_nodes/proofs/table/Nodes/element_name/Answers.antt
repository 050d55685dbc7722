use Rattle.std.proofs.Common.{◌≡◌, ◌<◌, ◌≤◌, ℕ, [], length, ap, sym, ◌∙◌, arith, rules}
use Rattle.std.proofs.lemmas.Option.{slice_get-get_or, slice_get_past}
use Rattle.std.specs.Prelude.{Some}
use Rattle.smt_nodes.specs.Nodes.{names_of}
use Rattle.smt_nodes.proofs.table.Nodes.element_name.Goals as goal

pub returns-then-element-len : goal.returns-then-element-len
unfolding names_of
returns-then-element-len c =
    let names = c.args.self.now.names in
    let within : c.args.element < length names = search rules in
    ap Some c.name.ensures ∙ sym (slice_get-get_or names c.args.element [] within)

pub returns-else-element-len : goal.returns-else-element-len
unfolding names_of
returns-else-element-len c =
    let names = c.args.self.now.names in
    let past : length names ≤ c.args.element = search rules in
    sym (slice_get_past names c.args.element past)
