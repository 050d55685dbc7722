use Rattle.std.proofs.Common.{◌≡◌, Some, subst}
use Rattle.std.specs.Map.{update}
use Rattle.std.specs.Prelude.{bytes_eq}
use Rattle.smt_names.specs.Internal.Order.{place_in}
use Rattle.smt_names.proofs.OrderLemmas.{changed}
use Rattle.smt_names.proofs.order.insert.Goals as goal

pub returns-clause-noted : goal.returns-clause-noted
returns-clause-noted c other =
    subst (λ name. place_in c.insert.new.self other
    ≡ update bytes_eq (place_in c.args.places.now) name (Some c.args.place) other)
    c.in_ok-key.ensures.items
    (changed c.args.places.now c.insert.new.self c.in_ok-key.key.items (Some c.args.place) c.in-Ok.ensures.updates other)
