-- What a row stands for, as rows and lists grow.
use Rattle.std.proofs.Common.{◌≡◌, ◌<◌, ℕ, List, length, slice_get, get_or, Option, Some, option_map, refl}
use Rattle.std.proofs.Common.{ap, ◌∙◌, arith}
use Rattle.smt_theory.specs.declared.op.CoreOp.TheVariants.{True}
use Rattle.smt_theory.specs.declared.op.Op.{Op}
use Rattle.smt_theory.specs.declared.op.Op.TheVariants.{Core}
use Rattle.smt_nodes.specs.Internal.Annotations.{IsAnnotated, IsOwn, around_of, inner, stored_in}
use Rattle.smt_nodes.specs.Internal.Lists.{Grows, IsHeld, IsUpTo, Lists, before, lengths, node_of}
use Rattle.smt_theory.specs.PlainOp.{op_of_plain}
use Rattle.smt_nodes.specs.Internal.Rows.{IsSound, row_view}
use Rattle.smt_nodes.specs.Node as spec
use Rattle.smt_nodes.specs.declared.annotated.AnnotatedNode.{AnnotatedNode}
use Rattle.smt_nodes.specs.declared.rows.Ends.{Ends}
use Rattle.smt_nodes.specs.declared.rows.Stored.{Stored}
use Rattle.smt_nodes.specs.declared.rows.Stored.TheVariants.{Literal, Large, Element, Slot, Plain, Numbered}
use Rattle.smt_nodes.specs.declared.rows.Stored.TheVariants.{Declared}
use Rattle.smt_nodes.specs.declared.rows.Stored.TheVariants.{Defined, Let, Annotated}
use Rattle.smt_nodes.specs.declared.rows.StoredRow.{StoredRow}
use Rattle.smt_nodes.proofs.PlaceLemmas.{Keeps, before_kept, kept_place, read_kept}

-- the node of a row stays as the lists grow
pub node_kept : (t u : Lists) (ends : Ends) (s : Stored) → IsHeld ends s → IsUpTo ends (lengths t) → Grows t u
    → node_of u ends s ≡ node_of t ends s
node_kept t u ends (Literal kind n number) held within more =
    ap (λ ds. spec.Literal kind ds) (before_kept n ends.digits t.digits u.digits within.digits more.digits)
node_kept t u ends (Large kind n place) held within more =
    ap (λ ds. spec.Literal kind ds) (before_kept n ends.digits t.digits u.digits within.digits more.digits)
node_kept t u ends (Element n number) held within more =
    ap (λ ds. spec.Element ds) (before_kept n ends.digits t.digits u.digits within.digits more.digits)
node_kept t u ends (Slot place) held within more = refl
node_kept t u ends (Plain op n) held within more =
    ap (λ is. spec.Apply (op_of_plain op) is)
    (before_kept n ends.parts t.parts u.parts within.parts more.parts)
node_kept t u ends (Numbered place n) held within more =
    let there : place < length t.ops = omega (arith, held.ops, within.ops) in
    let op : get_or u.ops place (Core True) ≡ get_or t.ops place (Core True) =
    read_kept t.ops u.ops place (Core True) (Core True) there more.ops in
    let parts : before n ends.parts u.parts ≡ before n ends.parts t.parts =
    before_kept n ends.parts t.parts u.parts within.parts more.parts in
    ap (λ (o : Op). spec.Apply o (before n ends.parts u.parts)) op
    ∙ ap (λ (is : List ℕ). spec.Apply (get_or t.ops place (Core True)) is) parts
node_kept t u ends (Declared place n) held within more =
    ap (λ is. spec.Declared place is) (before_kept n ends.parts t.parts u.parts within.parts more.parts)
node_kept t u ends (Defined place n) held within more =
    ap (λ is. spec.Defined place is) (before_kept n ends.parts t.parts u.parts within.parts more.parts)
node_kept t u ends (Let n body) held within more =
    ap (λ is. spec.Let is body) (before_kept n ends.parts t.parts u.parts within.parts more.parts)
node_kept t u ends (Annotated place around) held within more = refl

-- what is stored for a node itself stays, where what belongs to its row does
pub inner_kept : (nodes left : List AnnotatedNode) (row : ℕ) (s : Stored) → Keeps (λ x. x.row) nodes left row
    → IsOwn nodes row s → inner left s ≡ inner nodes s
inner_kept nodes left row (Annotated place around) keeps own =
    ap (λ (o : Option AnnotatedNode). stored_in o) (kept_place (λ x. x.row) nodes left row place keeps (own place refl))
inner_kept nodes left row _ keeps own = refl

-- and it is still the row's own
pub own_kept : (nodes left : List AnnotatedNode) (row : ℕ) (s : Stored) → Keeps (λ x. x.row) nodes left row
    → IsOwn nodes row s → IsOwn left row s
own_kept nodes left row s keeps own = λ place at.
    ap (λ (o : Option AnnotatedNode). option_map (λ x. x.row) o)
    (kept_place (λ x. x.row) nodes left row place keeps (own place at)) ∙ own place at

-- what a row stands for stays as the lists grow
pub row_kept : (rows : List StoredRow) (t u : Lists) (nodes left : List AnnotatedNode) (i : ℕ) (r : StoredRow)
    → IsSound rows t nodes → Grows t u → Keeps (λ x. x.row) nodes left i → slice_get rows i ≡ Some r
    → row_view u left r ≡ row_view t nodes r
row_kept rows t u nodes left i r sound grown keeps at =
    let here : node_of u r.ends (inner left r.stored) ≡ node_of t r.ends (inner nodes r.stored) =
    ap (λ (s : Stored). node_of u r.ends s) (inner_kept nodes left i r.stored keeps (sound.own i r at))
    ∙ node_kept t u r.ends (inner nodes r.stored) (sound.held i r at) (sound.within i r at) grown in
    ap (λ (n : spec.Node). record { node = n; around = around_of r.stored }) here

-- a row of which this is stored
pub stored_view : (t : Lists) (nodes : List AnnotatedNode) (row count : ℕ) (bare : Stored) (r : StoredRow)
    → r.ends ≡ lengths t → IsAnnotated nodes row bare count r.stored
    → row_view t nodes r ≡ record { node = node_of t (lengths t) bare; around = count }
stored_view t nodes row count bare r ends stored =
    let node : node_of t r.ends (inner nodes r.stored) ≡ node_of t (lengths t) bare =
    ap (λ (s : Stored). node_of t r.ends s) stored.node ∙ ap (λ (e : Ends). node_of t e bare) ends in
    let around : around_of r.stored ≡ count = stored.around in
    λ k. record { node = node k; around = around k }
