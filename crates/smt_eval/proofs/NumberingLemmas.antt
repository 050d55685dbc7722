-- Where elements of declared sorts have other names, nodes have their values under these names.
use Rattle.std.proofs.Common.{◌≡◌, ℕ, zero, suc, ◌+◌, Bool, true, false, cond, List, [], ◌∷◌, ◌++◌, map}
use Rattle.std.proofs.Common.{Option, Some, None, option_map, slice_get, refl, ap, ap₂, sym, ◌∙◌, length, nat_eq, nat_lt}
use Rattle.std.proofs.lemmas.List.{length-map, map-append}
use Rattle.std.proofs.lemmas.Option.{slice_get-map}
use Rattle.std.specs.Prelude.{unwrap_or}
use Rattle.smt_names.specs.Places.{place_of}
use Rattle.smt_values.specs.Element.{Abstract, Naming}
use Rattle.smt_values.specs.Element as plain
use Rattle.smt_values.specs.ElementNumbers.{numbered, numbered_in}
use Rattle.smt_values.specs.Literals.{literal_element}
use Rattle.smt_arrays.specs.Element.{Element, Plain as NoArray}
use Rattle.smt_arrays.specs.Known.{known_step}
use Rattle.smt_nodes.specs.Node as written
use Rattle.smt_nodes.specs.Node.{Row}
use Rattle.smt_machine.specs.Given.{fill, given, open_everywhere}
use Rattle.smt_machine.specs.Nodes.{Frame, Giving, Node, Known, Slot, Apply, Call, Let, at_place, node_value, part, parts}
use Rattle.smt_machine.specs.Tables.{call, resolved, shifted, unnamed}
use Rattle.smt_terms.specs.Denotes.{Table}
use Rattle.smt_eval.specs.Known.{by_name}
use Rattle.smt_eval.specs.NodeValues.{nodes_over}
use Rattle.smt_eval.specs.Numbering.{in_numbers, number_name, numbering}
use Rattle.smt_eval.specs.Renaming.{IsInjective, Renaming, renamed, renamed_plain}
use Rattle.smt_eval.proofs.ArrayNumberingLemmas.{step_under}
use Rattle.smt_eval.proofs.PlainNumberingLemmas.{literal_under, under as plain_under}

module _ (g : Renaming) (injective : IsInjective g) where
  -- what is known of an element, under its other name
  abbrev under : Option Element → Option Element
  under v = option_map (renamed g) v

  -- ---- nodes

  abbrev other : Node → Node
  other (Known v) = Known (under v)
  other (Slot k) = Slot k
  other (Apply op args) = Apply op args
  other (Call body args) = Call body args
  other (Let values body) = Let values body

  -- the first gives what the second does, under the other names
  abbrev IsUnder : Giving → Giving → Type 0
  IsUnder f h = (j : ℕ) (frame : Frame) → f j (map under frame) ≡ under (h j frame)

  place_under : (frame : Frame) (k : ℕ) → at_place (map under frame) k ≡ under (at_place frame k)
  place_under frame k =
      ap (λ o. unwrap_or o None) (slice_get-map under frame k) ∙ by (slice_get frame k)
    where
      by : (o : Option (Option Element)) → unwrap_or (option_map under o) None ≡ under (unwrap_or o None)
      by None = refl
      by (Some v) = refl

  part_under : (i : ℕ) (f h : Giving) (frame : Frame) (j : ℕ) → IsUnder f h
      → part i f (map under frame) j ≡ under (part i h frame j)
  part_under i f h frame j is = by (nat_lt j i)
    where
      by : (b : Bool) → cond b (f j (map under frame)) None ≡ under (cond b (h j frame) None)
      by true = is j frame
      by false = refl

  parts_under : (i : ℕ) (f h : Giving) (frame : Frame) (js : List ℕ) → IsUnder f h
      → parts i f (map under frame) js ≡ map under (parts i h frame js)
  parts_under i f h frame [] is = refl
  parts_under i f h frame (j ∷ js) is =
      ap₂ (λ v rest. v ∷ rest) (part_under i f h frame j is) (parts_under i f h frame js is)

  node_under : (i : ℕ) (f h : Giving) (frame : Frame) (o : Option Node) → IsUnder f h
      → node_value i f (map under frame) (option_map other o) ≡ under (node_value i h frame o)
  node_under i f h frame None is = refl
  node_under i f h frame (Some (Known v)) is = refl
  node_under i f h frame (Some (Slot k)) is = place_under frame k
  node_under i f h frame (Some (Apply op args)) is =
      ap (known_step op) (parts_under i f h frame args is) ∙ step_under g injective op (parts i h frame args)
  node_under i f h frame (Some (Call body args)) is =
      ap (λ vs. part i f vs body) (parts_under i f h frame args is)
      ∙ part_under i f h (parts i h frame args) body is
  node_under i f h frame (Some (Let values body)) is =
      ap (λ vs. part i f (map under frame ++ vs) body) (parts_under i f h frame values is)
      ∙ ap (λ vs. part i f vs body) (sym (map-append under frame (parts i h frame values)))
      ∙ part_under i f h (frame ++ parts i h frame values) body is

  abbrev filled : List Node → ℕ → Giving
  filled nodes n = fill open_everywhere (λ f i frame. node_value i f frame (slice_get nodes i)) n

  next_under : (nodes : List Node) (n i : ℕ) (frame : Frame) (b : Bool)
      → IsUnder (filled (map other nodes) n) (filled nodes n)
      → cond b (λ vs. node_value n (filled (map other nodes) n) vs (slice_get (map other nodes) n))
      (filled (map other nodes) n i) (map under frame)
      ≡ under (cond b (λ vs. node_value n (filled nodes n) vs (slice_get nodes n)) (filled nodes n i) frame)
  next_under nodes n i frame true before =
      ap (node_value n (filled (map other nodes) n) (map under frame)) (slice_get-map other nodes n)
      ∙ node_under n (filled (map other nodes) n) (filled nodes n) frame (slice_get nodes n) before
  next_under nodes n i frame false before = before i frame

  filled_under : (nodes : List Node) (n : ℕ) → IsUnder (filled (map other nodes) n) (filled nodes n)
  filled_under nodes zero i frame = refl
  filled_under nodes (suc n) i frame = next_under nodes n i frame (nat_eq i n) (filled_under nodes n)

  pub given_under : (nodes : List Node) (i : ℕ) (frame : Frame)
      → given (map other nodes) i (map under frame) ≡ under (given nodes i frame)
  unfolding given
  given_under nodes i frame =
      ap (λ n. filled (map other nodes) n i (map under frame)) (length-map nodes other)
      ∙ filled_under nodes (length nodes) i frame

  -- ---- nodes as they are written

  -- what is no array has no other name but its own
  lifted_under : (o : Option plain.Element) → plain_under g injective o ≡ o
      → option_map NoArray o ≡ under (option_map NoArray o)
  lifted_under o stays = ap (option_map NoArray) (sym stays) ∙ by o
    where
      by : (o : Option plain.Element) → option_map NoArray (plain_under g injective o) ≡ under (option_map NoArray o)
      by None = refl
      by (Some e) = refl

  call_under : (o : Option ℕ) (args : List ℕ) → call o args ≡ other (call o args)
  call_under None args = refl
  call_under (Some body) args = refl

  -- a node of a script, which names no element
  closed_under : (off : ℕ) (bodies declared : List ℕ) (n : written.Node)
      → resolved unnamed off bodies declared n ≡ other (resolved unnamed off bodies declared n)
  closed_under off bodies declared (written.Literal kind digits) = ap Known (lifted_under (literal_element kind digits) (literal_under g injective kind digits))
  closed_under off bodies declared (written.Element x) = refl
  closed_under off bodies declared (written.Slot k) = refl
  closed_under off bodies declared (written.Apply op args) = refl
  closed_under off bodies declared (written.Declared place args) =
      call_under (slice_get declared place) (shifted off args)
  closed_under off bodies declared (written.Defined place args) =
      call_under (option_map (λ j. off + j) (slice_get bodies place)) (shifted off args)
  closed_under off bodies declared (written.Let values body) = refl

  -- and one of a model, whose elements have these names
  named_under : (naming : Naming) (off : ℕ) (bodies declared : List ℕ) (n : written.Node)
      → ((x : List ℕ) → n ≡ written.Element x → naming x ≡ Some (Abstract (g x)))
      → resolved naming off bodies declared n ≡ other (resolved by_name off bodies declared n)
  named_under naming off bodies declared (written.Literal kind digits) is = ap Known (lifted_under (literal_element kind digits) (literal_under g injective kind digits))
  named_under naming off bodies declared (written.Element x) is = ap (λ o. Known (option_map NoArray o)) (is x refl)
  named_under naming off bodies declared (written.Slot k) is = refl
  named_under naming off bodies declared (written.Apply op args) is = refl
  named_under naming off bodies declared (written.Declared place args) is =
      call_under (slice_get declared place) (shifted off args)
  named_under naming off bodies declared (written.Defined place args) is =
      call_under (option_map (λ j. off + j) (slice_get bodies place)) (shifted off args)
  named_under naming off bodies declared (written.Let values body) is = refl

  closed_rows : (off : ℕ) (bodies declared : List ℕ) (rows : List Row)
      → map (λ (r : Row). resolved unnamed off bodies declared r.node) rows
      ≡ map other (map (λ (r : Row). resolved unnamed off bodies declared r.node) rows)
  closed_rows off bodies declared [] = refl
  closed_rows off bodies declared (r ∷ rows) =
      ap₂ (λ n rest. n ∷ rest) (closed_under off bodies declared r.node) (closed_rows off bodies declared rows)

  named_rows : (naming : Naming) (off : ℕ) (bodies declared : List ℕ) (rows : List Row)
      → ((k : ℕ) (r : Row) (x : List ℕ) → slice_get rows k ≡ Some r → r.node ≡ written.Element x
      → naming x ≡ Some (Abstract (g x)))
      → map (λ (r : Row). resolved naming off bodies declared r.node) rows
      ≡ map other (map (λ (r : Row). resolved by_name off bodies declared r.node) rows)
  named_rows naming off bodies declared [] is = refl
  named_rows naming off bodies declared (r ∷ rows) is =
      ap₂ (λ n rest. n ∷ rest) (named_under naming off bodies declared r.node (λ x. is 0 r x refl))
      (named_rows naming off bodies declared rows (λ k q x at. is (suc k) q x at))

  pub nodes_under : (naming : Naming) (model script : Table) (declared : List ℕ) (i : ℕ) (frame : Frame)
      → ((k : ℕ) (r : Row) (x : List ℕ) → slice_get model.rows k ≡ Some r → r.node ≡ written.Element x
      → naming x ≡ Some (Abstract (g x)))
      → given (nodes_over naming model script declared) i (map under frame)
      ≡ under (given (nodes_over by_name model script declared) i frame)
  nodes_under naming model script declared i frame is =
      let count = length model.rows in
      let first : List Node = map (λ (r : Row). resolved by_name 0 model.bodies [] r.node) model.rows in
      let second : List Node = map (λ (r : Row). resolved unnamed count script.bodies declared r.node) script.rows in
      ap (λ ns. given ns i (map under frame))
      (ap₂ (λ a b. a ++ b) (named_rows naming 0 model.bodies [] model.rows is)
      (closed_rows count script.bodies declared script.rows) ∙ sym (map-append other first second))
      ∙ given_under (nodes_over by_name model script declared) i frame

-- ---- numbers

-- a place is that of one name
abbrev pub PlacesAreOfOneName : Type 0
PlacesAreOfOneName = (names : List (List ℕ)) (x y : List ℕ) (place : ℕ) → place_of names x ≡ Some place
    → place_of names y ≡ Some place → x ≡ y

-- two names have two numbers, or are without
numbers_differ : PlacesAreOfOneName → (names : List (List ℕ)) → IsInjective (numbering names)
numbers_differ one names x y = by (place_of names x) refl (place_of names y) refl
  where
    by : (o : Option ℕ) → place_of names x ≡ o → (p : Option ℕ) → place_of names y ≡ p
        → number_name x o ≡ number_name y p → x ≡ y
    by (Some k) at (Some j) there same =
        let number : k ≡ j = cc in one names x y k at (there ∙ ap (λ n. Some n) (sym number))
    by (Some k) at None there same = cc
    by None at (Some j) there same = cc
    by None at None there same = cc

-- a name that has a number is known by it
known_by_number : (names : List (List ℕ)) (x : List ℕ) (place : ℕ) → place_of names x ≡ Some place
    → numbered_in names x ≡ Some (Abstract (numbering names x))
known_by_number names x place at =
    ap (option_map numbered) at ∙ sym (ap (λ o. Some (Abstract (number_name x o))) at)

pub numbers_for_names : PlacesAreOfOneName → (model script : Table) (declared : List ℕ) (names : List (List ℕ))
    (i : ℕ) (frame : Frame)
    → ((k : ℕ) (row : Row) (x : List ℕ) → slice_get model.rows k ≡ Some row → row.node ≡ written.Element x
    → (place : ℕ) × (place_of names x ≡ Some place))
    → given (nodes_over (numbered_in names) model script declared) i (map (in_numbers names) frame)
    ≡ in_numbers names (given (nodes_over by_name model script declared) i frame)
numbers_for_names one model script declared names i frame has =
    nodes_under (numbering names) (numbers_differ one names) (numbered_in names) model script declared i frame
    (λ k r x at is. let h = has k r x at is in known_by_number names x h.0 h.1)
