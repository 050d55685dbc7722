-- Symbols alone: names in force, operators and elements.
use Rattle.std.proofs.Common.{◌≡◌, ℕ, Bool, true, false, ◌||◌, List, [], Option, Some, None, is_some, ok_or, option_map}
use Rattle.std.proofs.Common.{Result, Ok, Err, refl, ap, sym, ◌∙◌}
use Rattle.smt_trees.specs.Sexp.{Sexps, Atom, Cons, Symbol}
use Rattle.smt_theory.specs.Operators.{is_plain_operator, op_by, plain_op}
use Rattle.smt_theory.specs.Words.{look_up}
use Rattle.smt_theory.specs.declared.op.Op.{Op}
use Rattle.smt_theory.specs.declared.op.OpFault.{OpFault}
use Rattle.smt_theory.specs.declared.op.OpFault.TheVariants as ops
use Rattle.smt_theory.specs.Sort.{Sort}
use Rattle.smt_faults.specs.declared.term_flaw.TermFlaw.TheVariants.{Unsupported}
use Rattle.smt_forms.specs.ElementNames.{begins_at, qualified_symbol}
use Rattle.smt_forms.specs.Identifier.{Plain}
use Rattle.smt_names.specs.Entries.{entries_of}
use Rattle.smt_nodes.specs.Node as node
use Rattle.smt_nodes.specs.Node.{Node}
use Rattle.smt_terms.specs.Checking.{sort_alone, sort_of_operator, sort_of_plain, sort_unless_element}
use Rattle.smt_terms.specs.Denotes.{Head, Table, applied_node, element_node, node_alone, node_of, qualified_node}
use Rattle.smt_terms.specs.Elements.{ElementNames, element_among, element_in, names_element, qualified_sort}
use Rattle.smt_terms.specs.Internal.LibraryView.{elements_of_library, names_of_library, rank_of}
use Rattle.smt_terms.specs.Internal.TableView.{head_of, table_of}
use Rattle.smt_terms.specs.Signature.{Names, Rank}
use Rattle.smt_terms.specs.declared.library.Library.{Library}
use Rattle.smt_terms.proofs.LibraryLemmas.{absent_itself, found}

-- ## Sorts

-- what is no element's has the sort that it has without elements
pub no_element_alone : (names : Names) (x : List ℕ) (r : Option Rank) → element_among names.elements x ≡ None
    → sort_alone names x r ≡ sort_of_plain names x r []
no_element_alone names x (Some rank) none = refl
no_element_alone names x None none = ap (λ o. sort_unless_element o (op_by names.theories x [])) none

-- so has a name in force
pub named_alone : (names : Names) (x : List ℕ) (r : Option Rank) → is_some r ≡ true
    → sort_alone names x r ≡ sort_of_plain names x r []
named_alone names x (Some rank) h = refl
named_alone names x None h = cc

-- and an operator
pub operator_alone : (names : Names) (x : List ℕ) (r : Option Rank) → is_plain_operator names.theories x ≡ true
    → sort_alone names x r ≡ sort_of_plain names x r []
operator_alone names x (Some rank) h = refl
operator_alone names x None h = by (plain_op names.theories x) (element_among names.elements x) h
  where
    by : (o : Option Op) (e : Option Sort) → is_some o ≡ true
        → sort_unless_element e (ok_or o ops.Unknown) ≡ sort_of_operator (ok_or o ops.Unknown) []
    by None e h = cc
    by (Some op) None h = refl
    by (Some op) (Some sort) h = refl

-- another symbol has the sort of the element that it is
pub element_alone : (names : Names) (x : List ℕ) (sort : Sort) (r : Option Rank) → is_some r ≡ false
    → is_plain_operator names.theories x ≡ false → element_among names.elements x ≡ Some sort
    → sort_alone names x r ≡ Ok sort
element_alone names x sort (Some rank) new free is = cc
element_alone names x sort None new free is =
    ap (λ o. sort_unless_element o (op_by names.theories x [])) is ∙ by (plain_op names.theories x) free
  where
    by : (o : Option Op) → is_some o ≡ false → sort_unless_element (Some sort) (ok_or o ops.Unknown) ≡ Ok sort
    by None h = refl
    by (Some op) h = cc

-- ## Nodes

-- where what is behind an `as` has a sort, its symbol is an element's
pub qualified_found : (elements : Option ElementNames) (ranks : List (List ℕ × Rank)) (parts : Sexps) (sort : Sort)
    (x : List ℕ) → qualified_sort elements ranks parts ≡ Ok sort → Some x ≡ qualified_symbol parts
    → qualified_node elements (qualified_symbol parts) ≡ Some (node.Element x)
qualified_found None ranks parts sort x h at = cc
qualified_found (Some elements) ranks parts sort x h at = ap (option_map node.Element) (sym at)

-- and its node
pub element_found : (library : Library) (x : List ℕ) (sort : Sort)
    → is_some (look_up (names_of_library library).ranks x) ≡ false
    → is_plain_operator library.sorts.theories x ≡ false → element_among (elements_of_library library) x ≡ Some sort
    → node_alone (table_of library) x (op_by (table_of library).theories x []) (look_up (table_of library).heads x)
    ≡ Some (node.Element x)
element_found library x sort new free is =
    ap (λ o. node_alone (table_of library) x (op_by (table_of library).theories x []) o)
    (sym (found head_of (entries_of library.names) x)
    ∙ ap (option_map head_of) (absent_itself rank_of (entries_of library.names) x (none_of _ new)))
    ∙ by (plain_op library.sorts.theories x) free ∙ ap (element_node x) is
  where
    none_of : (o : Option Rank) → is_some o ≡ false → o ≡ None
    none_of None h = refl
    none_of (Some r) h = cc

    by : (o : Option Op) → is_some o ≡ false
        → node_alone (table_of library) x (ok_or o ops.Unknown) None
        ≡ element_node x (element_among (elements_of_library library) x)
    by None h = refl
    by (Some op) h = cc

-- the node of an identifier without arguments is that of the symbol alone
pub alone_applied : (t : Table) (x : List ℕ) (n : Node) → node_of t (Plain x) [] ≡ Some n
    → node_alone t x (op_by t.theories x []) (look_up t.heads x) ≡ Some n
alone_applied t x n = by (op_by t.theories x []) (look_up t.heads x)
  where
    by : (r : Result Op OpFault) (o : Option Head) → applied_node r o [] ≡ Some n → node_alone t x r o ≡ Some n
    by (Ok op) o h = h
    by (Err fault) (Some head) h = h
    by (Err fault) None h = cc

-- ## Elements with their sorts

-- what does not begin with a symbol names none
pub no_symbol : (elements : Option ElementNames) (ranks : List (List ℕ × Rank)) (parts : Sexps)
    → None ≡ qualified_symbol parts → qualified_sort elements ranks parts ≡ Err Unsupported
no_symbol None ranks parts h = refl
no_symbol (Some elements) ranks (Cons (Atom Symbol x) rest) h = cc
no_symbol (Some elements) ranks _ h = refl

-- a symbol that names no element at all is none alone
pub no_element : (elements : Option ElementNames) (x : List ℕ) → names_element elements x ≡ false
    → element_among elements x ≡ None
no_element None x h = refl
no_element (Some elements) x h = by (begins_at x) (element_in elements x) h
  where
    by : (b : Bool) (o : Option Sort) → (b || is_some o) ≡ false → o ≡ None
    by true o g = cc
    by false None g = refl
    by false (Some sort) g = cc
