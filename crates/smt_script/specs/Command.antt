-- SMT-LIB 2.6, section 4.2: the trees that are commands. Which commands are supported is this project's
-- choice. In the profile Wide some forms of SMT-LIB 2.7 and of solvers are commands besides.
use Rattle.std.specs.Prelude.{ℕ, List, [], Bool, true, false, Option, Some, None, is_some, option_map}
use Rattle.std.specs.Prelude.{option_and_then, Result, Err, ok_or, bytes_eq, codes, if◌then◌else◌}
use Rattle.smt_trees.specs.Sexp.{Sexp, Sexps, Atom, Reserved, Items, Nil, Cons, Symbol, is_symbol}
use Rattle.smt_trees.specs.declared.reserved.Word.{Word}
use Rattle.smt_trees.specs.declared.reserved.Word.TheVariants as words
use Rattle.smt_theory.specs.Theories.{theories_named}
use Rattle.smt_theory.specs.declared.profile.Profile.{Profile}
use Rattle.smt_theory.specs.declared.profile.Profile.TheVariants.{Base, Wide}
use Rattle.smt_script.specs.declared.command.Kind.{Kind}
use Rattle.smt_script.specs.declared.command.Kind.TheVariants as kinds
use Rattle.smt_script.specs.Parts.{is_none, keyword_and_value, list_and_tree, name_and_abbreviated, name_and_zero}
use Rattle.smt_script.specs.Parts.{name_and_definition, name_and_rank, name_and_sort, name_and_two, one_keyword}
use Rattle.smt_script.specs.Parts.{any_list, one_list, one_list_of_literals}
use Rattle.smt_script.specs.Parts.{numeral_or_one, one_numeral, one_symbol, one_text, one_tree, truth_of_value}
use Rattle.smt_faults.specs.declared.command_flaw.CommandFlaw.{CommandFlaw}
use Rattle.smt_faults.specs.declared.command_flaw.CommandFlaw.TheVariants.{Form, Unsupported}

-- what a solver is asked for, beside models
pub data Query : Type 0 where
  Values : (terms : Sexps) → Query
  Info : (keyword : List ℕ) → Query
  Setting : (keyword : List ℕ) → Query
  Assertions : Query
  Assignment : Query
  Proof : Query
  UnsatCore : Query
  UnsatAssumptions : Query

pub data Command : Type 0 where
  SetLogic : (name : List ℕ) → Command
  SetPrintSuccess : (on : Bool) → Command
  SetGlobalDeclarations : (on : Bool) → Command
  SetOption : (keyword : List ℕ) → (value : Option Sexp) → Command
  SetInfo : (keyword : List ℕ) → (value : Option Sexp) → Command
  DeclareConst : (name : List ℕ) → (sort : Sexp) → Command
  DeclareFun : (name : List ℕ) → (parameters : Sexps) → (sort : Sexp) → Command
  DefineFun : (name : List ℕ) → (parameters : List (List ℕ × Sexp)) → (sort : Sexp) → (body : Sexp) → Command
  DeclareSort : (name : List ℕ) → Command
  DefineSort : (name : List ℕ) → (sort : Sexp) → Command
  Assert : (term : Sexp) → Command
  Push : (levels : ℕ) → Command
  Pop : (levels : ℕ) → Command
  Reset : Command
  ResetAssertions : Command
  Exit : Command
  CheckSat : Command
  CheckSatAssuming : (literals : Sexps) → Command
  GetModel : Command
  Echo : (text : List ℕ) → Command
  Get : (query : Query) → Command

-- ---- options

abbrev pub is_print_success : List ℕ → Bool
is_print_success keyword = bytes_eq keyword (codes "print-success")

abbrev pub is_global_declarations : List ℕ → Bool
is_global_declarations keyword = bytes_eq keyword (codes "global-declarations")

-- the command that sets an option to a value, or to none
abbrev pub option_setting : List ℕ × Option Sexp → Option Command
option_setting p =
    if is_print_success p.0 then option_map SetPrintSuccess (truth_of_value p.1)
    else if is_global_declarations p.0 then option_map SetGlobalDeclarations (truth_of_value p.1)
    else Some (SetOption p.0 p.1)

-- ---- commands

-- a command that has no parts
abbrev pub alone : Command → Sexps → Option Command
alone command parts = if is_none parts then Some command else None

-- how many levels a `push` or a `pop` with these parts names: in Wide one where there are none
abbrev pub levels_of : Profile → Sexps → Option ℕ
levels_of Base parts = one_numeral parts
levels_of Wide parts = numeral_or_one parts

-- what a `check-sat-assuming` with these parts assumes: literals, and in Wide any terms
abbrev pub assumed_of : Profile → Sexps → Option Sexps
assumed_of Base parts = one_list_of_literals parts
assumed_of Wide parts = any_list parts

-- the name of the sort that a `declare-sort` with these parts declares: in Wide, where it has no parameters
abbrev pub sort_declared_by : Profile → Sexps → Option (List ℕ)
sort_declared_by Base parts = None
sort_declared_by Wide parts = name_and_zero parts

-- the command of this word with these parts behind it
abbrev pub command_with : Profile → Word → Sexps → Option Command
command_with profile words.SetLogic parts = option_map SetLogic (one_symbol parts)
command_with profile words.SetOption parts = option_and_then option_setting (keyword_and_value parts)
command_with profile words.SetInfo parts = option_map (λ p. SetInfo p.0 p.1) (keyword_and_value parts)
command_with profile words.DeclareConst parts = option_map (λ p. DeclareConst p.0 p.1) (name_and_sort parts)
command_with profile words.DeclareFun parts = option_map (λ p. DeclareFun p.0 p.1.0 p.1.1) (name_and_rank parts)
command_with profile words.DefineFun parts =
    option_map (λ p. DefineFun p.0 p.1.0 p.1.1.0 p.1.1.1) (name_and_definition parts)
command_with profile words.DeclareSort parts = option_map DeclareSort (sort_declared_by profile parts)
command_with profile words.DefineSort parts = option_map (λ p. DefineSort p.0 p.1) (name_and_abbreviated parts)
command_with profile words.Assert parts = option_map Assert (one_tree parts)
command_with profile words.Push parts = option_map Push (levels_of profile parts)
command_with profile words.Pop parts = option_map Pop (levels_of profile parts)
command_with profile words.Reset parts = alone Reset parts
command_with profile words.ResetAssertions parts = alone ResetAssertions parts
command_with profile words.Exit parts = alone Exit parts
command_with profile words.CheckSat parts = alone CheckSat parts
command_with profile words.CheckSatAssuming parts = option_map CheckSatAssuming (assumed_of profile parts)
command_with profile words.GetModel parts = alone GetModel parts
command_with profile words.Echo parts = option_map Echo (one_text parts)
command_with profile words.GetValue parts = option_map (λ terms. Get (Values terms)) (one_list parts)
command_with profile words.GetInfo parts = option_map (λ k. Get (Info k)) (one_keyword parts)
command_with profile words.GetOption parts = option_map (λ k. Get (Setting k)) (one_keyword parts)
command_with profile words.GetAssertions parts = alone (Get Assertions) parts
command_with profile words.GetAssignment parts = alone (Get Assignment) parts
command_with profile words.GetProof parts = alone (Get Proof) parts
command_with profile words.GetUnsatCore parts = alone (Get UnsatCore) parts
command_with profile words.GetUnsatAssumptions parts = alone (Get UnsatAssumptions) parts
command_with profile _ parts = None

-- whether these parts of a `define-sort` are in form, its parameters being any trees
abbrev pub is_abbreviation : Sexps → Bool
is_abbreviation (Cons (Atom Symbol x) rest) = is_some (list_and_tree rest)
is_abbreviation _ = false

-- what is wrong with a list that begins with this word, and is no command: some commands of the standard are
-- not supported, whatever follows their word; others with some parts
abbrev pub refusal : Word → Sexps → CommandFlaw
refusal words.DeclareDatatype parts = Unsupported
refusal words.DeclareDatatypes parts = Unsupported
refusal words.DeclareSort parts = Unsupported
refusal words.DefineFunRec parts = Unsupported
refusal words.DefineFunsRec parts = Unsupported
refusal words.DefineSort parts = if is_abbreviation parts then Unsupported else Form
refusal _ parts = Form

-- the definition of a constant with these parts: that of a function without parameters
abbrev pub constant_defined : Sexps → Option Command
constant_defined parts = option_map (λ p. DefineFun p.0 [] p.1.0 p.1.1) (name_and_two parts)

-- whether a list that begins with this tree defines a constant: in Wide by a name that is no reserved word
abbrev pub is_constant_definition : Profile → Sexp → Bool
is_constant_definition Base head = false
is_constant_definition Wide head = is_symbol (codes "define-const") head

-- the command of a list that begins with a tree that is no reserved word
abbrev pub command_named : Profile → Sexp → Sexps → Option Command
command_named profile head parts = if is_constant_definition profile head then constant_defined parts else None

-- the command that a tree is, or why it is refused
abbrev pub command_of : Profile → Sexp → Result Command CommandFlaw
command_of profile (Items (Cons (Reserved word) parts)) =
    ok_or (command_with profile word parts) (refusal word parts)
command_of profile (Items (Cons (Atom kind x) parts)) = ok_or (command_named profile (Atom kind x) parts) Form
command_of profile _ = Err Form

-- ---- what commands are

-- whether the profile Wide has a logic of this name
unfoldable pub is_known_logic : List ℕ → Bool
is_known_logic name = is_some (theories_named Wide name)

-- the kind of a command: all that is asked of commands but for what they do to the stack is asked of their
-- kinds
abbrev pub kind_of : Command → Kind
kind_of (SetLogic name) = kinds.Logic (is_known_logic name)
kind_of (SetPrintSuccess on) = kinds.PrintSuccess on
kind_of (SetGlobalDeclarations on) = kinds.Setting
kind_of (SetOption keyword value) = kinds.Setting
kind_of (SetInfo keyword value) = kinds.Setting
kind_of (DeclareConst x sort) = kinds.Change
kind_of (DeclareFun x parameters sort) = kinds.Change
kind_of (DefineFun x parameters sort body) = kinds.Change
kind_of (DeclareSort x) = kinds.Change
kind_of (DefineSort x sort) = kinds.Change
kind_of (Assert term) = kinds.Change
kind_of (Push levels) = kinds.Change
kind_of (Pop levels) = kinds.Change
kind_of Reset = kinds.Reset
kind_of ResetAssertions = kinds.Change
kind_of Exit = kinds.Exit
kind_of CheckSat = kinds.Check
kind_of (CheckSatAssuming literals) = kinds.Check
kind_of GetModel = kinds.Model
kind_of (Echo text) = kinds.Echo
kind_of (Get query) = kinds.Query

abbrev pub asks_check : Kind → Bool
asks_check kinds.Check = true
asks_check _ = false

-- a command that asks whether the assertions in force are satisfiable
abbrev pub is_check : Command → Bool
is_check command = asks_check (kind_of command)

abbrev pub changes_force : Kind → Bool
changes_force (kinds.Logic known) = true
changes_force kinds.Change = true
changes_force kinds.Reset = true
changes_force (kinds.PrintSuccess on) = false
changes_force kinds.Setting = false
changes_force kinds.Exit = false
changes_force kinds.Check = false
changes_force kinds.Model = false
changes_force kinds.Echo = false
changes_force kinds.Query = false

-- a command whose effect changes what is in force. (A logic is set before every check; so in a script without
-- a fault it ends no window.)
abbrev pub closes_window : Command → Bool
closes_window command = changes_force (kind_of command)

-- ---- what commands do to the stack

-- what a command adds to what is in force
pub data Addition : Type 0 where
  Declaration : (name : List ℕ) → (parameters : Sexps) → (sort : Sexp) → Addition
  Definition : (name : List ℕ) → (parameters : List (List ℕ × Sexp)) → (sort : Sexp) → (body : Sexp)
      → Addition
  SortDeclaration : (name : List ℕ) → Addition
  Abbreviation : (name : List ℕ) → (sort : Sexp) → Addition
  Assertion : (term : Sexp) → Addition

-- what a command removes of all that there was before it, at whatever level it came. (What goes with a
-- level, when `pop` removes the level, is said by the number of levels that are left.)
pub data Removes : Type 0 where
  Nothing : Removes
  AllButOptions : Removes
  Everything : Removes

-- what a command does to what is in force
pub data Effect : Type 0 where
  SetsLogic : (name : List ℕ) → Effect
  Brings : (addition : Addition) → Effect
  Pushes : (levels : ℕ) → Effect
  Pops : (levels : ℕ) → Effect
  Removing : (what : Removes) → Effect
  SetsGlobal : (on : Bool) → Effect
  Assumes : (literals : Sexps) → Effect

abbrev pub effect_of : Command → Effect
effect_of (SetLogic name) = SetsLogic name
effect_of (SetPrintSuccess on) = Removing Nothing
effect_of (SetGlobalDeclarations on) = SetsGlobal on
effect_of (SetOption keyword value) = Removing Nothing
effect_of (SetInfo keyword value) = Removing Nothing
effect_of (DeclareConst x sort) = Brings (Declaration x Nil sort)
effect_of (DeclareFun x parameters sort) = Brings (Declaration x parameters sort)
effect_of (DefineFun x parameters sort body) = Brings (Definition x parameters sort body)
effect_of (DeclareSort x) = Brings (SortDeclaration x)
effect_of (DefineSort x sort) = Brings (Abbreviation x sort)
effect_of (Assert term) = Brings (Assertion term)
effect_of (Push levels) = Pushes levels
effect_of (Pop levels) = Pops levels
effect_of Reset = Removing Everything
effect_of ResetAssertions = Removing AllButOptions
effect_of Exit = Removing Nothing
effect_of CheckSat = Removing Nothing
effect_of (CheckSatAssuming literals) = Assumes literals
effect_of GetModel = Removing Nothing
effect_of (Echo text) = Removing Nothing
effect_of (Get query) = Removing Nothing
