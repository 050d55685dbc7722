-- What a contract sees of a command.
use Rattle.std.specs.Prelude.{ℕ, List, [], Option, None, Some, option_map}
use Rattle.std.specs.Str.Parse.{digits_value}
use Rattle.smt_trees.specs.View.{sexp_of, sexps_of}
use Rattle.smt_forms.specs.Bindings.{named_trees}
use Rattle.smt_script.specs.Command as spec
use Rattle.smt_script.specs.declared.command.Command.{Command}
use Rattle.smt_script.specs.declared.command.Command.TheVariants.{SetLogic, SetPrintSuccess}
use Rattle.smt_script.specs.declared.command.Command.TheVariants.{SetGlobalDeclarations, SetOption, SetInfo}
use Rattle.smt_script.specs.declared.command.Command.TheVariants.{DeclareConst, DeclareFun, DefineConst}
use Rattle.smt_script.specs.declared.command.Command.TheVariants.{DefineFun, DeclareSort, DefineSort, Assert, Push, Pop}
use Rattle.smt_script.specs.declared.command.Command.TheVariants.{Reset, ResetAssertions, Exit, CheckSat, GetModel}
use Rattle.smt_script.specs.declared.command.Command.TheVariants.{CheckSatAssuming}
use Rattle.smt_script.specs.declared.command.Command.TheVariants.{Echo, Get}
use Rattle.smt_script.specs.declared.command.Query.{Query}
use Rattle.smt_script.specs.declared.command.Query.TheVariants.{Values, Info, Setting, Assertions, Assignment}
use Rattle.smt_script.specs.declared.command.Query.TheVariants.{Proof, UnsatCore, UnsatAssumptions}

abbrev pub query_view : Query → spec.Query
query_view (Values terms) = spec.Values (sexps_of terms)
query_view (Info keyword) = spec.Info keyword.now
query_view (Setting keyword) = spec.Setting keyword.now
query_view Assertions = spec.Assertions
query_view Assignment = spec.Assignment
query_view Proof = spec.Proof
query_view UnsatCore = spec.UnsatCore
query_view UnsatAssumptions = spec.UnsatAssumptions

-- the number of levels that digits are; without any it is one
abbrev pub levels_in : Option (List ℕ) → ℕ
levels_in None = 1
levels_in (Some digits) = digits_value 10 digits

-- the command that a value of the code is
abbrev pub command_view : Command → spec.Command
command_view (SetLogic name) = spec.SetLogic name.now
command_view (SetPrintSuccess on) = spec.SetPrintSuccess on
command_view (SetGlobalDeclarations on) = spec.SetGlobalDeclarations on
command_view (SetOption keyword value) = spec.SetOption keyword.now (option_map sexp_of value)
command_view (SetInfo keyword value) = spec.SetInfo keyword.now (option_map sexp_of value)
command_view (DeclareConst name sort) = spec.DeclareConst name.now (sexp_of sort)
command_view (DeclareFun name params sort) = spec.DeclareFun name.now (sexps_of params) (sexp_of sort)
command_view (DefineFun name params sort body) =
    spec.DefineFun name.now (named_trees (sexps_of params)) (sexp_of sort) (sexp_of body)
command_view (DefineConst name sort body) = spec.DefineFun name.now [] (sexp_of sort) (sexp_of body)
command_view (DeclareSort name) = spec.DeclareSort name.now
command_view (DefineSort name sort) = spec.DefineSort name.now (sexp_of sort)
command_view (Assert term) = spec.Assert (sexp_of term)
command_view (Push levels) = spec.Push (levels_in (option_map (λ digits. digits.now) levels))
command_view (Pop levels) = spec.Pop (levels_in (option_map (λ digits. digits.now) levels))
command_view Reset = spec.Reset
command_view ResetAssertions = spec.ResetAssertions
command_view Exit = spec.Exit
command_view CheckSat = spec.CheckSat
command_view (CheckSatAssuming literals) = spec.CheckSatAssuming (sexps_of literals)
command_view GetModel = spec.GetModel
command_view (Echo text) = spec.Echo text.now
command_view (Get query) = spec.Get (query_view query)
