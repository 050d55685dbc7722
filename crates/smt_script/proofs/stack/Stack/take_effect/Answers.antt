use Rattle.std.proofs.Common.{◌≡◌, ℕ, Result, Ok, Err, IfErr, OnOk, refl, ap, sym, ◌∙◌}
use Rattle.std.specs.Str.Parse.{digits_value}
use Rattle.smt_trees.specs.View.{sexp_of, sexps_of}
use Rattle.smt_forms.specs.Bindings.{named_trees}
use Rattle.smt_terms.specs.Contents.{Contents, contents_of}
use Rattle.smt_script.specs.Command.{CheckSatAssuming, Command, DefineFun, DefineSort, Pop, Push, Reset, ResetAssertions}
use Rattle.smt_script.specs.Command.{Nothing, Removing, SetGlobalDeclarations, SetLogic, effect_of}
use Rattle.smt_script.specs.CommandView.{command_view}
use Rattle.smt_script.specs.Internal.Effect.{HasEffect, IsRefused}
use Rattle.smt_script.specs.StackView.{HoldsAfter, profile_of}
use Rattle.smt_faults.specs.declared.command_fault.CommandFault.{CommandFault}
use Rattle.smt_script.specs.declared.stack.Stack.{Stack}
use Rattle.smt_script.proofs.EffectLemmas.{idle_effect, no_effect_is_idle}
use Rattle.smt_script.proofs.stack.Stack.take_effect.Goals as goal

refused_at : (r : Result (Unit {0}) CommandFault) (old : Stack) (given command : Command) (n : ℕ)
    → command ≡ given
    → IfErr r (λ fault. (number : ℕ) → IsRefused old number given fault)
    → IfErr r (λ fault. IsRefused old n command fault)
refused_at (Ok x) old given command n e h = tt
refused_at (Err fault) old given command n e h = rw e (h n)

effect_at : (r : Result (Unit {0}) CommandFault) (old new : Stack) (given command : Command) (n : ℕ)
    → command ≡ given
    → OnOk r ((number : ℕ) → HasEffect old new number given) → OnOk r (HasEffect old new n command)
effect_at (Ok x) old new given command n e h = rw e (h n)
effect_at (Err fault) old new given command n e h = tt

held_at : (r : Result (Unit {0}) CommandFault) (old : Stack) (given command : Command) (now : Contents)
    → command ≡ given → OnOk r (HoldsAfter old (effect_of given) now)
    → OnOk r (HoldsAfter old (effect_of command) now)
held_at (Ok x) old given command now e h = rw e h
held_at (Err fault) old given command now e h = tt

idle_held : (old : Stack) (command : Command) → effect_of command ≡ Removing Nothing
    → HoldsAfter old (effect_of command) (contents_of old.library)
idle_held old command e = rw e refl

on_ok : {A : Type 0} (r : Result (Unit {0}) CommandFault) → A → OnOk r A
on_ok (Ok x) a = a
on_ok (Err fault) a = tt

pub returns-in-SetLogic-clause-effect : goal.returns-in-SetLogic-clause-effect
returns-in-SetLogic-clause-effect c =
    effect_at c.set_logic.result c.args.self.now c.set_logic.new.self (SetLogic c.in-SetLogic.name.now)
    (command_view c.args.command.now) c.args.number
    (ap command_view c.in-SetLogic.is) c.set_logic.ensures.effect

pub returns-in-SetLogic-clause-refused : goal.returns-in-SetLogic-clause-refused
returns-in-SetLogic-clause-refused c =
    refused_at c.set_logic.result c.args.self.now (SetLogic c.in-SetLogic.name.now)
    (command_view c.args.command.now) c.args.number
    (ap command_view c.in-SetLogic.is) c.set_logic.ensures.refused

pub returns-in-DefineFun-clause-effect : goal.returns-in-DefineFun-clause-effect
returns-in-DefineFun-clause-effect c =
    effect_at c.define.result c.args.self.now c.define.new.self (DefineFun c.in-DefineFun.name.now (named_trees (sexps_of c.in-DefineFun.params)) (sexp_of c.in-DefineFun.sort)
    (sexp_of c.in-DefineFun.body))
    (command_view c.args.command.now) c.args.number
    (ap command_view c.in-DefineFun.is) c.define.ensures.effect

pub returns-in-DefineFun-clause-refused : goal.returns-in-DefineFun-clause-refused
returns-in-DefineFun-clause-refused c =
    refused_at c.define.result c.args.self.now (DefineFun c.in-DefineFun.name.now (named_trees (sexps_of c.in-DefineFun.params)) (sexp_of c.in-DefineFun.sort)
    (sexp_of c.in-DefineFun.body))
    (command_view c.args.command.now) c.args.number
    (ap command_view c.in-DefineFun.is) c.define.ensures.refused

pub returns-in-DefineConst-clause-effect : goal.returns-in-DefineConst-clause-effect
returns-in-DefineConst-clause-effect c =
    effect_at c.define-in-DefineConst.result c.args.self.now c.define-in-DefineConst.new.self
    (DefineFun c.in-DefineConst.name.now (named_trees (sexps_of c.empty.result)) (sexp_of c.in-DefineConst.sort)
    (sexp_of c.in-DefineConst.body))
    (command_view c.args.command.now) c.args.number
    (ap command_view c.in-DefineConst.is
    ∙ ap (λ ps. DefineFun c.in-DefineConst.name.now (named_trees ps) (sexp_of c.in-DefineConst.sort)
    (sexp_of c.in-DefineConst.body)) (sym c.empty.ensures)) c.define-in-DefineConst.ensures.effect

pub returns-in-DefineConst-clause-refused : goal.returns-in-DefineConst-clause-refused
returns-in-DefineConst-clause-refused c =
    refused_at c.define-in-DefineConst.result c.args.self.now (DefineFun c.in-DefineConst.name.now (named_trees (sexps_of c.empty.result)) (sexp_of c.in-DefineConst.sort)
    (sexp_of c.in-DefineConst.body))
    (command_view c.args.command.now) c.args.number
    (ap command_view c.in-DefineConst.is
    ∙ ap (λ ps. DefineFun c.in-DefineConst.name.now (named_trees ps) (sexp_of c.in-DefineConst.sort)
    (sexp_of c.in-DefineConst.body)) (sym c.empty.ensures)) c.define-in-DefineConst.ensures.refused

pub returns-in-DefineSort-clause-effect : goal.returns-in-DefineSort-clause-effect
returns-in-DefineSort-clause-effect c =
    effect_at c.define_sort.result c.args.self.now c.define_sort.new.self (DefineSort c.in-DefineSort.name.now (sexp_of c.in-DefineSort.sort))
    (command_view c.args.command.now) c.args.number
    (ap command_view c.in-DefineSort.is) c.define_sort.ensures.effect

pub returns-in-DefineSort-clause-refused : goal.returns-in-DefineSort-clause-refused
returns-in-DefineSort-clause-refused c =
    refused_at c.define_sort.result c.args.self.now (DefineSort c.in-DefineSort.name.now (sexp_of c.in-DefineSort.sort))
    (command_view c.args.command.now) c.args.number
    (ap command_view c.in-DefineSort.is) c.define_sort.ensures.refused

pub returns-in-Push-clause-effect : goal.returns-in-Push-clause-effect
returns-in-Push-clause-effect c =
    effect_at c.push.result c.args.self.now c.push.new.self
    (Push (digits_value 10 c.digits_of.result.now)) (command_view c.args.command.now) c.args.number
    (ap command_view c.in-Push.is
    ∙ ap Push (sym c.digits_of.ensures))
    c.push.ensures.effect

pub returns-in-Push-clause-refused : goal.returns-in-Push-clause-refused
returns-in-Push-clause-refused c =
    refused_at c.push.result c.args.self.now (Push (digits_value 10 c.digits_of.result.now))
    (command_view c.args.command.now) c.args.number
    (ap command_view c.in-Push.is
    ∙ ap Push (sym c.digits_of.ensures))
    c.push.ensures.refused

pub returns-in-Pop-clause-effect : goal.returns-in-Pop-clause-effect
returns-in-Pop-clause-effect c =
    effect_at c.pop.result c.args.self.now c.pop.new.self (Pop (digits_value 10 c.digits_of-in-Pop.result.now))
    (command_view c.args.command.now) c.args.number
    (ap command_view c.in-Pop.is
    ∙ ap Pop (sym c.digits_of-in-Pop.ensures)) c.pop.ensures.effect

pub returns-in-Pop-clause-refused : goal.returns-in-Pop-clause-refused
returns-in-Pop-clause-refused c =
    refused_at c.pop.result c.args.self.now (Pop (digits_value 10 c.digits_of-in-Pop.result.now))
    (command_view c.args.command.now) c.args.number
    (ap command_view c.in-Pop.is
    ∙ ap Pop (sym c.digits_of-in-Pop.ensures)) c.pop.ensures.refused

pub returns-in-Reset-clause-effect : goal.returns-in-Reset-clause-effect
returns-in-Reset-clause-effect c =
    effect_at c.reset.result c.args.self.now c.reset.new.self Reset (command_view c.args.command.now)
    c.args.number
    (ap command_view c.in-Reset.is) c.reset.ensures.effect

pub returns-in-Reset-clause-refused : goal.returns-in-Reset-clause-refused
returns-in-Reset-clause-refused c =
    refused_at c.reset.result c.args.self.now Reset (command_view c.args.command.now) c.args.number
    (ap command_view c.in-Reset.is) c.reset.ensures.refused

pub returns-in-ResetAssertions-clause-effect : goal.returns-in-ResetAssertions-clause-effect
returns-in-ResetAssertions-clause-effect c =
    effect_at c.reset_assertions.result c.args.self.now c.reset_assertions.new.self ResetAssertions
    (command_view c.args.command.now) c.args.number
    (ap command_view c.in-ResetAssertions.is) c.reset_assertions.ensures.effect

pub returns-in-ResetAssertions-clause-refused : goal.returns-in-ResetAssertions-clause-refused
returns-in-ResetAssertions-clause-refused c =
    refused_at c.reset_assertions.result c.args.self.now ResetAssertions (command_view c.args.command.now)
    c.args.number
    (ap command_view c.in-ResetAssertions.is) c.reset_assertions.ensures.refused

pub returns-in-Exit-clause-effect : goal.returns-in-Exit-clause-effect
returns-in-Exit-clause-effect c =
    idle_effect c.contents_are_kept.ensures c.args.self.now c.args.number (command_view c.args.command.now)
    (no_effect_is_idle (profile_of c.args.self.now) (command_view c.args.command.now)
    (ap (λ d. effect_of (command_view d)) c.in-Exit.is))

pub returns-in-CheckSat-clause-effect : goal.returns-in-CheckSat-clause-effect
returns-in-CheckSat-clause-effect c =
    idle_effect c.contents_are_kept.ensures c.args.self.now c.args.number (command_view c.args.command.now)
    (no_effect_is_idle (profile_of c.args.self.now) (command_view c.args.command.now)
    (ap (λ d. effect_of (command_view d)) c.in-CheckSat.is))

pub returns-in-GetModel-clause-effect : goal.returns-in-GetModel-clause-effect
returns-in-GetModel-clause-effect c =
    idle_effect c.contents_are_kept.ensures c.args.self.now c.args.number (command_view c.args.command.now)
    (no_effect_is_idle (profile_of c.args.self.now) (command_view c.args.command.now)
    (ap (λ d. effect_of (command_view d)) c.in-GetModel.is))

pub returns-in-SetPrintSuccess-clause-effect : goal.returns-in-SetPrintSuccess-clause-effect
returns-in-SetPrintSuccess-clause-effect c =
    idle_effect c.contents_are_kept.ensures c.args.self.now c.args.number (command_view c.args.command.now)
    (no_effect_is_idle (profile_of c.args.self.now) (command_view c.args.command.now)
    (ap (λ d. effect_of (command_view d)) c.in-SetPrintSuccess.is))

pub returns-in-SetGlobalDeclarations-clause-effect : goal.returns-in-SetGlobalDeclarations-clause-effect
returns-in-SetGlobalDeclarations-clause-effect c =
    effect_at c.set_global.result c.args.self.now c.set_global.new.self
    (SetGlobalDeclarations c.in-SetGlobalDeclarations.on) (command_view c.args.command.now) c.args.number
    (ap command_view c.in-SetGlobalDeclarations.is) c.set_global.ensures.effect

pub returns-in-SetGlobalDeclarations-clause-refused : goal.returns-in-SetGlobalDeclarations-clause-refused
returns-in-SetGlobalDeclarations-clause-refused c =
    refused_at c.set_global.result c.args.self.now (SetGlobalDeclarations c.in-SetGlobalDeclarations.on)
    (command_view c.args.command.now) c.args.number
    (ap command_view c.in-SetGlobalDeclarations.is) c.set_global.ensures.refused

pub returns-in-SetOption-clause-effect : goal.returns-in-SetOption-clause-effect
returns-in-SetOption-clause-effect c =
    idle_effect c.contents_are_kept.ensures c.args.self.now c.args.number (command_view c.args.command.now)
    (no_effect_is_idle (profile_of c.args.self.now) (command_view c.args.command.now)
    (ap (λ d. effect_of (command_view d)) c.in-SetOption.is))

pub returns-in-SetInfo-clause-effect : goal.returns-in-SetInfo-clause-effect
returns-in-SetInfo-clause-effect c =
    idle_effect c.contents_are_kept.ensures c.args.self.now c.args.number (command_view c.args.command.now)
    (no_effect_is_idle (profile_of c.args.self.now) (command_view c.args.command.now)
    (ap (λ d. effect_of (command_view d)) c.in-SetInfo.is))

pub returns-in-Echo-clause-effect : goal.returns-in-Echo-clause-effect
returns-in-Echo-clause-effect c =
    idle_effect c.contents_are_kept.ensures c.args.self.now c.args.number (command_view c.args.command.now)
    (no_effect_is_idle (profile_of c.args.self.now) (command_view c.args.command.now)
    (ap (λ d. effect_of (command_view d)) c.in-Echo.is))

pub returns-in-Get-clause-effect : goal.returns-in-Get-clause-effect
returns-in-Get-clause-effect c =
    idle_effect c.contents_are_kept.ensures c.args.self.now c.args.number (command_view c.args.command.now)
    (no_effect_is_idle (profile_of c.args.self.now) (command_view c.args.command.now)
    (ap (λ d. effect_of (command_view d)) c.in-Get.is))

pub returns-in-CheckSatAssuming-clause-effect : goal.returns-in-CheckSatAssuming-clause-effect
returns-in-CheckSatAssuming-clause-effect c =
    effect_at c.assume.result c.args.self.now c.assume.new.self
    (CheckSatAssuming (sexps_of c.in-CheckSatAssuming.literals)) (command_view c.args.command.now)
    c.args.number
    (ap command_view c.in-CheckSatAssuming.is)
    c.assume.ensures.effect

pub returns-in-CheckSatAssuming-clause-refused : goal.returns-in-CheckSatAssuming-clause-refused
returns-in-CheckSatAssuming-clause-refused c =
    refused_at c.assume.result c.args.self.now
    (CheckSatAssuming (sexps_of c.in-CheckSatAssuming.literals)) (command_view c.args.command.now)
    c.args.number
    (ap command_view c.in-CheckSatAssuming.is)
    c.assume.ensures.refused

-- ---- what the library holds

pub returns-in-SetLogic-clause-held : goal.returns-in-SetLogic-clause-held
returns-in-SetLogic-clause-held c =
    held_at c.set_logic.result c.args.self.now _ (command_view c.args.command.now)
    (contents_of c.set_logic.new.self.library) (ap command_view c.in-SetLogic.is) c.set_logic.ensures.held

pub returns-in-DeclareConst-clause-held : goal.returns-in-DeclareConst-clause-held
returns-in-DeclareConst-clause-held c =
    held_at c.declare_const.result c.args.self.now _ (command_view c.args.command.now)
    (contents_of c.declare_const.new.self.library) (ap command_view c.in-DeclareConst.is) (on_ok c.declare_const.result c.declare_const.ensures.grown)

pub returns-in-DeclareFun-clause-held : goal.returns-in-DeclareFun-clause-held
returns-in-DeclareFun-clause-held c =
    held_at c.declare_fun.result c.args.self.now _ (command_view c.args.command.now)
    (contents_of c.declare_fun.new.self.library) (ap command_view c.in-DeclareFun.is) (on_ok c.declare_fun.result c.declare_fun.ensures.grown)

pub returns-in-DefineFun-clause-held : goal.returns-in-DefineFun-clause-held
returns-in-DefineFun-clause-held c =
    held_at c.define.result c.args.self.now _ (command_view c.args.command.now)
    (contents_of c.define.new.self.library) (ap command_view c.in-DefineFun.is) (on_ok c.define.result c.define.ensures.grown)

pub returns-in-DefineConst-clause-held : goal.returns-in-DefineConst-clause-held
returns-in-DefineConst-clause-held c =
    held_at c.define-in-DefineConst.result c.args.self.now _ (command_view c.args.command.now)
    (contents_of c.define-in-DefineConst.new.self.library) (ap command_view c.in-DefineConst.is)
    (on_ok c.define-in-DefineConst.result c.define-in-DefineConst.ensures.grown)

pub returns-in-DeclareSort-clause-held : goal.returns-in-DeclareSort-clause-held
returns-in-DeclareSort-clause-held c =
    held_at c.declare_sort.result c.args.self.now _ (command_view c.args.command.now)
    (contents_of c.declare_sort.new.self.library) (ap command_view c.in-DeclareSort.is) (on_ok c.declare_sort.result c.declare_sort.ensures.grown)

pub returns-in-DefineSort-clause-held : goal.returns-in-DefineSort-clause-held
returns-in-DefineSort-clause-held c =
    held_at c.define_sort.result c.args.self.now _ (command_view c.args.command.now)
    (contents_of c.define_sort.new.self.library) (ap command_view c.in-DefineSort.is) (on_ok c.define_sort.result c.define_sort.ensures.grown)

pub returns-in-Assert-clause-held : goal.returns-in-Assert-clause-held
returns-in-Assert-clause-held c =
    held_at c.assert.result c.args.self.now _ (command_view c.args.command.now)
    (contents_of c.assert.new.self.library) (ap command_view c.in-Assert.is) (on_ok c.assert.result c.assert.ensures.grown)

pub returns-in-Push-clause-held : goal.returns-in-Push-clause-held
returns-in-Push-clause-held c =
    held_at c.push.result c.args.self.now _ (command_view c.args.command.now)
    (contents_of c.push.new.self.library) (ap command_view c.in-Push.is) (on_ok c.push.result c.push.ensures.held)

pub returns-in-Pop-clause-held : goal.returns-in-Pop-clause-held
returns-in-Pop-clause-held c =
    held_at c.pop.result c.args.self.now (Pop (digits_value 10 c.digits_of-in-Pop.result.now))
    (command_view c.args.command.now)
    (contents_of c.pop.new.self.library) (ap command_view c.in-Pop.is
    ∙ ap Pop (sym c.digits_of-in-Pop.ensures)) c.pop.ensures.held

pub returns-in-Reset-clause-held : goal.returns-in-Reset-clause-held
returns-in-Reset-clause-held c =
    held_at c.reset.result c.args.self.now _ (command_view c.args.command.now)
    (contents_of c.reset.new.self.library) (ap command_view c.in-Reset.is) (on_ok c.reset.result c.reset.ensures.held)

pub returns-in-ResetAssertions-clause-held : goal.returns-in-ResetAssertions-clause-held
returns-in-ResetAssertions-clause-held c =
    held_at c.reset_assertions.result c.args.self.now _ (command_view c.args.command.now)
    (contents_of c.reset_assertions.new.self.library) (ap command_view c.in-ResetAssertions.is) (on_ok c.reset_assertions.result c.reset_assertions.ensures.held)

pub returns-in-SetGlobalDeclarations-clause-held : goal.returns-in-SetGlobalDeclarations-clause-held
returns-in-SetGlobalDeclarations-clause-held c =
    held_at c.set_global.result c.args.self.now _ (command_view c.args.command.now)
    (contents_of c.set_global.new.self.library) (ap command_view c.in-SetGlobalDeclarations.is) (on_ok c.set_global.result c.set_global.ensures.held)

pub returns-in-CheckSatAssuming-clause-held : goal.returns-in-CheckSatAssuming-clause-held
returns-in-CheckSatAssuming-clause-held c =
    held_at c.assume.result c.args.self.now _ (command_view c.args.command.now)
    (contents_of c.assume.new.self.library) (ap command_view c.in-CheckSatAssuming.is) (on_ok c.assume.result c.assume.ensures.held)

pub returns-in-SetPrintSuccess-clause-held : goal.returns-in-SetPrintSuccess-clause-held
returns-in-SetPrintSuccess-clause-held c =
    idle_held c.args.self.now (command_view c.args.command.now)
    (ap (λ d. effect_of (command_view d)) c.in-SetPrintSuccess.is)

pub returns-in-SetOption-clause-held : goal.returns-in-SetOption-clause-held
returns-in-SetOption-clause-held c =
    idle_held c.args.self.now (command_view c.args.command.now)
    (ap (λ d. effect_of (command_view d)) c.in-SetOption.is)

pub returns-in-SetInfo-clause-held : goal.returns-in-SetInfo-clause-held
returns-in-SetInfo-clause-held c =
    idle_held c.args.self.now (command_view c.args.command.now)
    (ap (λ d. effect_of (command_view d)) c.in-SetInfo.is)

pub returns-in-Exit-clause-held : goal.returns-in-Exit-clause-held
returns-in-Exit-clause-held c =
    idle_held c.args.self.now (command_view c.args.command.now)
    (ap (λ d. effect_of (command_view d)) c.in-Exit.is)

pub returns-in-CheckSat-clause-held : goal.returns-in-CheckSat-clause-held
returns-in-CheckSat-clause-held c =
    idle_held c.args.self.now (command_view c.args.command.now)
    (ap (λ d. effect_of (command_view d)) c.in-CheckSat.is)

pub returns-in-GetModel-clause-held : goal.returns-in-GetModel-clause-held
returns-in-GetModel-clause-held c =
    idle_held c.args.self.now (command_view c.args.command.now)
    (ap (λ d. effect_of (command_view d)) c.in-GetModel.is)

pub returns-in-Echo-clause-held : goal.returns-in-Echo-clause-held
returns-in-Echo-clause-held c =
    idle_held c.args.self.now (command_view c.args.command.now)
    (ap (λ d. effect_of (command_view d)) c.in-Echo.is)

pub returns-in-Get-clause-held : goal.returns-in-Get-clause-held
returns-in-Get-clause-held c =
    idle_held c.args.self.now (command_view c.args.command.now)
    (ap (λ d. effect_of (command_view d)) c.in-Get.is)
