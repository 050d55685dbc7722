-- SMT-LIB 2.6, sections 3.9.1, 4.1.7 and 4.2: which answers a command takes, and which answers say that a
-- command took no effect. Which commands take an answer only where it fits is this project's rule, for what
-- solvers print.
use Rattle.std.specs.Prelude.{Bool, true, false, not, ◌||◌, Option, Some, None, codes, if◌then◌else◌}
use Rattle.smt_trees.specs.Sexp.{Sexp, Atom, Items, Nil, Cons, Text, is_symbol}
use Rattle.smt_theory.specs.declared.profile.Profile.{Profile}
use Rattle.smt_theory.specs.declared.profile.Profile.TheVariants.{Base, Wide}
use Rattle.smt_script.specs.Command.{Command, kind_of}
use Rattle.smt_script.specs.declared.command.Kind.{Kind}
use Rattle.smt_script.specs.declared.command.Kind.TheVariants as kinds
use Rattle.smt_dialogue.specs.declared.need.AnswerForm.{AnswerForm}
use Rattle.smt_dialogue.specs.declared.need.AnswerForm.TheVariants as forms
use Rattle.smt_dialogue.specs.declared.need.Need.{Need}
use Rattle.smt_dialogue.specs.declared.need.Need.TheVariants.{Nothing, Optional, Needed}

-- ---- answers

-- whether an answer is an error: the symbol `error` and a string
abbrev pub is_error : Sexp → Bool
is_error (Items (Cons first (Cons (Atom Text message) Nil))) = is_symbol (codes "error") first
is_error _ = false

-- whether an answer says that its command took no effect
abbrev pub is_refusal : Sexp → Bool
is_refusal answer = is_symbol (codes "unsupported") answer || is_error answer

-- a command took effect that had no answer, or one that says no such thing
abbrev pub is_effective_with : Option Sexp → Bool
is_effective_with None = true
is_effective_with (Some answer) = not (is_refusal answer)

abbrev pub is_list : Sexp → Bool
is_list (Items parts) = true
is_list _ = false

abbrev pub is_text : Sexp → Bool
is_text (Atom Text bytes) = true
is_text _ = false

-- whether an answer has a form
abbrev pub has_form : AnswerForm → Sexp → Bool
has_form forms.General answer = is_symbol (codes "success") answer || is_refusal answer
has_form forms.Success answer = is_symbol (codes "success") answer
has_form forms.Unsupported answer = is_symbol (codes "unsupported") answer
has_form forms.Check answer =
    is_symbol (codes "sat") answer || is_symbol (codes "unsat") answer || is_symbol (codes "unknown") answer
    || is_refusal answer
has_form forms.Model answer = is_list answer || is_symbol (codes "unsupported") answer
has_form forms.Echo answer = is_text answer || is_refusal answer
has_form forms.Other answer = not (is_symbol (codes "success") answer)

-- ---- what a command needs, and takes

-- what a command needs that has no answer of its own, where `success` is printed
abbrev pub general_need : Need
general_need = Needed forms.General

-- what a command that sets a logic needs where `success` is not printed: in Wide it may be told that its logic
-- is not known, where Wide has none of its name
abbrev pub silent_logic_need : Profile → Bool → Need
silent_logic_need Base known = Nothing
silent_logic_need Wide true = Nothing
silent_logic_need Wide false = Optional forms.Unsupported

-- what a command needs of the answers, where `success` is printed for a command that has no answer of its
-- own, or is not. A command that sets whether it is printed goes by the value that it sets
abbrev pub need_of_kind : Profile → Bool → Kind → Need
need_of_kind profile on kinds.Check = Needed forms.Check
need_of_kind profile on kinds.Model = Needed forms.Model
need_of_kind profile on kinds.Echo = Needed forms.Echo
need_of_kind profile on kinds.Query = Needed forms.Other
need_of_kind profile on kinds.Exit = Optional forms.Success
need_of_kind profile on (kinds.PrintSuccess value) = if value then general_need else Optional forms.General
need_of_kind profile on kinds.Setting = if on then general_need else Optional forms.Unsupported
need_of_kind profile on (kinds.Logic known) = if on then general_need else silent_logic_need profile known
need_of_kind profile on kinds.Change = if on then general_need else Nothing
need_of_kind profile on kinds.Reset = if on then general_need else Nothing

abbrev pub need_of : Profile → Bool → Command → Need
need_of profile on command = need_of_kind profile on (kind_of command)

-- what is taken for a command: an answer or none; or it waits for one; or one is missing; or the next one is
-- unfit
pub data Taken : Type 0 where
  Takes : (answer : Option Sexp) → Taken
  Waits : Taken
  Missing : Taken
  Unexpected : Taken

-- what a command that needs this takes, the next answer being this one, or there being none; `told` says that
-- no further one comes
abbrev pub taken : Bool → Need → Option Sexp → Taken
taken told Nothing next = Takes None
taken told (Optional form) None = if told then Takes None else Waits
taken told (Optional form) (Some answer) = if has_form form answer then Takes (Some answer) else Takes None
taken told (Needed form) None = if told then Missing else Waits
taken told (Needed form) (Some answer) = if has_form form answer then Takes (Some answer) else Unexpected
