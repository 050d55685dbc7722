-- What the code knows of an answer, told of its tree.
use Rattle.std.specs.Prelude.{◌≡◌, Bool, true, false, not, ◌||◌, Option, Some, None, codes, if◌then◌else◌}
use Rattle.smt_trees.specs.Sexp.{Sexp, is_symbol}
use Rattle.smt_trees.specs.Owned.{sexp_of}
use Rattle.smt_dialogue.specs.Answers.{is_error, is_list, is_text}
use Rattle.smt_dialogue.specs.declared.answer.Answer.{Answer}
use Rattle.smt_dialogue.specs.declared.answer.Answer.TheVariants as says
use Rattle.smt_dialogue.specs.declared.answer.TakenAnswer.{TakenAnswer}
use Rattle.smt_dialogue.specs.declared.need.AnswerForm.{AnswerForm}
use Rattle.smt_dialogue.specs.declared.need.AnswerForm.TheVariants as forms
use Rattle.smt_report.specs.declared.line.CheckAnswer.{CheckAnswer}
use Rattle.smt_report.specs.declared.line.CheckAnswer.TheVariants as tells

-- what a tree says that is no word of an answer, and no error
abbrev pub other_answer : Sexp → Answer
other_answer answer = if is_list answer then says.List else if is_text answer then says.Text else says.Other

-- what a tree says as an answer
abbrev pub answer_of : Sexp → Answer
answer_of answer =
    if is_symbol (codes "success") answer then says.Success
    else if is_symbol (codes "unsupported") answer then says.Unsupported
    else if is_symbol (codes "sat") answer then says.Sat
    else if is_symbol (codes "unsat") answer then says.Unsat
    else if is_symbol (codes "unknown") answer then says.Unknown
    else if is_error answer then says.Error
    else other_answer answer

abbrev pub is_success : Answer → Bool
is_success says.Success = true
is_success _ = false

abbrev pub is_unsupported : Answer → Bool
is_unsupported says.Unsupported = true
is_unsupported _ = false

-- it says that its command took no effect
abbrev pub refuses : Answer → Bool
refuses says.Unsupported = true
refuses says.Error = true
refuses _ = false

abbrev pub is_sat : Answer → Bool
is_sat says.Sat = true
is_sat _ = false

-- it says what a check found
abbrev pub is_of_check : Answer → Bool
is_of_check says.Sat = true
is_of_check says.Unsat = true
is_of_check says.Unknown = true
is_of_check _ = false

-- it is a list, or none
abbrev pub is_of_model : Answer → Bool
is_of_model says.List = true
is_of_model says.Error = true
is_of_model says.Unsupported = true
is_of_model _ = false

abbrev pub is_string : Answer → Bool
is_string says.Text = true
is_string _ = false

-- whether an answer has a form
abbrev pub has : AnswerForm → Answer → Bool
has forms.General answer = is_success answer || refuses answer
has forms.Success answer = is_success answer
has forms.Unsupported answer = is_unsupported answer
has forms.Check answer = is_of_check answer || refuses answer
has forms.Model answer = is_of_model answer
has forms.Echo answer = is_string answer || refuses answer
has forms.Other answer = not (is_success answer)

-- what a report says of a check with this answer, if that isn't `sat`
abbrev pub unchecked : Answer → Option CheckAnswer
unchecked says.Unsat = Some tells.Unsat
unchecked says.Unknown = Some tells.Unknown
unchecked says.Unsupported = Some tells.Unsupported
unchecked says.Error = Some tells.Error
unchecked _ = None

-- the tree of an answer that was taken
abbrev pub tree_of : TakenAnswer → Sexp
tree_of taken = sexp_of taken.tree

-- what it says is what its tree says
abbrev pub AreKnown : Option TakenAnswer → Type 0
AreKnown None = Unit {0}
AreKnown (Some taken) = taken.says ≡ answer_of (tree_of taken)
