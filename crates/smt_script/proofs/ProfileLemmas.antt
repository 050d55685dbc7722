-- Commands by profile: whatever is a command in the profile Base is the same in Wide.
use Rattle.std.proofs.Common.{◌≡◌, ℕ, Bool, true, false, cond, None, Some, Option, Result, Ok, Err, refl, ap, sym, ◌∙◌}
use Rattle.std.specs.Prelude.{MatchResult, ok_or, option_map}
use Rattle.smt_trees.specs.Sexp.{Sexp, Sexps, Atom, Cons, Items, Nil, Reserved}
use Rattle.smt_trees.specs.View.{sexp_of}
use Rattle.smt_trees.specs.declared.view.Tree.{Tree}
use Rattle.smt_trees.specs.declared.view.Tree.TheVariants as trees
use Rattle.smt_trees.specs.declared.reserved.Word.{Word}
use Rattle.smt_trees.specs.declared.reserved.Word.TheVariants as words
use Rattle.smt_theory.specs.declared.profile.Profile.{Profile}
use Rattle.smt_theory.specs.declared.profile.Profile.TheVariants.{Base, Wide}
use Rattle.smt_faults.specs.declared.command_flaw.CommandFlaw.{CommandFlaw}
use Rattle.smt_faults.specs.declared.command_flaw.CommandFlaw.TheVariants.{Form}
use Rattle.smt_script.specs.Command.{CheckSatAssuming, Command, command_named, command_of, command_with, refusal}
use Rattle.smt_script.specs.CommandView.{command_view}
use Rattle.smt_script.specs.declared.command.Command as code
use Rattle.smt_script.specs.Parts.{any_list, are_literals, numeral_or_one, one_list_of_literals, one_numeral}

some_levels : (parts : Sexps) (f : ℕ → Command) (c : Command) → option_map f (one_numeral parts) ≡ Some c
    → option_map f (numeral_or_one parts) ≡ Some c
some_levels Nil f c h = absurd (cc)
some_levels (Cons tree rest) f c h = h

-- literals are terms
some_terms : (terms : Sexps) (c : Command) (b : Bool)
    → option_map CheckSatAssuming (cond b (Some terms) None) ≡ Some c → option_map CheckSatAssuming (Some terms)
    ≡ Some c
some_terms terms c true h = h
some_terms terms c false h = absurd (cc)

some_assumed : (parts : Sexps) (c : Command) → option_map CheckSatAssuming (one_list_of_literals parts) ≡ Some c
    → option_map CheckSatAssuming (any_list parts) ≡ Some c
some_assumed (Cons (Items terms) Nil) c h = some_terms terms c (are_literals terms) h
some_assumed (Cons (Items terms) (Cons next rest)) c h = absurd (cc)
some_assumed (Cons (Atom kind x) rest) c h = absurd (cc)
some_assumed (Cons (Reserved word) rest) c h = absurd (cc)
some_assumed Nil c h = absurd (cc)

same_with : (word : Word) (parts : Sexps) (c : Command) → command_with Base word parts ≡ Some c
    → command_with Wide word parts ≡ Some c
same_with words.Push parts c h = some_levels parts _ c h
same_with words.Pop parts c h = some_levels parts _ c h
same_with words.CheckSatAssuming parts c h = some_assumed parts c h
same_with words.Bang parts c h = h
same_with words.Underscore parts c h = h
same_with words.As parts c h = h
same_with words.Binary parts c h = h
same_with words.Decimal parts c h = h
same_with words.Exists parts c h = h
same_with words.Hexadecimal parts c h = h
same_with words.Forall parts c h = h
same_with words.Let parts c h = h
same_with words.Match parts c h = h
same_with words.Numeral parts c h = h
same_with words.Par parts c h = h
same_with words.String parts c h = h
same_with words.Assert parts c h = h
same_with words.CheckSat parts c h = h
same_with words.DeclareConst parts c h = h
same_with words.DeclareDatatype parts c h = h
same_with words.DeclareDatatypes parts c h = h
same_with words.DeclareFun parts c h = h
same_with words.DeclareSort parts c h = cc
same_with words.DefineFun parts c h = h
same_with words.DefineFunRec parts c h = h
same_with words.DefineFunsRec parts c h = h
same_with words.DefineSort parts c h = h
same_with words.Echo parts c h = h
same_with words.Exit parts c h = h
same_with words.GetAssertions parts c h = h
same_with words.GetAssignment parts c h = h
same_with words.GetInfo parts c h = h
same_with words.GetModel parts c h = h
same_with words.GetOption parts c h = h
same_with words.GetProof parts c h = h
same_with words.GetUnsatAssumptions parts c h = h
same_with words.GetUnsatCore parts c h = h
same_with words.GetValue parts c h = h
same_with words.Reset parts c h = h
same_with words.ResetAssertions parts c h = h
same_with words.SetInfo parts c h = h
same_with words.SetLogic parts c h = h
same_with words.SetOption parts c h = h

some_of : {A B : Type 0} (o : Option A) (e : B) (x : A) → ok_or o e ≡ Ok x → o ≡ Some x
some_of None e x h = absurd (cc)
some_of (Some y) e x h = cc

pub same_command : (tree : Sexp) (c : Command) → command_of Base tree ≡ Ok c → command_of Wide tree ≡ Ok c
same_command (Items (Cons (Reserved word) parts)) c h =
    ap (λ (o : Option Command). ok_or o (refusal word parts))
    (same_with word parts c (some_of (command_with Base word parts) (refusal word parts) c h))
same_command (Items (Cons (Atom kind x) parts)) c h = absurd (cc)
same_command (Items (Cons (Items first) parts)) c h = absurd (cc)
same_command (Items Nil) c h = absurd (cc)
same_command (Atom kind x) c h = absurd (cc)
same_command (Reserved word) c h = absurd (cc)

-- ---- the code

-- a list that begins with no reserved word
unreserved : (profile : Profile) (head : Tree) (rest : Sexps) → ((w : Word) → head ≡ trees.Reserved w → ⊥)
    → command_of profile (Items (Cons (sexp_of head) rest)) ≡ ok_or (command_named profile (sexp_of head) rest) Form
unreserved profile (trees.Numeral digits) rest not_word = refl
unreserved profile (trees.Decimal digits) rest not_word = refl
unreserved profile (trees.Hex digits) rest not_word = refl
unreserved profile (trees.Bin digits) rest not_word = refl
unreserved profile (trees.Text bytes) rest not_word = refl
unreserved profile (trees.Symbol x) rest not_word = refl
unreserved profile (trees.Keyword k) rest not_word = refl
unreserved profile (trees.Reserved w) rest not_word = absurd (not_word w refl)
unreserved Base (trees.List parts) rest not_word = refl
unreserved Wide (trees.List parts) rest not_word = refl

pub named_read : (r : Result code.Command CommandFlaw) (profile : Profile) (head : Tree) (rest : Sexps)
    → ((w : Word) → head ≡ trees.Reserved w → ⊥)
    → MatchResult r (λ command. command_named profile (sexp_of head) rest ≡ Some (command_view command))
    (λ flaw. (command_named profile (sexp_of head) rest ≡ None) × (flaw ≡ Form))
    → MatchResult r (λ command. command_of profile (Items (Cons (sexp_of head) rest)) ≡ Ok (command_view command))
    (λ flaw. command_of profile (Items (Cons (sexp_of head) rest)) ≡ Err flaw)
named_read (Ok command) profile head rest not_word h =
    unreserved profile head rest not_word ∙ ap (λ (o : Option Command). ok_or o Form) h
named_read (Err flaw) profile head rest not_word h =
    unreserved profile head rest not_word ∙ ap (λ (o : Option Command). ok_or o Form) h.0 ∙ ap Err (sym h.1)
