use Rattle.std.proofs.Common.{◌≡◌, ◌≢◌, ◌<◌, ◌∙◌, ◌==◌, ℕ, List, [], ◌∷◌, zero, suc, true, false}
use Rattle.std.proofs.Common.{ap, ap₂, arith, None, Some, codes, if◌then◌else◌, inl, inr, refl}
use Rattle.std.proofs.Common.{is_some, slice_index, sym}
use Rattle.std.specs.List.{All, slice_index_or}
use Rattle.std.proofs.lemmas.Slice.Eq.{bytes_eq-Decides}
use Rattle.std.proofs.lemmas.Result.{IfOk-weaker}
use Rattle.clap.specs.Words.{AddsInTurn, AddsArg, IsParsedFrom, IsPlainArg, Rule, Text, app_of}
use Rattle.clap.specs.Words.{args_of, first_value, found_of, groups_of, new_app, one_text, rule_of, with_rule}
use Rattle.clap.specs.Built.{FitsChain, HasDistinctIds, TakesValue}
use Rattle.clap.specs.declared.builder.command.Command.{Command}
use Rattle.clap.specs.declared.builder.command.Command.TheOpen.{Command-F}
use Rattle.clap.specs.declared.builder.value_parser.ValueParser.{ValueParser}
use Rattle.clap.specs.declared.builder.value_parser.ValueParser.TheVariants.{Unsigned}
use Rattle.clap.specs.declared.parser.matches.ArgMatches.{ArgMatches}
use Rattle.clap.specs.declared.parser.matches.Found.{Found}
use Rattle.clap.specs.Simple.{app_of_fields}
use Rattle.clap.specs.declared.builder.Arg.{Arg}
use Rattle.clap.specs.declared.builder.command.Command.TheViews.{out-Command}
use Rattle.clap.proofs.CallerLemmas.{required_in_chain}
use Rattle.smtcheck_command_line.specs.Settings.{WritesSteps, file_rule, most_steps, smtcheck_app, steps_rule}
use Rattle.smtcheck_command_line.specs.Settings.{with_version}
use Rattle.smtcheck_command_line.proofs.DefaultLemmas.{HasDefault, Reads, default_in_chain, has_default}
use Rattle.smtcheck_command_line.proofs.command.smtcheck_command.Goals as goal
use Rattle.smtcheck_command_line.proofs.command.smtcheck_command.Goals.{After-arg-9}

-- which argument has the id, by its third byte
abbrev place : List ℕ → ℕ
place id = if slice_index id 2 == 82 then 0
    else (if slice_index id 2 == 83 then 1
    else (if slice_index id 2 == 108 then 2
    else (if slice_index id 2 == 105 then 3
    else (if slice_index id 2 == 111 then 4
    else (if slice_index id 2 == 101 then 5
    else (if slice_index id 2 == 112 then 6
    else (if slice_index id 2 == 110 then 7 else 8)))))))

nine_pass : (P : Arg → Type 0) (a b c d e f g h i : Arg) → P a → P b → P c → P d → P e → P f → P g → P h → P i
    → All P (a ∷ b ∷ c ∷ d ∷ e ∷ f ∷ g ∷ h ∷ i ∷ [])
nine_pass P a b c d e f g h i p q r s t u v w y zero x lt = p
nine_pass P a b c d e f g h i p q r s t u v w y (suc zero) x lt = q
nine_pass P a b c d e f g h i p q r s t u v w y (suc (suc zero)) x lt = r
nine_pass P a b c d e f g h i p q r s t u v w y (suc (suc (suc zero))) x lt = s
nine_pass P a b c d e f g h i p q r s t u v w y (suc (suc (suc (suc zero)))) x lt = t
nine_pass P a b c d e f g h i p q r s t u v w y (suc (suc (suc (suc (suc zero))))) x lt = u
nine_pass P a b c d e f g h i p q r s t u v w y (suc (suc (suc (suc (suc (suc zero)))))) x lt = v
nine_pass P a b c d e f g h i p q r s t u v w y (suc (suc (suc (suc (suc (suc (suc zero))))))) x lt = w
nine_pass P a b c d e f g h i p q r s t u v w y (suc (suc (suc (suc (suc (suc (suc (suc zero)))))))) x lt = y
nine_pass P a b c d e f g h i p q r s t u v w y (suc (suc (suc (suc (suc (suc (suc (suc (suc k))))))))) x lt = absurd (omega arith)

-- the ids of the nine arguments, in order
record AreNamed (a b c d e f g h i : Arg) : Type 0 where
  script : a.id.now ≡ codes "SCRIPT"
  answers : b.id.now ≡ codes "ANSWERS"
  solver : c.id.now ≡ codes "solver"
  success : d.id.now ≡ codes "print-success"
  profile : e.id.now ≡ codes "profile"
  steps : f.id.now ≡ codes "steps"
  explain : g.id.now ≡ codes "explain"
  hints : h.id.now ≡ codes "hints"
  strict : i.id.now ≡ codes "strict"

-- the place of an argument by its id
place_of_id : (a b c d e f g h i : Arg) → AreNamed a b c d e f g h i
    → (k : ℕ) (x : Arg) → k < 9
    → place (slice_index_or (a ∷ b ∷ c ∷ d ∷ e ∷ f ∷ g ∷ h ∷ i ∷ []) k x).id.now ≡ k
place_of_id a b c d e f g h i n zero x lt = ap place n.script
place_of_id a b c d e f g h i n (suc zero) x lt = ap place n.answers
place_of_id a b c d e f g h i n (suc (suc zero)) x lt = ap place n.solver
place_of_id a b c d e f g h i n (suc (suc (suc zero))) x lt = ap place n.success
place_of_id a b c d e f g h i n (suc (suc (suc (suc zero)))) x lt = ap place n.profile
place_of_id a b c d e f g h i n (suc (suc (suc (suc (suc zero))))) x lt = ap place n.steps
place_of_id a b c d e f g h i n (suc (suc (suc (suc (suc (suc zero)))))) x lt = ap place n.explain
place_of_id a b c d e f g h i n (suc (suc (suc (suc (suc (suc (suc zero))))))) x lt = ap place n.hints
place_of_id a b c d e f g h i n (suc (suc (suc (suc (suc (suc (suc (suc zero)))))))) x lt = ap place n.strict
place_of_id a b c d e f g h i n (suc (suc (suc (suc (suc (suc (suc (suc (suc k))))))))) x lt = absurd (omega arith)

nine_ids : (a b c d e f g h i : Arg) → AreNamed a b c d e f g h i
    → HasDistinctIds (a ∷ b ∷ c ∷ d ∷ e ∷ f ∷ g ∷ h ∷ i ∷ [])
nine_ids a b c d e f g h i n j k x y low lt same =
    let all = a ∷ b ∷ c ∷ d ∷ e ∷ f ∷ g ∷ h ∷ i ∷ [] in
    let one : (slice_index_or all j y).id.now ≡ (slice_index_or all k x).id.now =
    (bytes_eq-Decides _ _).0 same in
    sym (place_of_id a b c d e f g h i n j y low) ∙ ap place one ∙ place_of_id a b c d e f g h i n k x lt

-- an argument whose id has not the second byte of the flags that clap adds
fits : (a : Arg) (r : Rule) (x : ℕ) → IsPlainArg a → a.global ≡ false → rule_of a ≡ r
    → slice_index r.id 1 ≡ x → 0 < x → x ≢ 101 → FitsChain a
fits a r x plain local is second some no_flag =
    let at : (t : List ℕ) → a.id.now ≡ t → slice_index t 1 ≡ x = λ t e. ap (λ u. slice_index u 1)
    (sym e ∙ ap (λ (s : Rule). s.id) is) ∙ second in (
      plain,
      local,
      (λ e. let bad : 0 ≡ x = at [] e in absurd (omega arith)),
      (λ auto. elim auto [ inl h ↦ no_flag (sym (at _ h)) | inr h ↦ no_flag (sym (at _ h)) ]),
    )

takes_value : (a : Arg) (id : List ℕ) → rule_of a ≡ file_rule id → a.val_delim ≡ None → TakesValue a
takes_value a id is undivided =
    let range = ap (λ r. r.range) is in
    (ap (λ r. r.required) is, ap (λ r. r.action) is, undivided, (rw range (omega arith)))

-- what the option with a default has
counted : (f : Found) (a : Arg) → rule_of a ≡ steps_rule
    → Reads f a.id.now a.ignore_case (Unsigned 0 most_steps)
    → (text : Text) × (steps : ℕ) × (one_text f (codes "steps") ≡ Some text) × WritesSteps text steps
counted f a is reads =
    let id : a.id.now ≡ codes "steps" = ap (λ (r : Rule). r.id) is in
    (reads.text, _, ap (one_text f) (sym id) ∙ reads.one, (reads.passed, refl))

-- ---- the chain of the nine `.arg(..)` calls

abbrev nine : After-arg-9 → List Arg
nine c = c.file-script.result ∷ c.file-answers.result ∷ c.solver.result ∷ c.print_success.result
    ∷ c.profile.result ∷ c.steps.result ∷ c.in_ok-explain.field-0 ∷ c.hints.result ∷ c.flag-strict.result ∷ []

nine_fit : (c : After-arg-9) → All FitsChain (nine c)
nine_fit c =
    let script = c.file-script.ensures in
    let answers = c.file-answers.ensures in
    let solver = c.solver.ensures in
    let success = c.print_success.ensures in
    let profile = c.profile.ensures in
    let steps = c.steps.ensures in
    let explain = c.in_ok-explain.ensures in
    let hints = c.hints.ensures in
    let strict = c.flag-strict.ensures in
    nine_pass FitsChain c.file-script.result c.file-answers.result c.solver.result c.print_success.result
    c.profile.result c.steps.result c.in_ok-explain.field-0 c.hints.result c.flag-strict.result
    (fits c.file-script.result _ 67 script.plain script.local script.rule refl (omega arith) (omega arith))
    (fits c.file-answers.result _ 78 answers.plain answers.local answers.rule refl (omega arith) (omega arith))
    (fits c.solver.result _ 111 solver.plain solver.local solver.rule.1 refl (omega arith) (omega arith))
    (fits c.print_success.result _ 114 success.plain success.local success.rule.1 refl (omega arith) (omega arith))
    (fits c.profile.result _ 114 profile.plain profile.local profile.rule.1 refl (omega arith) (omega arith))
    (fits c.steps.result _ 116 steps.plain steps.local steps.rule refl (omega arith) (omega arith))
    (fits c.in_ok-explain.field-0 _ 120 explain.plain explain.local explain.rule.1 refl (omega arith) (omega arith))
    (fits c.hints.result _ 105 hints.plain hints.local hints.rule.1 refl (omega arith) (omega arith))
    (fits c.flag-strict.result _ 116 strict.plain strict.local strict.rule refl (omega arith) (omega arith))

nine_distinct : (c : After-arg-9) → HasDistinctIds (nine c)
nine_distinct c =
    let id = λ (r : Rule). r.id in
    nine_ids c.file-script.result c.file-answers.result c.solver.result c.print_success.result
    c.profile.result c.steps.result c.in_ok-explain.field-0 c.hints.result c.flag-strict.result (record {
      script = ap id c.file-script.ensures.rule;
      answers = ap id c.file-answers.ensures.rule;
      solver = ap id c.solver.ensures.rule.1;
      success = ap id c.print_success.ensures.rule.1;
      profile = ap id c.profile.ensures.rule.1;
      steps = ap id c.steps.ensures.rule;
      explain = ap id c.in_ok-explain.ensures.rule.1;
      hints = ap id c.hints.ensures.rule.1;
      strict = ap id c.flag-strict.ensures.rule;
    })

-- the command before them
record IsBare (d : Command) : Type 0 where
  no_args : args_of d ≡ []
  no_groups : groups_of d ≡ []
  no_globals : (out-Command d).has_globals ≡ false
  negates : (out-Command d).subcommand_negates_reqs ≡ false

bare : (c : After-arg-9) → IsBare c.after_help.result
bare c =
    let args = λ (f : Command-F Command). f.args.items in
    let groups = λ (f : Command-F Command). f.groups.items in
    let globals = λ (f : Command-F Command). f.has_globals in
    let negates = λ (f : Command-F Command). f.subcommand_negates_reqs in
    record {
      no_args = ap args c.after_help.ensures ∙ ap args c.in_ok-bin_name.ensures.0 ∙ ap args c.about.ensures
          ∙ ap args c.version.ensures ∙ c.new.ensures.empty.0;
      no_groups = ap groups c.after_help.ensures ∙ ap groups c.in_ok-bin_name.ensures.0
          ∙ ap groups c.about.ensures ∙ ap groups c.version.ensures ∙ c.new.ensures.empty.1;
      no_globals = ap globals c.after_help.ensures ∙ ap globals c.in_ok-bin_name.ensures.0
          ∙ ap globals c.about.ensures ∙ ap globals c.version.ensures ∙ c.new.ensures.local;
      negates = ap negates c.after_help.ensures ∙ ap negates c.in_ok-bin_name.ensures.0
          ∙ ap negates c.about.ensures ∙ ap negates c.version.ensures ∙ c.new.ensures.negates;
    }

chain : (c : After-arg-9) (r : Command) → AddsArg c.in_ok-arg-8.field-0 c.flag-strict.result r
    → AddsInTurn AddsArg c.after_help.result (nine c) r
chain c r added = (
  c.in_ok-arg.field-0,
  c.in_ok-arg.ensures,
  (
    c.in_ok-arg-2.field-0,
    c.in_ok-arg-2.ensures,
    (
      c.in_ok-arg-3.field-0,
      c.in_ok-arg-3.ensures,
      (
        c.in_ok-arg-4.field-0,
        c.in_ok-arg-4.ensures,
        (
          c.in_ok-arg-5.field-0,
          c.in_ok-arg-5.ensures,
          (
            c.in_ok-arg-6.field-0,
            c.in_ok-arg-6.ensures,
            (
              c.in_ok-arg-7.field-0,
              c.in_ok-arg-7.ensures,
              (c.in_ok-arg-8.field-0, c.in_ok-arg-8.ensures, (r, added, refl)),
            ),
          ),
        ),
      ),
    ),
  ),
)

-- after a parse a required argument has a value, and an option with a default a text that its parser takes
required_has : (c : After-arg-9) (r : Command) (m : ArgMatches) (k : ℕ) (a : Arg)
    → AddsArg c.in_ok-arg-8.field-0 c.flag-strict.result r → IsParsedFrom r m → k < 9
    → TakesValue (slice_index_or (nine c) k a)
    → is_some (first_value (found_of m) (slice_index_or (nine c) k a).id.now) ≡ true
required_has c r m k a added parsed lt takes =
    let b = bare c in
    required_in_chain c.after_help.result r (nine c) k a m (chain c r added) b.no_args b.no_groups
    b.no_globals b.negates (nine_fit c) (nine_distinct c) lt takes parsed

option_reads : (c : After-arg-9) (r : Command) (m : ArgMatches) (k : ℕ) (a : Arg) (q : ValueParser)
    → AddsArg c.in_ok-arg-8.field-0 c.flag-strict.result r → IsParsedFrom r m → k < 9
    → slice_index_or (nine c) k a ≡ a → HasDefault a q → Reads (found_of m) a.id.now a.ignore_case q
option_reads c r m k a q added parsed lt at default =
    let b = bare c in
    default_in_chain c.after_help.result r (nine c) k a q m (chain c r added) b.no_args b.no_groups
    b.no_globals (nine_fit c) (nine_distinct c) lt at default parsed

-- ---- the clauses

pub returns-clause-app : goal.returns-clause-app
unfolding smtcheck_app
returns-clause-app c =
    let named : app_of c.after_help.result ≡ with_version (new_app (codes "smtcheck")) =
    ap app_of_fields c.after_help.ensures ∙ ap app_of_fields c.in_ok-bin_name.ensures.0 ∙ ap app_of_fields
    c.about.ensures ∙ ap app_of_fields c.version.ensures ∙ ap with_version c.new.ensures.app in
    let first = c.in_ok-arg.ensures.shape c.file-script.ensures.local ∙ ap₂ with_rule named
    c.file-script.ensures.rule in
    let second = c.in_ok-arg-2.ensures.shape c.file-answers.ensures.local ∙ ap₂ with_rule first
    c.file-answers.ensures.rule in
    let third = c.in_ok-arg-3.ensures.shape c.solver.ensures.local ∙ ap₂ with_rule second
    c.solver.ensures.rule.1 in
    let fourth = c.in_ok-arg-4.ensures.shape c.print_success.ensures.local ∙ ap₂ with_rule third
    c.print_success.ensures.rule.1 in
    let fifth = c.in_ok-arg-5.ensures.shape c.profile.ensures.local ∙ ap₂ with_rule fourth
    c.profile.ensures.rule.1 in
    let sixth = c.in_ok-arg-6.ensures.shape c.steps.ensures.local ∙ ap₂ with_rule fifth
    c.steps.ensures.rule in
    let seventh = c.in_ok-arg-7.ensures.shape c.in_ok-explain.ensures.local ∙ ap₂ with_rule sixth
    c.in_ok-explain.ensures.rule.1 in
    let eighth = c.in_ok-arg-8.ensures.shape c.hints.ensures.local ∙ ap₂ with_rule seventh
    c.hints.ensures.rule.1 in
    IfOk-weaker c.arg-9.result _ _
    (λ r added. (
      record {
        solver = c.solver.ensures.rule.0;
        success = c.print_success.ensures.rule.0;
        profile = c.profile.ensures.rule.0;
        explain = c.in_ok-explain.ensures.rule.0;
        hints = c.hints.ensures.rule.0;
      },
      added.shape c.flag-strict.ensures.local ∙ ap₂ with_rule eighth
          c.flag-strict.ensures.rule,
    ))
    c.arg-9.ensures

pub returns-clause-needs : goal.returns-clause-needs
returns-clause-needs c =
    let script = c.file-script.result in
    let answers = c.file-answers.result in
    let script_is = c.file-script.ensures.rule in
    let answers_is = c.file-answers.ensures.rule in
    let script_id : script.id.now ≡ codes "SCRIPT" = ap (λ (r : Rule). r.id) script_is in
    let answers_id : answers.id.now ≡ codes "ANSWERS" = ap (λ (r : Rule). r.id) answers_is in
    IfOk-weaker c.arg-9.result _ _ (λ r added m parsed.
    let first = required_has c r m 0 script added parsed (omega arith)
    (takes_value script _ script_is c.file-script.ensures.undivided) in
    let second = required_has c r m 1 script added parsed (omega arith)
    (takes_value answers _ answers_is c.file-answers.ensures.undivided) in
    (rw script_id at first, rw answers_id at second)) c.arg-9.ensures

pub returns-clause-steps : goal.returns-clause-steps
returns-clause-steps c =
    let steps = c.steps.ensures in
    let option = c.steps.result in
    let default = has_default option _ (Unsigned 0 most_steps) _ steps.rule steps.undivided
    steps.unconditional refl refl refl refl in
    IfOk-weaker c.arg-9.result _ _ (λ r added m parsed.
    counted (found_of m) option steps.rule
    (option_reads c r m 5 option _ added parsed (omega arith) refl default)) c.arg-9.ensures
