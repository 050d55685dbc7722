use Rattle.std.proofs.Common.{Result, Ok, Err, sym, subst}
use Rattle.std.specs.Prelude.{MatchOption, MatchResult}
use Rattle.std.specs.Result.{result_ok}
use Rattle.smt_eval.specs.Interpretation.{Fits, IsInterpretation}
use Rattle.smt_eval.specs.declared.interpretation.Interpretation.{Interpretation}
use Rattle.smt_eval.specs.declared.model_fault.ModelFault.{ModelFault}
use Rattle.smt_terms.specs.Library.{StandsFor}
use Rattle.smt_terms.specs.Signature.{Signature}
use Rattle.smt_terms.specs.declared.library.Library.{Library}
use Rattle.rows.proofs.models.print_model.Goals as goal

-- a model that was read without a fault fits the library
fits : (read : Result Interpretation ModelFault) (library : Library) (s : Signature) (IsModel : Signature → Type 0)
    (Told : ModelFault → Type 0) → StandsFor library s
    → MatchResult read (λ i. (d : Signature) × IsModel d × IsInterpretation i s d) Told
    → MatchOption (result_ok read) (Unit {0}) (λ i. Fits i library)
fits (Ok i) library s IsModel Told stands h = record { script = s; definitions = h.0; names = stands; holds = h.2 }
fits (Err fault) library s IsModel Told stands h = tt

pub returns : goal.returns
returns g c =
    let library = c.args.declared.now in
    subst (λ found. MatchOption found (Unit {0}) (λ i. Fits i library)) (sym c.ok.ensures.value)
    (fits c.read-read.result library c.requires.0 _ _ c.requires.1
    (c.read-read.ensures.model c.requires.0 c.requires.1))
