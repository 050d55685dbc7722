use Rattle.std.proofs.Common.{◌≡◌, Ok, refl, ap, sym, ◌∙◌}
use Rattle.std.proofs.lemmas.Result.{IfErr-weaker, on_ok_weaker}
use Rattle.smt_terms.specs.Contents.{contents_of}
use Rattle.smt_terms.specs.Internal.LibraryView.{abbreviations_of, sort_names}
use Rattle.smt_terms.specs.Signature.{sort_names_of}
use Rattle.smt_terms.specs.Declarations.{sort_declared_in}
use Rattle.smt_terms.proofs.ApartLemmas.{apart_same}
use Rattle.smt_terms.proofs.ContentsLemmas.{more_abbreviations, nothing_more}
use Rattle.smt_terms.proofs.DefinitionLemmas.{same_fault}
use Rattle.smt_terms.proofs.ItemLemmas.{sorts_as}
use Rattle.smt_terms.proofs.StandsLemmas.{on_err_weaker, stands_abbreviated, stands_still}
use Rattle.smt_terms.proofs.ContentsLemmas.{same_contents}
use Rattle.smt_terms.proofs.library.Library.declare_sort.Goals as goal

pub returns-clause-declared : goal.returns-clause-declared
returns-clause-declared c =
    let old = c.args.self.now in
    on_ok_weaker c.declare.result
    (λ more s stands. (
      more.0,
      ap (λ n. sort_declared_in n c.args.command c.args.name.now)
          (sym (sorts_as old s stands)) ∙ more.1,
      stands_abbreviated (contents_of old) _ s c.args.name.now more.0 c.declare.ensures.theories refl more.2
          refl refl refl refl refl refl stands,
    ))
    c.declare.ensures.declared

pub returns-clause-refused : goal.returns-clause-refused
returns-clause-refused c =
    let old = c.args.self.now in
    let x = c.args.name.now in
    IfErr-weaker c.declare.result _ _
    (λ fault refused s stands.
    same_fault (sort_declared_in (sort_names old.sorts) c.args.command x) (sort_declared_in (sort_names_of s) c.args.command x) fault
    (ap (λ n. sort_declared_in n c.args.command x) (sym (sorts_as old s stands))) refused)
    c.declare.ensures.refused

pub returns-clause-unchanged : goal.returns-clause-unchanged
returns-clause-unchanged c =
    on_err_weaker c.declare.result
    (λ same s stands. stands_still (contents_of c.args.self.now) _ s (record {
      theories = c.declare.ensures.theories;
      elements = refl;
      abbreviations = same;
      ranks = refl;
      heads = refl;
      declared = refl;
      definitions = refl;
      bodies = refl;
      rows = nothing_more _ _ refl;
    }) stands) c.declare.ensures.unchanged

pub returns-clause-grown : goal.returns-clause-grown
returns-clause-grown c = record {
  theories = c.declare.ensures.theories;
  elements = refl;
  abbreviations = more_abbreviations
      (λ found. sort_declared_in (sort_names c.args.self.now.sorts) c.args.command c.args.name.now
      ≡ Ok found) c.declare.result (abbreviations_of c.args.self.now.sorts)
      (abbreviations_of c.declare.new.self) c.args.name.now c.declare.ensures.declared
      c.declare.ensures.unchanged;
  ranks = nothing_more _ _ refl;
  heads = nothing_more _ _ refl;
  apart = apart_same _ _ _ refl;
  declared = nothing_more _ _ refl;
  definitions = nothing_more _ _ refl;
  bodies = nothing_more _ _ refl;
  rows = nothing_more _ _ refl;
}

pub returns-clause-restored : goal.returns-clause-restored
returns-clause-restored c =
    on_err_weaker c.declare.result
    (λ same. same_contents _ (contents_of c.args.self.now) c.declare.ensures.theories refl same refl refl refl refl refl
    refl) c.declare.ensures.unchanged
