use Rattle.std.proofs.Common.{◌≡◌, Ok, refl, ap, sym, ◌∙◌}
use Rattle.std.proofs.lemmas.Result.{IfErr-weaker, on_ok_weaker}
use Rattle.smt_trees.specs.View.{sexp_of}
use Rattle.smt_terms.specs.Contents.{contents_of}
use Rattle.smt_terms.specs.Internal.LibraryView.{abbreviations_of, sort_names}
use Rattle.smt_terms.specs.Signature.{sort_names_of}
use Rattle.smt_terms.specs.Declarations.{abbreviated_in}
use Rattle.smt_terms.proofs.ApartLemmas.{apart_same}
use Rattle.smt_terms.proofs.ContentsLemmas.{more_abbreviations, nothing_more}
use Rattle.smt_terms.proofs.DefinitionLemmas.{same_fault}
use Rattle.smt_terms.proofs.ItemLemmas.{sorts_as}
use Rattle.smt_terms.proofs.StandsLemmas.{on_err_weaker, stands_abbreviated, stands_still}
use Rattle.smt_terms.proofs.ContentsLemmas.{same_contents}
use Rattle.smt_terms.proofs.library.Library.abbreviate.Goals as goal

pub returns-clause-abbreviated : goal.returns-clause-abbreviated
returns-clause-abbreviated c =
    let old = c.args.self.now in
    on_ok_weaker c.abbreviate.result
    (λ more s stands. (
      more.0,
      ap (λ n. abbreviated_in n c.args.name.now (sexp_of c.args.sort))
          (sym (sorts_as old s stands)) ∙ more.1,
      stands_abbreviated (contents_of old) _ s c.args.name.now more.0 c.abbreviate.ensures.theories refl more.2
          refl refl refl refl refl refl stands,
    ))
    c.abbreviate.ensures.abbreviated

pub returns-clause-refused : goal.returns-clause-refused
returns-clause-refused c =
    let old = c.args.self.now in
    let x = c.args.name.now in
    let tree = sexp_of c.args.sort in
    IfErr-weaker c.abbreviate.result _ _
    (λ fault refused s stands.
    same_fault (abbreviated_in (sort_names old.sorts) x tree) (abbreviated_in (sort_names_of s) x tree) fault
    (ap (λ n. abbreviated_in n x tree) (sym (sorts_as old s stands))) refused)
    c.abbreviate.ensures.refused

pub returns-clause-unchanged : goal.returns-clause-unchanged
returns-clause-unchanged c =
    on_err_weaker c.abbreviate.result
    (λ same s stands. stands_still (contents_of c.args.self.now) _ s (record {
      theories = c.abbreviate.ensures.theories;
      elements = refl;
      abbreviations = same;
      ranks = refl;
      heads = refl;
      declared = refl;
      definitions = refl;
      bodies = refl;
      rows = nothing_more _ _ refl;
    }) stands) c.abbreviate.ensures.unchanged

pub returns-clause-grown : goal.returns-clause-grown
returns-clause-grown c = record {
  theories = c.abbreviate.ensures.theories;
  elements = refl;
  abbreviations = more_abbreviations
      (λ found. abbreviated_in (sort_names c.args.self.now.sorts) c.args.name.now (sexp_of c.args.sort)
      ≡ Ok found) c.abbreviate.result (abbreviations_of c.args.self.now.sorts)
      (abbreviations_of c.abbreviate.new.self) c.args.name.now c.abbreviate.ensures.abbreviated
      c.abbreviate.ensures.unchanged;
  ranks = nothing_more _ _ refl;
  heads = nothing_more _ _ refl;
  apart = apart_same _ _ _ refl;
  declared = nothing_more _ _ refl;
  definitions = nothing_more _ _ refl;
  bodies = nothing_more _ _ refl;
  rows = nothing_more _ _ refl;
}

pub returns-clause-restored : goal.returns-clause-restored
returns-clause-restored c =
    on_err_weaker c.abbreviate.result
    (λ same. same_contents _ (contents_of c.args.self.now) c.abbreviate.ensures.theories refl same refl refl refl refl refl
    refl) c.abbreviate.ensures.unchanged
