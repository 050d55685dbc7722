use Rattle.std.proofs.Common.{◌≡◌, ◌<◌, ◌+◌, ℕ, suc, List, ◌∷◌, drop, length, get_or, ap, sym, ◌∙◌, arith, add-one}
use Rattle.std.proofs.Math.Seq.{drop-cons}
use Rattle.smt_terms.specs.Contents.{contents_of}
use Rattle.smt_terms.specs.declared.labels.Label.{Label}
use Rattle.smt_terms.proofs.AssertionLemmas.{AreAdded-next, AreAdded-none}
use Rattle.smt_terms.proofs.ContentsLemmas.{extends_on}
use Rattle.smt_terms.proofs.library.Library.add_labels.Goals as goal

pub loop-label-init : goal.loop-label-init
loop-label-init c = AreAdded-none c.args.self.now c.args.labels.now c.requires

-- the first of the labels that are left
next_left : (ls : List Label) (i : ℕ) (l : Label) → i < length ls → l ≡ get_or ls i l
    → drop i ls ≡ l ∷ drop (i + 1) ls
next_left ls i l within is =
    rw add-one (drop-cons ls i l within ∙ ap (λ (k : Label). k ∷ drop (suc i) ls) (sym is))

pub loop-label-preserved : goal.loop-label-preserved
loop-label-preserved c =
    AreAdded-next c.args.self.now c.loop-label.self c.add_label.new.self c.args.labels.now
    (drop c.loop-label.label-index c.args.labels.now) _ c.label-item.result c.loop-label.invariant
    (next_left c.args.labels.now c.loop-label.label-index c.label-item.result
    (omega (arith, c.loop-label-test.true)) c.label-item.is)
    c.in_ok-add_label.ensures.added c.in_ok-add_label.ensures.ranks c.in_ok-add_label.ensures.names
    c.in_ok-add_label.ensures.bodies c.in_ok-add_label.ensures.grown c.add_label.ensures.transient

pub returns-in_err-add_label-clause-transient : goal.returns-in_err-add_label-clause-transient
returns-in_err-add_label-clause-transient c =
    c.add_label.ensures.transient ∙ c.loop-label.invariant.transient

pub returns-clause-transient : goal.returns-clause-transient
returns-clause-transient c = c.loop-label.invariant.transient

pub returns-in_err-add_label-clause-grown : goal.returns-in_err-add_label-clause-grown
returns-in_err-add_label-clause-grown c =
    extends_on (contents_of c.args.self.now) (contents_of c.loop-label.self) (contents_of c.add_label.new.self)
    c.loop-label.invariant.grown c.add_label.ensures.grown
