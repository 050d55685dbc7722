use Rattle.std.proofs.Common.{◌≡◌, ◌↔◌, List, Option, Some, ◌∙◌, ap, subst, sym}
use Rattle.smt_theory.specs.Ranks.{HasRank, rank_of, shape_of}
use Rattle.smt_theory.specs.Shapes.{rank_by}
use Rattle.smt_theory.specs.Sort.{Sort}
use Rattle.smt_theory.specs.declared.op.Op.{Op}
use Rattle.smt_theory.proofs.RankLemmas.{shape-row}
use Rattle.smt_theory.proofs.ranks.rank.Goals as goal

-- what has been computed is what the table has
listed : (op : Op) (args : List Sort) (o : Option Sort) → o ≡ rank_of op args → (sort : Sort)
    → (o ≡ Some sort) ↔ HasRank op args sort
listed op args o e sort =
    subst (λ r. (r ≡ Some sort) ↔ HasRank op args sort) (sym e) (shape-row (shape_of op) args sort)

pub returns-clause-listed : goal.returns-clause-listed
returns-clause-listed c =
    listed c.args.op c.args.args.now _
    (c.rank_by.ensures ∙ ap (λ shape. rank_by shape c.args.args.now) c.shape.ensures)
