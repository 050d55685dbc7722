use Rattle.smt_forms.proofs.MarkLemmas.{marked-other, marked-own}
use Rattle.smt_forms.proofs.marks.with_mark.Goals as goal

pub returns-clause-own : goal.returns-clause-own
returns-clause-own c = marked-own c.args.marks c.mark.result c.args.name.now c.mark.ensures

pub returns-clause-others : goal.returns-clause-others
returns-clause-others c other h = marked-other c.args.marks _ other h
