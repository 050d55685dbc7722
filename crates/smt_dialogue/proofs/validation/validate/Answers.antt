use Rattle.smt_dialogue.proofs.validation.validate.Goals as goal

pub report_of-requires-clause-stands : goal.report_of-requires-clause-stands
report_of-requires-clause-stands c = (
  c.args.options,
  c.args.script.now,
  c.args.answers.now,
  c.in-Ok.ensures.told c.args.options c.new-session.ensures.stands,
)
