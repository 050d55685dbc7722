use Rattle.smt_dialogue.proofs.ReadSoFarLemmas.{grown_text}
use Rattle.smt_dialogue.specs.Depth.{max_depth_of}
use Rattle.smt_dialogue.proofs.laws.so_far.lines_so_far_stay.Goals as goal

pub returns : goal.returns
returns c = λ options script_told answers_told grown_script_told grown_answers_told
    script answers grown_script grown_answers ls ms s g x y.
    let grown = grown_text c.one_reading.ensures.one c.read_trees_stay.ensures.stay
    c.read_faults_stay.ensures.stay (max_depth_of options.profile) in
    c.decided_lines_stay.ensures options x.script_text x.answers_text y.script_text y.answers_text
    ls ms (grown script_told script grown_script_told grown_script x.script_text y.script_text s x.script_read
    y.script_read)
    (grown answers_told answers grown_answers_told grown_answers x.answers_text y.answers_text g x.answers_read
    y.answers_read) x.lines_are y.lines_are
