use Rattle.std.proofs.Common.{◌≡◌, ◌≤◌, ◌+◌, ◌*◌, [], arith, length, refl, rules}
use Rattle.smt_remarks.specs.Lines.{count_in}
use Rattle.smt_remarks.specs.declared.form.Form.{Form}
use Rattle.smt_remarks.specs.declared.form.Form.TheVariants as forms
use Rattle.smt_explain.proofs.told.explain.Goals as goal

-- no text has no line
none : (form : Form) → count_in form [] ≡ 0
none forms.Text = refl
none forms.Json = refl
none forms.Sarif = refl

pub returns-clause-few : goal.returns-clause-few
returns-clause-few c =
    let begun : count_in c.args.form c.begin.new.out.items ≡ 0 =
    rw (c.in_ok-begin.ensures.few, c.new-out.ensures.items) (none c.args.form) in
    let told : count_in c.args.form c.tell_all.new.out.items
    ≤ count_in c.args.form c.begin.new.out.items + 200 * length c.args.lines.now = c.in_ok-tell_all.ensures.few in
    let ended : count_in c.args.form c.end.new.out.items ≡ count_in c.args.form c.tell_all.new.out.items = c.in_ok-end.ensures.few in
    omega (arith, begun, told, ended)
