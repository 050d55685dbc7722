use Rattle.std.proofs.Common.{[], ◌+◌, ◌∙◌, ap, length}
use Rattle.smt_machine.specs.Costs.{capped}
use Rattle.smt_machine.specs.Given.{given}
use Rattle.smt_eval.proofs.PartLemmas.{exact, past, term_within}
use Rattle.smt_terms.specs.Library.{element_names_of}
use Rattle.smt_eval.specs.Interpretation.{numbers_of}
use Rattle.smt_eval.specs.Known.{by_name}
use Rattle.smt_eval.specs.Numbering.{in_numbers}
use Rattle.smt_eval.specs.Parts.{model_of, nodes_in, script_of}
use Rattle.smt_eval.proofs.parts.Parts.root.Goals as goal

pub returns-then-root-count-clause-known : goal.returns-then-root-count-clause-known
returns-then-root-count-clause-known c = λ script definitions t names holds term.
    let self = c.args.self.now in
    let library = self.interpretation.now.definitions in
    let model = model_of self in
    let costs = self.interpretation.now.costs in
    let within = term_within (numbers_of self.interpretation.now) model (script_of self) self.interpretation.now.declared.items costs.items c.args.term t
    self.counted term in
    let is = c.root-root.ensures ∙ ap (λ n. capped (n + c.args.term)) c.tables.ensures.count in
    let number = exact costs (length model.rows + c.args.term) c.root-root.result is within in
    ap (λ n. given (nodes_in self) n []) number
    ∙ c.numbers_stand_for_names.ensures model (script_of self) self.interpretation.now.declared.items
    (element_names_of library) (length model.rows + c.args.term) [] (c.elements_have_numbers.ensures library.nodes)
    ∙ ap (in_numbers (element_names_of library))
    (c.nodes_give_the_values_of_their_terms.ensures by_name model (script_of self)
    self.interpretation.now.declared.items script definitions 0 c.args.term t (c.tables.ensures.named script names)
    holds.stands.terms holds.defined holds.theories holds.no_elements holds.distinct holds.bodies term)

pub returns-else-root-count-clause-number : goal.returns-else-root-count-clause-number
returns-else-root-count-clause-number c = λ t term.
    let self = c.args.self.now in
    let library = self.interpretation.now.definitions in
    let model = model_of self in
    let costs = self.interpretation.now.costs in
    let within = term_within (numbers_of self.interpretation.now) model (script_of self) self.interpretation.now.declared.items costs.items c.args.term t
    self.counted term in
    let is = c.root-root.ensures ∙ ap (λ n. capped (n + c.args.term)) c.tables.ensures.count in
    past costs (length model.rows + c.args.term) c.len-count.result c.root-root.result c.len-count.ensures is within
    c.if-root-count.false

pub returns-else-root-count-clause-known : goal.returns-else-root-count-clause-known
returns-else-root-count-clause-known c = λ script definitions t names holds term.
    let self = c.args.self.now in
    let library = self.interpretation.now.definitions in
    let model = model_of self in
    let costs = self.interpretation.now.costs in
    let within = term_within (numbers_of self.interpretation.now) model (script_of self) self.interpretation.now.declared.items costs.items c.args.term t
    self.counted term in
    let is = c.root-root.ensures ∙ ap (λ n. capped (n + c.args.term)) c.tables.ensures.count in
    let number = past costs (length model.rows + c.args.term) c.len-count.result c.root-root.result
    c.len-count.ensures is within c.if-root-count.false in
    ap (λ n. given (nodes_in self) n []) number
    ∙ c.numbers_stand_for_names.ensures model (script_of self) self.interpretation.now.declared.items
    (element_names_of library) (length model.rows + c.args.term) [] (c.elements_have_numbers.ensures library.nodes)
    ∙ ap (in_numbers (element_names_of library))
    (c.nodes_give_the_values_of_their_terms.ensures by_name model (script_of self)
    self.interpretation.now.declared.items script definitions 0 c.args.term t (c.tables.ensures.named script names)
    holds.stands.terms holds.defined holds.theories holds.no_elements holds.distinct holds.bodies term)
