use Rattle.std.proofs.Common.{◌≡◌, ◌++◌, ◌+◌, ap, refl, reverse, subst, sym, ◌∙◌, length, List, ℕ}
use Rattle.smt_trees.specs.Places.{IsListIn}
use Rattle.smt_trees.specs.Sexp.{Cons, Items, Nil, Reserved}
use Rattle.smt_trees.specs.View.{sexp_of, sexps_of}
use Rattle.smt_trees.specs.declared.reserved.Word.TheVariants.{Let}
use Rattle.smt_terms.specs.Internal.DraftView.{IsPlaced, placed_from, seen_by, sorts_from}
use Rattle.smt_terms.specs.Internal.Frames.{BodyWaits, Chain, Link, begun, variables_of}
use Rattle.smt_terms.specs.declared.library.frames.Body.{Body}
use Rattle.smt_terms.specs.declared.library.frames.Frame.{Frame}
use Rattle.smt_terms.specs.declared.library.frames.Frame.TheVariants as frame
use Rattle.smt_terms.proofs.DraftLemmas.{placed_more}
use Rattle.smt_terms.proofs.FrameLemmas.{begun_next, between_same, leads_itself, pushed, split_same}
use Rattle.smt_terms.proofs.LetFrameLemmas.{variables_bound}
use Rattle.smt_terms.proofs.library.Library.begin_body.Goals as goal

pub begin-requires : goal.begin-requires
begin-requires c =
    let d = c.args.draft.now in
    subst (λ n. IsPlaced (seen_by c.bind_all.new.draft) n) (sym c.bind_all.ensures.base)
    (placed_more d.base
    (variables_of (sexps_of c.between-bindings.result) (sorts_from c.args.binder.start d.arguments)) (seen_by d)
    (seen_by c.bind_all.new.draft) c.requires.placed c.in_ok-bind_all.ensures.bound)

pub returns-clause-next : goal.returns-clause-next
returns-clause-next c first outer bindings body bound placed is_let so chain =
    let library = c.args.self.now in
    let whole = c.args.whole in
    let b = c.args.binder in
    let d = c.args.draft.now in
    let new = c.bind_all.new.draft in
    let same = between_same whole c.between-bindings.result b.bindings b.body bindings is_let.bindings_lie
    c.between-bindings.ensures.part in
    let bodies = between_same whole c.between-bodies.result b.body b.end (Cons body Nil) is_let.body_lies
    c.between-bodies.ensures.part in
    let sorts = sorts_from b.start d.arguments in
    let variables : variables_of (sexps_of c.between-bindings.result) sorts ≡ bound =
    ap (λ ts. variables_of ts sorts) same.0
    ∙ variables_bound library outer.draft d bindings bound c.args.is_open b.start is_let.start so in
    let split = split_same body (sexp_of c.in-Some.term) Nil (sexps_of c.in-Some.rest) (sexps_of c.between-bodies.result)
    bodies.0 c.in-Some.ensures.trees in
    let inner = begun (sexp_of c.in-Some.term) 0 new in
    let own : Body = record { start = b.start; around = b.around; outer = c.in_ok-narrow.field-0 } in
    let waits : BodyWaits library own c.args.is_open outer inner = record {
      bindings = bindings;
      bound = bound;
      mid = d;
      is = is_let.is ∙ ap (λ t. Items (Cons (Reserved Let) (Cons (Items bindings) (Cons t Nil)))) split.0;
      form = is_let.form;
      around = is_let.around;
      none_around = refl;
      start = is_let.start;
      before = c.in_ok-narrow.ensures ∙ c.len.ensures ∙ ap length so.kept.variables;
      so_far = so;
      seen = c.in_ok-bind_all.ensures.bound
          ∙ ap (λ vs. placed_from (length (seen_by d)) vs ++ seen_by d) variables;
      base = c.bind_all.ensures.base;
      labels = c.bind_all.ensures.labels;
      nodes = c.bind_all.ensures.nodes;
      arguments = c.bind_all.ensures.arguments;
    } in
    let f : Frame = frame.Body own c.args.is_open in
    let link : Link library whole f outer inner =
    record { part = inner; leads = leads_itself library inner; placed = placed; waits = waits } in
    let places = c.in-Some.ensures.places whole b.end bodies.1 in
    begun_next c.begin.result library whole (reverse c.push.new.self.items) first inner c.begin.new.draft c.in-Some.term
    (c.size.result + b.end) c.begin.ensures.begun c.begin.ensures.fault refl
    (subst (λ n. IsPlaced (seen_by new) n) (sym c.bind_all.ensures.base)
    (placed_more d.base (variables_of (sexps_of c.between-bindings.result) sorts) (seen_by d) (seen_by new)
    c.requires.placed c.in_ok-bind_all.ensures.bound))
    (subst (λ (n : ℕ). IsListIn whole c.in-Some.term (n + b.end)) (sym c.size.ensures) places.1)
    (subst (λ (xs : List Frame). Chain library whole xs first inner)
    (sym (pushed c.args.frames.now.items c.push.new.self.items f c.in_ok-push.ensures.items)) (outer, link, chain))
