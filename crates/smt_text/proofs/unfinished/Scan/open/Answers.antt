use Rattle.std.proofs.Common.{◌≡◌, ◌-◌, length, slice_get, ap, ◌∙◌}
use Rattle.smt_text.proofs.ScanLemmas.{inner_last, outer_first}
use Rattle.smt_text.proofs.unfinished.Scan.open.Goals as goal

pub returns : goal.returns
returns c =
    λ text h. let lists = c.args.self.now.lists.items in
    let all : c.deref.result.now ≡ lists = c.deref.ensures.value in
    let same : c.deref-2.result.now ≡ lists = c.deref-2.ensures.value in
    record {
      outermost = outer_first text lists (length text) c.copied.result h.lists
          (c.copied.ensures ∙ c.first.ensures.value ∙ ap (λ xs. slice_get xs 0) all);
      innermost = inner_last text lists (length text) c.copied-2.result h.lists
          (c.copied-2.ensures ∙ c.last.ensures.value ∙ ap (λ xs. slice_get xs (length xs - 1)) same);
      token = c.open_token.ensures text h;
    }
