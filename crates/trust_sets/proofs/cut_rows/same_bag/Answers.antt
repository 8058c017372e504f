use Rattle.std.proofs.Common.{ℕ, Bor, List, ap, ◌∙◌}
use Rattle.std.specs.Cmp.Lexicographic.{pointwise}
use Rattle.bags.specs.Bag.{row_eq}
use Rattle.trust_sets.proofs.SameRows.{same_sorted}
use Rattle.trust_sets.proofs.cut_rows.same_bag.Goals as goal

pub returns : goal.returns
returns c =
    let same = λ (a b : Bor (List ℕ)). row_eq a.now b.now in
    let compared = c.eq.ensures ∙ ap (λ l. pointwise same l c.as_slice-2.result.now) c.as_slice.ensures.value ∙ ap (pointwise same c.sort_rows.new.rows.items) c.as_slice-2.ensures.value in
    same_sorted c.sorted_tells_bags.ensures c.args.left.items c.args.right.items c.sort_rows.new.rows.items c.sort_rows-2.new.rows.items c.eq.result c.sort_rows.ensures.sorted c.sort_rows-2.ensures.sorted compared
