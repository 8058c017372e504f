use Rattle.std.proofs.Common.{List, ℕ, [], ◌++◌, Bor, take, get_or, sym, ap, ◌∙◌}
use Rattle.std.specs.List.{flat_map}
use Rattle.std.proofs.lemmas.List.{flat_map_more, map_more}
use Rattle.plain_operators.specs.Columns.{cut}
use Rattle.listed.specs.Lists.{lent}
use Rattle.plain_operators.proofs.cut.cut_rows.Goals as goal

pub loop-row-preserved : goal.loop-row-preserved
loop-row-preserved c =
    let rows = c.args.rows.now in
    let none : Bor (List ℕ) = record { ref_ptr = (0, 0); now = [] } in
    let row = get_or rows c.loop-row.row-index none in
    let made = cut c.args.columns.now in
    let before = lent (take c.loop-row.row-index rows) in
    c.in_ok-add_cut.ensures ∙ ap (λ l. l ++ made row.now) c.loop-row.invariant ∙ flat_map_more made [] before row.now
    ∙ ap (flat_map made) (sym (map_more (λ (r : Bor (List ℕ)). r.now) rows c.loop-row.row-index none c.loop-row-test.true))
