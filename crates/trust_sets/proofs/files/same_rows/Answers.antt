use Rattle.std.proofs.Common.{◌≡◌, sym, ◌∙◌}
use Rattle.std.specs.Cmp.Lexicographic.{bytes_decides}
use Rattle.std.proofs.lemmas.Bool.{not-false}
use Rattle.trust_sets.proofs.SameRows.{same_more}
use Rattle.trust_sets.proofs.files.same_rows.Goals as goal

pub loop-index-preserved : goal.loop-index-preserved
loop-index-preserved c =
    let left = c.row.result.now in
    let right = c.row-in-loop-index.result.now in
    let same : left ≡ right = (bytes_decides left right).0 (not-false _ (sym c.ne.ensures ∙ c.if-ne.false)) in
    same_more c.args.left.now.rows c.args.right.now.rows c.loop-index.index left right c.loop-index.invariant c.row.ensures.words c.row-in-loop-index.ensures.words same
