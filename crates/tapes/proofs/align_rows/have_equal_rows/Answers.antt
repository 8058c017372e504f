use Rattle.std.proofs.Common.{◌<◌, length, sym, ◌∙◌, ap, arith}
use Rattle.listed.specs.Lists.{owned}
use Rattle.tapes.specs.Align.{row_at, rows_applied}
use Rattle.tapes.proofs.Aligning.{length-rows_applied, row_where_applied, equal_more, equal_rows, different_rows}
use Rattle.tapes.proofs.align_rows.have_equal_rows.Goals as goal

pub loop-i-preserved : goal.loop-i-preserved
loop-i-preserved c =
    let first = c.args.first.now in
    let second = c.args.second.now in
    let i = c.loop-i.i in
    let in_first : i < length first = c.loop-i-test.true in
    let in_second : i < length second = omega arith in
    equal_more (rows_applied first (owned c.args.source.now.items)) (rows_applied second (owned c.args.target.now.items)) i c.as_slice-row.result.now
    c.as_slice-other.result.now (omega (arith, length-rows_applied first (owned c.args.source.now.items)))
    (omega (arith, length-rows_applied second (owned c.args.target.now.items))) c.loop-i.invariant
    (c.as_slice-row.ensures.value ∙ row_where_applied first c.args.source.now.items i c.index.result.now in_first (c.requires.first i in_first) c.index.ensures)
    (c.as_slice-other.ensures.value
    ∙ row_where_applied second c.args.target.now.items i c.index-in-loop-i.result.now in_second (c.requires.second i in_second) c.index-in-loop-i.ensures)
    (equal_rows c.as_slice-row.result.now c.as_slice-other.result.now c.ne.result c.ne.ensures c.if-ne.false)

pub returns-then-ne : goal.returns-then-ne
returns-then-ne c = (
  λ t. absurd (cc),
  λ e.
      absurd
      (let first = c.args.first.now in
      let second = c.args.second.now in
      let i = c.loop-i.i in
      let in_first : i < length first = c.loop-i-test.true in
      let in_second : i < length second = omega arith in
      different_rows c.as_slice-row.result.now c.as_slice-other.result.now c.ne.result c.ne.ensures c.if-ne.true
      (c.as_slice-row.ensures.value ∙ row_where_applied first c.args.source.now.items i c.index.result.now in_first (c.requires.first i in_first) c.index.ensures
      ∙ ap (λ rows. row_at rows i) e
      ∙ sym (row_where_applied second c.args.target.now.items i c.index-in-loop-i.result.now in_second (c.requires.second i in_second) c.index-in-loop-i.ensures)
      ∙ sym c.as_slice-other.ensures.value)),
)
