use Rattle.std.proofs.Common.{◌+◌, ◌*◌, ◌≤◌, length, arith}
use Rattle.tables.proofs.Cut.{length-rows_cut, row_within, slice_get-rows_cut}
use Rattle.tables.proofs.table.Table.row.Goals as goal

-- the row at the index lies within the cells
inside : (c : goal.After-as_slice) → c.args.index * length c.self.inside.columns.items + length c.self.inside.columns.items ≤ length c.self.inside.cells.items
inside c =
    let below = rw (← c.self.view_is) at c.requires in
    row_within c.args.index c.self.inside.count _ _ (rw length-rows_cut at below) c.self.invariant.full

pub overflow_mul-index : goal.overflow_mul-index
overflow_mul-index c = let h = inside c in grind arith

pub split_at-requires : goal.split_at-requires
split_at-requires c = let h = inside c in grind arith

pub split_at-requires-2 : goal.split_at-requires-2
split_at-requires-2 c =
    let below = rw (← c.self.view_is) at c.requires in
    let h = row_within c.args.index c.self.inside.count _ _ (rw length-rows_cut at below) c.self.invariant.full in
    grind arith

pub returns-clause-words : goal.returns-clause-words
returns-clause-words c =
    let below = rw (← c.self.view_is) at c.requires in
    let h = slice_get-rows_cut (length c.self.inside.columns.items) c.self.inside.count c.self.inside.cells.items c.args.index (rw length-rows_cut at below) in
    rw (← c.self.view_is) (grind (arith, h))
