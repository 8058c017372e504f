use Rattle.std.proofs.Common.{◌≡◌, true}
use Rattle.std.specs.List.{list_all, list_any, range_with_len}
use Rattle.rewrites.specs.Up.{is_copy}
use Rattle.rewrites.proofs.columns.copies_columns.Given as goal

-- the columns so far are copied
abbrev pub invariant-loop-column : goal.invariant-loop-column
invariant-loop-column l = list_all (λ column. list_any (λ item. is_copy column item) l.items) (range_with_len 0 l.column) ≡ true
