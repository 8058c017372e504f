use Rattle.std.proofs.Common.{map, take}
use Rattle.std.specs.HashMap.{get_by}
use Rattle.bags.specs.Bag.{row_eq}
use Rattle.plain_operators.specs.Index.{GathersPlaces}
use Rattle.plain_operators.proofs.key_places.RowIndex.new.Given as goal

abbrev pub invariant-loop-place : goal.invariant-loop-place
invariant-loop-place l = GathersPlaces (λ row. get_by (λ k. row_eq row k.now) l.numbers) (map (λ places. places.items) l.groups.items) (map (λ row. row.now) (take l.place l.rows))
