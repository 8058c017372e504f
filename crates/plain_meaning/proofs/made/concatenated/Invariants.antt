use Rattle.std.proofs.Common.{◌≡◌, map, length, take}
use Rattle.std.specs.List.{flat_map}
use Rattle.plain_operators.specs.Sizes.{AllWide}
use Rattle.plain_meaning.specs.Meaning.{rows_of}
use Rattle.plain_meaning.proofs.made.concatenated.Given as goal

abbrev pub invariant-loop-source : goal.invariant-loop-source
invariant-loop-source l = record { listed : map (λ row. row.now) l.rows.items ≡ flat_map (rows_of (map (λ t. t.rows) l.earlier)) (take l.source-index l.concat.sources); wide : AllWide (length l.columns.items) (map (λ row. row.now) l.rows.items) }
