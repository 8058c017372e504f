use Rattle.rewrites.proofs.table.+rows_of_part.Given as goal

-- a source has a lower number
abbrev pub decreases-rows_of_part : goal.decreases-rows_of_part
decreases-rows_of_part l = l.node
