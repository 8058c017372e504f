use Rattle.std.proofs.Common.{◌≡◌, ◌+◌, ◌<◌, ◌^◌, length}
use Rattle.tables.specs.Records.{IsReading, unread}
use Rattle.tables.proofs.reading.count_records.Given as goal

-- the records so far and those that are left are as many as at first
abbrev pub invariant-loop-found : goal.invariant-loop-found
invariant-loop-found l = IsReading l.reader × (l.found + length (unread l.reader) ≡ l.fn.taken + length (unread l.fn.reader)) × (l.found < 2 ^ 64)

abbrev pub decreases-loop-found : goal.decreases-loop-found
decreases-loop-found l = length (unread l.reader)
