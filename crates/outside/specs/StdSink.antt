use Rattle.std.specs.Prelude.{ℕ}
use Rattle.outside.specs.declared.std_sink.StdSink.{StdSink}

-- how many writes failed so far
abbrev pub failed_writes : {R : Type 0} → StdSink R → ℕ
failed_writes sink = sink.faults
