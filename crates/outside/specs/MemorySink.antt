use Rattle.std.specs.Prelude.{◌≡◌, ℕ, ◌+◌, ◌-◌, ◌^◌, min, ◌==◌, Bool, true, false, List, Result, Ok, Err}
use Rattle.std.specs.List.{list_any}
use Rattle.outside.specs.declared.sink.OutFault.{OutFault}
use Rattle.outside.specs.declared.sink.OutFault.TheVariants.{Failed, Memory}
use Rattle.outside.specs.declared.memory_sink.MemorySink.{MemorySink}

-- the bytes that a sink in memory took
abbrev pub bytes_of : MemorySink → List ℕ
bytes_of sink = sink.bytes.items

-- the numbers of the writes that are to fail
abbrev pub failing_of : MemorySink → List ℕ
failing_of sink = sink.failing.items

-- how many writes were made so far
abbrev pub writes_of : MemorySink → ℕ
writes_of sink = sink.writes

-- how many writes failed so far
abbrev pub failed_writes : MemorySink → ℕ
failed_writes sink = sink.faults

-- the next write is listed among those that fail
abbrev pub is_listed : MemorySink → Bool
is_listed sink = list_any (λ number. number == writes_of sink) (failing_of sink)

-- a write failed exactly where it had to
abbrev pub FailsExactly : Bool → Result Unit OutFault → Type 0
FailsExactly due (Ok x) = due ≡ false
FailsExactly due (Err Failed) = due ≡ true
FailsExactly due (Err Memory) = Unit {0}

-- how many writes were made, after one more; one that found no memory isn't counted
abbrev pub writes_after : Result Unit OutFault → ℕ → ℕ
writes_after (Ok x) writes = min (writes + 1) (2 ^ 64 - 1)
writes_after (Err Failed) writes = min (writes + 1) (2 ^ 64 - 1)
writes_after (Err Memory) writes = writes

-- how many writes failed, after one more
abbrev pub faults_after : Result Unit OutFault → ℕ → ℕ
faults_after (Ok x) faults = faults
faults_after (Err Failed) faults = min (faults + 1) (2 ^ 64 - 1)
faults_after (Err Memory) faults = faults
