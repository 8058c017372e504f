use Rattle.std.proofs.Common.{◌≡◌}
use Rattle.outside.specs.MemoryFolder.{files_made}
use Rattle.outside.proofs.FilesLemmas.{files_in}
use Rattle.outside.proofs.memory_folder.MemoryFolder.new.Given as goal

-- the map holds the files of the pairs so far
abbrev pub invariant-loop-name : goal.invariant-loop-name
invariant-loop-name l = files_in l.map ≡ files_made l.yielded
