use Rattle.outside.proofs.FilesLemmas.{files_made-more}
use Rattle.outside.proofs.memory_folder.MemoryFolder.new.Goals as goal

pub loop-name-preserved-in_ok-insert : goal.loop-name-preserved-in_ok-insert
loop-name-preserved-in_ok-insert c =
    files_made-more c.loop-name.map c.insert.new.self c.loop-name.yielded c.in-Some.name c.in-Some.bytes c.loop-name.invariant c.in_ok-insert.ensures.updates

pub loop-name-preserved : goal.loop-name-preserved
loop-name-preserved c =
    files_made-more c.loop-name.map c.insert.new.self c.loop-name.yielded c.in-Some.name c.in-Some.bytes c.loop-name.invariant c.in_ok-insert.ensures.updates
