use Rattle.std.proofs.Common.{ap, Some}
use Rattle.outside.proofs.FilesLemmas.{files_written}
use Rattle.outside.proofs.memory_folder.MemoryFolderFolder.write.Goals as goal

pub returns-in-Ok-clause-written : goal.returns-in-Ok-clause-written
returns-in-Ok-clause-written c =
    ap Some (files_written c.args.self.now.files c.insert.new.self c.in_ok-key.key c.args.name.now c.in_ok-copy.copy c.args.bytes.now
    c.in-Ok.ensures.updates c.in_ok-key.ensures.ok c.in_ok-copy.ensures.items)
