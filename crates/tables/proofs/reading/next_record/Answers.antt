use Rattle.csv.specs.Records.{fields_of}
use Rattle.tables.proofs.OneRead.{found_by, passes}
use Rattle.tables.proofs.reading.next_record.Goals as goal

pub returns-clause-found : goal.returns-clause-found
returns-clause-found c =
    let read = c.read_byte_record in
    (found_by c.args.reader.now read.new.self (fields_of read.new.row) read.result c.map_err.result c.requires
    (read.ensures.ready c.requires.trim) read.ensures.flexible read.ensures.reads (passes _ _ _ c.map_err.ensures.cases c.map_err.ensures.variant)).0

pub returns-clause-end : goal.returns-clause-end
returns-clause-end c =
    let read = c.read_byte_record in
    (found_by c.args.reader.now read.new.self (fields_of read.new.row) read.result c.map_err.result c.requires
    (read.ensures.ready c.requires.trim) read.ensures.flexible read.ensures.reads (passes _ _ _ c.map_err.ensures.cases c.map_err.ensures.variant)).1
