use Rattle.tables.proofs.row.read_field.Goals as goal

pub read_word-requires : goal.read_word-requires
read_word-requires c = c.requires
