use Rattle.lanes.specs.declared.party.Party.TheVariants.{First, Second, Third}
use Rattle.twin.proofs.places.readers_at.Goals as goal

pub cursor_at-requires : goal.cursor_at-requires
cursor_at-requires c = c.requires First

pub cursor_at-requires-2 : goal.cursor_at-requires-2
cursor_at-requires-2 c = c.requires Second

pub cursor_at-requires-3 : goal.cursor_at-requires-3
cursor_at-requires-3 c = c.requires Third
