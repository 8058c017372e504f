use Rattle.std.proofs.Common.{refl, sym, ◌∙◌}
use Rattle.query_graph.proofs.Tables.{any_key}
use Rattle.query_graph.proofs.names.Names.has.Goals as goal

pub returns : goal.returns
returns c = rw (sym c.self.view_is) (c.contains.ensures ∙ any_key c.self.inside.table.keys c.args.name.now c.args.name.now refl)
