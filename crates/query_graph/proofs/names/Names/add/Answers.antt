use Rattle.std.proofs.Common.{rules, ◌≡◌, not, sym, ap, ◌∙◌}
use Rattle.query_graph.proofs.Tables.{any_key}
use Rattle.query_graph.proofs.names.Names.add.Goals as goal

pub returns-clause-new : goal.returns-clause-new
returns-clause-new c =
    let copied : c.in_ok-name.name.items ≡ c.args.name.now = grind rules in
    rw (sym c.self.view_is)
    (c.in_ok-new.ensures.added ∙ ap not (any_key c.self.inside.table.keys c.in_ok-name.name.items c.args.name.now copied))
