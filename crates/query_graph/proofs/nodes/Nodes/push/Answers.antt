use Rattle.std.proofs.Common.{rules, ◌≡◌, ◌++◌, [], ◌∷◌, sym, ◌∙◌}
use Rattle.query_graph.proofs.Tables.{columns_with, names_with}
use Rattle.query_graph.proofs.nodes.Nodes.push.Goals as goal

pub invariant_of-self-2 : goal.invariant_of-self-2
invariant_of-self-2 c =
    let list : c.push.new.self.items ≡ c.self.inside.list.items ++ c.args.node ∷ [] = grind rules in
    let tables : c.push-2.new.self.items ≡ c.self.inside.columns.items ++ c.args.columns ∷ [] = grind rules in
    record {
      nodes = rw list (names_with c.self.inside.names _ c.self.inside.list.items c.args.node c.in_ok-add.field-0 c.self.invariant.nodes (rw (sym c.self.view_is) at c.requires.new)
          (rw c.bytes.ensures at c.in_ok-add.ensures.new) (rw c.bytes.ensures at c.in_ok-add.ensures.added));
      columns = rw list (tables ∙ columns_with c.self.inside.columns.items c.self.inside.list.items c.args.node c.args.columns c.self.invariant.columns c.requires.columns);
    }
