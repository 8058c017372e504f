use Rattle.std.proofs.Common.{ap, sym, ◌∙◌}
use Rattle.std.specs.Prelude.{Some}
use Rattle.std.specs.Option.{option_map_or}
use Rattle.lowering.proofs.Elements.{at_within, none_beyond}
use Rattle.lowering.proofs.cost.rows_at.Goals as goal

pub returns-in-Some-clause-few : goal.returns-in-Some-clause-few
returns-in-Some-clause-few c =
    let found = c.in-Some.ensures.lookup in
    (c.requires c.args.number c.in-Some.node.now (at_within c.args.nodes.now c.args.number c.in-Some.node.now found.3.0 ∙ ap Some (sym found.1))).rows

pub returns-in-None-clause-rows : goal.returns-in-None-clause-rows
returns-in-None-clause-rows c =
    ap (λ found. option_map_or (λ node. node.rows) found 0) (sym (none_beyond c.args.nodes.now c.args.number c.in-None.ensures.lookup.3))
