use Rattle.std.proofs.Common.{rules, ◌<◌, length, subst, sym}
use Rattle.conclave_top.specs.Relations.{IsStored}
use Rattle.conclave_top.proofs.relations.names_of.Goals as goal

pub file_name-requires : goal.file_name-requires
file_name-requires c =
    let within : c.loop-node.node-index < length c.args.relations.now = search rules in
    (subst (λ node. IsStored node.now) (sym c.node-item.is) (c.requires c.loop-node.node-index c.node-item.result within)).name
