use Rattle.std.proofs.Common.{drop, subst}
use Rattle.std.specs.Prelude.{◌↔◌}
use Rattle.std.proofs.lemmas.List.{drop_all}
use Rattle.plain_meaning.specs.Fits.{AreFiles}
use Rattle.plain_meaning.proofs.Files.{files_end}
use Rattle.plain_meaning.proofs.world.are_files.Goals as goal

pub returns : goal.returns
returns c =
    let nodes = c.args.nodes.now in
    let tables = c.args.tables.now in
    let number = c.loop-node.number in
    let none = drop_all c.loop-node.node-index nodes c.loop-node-test.false in
    files_end nodes tables number c.loop-node.invariant.within (subst (λ left. AreFiles left (drop number tables) ↔ AreFiles nodes tables) none c.loop-node.invariant.same)
