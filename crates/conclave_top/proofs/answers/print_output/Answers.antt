use Rattle.std.proofs.Common.{◌<◌, length, subst, sym}
use Rattle.conclave_top.proofs.PrintedNodes.{as_many, columns_at, output_at}
use Rattle.conclave_top.proofs.answers.print_output.Goals as goal

pub print_table-requires : goal.print_table-requires
print_table-requires c =
    let inside : c.args.output.now.node < length c.args.tables.now = subst (λ n. c.args.output.now.node < n) (sym (as_many c.args.nodes.now c.args.tables.now c.requires.tables)) c.requires.within in
    columns_at c.args.nodes.now c.args.tables.now c.args.output.now.node c.index-nodes-number.result c.index-tables-number.result c.requires.tables c.requires.within inside
    c.index-nodes-number.is c.index-tables-number.is

pub returns : goal.returns
returns c =
    let inside : c.args.output.now.node < length c.args.tables.now = subst (λ n. c.args.output.now.node < n) (sym (as_many c.args.nodes.now c.args.tables.now c.requires.tables)) c.requires.within in
    rw (output_at c.args.nodes.now c.args.tables.now c.args.output.now c.index-nodes-number.result c.index-tables-number.result c.requires.within inside c.index-nodes-number.is c.index-tables-number.is)
    c.print_table.ensures
