use Rattle.tapes.proofs.OrderedRows.{columns_of_orders, rows_of_orders}
use Rattle.tapes.proofs.laws.row_laws.Goals as goal

pub returns : goal.returns
returns c =
    record { orders = rows_of_orders c.words_of_same_members.ensures c.words_of_rows.ensures; columns = columns_of_orders c.words_of_same_members.ensures c.words_of_rows.ensures }
