use Rattle.places.proofs.Pieces.{distinct_pieces, group_pieces, hybrid_group_pieces, hybrid_join_pieces, join_pieces, whole_pieces}
use Rattle.places.proofs.laws.pieces_fit.Goals as goal

pub returns : goal.returns
returns c = record {
  join = join_pieces;
  group = group_pieces;
  whole_table = whole_pieces;
  distinct = distinct_pieces;
  helped_join = hybrid_join_pieces;
  helped_group = hybrid_group_pieces;
}
