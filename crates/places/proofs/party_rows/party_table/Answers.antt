use Rattle.std.proofs.Common.{◌+◌, ◌<◌, ◌++◌, [], refl, true, false, length, get_or, drop, sym, ap, ◌∙◌, arith, append_assoc}
use Rattle.std.proofs.lemmas.Option.{slice_get_read}
use Rattle.tables.specs.Content.{Content}
use Rattle.plain_meaning.specs.Meaning.{meanings}
use Rattle.rewrites.specs.Parts.{parts_at, parts_of}
use Rattle.rewrites.specs.PartRows.{pieces_at, pieces_of}
use Rattle.rewrites.specs.Rewritten.{Rewritten}
use Rattle.places.specs.Excess.{rows_at_party}
use Rattle.places.proofs.PartyRows.{party_more, tables_few}
use Rattle.places.proofs.party_rows.party_table.Goals as goal
use Rattle.places.proofs.party_rows.party_table.Goals.{then-is_clear_at+in-Ok+in_ok-table+in_ok-add_rows, else-is_clear_at}

pub loop-number-preserved : goal.loop-number-preserved
loop-number-preserved c = record {
  columns = elim c.if-is_clear_at.branch [
    | then-is_clear_at+in-Ok+in_ok-table+in_ok-add_rows w ↦ ap (λ (t : Content). t.columns) w.pooled-is ∙ w.in_ok-add_rows.ensures.columns ∙ c.loop-number.invariant.columns
    | else-is_clear_at w ↦ ap (λ (t : Content). t.columns) w.pooled-is ∙ c.loop-number.invariant.columns
  ];
  rows = λ world plain.
      let graph = c.args.graph.now in
      let node = c.args.node in
      let party = c.args.party in
      let number = c.loop-number.number in
      let parts = parts_at (parts_of graph.nodes) node in
      let rows = meanings graph.nodes world in
      let pieces = pieces_at (pieces_of graph.nodes rows) node in
      let n = c.index.result.now in
      let pooled = c.loop-number.pooled.rows in
      let rest = rows_at_party party (drop (number + 1) parts) (drop (number + 1) pieces) in
      let few = tables_few graph.nodes c.args.rows.now.tables plain.columns in
      let inside : node < length graph.nodes = omega (arith, few, c.requires.node) in
      let at = slice_get_read graph.nodes (length graph.nodes) node n refl inside (c.index.ensures ∙ ap (λ l. get_or l node n) c.nodes.ensures.nodes) in
      let long = c.parts_are_rows.ensures.each graph rows node n (record { is_graph = c.nodes.ensures.graph; is_node = at }) in
      let same = c.as_slice-part-items.ensures.value ∙ c.parts.ensures ∙ ap (λ (r : Rewritten). parts_at r.parts node) c.requires.made in
      let so_far = c.loop-number.invariant.rows world plain in
      elim c.if-is_clear_at.branch [
        | then-is_clear_at+in-Ok+in_ok-table+in_ok-add_rows w ↦
            let step = party_more party c.as_slice-part-items.result.now parts pieces number _ c.is_clear_at.result true same c.loop-number-test.true long c.is_clear_at.ensures w.if-is_clear_at.true in
            let piece = ap (λ (t : Content). t.rows) (w.in_ok-table.ensures world plain) ∙ ap (λ k. get_or pieces k []) w.in-Ok.ensures.1 in
            let made = ap (λ (t : Content). t.rows) w.pooled-is ∙ w.in_ok-add_rows.ensures.rows ∙ ap (λ l. pooled ++ l) piece in
            so_far ∙ ap (λ l. pooled ++ l) step ∙ sym (append_assoc pooled (get_or pieces number []) rest) ∙ ap (λ l. l ++ rest) (sym made)
        | else-is_clear_at w ↦
            let step = party_more party c.as_slice-part-items.result.now parts pieces number _ c.is_clear_at.result false same c.loop-number-test.true long c.is_clear_at.ensures w.if-is_clear_at.false in
            so_far ∙ ap (λ l. pooled ++ l) step ∙ ap (λ (t : Content). t.rows ++ rest) (sym w.pooled-is)
      ];
}
