use Rattle.std.proofs.Common.{◌≡◌, ℕ, List, map, length, refl, sym, ap, ◌∙◌, subst, arith}
use Rattle.std.specs.Prelude.{All}
use Rattle.std.proofs.lemmas.List.{length-map}
use Rattle.bags.specs.Bag.{SameBag}
use Rattle.lanes.specs.Lanes.{lanewise}
use Rattle.wires.specs.Environment.{Environment, words}
use Rattle.wires.specs.Growth.{lanes_of}
use Rattle.wires.specs.declared.wire.Wire.{Wire}
use Rattle.circuits.specs.Folds.{masked_word}
use Rattle.circuits.specs.declared.folds.Fold.TheVariants.{Sum}
use Rattle.padded.specs.Table.{AreBits, column_at, rows_in, zeroed_columns}
use Rattle.shared_ops.specs.Joint.{IsWide, column_words}
use Rattle.shared_ops.specs.Wired.{AreWired}
use Rattle.shared_ops.proofs.Growing.{wide_on, wired_wide, wired_words}
use Rattle.shared_ops.proofs.Zeroing.{as_long, masked_is_zeroed, zeroed_cost}
use Rattle.shared_ops.proofs.zeros.zeroed.Goals as goal

pub returns-in_err-columns-clause-cost : goal.returns-in_err-columns-clause-cost
returns-in_err-columns-clause-cost g c =
    let w = g.W.Wires in
    zeroed_cost (w.ands c.args.wires.now) (w.ands c.masked_columns.new.wires) (length c.as_slice.result.now) (lanes_of (w.shape c.args.wires.now) c.args.table.now.valid) c.args.table.now.rows
    (length c.args.table.now.columns.items) c.in_err-columns.ensures.cost (ap length c.as_slice.ensures.value) c.requires.valid.wide

pub returns-clause-cost : goal.returns-clause-cost
returns-clause-cost g c =
    let w = g.W.Wires in
    zeroed_cost (w.ands c.args.wires.now) (w.ands c.masked_columns.new.wires) (length c.as_slice.result.now) (lanes_of (w.shape c.args.wires.now) c.args.table.now.valid) c.args.table.now.rows
    (length c.args.table.now.columns.items) c.in_ok-columns.ensures.cost (ap length c.as_slice.ensures.value) c.requires.valid.wide

-- the columns made have the words of zeroed ones
columns_are : (possible : Environment → Type 0) (shape : List ℕ) (made columns slice : List Wire) (valid : Wire) (lanes : ℕ) (v : Environment) → slice ≡ columns → length made ≡ length slice
    → AreWired possible shape made lanes (λ k w. lanewise (masked_word Sum) (words w valid) (column_at (map (words w) slice) k)) → possible v → AreBits (words v valid)
    → map (words v) made ≡ zeroed_columns (words v valid) (map (words v) columns)
columns_are possible shape made columns slice valid lanes v same count wired now bits =
    wired_words possible shape made lanes _ v wired now
    ∙ masked_is_zeroed (words v valid) (map (words v) slice) (length made) bits (count ∙ sym (length-map slice (words v)))
    ∙ ap (λ ws. zeroed_columns (words v valid) (map (words v) ws)) same

pub returns-clause-zeros : goal.returns-clause-zeros
returns-clause-zeros g c =
    let w = g.W.Wires in
    let ok = c.in_ok-columns.ensures in
    record {
      valid = refl;
      columns = λ v now bits. columns_are (w.possible c.masked_columns.new.wires) (w.shape c.masked_columns.new.wires) c.in_ok-columns.columns.items c.args.table.now.columns.items c.as_slice.result.now
          c.args.table.now.valid _ v c.as_slice.ensures.value ok.count ok.ok now bits;
    }

pub returns-clause-makes : goal.returns-clause-makes
returns-clause-makes g c =
    let w = g.W.Wires in
    let old = c.args.wires.now in
    let new = c.masked_columns.new.wires in
    let t = c.args.table.now in
    let ok = c.in_ok-columns.ensures in
    let made = c.in_ok-columns.columns.items in
    let grows = ok.grows in
    let n = lanes_of (w.shape old) t.valid in
    record {
      joint = record {
        valid = wide_on w.grown w.possible w.shape old new t.valid t.rows grows c.requires.valid;
        columns = subst (λ (lanes : ℕ). All (IsWide (w.shape new) lanes) made) c.requires.valid.wide (wired_wide (w.possible new) (w.shape new) made n _ ok.ok);
      };
      rows = refl;
      wide = ok.count ∙ ap length c.as_slice.ensures.value;
      bits = λ v now bits. bits;
      bag = λ v now bits.
          let before = grows.within v now in
          let columns = columns_are (w.possible new) (w.shape new) made t.columns.items c.as_slice.result.now t.valid n v c.as_slice.ensures.value ok.count ok.ok now bits in
          let long = as_long (w.shape old) t.columns.items t.valid t.rows v (λ wire is. g.met.W.Wires.fits old v wire before is) c.requires.valid c.requires.columns in
          let same : rows_in (map (words v) made) (words v t.valid) ≡ rows_in (column_words v t) (words v t.valid) =
          ap (λ cs. rows_in cs (words v t.valid)) columns ∙ c.rows_of_zeroed.ensures.same (column_words v t) (words v t.valid) long in
          subst (λ (rows : List (List ℕ)). SameBag (rows_in (map (words v) made) (words v t.valid)) rows) same (c.bags_are_equivalence.ensures.itself (rows_in (map (words v) made) (words v t.valid)));
    }

pub returns-in_err-columns-clause-calls : goal.returns-in_err-columns-clause-calls
returns-in_err-columns-clause-calls g c =
    let count : length c.as_slice.result.now ≡ length c.args.table.now.columns.items = ap length c.as_slice.ensures.value in
    omega (arith, c.in_err-columns.ensures.calls, count)

pub returns-clause-calls : goal.returns-clause-calls
returns-clause-calls g c =
    let count : length c.as_slice.result.now ≡ length c.args.table.now.columns.items = ap length c.as_slice.ensures.value in
    omega (arith, c.in_ok-columns.ensures.calls, count)
