-- Flags in blocks, and the wires of aggregates over them, said of the table that they are made from.
use Rattle.std.proofs.Common.{◌≡◌, ℕ, ◌*◌, ◌^◌, ◌<◌, List, sym, ◌∙◌, subst, arith}
use Rattle.wires.specs.Environment.{Environment, words}
use Rattle.wires.specs.declared.wire.Wire.{Wire}
use Rattle.plain_operators.specs.declared.aggregate.Aggregate.{Aggregate}
use Rattle.shared_ops.specs.declared.aggregate.Blocks.{Blocks}
use Rattle.shared_ops.specs.declared.joint.Joint.{Joint}
use Rattle.shared_ops.specs.Groups.{AreBlocks, numbered_lanes}
use Rattle.shared_ops.specs.Joint.{IsWide, column_words}
use Rattle.shared_ops.specs.Pairs.{left_places}
use Rattle.shared_ops.specs.Wired.{AreWired}

pub blocks_are : (shape : List ℕ) (blocks : Blocks) (flags : Wire) (n m : ℕ) → blocks.flags ≡ flags → blocks.places.items ≡ left_places n m → blocks.rows ≡ n → blocks.width ≡ m
    → IsWide shape (n * m) flags → 0 < n → n * m < 2 ^ 32 → AreBlocks shape blocks
blocks_are shape blocks flags n m flags_are places rows width wide some few =
    let size : n * m ≡ blocks.rows * blocks.width = λ i. sym rows i * sym width i in
    record {
      wide = subst (λ (lanes : ℕ). IsWide shape lanes blocks.flags) size (subst (λ (wire : Wire). IsWide shape (n * m) wire) (sym flags_are) wide);
      places = places ∙ (λ i. left_places (sym rows i) (sym width i));
      some = omega (arith, rows, some);
      few = omega (arith, size, few);
    }

pub wired_as : (possible : Environment → Type 0) (shape : List ℕ) (wires : List Wire) (aggregates : List Aggregate) (t : Joint) (blocks : Blocks) (flags : Wire) (n m : ℕ)
    → blocks.flags ≡ flags → blocks.rows ≡ n → blocks.width ≡ m
    → AreWired possible shape wires blocks.width (λ k v. numbered_lanes k aggregates blocks.rows blocks.width (words v blocks.flags) (column_words v t))
    → AreWired possible shape wires m (λ k v. numbered_lanes k aggregates n m (words v flags) (column_words v t))
wired_as possible shape wires aggregates t blocks flags n m flags_are rows width wired =
    subst (λ (wire : Wire). AreWired possible shape wires m (λ k v. numbered_lanes k aggregates n m (words v wire) (column_words v t))) flags_are
    (subst (λ (count : ℕ). AreWired possible shape wires m (λ k v. numbered_lanes k aggregates count m (words v blocks.flags) (column_words v t))) rows
    (subst (λ (lanes : ℕ). AreWired possible shape wires lanes (λ k v. numbered_lanes k aggregates blocks.rows lanes (words v blocks.flags) (column_words v t))) width wired))
