-- Masked columns are zeroed ones, where the valid words are 0 and 1.
use Rattle.std.proofs.Common.{◌≡◌, ℕ, zero, suc, ◌+◌, ◌*◌, ◌≤◌, List, [], ◌∷◌, map, length, get_or, refl, sym, ap, ◌∙◌, arith}
use Rattle.std.specs.Prelude.{All}
use Rattle.std.specs.List.{range_with_len}
use Rattle.std.proofs.Math.Nat.{mul_comm}
use Rattle.std.proofs.lemmas.List.Elements.{All-map}
use Rattle.std.proofs.lemmas.List.FromFn.{fill_by_all}
use Rattle.lanes.specs.Lanes.{lanewise}
use Rattle.wires.specs.Environment.{Environment, words}
use Rattle.wires.specs.Growth.{HasLanes, IsMade, lanes_of}
use Rattle.wires.specs.declared.wire.Wire.{Wire}
use Rattle.circuits.specs.Folds.{masked_word}
use Rattle.circuits.specs.declared.folds.Fold.TheVariants.{Sum}
use Rattle.padded.specs.Table.{AreBits, column_at, word_if_valid, zeroed_columns}
use Rattle.shared_ops.specs.Joint.{IsWide}
use Rattle.shared_ops.proofs.Elements.{map_agree, map_map}

later_bits : (flag : ℕ) (flags : List ℕ) → AreBits (flag ∷ flags) → AreBits flags
later_bits flag flags bits = record { each = λ k. bits.each (suc k) }

one_masked : (flag word : ℕ) → flag ≤ 1 → masked_word Sum flag word ≡ word_if_valid flag word
one_masked zero word small = refl
one_masked (suc zero) word small = refl
one_masked (suc (suc flag)) word small = absurd (omega arith)

column_masked : (flags column : List ℕ) → AreBits flags → lanewise (masked_word Sum) flags column ≡ lanewise word_if_valid flags column
column_masked [] column bits = refl
column_masked (flag ∷ flags) [] bits = refl
column_masked (flag ∷ flags) (word ∷ column) bits = λ i. one_masked flag word (bits.each 0) i ∷ column_masked flags column (later_bits flag flags bits) i

pub masked_is_zeroed : (flags : List ℕ) (columns : List (List ℕ)) (count : ℕ) → AreBits flags → count ≡ length columns
    → map (λ k. lanewise (masked_word Sum) flags (column_at columns k)) (range_with_len 0 count) ≡ zeroed_columns flags columns
masked_is_zeroed flags columns count bits same =
    let zeros = λ (column : List ℕ). lanewise word_if_valid flags column in
    let at = column_at columns in
    map_agree (λ k. lanewise (masked_word Sum) flags (at k)) (λ k. zeros (at k)) (range_with_len 0 count) (λ j d h. column_masked flags (at (get_or (range_with_len 0 count) j d)) bits)
    ∙ sym (map_map zeros at (range_with_len 0 count))
    ∙ ap (map zeros) (ap (λ n. map at (range_with_len 0 n)) same ∙ sym (fill_by_all at columns (length columns) [] refl (λ k h. refl)))

-- the words of wide wires are as many as those of another one
pub as_long : (shape : List ℕ) (wires : List Wire) (valid : Wire) (lanes : ℕ) (v : Environment)
    → ((wire : Wire) → IsMade shape wire → HasLanes v wire (lanes_of shape wire)) → IsWide shape lanes valid → All (IsWide shape lanes) wires
    → All (λ column. length column ≡ length (words v valid)) (map (words v) wires)
as_long shape wires valid lanes v fits valid_wide wide =
    All-map (λ column. length column ≡ length (words v valid)) (words v) wires
    (λ k d h.
    let is = wide k d h in
    (fits (get_or wires k d) is.made).count ∙ is.wide ∙ sym valid_wide.wide ∙ sym ((fits valid valid_wide.made).count))

pub zeroed_cost : (before after count lanes rows width : ℕ) → after ≤ before + count * lanes → count ≡ width → lanes ≡ rows → after ≤ before + rows * width
zeroed_cost before after count lanes rows width paid same wide =
    let told : count * lanes ≡ rows * width = ap (λ n. n * lanes) same ∙ ap (λ n. width * n) wide ∙ mul_comm width rows in
    omega (arith, paid, told)
