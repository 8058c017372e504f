-- The words of sources that lie one after the other, behind the first of them.
use Rattle.std.proofs.Common.{◌≡◌, ℕ, ◌+◌, ◌-◌, ◌<◌, ◌≤◌, List, ◌∷◌, length, drop, get_or, sym, ap, ◌∙◌, add-one, arith}
use Rattle.std.proofs.Math.Seq.{drop-cons}
use Rattle.std.proofs.lemmas.List.{get_or-append_right}
use Rattle.std.proofs.lemmas.List.Sums.{sum_by-cons}
use Rattle.wires.specs.Growth.{lanes_of, total_lanes}
use Rattle.wires.specs.Held.{Held, held_shape, value_of, values_of}
use Rattle.wires.specs.HeldLaws.{value_lanes}
use Rattle.wires.specs.declared.wire.Wire.{Wire}

-- the sources from a place on begin with the one at that place
sources_rest : (sources : List Wire) (i : ℕ) (d : Wire) → i < length sources → drop i sources ≡ get_or sources i d ∷ drop (i + 1) sources
sources_rest sources i d inside = drop-cons sources i d inside ∙ ap (λ n. get_or sources i d ∷ drop n sources) (sym (add-one i))

-- a place past the first source lies in the rest
past_source : (held : Held) (source : Wire) (rest : List Wire) (place n : ℕ) → length (value_of held source) ≡ n → n ≤ place
    → (get_or (values_of held (source ∷ rest)) place 0 ≡ get_or (values_of held rest) (place - n) 0)
past_source held source rest place n wide past = get_or-append_right (value_of held source) (values_of held rest) n place 0 wide past

past_lanes : (held : Held) (source : Wire) (rest : List Wire) (place n : ℕ) → length (value_of held source) ≡ n → n ≤ place
    → place < total_lanes (held_shape held) (source ∷ rest) → place - n < total_lanes (held_shape held) rest
past_lanes held source rest place n wide past within = omega (arith, value_lanes held source, sum_by-cons (λ wire. lanes_of (held_shape held) wire) source rest)

-- the same at any of the sources
pub place_moved : (held : Held) (sources : List Wire) (i place rest : ℕ) (source : Wire) (n : ℕ) (d : Wire) → i < length sources → source ≡ get_or sources i d
    → length (value_of held source) ≡ n → n ≤ rest
    → (get_or (values_of held sources) place 0 ≡ get_or (values_of held (drop i sources)) rest 0) × (rest < total_lanes (held_shape held) (drop i sources))
    → (get_or (values_of held sources) place 0 ≡ get_or (values_of held (drop (i + 1) sources)) (rest - n) 0)
    × (rest - n < total_lanes (held_shape held) (drop (i + 1) sources))
place_moved held sources i place rest source n d inside is wide past before =
    let same : drop i sources ≡ source ∷ drop (i + 1) sources = sources_rest sources i d inside ∙ ap (λ s. s ∷ drop (i + 1) sources) (sym is) in (
      before.0 ∙ ap (λ s. get_or (values_of held s) rest 0) same ∙ past_source held source (drop (i + 1) sources) rest n wide past,
      past_lanes held source (drop (i + 1) sources) rest n wide past (rw same at before.1),
    )
