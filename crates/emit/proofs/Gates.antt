-- The steps of each gate: the register that it makes, and the registers that it reads.
use Rattle.std.proofs.Common.{◌≡◌, ℕ, ◌<◌, List, [], ◌∷◌, ◌++◌, length, map, refl, sym, ap, ◌∙◌, subst}
use Rattle.std.specs.Prelude.{bit_and, bit_xor}
use Rattle.std.specs.List.{flat_map}
use Rattle.std.proofs.lemmas.List.Concat.{flat_map-cons}
use Rattle.std.proofs.lemmas.List.Elements.{All-head, All-tail}
use Rattle.lanes.specs.Lanes.{ands, lanewise, lanewise1, picked, xors}
use Rattle.lanes.specs.Shifts.{shifted_left, shifted_right, spread_word}
use Rattle.lanes.specs.Word.{word_not}
use Rattle.lanes.specs.XorLaws.{XorIsLanewise}
use Rattle.wires.specs.declared.wire.Wire.{Wire}
use Rattle.wires.specs.Environment.{Environment, words, all_words}
use Rattle.wires.specs.Growth.{AreMade, Carries, IsMade, lanes_of}
use Rattle.step_lists.specs.declared.step.Step.TheVariants.{Const, Lin, And}
use Rattle.step_lists.specs.declared.step.LinOp.{LinOp}
use Rattle.step_lists.specs.declared.step.LinOp.TheVariants.{Xor, Not, Left, Right, Mask, Spread, Gather}
use Rattle.step_lists.specs.Layout.{Steps, layout_of, lin_length, with_lengths}
use Rattle.step_lists.specs.Lin.{lin}
use Rattle.step_lists.specs.Open.{register, with_registers}
use Rattle.emit.specs.Emit.{AreOpenValues, IsAdded}
use Rattle.emit.specs.EmitLaws.{circuit_possible}
use Rattle.emit.proofs.Growing.{added_grows}
use Rattle.emit.proofs.Steps.{step_carries, carries_as}

-- ---- the words of several wires

flat_names : (v : Environment) (wires : List Wire) → flat_map v (map (λ (wire : Wire). wire.0) wires) ≡ all_words v wires
flat_names v [] = refl
flat_names v (wire ∷ wires) =
    flat_map-cons v wire.0 (map (λ (wire : Wire). wire.0) wires)
    ∙ ap (λ xs. v wire.0 ++ xs) (flat_names v wires)
    ∙ sym (flat_map-cons (words v) wire wires)

read_names : (shape : List ℕ) (v w : Environment) (wires : List Wire) → AreMade shape wires → ((r : ℕ) → r < length shape → v r ≡ w r) → all_words v wires ≡ all_words w wires
read_names shape v w [] made h = refl
read_names shape v w (wire ∷ wires) made h =
    flat_map-cons (words v) wire wires
    ∙ ap (λ xs. xs ++ all_words v wires) (h wire.0 (All-head (λ x. IsMade shape x) wire wires made))
    ∙ ap (λ xs. w wire.0 ++ xs) (read_names shape v w wires (All-tail (λ x. IsMade shape x) wire wires made) h)
    ∙ sym (flat_map-cons (words w) wire wires)

-- ---- what a gate's wire carries

module _ {T : Type 0} (answer : T → List (List ℕ) → List (List ℕ)) (a b : Steps T) (new : Wire) where
  pub constant_carries : (ws us : List ℕ) → us ≡ ws → IsAdded a b (Const us) new → Carries (AreOpenValues answer b) (layout_of b).registers new (length ws) (λ v. ws)
  constant_carries ws us is h =
      step_carries answer a b (Const ws) new (length ws) (λ v. ws) (record { grows = refl; opens = λ o ds. refl; reads = λ v w same. refl })
      (subst (λ xs. IsAdded a b (Const xs) new) is h)

  pub and_carries : (x y : Wire) → IsMade (layout_of a).registers x → IsMade (layout_of a).registers y → IsAdded a b (And x.0 y.0) new
      → Carries (AreOpenValues answer b) (layout_of b).registers new (lanes_of (layout_of a).registers x) (λ v. lanewise bit_and (words v x) (words v y))
  and_carries x y i j h =
      step_carries answer a b (And x.0 y.0) new (lanes_of (layout_of a).registers x) (λ v. lanewise bit_and (words v x) (words v y)) (record {
        grows = refl;
        opens = λ o ds. refl;
        reads = λ v w same. ap (λ xs. ands xs (v y.0)) (same x.0 i) ∙ ap (ands (w x.0)) (same y.0 j);
      }) h

  xors_carry : (x y : Wire) → IsMade (layout_of a).registers x → IsMade (layout_of a).registers y → IsAdded a b (Lin (Xor x.0 y.0)) new
      → Carries (AreOpenValues answer b) (layout_of b).registers new (lanes_of (layout_of a).registers x) (λ v. xors (words v x) (words v y))
  xors_carry x y i j h =
      step_carries answer a b (Lin (Xor x.0 y.0)) new (lanes_of (layout_of a).registers x) (λ v. xors (words v x) (words v y)) (record {
        grows = refl;
        opens = λ o ds. refl;
        reads = λ v w same. ap (λ xs. xors xs (v y.0)) (same x.0 i) ∙ ap (xors (w x.0)) (same y.0 j);
      }) h

  pub xor_carries : XorIsLanewise → (x y : Wire) → IsMade (layout_of a).registers x → IsMade (layout_of a).registers y
      → lanes_of (layout_of a).registers x ≡ lanes_of (layout_of a).registers y → IsAdded a b (Lin (Xor x.0 y.0)) new
      → Carries (AreOpenValues answer b) (layout_of b).registers new (lanes_of (layout_of a).registers x) (λ v. lanewise bit_xor (words v x) (words v y))
  xor_carries lanewise_is x y i j lanes h =
      carries_as (AreOpenValues answer b) (layout_of b).registers new (lanes_of (layout_of a).registers x) (λ v. xors (words v x) (words v y))
      (λ v. lanewise bit_xor (words v x) (words v y)) (xors_carry x y i j h)
      (λ v p. let before = circuit_possible answer a b (added_grows a b (Lin (Xor x.0 y.0)) new refl h) v p in
      sym (lanewise_is (words v x) (words v y) ((before.fits x.0 i).long ∙ lanes ∙ sym (before.fits y.0 j).long)))

  -- an operation on the words of one wire
  each_carries : (op : LinOp) (f : ℕ → ℕ) (x : Wire) → lin_length (layout_of a) op ≡ lanes_of (layout_of a).registers x
      → ((r : ℕ → List ℕ) → lin op r ≡ lanewise1 f (r x.0)) → IsMade (layout_of a).registers x → IsAdded a b (Lin op) new
      → Carries (AreOpenValues answer b) (layout_of b).registers new (lanes_of (layout_of a).registers x) (λ v. lanewise1 f (words v x))
  each_carries op f x long is i h =
      step_carries answer a b (Lin op) new (lanes_of (layout_of a).registers x) (λ v. lanewise1 f (words v x)) (record {
        grows = ap (λ n. with_lengths (layout_of a) (n ∷ [])) long;
        opens = λ o ds. ap (λ xs. with_registers o (xs ∷ [])) (is (register o));
        reads = λ v w same. ap (lanewise1 f) (same x.0 i);
      }) h

  pub not_carries : (x : Wire) → IsMade (layout_of a).registers x → IsAdded a b (Lin (Not x.0)) new
      → Carries (AreOpenValues answer b) (layout_of b).registers new (lanes_of (layout_of a).registers x) (λ v. lanewise1 word_not (words v x))
  not_carries x i h = each_carries (Not x.0) word_not x refl (λ r. refl) i h

  pub left_carries : (x : Wire) (by : ℕ) → IsMade (layout_of a).registers x → IsAdded a b (Lin (Left x.0 by)) new
      → Carries (AreOpenValues answer b) (layout_of b).registers new (lanes_of (layout_of a).registers x) (λ v. lanewise1 (shifted_left by) (words v x))
  left_carries x by i h = each_carries (Left x.0 by) (shifted_left by) x refl (λ r. refl) i h

  pub right_carries : (x : Wire) (by : ℕ) → IsMade (layout_of a).registers x → IsAdded a b (Lin (Right x.0 by)) new
      → Carries (AreOpenValues answer b) (layout_of b).registers new (lanes_of (layout_of a).registers x) (λ v. lanewise1 (shifted_right by) (words v x))
  right_carries x by i h = each_carries (Right x.0 by) (shifted_right by) x refl (λ r. refl) i h

  pub mask_carries : (x : Wire) (word : ℕ) → IsMade (layout_of a).registers x → IsAdded a b (Lin (Mask x.0 word)) new
      → Carries (AreOpenValues answer b) (layout_of b).registers new (lanes_of (layout_of a).registers x) (λ v. lanewise1 (λ z. bit_and z word) (words v x))
  mask_carries x word i h = each_carries (Mask x.0 word) (λ z. bit_and z word) x refl (λ r. refl) i h

  pub spread_carries : (x : Wire) → IsMade (layout_of a).registers x → IsAdded a b (Lin (Spread x.0)) new
      → Carries (AreOpenValues answer b) (layout_of b).registers new (lanes_of (layout_of a).registers x) (λ v. lanewise1 spread_word (words v x))
  spread_carries x i h = each_carries (Spread x.0) spread_word x refl (λ r. refl) i h

  named_carry : (sources : List Wire) (places : List ℕ) → AreMade (layout_of a).registers sources
      → IsAdded a b (Lin (Gather (map (λ (wire : Wire). wire.0) sources) places)) new
      → Carries (AreOpenValues answer b) (layout_of b).registers new (length places) (λ v. picked places (all_words v sources))
  named_carry sources places i h =
      step_carries answer a b (Lin (Gather (map (λ (wire : Wire). wire.0) sources) places)) new (length places) (λ v. picked places (all_words v sources)) (record {
        grows = refl;
        opens = λ o ds. ap (λ xs. with_registers o (picked places xs ∷ [])) (flat_names (register o) sources);
        reads = λ v w same. ap (picked places) (read_names (layout_of a).registers v w sources i same);
      }) h

  pub gather_carries : (sources : List Wire) (places names ps : List ℕ) → names ≡ map (λ (wire : Wire). wire.0) sources → ps ≡ places
      → AreMade (layout_of a).registers sources → IsAdded a b (Lin (Gather names ps)) new
      → Carries (AreOpenValues answer b) (layout_of b).registers new (length places) (λ v. picked places (all_words v sources))
  gather_carries sources places names ps named placed i h =
      named_carry sources places i
      (subst (λ qs. IsAdded a b (Lin (Gather (map (λ (wire : Wire). wire.0) sources) qs)) new) placed (subst (λ ns. IsAdded a b (Lin (Gather ns ps)) new) named h))
