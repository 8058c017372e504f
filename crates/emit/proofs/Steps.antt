-- One step more that makes a register: what its wire carries.
use Rattle.std.proofs.Common.{◌≡◌, ℕ, ◌+◌, ◌<◌, Bool, true, false, cond, List, [], ◌∷◌, ◌++◌, length, length-append, get_or, refl, sym, ap, ◌∙◌, arith, true≢false}
use Rattle.std.proofs.Math.Seq.{get_or-append_seam}
use Rattle.wires.specs.declared.wire.Wire.{Wire}
use Rattle.wires.specs.Environment.{Environment, words}
use Rattle.wires.specs.Growth.{Carries}
use Rattle.step_lists.specs.declared.step.Step.{Step}
use Rattle.step_lists.specs.Layout.{Steps, Layout, grown, starting, layout_of, with_lengths}
use Rattle.step_lists.specs.Draws.{ThreeTapes, needs_of, taken}
use Rattle.step_lists.specs.Run.{tape_cut, rest_after}
use Rattle.step_lists.specs.RunLaws.{grown_by-append}
use Rattle.step_lists.specs.Open.{SlotWords, Open, register, with_registers, open_of, open_step}
use Rattle.step_lists.specs.Possible.{Possible, StandsIn, behind}
use Rattle.step_lists.specs.Prefixes.{possible_prefix, register_prefix, open-behind, count_open}
use Rattle.emit.specs.Emit.{AreOpenValues, IsAdded}

-- a step that makes one register of n words, whose value reads registers that are there
pub record Makes {T : Type 0} (answer : T → List (List ℕ) → List (List ℕ)) (a : Steps T) (s : Step T) (n : ℕ) (value : Environment → List ℕ) : Type 0 where
  pub grows : grown (layout_of a) s ≡ with_lengths (layout_of a) (n ∷ [])
  pub opens : (o : Open) (ds : ThreeTapes) → open_step answer o s ds ≡ with_registers o (value (register o) ∷ [])
  pub reads : (v w : Environment) → ((r : ℕ) → r < length (layout_of a).registers → v r ≡ w r) → value v ≡ value w

going_is : {A : Type 0} (b : Bool) (x y : A) → b ≡ false → cond b x y ≡ y
going_is true x y e = absurd (true≢false e)
going_is false x y e = refl

pub added_registers : {T : Type 0} (a b : Steps T) (s : Step T) (wire : Wire) (n : ℕ) → grown (layout_of a) s ≡ with_lengths (layout_of a) (n ∷ []) → IsAdded a b s wire
    → (layout_of b).registers ≡ (layout_of a).registers ++ n ∷ []
added_registers {T} a b s wire n grows h =
    ap (λ (x : Steps T). (layout_of x).registers) h.is ∙ ap (λ (l : Layout). l.registers) (grown_by-append (starting a.first) a.steps (s ∷ []) ∙ grows)

pub added_count : {T : Type 0} (a b : Steps T) (s : Step T) (wire : Wire) (n : ℕ) → grown (layout_of a) s ≡ with_lengths (layout_of a) (n ∷ []) → IsAdded a b s wire
    → length (layout_of b).registers ≡ length (layout_of a).registers + 1
added_count a b s wire n grows h = ap length (added_registers a b s wire n grows h) ∙ length-append (layout_of a).registers (n ∷ [])

module _ {T : Type 0} (answer : T → List (List ℕ) → List (List ℕ)) where
  -- the open values behind the step
  opened_behind : (a : Steps T) (s : Step T) (n : ℕ) (value : Environment → List ℕ) (slots : SlotWords) (ds : ThreeTapes) → Makes answer a s n value
      → (open_of answer a slots ds).stop ≡ false
      → open_of answer (behind a (s ∷ [])) slots ds ≡ with_registers (open_of answer a slots ds) (value (register (open_of answer a slots ds)) ∷ [])
  opened_behind a s n value slots ds m going =
      let o = open_of answer a slots ds in
      let drawn = taken (needs_of (layout_of a) s) (rest_after tape_cut (starting a.first) a.steps ds) in
      open-behind answer a (s ∷ []) slots ds ∙ going_is o.stop o (open_step answer o s drawn) going ∙ m.opens o drawn

  new_register : (a b : Steps T) (s : Step T) (wire : Wire) (n : ℕ) (value : Environment → List ℕ) (slots : SlotWords) (ds : ThreeTapes) → Makes answer a s n value
      → IsAdded a b s wire → Possible answer a slots ds
      → register (open_of answer b slots ds) wire.0 ≡ value (register (open_of answer a slots ds))
  new_register a b s wire n value slots ds m h p =
      let o = open_of answer a slots ds in
      let new = value (register o) in
      ap (λ (x : Steps T). register (open_of answer x slots ds) wire.0) h.is
      ∙ ap (λ (x : Open). register x wire.0) (opened_behind a s n value slots ds m p.going)
      ∙ ap (λ k. get_or (o.registers ++ new ∷ []) k []) (h.number ∙ sym (count_open answer a slots ds p))
      ∙ get_or-append_seam o.registers new [] []

  pub step_carries : (a b : Steps T) (s : Step T) (wire : Wire) (n : ℕ) (value : Environment → List ℕ) → Makes answer a s n value → IsAdded a b s wire
      → Carries (AreOpenValues answer b) (layout_of b).registers wire n value
  step_carries a b s wire n value m h = record {
    made = made;
    lanes = ap (λ ns. get_or ns wire.0 0) pushed ∙ ap (λ k. get_or ((layout_of a).registers ++ n ∷ []) k 0) h.number ∙ get_or-append_seam (layout_of a).registers n [] 0;
    value = carried;
  }
    where
      pushed : (layout_of b).registers ≡ (layout_of a).registers ++ n ∷ []
      pushed = added_registers a b s wire n m.grows h

      count : length (layout_of b).registers ≡ length (layout_of a).registers + 1
      count = added_count a b s wire n m.grows h

      made : wire.0 < length (layout_of b).registers
      made = omega (arith, count, h.number)

      front : StandsIn a b
      front = record { more = s ∷ []; is = h.is }

      carried : (v : Environment) → AreOpenValues answer b v → words v wire ≡ value v
      carried v o =
          o.same wire.0 made
          ∙ new_register a b s wire n value o.slots o.tapes m h (possible_prefix answer a b o.slots o.tapes front o.possible)
          ∙ m.reads (register (open_of answer a o.slots o.tapes)) v
          (λ r i. sym (o.same r (omega (arith, count, i)) ∙ register_prefix answer a b o.slots o.tapes front o.possible r i))

-- another name for the value
pub carries_as : (possible : Environment → Type 0) (shape : List ℕ) (wire : Wire) (n : ℕ) (value other : Environment → List ℕ) → Carries possible shape wire n value
    → ((v : Environment) → possible v → value v ≡ other v) → Carries possible shape wire n other
carries_as possible shape wire n value other h same = record { made = h.made; lanes = h.lanes; value = λ v p. h.value v p ∙ same v p }
