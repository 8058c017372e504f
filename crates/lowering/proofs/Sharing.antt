-- Slots that are shared, one after the other.
use Rattle.std.proofs.Common.{◌≡◌, ℕ, zero, suc, ◌+◌, ◌<◌, ◌≤◌, false, cond, List, [], ◌∷◌, ◌++◌, length, map, replicate, get_or, refl, sym, ap, ◌∙◌, subst, arith, append_assoc, append-nil, length-append}
use Rattle.std.specs.List.{All, range_with_len}
use Rattle.std.proofs.lemmas.List.{get_or-append-add, get_or-replicate, length-replicate}
use Rattle.std.proofs.lemmas.List.FromFn.{get_or-map-range_with_len, length-map-range_with_len, map-range_with_len_more}
use Rattle.clear_tasks.specs.ClearTask.{answer}
use Rattle.clear_tasks.specs.declared.task.ClearTask.{ClearTask}
use Rattle.emit.specs.Adds.{AllMay, opens_nothing}
use Rattle.emit.specs.Laws.{QuietStepsAdd}
use Rattle.shared_ops.specs.Joint.{IsWide}
use Rattle.shared_ops.specs.declared.joint.Joint.{Joint}
use Rattle.step_lists.specs.Draws.{ThreeTapes, dropped, needs_of}
use Rattle.step_lists.specs.Layout.{Layout, Steps, count_in, grown, grown_by, layout_of, party_of, shape_of, starting}
use Rattle.step_lists.specs.Open.{Open, SlotWords, open_of, register, slot, with_registers}
use Rattle.step_lists.specs.Possible.{Possible, ands_behind, ands_in, behind}
use Rattle.step_lists.specs.Prefixes.{ands-append, count_open, open-behind, open_run, possible_prefix}
use Rattle.step_lists.specs.Run.{rest_after, tape_cut}
use Rattle.step_lists.specs.RunLaws.{grown_by-append}
use Rattle.step_lists.specs.declared.step.Step.{Step}
use Rattle.step_lists.specs.declared.step.Step.TheVariants.{Share}
use Rattle.wires.specs.Environment.{words}
use Rattle.lowering.specs.Pieces.{AddsQuietly, IsJoined, IsShared, shares, wire}
use Rattle.lowering.specs.Segments.{is_on_shares}
use Rattle.lowering.specs.Stored.{AreRegisters, IsMade, IsSlotOf, table_in}
use Rattle.lowering.specs.declared.stored.Stored.TheVariants.{Clear, Shared}
use Rattle.lowering.proofs.Elements.{map_map, map_range_shift}
use Rattle.lowering.proofs.Holding.{tables}

-- one more behind several
pub behind_more : {T : Type 0} (a : Steps T) (xs ys : List (Step T)) → behind (behind a xs) ys ≡ behind a (xs ++ ys)
behind_more a xs ys = ap (λ ss. record { first = a.first; steps = ss }) (append_assoc a.steps xs ys)

pub shares_more : (party first k : ℕ) → shares party first (k + 1) ≡ shares party first k ++ Share party (first + k) ∷ []
shares_more party first k = map-range_with_len_more (λ slot. Share party slot) first k (first + k) refl

pub behind_shares : (a : Steps ClearTask) (party first k : ℕ) → behind (behind a (shares party first k)) (Share party (first + k) ∷ []) ≡ behind a (shares party first (k + 1))
behind_shares a party first k = behind_more a (shares party first k) (Share party (first + k) ∷ []) ∙ ap (behind a) (sym (shares_more party first k))

-- the layout behind one step more
pub layout_more : {T : Type 0} (a : Steps T) (s : Step T) → layout_of (behind a (s ∷ [])) ≡ grown (layout_of a) s
layout_more a s = grown_by-append (starting a.first) a.steps (s ∷ [])

-- each share makes a register
pub count_shares : (a : Steps ClearTask) (party first k : ℕ) → length (layout_of (behind a (shares party first k))).registers ≡ length (layout_of a).registers + k
count_shares a party first zero =
    let none : behind a [] ≡ a = ap (λ ss. record { first = a.first; steps = ss }) (append-nil a.steps) in
    let e = ap (λ l. length (layout_of l).registers) none in omega (arith, e)
count_shares a party first (suc k) =
    let n : suc k ≡ k + 1 = omega arith in
    let before = count_shares a party first k in
    let one = ap (λ l. length l.registers) (layout_more (behind a (shares party first k)) (Share party (first + k))) in
    let here = ap (λ l. length (layout_of l).registers) (ap (λ m. behind a (shares party first m)) n ∙ sym (behind_shares a party first k)) in
    omega (arith, here, one, before, length-append {A = ℕ})

-- ---- what shares add

pub shares_may : (party first k : ℕ) → AllMay is_on_shares (shares party first k)
shares_may party first zero = tt
shares_may party first (suc k) = (refl, shares_may party (first + 1) k)

pub shares_quiet : (party first k : ℕ) → AllMay opens_nothing (shares party first k)
shares_quiet party first zero = tt
shares_quiet party first (suc k) = (refl, shares_quiet party (first + 1) k)

pub shares_ands : (l : Layout) (party first k : ℕ) → ands_behind l (shares party first k) ≡ 0
shares_ands l party first zero = refl
shares_ands l party first (suc k) = let e = shares_ands (grown {T = ClearTask} l (Share party first)) party (first + 1) k in omega (arith, e)

-- ---- the registers that they make

pub shares_registers : (l : Layout) (party first k rows : ℕ) → ((j : ℕ) → j < k → IsSlotOf l (party_of party) rows (first + j)) → (grown_by l (shares party first k)).registers ≡ l.registers ++ replicate k rows
shares_registers l party first zero rows h = sym (append-nil l.registers)
shares_registers l party first (suc k) rows h =
    let here : first + 0 ≡ first = omega arith in
    let length_is = ap (λ s. count_in (shape_of l (party_of party) s)) (sym here) ∙ ap count_in (h 0 (omega arith)).shape in
    shares_registers (grown {T = ClearTask} l (Share party first)) party (first + 1) k rows
    (λ j i. let s : first + suc j ≡ (first + 1) + j = omega arith in
    let slot = subst (IsSlotOf l (party_of party) rows) s (h (suc j) (omega (arith, i))) in record { inside = slot.inside; shape = slot.shape })
    ∙ ap (λ n. (l.registers ++ n ∷ []) ++ replicate k rows) length_is ∙ append_assoc l.registers (rows ∷ []) (replicate k rows)

-- ---- their open values

pub shares_open : (l : Layout) (o : Open) (party first k : ℕ) (ds : ThreeTapes) → o.stop ≡ false
    → open_run answer l o (shares party first k) ds ≡ with_registers o (map (slot o (party_of party)) (range_with_len first k))
shares_open l o party first zero ds going = ap (λ rs. record o { registers = rs }) (sym (append-nil o.registers))
shares_open l o party first (suc k) ds going =
    ap (λ b. open_run answer (grown {T = ClearTask} l (Share party first)) (cond b o (with_registers o (slot o (party_of party) first ∷ []))) (shares party (first + 1) k) (dropped (needs_of {T = ClearTask} l (Share party first)) ds)) going
    ∙ shares_open (grown {T = ClearTask} l (Share party first)) (with_registers o (slot o (party_of party) first ∷ [])) party (first + 1) k (dropped (needs_of {T = ClearTask} l (Share party first)) ds) going
    ∙ ap (λ rs. record o { registers = rs }) (append_assoc o.registers (slot o (party_of party) first ∷ []) (map (slot o (party_of party)) (range_with_len (first + 1) k)))

-- ---- a table that was shared

module _ (quiet : QuietStepsAdd answer) (a b : Steps ClearTask) (rows width party first : ℕ) (t : Joint) (made : IsMade (layout_of a) rows width (Clear party first)) (h : IsShared a b rows width party first t) where
  shared_adds : AddsQuietly a b is_on_shares 0
  shared_adds = quiet a b is_on_shares 0 (record { more = shares party first (width + 1); is = h.is }) (shares_may party first (width + 1)) (shares_quiet party first (width + 1)) few
    where
      few : ands_in b ≤ ands_in a + 0
      few =
          let e = ap ands_in h.is in
          let f = ands-append (starting a.first) a.steps (shares party first (width + 1)) in
          let g = shares_ands (layout_of a) party first (width + 1) in
          omega (arith, e, f, g)

  registers_are : (layout_of b).registers ≡ (layout_of a).registers ++ replicate (width + 1) rows
  registers_are =
      ap (λ l. (layout_of l).registers) h.is ∙ ap (λ l. l.registers) (grown_by-append (starting a.first) a.steps (shares party first (width + 1)))
      ∙ shares_registers (layout_of a) party first (width + 1) rows (λ j i. made j (omega (arith, i)))

  wide_at : (k : ℕ) → k < width + 1 → IsWide (layout_of b).registers rows (wire (length (layout_of a).registers + k))
  wide_at k i = record {
    made = let e = ap length registers_are in omega (arith, e, i, length-append (layout_of a).registers (replicate (width + 1) rows), length-replicate (width + 1) rows);
    wide = ap (λ rs. get_or rs (length (layout_of a).registers + k) 0) registers_are ∙ get_or-append-add (layout_of a).registers (replicate (width + 1) rows) k 0 ∙ get_or-replicate (width + 1) k rows 0 i;
  }

  shared_made : AreRegisters (layout_of b) rows width t
  shared_made = record {
    joint = record {
      valid = subst (λ n. IsWide (layout_of b).registers n t.valid) (sym h.table.rows_are) (subst (IsWide (layout_of b).registers rows) (sym h.table.valid) (wide_at width (omega arith)));
      columns = subst (λ n. All (IsWide (layout_of b).registers n) t.columns.items) (sym h.table.rows_are) (subst (All (IsWide (layout_of b).registers rows)) (sym h.table.columns) columns);
    };
    rows_are = h.table.rows_are;
    wide = ap length h.table.columns ∙ length-map-range_with_len wire (length (layout_of a).registers) width;
  }
    where
      columns : All (IsWide (layout_of b).registers rows) (map wire (range_with_len (length (layout_of a).registers) width))
      columns = λ k d i.
          let inside : k < width = omega (arith, i, length-map-range_with_len wire (length (layout_of a).registers) width) in
          subst (IsWide (layout_of b).registers rows) (sym (get_or-map-range_with_len wire (length (layout_of a).registers) width k (length (layout_of a).registers + k) d inside refl)) (wide_at k (omega (arith, inside)))

  shared_same : (slots : SlotWords) (ds : ThreeTapes) → Possible answer b slots ds → table_in (open_of answer b slots ds) width (Shared t) ≡ table_in (open_of answer b slots ds) width (Clear party first)
  shared_same slots ds p = tables columns valid
    where
      before : Possible answer a slots ds
      before = possible_prefix answer a b slots ds (record { more = shares party first (width + 1); is = h.is }) p

      opens : open_of answer b slots ds ≡ with_registers (open_of answer a slots ds) (map (slot (open_of answer a slots ds) (party_of party)) (range_with_len first (width + 1)))
      opens =
          ap (λ l. open_of answer l slots ds) h.is ∙ open-behind answer a (shares party first (width + 1)) slots ds
          ∙ shares_open (layout_of a) (open_of answer a slots ds) party first (width + 1) (rest_after tape_cut (starting a.first) a.steps ds) before.going

      -- register base + j holds slot first + j
      at_register : (j : ℕ) → j < width + 1 → register (open_of answer b slots ds) (length (layout_of a).registers + j) ≡ slot (open_of answer b slots ds) (party_of party) (first + j)
      at_register j i =
          let count = count_open answer a slots ds before in
          ap (λ x. register x (length (layout_of a).registers + j)) opens
          ∙ ap (λ n. get_or ((open_of answer a slots ds).registers ++ map (slot (open_of answer a slots ds) (party_of party)) (range_with_len first (width + 1))) (n + j) []) (sym count)
          ∙ get_or-append-add (open_of answer a slots ds).registers (map (slot (open_of answer a slots ds) (party_of party)) (range_with_len first (width + 1))) j []
          ∙ get_or-map-range_with_len (slot (open_of answer a slots ds) (party_of party)) first (width + 1) j (first + j) [] i refl
          ∙ ap (λ x. slot x (party_of party) (first + j)) (sym opens)

      columns : map (words (register (open_of answer b slots ds))) t.columns.items ≡ map (slot (open_of answer b slots ds) (party_of party)) (range_with_len first width)
      columns =
          ap (map (words (register (open_of answer b slots ds)))) h.table.columns
          ∙ map_map wire (words (register (open_of answer b slots ds))) (range_with_len (length (layout_of a).registers) width)
          ∙ map_range_shift (register (open_of answer b slots ds)) (slot (open_of answer b slots ds) (party_of party)) (length (layout_of a).registers) first width (λ j i. at_register j (omega (arith, i)))

      valid : words (register (open_of answer b slots ds)) t.valid ≡ slot (open_of answer b slots ds) (party_of party) (first + width)
      valid = ap (words (register (open_of answer b slots ds))) h.table.valid ∙ at_register width (omega arith)

  pub shared_joined : IsJoined a b rows width (Clear party first) t
  shared_joined = record { adds = shared_adds; holds = record { made = shared_made; same = shared_same } }
