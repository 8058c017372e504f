-- Bytes have one answer: one tape, or one first fault.
use Rattle.std.proofs.Common.{◌≡◌, ℕ, suc, zero, ◌+◌, ◌*◌, ◌<◌, ◌≤◌, ◌^◌, List, [], ◌∷◌, ◌++◌, length, get_or, take, drop, refl, sym, ◌∙◌, ap, subst, ◌⊎◌, inl, inr, Some, Result, Ok, Err, slice_get, arith}
use Rattle.std.specs.Int.{w32, w64, to_be_bytes, from_be_bytes}
use Rattle.std.proofs.lemmas.List.{append-nil, append_assoc, length-append, take_all, drop_all}
use Rattle.std.proofs.lemmas.Nat.{from_be_bytes-to_be_bytes_4, from_be_bytes-to_be_bytes_8}
use Rattle.tapes.specs.declared.draw.Need.{Need}
use Rattle.tapes.specs.declared.draw.Need.TheVariants.{Word as NeedsWord, OrderOf}
use Rattle.tapes.specs.declared.draw.Draw.{Draw}
use Rattle.tapes.specs.declared.draw.Draw.TheVariants.{Word, Order}
use Rattle.tapes.specs.declared.tape_bytes.TapeFault.{TapeFault}
use Rattle.tapes.specs.declared.tape_bytes.TapeFault.TheVariants.{Short, Long, NotOrder, Memory}
use Rattle.tapes.specs.Order.{IsOrder, IsShortOrder}
use Rattle.tapes.specs.Bytes.{number_bytes, draw_bytes, tape_bytes}
use Rattle.tapes.specs.Needs.{Meets, FitsNeeds, width_of}
use Rattle.tapes.specs.ReadTape.{AreNoOrder, ReadsTape}

-- ---- bytes of one draw

-- fronts of one length are equal
fronts : (p q u v : List ℕ) → length p ≡ length q → p ++ u ≡ q ++ v → (p ≡ q) × (u ≡ v)
fronts [] [] u v e h = (refl, h)
fronts [] (y ∷ q) u v e h = absurd (omega arith)
fronts (x ∷ p) [] u v e h = absurd (omega arith)
fronts (x ∷ p) (y ∷ q) u v e h =
    let heads : x ≡ y = cc in
    let tails : p ++ u ≡ q ++ v = cc in
    let r = fronts p q u v (omega arith) tails in (rw (heads, r.0) refl, r.1)

same_word : (w v : ℕ) → w < 2 ^ 64 → v < 2 ^ 64 → to_be_bytes w64 w ≡ to_be_bytes w64 v → w ≡ v
same_word w v a b e =
    sym (from_be_bytes-to_be_bytes_8 w a) ∙ ap (λ bs. from_be_bytes w64 bs) e ∙ from_be_bytes-to_be_bytes_8 v b

same_number : (w v : ℕ) → w < 2 ^ 32 → v < 2 ^ 32 → to_be_bytes w32 w ≡ to_be_bytes w32 v → w ≡ v
same_number w v a b e =
    sym (from_be_bytes-to_be_bytes_4 w a) ∙ ap (λ bs. from_be_bytes w32 bs) e ∙ from_be_bytes-to_be_bytes_4 v b

same_numbers : (xs ys u v : List ℕ) → length xs ≡ length ys → ((k : ℕ) → k < length xs → get_or xs k 0 < 2 ^ 32) → ((k : ℕ) → k < length ys → get_or ys k 0 < 2 ^ 32)
    → number_bytes xs ++ u ≡ number_bytes ys ++ v → (xs ≡ ys) × (u ≡ v)
same_numbers [] [] u v e a b h = (refl, h)
same_numbers [] (y ∷ ys) u v e a b h = absurd (omega arith)
same_numbers (x ∷ xs) [] u v e a b h = absurd (omega arith)
same_numbers (x ∷ xs) (y ∷ ys) u v e a b h =
    let split = fronts (to_be_bytes w32 x) (to_be_bytes w32 y) (number_bytes xs ++ u) (number_bytes ys ++ v) refl
    (sym (append_assoc (to_be_bytes w32 x) (number_bytes xs) u) ∙ h ∙ append_assoc (to_be_bytes w32 y) (number_bytes ys) v) in
    let first : x ≡ y = same_number x y (a 0 (omega arith)) (b 0 (omega arith)) split.0 in
    let rest = same_numbers xs ys u v (omega arith) (λ k i. a (suc k) (omega arith)) (λ k i. b (suc k) (omega arith)) split.1 in
    (rw (first, rest.0) refl, rest.1)

small_numbers : (o : List ℕ) → IsShortOrder o → (k : ℕ) → k < length o → get_or o k 0 < 2 ^ 32
small_numbers o p k h =
    let b : get_or o k 0 < length o = p.order.below k h in
    let s : length o ≤ 2 ^ 32 = p.short in omega arith

same_draw : (n : Need) (x y : Draw) (u v : List ℕ) → Meets n x → Meets n y → draw_bytes x ++ u ≡ draw_bytes y ++ v → (x ≡ y) × (u ≡ v)
same_draw NeedsWord (Word w) (Word z) u v a b h =
    let split = fronts (to_be_bytes w64 w) (to_be_bytes w64 z) u v refl h in (ap (λ i. Word i) (same_word w z a b split.0), split.1)
same_draw NeedsWord (Word w) (Order o) u v a b h = absurd b
same_draw NeedsWord (Order o) y u v a b h = absurd a
same_draw (OrderOf n) (Word w) y u v a b h = absurd a
same_draw (OrderOf n) (Order o) (Word w) u v a b h = absurd b
same_draw (OrderOf n) (Order o) (Order p) u v a b h =
    let same = same_numbers o p u v (a.1 ∙ sym b.1) (small_numbers o a.0) (small_numbers p b.0) h in (ap (λ i. Order i) same.0, same.1)

length-number_bytes : (xs : List ℕ) → length (number_bytes xs) ≡ 4 * length xs
length-number_bytes [] = refl
length-number_bytes (x ∷ xs) =
    length-append (to_be_bytes w32 x) (number_bytes xs) ∙ omega (arith, length-number_bytes xs)

length-draw_bytes : (n : Need) (d : Draw) → Meets n d → length (draw_bytes d) ≡ width_of n
length-draw_bytes NeedsWord (Word w) h = refl
length-draw_bytes NeedsWord (Order o) h = absurd h
length-draw_bytes (OrderOf n) (Word w) h = absurd h
length-draw_bytes (OrderOf n) (Order o) h = length-number_bytes o ∙ ap (λ i. 4 * i) h.1

-- ---- where reading stops

-- one more draw could be read
record Readable (needs : List Need) (draws : List Draw) (rest : List ℕ) : Type 0 where
  need : Need
  more : List Need
  draw : Draw
  after : List ℕ
  left : drop (length draws) needs ≡ need ∷ more
  meets : Meets need draw
  spelled : rest ≡ draw_bytes draw ++ after

-- reading stops at one place
same_stop : (needs : List Need) (bytes : List ℕ) (a b : List Draw) (ra rb : List ℕ)
    → FitsNeeds (take (length a) needs) a → bytes ≡ tape_bytes a ++ ra → ¬ Readable needs a ra
    → FitsNeeds (take (length b) needs) b → bytes ≡ tape_bytes b ++ rb → ¬ Readable needs b rb
    → (a ≡ b) × (ra ≡ rb)
same_stop needs bytes [] [] ra rb fa ea na fb eb nb = (refl, sym ea ∙ eb)
same_stop [] bytes [] (y ∷ b) ra rb fa ea na fb eb nb = absurd fb
same_stop (n ∷ ns) bytes [] (y ∷ b) ra rb fa ea na fb eb nb =
    absurd
    (na (record {
      need = n;
      more = ns;
      draw = y;
      after = tape_bytes b ++ rb;
      left = refl;
      meets = fb.0;
      spelled = sym ea ∙ eb ∙ append_assoc (draw_bytes y) (tape_bytes b) rb;
    }))
same_stop [] bytes (x ∷ a) b ra rb fa ea na fb eb nb = absurd fa
same_stop (n ∷ ns) bytes (x ∷ a) [] ra rb fa ea na fb eb nb =
    absurd
    (nb (record {
      need = n;
      more = ns;
      draw = x;
      after = tape_bytes a ++ ra;
      left = refl;
      meets = fa.0;
      spelled = sym eb ∙ ea ∙ append_assoc (draw_bytes x) (tape_bytes a) ra;
    }))
same_stop (n ∷ ns) bytes (x ∷ a) (y ∷ b) ra rb fa ea na fb eb nb =
    let split = same_draw n x y (tape_bytes a ++ ra) (tape_bytes b ++ rb) fa.0 fb.0
    (sym (append_assoc (draw_bytes x) (tape_bytes a) ra) ∙ sym ea ∙ eb ∙ append_assoc (draw_bytes y) (tape_bytes b) rb) in
    let rest = same_stop ns (tape_bytes a ++ ra) a b ra rb fa.1 refl
    (λ r. na (record { need = r.need; more = r.more; draw = r.draw; after = r.after; left = r.left; meets = r.meets; spelled = r.spelled }))
    fb.1 split.1
    (λ r. nb (record { need = r.need; more = r.more; draw = r.draw; after = r.after; left = r.left; meets = r.meets; spelled = r.spelled })) in
    (rw (split.0, rest.0) refl, rest.1)

-- what is known where reading stops with an answer
abbrev EndsAs : List Need → List Draw → List ℕ → Result (List Draw) TapeFault → Type 0
EndsAs needs draws rest (Ok tape) = (draws ≡ tape) × (length draws ≡ length needs) × (rest ≡ [])
EndsAs needs draws rest (Err (Short d)) =
    (length draws ≡ d) × ((need : Need) × ((more : List Need) × (drop (length draws) needs ≡ need ∷ more) × (length rest < width_of need)))
EndsAs needs draws rest (Err (NotOrder d)) =
    (length draws ≡ d) × ((need : Need) × ((more : List Need) × (drop (length draws) needs ≡ need ∷ more) × (width_of need ≤ length rest)))
EndsAs needs draws rest (Err (Long d)) = (length draws ≡ d) × (length draws ≡ length needs) × (0 < length rest)
EndsAs needs draws rest (Err Memory) = ⊥

drop_from_get : (needs : List Need) (d : ℕ) (need : Need) → slice_get needs d ≡ Some need → drop d needs ≡ need ∷ drop (suc d) needs
drop_from_get [] d need e = absurd (cc)
drop_from_get (n ∷ ns) zero need e = let same : n ≡ need = cc in rw same refl
drop_from_get (n ∷ ns) (suc d) need e = drop_from_get ns d need e

-- no draw can be read past the last need
end_unreadable : (needs : List Need) (draws : List Draw) (rest : List ℕ) → length draws ≡ length needs → ¬ Readable needs draws rest
end_unreadable needs draws rest e r =
    let none : drop (length draws) needs ≡ [] = drop_all (length draws) needs (omega arith) in
    let both : r.need ∷ r.more ≡ [] = sym r.left ∙ none in cc

-- nor where the bytes end too early
short_unreadable : (needs : List Need) (draws : List Draw) (rest : List ℕ) (need : Need) (more : List Need) → drop (length draws) needs ≡ need ∷ more
    → length rest < width_of need → ¬ Readable needs draws rest
short_unreadable needs draws rest need more e h r =
    let both : r.need ∷ r.more ≡ need ∷ more = sym r.left ∙ e in
    let same : r.need ≡ need = cc in
    let long : length rest ≡ length (draw_bytes r.draw) + length r.after = ap length r.spelled ∙ length-append (draw_bytes r.draw) r.after in
    let width : length (draw_bytes r.draw) ≡ width_of need = length-draw_bytes r.need r.draw r.meets ∙ ap width_of same in omega arith

-- nor where the numbers are no order
no_order_meets : (count : ℕ) (numbers rest after : List ℕ) (draw : Draw) → AreNoOrder count numbers → Meets (OrderOf count) draw
    → number_bytes numbers ++ rest ≡ draw_bytes draw ++ after → ⊥
no_order_meets count numbers rest after (Word w) bad m e = absurd m
no_order_meets count numbers rest after (Order o) bad m e =
    let same = same_numbers numbers o rest after (bad.count_is ∙ sym m.1) (λ k i. bad.small k) (small_numbers o m.0) e in
    bad.no_order (subst IsOrder (sym same.0) m.0.order)

no_order_unreadable : (needs : List Need) (draws : List Draw) (numbers rest : List ℕ) (count : ℕ) (more : List Need) → drop (length draws) needs ≡ OrderOf count ∷ more
    → AreNoOrder count numbers → ¬ Readable needs draws (number_bytes numbers ++ rest)
no_order_unreadable needs draws numbers rest count more e bad r =
    let both : r.need ∷ r.more ≡ OrderOf count ∷ more = sym r.left ∙ e in
    let same : r.need ≡ OrderOf count = cc in
    no_order_meets count numbers rest r.after r.draw bad (subst (λ (n : Need). Meets n r.draw) same r.meets) r.spelled

-- an answer, with the place where reading stops
record Stop (needs : List Need) (bytes : List ℕ) (answer : Result (List Draw) TapeFault) : Type 0 where
  draws : List Draw
  rest : List ℕ
  fits : FitsNeeds (take (length draws) needs) draws
  spelled : bytes ≡ tape_bytes draws ++ rest
  unreadable : ¬ Readable needs draws rest
  ends : EndsAs needs draws rest answer

length-fits : (needs : List Need) (ds : List Draw) → FitsNeeds needs ds → length ds ≡ length needs
length-fits [] [] h = refl
length-fits [] (d ∷ ds) h = absurd h
length-fits (n ∷ ns) [] h = absurd h
length-fits (n ∷ ns) (d ∷ ds) h = ap suc (length-fits ns ds h.1)

stop : (needs : List Need) (bytes : List ℕ) (answer : Result (List Draw) TapeFault) → ReadsTape needs bytes answer → (answer ≡ Err Memory) ⊎ Stop needs bytes answer
stop needs bytes (Ok tape) h =
    let all : length tape ≡ length needs = length-fits needs tape h.0 in
    inr
    (record {
      draws = tape;
      rest = [];
      fits = rw (take_all (length tape) needs (omega arith)) h.0;
      spelled = h.1 ∙ sym (append-nil (tape_bytes tape));
      unreadable = end_unreadable needs tape [] all;
      ends = (refl, all, refl);
    })
stop needs bytes (Err (Short d)) h =
    let left : drop (length h.draws) needs ≡ h.need ∷ drop (suc d) needs = ap (λ n. drop n needs) h.number ∙ drop_from_get needs d h.need h.needed in
    inr
    (record {
      draws = h.draws;
      rest = h.rest;
      fits = h.begins.fits;
      spelled = h.begins.spelled;
      unreadable = short_unreadable needs h.draws h.rest h.need (drop (suc d) needs) left h.short;
      ends = (h.number, (h.need, (drop (suc d) needs, left, h.short)));
    })
stop needs bytes (Err (NotOrder d)) h =
    let left : drop (length h.draws) needs ≡ OrderOf h.count ∷ drop (suc d) needs = ap (λ n. drop n needs) h.number ∙ drop_from_get needs d (OrderOf h.count) h.needed in
    let long : length (number_bytes h.numbers ++ h.rest) ≡ 4 * length h.numbers + length h.rest
    = length-append (number_bytes h.numbers) h.rest ∙ ap (λ n. n + length h.rest) (length-number_bytes h.numbers) in
    let same : length h.numbers ≡ h.count = h.no_order.count_is in
    inr
    (record {
      draws = h.draws;
      rest = number_bytes h.numbers ++ h.rest;
      fits = h.begins.fits;
      spelled = h.begins.spelled;
      unreadable = no_order_unreadable needs h.draws h.numbers h.rest h.count (drop (suc d) needs) left h.no_order;
      ends = (h.number, (OrderOf h.count, (drop (suc d) needs, left, omega arith)));
    })
stop needs bytes (Err (Long d)) h =
    inr
    (record {
      draws = h.draws;
      rest = h.rest;
      fits = h.begins.fits;
      spelled = h.begins.spelled;
      unreadable = end_unreadable needs h.draws h.rest h.all;
      ends = (h.all ∙ h.number, h.all, h.more);
    })
stop needs bytes (Err Memory) h = inl refl

-- a need is left, or none is
left_or_not : (needs : List Need) (draws : List Draw) (need : Need) (more : List Need) → drop (length draws) needs ≡ need ∷ more → length draws ≡ length needs → ⊥
left_or_not needs draws need more e h =
    let none : drop (length draws) needs ≡ [] = drop_all (length draws) needs (omega arith) in
    let both : need ∷ more ≡ [] = sym e ∙ none in cc

-- answers that end at one place are one
same_ends : (needs : List Need) (draws : List Draw) (rest : List ℕ) (r s : Result (List Draw) TapeFault) → EndsAs needs draws rest r → EndsAs needs draws rest s → r ≡ s
same_ends needs draws rest (Ok t) (Ok u) a b = ap (λ x. Ok x) (sym a.0 ∙ b.0)
same_ends needs draws rest (Ok t) (Err (Short d)) a b = absurd (left_or_not needs draws b.1.0 b.1.1.0 b.1.1.1 a.1)
same_ends needs draws rest (Ok t) (Err (NotOrder d)) a b = absurd (left_or_not needs draws b.1.0 b.1.1.0 b.1.1.1 a.1)
same_ends needs draws rest (Ok t) (Err (Long d)) a b = absurd (let e : length rest ≡ 0 = ap length a.2 in omega (arith, b.2))
same_ends needs draws rest (Ok t) (Err Memory) a b = absurd b
same_ends needs draws rest (Err (Short d)) (Ok u) a b = absurd (left_or_not needs draws a.1.0 a.1.1.0 a.1.1.1 b.1)
same_ends needs draws rest (Err (Short d)) (Err (Short e)) a b = ap (λ x. Err (Short x)) (sym a.0 ∙ b.0)
same_ends needs draws rest (Err (Short d)) (Err (NotOrder e)) a b =
    absurd
    (let both : a.1.0 ∷ a.1.1.0 ≡ b.1.0 ∷ b.1.1.0 = sym a.1.1.1 ∙ b.1.1.1 in
    let same : a.1.0 ≡ b.1.0 = cc in
    let width : width_of a.1.0 ≡ width_of b.1.0 = ap width_of same in omega (arith, a.1.1.2, b.1.1.2))
same_ends needs draws rest (Err (Short d)) (Err (Long e)) a b = absurd (left_or_not needs draws a.1.0 a.1.1.0 a.1.1.1 b.1)
same_ends needs draws rest (Err (Short d)) (Err Memory) a b = absurd b
same_ends needs draws rest (Err (NotOrder d)) (Ok u) a b = absurd (left_or_not needs draws a.1.0 a.1.1.0 a.1.1.1 b.1)
same_ends needs draws rest (Err (NotOrder d)) (Err (Short e)) a b =
    absurd
    (let both : a.1.0 ∷ a.1.1.0 ≡ b.1.0 ∷ b.1.1.0 = sym a.1.1.1 ∙ b.1.1.1 in
    let same : a.1.0 ≡ b.1.0 = cc in
    let width : width_of a.1.0 ≡ width_of b.1.0 = ap width_of same in omega (arith, a.1.1.2, b.1.1.2))
same_ends needs draws rest (Err (NotOrder d)) (Err (NotOrder e)) a b = ap (λ x. Err (NotOrder x)) (sym a.0 ∙ b.0)
same_ends needs draws rest (Err (NotOrder d)) (Err (Long e)) a b = absurd (left_or_not needs draws a.1.0 a.1.1.0 a.1.1.1 b.1)
same_ends needs draws rest (Err (NotOrder d)) (Err Memory) a b = absurd b
same_ends needs draws rest (Err (Long d)) (Ok u) a b = absurd (let e : length rest ≡ 0 = ap length b.2 in omega (arith, a.2))
same_ends needs draws rest (Err (Long d)) (Err (Short e)) a b = absurd (left_or_not needs draws b.1.0 b.1.1.0 b.1.1.1 a.1)
same_ends needs draws rest (Err (Long d)) (Err (NotOrder e)) a b = absurd (left_or_not needs draws b.1.0 b.1.1.0 b.1.1.1 a.1)
same_ends needs draws rest (Err (Long d)) (Err (Long e)) a b = ap (λ x. Err (Long x)) (sym a.0 ∙ b.0)
same_ends needs draws rest (Err (Long d)) (Err Memory) a b = absurd b
same_ends needs draws rest (Err Memory) s a b = absurd a

-- the bytes have one right answer, want of memory aside
pub one_answer : (needs : List Need) (bytes : List ℕ) (r s : Result (List Draw) TapeFault) → ReadsTape needs bytes r → ReadsTape needs bytes s
    → (r ≡ s) ⊎ ((r ≡ Err Memory) ⊎ (s ≡ Err Memory))
one_answer needs bytes r s a b =
    elim (stop needs bytes r a) [
      | inl no_memory ↦ inr (inl no_memory)
      | inr p ↦ elim (stop needs bytes s b) [
        | inl no_memory ↦ inr (inr no_memory)
        | inr q ↦
            let same = same_stop needs bytes p.draws q.draws p.rest q.rest p.fits p.spelled p.unreadable q.fits q.spelled q.unreadable in
            inl
            (same_ends needs p.draws p.rest r s p.ends
            (subst (λ (x : List ℕ). EndsAs needs p.draws x s) (sym same.1) (subst (λ (x : List Draw). EndsAs needs x q.rest s) (sym same.0) q.ends)))
      ]
    ]
