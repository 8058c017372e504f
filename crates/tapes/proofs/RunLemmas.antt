-- Runs of needs that grow at the end.
use Rattle.std.proofs.Common.{◌≡◌, ℕ, suc, zero, ◌+◌, ◌<◌, ◌≤◌, List, [], ◌∷◌, ◌++◌, length, get_or, set, take, drop, replicate, slice_get, Some, refl, sym, ◌∙◌, ap, arith, length-append}
use Rattle.std.proofs.lemmas.List.{append_assoc, append-nil, length-replicate, replicate-append-replicate, take_more, drop_more, replicate_more, take-append-drop}
use Rattle.tapes.specs.declared.draw.Need.{Need}
use Rattle.tapes.specs.declared.needs.Run.{Run}
use Rattle.tapes.specs.Runs.{needs_of}

pub needs_of-append : (xs ys : List Run) → needs_of (xs ++ ys) ≡ needs_of xs ++ needs_of ys
needs_of-append [] ys = refl
needs_of-append (r ∷ xs) ys =
    ap (λ ns. replicate r.count r.need ++ ns) (needs_of-append xs ys)
    ∙ sym (append_assoc (replicate r.count r.need) (needs_of xs) (needs_of ys))

pub needs_of-push : (xs : List Run) (r : Run) → needs_of (xs ++ r ∷ []) ≡ needs_of xs ++ replicate r.count r.need
needs_of-push xs r =
    needs_of-append xs (r ∷ []) ∙ ap (λ ns. needs_of xs ++ ns) (append-nil (replicate r.count r.need))

-- the last run made longer
pub lengthened : (runs : List Run) (i n : ℕ) (r : Run) → suc i ≡ length runs → r ≡ get_or runs i r
    → needs_of (set runs i (record { need = r.need; count = r.count + n })) ≡ needs_of runs ++ replicate n r.need
lengthened [] i n r h e = absurd (omega arith)
lengthened (x ∷ []) zero n r h e =
    append-nil (replicate (r.count + n) r.need) ∙ sym (replicate-append-replicate r.count n r.need)
    ∙ ap (λ (y : Run). replicate y.count y.need ++ replicate n r.need) e
    ∙ ap (λ ns. ns ++ replicate n r.need) (sym (append-nil (replicate x.count x.need)))
lengthened (x ∷ y ∷ xs) zero n r h e = absurd (omega arith)
lengthened (x ∷ []) (suc i) n r h e = absurd (omega arith)
lengthened (x ∷ y ∷ xs) (suc i) n r h e =
    ap (λ ns. replicate x.count x.need ++ ns) (lengthened (y ∷ xs) i n r (omega arith) e)
    ∙ sym (append_assoc (replicate x.count x.need) (needs_of (y ∷ xs)) (replicate n r.need))

-- no run has more needs than all
pub run_within : (runs : List Run) (i : ℕ) (r : Run) → suc i ≡ length runs → r ≡ get_or runs i r → r.count ≤ length (needs_of runs)
run_within [] i r h e = absurd (omega arith)
run_within (x ∷ xs) zero r h e =
    let same : r.count ≡ x.count = ap (λ (y : Run). y.count) e in
    omega (arith, length-append (replicate x.count x.need) (needs_of xs), length-replicate x.count x.need)
run_within (x ∷ xs) (suc i) r h e =
    omega (arith, run_within xs i r (omega arith) e, length-append (replicate x.count x.need) (needs_of xs))

-- ---- runs one by one

pub runs_more : (runs : List Run) (k : ℕ) (d : Run) → k < length runs
    → needs_of (take (k + 1) runs) ≡ needs_of (take k runs) ++ replicate (get_or runs k d).count (get_or runs k d).need
runs_more runs k d h = ap needs_of (take_more runs k d h) ∙ needs_of-push (take k runs) (get_or runs k d)

-- one more need of a run
pub need_more : (needs : List Need) (i : ℕ) (need : Need) → (needs ++ replicate i need) ++ need ∷ [] ≡ needs ++ replicate (i + 1) need
need_more needs i need =
    append_assoc needs (replicate i need) (need ∷ []) ∙ ap (λ ns. needs ++ ns) (replicate_more i need)

-- the need behind some runs and some of the next run
pub need_there : (runs : List Run) (k i : ℕ) (d : Run) → k < length runs → i < (get_or runs k d).count
    → slice_get (needs_of runs) (length (needs_of (take k runs) ++ replicate i (get_or runs k d).need)) ≡ Some (get_or runs k d).need
need_there runs k i d h w =
    let r = get_or runs k d in
    let front = needs_of (take k runs) in
    let behind = needs_of (drop (k + 1) runs) in
    let split : needs_of runs ≡ front ++ (replicate r.count r.need ++ behind)
    = ap needs_of (sym (take-append-drop k runs)) ∙ needs_of-append (take k runs) (drop k runs) ∙ ap (λ xs. front ++ needs_of xs) (drop_more runs k d h) in
    ap (λ ns. slice_get ns (length (front ++ replicate i r.need))) split
    ∙ ap (λ n. slice_get (front ++ (replicate r.count r.need ++ behind)) n) (length-append front (replicate i r.need) ∙ ap (λ n. length front + n) (length-replicate i r.need))
    ∙ past front (replicate r.count r.need ++ behind) i ∙ inside r.count i r.need behind w
  where
    past : (xs ys : List Need) (n : ℕ) → slice_get (xs ++ ys) (length xs + n) ≡ slice_get ys n
    past [] ys n = ap (λ m. slice_get ys m) (omega arith)
    past (x ∷ xs) ys n =
        let shifted : suc (length xs) + n ≡ suc (length xs + n) = omega arith in
        ap (λ m. slice_get (x ∷ (xs ++ ys)) m) shifted ∙ past xs ys n

    inside : (c i : ℕ) (need : Need) (ys : List Need) → i < c → slice_get (replicate c need ++ ys) i ≡ Some need
    inside zero i need ys w = absurd (omega arith)
    inside (suc c) zero need ys w = refl
    inside (suc c) (suc i) need ys w = inside c i need ys (omega arith)
