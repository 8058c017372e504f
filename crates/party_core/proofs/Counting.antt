-- How many words a step takes in its stages: they are few, and they add up.
use Rattle.std.proofs.Common.{◌≡◌, ℕ, zero, suc, ◌+◌, ◌*◌, ◌-◌, ◌^◌, ◌<◌, ◌≤◌, Bool, true, false, cond, List, [], ◌∷◌, ◌++◌, length, map, drop, refl, subst, arith, length-append}
use Rattle.std.specs.Prelude.{⊤, IsTrue, ◌&&◌, nat_lt, not, slice_index_or}
use Rattle.std.proofs.lemmas.Bool.{ltb-true}
use Rattle.std.proofs.lemmas.List.{length-map}
use Rattle.std.proofs.lemmas.Nat.{mul-le}
use Rattle.lanes.specs.declared.party.Party.{Party}
use Rattle.lanes.specs.declared.party.Party.TheVariants.{First, Second, Third}
use Rattle.lanes.specs.declared.three.Three.{Three}
use Rattle.lanes.specs.Party.{next, before}
use Rattle.lanes.specs.Three.{at, put}
use Rattle.step_lists.specs.declared.step.Shape.{Shape}
use Rattle.step_lists.specs.declared.step.Step.{Step}
use Rattle.step_lists.specs.declared.step.Step.TheVariants.{Const, Lin, And, Share, Reveal, Steer, Tell, Work, Flag}
use Rattle.step_lists.specs.Layout.{Layout, party_of, grown, length_of}
use Rattle.step_lists.specs.Rules.{fits_layout, is_fine, is_small}
use Rattle.step_lists.specs.Seen.{same_party}
use Rattle.step_lists.specs.Part.{count_from, stage_takes, takes_nothing, takes_from, when, phase_takes}
use Rattle.party_core.specs.Holding.{rows_of, takes_by}
use Rattle.party_core.proofs.Fine.{both}
use Rattle.party_core.proofs.Progressing.{count_more, count_none}

pub takes_are : {T : Type 0} (v : Party) (l : Layout) (s : Step T) → takes_by v s (rows_of l s) ≡ stage_takes v l s
takes_are v l (Const words) = refl
takes_are v l (Lin op) = refl
takes_are v l (And x y) = refl
takes_are v l (Share p s) = refl
takes_are v l (Reveal to moved shown) = refl
takes_are v l (Steer by s moved) = refl
takes_are v l (Tell x y s) = refl
takes_are v l (Work p task takes gives) = refl
takes_are v l (Flag p s) = refl

-- ---- fewer than 2 ^ 64

abbrev pub Few : Three ℕ → Type 0
Few t = (t.first < 2 ^ 64) × (t.second < 2 ^ 64) × (t.third < 2 ^ 64)

few_none : Few takes_nothing
few_none = (omega arith, omega arith, omega arith)

few_one : (p : Party) (n : ℕ) → n < 2 ^ 64 → Few (takes_from p n)
few_one First n h = (h, omega arith, omega arith)
few_one Second n h = (omega arith, h, omega arith)
few_one Third n h = (omega arith, omega arith, h)

few_if : (b : Bool) (x y : Three ℕ) → Few x → Few y → Few (cond b x y)
few_if true x y h k = h
few_if false x y h k = k

few_phase : (v j : Party) (n : ℕ) → n < 2 ^ 64 → Few (phase_takes v j n)
few_phase v j n h =
    few_if (same_party v j) (takes_from (before j) n) (when (same_party v (before j)) (takes_from j n)) (few_one (before j) n h)
    (few_if (same_party v (before j)) (takes_from j n) takes_nothing (few_one j n h) few_none)

abbrev EachFew : List (Three ℕ) → Type 0
EachFew [] = ⊤
EachFew (t ∷ ts) = Few t × EachFew ts

few_at : (ts : List (Three ℕ)) (i : ℕ) → EachFew ts → Few (slice_index_or ts i takes_nothing)
few_at [] zero h = few_none
few_at [] (suc i) h = few_none
few_at (t ∷ ts) zero h = h.0
few_at (t ∷ ts) (suc i) h = few_at ts i h.1

-- the moved and shown registers of a step are few
abbrev MovesFew : {T : Type 0} → Step T → Type 0
MovesFew (Const words) = ⊤
MovesFew (Lin op) = ⊤
MovesFew (And x y) = ⊤
MovesFew (Share p s) = ⊤
MovesFew (Reveal to moved shown) = (length moved < 2 ^ 32) × (length shown < 2 ^ 32)
MovesFew (Steer by s moved) = length moved < 2 ^ 32
MovesFew (Tell x y s) = ⊤
MovesFew (Work p task takes gives) = ⊤
MovesFew (Flag p s) = ⊤

product : (m n : ℕ) → m < 2 ^ 32 → n < 2 ^ 32 → m * n < 2 ^ 64
product m n h k = let p = mul-le m n (2 ^ 32 - 1) (2 ^ 32 - 1) (omega (arith, h)) (omega (arith, k)) in omega (arith, p)

each_few : {T : Type 0} (v : Party) (s : Step T) (n : ℕ) → n < 2 ^ 32 → MovesFew s → EachFew (takes_by v s n)
each_few v (Const words) n h m = tt
each_few v (Lin op) n h m = tt
each_few v (And x y) n h m = (few_one (next v) n (omega (arith, h)), tt)
each_few v (Share p s) n h m = (few_if (not (same_party v (party_of p))) (takes_from (party_of p) n) takes_nothing (few_one (party_of p) n (omega (arith, h))) few_none, tt)
each_few v (Reveal to moved shown) n h m =
    let p = product (length moved) n m.0 h in
    let shown_few = few_if (same_party v (party_of to)) (takes_from (next (party_of to)) (length shown * n)) takes_nothing (few_one (next (party_of to)) (length shown * n) (product (length shown) n m.1 h)) few_none in
    (few_phase v First _ p, (few_phase v Second _ p, (few_phase v Third _ p, (shown_few, tt))))
each_few v (Steer by s moved) n h m =
    let p = product (length moved) n m h in
    let sent_few = few_if (same_party v (before (party_of by))) (takes_from (party_of by) n) takes_nothing (few_one (party_of by) n (omega (arith, h))) few_none in
    (sent_few, (few_phase v (next (party_of by)) _ p, (few_phase v (party_of by) _ p, tt)))
each_few v (Tell x y s) n h m = (few_if (same_party v (party_of y)) (takes_from (party_of x) n) takes_nothing (few_one (party_of x) n (omega (arith, h))) few_none, tt)
each_few v (Work p task takes gives) n h m = tt
each_few v (Flag p s) n h m = (few_if (not (same_party v (party_of p))) (takes_from (party_of p) 1) takes_nothing (few_one (party_of p) 1 (omega arith)) few_none, tt)

record Sizes (l : Layout) : Type 0 where
  registers : length l.registers < 2 ^ 32
  slots : (p : Party) → length (at p l.slots) < 2 ^ 32

sizes : (l : Layout) → IsTrue (is_small l) → Sizes l
sizes l h =
    let a = nat_lt (length l.registers) (2 ^ 32) in
    let b = nat_lt (length l.slots.first) (2 ^ 32) in
    let c = nat_lt (length l.slots.second) (2 ^ 32) in
    let d = nat_lt (length l.slots.third) (2 ^ 32) in
    let abcd = (both (a && b && c && d) (nat_lt l.flags (2 ^ 32)) h).0 in
    let abc = both (a && b && c) d abcd in
    let ab = both (a && b) c abc.0 in
    let one = both a b ab.0 in
    record { registers = ltb-true (length l.registers) (2 ^ 32) one.0; slots = slots (ltb-true _ _ one.1) (ltb-true _ _ ab.1) (ltb-true _ _ abc.1) }
  where
    slots : length l.slots.first < 2 ^ 32 → length l.slots.second < 2 ^ 32 → length l.slots.third < 2 ^ 32 → (p : Party) → length (at p l.slots) < 2 ^ 32
    slots x y z First = x
    slots x y z Second = y
    slots x y z Third = z

pub at_put : {A : Type 0} (p : Party) (x : A) (t : Three A) → at p (put p x t) ≡ x
at_put First x t = refl
at_put Second x t = refl
at_put Third x t = refl

more_few : {A B : Type 0} (xs : List A) (f : B → A) (ys : List B) (n : ℕ) → length (xs ++ map f ys) < n → length ys < n
more_few xs f ys n h = let a = length-append xs (map f ys) in let b = length-map ys f in omega (arith, h, a, b)

moves_few : {T : Type 0} (l : Layout) (s : Step T) → IsTrue (is_small (grown l s)) → MovesFew s
moves_few l (Const words) h = tt
moves_few l (Lin op) h = tt
moves_few l (And x y) h = tt
moves_few l (Share p s) h = tt
moves_few {T} l (Reveal to moved shown) h =
    let z = sizes (grown {T = T} l (Reveal to moved shown)) h in
    let q = party_of to in (
      more_few l.registers (length_of l) moved (2 ^ 32) z.registers,
      more_few (at q l.slots) _ shown (2 ^ 32) (subst (λ xs. length xs < 2 ^ 32) (at_put q _ l.slots) (z.slots q)),
    )
moves_few {T} l (Steer by s moved) h = more_few l.registers (length_of l) moved (2 ^ 32) (sizes (grown {T = T} l (Steer by s moved)) h).registers
moves_few l (Tell x y s) h = tt
moves_few l (Work p task takes gives) h = tt
moves_few l (Flag p s) h = tt

pub few_taken : {T : Type 0} (accepts : T → List Shape → List Shape → Bool) (v : Party) (l : Layout) (s : Step T) (n i : ℕ) → IsTrue (is_fine accepts l s) → n < 2 ^ 32
    → Few (slice_index_or (takes_by v s n) i takes_nothing)
few_taken accepts v l s n i h k = few_at (takes_by v s n) i (each_few v s n k (moves_few l s (both (fits_layout accepts l s) (is_small (grown l s)) h).1))

-- ---- they add up

pub count_append : (p : Party) (xs ys : List (Three ℕ)) → count_from p (xs ++ ys) ≡ count_from p xs + count_from p ys
count_append p [] ys = let z = count_none p in omega (arith, z)
count_append p (x ∷ xs) ys =
    let a = count_more p x (xs ++ ys) in
    let b = count_more p x xs in
    let c = count_append p xs ys in
    omega (arith, a, b, c)

none_at : (p : Party) → at p takes_nothing ≡ 0
none_at First = refl
none_at Second = refl
none_at Third = refl

-- one stage of those that are left
pub count_drop : (p : Party) (i : ℕ) (ts : List (Three ℕ)) → count_from p (drop i ts) ≡ at p (slice_index_or ts i takes_nothing) + count_from p (drop (suc i) ts)
count_drop p zero [] = let e = none_at p in omega (arith, e)
count_drop p (suc i) [] = let e = none_at p in omega (arith, e)
count_drop p zero (t ∷ ts) = count_more p t ts
count_drop p (suc i) (t ∷ ts) = count_drop p i ts

pub drop_both : {A : Type 0} (i : ℕ) (xs ys : List A) → i ≤ length xs → drop i (xs ++ ys) ≡ drop i xs ++ ys
drop_both zero xs ys h = refl
drop_both (suc i) [] ys h = absurd (omega (arith, h))
drop_both (suc i) (x ∷ xs) ys h = drop_both i xs ys (omega (arith, h))
