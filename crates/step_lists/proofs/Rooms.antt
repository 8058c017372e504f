-- Room for more registers, slots and flags.
use Rattle.std.proofs.Common.{◌≡◌, ℕ, ◌+◌, ◌^◌, suc, ◌<◌, Bool, true, false, ◌&&◌, List, [], ◌∷◌, length, refl, sym, ap, ◌∙◌, length-append, true≢false, arith, Fits, w64}
use Rattle.std.specs.Prelude.{IsTrue, nat_lt, nat_le, slice_get, slice_index_or}
use Rattle.std.specs.List.{list_all}
use Rattle.std.proofs.Math.Facts.{Fits-lt-pow}
use Rattle.std.proofs.lemmas.Bool.{lt-ltb}
use Rattle.std.proofs.lemmas.Bool.Decides.{nat_tests}
use Rattle.std.specs.Option.{unwrap_or}
use Rattle.std.proofs.lemmas.Option.{unwrap_or-slice_get}
use Rattle.lanes.specs.declared.party.Party.{Party}
use Rattle.lanes.specs.declared.party.Party.TheVariants.{First, Second, Third}
use Rattle.lanes.specs.Three.{at}
use Rattle.step_lists.specs.declared.step.Shape.{Shape}
use Rattle.step_lists.specs.Layout.{Layout, with_lengths, with_shapes}
use Rattle.step_lists.specs.Rules.{is_small}

pub unwrap_or_slot : (xs : List Shape) (i : ℕ) (d : Shape) → unwrap_or (slice_get xs i) d ≡ slice_index_or xs i d
unwrap_or_slot xs i d = unwrap_or-slice_get xs i d

-- tests that hold together hold each
pub and_true : (a b : Bool) → (a && b) ≡ true → (a ≡ true) × (b ≡ true)
and_true true b h = (refl, h)
and_true false b h = absurd (true≢false (sym h))

-- the parts of a small layout
pub record Small (l : Layout) : Type 0 where
  pub registers : nat_lt (length l.registers) (2 ^ 32) ≡ true
  pub first : nat_lt (length l.slots.first) (2 ^ 32) ≡ true
  pub second : nat_lt (length l.slots.second) (2 ^ 32) ≡ true
  pub third : nat_lt (length l.slots.third) (2 ^ 32) ≡ true
  pub flags : nat_lt l.flags (2 ^ 32) ≡ true

five : (a b c d e : Bool) → (a && b && c && d && e) ≡ true → (a ≡ true) × (b ≡ true) × (c ≡ true) × (d ≡ true) × (e ≡ true)
five true true true true true h = (refl, refl, refl, refl, refl)
five true true true true false h = absurd (true≢false (sym h))
five true true true false e h = absurd (true≢false (sym h))
five true true false d e h = absurd (true≢false (sym h))
five true false c d e h = absurd (true≢false (sym h))
five false b c d e h = absurd (true≢false (sym h))

pub small_parts : (l : Layout) → IsTrue (is_small l) → Small l
small_parts l h =
    let p = five (nat_lt (length l.registers) (2 ^ 32)) (nat_lt (length l.slots.first) (2 ^ 32)) (nat_lt (length l.slots.second) (2 ^ 32)) (nat_lt (length l.slots.third) (2 ^ 32)) (nat_lt l.flags (2 ^ 32)) h in
    record { registers = p.0; first = p.1; second = p.2; third = p.3; flags = p.4 }

-- where all tests but one hold
only_1 : (a b c d e : Bool) → b ≡ true → c ≡ true → d ≡ true → e ≡ true → (a && b && c && d && e) ≡ a
only_1 true b c d e p q r s = ap (λ x. x && c && d && e) p ∙ ap (λ x. x && d && e) q ∙ ap (λ x. x && e) r ∙ s
only_1 false b c d e p q r s = refl

only_2 : (a b c d e : Bool) → a ≡ true → c ≡ true → d ≡ true → e ≡ true → (a && b && c && d && e) ≡ b
only_2 a true c d e p q r s = ap (λ x. x && true && c && d && e) p ∙ ap (λ x. x && d && e) q ∙ ap (λ x. x && e) r ∙ s
only_2 a false c d e p q r s = ap (λ x. x && false && c && d && e) p

only_3 : (a b c d e : Bool) → a ≡ true → b ≡ true → d ≡ true → e ≡ true → (a && b && c && d && e) ≡ c
only_3 a b true d e p q r s = ap (λ x. x && b && true && d && e) p ∙ ap (λ x. x && true && d && e) q ∙ ap (λ x. x && e) r ∙ s
only_3 a b false d e p q r s = ap (λ x. x && b && false && d && e) p ∙ ap (λ x. x && false && d && e) q

only_4 : (a b c d e : Bool) → a ≡ true → b ≡ true → c ≡ true → e ≡ true → (a && b && c && d && e) ≡ d
only_4 a b c true e p q r s = ap (λ x. x && b && c && true && e) p ∙ ap (λ x. x && c && true && e) q ∙ ap (λ x. x && true && e) r ∙ s
only_4 a b c false e p q r s = ap (λ x. x && b && c && false && e) p ∙ ap (λ x. x && c && false && e) q ∙ ap (λ x. x && false && e) r

only_5 : (a b c d e : Bool) → a ≡ true → b ≡ true → c ≡ true → d ≡ true → (a && b && c && d && e) ≡ e
only_5 a b c d e p q r s = ap (λ x. x && b && c && d && e) p ∙ ap (λ x. x && c && d && e) q ∙ ap (λ x. x && d && e) r ∙ ap (λ x. x && e) s

-- a small layout stays small where what grows does
pub small_lengths : (l : Layout) (more : List ℕ) (n : ℕ) → IsTrue (is_small l) → length more ≡ n
    → nat_lt (length l.registers + n) (2 ^ 32) ≡ is_small (with_lengths l more)
small_lengths l more n h e =
    let p = small_parts l h in
    sym (only_1 _ _ _ _ _ p.first p.second p.third p.flags ∙ ap (λ n. nat_lt n (2 ^ 32)) (length-append l.registers more ∙ ap (λ n. length l.registers + n) e))

pub small_shapes : (p : Party) (l : Layout) (more : List Shape) (n : ℕ) → IsTrue (is_small l) → length more ≡ n
    → nat_lt (length (at p l.slots) + n) (2 ^ 32) ≡ is_small (with_shapes l p more)
small_shapes First l more n h e =
    let p = small_parts l h in
    sym (only_2 _ _ _ _ _ p.registers p.second p.third p.flags ∙ ap (λ n. nat_lt n (2 ^ 32)) (length-append l.slots.first more ∙ ap (λ n. length l.slots.first + n) e))
small_shapes Second l more n h e =
    let p = small_parts l h in
    sym (only_3 _ _ _ _ _ p.registers p.first p.third p.flags ∙ ap (λ n. nat_lt n (2 ^ 32)) (length-append l.slots.second more ∙ ap (λ n. length l.slots.second + n) e))
small_shapes Third l more n h e =
    let p = small_parts l h in
    sym (only_4 _ _ _ _ _ p.registers p.first p.second p.flags ∙ ap (λ n. nat_lt n (2 ^ 32)) (length-append l.slots.third more ∙ ap (λ n. length l.slots.third + n) e))

pub small_flags : (l : Layout) (n : ℕ) → IsTrue (is_small l) → nat_lt n (2 ^ 32) ≡ is_small (record l { flags = n })
small_flags l n h = let p = small_parts l h in sym (only_5 _ _ _ _ _ p.registers p.first p.second p.third)

-- words below 2 ^ 64 pass that test, so that their number decides
words_pass : (xs : List ℕ) → ((k : ℕ) → slice_index_or xs k 0 < 2 ^ 64) → list_all (λ w. nat_lt w (2 ^ 64)) xs ≡ true
words_pass [] h = refl
words_pass (x ∷ xs) h =
    let below = h 0 in
    let here : nat_lt x (2 ^ 64) ≡ true = lt-ltb x (2 ^ 64) below in
    ap (λ b. b && list_all (λ w. nat_lt w (2 ^ 64)) xs) here ∙ words_pass xs (λ k. h (suc k))

pub const_fits : (xs : List ℕ) → ((k : ℕ) → Fits w64 (slice_index_or xs k 0)) → nat_le (length xs) 4294967295 ≡ (list_all (λ w. nat_lt w (2 ^ 64)) xs && nat_lt (length xs) (2 ^ 32))
const_fits xs h =
    let same : nat_le (length xs) 4294967295 ≡ nat_lt (length xs) (2 ^ 32) = grind (arith, nat_tests) in
    same ∙ ap (λ b. b && nat_lt (length xs) (2 ^ 32)) (sym (words_pass xs (λ k. Fits-lt-pow (h k))))
