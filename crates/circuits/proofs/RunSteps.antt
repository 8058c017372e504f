-- What the scan of runs keeps from level to level.
use Rattle.std.proofs.Common.{◌≡◌, ℕ, zero, suc, ◌+◌, ◌*◌, ◌%◌, ◌^◌, ◌<◌, ◌≤◌, ⊎_elim, inl, inr, pow_pos, List, [], ◌∷◌, ◌++◌, length, refl, sym, ap, ◌∙◌, subst, add-one, arith, length-append}
use Rattle.std.specs.Prelude.{◌⊎◌, Some, slice_get}
use Rattle.std.proofs.Math.Nat.{add-mul, mul-add, mul-one, one-mul, mul-le-mul_left, mul-le-mul_right, pow-le-pow_right, pow-suc}
use Rattle.std.proofs.lemmas.Bool.{cases_lt}
use Rattle.wires.specs.Environment.{Environment, words}
use Rattle.wires.specs.Growth.{Carries, Grows, lanes_of}
use Rattle.wires.specs.declared.wire.Wire.{Wire}
use Rattle.circuits.specs.RunLoops.{Flagging, LevelFlags, further_folds, further_lanes, near_folds, reaching_lanes}
use Rattle.circuits.specs.Loops.{Building}
use Rattle.circuits.proofs.Levels.{grows_still, grows_then}
use Rattle.circuits.proofs.Restated.{carried_on}
use Rattle.circuits.proofs.RunLaws.{flags_go_on, folds_begin, reach_doubles}

-- an item of a list that was pushed to
pub pushed_cases : {X : Type 0} (xs : List X) (y x : X) (k : ℕ) → slice_get (xs ++ y ∷ []) k ≡ Some x → (slice_get xs k ≡ Some x) ⊎ ((k ≡ length xs) × (y ≡ x))
pushed_cases [] y x zero is = inr (refl, cc)
pushed_cases [] y x (suc k) is = absurd (cc)
pushed_cases (z ∷ xs) y x zero is = inl is
pushed_cases (z ∷ xs) y x (suc k) is = ⊎_elim (λ (old : slice_get xs k ≡ Some x). inl old) (λ (new : (k ≡ length xs) × (y ≡ x)). inr (ap suc new.0, new.1)) (pushed_cases xs y x k is)

-- flags in a later state
pub flags_last : {S : Type 0} (grown : S → S → Type 0) (possible : S → Environment → Type 0) (shape : S → List ℕ) (old new : S) (flags : List Wire) (joined : Wire) (n : ℕ)
    → Grows grown possible shape old new → LevelFlags (possible old) (shape old) flags joined n → LevelFlags (possible new) (shape new) flags joined n
flags_last grown possible shape old new flags joined n grows h = record {
  each = λ k flag is. carried_on grown possible shape old new flag n _ grows (h.each k flag is);
}

-- before the first level
pub flagging_begins : {S : Type 0} (grown : S → S → Type 0) (possible : S → Environment → Type 0) (shape : S → List ℕ) (ands : S → ℕ)
    (first now : S) (joined flag : Wire) (flags : List Wire) (n : ℕ)
    → Grows grown possible shape first now → Carries (possible now) (shape now) flag n (λ v. reaching_lanes 1 (words v joined))
    → ands now ≡ ands first → flags ≡ []
    → Flagging grown possible shape ands first now joined flag flags n 1
flagging_begins grown possible shape ands first now joined flag flags n grows made count none =
    let P : List Wire → Type 0 = λ fs. Flagging grown possible shape ands first now joined flag fs n 1 in
    subst P (sym none) (record {
      grows = grows;
      so_far = record { each = λ k f is. absurd (cc) };
      next = made;
      places_are = refl;
      fewest = λ levels h. omega arith;
      spent = omega (arith, count);
    })

-- a level more is no more than are needed
pub one_more : {S : Type 0} (grown : S → S → Type 0) (possible : S → Environment → Type 0) (shape : S → List ℕ) (ands : S → ℕ)
    (first now : S) (joined flag : Wire) (flags : List Wire) (n places : ℕ)
    → Flagging grown possible shape ands first now joined flag flags n places → places < n
    → (levels : ℕ) → n ≤ 2 ^ levels → suc (length flags) ≤ levels
one_more grown possible shape ands first now joined flag flags n places h below levels enough = ⊎_elim
    (λ (less : length flags < levels). omega arith)
    (λ (more : levels ≤ length flags).
    let most : 2 ^ levels ≤ 2 ^ length flags = pow-le-pow_right {n = 2} (omega arith) {i = levels} {j = length flags} more in
    absurd (omega (arith, most, h.places_are)))
    (cases_lt (length flags) levels)

-- its cost
pub cost_of_more : (flags n levels : ℕ) → suc flags ≤ levels → flags * n + n ≤ levels * n
cost_of_more flags n levels h =
    let all : suc flags * n ≤ levels * n = mul-le-mul_right n h in
    omega (arith, all)

-- after one more level
pub flagging_goes_on : {S : Type 0} (grown : S → S → Type 0) (possible : S → Environment → Type 0) (shape : S → List ℕ) (ands : S → ℕ)
    (first now next : S) (joined flag new : Wire) (flags more : List Wire) (n places : ℕ)
    → Flagging grown possible shape ands first now joined flag flags n places → Grows grown possible shape now next
    → Carries (possible next) (shape next) new (lanes_of (shape now) flag) (λ v. further_lanes places (words v flag))
    → ands next ≤ ands now + lanes_of (shape now) flag
    → more ≡ flags ++ flag ∷ [] → places < n
    → Flagging grown possible shape ands first next joined new more n (places * 2)
flagging_goes_on grown possible shape ands first now next joined flag new flags more n places before grows made cost pushed below =
    let P : List Wire → Type 0 = λ fs. Flagging grown possible shape ands first next joined new fs n (places * 2) in
    let long : length (flags ++ flag ∷ []) ≡ suc (length flags) = length-append flags (flag ∷ []) ∙ omega arith in
    let reach : places * 2 ≡ 2 ^ length (flags ++ flag ∷ []) = ap (λ p. p * 2) before.places_are ∙ sym (pow-suc 2 (length flags)) ∙ ap (λ k. 2 ^ k) (sym long) in
    subst P (sym pushed) (record {
      grows = grows_then grown possible shape first now next before.grows grows;
      so_far = record {
        each = λ k f is. ⊎_elim
            (λ (old : slice_get flags k ≡ Some f). carried_on grown possible shape now next f n _ grows (before.so_far.each k f old))
            (λ (last : (k ≡ length flags) × (flag ≡ f)).
            let Q : Wire → Type 0 = λ w. Carries (possible next) (shape next) w n (λ v. reaching_lanes (2 ^ k) (words v joined)) in
            let R : ℕ → Type 0 = λ i. Carries (possible next) (shape next) flag n (λ v. reaching_lanes (2 ^ i) (words v joined)) in
            subst Q last.1 (subst R (sym last.0) (carried_on grown possible shape now next flag n _ grows before.next)))
            (pushed_cases flags flag f k is);
      };
      next = record {
        made = made.made;
        lanes = made.lanes ∙ before.next.lanes;
        value = λ v possible_next.
            made.value v possible_next
            ∙ ap (further_lanes places) (before.next.value v (grows.within v possible_next))
            ∙ ap (λ p. further_lanes places (reaching_lanes p (words v joined))) (sym before.places_are)
            ∙ flags_go_on places (words v joined)
            ∙ ap (λ p. reaching_lanes p (words v joined)) reach;
      };
      places_are = reach;
      fewest = λ levels enough. omega (arith, long, one_more grown possible shape ands first now joined flag flags n places before below levels enough);
      spent =
          let all : length (flags ++ flag ∷ []) * n ≡ length flags * n + n = ap (λ k. k * n) long ∙ omega arith in
          omega (arith, before.spent, cost, before.next.lanes, all);
    })

-- a level's number of places
pub reach_of : (level : ℕ) → level < 32 → 1 * 2 ^ level % 2 ^ 32 ≡ 2 ^ level
reach_of level below =
    let few : 2 ^ level ≤ 2 ^ 31 = pow-le-pow_right {n = 2} (omega arith) {i = level} {j = 31} (omega arith) in
    omega (arith, few)

-- a scan before its first level
pub scan_begins : {S : Type 0} (grown : S → S → Type 0) (possible : S → Environment → Type 0) (shape : S → List ℕ) (ands : S → ℕ)
    (first : S) (joined column : Wire) (op : ℕ → ℕ → ℕ) (n cost : ℕ)
    → grown first first → column.0 < length (shape first) → lanes_of (shape first) column ≡ n
    → Building grown possible shape ands first first column n (λ v. near_folds op (2 ^ 0) (words v joined) (words v column)) (cost * 0)
scan_begins grown possible shape ands first joined column op n cost still made wide = record {
  grows = grows_still grown possible shape first still;
  carries = record { made = made; lanes = wide; value = λ v is. folds_begin op (words v joined) (words v column) };
  spent = omega arith;
}

-- after one more level
pub scan_goes_on : {S : Type 0} (grown : S → S → Type 0) (possible : S → Environment → Type 0) (shape : S → List ℕ) (ands : S → ℕ)
    (first now next : S) (joined column flag folded new : Wire) (op : ℕ → ℕ → ℕ) (n level places cost : ℕ)
    → ((x y z : ℕ) → op (op x y) z ≡ op x (op y z))
    → ((v : Environment) → possible first v → length (words v joined) ≡ length (words v column))
    → Carries (possible first) (shape first) flag n (λ v. reaching_lanes (2 ^ level) (words v joined))
    → Building grown possible shape ands first now folded n (λ v. near_folds op (2 ^ level) (words v joined) (words v column)) (cost * level)
    → Grows grown possible shape now next
    → Carries (possible next) (shape next) new (lanes_of (shape now) folded) (λ v. further_folds op places (words v flag) (words v folded))
    → ands next ≤ ands now + cost * lanes_of (shape now) folded → places ≡ 2 ^ level
    → Building grown possible shape ands first next new n (λ v. near_folds op (2 ^ (level + 1)) (words v joined) (words v column)) (cost * (level + 1))
scan_goes_on grown possible shape ands first now next joined column flag folded new op n level places cost assoc long flags before grows made spent is =
    let some : 0 < 2 ^ level = pow_pos level in
    record {
      grows = grows_then grown possible shape first now next before.grows grows;
      carries = record {
        made = made.made;
        lanes = made.lanes ∙ before.carries.lanes;
        value = λ v possible_next.
            let possible_now = grows.within v possible_next in
            let possible_first = before.grows.within v possible_now in
            made.value v possible_next
            ∙ ap (λ p. further_folds op p (words v flag) (words v folded)) is
            ∙ ap (λ fs. further_folds op (2 ^ level) fs (words v folded)) (flags.value v possible_first)
            ∙ ap (further_folds op (2 ^ level) (reaching_lanes (2 ^ level) (words v joined))) (before.carries.value v possible_now)
            ∙ reach_doubles op assoc (2 ^ level) (words v joined) (words v column) some (long v possible_first)
            ∙ ap (λ p. near_folds op p (words v joined) (words v column)) (sym (pow-suc 2 level) ∙ ap (λ k. 2 ^ k) (sym (add-one level)));
      };
      spent =
          let all : cost * (level + 1) * n ≡ cost * level * n + cost * n = ap (λ k. k * n) (mul-add cost level 1 ∙ ap (λ k. cost * level + k) (mul-one cost)) ∙ add-mul (cost * level) cost n in
          let each : cost * lanes_of (shape now) folded ≡ cost * n = ap (λ k. cost * k) before.carries.lanes in
          omega (arith, before.spent, spent, all, each);
    }

-- the AND words of the flags and of a scan
pub scan_cost : (before mid after cost l l' n n' levels : ℕ) → mid ≤ before + levels * n → after ≤ mid + (cost + 1) * l' * n' → l' ≡ l → n' ≡ n → l ≤ levels
    → after ≤ before + (cost + 2) * levels * n
scan_cost before mid after cost l l' n n' levels flags scan same_length same_lanes few =
    let told : (cost + 1) * l' * n' ≡ (cost + 1) * l * n = ap (λ k. (cost + 1) * k * n') same_length ∙ ap (λ k. (cost + 1) * l * k) same_lanes in
    let most : (cost + 1) * l ≤ (cost + 1) * levels = mul-le-mul_left (cost + 1) few in
    let all : (cost + 1) * l * n ≤ (cost + 1) * levels * n = mul-le-mul_right n most in
    let two : cost + 2 ≡ cost + 1 + 1 = omega arith in
    let split : (cost + 2) * levels * n ≡ (cost + 1) * levels * n + levels * n =
    ap (λ k. k * levels * n) two ∙ ap (λ k. k * n) (add-mul (cost + 1) 1 levels) ∙ add-mul ((cost + 1) * levels) (1 * levels) n
    ∙ ap (λ k. (cost + 1) * levels * n + k * n) (one-mul levels) in
    omega (arith, flags, scan, told, all, split)

-- so much for each level, with one level more, and below the last one
pub one_more_level : (cost level : ℕ) → cost * (level + 1) ≡ cost * level + cost
one_more_level cost level = mul-add cost level 1 ∙ ap (λ k. cost * level + k) (mul-one cost)

pub level_within : (cost level last : ℕ) → level < last → cost * level + cost ≤ cost * last
level_within cost level last below =
    let most : cost * (level + 1) ≤ cost * last = mul-le-mul_left cost (omega arith) in
    omega (arith, most, one_more_level cost level)

-- the AND calls and the wires of the flags and of a scan
pub scan_within : (before mid after base each cost l l' levels : ℕ) → mid ≤ before + (base + each * levels) → after ≤ mid + cost * l' → l' ≡ l → l ≤ levels
    → after ≤ before + (base + (cost + each) * levels)
scan_within before mid after base each cost l l' levels flags scan same few =
    let most : cost * l' ≤ cost * levels = mul-le-mul_left cost (omega (arith, same)) in
    omega (arith, flags, scan, most, add-mul cost each levels)
