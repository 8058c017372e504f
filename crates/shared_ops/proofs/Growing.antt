-- Growth step after step, and lists of wires made one after the other.
use Rattle.std.proofs.Common.{◌≡◌, ℕ, zero, suc, ◌+◌, ◌≤◌, ⊎_elim, inl, inr, List, [], ◌∷◌, ◌++◌, map, length, get_or, refl, sym, ap, ◌∙◌, subst, arith, length-append}
use Rattle.std.specs.Prelude.{◌⊎◌, Some, All, slice_get}
use Rattle.std.specs.List.{range_with_len}
use Rattle.std.proofs.lemmas.List.{get_or-map, length-map}
use Rattle.std.proofs.lemmas.List.FromFn.{fill_by_all}
use Rattle.std.proofs.lemmas.Option.{slice_get-get_or}
use Rattle.wires.specs.Environment.{Environment, words}
use Rattle.wires.specs.Growth.{Carries, Grows}
use Rattle.wires.specs.declared.wire.Wire.{Wire}
use Rattle.shared_ops.specs.Joint.{IsWide}
use Rattle.shared_ops.specs.Wired.{AreWired, Wiring}

-- a state has grown from itself
pub grows_still : {S : Type 0} (grown : S → S → Type 0) (possible : S → Environment → Type 0) (shape : S → List ℕ) (s : S) → grown s s
    → Grows grown possible shape s s
grows_still grown possible shape s still = record {
  now = still;
  follows = λ t h. h;
  within = λ v h. h;
  keeps = record { count = omega arith; lanes = λ k h. refl };
}

-- growth after growth
pub grows_then : {S : Type 0} (grown : S → S → Type 0) (possible : S → Environment → Type 0) (shape : S → List ℕ) (a b c : S)
    → Grows grown possible shape a b → Grows grown possible shape b c → Grows grown possible shape a c
grows_then grown possible shape a b c first second = record {
  now = second.follows a first.now;
  follows = λ s h. second.follows s (first.follows s h);
  within = λ v h. first.within v (second.within v h);
  keeps = record {
    count = omega (arith, first.keeps.count, second.keeps.count);
    lanes = λ k h. second.keeps.lanes k (omega (arith, first.keeps.count)) ∙ first.keeps.lanes k h;
  };
}

pub grows_four : {S : Type 0} (grown : S → S → Type 0) (possible : S → Environment → Type 0) (shape : S → List ℕ) (a b c d e : S)
    → Grows grown possible shape a b → Grows grown possible shape b c → Grows grown possible shape c d → Grows grown possible shape d e → Grows grown possible shape a e
grows_four grown possible shape a b c d e first second third fourth =
    grows_then grown possible shape a d e (grows_then grown possible shape a c d (grows_then grown possible shape a b c first second) third) fourth

-- a wire keeps its lanes and its value
pub carried_on : {S : Type 0} (grown : S → S → Type 0) (possible : S → Environment → Type 0) (shape : S → List ℕ) (old new : S) (wire : Wire) (n : ℕ) (f : Environment → List ℕ)
    → Grows grown possible shape old new → Carries (possible old) (shape old) wire n f → Carries (possible new) (shape new) wire n f
carried_on grown possible shape old new wire n f grows h = record {
  made = omega (arith, h.made, grows.keeps.count);
  lanes = grows.keeps.lanes wire.0 h.made ∙ h.lanes;
  value = λ v is. h.value v (grows.within v is);
}

pub wide_on : {S : Type 0} (grown : S → S → Type 0) (possible : S → Environment → Type 0) (shape : S → List ℕ) (old new : S) (wire : Wire) (n : ℕ)
    → Grows grown possible shape old new → IsWide (shape old) n wire → IsWide (shape new) n wire
wide_on grown possible shape old new wire n grows h = record {
  made = omega (arith, h.made, grows.keeps.count);
  wide = grows.keeps.lanes wire.0 h.made ∙ h.wide;
}

-- the same wire, said otherwise
pub restated : (possible : Environment → Type 0) (shape : List ℕ) (wire : Wire) (n m : ℕ) (f g : Environment → List ℕ) → n ≡ m → Carries possible shape wire n f
    → ((v : Environment) → possible v → f v ≡ g v) → Carries possible shape wire m g
restated possible shape wire n m f g same h is = record { made = h.made; lanes = h.lanes ∙ same; value = λ v now. h.value v now ∙ is v now }

-- an element of a list with one more behind it
pub pushed_cases : {X : Type 0} (xs : List X) (y x : X) (k : ℕ) → slice_get (xs ++ y ∷ []) k ≡ Some x → (slice_get xs k ≡ Some x) ⊎ ((k ≡ length xs) × (y ≡ x))
pushed_cases [] y x zero is = inr (refl, cc)
pushed_cases [] y x (suc k) is = absurd (cc)
pushed_cases (z ∷ xs) y x zero is = inl is
pushed_cases (z ∷ xs) y x (suc k) is = ⊎_elim (λ (old : slice_get xs k ≡ Some x). inl old) (λ (new : (k ≡ length xs) × (y ≡ x)). inr (ap suc new.0, new.1)) (pushed_cases xs y x k is)

-- ---- a list of wires

pub wiring_begins : {S : Type 0} (grown : S → S → Type 0) (possible : S → Environment → Type 0) (shape : S → List ℕ) (ands : S → ℕ) (first : S)
    (wires : List Wire) (lanes : ℕ) (value : ℕ → Environment → List ℕ) (cost : ℕ) → grown first first → wires ≡ [] → Wiring grown possible shape ands first first wires lanes value 0 cost
wiring_begins grown possible shape ands first wires lanes value cost still none =
    let P : List Wire → Type 0 = λ ws. Wiring grown possible shape ands first first ws lanes value 0 cost in
    subst P (sym none) (record {
      grows = grows_still grown possible shape first still;
      so_far = record { each = λ k wire is. absurd (cc) };
      count = refl;
      spent = omega arith;
    })

pub wiring_goes_on : {S : Type 0} (grown : S → S → Type 0) (possible : S → Environment → Type 0) (shape : S → List ℕ) (ands : S → ℕ) (first now next : S)
    (wires more : List Wire) (new : Wire) (lanes : ℕ) (value : ℕ → Environment → List ℕ) (at cost spent total : ℕ)
    → Wiring grown possible shape ands first now wires lanes value at cost → Grows grown possible shape now next
    → Carries (possible next) (shape next) new lanes (value at) → ands next ≤ ands now + spent → more ≡ wires ++ new ∷ [] → cost + spent ≤ total
    → Wiring grown possible shape ands first next more lanes value (at + 1) total
wiring_goes_on grown possible shape ands first now next wires more new lanes value at cost spent total before grows made paid pushed within =
    let P : List Wire → Type 0 = λ ws. Wiring grown possible shape ands first next ws lanes value (at + 1) total in
    subst P (sym pushed) (record {
      grows = grows_then grown possible shape first now next before.grows grows;
      so_far = record {
        each = λ k wire is. ⊎_elim
            (λ (old : slice_get wires k ≡ Some wire). carried_on grown possible shape now next wire lanes _ grows (before.so_far.each k wire old))
            (λ (last : (k ≡ length wires) × (new ≡ wire)).
            let here : at ≡ k = omega (arith, before.count, last.0) in
            let Q : Wire → Type 0 = λ w. Carries (possible next) (shape next) w lanes (value k) in
            let R : ℕ → Type 0 = λ j. Carries (possible next) (shape next) new lanes (value j) in
            subst Q last.1 (subst R here made))
            (pushed_cases wires new wire k is);
      };
      count = length-append wires (new ∷ []) ∙ omega (arith, before.count);
      spent = omega (arith, before.spent, paid);
    })

-- each of them was made
pub wired_wide : (possible : Environment → Type 0) (shape : List ℕ) (wires : List Wire) (lanes : ℕ) (value : ℕ → Environment → List ℕ) → AreWired possible shape wires lanes value → All (IsWide shape lanes) wires
wired_wide possible shape wires lanes value h k wire inside =
    let made = h.each k (get_or wires k wire) (slice_get-get_or wires k wire inside) in
    record { made = made.made; wide = made.lanes }

-- their words
pub wired_words : (possible : Environment → Type 0) (shape : List ℕ) (wires : List Wire) (lanes : ℕ) (value : ℕ → Environment → List ℕ) (v : Environment) → AreWired possible shape wires lanes value → possible v
    → map (words v) wires ≡ map (λ k. value k v) (range_with_len 0 (length wires))
wired_words possible shape wires lanes value v h is =
    fill_by_all (λ k. value k v) (map (words v) wires) (length wires) [] (length-map wires (words v))
    (λ k inside.
    let none : Wire = record { 0 = 0 } in
    get_or-map (words v) wires k none [] inside ∙ (h.each k (get_or wires k none) (slice_get-get_or wires k none inside)).value v is)
