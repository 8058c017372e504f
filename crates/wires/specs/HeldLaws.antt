-- The laws of growth at a `Clear`, and what one more wire does to it.
use Rattle.std.proofs.Common.{◌≡◌, ℕ, ◌+◌, ◌<◌, List, [], ◌∷◌, ◌++◌, length, get_or, refl, sym, ap, ◌∙◌, subst, arith, length-append}
use Rattle.std.proofs.Math.ListN.{get_or-map}
use Rattle.std.proofs.Math.Seq.{get_or-append_seam}
use Rattle.std.proofs.lemmas.List.{get_or_append_left, length-map}
use Rattle.std.proofs.lemmas.List.Concat.{flat_map-cons}
use Rattle.std.proofs.lemmas.List.Elements.{All-head, All-tail}
use Rattle.wires.specs.Environment.{Environment, all_words, words}
use Rattle.wires.specs.Growth.{AreMade, Carries, Grows, HasLanes, IsMade, KeepsWires, lanes_of}
use Rattle.wires.specs.Held.{Extends, Held, IsAssignment, Pushes, held_shape, spending, value_of, values_of}
use Rattle.wires.specs.declared.wire.Wire.{Wire}

pub extends_refl : (a : Held) → Extends a a
extends_refl a = record { count = omega arith; same = λ k h. refl }

pub extends_trans : (a b c : Held) → Extends a b → Extends b c → Extends a c
extends_trans a b c first second = record {
  count = omega (arith, first.count, second.count);
  same = λ k h. second.same k (omega (arith, first.count)) ∙ first.same k h;
}

-- the lanes of a wire are the length of its words
lanes_held : (a : Held) (k : ℕ) → get_or (held_shape a) k 0 ≡ length (get_or a.values k [])
lanes_held a k = get_or-map (λ (xs : List ℕ). length xs) a.values k []

count_held : (a : Held) → length (held_shape a) ≡ length a.values
count_held a = length-map a.values (λ (xs : List ℕ). length xs)

pub extends_keeps : (a b : Held) → Extends a b → KeepsWires (held_shape a) (held_shape b)
extends_keeps a b h = record {
  count = omega (arith, count_held a, count_held b, h.count);
  lanes = λ k inside. lanes_held b k ∙ ap length (h.same k (omega (arith, count_held a))) ∙ sym (lanes_held a k);
}

pub extends_possible : (a b : Held) → Extends a b → (v : Environment) → IsAssignment b v → IsAssignment a v
extends_possible a b h v is = record {
  same = λ k inside. is.same k (omega (arith, h.count)) ∙ h.same k inside;
  below = λ k inside. is.below k (omega (arith, h.count));
  few = λ k inside. is.few k (omega (arith, h.count));
}

pub assignment_fits : (a : Held) (v : Environment) (wire : Wire) → IsAssignment a v → IsMade (held_shape a) wire → HasLanes v wire (lanes_of (held_shape a) wire)
assignment_fits a v wire is made =
    let inside : wire.0 < length a.values = omega (arith, count_held a) in
    let count : length (v wire.0) ≡ lanes_of (held_shape a) wire = ap length (is.same wire.0 inside) ∙ sym (lanes_held a wire.0) in
    record {
      count = count;
      few = let few = is.few wire.0 inside in omega arith;
      below = is.below wire.0 inside;
    }

-- the record of growth, of any two states of which the second extends the first
pub grows_by : (old new : Held) → Extends old new → Grows Extends IsAssignment held_shape old new
grows_by old new h = record {
  now = h;
  follows = λ s before. extends_trans s old new before h;
  within = λ v is. extends_possible old new h v is;
  keeps = extends_keeps old new h;
}

-- a state that stayed
pub grows_same : (old new : Held) → new ≡ old → Grows Extends IsAssignment held_shape old new
grows_same old new is = grows_by old new (let P : Held → Type 0 = λ s. Extends old s in subst P (sym is) (extends_refl old))

-- one wire more
pub pushes_extends : (old new : Held) (xs : List ℕ) (wire : Wire) → Pushes old new xs wire → Extends old new
pushes_extends old new xs wire h = record {
  count = omega (arith, ap length h.values, length-append old.values (xs ∷ []));
  same = λ k inside. ap (λ vs. get_or vs k []) h.values ∙ get_or_append_left old.values (xs ∷ []) [] k inside;
}

pub pushes_carries : (old new : Held) (xs : List ℕ) (wire : Wire) (n : ℕ) (value : Environment → List ℕ) → Pushes old new xs wire → length xs ≡ n
    → ((v : Environment) → IsAssignment old v → value v ≡ xs) → Carries (IsAssignment new) (held_shape new) wire n value
pushes_carries old new xs wire n value h wide computes =
    let all : length new.values ≡ length old.values + 1 = omega (arith, ap length h.values, length-append old.values (xs ∷ [])) in
    let own : get_or new.values wire.0 [] ≡ xs = ap (λ vs. get_or vs wire.0 []) h.values ∙ ap (λ k. get_or (old.values ++ xs ∷ []) k []) h.number ∙ get_or-append_seam old.values xs [] [] in
    record {
      made = omega (arith, count_held new, h.number);
      lanes = lanes_held new wire.0 ∙ ap length own ∙ wide;
      value = λ v is. is.same wire.0 (omega (arith, h.number)) ∙ own ∙ sym (computes v (extends_possible old new (pushes_extends old new xs wire h) v is));
    }

-- spending keeps the wires
pub spending_extends : (old new : Held) (n : ℕ) → Extends old new → Extends old (spending new n)
spending_extends old new n h = record { count = h.count; same = h.same }

pub spending_carries : (new : Held) (wire : Wire) (n lanes : ℕ) (value : Environment → List ℕ) → Carries (IsAssignment new) (held_shape new) wire n value
    → Carries (IsAssignment (spending new lanes)) (held_shape (spending new lanes)) wire n value
spending_carries new wire n lanes value h = record {
  made = h.made;
  lanes = h.lanes;
  value = λ v is. h.value v (record { same = is.same; below = is.below; few = is.few });
}

-- in the one environment a wire has the words that are held
pub assignment_value : (a : Held) (v : Environment) (wire : Wire) → IsMade (held_shape a) wire → IsAssignment a v → words v wire ≡ value_of a wire
assignment_value a v wire made is = is.same wire.0 (omega (arith, count_held a))

pub value_lanes : (a : Held) (wire : Wire) → length (value_of a wire) ≡ lanes_of (held_shape a) wire
value_lanes a wire = sym (lanes_held a wire.0)

-- the same of several wires
pub assignment_values : (a : Held) (v : Environment) (wires : List Wire) → AreMade (held_shape a) wires → IsAssignment a v → all_words v wires ≡ values_of a wires
assignment_values a v [] made is = refl
assignment_values a v (wire ∷ wires) made is =
    let first = assignment_value a v wire (All-head (λ w. IsMade (held_shape a) w) wire wires made) is in
    let rest = assignment_values a v wires (All-tail (λ w. IsMade (held_shape a) w) wire wires made) is in
    flat_map-cons (words v) wire wires ∙ ap (λ xs. xs ++ all_words v wires) first ∙ ap (λ xs. value_of a wire ++ xs) rest ∙ sym (flat_map-cons (value_of a) wire wires)
