use Rattle.std.proofs.Common.{ℕ, ◌<◌, List, [], map, length, get_or, arith, refl}
use Rattle.std.specs.Prelude.{All}
use Rattle.std.proofs.lemmas.List.{get_or-map, length-map}
use Rattle.wires.specs.Held.{IsValue}
use Rattle.wires.proofs.clear.Clear.value.Goals as goal

-- each of the lists that are held is a value
words_held : {V : Type 0} (items : V → List ℕ) (vs : List V) (d : V) (k : ℕ) → k < length (map items vs) → All (λ v. IsValue (items v)) vs
    → IsValue (get_or (map items vs) k [])
words_held items vs d k inside all =
    let below : k < length vs = omega (arith, length-map vs items) in
    rw (get_or-map items vs k d [] below) (all k d below)

pub returns-clause-environment : goal.returns-clause-environment
returns-clause-environment c =
    rw (← c.self.view_is) (
      λ k. get_or (map (λ v. v.items) c.self.inside.values.items) k [],
      record {
        same = λ k h. refl;
        below = λ k h. (words_held (λ v. v.items) _ c.index.result.now k h c.self.invariant).below;
        few = λ k h. (words_held (λ v. v.items) _ c.index.result.now k h c.self.invariant).few;
      },
    )
