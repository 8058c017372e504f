-- The AND calls of lists of parts, one after the other, and of aggregates.
use Rattle.std.proofs.Common.{◌≡◌, ℕ, ◌+◌, ◌<◌, ◌≤◌, List, length, map, take, sum, get_or, sym, ap, ◌∙◌, arith}
use Rattle.std.proofs.lemmas.List.Sums.{sum-map, sum_by-take-le, sum_by_more}
use Rattle.plain_operators.specs.declared.aggregate.Aggregate.{Aggregate}
use Rattle.shared_ops.specs.Rounds.{aggregates_calls}

one_more : {A : Type 0} (each : A → ℕ) (parts : List A) (i : ℕ) (d : A) → i < length parts → sum (map each (take (i + 1) parts)) ≡ sum (map each (take i parts)) + each (get_or parts i d)
one_more each parts i d h = sum-map each (take (i + 1) parts) ∙ sum_by_more each parts i d h ∙ ap (λ n. n + each (get_or parts i d)) (sym (sum-map each (take i parts)))

pub calls_go_on : {A : Type 0} (each : A → ℕ) (parts : List A) (i : ℕ) (d : A) (first now next : ℕ) → i < length parts → now ≤ first + sum (map each (take i parts))
    → next ≤ now + each (get_or parts i d) → next ≤ first + sum (map each (take (i + 1) parts))
calls_go_on each parts i d first now next h before more = omega (arith, before, more, one_more each parts i d h)

pub calls_at_most : {A : Type 0} (each : A → ℕ) (parts : List A) (i : ℕ) (first next : ℕ) → next ≤ first + sum (map each (take i parts)) → next ≤ first + sum (map each parts)
calls_at_most each parts i first next called = omega (arith, called, sum-map each (take i parts), sum-map each parts, sum_by-take-le each parts i)

pub aggregates_by_rows : (aggregates : List Aggregate) (rows other : ℕ) → rows ≡ other → aggregates_calls aggregates rows ≡ aggregates_calls aggregates other
aggregates_by_rows aggregates rows other same = ap (aggregates_calls aggregates) same
