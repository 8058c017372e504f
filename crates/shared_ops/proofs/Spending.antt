-- The AND words of tests, one after the other.
use Rattle.std.proofs.Common.{◌≡◌, ℕ, ◌+◌, ◌*◌, ◌<◌, ◌≤◌, List, length, take, get_or, sym, ap, ◌∙◌, arith}
use Rattle.std.proofs.Math.Nat.{mul-add, mul-le-mul_left, mul_comm}
use Rattle.std.proofs.lemmas.List.Sums.{sum-map, sum_by-take-le, sum_by_more}
use Rattle.plain_operators.specs.declared.item.Test.{Test}
use Rattle.shared_ops.specs.Costs.{comparison_cost, tests_cost}

more_tests : (tests : List Test) (i : ℕ) (d : Test) → i < length tests → tests_cost (take (i + 1) tests) ≡ tests_cost (take i tests) + (comparison_cost ((get_or tests i d).comparison) + 1)
more_tests tests i d h =
    let each = λ (test : Test). comparison_cost test.comparison + 1 in
    sum-map each (take (i + 1) tests) ∙ sum_by_more each tests i d h ∙ ap (λ n. n + each (get_or tests i d)) (sym (sum-map each (take i tests)))

pub tests_go_on : (rows first now next : ℕ) (tests : List Test) (i : ℕ) (d : Test) → i < length tests → now ≤ first + rows * tests_cost (take i tests)
    → next ≤ now + (comparison_cost ((get_or tests i d).comparison) + 1) * rows → next ≤ first + rows * tests_cost (take (i + 1) tests)
tests_go_on rows first now next tests i d h before paid =
    let one = comparison_cost ((get_or tests i d).comparison) + 1 in
    let so_far = tests_cost (take i tests) in
    let split : rows * tests_cost (take (i + 1) tests) ≡ rows * so_far + one * rows = ap (λ n. rows * n) (more_tests tests i d h) ∙ mul-add rows so_far one ∙ ap (λ n. rows * so_far + n) (mul_comm rows one) in
    omega (arith, before, paid, split)

pub tests_at_most : (rows first next : ℕ) (tests : List Test) (i : ℕ) → next ≤ first + rows * tests_cost (take i tests) → next ≤ first + rows * tests_cost tests
tests_at_most rows first next tests i paid =
    let each = λ (test : Test). comparison_cost test.comparison + 1 in
    let fewer : tests_cost (take i tests) ≤ tests_cost tests = omega (arith, sum-map each (take i tests), sum-map each tests, sum_by-take-le each tests i) in
    let told : rows * tests_cost (take i tests) ≤ rows * tests_cost tests = mul-le-mul_left rows fewer in
    omega (arith, paid, told)
