use Rattle.std.proofs.Common.{ℕ, ◌≤◌, ◌^◌, List, map, arith}
use Rattle.tapes.specs.Made.{key_word, IsSortedByWords}
use Rattle.tapes.specs.Order.{IsShortOrder}
use Rattle.tapes.proofs.SortedOrders.{sorted_by_words}
use Rattle.tapes.proofs.make.order_by_words.Goals as goal

short_from : (words : ℕ → ℕ) (count : ℕ) (o : List ℕ) → IsSortedByWords words count o → count ≤ 2 ^ 32 → IsShortOrder o
short_from words count o s h = record { order = s.order; short = omega (arith, s.long) }

pub from_permutation-requires : goal.from_permutation-requires
from_permutation-requires c =
    let sorted = sorted_by_words (λ i. key_word c.args.key i) c.args.count c.in_ok-worded.worded.items c.sort_unstable.new.self.items c.in_ok-worded.ensures
    c.sort_unstable.ensures.permutation c.sort_unstable.ensures.sorted in
    rw (c.in_ok-places.ensures, c.deref.ensures.value)
    (short_from (λ i. key_word c.args.key i) c.args.count (map (λ (x : ℕ × ℕ). x.1) c.sort_unstable.new.self.items) sorted (omega arith))

pub returns-clause-sorted : goal.returns-clause-sorted
returns-clause-sorted c =
    rw (c.from_permutation.ensures, c.in_ok-places.ensures, c.deref.ensures.value)
    (sorted_by_words (λ i. key_word c.args.key i) c.args.count c.in_ok-worded.worded.items c.sort_unstable.new.self.items c.in_ok-worded.ensures
    c.sort_unstable.ensures.permutation c.sort_unstable.ensures.sorted)
