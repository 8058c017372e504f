use Rattle.party_core.proofs.Standing.{Marks}
use Rattle.party_core.proofs.orders.is_order.Given as goal

abbrev pub invariant-loop-word : goal.invariant-loop-word
invariant-loop-word l = Marks l.words l.word-index l.seen.items
