use Rattle.std.proofs.Common.{◌≡◌, map, take}
use Rattle.listed.proofs.lent.lend.Given as goal

abbrev pub invariant-loop-list : goal.invariant-loop-list
invariant-loop-list l = map (λ list. list.now) l.made.items ≡ map (λ list. list.items) (take l.list-index l.lists)
