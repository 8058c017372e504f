use Rattle.std.proofs.Common.{◌≡◌, sym, subst}
use Rattle.conclave_top.proofs.PartyNumbers.{before_apart, next_apart}
use Rattle.conclave_top.proofs.views.view_bytes.Goals as goal

pub words_from-requires : goal.words_from-requires
words_from-requires c = subst (λ p. p ≡ c.args.party → ⊥) (sym c.next-following.ensures) (next_apart c.args.party)

pub words_from-requires-2 : goal.words_from-requires-2
words_from-requires-2 c = subst (λ p. p ≡ c.args.party → ⊥) (sym c.before-previous.ensures) (before_apart c.args.party)
