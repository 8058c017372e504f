use Rattle.std.proofs.Common.{◌≡◌, sym, subst}
use Rattle.party_core.specs.declared.want.Want.TheVariants.{Turn}
use Rattle.party_core.specs.Core.{want_of}
use Rattle.trio.specs.Held.{links_of, running}
use Rattle.trio.specs.Running.{core_at}
use Rattle.trio.proofs.Standing.{nothing_for_itself, turned_or_kept}
use Rattle.trio.proofs.trio.Trio.make_turn.Goals as goal

pub turn_at-requires-clause-apart : goal.turn_at-requires-clause-apart
turn_at-requires-clause-apart g c =
    let want = subst (λ r. want_of g.T.Task.answer (core_at c.args.party r) ≡ Turn) (sym c.self.view_is) c.requires in
    nothing_for_itself g.T.Task.accepts g.T.Task.answer c.runs_keep.ensures (running c.self.inside.cores c.self.inside.sent) c.self.invariant c.args.party want c.link_laws.ensures.apart

pub invariant_of-self : goal.invariant_of-self
invariant_of-self g c =
    let want = subst (λ r. want_of g.T.Task.answer (core_at c.args.party r) ≡ Turn) (sym c.self.view_is) c.requires in
    turned_or_kept g.T.Task.accepts g.T.Task.answer c.runs_keep.ensures (running c.self.inside.cores c.self.inside.sent) c.self.invariant c.args.party want c.turn_at.result c.turn_at.new.cores
    (links_of c.turn_at.new.sent) c.turn_at.ensures.cores c.turn_at.ensures.sent c.turn_at.ensures.kept_cores c.turn_at.ensures.kept_sent
