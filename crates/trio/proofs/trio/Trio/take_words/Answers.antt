use Rattle.std.proofs.Common.{◌≡◌, true, length, ap, sym, subst, arith}
use Rattle.std.specs.Prelude.{nat_le, if◌then◌else◌}
use Rattle.step_lists.specs.Layout.{party_of}
use Rattle.party_core.specs.declared.want.Want.TheVariants.{Words}
use Rattle.party_core.specs.Core.{want_of}
use Rattle.trio.specs.Held.{running}
use Rattle.trio.specs.declared.stepped.Stepped.TheVariants.{Moved, Waits}
use Rattle.trio.specs.Running.{core_at, waiting_on}
use Rattle.trio.proofs.Standing.{orders_are_fine, took_or_kept, enough_wait}
use Rattle.trio.proofs.trio.Trio.take_words.Goals.{in-Ok, in-Err-Memory}
use Rattle.trio.proofs.trio.Trio.take_words.Goals as goal

pub unreachable-requires : goal.unreachable-requires
unreachable-requires g c =
    let want = subst (λ r. want_of g.T.Task.answer (core_at c.args.party r) ≡ Words c.args.source c.args.count) (sym c.self.view_is) c.requires in
    let taken : c.len-taken.result ≡ length c.received.result.now.items = omega (arith, c.len-taken.ensures, c.received.result.now.ok.0) in
    let broken = rw c.in-Err-NotOrder.field-0-is at c.in-Err-NotOrder.ensures in
    orders_are_fine g.T.Task.accepts g.T.Task.answer c.runs_keep.ensures (running c.self.inside.cores c.self.inside.sent) c.self.invariant c.args.party c.args.source c.args.count c.len-taken.result
    c.party_of.result c.between.result.now c.received.result.now.items c.at.result.now want c.party_of.ensures c.between.ensures c.at.ensures c.received.ensures taken c.if-waiting-count.false broken.fault

pub invariant_of-self : goal.invariant_of-self
invariant_of-self g c =
    let want = subst (λ r. want_of g.T.Task.answer (core_at c.args.party r) ≡ Words c.args.source c.args.count) (sym c.self.view_is) c.requires in
    let taken : c.len-taken.result ≡ length c.received.result.now.items = omega (arith, c.len-taken.ensures, c.received.result.now.ok.0) in
    took_or_kept g.T.Task.accepts g.T.Task.answer c.runs_keep.ensures (running c.self.inside.cores c.self.inside.sent) c.self.invariant c.args.party c.args.source c.args.count c.len-taken.result
    c.party_of.result c.between.result.now c.received.result.now.items c.at.result.now want c.party_of.ensures c.between.ensures c.at.ensures c.received.ensures taken c.if-waiting-count.false
    c.take_at.result c.take_at.new.cores c.take_at.ensures.took c.take_at.ensures.kept

pub returns-clause-stepped : goal.returns-clause-stepped
returns-clause-stepped g c =
    let want = subst (λ r. want_of g.T.Task.answer (core_at c.args.party r) ≡ Words c.args.source c.args.count) (sym c.self.view_is) c.requires in
    let taken : c.len-taken.result ≡ length c.received.result.now.items = omega (arith, c.len-taken.ensures, c.received.result.now.ok.0) in
    let enough = enough_wait g.T.Task.accepts g.T.Task.answer c.runs_keep.ensures (running c.self.inside.cores c.self.inside.sent) c.self.invariant c.args.party c.args.source c.args.count c.len-taken.result
    c.party_of.result c.between.result.now c.received.result.now.items c.at.result.now want c.party_of.ensures c.between.ensures c.at.ensures c.received.ensures taken c.if-waiting-count.false in
    let shown = subst (λ r. nat_le c.args.count (length (waiting_on (party_of c.args.source) c.args.party r)) ≡ true) c.self.view_is enough in
    elim c.match-take_at.branch [
      | in-Ok w ↦ rw w.result-is (ap (λ b. if b then Moved else Waits c.args.source) (sym shown))
      | in-Err-Memory w ↦ rw w.result-is tt
    ]
