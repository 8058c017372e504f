use Rattle.std.proofs.Common.{◌≡◌, sym, ap, ◌∙◌}
use Rattle.query_graph.specs.Parties.{has}
use Rattle.trust_sets.specs.Known.{column_set, known_at}
use Rattle.trust_sets.proofs.Steps.{untrusted_found, untrusted_trusted, untrusted_unneeded}
use Rattle.trust_sets.proofs.check.untrusted_column.Goals as goal
use Rattle.trust_sets.proofs.check.untrusted_column.Goals.{else-is_needed-via-then-is_needed+else-not-contains, else-is_needed-via-else-is_needed}

pub returns-then-not-contains : goal.returns-then-not-contains
returns-then-not-contains c =
    let source = known_at c.args.trust.now.known c.args.source in
    let column = c.loop-column.column in
    let has_it : c.contains.result ≡ has (column_set source column) c.args.party = c.contains.ensures ∙ ap (λ s. has s c.args.party) c.trust_of.ensures in
    let needed = sym c.is_needed.ensures ∙ c.if-is_needed.true in
    let untrusted = sym has_it ∙ c.if-not-contains.true in
    sym (c.loop-column.invariant ∙ untrusted_found c.args.shape.now c.args.right source c.args.party column c.args.columns.now c.loop-column-test.true needed untrusted)

pub loop-column-preserved : goal.loop-column-preserved
loop-column-preserved c =
    let source = known_at c.args.trust.now.known c.args.source in
    let column = c.loop-column.column in
    elim c.else-is_needed.branch [
      | else-is_needed-via-then-is_needed+else-not-contains w ↦
          let has_it : w.contains.result ≡ has (column_set source column) c.args.party = w.contains.ensures ∙ ap (λ s. has s c.args.party) w.trust_of.ensures in
          let needed = sym c.is_needed.ensures ∙ w.if-is_needed.true in
          let trusted = sym has_it ∙ w.if-not-contains.false in
          c.loop-column.invariant ∙ untrusted_trusted c.args.shape.now c.args.right source c.args.party column c.args.columns.now c.loop-column-test.true needed trusted
      | else-is_needed-via-else-is_needed w ↦
          let unneeded = sym c.is_needed.ensures ∙ w.if-is_needed.false in
          c.loop-column.invariant ∙ untrusted_unneeded c.args.shape.now c.args.right source c.args.party column c.args.columns.now c.loop-column-test.true unneeded
    ]
