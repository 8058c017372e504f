use Rattle.std.proofs.Common.{◌*◌, length, slice_index_or, sym, ap, ◌∙◌}
use Rattle.step_lists.specs.Layout.{party_of}
use Rattle.step_lists.specs.Part.{takes_nothing}
use Rattle.party_core.specs.Holding.{takes_by, takes_in_reveal, takes_in_steer}
use Rattle.party_core.proofs.stages.takes_at.Goals as goal

pub returns-in-Reveal : goal.returns-in-Reveal
returns-in-Reveal g c =
    let v = c.args.party in
    let n = c.args.rows in
    let i = c.args.stage in
    c.reveal_takes.ensures
    ∙ ap (λ p. slice_index_or (takes_in_reveal v p (c.len.result * n) (c.len-in-Reveal.result * n)) i takes_nothing) c.party_of.ensures
    ∙ ap (λ m. slice_index_or (takes_in_reveal v (party_of c.in-Reveal.to) (m * n) (c.len-in-Reveal.result * n)) i takes_nothing) c.len.ensures
    ∙ ap (λ m. slice_index_or (takes_in_reveal v (party_of c.in-Reveal.to) (length c.in-Reveal.moved * n) (m * n)) i takes_nothing) c.len-in-Reveal.ensures
    ∙ sym (ap (λ s. slice_index_or (takes_by v s n) i takes_nothing) c.in-Reveal.is)

pub returns-in-Steer : goal.returns-in-Steer
returns-in-Steer g c =
    let v = c.args.party in
    let n = c.args.rows in
    let i = c.args.stage in
    c.steer_takes.ensures
    ∙ ap (λ p. slice_index_or (takes_in_steer v p (c.len-in-Steer.result * n) n) i takes_nothing) c.party_of-in-Steer.ensures
    ∙ ap (λ m. slice_index_or (takes_in_steer v (party_of c.in-Steer.by) (m * n) n) i takes_nothing) c.len-in-Steer.ensures
    ∙ sym (ap (λ s. slice_index_or (takes_by v s n) i takes_nothing) c.in-Steer.is)
