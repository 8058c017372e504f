use Rattle.std.proofs.Common.{List, sym, ap, ◌∙◌}
use Rattle.std.specs.Prelude.{slice_index_or}
use Rattle.std.specs.List.{flat_map}
use Rattle.lanes.specs.Party.{next}
use Rattle.step_lists.specs.Part.{Pair, no_pair, part_first, part_second, part_third}
use Rattle.step_lists.specs.Seen.{same_party}
use Rattle.party_core.proofs.Outcomes.{ok_so}
use Rattle.party_core.proofs.RevealStages.{sent_second, sent_third, sent_last}
use Rattle.party_core.proofs.reveal.reveal_sends.Goals as goal

pub returns-in_ok-behind_first-in-1 : goal.returns-in_ok-behind_first-in-1
returns-in_ok-behind_first-in-1 c =
    let v = c.args.party in
    let g = c.args.portion.now in
    let n = c.args.rows in
    let x = c.in_ok-behind_first-in-1.field-0 in
    let is = c.in_ok-behind_first-in-1.ensures ∙ ap (part_first v n g) c.in_ok-moving.ensures in
    ok_so _ _ c.drawn_sends-in-1-2.result
    (λ out sent l rows. sent_second v l c.args.state.now c.args.to c.args.moved.now c.args.shown.now g n x rows c.args.stage _ c.in-1.is is sent) c.drawn_sends-in-1-2.ensures

pub returns-in_ok-behind_second-in-2 : goal.returns-in_ok-behind_second-in-2
returns-in_ok-behind_second-in-2 c =
    let v = c.args.party in
    let g = c.args.portion.now in
    let n = c.args.rows in
    let x = c.in_ok-behind_second-in-2.field-0 in
    let is = c.in_ok-behind_second-in-2.ensures ∙ ap (part_second v n g) c.in_ok-moving.ensures in
    ok_so _ _ c.drawn_sends-in-2-2.result
    (λ out sent l rows. sent_third v l c.args.state.now c.args.to c.args.moved.now c.args.shown.now g n x rows c.args.stage _ c.in-2.is is sent) c.drawn_sends-in-2-2.ensures

pub returns-in_ok-words-in-3 : goal.returns-in_ok-words-in-3
returns-in_ok-words-in-3 c l rows =
    let v = c.args.party in
    let g = c.args.portion.now in
    let shown = c.args.shown.now in
    let x = c.in_ok-third-in-3.third in
    sent_last v l c.args.state.now c.args.to c.args.moved.now shown g c.args.rows x rows c.args.stage c.party_of-in-3.result c.in_ok-words-in-3.words.items _ c.in-3.is
    (sym (c.if-same_party.ensures ∙ ap (same_party v) (c.next.ensures ∙ ap next c.party_of.ensures)))
    (c.in_ok-third-in-3.ensures ∙ ap (part_third v c.args.rows g) c.in_ok-moving.ensures)
    c.party_of-in-3.ensures
    (c.in_ok-words-in-3.ensures ∙ ap (λ (ps : List Pair). flat_map (λ k. (slice_index_or ps k no_pair).following) shown) c.pairs.ensures)
    c.to.ensures
