use Rattle.party_core.proofs.Outcomes.{ok_so}
use Rattle.party_core.proofs.SteerStages.{sent_drawn, sent_private}
use Rattle.party_core.proofs.steer.steer_sends.Goals as goal

pub returns-in-1 : goal.returns-in-1
returns-in-1 c =
    ok_so _ _ c.drawn_sends.result
    (λ out sent l rows. sent_drawn c.args.party l c.args.state.now c.args.by c.args.slot c.args.moved.now c.args.portion.now c.args.rows c.party_of-by.result c.in_ok-moving.moving
    rows c.party_of-by.ensures c.in_ok-moving.ensures c.args.stage _ c.in-1.is sent) c.drawn_sends.ensures

pub returns-in-2 : goal.returns-in-2
returns-in-2 c =
    ok_so _ _ c.private_sends.result
    (λ out sent l rows. sent_private c.args.party l c.args.state.now c.args.by c.args.slot c.args.moved.now c.args.portion.now c.args.rows c.party_of-by.result c.in_ok-moving.moving
    rows c.party_of-by.ensures c.in_ok-moving.ensures c.args.stage c.slot-secret.result.now _ c.in-2.is c.slot-secret.ensures sent) c.private_sends.ensures
