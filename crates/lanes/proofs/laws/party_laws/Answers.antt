use Rattle.lanes.proofs.PartyLemmas.{around, at-put}
use Rattle.lanes.proofs.laws.party_laws.Goals as goal

pub returns : goal.returns
returns c = record { go_round = around; put_is_at = at-put }
