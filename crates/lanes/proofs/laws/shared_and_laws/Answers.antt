use Rattle.lanes.proofs.MaskedAnd.{masked_and_of_shares, masks_absorb, opened_goes_round, third_mask_is_apart}
use Rattle.lanes.proofs.laws.shared_and_laws.Goals as goal

pub returns : goal.returns
returns c = record { masked = masked_and_of_shares; absorb = masks_absorb; apart = third_mask_is_apart; round = opened_goes_round }
