use Rattle.tapes.proofs.NeedLemmas.{fits_by_place, fits_of_parts, fits_or_first_unfit}
use Rattle.tapes.proofs.laws.need_laws.Goals as goal

pub returns : goal.returns
returns c = record { parts = fits_of_parts; places = fits_by_place; unfit = fits_or_first_unfit }
