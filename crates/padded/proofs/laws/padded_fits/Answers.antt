use Rattle.padded.proofs.Padding.{padded_fits}
use Rattle.padded.proofs.laws.padded_fits.Goals as goal

pub returns : goal.returns
returns c = padded_fits
