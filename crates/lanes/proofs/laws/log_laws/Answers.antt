use Rattle.lanes.proofs.Logarithms.{is_least_log, log_counts_doublings, log_of_numbers}
use Rattle.lanes.proofs.laws.log_laws.Goals as goal

pub returns : goal.returns
returns c = record { least = is_least_log; numbers = log_of_numbers; doublings = log_counts_doublings }
