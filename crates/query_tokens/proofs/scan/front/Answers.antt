use Rattle.std.specs.Char.{is_ascii_digit}
use Rattle.query_tokens.proofs.Digits.{list_all-front}
use Rattle.query_tokens.proofs.scan.front.Goals as goal

pub number_token-requires : goal.number_token-requires
number_token-requires c = rw c.digit_run-len.ensures (list_all-front is_ascii_digit c.args.bytes.now)
