use Rattle.std.proofs.Common.{◌≡◌, ◌+◌, ◌-◌, drop, take, length, arith, length-drop}
use Rattle.std.proofs.lemmas.List.{take_all}
use Rattle.query_tokens.proofs.LineCuts.{run, lines_of-cut, lines_of-last}
use Rattle.query_tokens.proofs.lines.split_line.Goals as goal

pub returns-then-len-text-clause-lines : goal.returns-then-len-text-clause-lines
returns-then-len-text-clause-lines c =
    let text = c.args.text.now in
    let n : c.bytes_to_line_feed-len.result ≡ run text = c.bytes_to_line_feed-len.ensures in
    let rest = drop (run text + 1) text in
    let whole : take (length text - (run text + 1)) rest ≡ rest = take_all _ rest (omega (arith, length-drop (run text + 1) text)) in
    rw (c.without_return.ensures.value, n, whole) (lines_of-cut text (omega (arith, n)))

pub returns-else-len-text-clause-lines : goal.returns-else-len-text-clause-lines
returns-else-len-text-clause-lines c = lines_of-last c.args.text.now (omega (arith, c.bytes_to_line_feed-len.ensures))
