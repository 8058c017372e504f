use Rattle.std.proofs.Common.{◌≡◌, ℕ, ◌+◌, List, [], length, Ok, sym, ap, subst, ◌∙◌, arith}
use Rattle.std.proofs.lemmas.Result.{err_from_is_err_and}
use Rattle.query_tokens.specs.Lines.{lines_of}
use Rattle.query_text.specs.ReadText.{line_on, read_lines, GivesFault}
use Rattle.query_text.proofs.TextLoop.{before, line_over, line_stop, last_line, no_lines, more_lines, fewer_bytes, some_lines}
use Rattle.query_text.proofs.read.read_lines.Goals as goal

pub read_line-requires : goal.read_line-requires
read_line-requires c = omega (arith, c.split_line.ensures.within, c.lines.invariant.room, c.lines.invariant.positive)

pub returns-in_err-statement : goal.returns-in_err-statement
returns-in_err-statement c =
    let front = c.lines.statements.items in
    let line = c.split_line.result.0.now in
    let size : c.len.result ≡ length front = omega (arith, c.len.ensures, c.lines.statements.ok.0) in
    let p = err_from_is_err_and c.from_residual.result c.from_residual.ensures.1 in
    let rest = some_lines c.lines.rest.now line c.split_line.result.1 c.split_line.ensures.lines in
    let so_far = ap (λ (l : List (List ℕ)). before front (read_lines c.lines.number (length front) l)) (sym rest.1) ∙ c.lines.invariant.so_far in
    let fault = subst (λ (k : ℕ). GivesFault c.in_err-statement.field-0.0 (line_on c.lines.number k line)) size c.in_err-statement.ensures in
    rw (p.1, p.2) (line_stop c.in_err-statement.field-0.0 front c.lines.number line rest.0 (read_lines 1 0 (lines_of c.args.text.now)) fault so_far)

pub returns-in-None : goal.returns-in-None
returns-in-None c =
    let front = c.lines.statements.items in
    let line = c.split_line.result.0.now in
    let size : c.len.result ≡ length front = omega (arith, c.len.ensures, c.lines.statements.ok.0) in
    let rest = no_lines c.lines.rest.now line c.split_line.result.1 c.in-None.is c.split_line.ensures.lines in
    let so_far = ap (λ (l : List (List ℕ)). before front (read_lines c.lines.number (length front) l)) (sym rest) ∙ c.lines.invariant.so_far in
    let gives = subst (λ (k : ℕ). line_on c.lines.number k line ≡ Ok c.in_ok-statement.statement) size c.in_ok-statement.ensures in
    let over = line_over front c.lines.number line [] c.in_ok-statement.statement c.add.new.statements.items (read_lines 1 0 (lines_of c.args.text.now)) gives c.in_ok-add.ensures so_far in
    rw c.from_vec.ensures (last_line c.add.new.statements.items (c.lines.number + 1) (read_lines 1 0 (lines_of c.args.text.now)) over)

pub lines-preserved : goal.lines-preserved
lines-preserved c =
    let front = c.lines.statements.items in
    let line = c.split_line.result.0.now in
    let size : c.len.result ≡ length front = omega (arith, c.len.ensures, c.lines.statements.ok.0) in
    let rest = more_lines c.lines.rest.now line c.split_line.result.1 c.in-Some.more c.in-Some.is c.split_line.ensures.lines in
    let fewer = fewer_bytes c.lines.rest.now line c.split_line.result.1 c.in-Some.more c.in-Some.is c.split_line.ensures.shorter in
    let so_far = ap (λ (l : List (List ℕ)). before front (read_lines c.lines.number (length front) l)) (sym rest) ∙ c.lines.invariant.so_far in
    let gives = subst (λ (k : ℕ). line_on c.lines.number k line ≡ Ok c.in_ok-statement.statement) size c.in_ok-statement.ensures in
    record {
      so_far = line_over front c.lines.number line (lines_of c.in-Some.more.now) c.in_ok-statement.statement c.add.new.statements.items (read_lines 1 0 (lines_of c.args.text.now)) gives c.in_ok-add.ensures so_far;
      positive = omega arith;
      room = omega (arith, fewer, c.lines.invariant.room);
    }
