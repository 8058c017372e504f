use Rattle.std.proofs.Common.{◌≡◌, true, Ok, sym, ◌∙◌}
use Rattle.std.proofs.lemmas.Result.{err_from_is_err_and}
use Rattle.query_text.specs.Reading.{starts, after, several}
use Rattle.query_text.specs.Separators.{separates}
use Rattle.query_text.proofs.Loops.{times_ends, times_stops, times_goes_on, after_read, after_stops}
use Rattle.query_text.proofs.parser.Parser.several.Goals as goal

pub returns-then-not-at_separator : goal.returns-then-not-at_separator
returns-then-not-at_separator g c =
    let test = separates c.args.separator in
    let read = g.P.Part.read in
    rw c.from_vec.ensures (times_ends test (after test read) c.loop-part.parts.items c.left-part-end.result c.loop-part._part c.loop-part.self (several test read c.args.self.now)
    c.loop-part-test.true (sym c.at_separator.ensures ∙ c.if-not-at_separator.true) c.loop-part.invariant)

pub returns-in_err-read-2 : goal.returns-in_err-read-2
returns-in_err-read-2 g c =
    let test = separates c.args.separator in
    let read = g.P.Part.read in
    let goes : starts test c.loop-part.self ≡ true = sym c.at_separator.ensures ∙ c.if-not-at_separator.false in
    let p = err_from_is_err_and c.from_residual-in_err-read-2.result c.from_residual-in_err-read-2.ensures.1 in
    let stop = after_stops test read c.in_err-read-2.field-0.0 c.loop-part.self c.read-in-loop-part.new.parser goes (rw (← c.skip.ensures) c.in_err-read-2.ensures) in
    rw (p.1, p.2) (times_stops test (after test read) c.in_err-read-2.field-0.0 c.loop-part.parts.items c.left-part-end.result c.loop-part._part c.loop-part.self c.read-in-loop-part.new.parser
    (several test read c.args.self.now) c.loop-part-test.true goes stop c.loop-part.invariant)

pub loop-part-preserved : goal.loop-part-preserved
loop-part-preserved g c =
    let test = separates c.args.separator in
    let read = g.P.Part.read in
    let goes : starts test c.loop-part.self ≡ true = sym c.at_separator.ensures ∙ c.if-not-at_separator.false in
    let one = after_read test read c.loop-part.self (Ok (c.in_ok-read-2.field-0, c.read-in-loop-part.new.parser)) goes (rw (← c.skip.ensures) c.in_ok-read-2.ensures) in
    rw c.in_ok-push-2.ensures.items (times_goes_on test (after test read) c.loop-part.parts.items c.left-part-end.result c.loop-part._part c.loop-part.self (c.in_ok-read-2.field-0, c.read-in-loop-part.new.parser)
    (several test read c.args.self.now) c.loop-part-test.true goes one c.loop-part.invariant)
