use Rattle.std.proofs.Common.{◌≡◌, true, sym, ◌∙◌}
use Rattle.query_text.specs.Reading.{starts}
use Rattle.query_text.specs.Forms.{is_name, name_at, concat_at}
use Rattle.query_text.proofs.Loops.{times_ends, times_goes_on}
use Rattle.query_text.proofs.parser.Parser.sources.Goals as goal

pub returns-then-not-at_name : goal.returns-then-not-at_name
returns-then-not-at_name c =
    rw c.from_vec.ensures (times_ends is_name name_at c.loop-source.sources.items 6 c.loop-source._source c.loop-source.self (concat_at c.args.self.now)
    c.loop-source-test.true (sym c.at_name.ensures ∙ c.if-not-at_name.true) c.loop-source.invariant)

pub loop-source-preserved : goal.loop-source-preserved
loop-source-preserved c =
    let goes : starts is_name c.loop-source.self ≡ true = sym c.at_name.ensures ∙ c.if-not-at_name.false in
    rw c.in_ok-push-3.ensures.items (times_goes_on is_name name_at c.loop-source.sources.items 6 c.loop-source._source c.loop-source.self (c.in_ok-name-3.field-0, c.name-in-loop-source.new.self)
    (concat_at c.args.self.now) c.loop-source-test.true goes c.in_ok-name-3.ensures c.loop-source.invariant)
