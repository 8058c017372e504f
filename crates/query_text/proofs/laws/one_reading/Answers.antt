use Rattle.query_text.proofs.WholeText.{one_query, no_query, one_place, query_or_fault}
use Rattle.query_text.proofs.laws.one_reading.Goals as goal

pub returns : goal.returns
returns c text =
    let real = c.tokens_are_real.ensures in
    (query_or_fault real text, one_query text, no_query real text, one_place real text)
