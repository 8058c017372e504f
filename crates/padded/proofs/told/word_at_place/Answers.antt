use Rattle.std.proofs.Common.{ap, ◌∙◌, get_or}
use Rattle.padded.proofs.SortedPlaces.{word_there}
use Rattle.padded.proofs.told.word_at_place.Goals as goal

pub returns-in-Some : goal.returns-in-Some
returns-in-Some c =
    let found = c.index-columns-column.result in
    let lookup = c.in-Some.ensures.lookup in
    c.word_in.ensures ∙ ap (λ words. get_or words c.in-Some.place.now 0) c.as_slice.ensures.value
    ∙ word_there c.args.columns.now c.args.column found c.args.places.now c.args.number c.in-Some.place.now c.requires c.index-columns-column.is lookup.3.0 (lookup.3.1 0)
