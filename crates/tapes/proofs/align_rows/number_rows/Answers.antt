use Rattle.std.proofs.Common.{◌≡◌, ◌<◌, ◌+◌, ◌++◌, ◌∷◌, [], ℕ, Vec, Global, List, length, take, sym, ◌∙◌, ap, arith}
use Rattle.std.proofs.lemmas.List.{map_more, length-map, length-take-le}
use Rattle.listed.specs.Lists.{owned}
use Rattle.tapes.proofs.SortingPlaces.{numbered_more}
use Rattle.tapes.proofs.align_rows.number_rows.Goals as goal

pub loop-i-preserved : goal.loop-i-preserved
loop-i-preserved c =
    let rows = c.args.rows.now.items in
    let row = c.index.result.now in
    let within : c.loop-i.i < length rows = omega arith in
    let front : owned (take (c.loop-i.i + 1) rows) ≡ owned (take c.loop-i.i rows) ++ row.items ∷ []
    = map_more (λ (r : Vec ℕ Global). r.items) rows c.loop-i.i row within
    ∙ ap (λ (r : Vec ℕ Global). owned (take c.loop-i.i rows) ++ r.items ∷ []) (sym c.index.ensures) in
    let count : c.loop-i.i ≡ 0 + length (owned (take c.loop-i.i rows))
    = omega (arith, length-map {B = List ℕ} (take c.loop-i.i rows) (λ (r : Vec ℕ Global). r.items), length-take-le c.loop-i.i rows (omega arith)) in
    rw (front, c.in_ok-push.ensures.items)
    (numbered_more (λ pair. pair.0.now) (λ pair. pair.1) 0 (owned (take c.loop-i.i rows)) c.loop-i.keyed.items row.items (c.as_slice.result, c.loop-i.i) c.loop-i.invariant
    c.as_slice.ensures.value count)
