use Rattle.std.proofs.Common.{◌≡◌, ◌+◌, ◌<◌, List, ℕ, [], ◌∷◌, ◌++◌, Bor, map, take, drop, length, get_or, sym, ap, ◌∙◌, arith, add-one, length-append}
use Rattle.std.specs.List.{flat_map}
use Rattle.std.proofs.Math.Seq.{drop-append_seam, drop-cons, take-append_seam}
use Rattle.std.proofs.lemmas.List.{length-map, map_more, map_push}
use Rattle.plain_operators.specs.Columns.{cut, word_at}
use Rattle.listed.specs.Lists.{lent}
use Rattle.plain_operators.proofs.cut.lend.Goals as goal

-- the words of the rows from a place on are that row's and then those behind
next_words : (f : List ℕ → List ℕ) (rows : List (Bor (List ℕ))) (i : ℕ) (d : Bor (List ℕ)) → i < length rows
    → flat_map f (lent (drop i rows)) ≡ f (get_or rows i d).now ++ flat_map f (lent (drop (i + 1) rows))
next_words f rows i d below = rw add-one (ap (λ l. flat_map f (lent l)) (drop-cons rows i d below))

pub split_at-requires : goal.split_at-requires
split_at-requires c =
    let rows = c.args.rows.now in
    let columns = c.args.columns.now in
    let none : Bor (List ℕ) = record { ref_ptr = (0, 0); now = [] } in
    let row = get_or rows c.loop-row._row-index none in
    let all = ap length (c.loop-row.invariant.left ∙ next_words (cut columns) rows c.loop-row._row-index none c.loop-row-test.true) in
    let wide = length-map columns (λ column. word_at column row.now) in
    omega (arith, all, wide, length-append (cut columns row.now) (flat_map (cut columns) (lent (drop (c.loop-row._row-index + 1) rows))))

pub loop-row-preserved : goal.loop-row-preserved
loop-row-preserved c =
    let now = λ (row : Bor (List ℕ)). row.now in
    let rows = c.args.rows.now in
    let columns = c.args.columns.now in
    let place = c.loop-row._row-index in
    let none : Bor (List ℕ) = record { ref_ptr = (0, 0); now = [] } in
    let row = get_or rows place none in
    let one = cut columns row.now in
    let others = flat_map (cut columns) (lent (drop (place + 1) rows)) in
    let all : c.loop-row.rest.now ≡ one ++ others = c.loop-row.invariant.left ∙ next_words (cut columns) rows place none c.loop-row-test.true in
    let wide : length columns ≡ length one = sym (length-map columns (λ column. word_at column row.now)) in
    let first : c.split_at.result.0.now ≡ one = c.split_at.ensures.front ∙ (λ i. take (wide i) (all i)) ∙ take-append_seam one others in
    let behind : c.split_at.result.1.now ≡ others = c.split_at.ensures.back ∙ (λ i. drop (wide i) (all i)) ∙ drop-append_seam one others in
    record {
      made = ap lent c.in_ok-push.ensures.items ∙ map_push now c.loop-row.cut.items c.split_at.result.0 ∙ (λ i. c.loop-row.invariant.made i ++ first i ∷ [])
          ∙ sym (map_push (cut columns) (lent (take place rows)) row.now) ∙ ap (map (cut columns)) (sym (map_more now rows place none c.loop-row-test.true));
      left = behind;
    }
