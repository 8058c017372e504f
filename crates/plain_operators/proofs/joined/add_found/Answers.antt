use Rattle.std.proofs.Common.{◌≡◌, ℕ, ◌<◌, List, ◌++◌, Bor, Vec, Global, OnOk, map, length, subst, sym, ap, ◌∙◌}
use Rattle.std.specs.List.{All}
use Rattle.std.proofs.lemmas.List.Elements.{All-same}
use Rattle.plain_operators.specs.Columns.{cut}
use Rattle.plain_operators.specs.Limits.{first_of, left_of}
use Rattle.plain_operators.specs.Operators.{joined_words}
use Rattle.plain_operators.specs.Places.{places_with, row_at}
use Rattle.plain_operators.proofs.Limits.{All-first_of, first_of-map}
use Rattle.plain_operators.proofs.Picks.{places_below}
use Rattle.plain_operators.proofs.joined.add_found.Goals as goal

pub add_joined-requires-clause-within : goal.add_joined-requires-clause-within
add_joined-requires-clause-within c =
    let P : ℕ → Type 0 = λ place. place < length c.args.rights.now in
    let limit = c.left_of.result in
    let places = c.places.result.now in
    let all : All P (places_with c.args.index.now c.deref.result.now) = subst (λ n. All (λ place. place < n) (places_with c.args.index.now c.deref.result.now)) c.requires.indexed (places_below c.args.index.now c.deref.result.now) in
    All-same P c.first_of-places.result.now (first_of limit places) c.first_of-places.ensures (All-first_of limit P places (All-same P places (places_with c.args.index.now c.deref.result.now) c.places.ensures all))

pub returns : goal.returns
returns c =
    let rights = map (λ (row : Bor (List ℕ)). row.now) c.args.rights.now in
    let lefts = c.args.left_keys.now in
    let left = c.args.left.now in
    let joined = λ (place : ℕ). joined_words lefts c.args.right_keys.now left (row_at rights place) in
    let index = c.args.index.now in
    let key : c.deref.result.now ≡ cut lefts left = c.deref.ensures.value ∙ c.in_ok-add_cut.ensures ∙ ap (λ l. l ++ cut lefts left) c.new-key.ensures.items in
    let found : c.first_of-places.result.now ≡ first_of (left_of c.args.limit c.len.result) (places_with index (cut lefts left)) =
    c.first_of-places.ensures ∙ (λ i. first_of (c.left_of.ensures i) ((c.places.ensures ∙ ap (places_with index) key) i)) in
    let made = ap (map joined) found ∙ sym (first_of-map (left_of c.args.limit c.len.result) joined (places_with index (cut lefts left)))
    ∙ ap (λ n. first_of (left_of c.args.limit n) (map joined (places_with index (cut lefts left)))) c.len.ensures in
    let listed = λ (row : Vec ℕ Global). row.items in
    subst (λ l. OnOk c.add_joined.result (map listed c.add_joined.new.made.items ≡ map listed c.args.made.now.items ++ l)) made c.add_joined.ensures
