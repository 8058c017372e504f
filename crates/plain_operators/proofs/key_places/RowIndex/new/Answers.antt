use Rattle.std.proofs.Common.{◌≡◌, ◌+◌, ℕ, List, [], ◌∷◌, ◌++◌, Bor, Option, Some, Vec, Global, vec_len, cond, map, take, set, length, get_or, sym, ap, subst, ◌∙◌, arith}
use Rattle.std.specs.HashMap.{HashMap, get_by}
use Rattle.std.proofs.lemmas.List.{length-map, length-take-le, map_more, map_push}
use Rattle.bags.specs.Bag.{row_eq}
use Rattle.plain_operators.specs.Index.{GathersPlaces}
use Rattle.plain_operators.proofs.KeyPlaces.{gathers_known, gathers_new}
use Rattle.plain_operators.proofs.key_places.RowIndex.new.Goals as goal
use Rattle.plain_operators.proofs.key_places.RowIndex.new.Goals.{in-Some+in_ok-add_place-in-Some, in-None+in_ok-insert-in-None+in_ok-one_place-in-None+in_ok-push-in-None}

pub add_place-requires : goal.add_place-requires
add_place-requires c =
    let listed = λ (places : Vec ℕ Global). places.items in
    let row = get_or c.args.rows.now c.loop-place.place (record { ref_ptr = (0, 0); now = [] }) in
    let found = sym c.get.ensures.value ∙ sym c.copied.ensures ∙ c.in-Some.is in
    let known = gathers_known _ _ _ row.now c.loop-place.invariant c.in-Some.number found in
    let count = length-map c.loop-place.groups.items listed in
    omega (arith, known.0, c.loop-place.groups.ok.0)

-- what the map says of a row
look : {S : Type 0} → HashMap (Bor (List ℕ)) ℕ S → List ℕ → Option ℕ
look numbers row = get_by (λ k. row_eq row k.now) numbers

vec_length : (v : Vec (Vec ℕ Global) Global) → vec_len v ≡ length v.items
vec_length v = v.ok.0

-- what was gathered, by equal maps and lists
moved : {S : Type 0} {m n : HashMap (Bor (List ℕ)) ℕ S} {gs hs rs ts : List (List ℕ)} → m ≡ n → gs ≡ hs → rs ≡ ts → GathersPlaces (look n) hs ts → GathersPlaces (look m) gs rs
moved {S} {m} {n} {gs} {hs} {rs} {ts} e f g h = subst (λ k. GathersPlaces (look k) gs rs) (sym e) (subst (λ l. GathersPlaces (look n) l rs) (sym f) (subst (GathersPlaces (look n) hs) (sym g) h))

pub loop-place-preserved : goal.loop-place-preserved
unfolding look
loop-place-preserved c =
    let listed = λ (places : Vec ℕ Global). places.items in
    let now = λ (own : Bor (List ℕ)). own.now in
    let place = c.loop-place.place in
    let row = get_or c.args.rows.now place (record { ref_ptr = (0, 0); now = [] }) in
    let rows = map now (take place c.args.rows.now) in
    let groups = map listed c.loop-place.groups.items in
    let old = c.loop-place.numbers in
    let more : map now (take (place + 1) c.args.rows.now) ≡ rows ++ row.now ∷ [] = map_more now c.args.rows.now place (record { ref_ptr = (0, 0); now = [] }) c.loop-place-test.true in
    let long : length rows ≡ place = length-map (take place c.args.rows.now) now ∙ length-take-le place c.args.rows.now (omega arith) in
    let asked = sym c.get.ensures.value ∙ sym c.copied.ensures in
    elim c.match-copied.branch [
      | in-Some+in_ok-add_place-in-Some w ↦
          let number = w.in-Some.number in
          let known = gathers_known (look old) groups rows row.now c.loop-place.invariant number (asked ∙ w.in-Some.is) in
          let made : map listed c.match-copied.groups.items ≡ set groups number (get_or groups number [] ++ length rows ∷ []) =
          ap (λ v. map listed v.items) w.groups-is ∙ w.in_ok-add_place-in-Some.ensures ∙ ap (λ n. set groups number (get_or groups number [] ++ n ∷ [])) (sym long) in
          moved w.numbers-is made more known.1
      | in-None+in_ok-insert-in-None+in_ok-one_place-in-None+in_ok-push-in-None w ↦
          let count : w.len.result ≡ length groups = w.len.ensures ∙ vec_length c.loop-place.groups ∙ sym (length-map c.loop-place.groups.items listed) in
          let updated : (other : List ℕ) → look w.insert.new.self other ≡ cond (row_eq row.now other) (Some (length groups)) (look old other) = λ other.
          w.in_ok-insert-in-None.ensures.updates.0 (record { ref_ptr = (0, 0); now = other }) ∙ ap (λ n. cond (row_eq row.now other) (Some n) (look old other)) count in
          let new = gathers_new (look old) groups rows row.now c.loop-place.invariant (look w.insert.new.self) (asked ∙ w.in-None.is) updated in
          let made : map listed c.match-copied.groups.items ≡ groups ++ (length rows ∷ []) ∷ [] =
          ap (λ v. map listed v.items) w.groups-is ∙ ap (map listed) w.in_ok-push-in-None.ensures.items ∙ map_push listed c.loop-place.groups.items w.in_ok-one_place-in-None.field-0
          ∙ ap (λ l. groups ++ l ∷ []) (w.in_ok-one_place-in-None.ensures ∙ ap (λ n. n ∷ []) (sym long)) in
          moved w.numbers-is made more new
    ]
