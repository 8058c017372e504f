use Rattle.std.proofs.Common.{◌≡◌, ◌*◌, ◌<◌, bit_and, length, take, get_or, sym, ap, ◌∙◌, arith}
use Rattle.std.proofs.lemmas.List.{take_all, take_more}
use Rattle.lanes.specs.Lanes.{lanewise, picked}
use Rattle.lanes.specs.Sums.{equal_word}
use Rattle.wires.specs.Environment.{words}
use Rattle.shared_ops.specs.Pairs.{left_places, right_places, table_in}
use Rattle.shared_ops.proofs.Growing.{grows_then, restated, wide_on}
use Rattle.shared_ops.proofs.Matching.{indexed_wide, indexed_words, key_paid, key_within, keys_at_most, left_as_many, left_fit, no_key, one_more_key, pair_lanes, pairs_are, right_fit, valid_paid}
use Rattle.shared_ops.proofs.matched.matched.Goals as goal

pub both_valid-requires-clause-left_places : goal.both_valid-requires-clause-left_places
both_valid-requires-clause-left_places g c =
    left_fit c.table_laws.ensures c.args.left.now.rows c.args.right.now.rows _ c.as_slice.result.now c.in_ok-lefts.lefts.items c.as_slice.ensures.value c.in_ok-lefts.ensures c.requires.left.valid.wide

pub both_valid-requires-clause-right_places : goal.both_valid-requires-clause-right_places
both_valid-requires-clause-right_places g c =
    right_fit c.table_laws.ensures c.args.left.now.rows c.args.right.now.rows _ c.as_slice-2.result.now c.in_ok-rights.rights.items c.as_slice-2.ensures.value c.in_ok-rights.ensures c.requires.right.valid.wide

pub both_valid-requires-clause-few : goal.both_valid-requires-clause-few
both_valid-requires-clause-few g c =
    omega (arith, left_as_many c.args.left.now.rows c.args.right.now.rows c.as_slice.result.now c.in_ok-lefts.lefts.items c.as_slice.ensures.value c.in_ok-lefts.ensures, c.requires.few)

pub returns-in_err-matched-clause-cost : goal.returns-in_err-matched-clause-cost
returns-in_err-matched-clause-cost g c =
    let w = g.W.Wires in
    let n = c.args.left.now.rows in
    let m = c.args.right.now.rows in
    valid_paid (n * m) (length c.args.keys.now) (w.ands c.args.wires.now) (w.ands c.both_valid.new.wires) (length c.as_slice.result.now) c.in_err-matched.ensures.cost
    (left_as_many n m c.as_slice.result.now c.in_ok-lefts.lefts.items c.as_slice.ensures.value c.in_ok-lefts.ensures)

pub loop-key-init : goal.loop-key-init
loop-key-init g c =
    let w = g.W.Wires in
    let new = c.both_valid.new.wires in
    let left = c.args.left.now in
    let right = c.args.right.now in
    let n = left.rows in
    let m = right.rows in
    let ok = c.in_ok-matched.ensures in
    let count = left_as_many n m c.as_slice.result.now c.in_ok-lefts.lefts.items c.as_slice.ensures.value c.in_ok-lefts.ensures in
    let lefts : c.as_slice.result.now ≡ left_places n m = c.as_slice.ensures.value ∙ c.in_ok-lefts.ensures in
    let rights : c.as_slice-2.result.now ≡ right_places n m = c.as_slice-2.ensures.value ∙ c.in_ok-rights.ensures in (
      record {
        grows = ok.grows;
        carries = restated (w.possible new) (w.shape new) c.in_ok-matched.matched (length c.as_slice.result.now) (n * m) _ _ count ok.ok
            (λ v now. (λ i. lanewise bit_and (picked (lefts i) (words v left.valid)) (picked (rights i) (words v right.valid))) ∙ no_key n m (table_in v left) (table_in v right));
        spent = valid_paid (n * m) 0 (w.ands c.args.wires.now) (w.ands new) (length c.as_slice.result.now) ok.cost count;
      },
      omega (arith, ok.calls),
    )

pub index-left_key-requires : goal.index-left_key-requires
index-left_key-requires g c =
    let below = key_within (λ key. key.0) c.args.keys.now (length c.args.left.now.columns.items) c.loop-key.key-index (0, 0) c.requires.left_keys c.loop-key-test.true in
    omega (arith, below, c.args.left.now.columns.ok.0)

pub index-right_key-requires : goal.index-right_key-requires
index-right_key-requires g c =
    let below = key_within (λ key. key.1) c.args.keys.now (length c.args.right.now.columns.items) c.loop-key.key-index (0, 0) c.requires.right_keys c.loop-key-test.true in
    omega (arith, below, c.args.right.now.columns.ok.0)

pub and_equal-requires-clause-matched : goal.and_equal-requires-clause-matched
and_equal-requires-clause-matched g c = record {
  made = c.loop-key.invariant.0.carries.made;
  wide = c.loop-key.invariant.0.carries.lanes
      ∙ sym (left_as_many c.args.left.now.rows c.args.right.now.rows c.as_slice-in-loop-key.result.now c.in_ok-lefts.lefts.items c.as_slice-in-loop-key.ensures.value c.in_ok-lefts.ensures);
}

pub and_equal-requires-clause-left : goal.and_equal-requires-clause-left
and_equal-requires-clause-left g c =
    let w = g.W.Wires in
    let left = c.args.left.now in
    let within = key_within (λ key. key.0) c.args.keys.now (length left.columns.items) c.loop-key.key-index (0, 0) c.requires.left_keys c.loop-key-test.true in
    (wide_on w.grown w.possible w.shape c.args.wires.now c.loop-key.wires c.index-left_key.result.now left.rows c.loop-key.invariant.0.grows
    (indexed_wide (w.shape c.args.wires.now) left.rows left.columns.items _ c.index-left_key.result.now c.index-left_key.ensures within c.requires.left.columns)).made

pub and_equal-requires-clause-right : goal.and_equal-requires-clause-right
and_equal-requires-clause-right g c =
    let w = g.W.Wires in
    let right = c.args.right.now in
    let within = key_within (λ key. key.1) c.args.keys.now (length right.columns.items) c.loop-key.key-index (0, 0) c.requires.right_keys c.loop-key-test.true in
    (wide_on w.grown w.possible w.shape c.args.wires.now c.loop-key.wires c.index-right_key.result.now right.rows c.loop-key.invariant.0.grows
    (indexed_wide (w.shape c.args.wires.now) right.rows right.columns.items _ c.index-right_key.result.now c.index-right_key.ensures within c.requires.right.columns)).made

pub and_equal-requires-clause-left_places : goal.and_equal-requires-clause-left_places
and_equal-requires-clause-left_places g c =
    let w = g.W.Wires in
    let left = c.args.left.now in
    let within = key_within (λ key. key.0) c.args.keys.now (length left.columns.items) c.loop-key.key-index (0, 0) c.requires.left_keys c.loop-key-test.true in
    let is = wide_on w.grown w.possible w.shape c.args.wires.now c.loop-key.wires c.index-left_key.result.now left.rows c.loop-key.invariant.0.grows
    (indexed_wide (w.shape c.args.wires.now) left.rows left.columns.items _ c.index-left_key.result.now c.index-left_key.ensures within c.requires.left.columns) in
    left_fit c.table_laws.ensures left.rows c.args.right.now.rows _ c.as_slice-in-loop-key.result.now c.in_ok-lefts.lefts.items c.as_slice-in-loop-key.ensures.value c.in_ok-lefts.ensures is.wide

pub and_equal-requires-clause-right_places : goal.and_equal-requires-clause-right_places
and_equal-requires-clause-right_places g c =
    let w = g.W.Wires in
    let right = c.args.right.now in
    let within = key_within (λ key. key.1) c.args.keys.now (length right.columns.items) c.loop-key.key-index (0, 0) c.requires.right_keys c.loop-key-test.true in
    let is = wide_on w.grown w.possible w.shape c.args.wires.now c.loop-key.wires c.index-right_key.result.now right.rows c.loop-key.invariant.0.grows
    (indexed_wide (w.shape c.args.wires.now) right.rows right.columns.items _ c.index-right_key.result.now c.index-right_key.ensures within c.requires.right.columns) in
    right_fit c.table_laws.ensures c.args.left.now.rows right.rows _ c.as_slice-in-loop-key-2.result.now c.in_ok-rights.rights.items c.as_slice-in-loop-key-2.ensures.value c.in_ok-rights.ensures is.wide

pub and_equal-requires-clause-few : goal.and_equal-requires-clause-few
and_equal-requires-clause-few g c =
    omega (arith, left_as_many c.args.left.now.rows c.args.right.now.rows c.as_slice-in-loop-key.result.now c.in_ok-lefts.lefts.items c.as_slice-in-loop-key.ensures.value c.in_ok-lefts.ensures, c.requires.few)

pub returns-in_err-matched-2-clause-grows : goal.returns-in_err-matched-2-clause-grows
returns-in_err-matched-2-clause-grows g c =
    let w = g.W.Wires in
    grows_then w.grown w.possible w.shape c.args.wires.now c.loop-key.wires c.and_equal.new.wires c.loop-key.invariant.0.grows c.in_err-matched-2.ensures.grows

pub returns-in_err-matched-2-clause-cost : goal.returns-in_err-matched-2-clause-cost
returns-in_err-matched-2-clause-cost g c =
    let w = g.W.Wires in
    let n = c.args.left.now.rows in
    let m = c.args.right.now.rows in
    let i = c.loop-key.key-index in
    let given = c.as_slice-in-loop-key.result.now in
    keys_at_most (n * m) i (length c.args.keys.now) (w.ands c.args.wires.now) (w.ands c.and_equal.new.wires) c.loop-key-test.true
    (key_paid (n * m) i (w.ands c.args.wires.now) (w.ands c.loop-key.wires) (w.ands c.and_equal.new.wires) (length given) c.loop-key.invariant.0.spent c.in_err-matched-2.ensures.cost
    (left_as_many n m given c.in_ok-lefts.lefts.items c.as_slice-in-loop-key.ensures.value c.in_ok-lefts.ensures))

pub loop-key-preserved : goal.loop-key-preserved
loop-key-preserved g c =
    let w = g.W.Wires in
    let old = c.args.wires.now in
    let now = c.loop-key.wires in
    let new = c.and_equal.new.wires in
    let left = c.args.left.now in
    let right = c.args.right.now in
    let keys = c.args.keys.now in
    let n = left.rows in
    let m = right.rows in
    let i = c.loop-key.key-index in
    let key = get_or keys i (0, 0) in
    let inside = c.loop-key-test.true in
    let inv = c.loop-key.invariant.0 in
    let ok = c.in_ok-matched-2.ensures in
    let given = c.as_slice-in-loop-key.result.now in
    let count = left_as_many n m given c.in_ok-lefts.lefts.items c.as_slice-in-loop-key.ensures.value c.in_ok-lefts.ensures in
    let lefts : given ≡ left_places n m = c.as_slice-in-loop-key.ensures.value ∙ c.in_ok-lefts.ensures in
    let rights : c.as_slice-in-loop-key-2.result.now ≡ right_places n m = c.as_slice-in-loop-key-2.ensures.value ∙ c.in_ok-rights.ensures in
    let in_left : key.0 < length left.columns.items = key_within (λ k. k.0) keys (length left.columns.items) i (0, 0) c.requires.left_keys inside in
    let in_right : key.1 < length right.columns.items = key_within (λ k. k.1) keys (length right.columns.items) i (0, 0) c.requires.right_keys inside in (
      record {
        grows = grows_then w.grown w.possible w.shape old now new inv.grows ok.grows;
        carries = restated (w.possible new) (w.shape new) c.in_ok-matched-2.matched (length given) (n * m) _ _ count ok.ok
            (λ v is.
            (λ x. lanewise bit_and (inv.carries.value v (ok.grows.within v is) x)
            (lanewise equal_word (picked (lefts x) (indexed_words v left.columns.items key.0 c.index-left_key.result.now c.index-left_key.ensures in_left x))
            (picked (rights x) (indexed_words v right.columns.items key.1 c.index-right_key.result.now c.index-right_key.ensures in_right x))))
            ∙ one_more_key (take i keys) key n m (table_in v left) (table_in v right)
            ∙ ap (λ ks. pair_lanes ks n m (table_in v left) (table_in v right)) (sym (take_more keys i (0, 0) inside)));
        spent = key_paid (n * m) i (w.ands old) (w.ands now) (w.ands new) (length given) inv.spent ok.cost count;
      },
      omega (arith, c.loop-key.invariant.1, ok.calls),
    )

pub returns-clause-ok : goal.returns-clause-ok
returns-clause-ok g c =
    let left = c.args.left.now in
    let right = c.args.right.now in
    let keys = c.args.keys.now in
    let n = left.rows in
    let m = right.rows in
    let inv = c.loop-key.invariant.0 in
    let all : take c.loop-key.key-index keys ≡ keys = take_all c.loop-key.key-index keys c.loop-key-test.false in
    record {
      wide = record { made = inv.carries.made; wide = inv.carries.lanes };
      value = λ v is first second. inv.carries.value v is ∙ ap (λ ks. pair_lanes ks n m (table_in v left) (table_in v right)) all ∙ pairs_are keys n m (table_in v left) (table_in v right) first second;
    }
