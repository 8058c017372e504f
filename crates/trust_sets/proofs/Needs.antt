-- What who knows an operator's rows has to know of its sources.
use Rattle.std.proofs.Common.{◌≡◌, ℕ, ◌&&◌, Bool, true, false, cond, nat_eq, List, [], ◌∷◌, refl}
use Rattle.std.specs.List.{All, fold}
use Rattle.std.proofs.lemmas.List.Elements.{All-cons, All-nil}
use Rattle.query_graph.specs.declared.operand.Item.{Item}
use Rattle.query_graph.specs.declared.operand.Item.TheVariants as items
use Rattle.query_graph.specs.declared.operand.Operand.{Operand}
use Rattle.query_graph.specs.declared.operand.Operand.TheVariants as operands
use Rattle.query_graph.specs.declared.operand.Test.{Test}
use Rattle.query_graph.specs.declared.parties.Parties.{Parties}
use Rattle.query_graph.specs.Parties.{common_parties, has}
use Rattle.trust_sets.specs.declared.known.Known.{Known}
use Rattle.trust_sets.specs.Known.{column_set, distinct_set, grouped_set, item_set, joined_set, met_with, met_with_key, met_with_operand, met_with_test}
use Rattle.trust_sets.specs.Laws.{KnowsBoth, KnowsColumn, KnowsItem, KnowsKey, KnowsOperand, KnowsParts, KnowsSides, KnowsTest, WhatRowsNeed}

both_true : (a b : Bool) → (a && b) ≡ true → (a ≡ true) × (b ≡ true)
both_true true true known = (refl, refl)
both_true true false known = absurd cc
both_true false b known = absurd cc

picked_both : (p q r a b d e f g : Bool) → cond p (a && b) (cond q (d && e) (cond r (f && g) false)) ≡ true → (cond p a (cond q d (cond r f false)) ≡ true) × (cond p b (cond q e (cond r g false)) ≡ true)
picked_both true q r a b d e f g known = both_true a b known
picked_both false true r a b d e f g known = both_true d e known
picked_both false false true a b d e f g known = both_true f g known
picked_both false false false a b d e f g known = absurd cc

-- who is in both sets is in each
pub in_both : (a b : Parties) (party : ℕ) → has (common_parties a b) party ≡ true → (has a party ≡ true) × (has b party ≡ true)
in_both a b party known = picked_both (nat_eq party 1) (nat_eq party 2) (nat_eq party 3) a.first b.first a.second b.second a.third b.third known

and_true : (a b : Bool) → a ≡ true → b ≡ true → (a && b) ≡ true
and_true true true first second = refl
and_true true false first second = absurd cc
and_true false b first second = absurd cc

pick_both : (p q r a b d e f g : Bool) → cond p a (cond q d (cond r f false)) ≡ true → cond p b (cond q e (cond r g false)) ≡ true → cond p (a && b) (cond q (d && e) (cond r (f && g) false)) ≡ true
pick_both true q r a b d e f g first second = and_true a b first second
pick_both false true r a b d e f g first second = and_true d e first second
pick_both false false true a b d e f g first second = and_true f g first second
pick_both false false false a b d e f g first second = absurd cc

-- who is in each set is in both
pub of_each : (a b : Parties) (party : ℕ) → has a party ≡ true → has b party ≡ true → has (common_parties a b) party ≡ true
of_each a b party first second = pick_both (nat_eq party 1) (nat_eq party 2) (nat_eq party 3) a.first b.first a.second b.second a.third b.third first second

-- a set that each step makes smaller: who is left was there, and knows each part
pub fold_met : {A : Type 0} (step : Parties → A → Parties) (Knows : A → Type 0) (party : ℕ) → ((set : Parties) (x : A) → has (step set x) party ≡ true → (has set party ≡ true) × Knows x)
    → (set : Parties) (xs : List A) → has (fold step set xs) party ≡ true → (has set party ≡ true) × All Knows xs
fold_met step Knows party each set [] known = (known, All-nil Knows)
fold_met step Knows party each set (x ∷ xs) known =
    let rest = fold_met step Knows party each (step set x) xs known in
    let here = each set x rest.0 in
    (here.0, All-cons Knows x xs here.1 rest.1)

met_operand : (party : ℕ) (source : Known) (set : Parties) (operand : Operand) → has (met_with_operand source set operand) party ≡ true → (has set party ≡ true) × KnowsOperand party source operand
met_operand party source set (operands.Column column) known = in_both set (column_set source column) party known
met_operand party source set (operands.Constant word) known = (known, tt)

met_operands : (party : ℕ) (source : Known) (set : Parties) (left right : Operand) → has (met_with_operand source (met_with_operand source set left) right) party ≡ true
    → (has set party ≡ true) × KnowsBoth party source left right
met_operands party source set left right known =
    let second = met_operand party source (met_with_operand source set left) right known in
    let first = met_operand party source set left second.0 in
    (first.0, record { first = first.1; second = second.1 })

tested : (party : ℕ) (source : Known) (tests : List Test) → has (fold (met_with_test source) source.rows tests) party ≡ true → KnowsParts party source (KnowsTest party source) tests
tested party source tests known =
    let each : (set : Parties) (test : Test) → has (met_with_test source set test) party ≡ true → (has set party ≡ true) × KnowsTest party source test = λ set test now.
    let both = met_operands party source set test.left test.right now in (both.0, record { left = both.1.first; right = both.1.second }) in
    let all = fold_met (met_with_test source) (KnowsTest party source) party each source.rows tests known in
    record { rows = all.0; each = all.1 }

pub item_needs : (party : ℕ) (source : Known) (item : Item) → has (item_set source item) party ≡ true → (has source.rows party ≡ true) × KnowsItem party source item
item_needs party source (items.Plain operand) known = met_operand party source source.rows operand known
item_needs party source (items.Computed left op right) known = met_operands party source source.rows left right known

joined : (party : ℕ) (left right : Known) (keys : List (ℕ × ℕ)) → has (joined_set left right keys) party ≡ true → KnowsSides party left right keys
joined party left right keys known =
    let each : (set : Parties) (key : ℕ × ℕ) → has (met_with_key left right set key) party ≡ true → (has set party ≡ true) × KnowsKey party left right key = λ set key now.
    let second = in_both (met_with left set key.0) (column_set right key.1) party now in
    let first = in_both set (column_set left key.0) party second.0 in (first.0, record { on_left = first.1; on_right = second.1 }) in
    let all = fold_met (met_with_key left right) (KnowsKey party left right) party each (common_parties left.rows right.rows) keys known in
    let sides = in_both left.rows right.rows party all.0 in
    record { on_left = sides.0; on_right = sides.1; each = all.1 }

grouped : (party : ℕ) (source : Known) (keys : List ℕ) → has (grouped_set source keys) party ≡ true → KnowsParts party source (KnowsColumn party source) keys
grouped party source keys known =
    let all = fold_met (met_with source) (KnowsColumn party source) party (λ set key now. in_both set (column_set source key) party now) source.rows keys known in
    record { rows = all.0; each = all.1 }

distinct : (party : ℕ) (source : Known) → has (distinct_set source) party ≡ true → KnowsParts party source (λ (set : Parties). has set party ≡ true) source.columns
distinct party source known =
    let all = fold_met common_parties (λ (set : Parties). has set party ≡ true) party (λ set column now. in_both set column party now) source.rows source.columns known in
    record { rows = all.0; each = all.1 }

pub what_rows_need : WhatRowsNeed
what_rows_need = record {
  tested = tested;
  item = λ party source item known. (item_needs party source item known).1;
  joined = joined;
  grouped = grouped;
  distinct = distinct;
}
