use Rattle.std.proofs.Common.{◌≡◌, ℕ, ◌*◌, List, ◌++◌, map, length, get_or, refl, sym, ap, ◌∙◌, subst, arith}
use Rattle.std.specs.Prelude.{All}
use Rattle.std.proofs.lemmas.List.{length-map, map-append}
use Rattle.std.proofs.lemmas.List.Elements.{All-append}
use Rattle.padded.specs.Table.{columns_at}
use Rattle.plain_operators.specs.Within.{HasColumns}
use Rattle.tapes.specs.RowLaws.{columns_applied}
use Rattle.wires.specs.Environment.{words}
use Rattle.shared_ops.specs.Joint.{IsWide, column_words}
use Rattle.shared_ops.specs.Pairs.{left_numbers, left_places, right_numbers, right_places}
use Rattle.shared_ops.proofs.Growing.{wide_on, wired_wide, wired_words}
use Rattle.shared_ops.proofs.Joining.{all_gathered, left_numbers_within, right_numbers_within}
use Rattle.shared_ops.proofs.Matching.{left_as_many, left_fit, right_as_many, right_fit}
use Rattle.shared_ops.proofs.join.joined_columns.Goals as goal

pub columns_at-requires-clause-numbers : goal.columns_at-requires-clause-numbers
columns_at-requires-clause-numbers g c =
    let keys = c.args.keys.now in
    let width = length c.args.left.now.columns.items in
    let are = c.as_slice-3.ensures.value ∙ c.in_ok-left_numbers.ensures ∙ ap (λ ws. left_numbers keys (length ws)) c.as_slice.ensures.value in
    subst (λ (ns : List ℕ). HasColumns ns width) (sym are) (left_numbers_within keys width c.requires.left_keys)

pub columns_at-requires-clause-few : goal.columns_at-requires-clause-few
columns_at-requires-clause-few g c =
    omega (arith, left_as_many c.args.left.now.rows c.args.right.now.rows c.as_slice-4.result.now c.in_ok-lefts.lefts.items c.as_slice-4.ensures.value c.in_ok-lefts.ensures, c.requires.few)

pub columns_at-requires-clause-within : goal.columns_at-requires-clause-within
columns_at-requires-clause-within g c =
    left_fit c.table_laws.ensures c.args.left.now.rows c.args.right.now.rows c.args.left.now.rows c.as_slice-4.result.now c.in_ok-lefts.lefts.items c.as_slice-4.ensures.value c.in_ok-lefts.ensures refl

pub columns_at-requires-2-clause-numbers : goal.columns_at-requires-2-clause-numbers
columns_at-requires-2-clause-numbers g c =
    let keys = c.args.keys.now in
    let width = length c.args.right.now.columns.items in
    let are = c.as_slice-5.ensures.value ∙ c.in_ok-right_numbers.ensures ∙ ap (λ ws. right_numbers keys (length ws)) c.as_slice-2.ensures.value in
    subst (λ (ns : List ℕ). HasColumns ns width) (sym are) (right_numbers_within keys width)

pub columns_at-requires-2-clause-few : goal.columns_at-requires-2-clause-few
columns_at-requires-2-clause-few g c =
    omega (arith, right_as_many c.args.left.now.rows c.args.right.now.rows c.as_slice-6.result.now c.in_ok-rights.rights.items c.as_slice-6.ensures.value c.in_ok-rights.ensures, c.requires.few)

pub columns_at-requires-2-clause-within : goal.columns_at-requires-2-clause-within
columns_at-requires-2-clause-within g c =
    right_fit c.table_laws.ensures c.args.left.now.rows c.args.right.now.rows c.args.right.now.rows c.as_slice-6.result.now c.in_ok-rights.rights.items c.as_slice-6.ensures.value c.in_ok-rights.ensures refl

pub returns-clause-wide : goal.returns-clause-wide
returns-clause-wide g c =
    let w = g.W.Wires in
    let mid = c.columns_at.new.wires in
    let new = c.columns_at-2.new.wires in
    let n = c.args.left.now.rows in
    let m = c.args.right.now.rows in
    let columns = c.in_ok-columns.columns.items in
    let others = c.in_ok-others.others.items in
    let lefts = c.as_slice-4.result.now in
    let rights = c.as_slice-6.result.now in
    let many = left_as_many n m lefts c.in_ok-lefts.lefts.items c.as_slice-4.ensures.value c.in_ok-lefts.ensures in
    let many_right = right_as_many n m rights c.in_ok-rights.rights.items c.as_slice-6.ensures.value c.in_ok-rights.ensures in
    let pushed : c.extend_from_slice.new.self.items ≡ columns ++ others = c.in_ok-extend_from_slice.ensures.items ∙ ap (λ ws. columns ++ ws) c.as_slice-7.ensures.value in
    let first : All (IsWide (w.shape new) (n * m)) columns = λ k d h.
    wide_on w.grown w.possible w.shape mid new (get_or columns k d) (n * m) c.in_ok-others.ensures.grows
    (subst (λ (count : ℕ). IsWide (w.shape mid) count (get_or columns k d)) many (wired_wide (w.possible mid) (w.shape mid) columns (length lefts) _ c.in_ok-columns.ensures.ok k d h)) in
    let second : All (IsWide (w.shape new) (n * m)) others = subst (λ (count : ℕ). All (IsWide (w.shape new) count) others) many_right (wired_wide (w.possible new) (w.shape new) others (length rights) _ c.in_ok-others.ensures.ok) in
    subst (All (IsWide (w.shape new) (n * m))) (sym pushed) (All-append (IsWide (w.shape new) (n * m)) columns others first second)

pub returns-clause-value : goal.returns-clause-value
returns-clause-value g c = λ v now.
    let w = g.W.Wires in
    let mid = c.columns_at.new.wires in
    let new = c.columns_at-2.new.wires in
    let left = c.args.left.now in
    let right = c.args.right.now in
    let keys = c.args.keys.now in
    let columns = c.in_ok-columns.columns.items in
    let others = c.in_ok-others.others.items in
    let pushed : c.extend_from_slice.new.self.items ≡ columns ++ others = c.in_ok-extend_from_slice.ensures.items ∙ ap (λ ws. columns ++ ws) c.as_slice-7.ensures.value in
    let lefts : c.as_slice-4.result.now ≡ left_places left.rows right.rows = c.as_slice-4.ensures.value ∙ c.in_ok-lefts.ensures in
    let rights : c.as_slice-6.result.now ≡ right_places left.rows right.rows = c.as_slice-6.ensures.value ∙ c.in_ok-rights.ensures in
    let of_left : c.as_slice-3.result.now ≡ left_numbers keys (length (column_words v left)) =
    c.as_slice-3.ensures.value ∙ c.in_ok-left_numbers.ensures ∙ ap (λ ws. left_numbers keys (length ws)) c.as_slice.ensures.value ∙ ap (left_numbers keys) (sym (length-map left.columns.items (words v))) in
    let of_right : c.as_slice-5.result.now ≡ right_numbers keys (length (column_words v right)) =
    c.as_slice-5.ensures.value ∙ c.in_ok-right_numbers.ensures ∙ ap (λ ws. right_numbers keys (length ws)) c.as_slice-2.ensures.value ∙ ap (right_numbers keys) (sym (length-map right.columns.items (words v))) in
    let first : map (words v) columns ≡ columns_applied (left_places left.rows right.rows) (columns_at (left_numbers keys (length (column_words v left))) (column_words v left)) =
    wired_words (w.possible mid) (w.shape mid) columns (length c.as_slice-4.result.now) _ v c.in_ok-columns.ensures.ok (c.in_ok-others.ensures.grows.within v now)
    ∙ all_gathered c.as_slice-3.result.now c.as_slice-4.result.now (column_words v left) (length columns) c.in_ok-columns.ensures.count
    ∙ (λ i. columns_applied (lefts i) (columns_at (of_left i) (column_words v left))) in
    let second : map (words v) others ≡ columns_applied (right_places left.rows right.rows) (columns_at (right_numbers keys (length (column_words v right))) (column_words v right)) =
    wired_words (w.possible new) (w.shape new) others (length c.as_slice-6.result.now) _ v c.in_ok-others.ensures.ok now
    ∙ all_gathered c.as_slice-5.result.now c.as_slice-6.result.now (column_words v right) (length others) c.in_ok-others.ensures.count
    ∙ (λ i. columns_applied (rights i) (columns_at (of_right i) (column_words v right))) in
    ap (map (words v)) pushed ∙ map-append (words v) columns others ∙ (λ i. first i ++ second i)
