use Rattle.std.proofs.Common.{◌≡◌, ℕ, List, Bor, Vec, Global, map, length, subst, sym, ap, ◌∙◌}
use Rattle.std.proofs.lemmas.List.Elements.{All-same}
use Rattle.plain_operators.specs.Limits.{first_of}
use Rattle.plain_operators.specs.Operators.{joined_rows, left_keys, right_keys}
use Rattle.plain_operators.specs.Sizes.{AllWide, joined_width}
use Rattle.plain_operators.specs.Within.{HasColumns}
use Rattle.plain_meaning.specs.Fits.{width_at, widths_of}
use Rattle.plain_meaning.specs.Meaning.{rows_of}
use Rattle.plain_meaning.proofs.Widths.{All-first_of, fits_rows, wide_rows}
use Rattle.plain_meaning.proofs.made.joined.Goals as goal

pub joined_rows-requires-clause-of_left : goal.joined_rows-requires-clause-of_left
joined_rows-requires-clause-of_left c =
    let now = λ (row : Bor (List ℕ)). row.now in
    let keys = c.as_slice.result.now in
    let w = width_at (widths_of c.args.earlier.now) c.args.join.now.left in
    fits_rows (HasColumns (left_keys keys)) now c.deref.result.now (rows_of (map (λ t. t.rows) c.args.earlier.now) c.args.join.now.left) w
    (ap (map now) c.deref.ensures.value ∙ c.in_ok-lefts.ensures.rows) c.source_rows.ensures.wide (subst (λ k. HasColumns (left_keys k) w) (sym c.as_slice.ensures.value) c.requires.left_keys)

pub joined_rows-requires-clause-of_right : goal.joined_rows-requires-clause-of_right
joined_rows-requires-clause-of_right c =
    let now = λ (row : Bor (List ℕ)). row.now in
    let keys = c.as_slice.result.now in
    let w = width_at (widths_of c.args.earlier.now) c.args.join.now.right in
    fits_rows (HasColumns (right_keys keys)) now c.deref-2.result.now (rows_of (map (λ t. t.rows) c.args.earlier.now) c.args.join.now.right) w
    (ap (map now) c.deref-2.ensures.value ∙ c.in_ok-rights.ensures.rows) c.source_rows-2.ensures.wide (subst (λ k. HasColumns (right_keys k) w) (sym c.as_slice.ensures.value) c.requires.right_keys)

pub table_of_made-requires : goal.table_of_made-requires
table_of_made-requires c =
    let now = λ (row : Bor (List ℕ)). row.now in
    let listed = λ (row : Vec ℕ Global). row.items in
    let keys = c.as_slice.result.now in
    let earlier = map (λ t. t.rows) c.args.earlier.now in
    let lefts = map now c.deref.result.now in
    let rights = map now c.deref-2.result.now in
    let a = width_at (widths_of c.args.earlier.now) c.args.join.now.left in
    let b = width_at (widths_of c.args.earlier.now) c.args.join.now.right in
    let wide_left : AllWide a lefts = All-same (λ row. length row ≡ a) lefts (rows_of earlier c.args.join.now.left) (ap (map now) c.deref.ensures.value ∙ c.in_ok-lefts.ensures.rows) c.source_rows.ensures.wide in
    let wide_right : AllWide b rights = All-same (λ row. length row ≡ b) rights (rows_of earlier c.args.join.now.right) (ap (map now) c.deref-2.ensures.value ∙ c.in_ok-rights.ensures.rows) c.source_rows-2.ensures.wide in
    let w = joined_width keys a b in
    let all = joined_rows keys lefts rights in
    let limit = c.limit_of-limit.result in
    let wide : AllWide w (first_of limit all) = All-first_of limit (λ row. length row ≡ w) all (c.operators_keep_widths.ensures.joined keys a b lefts rights wide_left wide_right) in
    wide_rows listed c.deref-3.result.now (first_of limit all) w (length c.args.columns.items) (ap (map listed) c.deref-3.ensures.value ∙ c.in_ok-made.ensures) wide (ap (λ k. joined_width k a b) c.as_slice.ensures.value ∙ c.requires.same)
