use Rattle.std.proofs.Common.{◌≡◌, ℕ, ◌+◌, ◌*◌, ◌<◌, ◌^◌, List, ◌++◌, length, length-append, sym, ap, ◌∙◌, add-one, arith}
use Rattle.std.proofs.Math.Nat.{suc-mul}
use Rattle.std.proofs.lemmas.List.Elements.{All-append}
use Rattle.tables.specs.Content.{Content, with_row}
use Rattle.tables.specs.Table.{rows_cut}
use Rattle.tables.proofs.Cut.{rows_cut-push}
use Rattle.words.specs.declared.column.Column.{Column}
use Rattle.tables.proofs.table.Table.push.Goals as goal

-- the cells with a row behind them are the table with that row
pushed : (columns : List Column) (count more : ℕ) (cells after row : List ℕ) (table : Content)
    → record { columns = columns; rows = rows_cut (length columns) count cells } ≡ table
    → length cells ≡ count * length columns → length row ≡ length table.columns → more ≡ count + 1 → after ≡ cells ++ row
    → record { columns = columns; rows = rows_cut (length columns) more after } ≡ with_row table row
pushed columns count more cells after row table is filled wide one added =
    rw (one, added, ← is, add-one)
    (ap (λ rows. let r : Content = record { columns = columns; rows = rows } in r)
    (rows_cut-push (length columns) count cells row filled (wide ∙ ap (λ t. length t.columns) (sym is))))

pub returns-clause-ok : goal.returns-clause-ok
returns-clause-ok c =
    pushed _ _ _ _ _ _ _ c.self.view_is c.self.invariant.full c.requires (grind arith) c.in_ok-push_words.ensures.added

-- a row's words behind the cells fill a table of one row more
filled : (columns : List Column) (count more : ℕ) (cells after row : List ℕ) → length cells ≡ count * length columns → length row ≡ length columns → more ≡ count + 1
    → after ≡ cells ++ row → length after ≡ more * length columns
filled columns count more cells after row full wide one added =
    rw (added, one, add-one) (length-append cells row ∙ omega (arith, full, wide, suc-mul count (length columns)))

pub invariant_of-self-2 : goal.invariant_of-self-2
invariant_of-self-2 c =
    let wide : length c.args.row.now ≡ length c.self.inside.columns.items = c.requires ∙ ap (λ t. length t.columns) (sym c.self.view_is) in
    let added = c.in_ok-push_words.ensures.added in
    record {
      full = filled c.self.inside.columns.items c.self.inside.count c.in_ok-count.count c.self.inside.cells.items c.push_words.new.cells.items c.args.row.now c.self.invariant.full wide (grind arith) added;
      words = rw added (All-append (λ word. word < 2 ^ 64) c.self.inside.cells.items c.args.row.now c.self.invariant.words c.in_ok-push_words.ensures.words);
    }
