use Rattle.std.proofs.Common.{◌≡◌, ℕ, zero, suc, List, [], ◌∷◌, ◌<◌, ◌≤◌, length, get_or, refl, ap, sym, ◌∙◌, arith}
use Rattle.std.proofs.lemmas.Bool.Decides.{nat_tests}
use Rattle.words.specs.Columns.{names_of}
use Rattle.words.specs.declared.column.Column.{Column}
use Rattle.tables.specs.FaultText.{name_at}
use Rattle.tables.proofs.fault.column_name.Goals as goal

name_found : (columns : List Column) (i : ℕ) (column : Column) → i < length columns → column ≡ get_or columns i column → name_at (names_of columns) i ≡ column.name
name_found [] i column inside is = absurd (omega arith)
name_found (c ∷ cs) zero column inside is = ap (λ (k : Column). k.name) (sym is)
name_found (c ∷ cs) (suc i) column inside is = name_found cs i column (omega arith) is

no_name : (columns : List Column) (i : ℕ) → length columns ≤ i → name_at (names_of columns) i ≡ []
no_name [] i outside = refl
no_name (c ∷ cs) zero outside = absurd (omega arith)
no_name (c ∷ cs) (suc i) outside = no_name cs i (omega arith)

pub returns-in-Some : goal.returns-in-Some
returns-in-Some c =
    let found = c.in-Some.ensures.lookup in
    let inside : c.args.column < length c.args.columns.now = grind (arith, nat_tests) in
    c.bytes.ensures ∙ sym (name_found c.args.columns.now c.args.column c.in-Some.column.now inside found.1)

pub returns-in-None : goal.returns-in-None
returns-in-None c =
    let none = c.in-None.ensures.lookup in
    let outside : length c.args.columns.now ≤ c.args.column = grind (arith, nat_tests) in
    sym (no_name c.args.columns.now c.args.column outside)
