-- Columns whose names a table takes one after the other.
use Rattle.std.proofs.Common.{◌≡◌, ℕ, ◌+◌, ◌<◌, Bool, true, false, cond, not, List, [], ◌∷◌, ◌++◌, Option, Some, None, length, take, drop, get_or, suc, true≢false, refl, sym, ap, ◌∙◌, add-one}
use Rattle.std.proofs.Math.Seq.{drop-cons}
use Rattle.std.proofs.lemmas.List.{map-append, take_more}
use Rattle.words.specs.declared.column.Column.{Column}
use Rattle.query_graph.specs.declared.fault.GraphFault.{GraphFault}
use Rattle.query_graph.specs.declared.fault.GraphFault.TheVariants.{Taken}
use Rattle.query_graph.specs.Columns.{repeated_behind, taken_column}
use Rattle.query_graph.specs.Faults.{first_of}
use Rattle.query_graph.specs.Names.{is_among, is_column}
use Rattle.query_graph.specs.Tables.{column_names}
use Rattle.query_graph.proofs.Tables.{among_columns}

there : (b new : Bool) → new ≡ not b → new ≡ false → b ≡ true
there true new tells is = refl
there false new tells is = absurd (true≢false (sym tells ∙ is))

absent : (b new : Bool) → new ≡ not b → new ≡ true → b ≡ false
absent true new tells is = absurd (true≢false (sym is ∙ tells))
absent false new tells is = refl

-- the column at this place, behind the names of those before it
module _ (line : ℕ) (columns : List Column) (i : ℕ) (c : Column) (names : List (List ℕ)) (new : Bool) (total : Option GraphFault) (within : i < length columns) (is : c ≡ get_or columns i c)
    (has : names ≡ column_names (take i columns)) (tells : new ≡ not (is_among names c.name)) (so_far : total ≡ repeated_behind line (take i columns) (drop i columns)) where
  behind : repeated_behind line (take i columns) (drop i columns)
      ≡ first_of (taken_column line (take i columns) c) (repeated_behind line (take (i + 1) columns) (drop (i + 1) columns))
  behind =
      ap (repeated_behind line (take i columns)) (drop-cons columns i c within)
      ∙ (ap (λ before. first_of (taken_column line (take i columns) (get_or columns i c)) (repeated_behind line before (drop (suc i) columns))) (sym (take_more columns i c within))
      ∙ (ap (λ n. first_of (taken_column line (take i columns) (get_or columns i c)) (repeated_behind line (take (i + 1) columns) (drop n columns))) (sym (add-one i))
      ∙ ap (λ (d : Column). first_of (taken_column line (take i columns) d) (repeated_behind line (take (i + 1) columns) (drop (i + 1) columns))) (sym is)))

  known : is_among names c.name ≡ is_column (take i columns) c.name
  known = ap (λ all. is_among all c.name) has ∙ among_columns (take i columns) c.name

  -- its name is one of them
  pub name_repeats : new ≡ false → total ≡ Some (Taken line c.name)
  name_repeats old =
      so_far ∙ (behind
      ∙ ap (λ b. first_of (cond b (Some (Taken line c.name)) None) (repeated_behind line (take (i + 1) columns) (drop (i + 1) columns))) (sym known ∙ there _ new tells old))

  -- its name is new
  pub name_passes : new ≡ true → total ≡ repeated_behind line (take (i + 1) columns) (drop (i + 1) columns)
  name_passes first =
      so_far ∙ (behind
      ∙ ap (λ b. first_of (cond b (Some (Taken line c.name)) None) (repeated_behind line (take (i + 1) columns) (drop (i + 1) columns))) (sym known ∙ absent _ new tells first))

  pub name_added : (after : List (List ℕ)) → new ≡ true → after ≡ cond new (names ++ c.name ∷ []) names → after ≡ column_names (take (i + 1) columns)
  name_added after first added =
      added ∙ (ap (λ b. cond b (names ++ c.name ∷ []) names) first ∙ (ap (λ all. all ++ c.name ∷ []) has
      ∙ (ap (λ (d : Column). column_names (take i columns) ++ d.name ∷ []) is ∙ (sym (map-append (λ (d : Column). d.name) (take i columns) (get_or columns i c ∷ []))
      ∙ ap column_names (sym (take_more columns i c within))))))
