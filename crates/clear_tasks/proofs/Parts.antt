-- The columns and the valid words of a table that a task takes.
use Rattle.std.proofs.Common.{◌≡◌, ℕ, zero, suc, ◌+◌, ◌<◌, ◌≤◌, List, Vec, [], ◌∷◌, length, refl, map, take, get_or, sym, ap, ◌∙◌, arith}
use Rattle.std.specs.Global.{Global}
use Rattle.std.proofs.lemmas.List.{length-map, length-take-le}
use Rattle.std.specs.List.{take-map}
use Rattle.padded.specs.Table.{rows_in, told}
use Rattle.clear_tasks.specs.Sorted.{sorted_answer}

item_of_map : (takes : List (Vec ℕ Global)) (k : ℕ) (d : Vec ℕ Global) → k < length takes → (get_or takes k d).items ≡ get_or (map (λ (row : Vec ℕ Global). row.items) takes) k []
item_of_map [] k d h = absurd (omega arith)
item_of_map (x ∷ xs) zero d h = refl
item_of_map (x ∷ xs) (suc k) d h = item_of_map xs k d (omega arith)

pub sorted-parts : (takes : List (Vec ℕ Global)) (columns : ℕ) (table : List (Vec ℕ Global)) (row : Vec ℕ Global) (valid : List ℕ)
    → length (map (λ (row : Vec ℕ Global). row.items) takes) ≡ columns + 1 → table ≡ take columns takes → row ≡ get_or takes columns row → valid ≡ row.items
    → told (length table) (length valid) (rows_in (map (λ (row : Vec ℕ Global). row.items) table) valid) ≡ sorted_answer columns (map (λ (row : Vec ℕ Global). row.items) takes)
sorted-parts takes columns table row valid long cut last is =
    ap (λ n. told n (length valid) (rows_in (map (λ (row : Vec ℕ Global). row.items) table) valid)) (ap length cut ∙ length-take-le columns takes inside)
    ∙ ap (λ cs. told columns (length valid) (rows_in cs valid)) (ap (map (λ (row : Vec ℕ Global). row.items)) cut ∙ sym (take-map (λ (row : Vec ℕ Global). row.items) columns takes))
    ∙ ap (λ v. told columns (length v) (rows_in (take columns (map (λ (row : Vec ℕ Global). row.items) takes)) v))
    (is ∙ ap (λ (row : Vec ℕ Global). row.items) last ∙ item_of_map takes columns row within)
  where
    within : columns < length takes
    within = omega (arith, long, length-map takes (λ (row : Vec ℕ Global). row.items))

    inside : columns ≤ length takes
    inside = omega (arith, within)
