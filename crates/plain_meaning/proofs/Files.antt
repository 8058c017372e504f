-- The tables of a graph's relations.
use Rattle.std.proofs.Common.{◌≡◌, ℕ, zero, suc, ◌≤◌, List, [], ◌∷◌, drop, map, length, sym, ap, subst, arith, rules, tests}
use Rattle.std.specs.Prelude.{◌↔◌, IsTrue, nat_eq}
use Rattle.std.specs.List.{All, AllByRecursion, AllZip}
use Rattle.std.proofs.lemmas.List.{drop_all}
use Rattle.std.proofs.lemmas.List.Elements.{All-from_recursion}
use Rattle.tables.specs.Content.{Content, HasWords}
use Rattle.query_graph.specs.declared.node.Node.{Node}
use Rattle.plain_meaning.specs.Fits.{AreFiles, AreOfWords, AreRowsOf, IsFileOf, IsWorldOf, relations}

-- no relation is left exactly where no table is left
none_left : (tables : List Content) (number : ℕ) → number ≤ length tables → IsTrue (nat_eq number (length tables)) ↔ AllZip IsFileOf [] (drop number tables)
none_left tables number within = (
  λ h. let same : number ≡ length tables = search (rules, tests) in subst (AllZip IsFileOf []) (sym (drop_all number tables (omega arith))) (tt),
  λ h. by tables number within h,
)
  where
    by : (tables : List Content) (number : ℕ) → number ≤ length tables → AllZip IsFileOf [] (drop number tables) → IsTrue (nat_eq number (length tables))
    by [] number within h = let same : number ≡ 0 = omega arith in search (rules, tests)
    by (t ∷ ts) zero within h = absurd h
    by (t ∷ ts) (suc n) within h =
        let rest = by ts n (omega arith) h in
        let same : n ≡ length ts = search (rules, tests) in
        let next : suc n ≡ suc (length ts) = ap suc same in
        search (rules, tests)

pub files_end : (nodes : List Node) (tables : List Content) (number : ℕ) → number ≤ length tables → AreFiles [] (drop number tables) ↔ AreFiles nodes tables → IsTrue (nat_eq number (length tables)) ↔ AreFiles nodes tables
files_end nodes tables number within same =
    let none = none_left tables number within in
    (λ h. same.0 (none.0 h), λ h. none.1 (same.1 h))

all_rows : (nodes : List Node) (files : List Content) → AllZip IsFileOf nodes files → AllZip AreRowsOf nodes (map (λ t. t.rows) files)
all_rows [] [] h = h
all_rows [] (t ∷ files) h = absurd h
all_rows (n ∷ nodes) [] h = absurd h
all_rows (n ∷ nodes) (t ∷ files) h = (record { wide = subst (λ columns. All (λ row. length row ≡ length columns) t.rows) h.0.columns h.0.rectangular; few = h.0.rows; words = h.0.words }, all_rows nodes files h.1)

-- the rows of a graph's files are a world of it
pub world_of_files : (nodes : List Node) (files : List Content) → AreFiles nodes files → IsWorldOf nodes (map (λ t. t.rows) files)
world_of_files nodes files h = all_rows (relations nodes) files h

all_words : (nodes : List Node) (files : List Content) → AllZip IsFileOf nodes files → AllByRecursion HasWords files
all_words [] [] h = tt
all_words [] (t ∷ files) h = absurd h
all_words (n ∷ nodes) [] h = absurd h
all_words (n ∷ nodes) (t ∷ files) h = (h.0.words, all_words nodes files h.1)

-- and of words
pub words_of_files : (nodes : List Node) (files : List Content) → AreFiles nodes files → AreOfWords files
words_of_files nodes files h = All-from_recursion HasWords files (all_words (relations nodes) files h)
