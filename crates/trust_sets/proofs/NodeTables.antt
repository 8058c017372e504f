-- The tables of all nodes of a graph, as the answers of its outputs.
use Rattle.std.proofs.Common.{◌≡◌, ℕ, ◌<◌, true, List, [], Some, length, map, take, get_or, sym, ap, ◌∙◌, subst}
use Rattle.std.specs.Prelude.{slice_get, ◌↔◌}
use Rattle.std.proofs.lemmas.List.{get_or-take}
use Rattle.std.proofs.lemmas.Option.{same_Some}
use Rattle.bags.specs.Bag.{SameBag}
use Rattle.tables.specs.Content as table
use Rattle.query_graph.specs.Content.{Content}
use Rattle.query_graph.specs.Parties.{has}
use Rattle.query_graph.specs.declared.node.Node.{Node}
use Rattle.query_graph.specs.declared.node.Output.{Output}
use Rattle.plain_meaning.specs.Meaning.{meanings, rows_of}
use Rattle.plain_meaning.specs.Plain.{rows_in}
use Rattle.trust_sets.specs.Agreement.{AnswerAgrees}
use Rattle.trust_sets.specs.Differs.{PlaceAgrees}

rows_at : (nodes : List Node) (world : List (List (List ℕ))) (tables : List table.Content) (node : ℕ) → map (λ t. t.rows) tables ≡ take (length nodes) (meanings nodes world) → node < length nodes → rows_in tables node ≡ rows_of (meanings nodes world) node
rows_at nodes world tables node same below = ap (λ rows. get_or rows node []) same ∙ get_or-take (length nodes) (meanings nodes world) node [] below

-- what is compared of an output's rows in the tables is what is asked of the output
module _ (graph : Content) (party : ℕ) (world other : List (List (List ℕ))) (tables others : List table.Content) where
  abbrev pub SameRows : Output → Type 0
  SameRows output = has output.recipients party ≡ true → SameBag (rows_in tables output.node) (rows_in others output.node)

  pub place_agrees : (place : ℕ) (output : Output) → slice_get graph.outputs place ≡ Some output → output.node < length graph.nodes
      → map (λ t. t.rows) tables ≡ take (length graph.nodes) (meanings graph.nodes world) → map (λ t. t.rows) others ≡ take (length graph.nodes) (meanings graph.nodes other)
      → SameRows output ↔ PlaceAgrees graph party world other place
  place_agrees place output is below first second =
      let lefts = rows_at graph.nodes world tables output.node first below in
      let rights = rows_at graph.nodes other others output.node second below in (
        λ same found at.
            let found_same = same_Some output found (sym is ∙ at) in
            subst (AnswerAgrees graph.nodes party world other) found_same (λ gets. subst (λ l. SameBag l (rows_of (meanings graph.nodes other) output.node)) lefts (subst (SameBag (rows_in tables output.node)) rights (same gets))),
        λ agrees gets. subst (λ l. SameBag l (rows_in others output.node)) (sym lefts) (subst (SameBag (rows_of (meanings graph.nodes world) output.node)) (sym rights) (agrees output is gets)),
      )
