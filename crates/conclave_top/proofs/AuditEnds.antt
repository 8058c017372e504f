-- The two worlds of an audit, and what follows where they agree.
use Rattle.std.proofs.Common.{◌≡◌, ◌∙◌, ℕ, false, List, [], ◌∷◌, length, Option, Some, None, Result, Ok, Err, inl, inr, refl, ap, sym, subst}
use Rattle.std.specs.Prelude.{Vec, slice_get}
use Rattle.std.specs.Global.{Global}
use Rattle.std.specs.List.{All, AllZip}
use Rattle.lanes.specs.declared.party.Party.{Party}
use Rattle.lowering.specs.FirstSlots.{WorldOf}
use Rattle.lowering.specs.Isolated.{CantTell, IsIsolated}
use Rattle.lowering.specs.Plan.{Plan}
use Rattle.lowering.specs.Unbuilt.{unbuilt}
use Rattle.plain_meaning.specs.Fits.{AreRowsOf, IsFileOf, IsWorldOf, relations}
use Rattle.plain_meaning.specs.Meaning.{meanings, rows_of}
use Rattle.plain_meaning.specs.Plain.{bound_of, is_over, rows_of_tables}
use Rattle.query_graph.specs.Content.{Content}
use Rattle.query_graph.specs.declared.node.Node.{Node}
use Rattle.step_lists.specs.Draws.{ThreeTapes}
use Rattle.step_lists.specs.Possible.{TapesFit}
use Rattle.tables.specs.Content as table
use Rattle.tables.specs.File.{ReadTablesFit}
use Rattle.trust_sets.specs.Differs.{IsWithinBounds}
use Rattle.trust_sets.specs.declared.agreement.Differs.{Differs}
use Rattle.conclave_top.specs.declared.end.Cause.TheVariants.{Disagree}
use Rattle.conclave_top.specs.declared.end.End.{End}
use Rattle.conclave_top.specs.declared.end.End.TheVariants.{Stopped}
use Rattle.conclave_top.specs.declared.end.Stop.{Stop}
use Rattle.conclave_top.specs.declared.end.Stop.TheVariants as lines
use Rattle.conclave_top.specs.declared.worlds.Two.{Two}
use Rattle.conclave_top.specs.Audit.{AgreeFor, GivesBoth, IsDifferenceFor, Worlds, audit_on, audit_output, audit_writes, both, inside, twins_in, view_in, worlds_source}
use Rattle.conclave_top.specs.Bounds.{first_bound}
use Rattle.conclave_top.specs.Due as dues
use Rattle.conclave_top.specs.End.{Ended}
use Rattle.conclave_top.specs.Job.{only}
use Rattle.conclave_top.specs.Lines.{disagree_line}
use Rattle.conclave_top.specs.Outside.{Ports}
use Rattle.conclave_top.specs.Question.{Question}
use Rattle.conclave_top.specs.Relations.{tables_of}
use Rattle.conclave_top.proofs.Ends.{IsPart, Says, ended_within}
use Rattle.conclave_top.proofs.Folders.{read_nothing, stops_done}
use Rattle.conclave_top.proofs.PlainTables.{files_are, no_bound_at}
use Rattle.conclave_top.proofs.RefusedPlans.{unbounded}

-- what both come to, each comes to
pub both_ok : {A B : Type 0} (first : Result A (List ℕ)) (second : Result B (List ℕ)) (a : A) (b : B) → both first second ≡ Ok (a, b) → (first ≡ Ok a) × (second ≡ Ok b)
both_ok (Err line) second a b is = cc
both_ok (Ok x) (Err line) a b is = cc
both_ok {A = A} {B = B} (Ok x) (Ok y) a b is =
    let same : (x, y) ≡ (a, b) = cc in
    (ap (λ (both : A × B). Ok both.0) same, ap (λ (both : A × B). Ok both.1) same)

pub said_of_both : (first second : Result (List table.Content) (List ℕ)) (stop : Stop) → GivesBoth (Err stop) first second → Says (λ line. both first second ≡ Err line) stop
said_of_both first second (lines.Line line) gives = gives
said_of_both first second lines.Memory gives = tt

-- tables of relations' files make a world
rows_of_files : (nodes : List Node) (tables : List table.Content) → AllZip IsFileOf nodes tables → AllZip AreRowsOf nodes (rows_of_tables tables)
rows_of_files [] [] are = tt
rows_of_files [] (t ∷ tables) are = absurd are
rows_of_files (node ∷ nodes) [] are = absurd are
rows_of_files (node ∷ nodes) (t ∷ tables) are =
    let wide : All (λ row. length row ≡ length node.columns) t.rows =
    subst (λ columns. All (λ (row : List ℕ). length row ≡ length columns) t.rows) are.0.columns are.0.rectangular in
    (record { wide = wide; few = are.0.rows; words = are.0.words }, rows_of_files nodes tables are.1)

pub world_fits : ReadTablesFit → (folder : List ℕ) (graph : Content) (bytes : List (List ℕ)) (tables : List table.Content) → length bytes ≡ length (relations graph.nodes)
    → tables_of folder (relations graph.nodes) bytes ≡ Ok tables → IsWorldOf graph.nodes (rows_of_tables tables)
world_fits fit folder graph bytes tables count read = rows_of_files (relations graph.nodes) tables (files_are fit folder (relations graph.nodes) bytes tables count read)

-- a world of a graph of which nothing is unbuilt has no node over its bound
pub within_bounds : (graph : Content) (rows : List (List (List ℕ))) → unbuilt graph ≡ None → IsWithinBounds graph.nodes rows
within_bounds graph rows built number node here =
    ap (λ b. is_over b (rows_of (meanings graph.nodes rows) number)) (no_bound_at graph.nodes number node (unbounded graph built) here)

-- an isolated plan sends the party the same words
abbrev pub world_of : (plan : Plan) (tables : List table.Content) → IsWorldOf plan.graph.nodes (rows_of_tables tables) → WorldOf plan.graph.nodes
world_of plan tables fits = record { rows = rows_of_tables tables; fits = fits }

pub equal_views : (plan : Plan) (party : Party) (worlds : Worlds) (draws : ThreeTapes) → IsIsolated plan → IsWorldOf plan.graph.nodes (rows_of_tables worlds.0) → IsWorldOf plan.graph.nodes (rows_of_tables worlds.1)
    → AgreeFor plan party worlds → TapesFit plan.list draws → view_in plan party worlds.1 (twins_in plan party worlds draws) ≡ view_in plan party worlds.0 draws
equal_views plan party worlds draws isolated first second agree fit =
    let told : CantTell plan party (world_of plan worlds.0 first) (world_of plan worlds.1 second) draws =
    isolated.cant_tell party (world_of plan worlds.0 first) (world_of plan worlds.1 second) agree draws fit in
    told.view

-- where the worlds agree the twin is due
twin_part : (asked : Question) (plan : Plan) (worlds : Worlds) (draws : ThreeTapes) → IsIsolated plan → IsWorldOf plan.graph.nodes (rows_of_tables worlds.0) → IsWorldOf plan.graph.nodes (rows_of_tables worlds.1)
    → AgreeFor plan asked.party worlds → TapesFit plan.list draws → IsPart (only (dues.does [] (audit_writes asked plan worlds draws) (audit_output asked plan worlds draws))) (audit_on asked plan worlds draws)
twin_part asked plan worlds draws isolated first second agree fit = record {
  due = λ due is. inl (record { agree = agree; equal = equal_views plan asked.party worlds draws isolated first second agree fit; is = is });
  more = [];
  reads = refl;
}

pub twin_end : (asked : Question) (plan : Plan) (worlds : Worlds) (draws : ThreeTapes) (old new : Ports) (end : End) → IsIsolated plan → IsWorldOf plan.graph.nodes (rows_of_tables worlds.0)
    → IsWorldOf plan.graph.nodes (rows_of_tables worlds.1) → AgreeFor plan asked.party worlds → TapesFit plan.list draws
    → Ended (only (dues.does [] (audit_writes asked plan worlds draws) (audit_output asked plan worlds draws))) old new end → Ended (audit_on asked plan worlds draws) old new end
twin_end asked plan worlds draws old new end isolated first second agree fit ends =
    ended_within (only (dues.does [] (audit_writes asked plan worlds draws) (audit_output asked plan worlds draws))) (audit_on asked plan worlds draws) old new end
    (twin_part asked plan worlds draws isolated first second agree fit) ends

-- or the first part in which they differ is told
pub disagree_end : (asked : Question) (plan : Plan) (worlds : Worlds) (draws : ThreeTapes) (differs : Differs) (line : Vec ℕ Global) (ports : Ports) → IsDifferenceFor plan asked.party worlds (Some differs)
    → line.items ≡ disagree_line plan.graph.nodes differs → Ended (audit_on asked plan worlds draws) ports ports (Stopped Disagree line)
disagree_end asked plan worlds draws differs line ports first says = record {
  due = dues.stops Disagree [] (disagree_line plan.graph.nodes differs);
  is_due = inr (record { differs = differs; first = first; is = refl });
  status = refl;
  says = sym says;
  unprinted = refl;
  done = stops_done Disagree [] (disagree_line plan.graph.nodes differs) ports.folder ports.folder ports.out (read_nothing ports.folder);
}
