use Rattle.std.proofs.Common.{List, take}
use Rattle.std.specs.List.{flat_map}
use Rattle.lanes.specs.Three.{each}
use Rattle.plain_meaning.specs.Meaning.{meanings}
use Rattle.plain_meaning.specs.Plain.{rows_of_tables}
use Rattle.step_lists.specs.Shapes.{word_lists}
use Rattle.tables.specs.Content as table
use Rattle.conclave_top.specs.Added.{AreAnswered, HoldAnswers}
use Rattle.conclave_top.specs.AnswerFiles.{answers_to}
use Rattle.conclave_top.proofs.answer_files.add_answers.Given as goal

-- the answers of the outputs so far
abbrev pub invariant-loop-number : goal.invariant-loop-number
invariant-loop-number l =
    (tables : List table.Content) → HoldAnswers l.plan tables (each word_lists l.slots)
    → AreAnswered (flat_map (answers_to l.plan.graph.nodes (meanings l.plan.graph.nodes (rows_of_tables tables))) (take l.number l.plan.graph.outputs)) l.fn.results l.results
