use Rattle.std.proofs.Common.{rules, ◌≡◌, ℕ, [], ◌∷◌}
use Rattle.std.specs.Prelude.{String, Vec}
use Rattle.std.specs.Global.{Global}
use Rattle.joint_machine.specs.Left.{draws_of}
use Rattle.step_lists.specs.Draws.{schedule_of}
use Rattle.step_lists.specs.Schedule.{lists_of}
use Rattle.conclave_top.proofs.SeededTapes.{AreTapeFiles, taped}
use Rattle.conclave_top.proofs.tape.tape_writes.Goals as goal

pub returns : goal.returns
returns c =
    let schedule = c.in_ok-schedule.schedule in
    let tapes = c.in_ok-tapes.tapes in
    let first : String Global × Vec ℕ Global = (c.in_ok-first.first, c.in_ok-write_tape.field-0) in
    let second : String Global × Vec ℕ Global = (c.in_ok-second.second, c.in_ok-write_tape-2.field-0) in
    let third : String Global × Vec ℕ Global = (c.in_ok-third.third, c.in_ok-write_tape-3.field-0) in
    let same : lists_of schedule ≡ schedule_of c.args.plan.now.list = search rules in
    let writes : c.push-3.new.self.items ≡ first ∷ second ∷ third ∷ [] = search rules in
    let are : AreTapeFiles c.args.name.now (draws_of tapes) first second third = record {
      first_name = search rules;
      second_name = search rules;
      third_name = search rules;
      first_bytes = search rules;
      second_bytes = search rules;
      third_bytes = search rules;
    } in
    taped c.args.seed c.args.name.now c.args.plan.now schedule tapes first second third c.push-3.new.self.items same c.in_ok-tapes.ensures.made writes are
