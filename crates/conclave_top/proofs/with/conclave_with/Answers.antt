use Rattle.std.proofs.Common.{rules, ◌≡◌, Some, map, string_bytes, subst, sym}
use Rattle.conclave_top.specs.Command.{command_in, command_of}
use Rattle.conclave_top.specs.Outcome.{JobOutcome}
use Rattle.conclave_top.specs.Outside.{outside_at}
use Rattle.conclave_top.specs.With.{HasPlanJob}
use Rattle.conclave_top.proofs.WithPlan.{outcome_with}
use Rattle.conclave_top.proofs.with.conclave_with.Goals as goal

pub returns : goal.returns
returns g c =
    let files = g.F.Folder.files c.args.files.now in
    let on = c.args.plan.now in
    let old = outside_at g.F.Folder g.O.Sink g.E.Sink c.args.files.now c.args.out.now c.args.err.now in
    let new = outside_at g.F.Folder g.O.Sink g.E.Sink c.run_form_with-end.new.files c.run_form_with-end.new.out c.finish.new.err in
    let command = command_in c.in-Some.form in
    let form : command_of (map string_bytes c.args.words.now.items) ≡ Some command = search rules in
    subst (λ some. HasPlanJob files on some (λ job. JobOutcome job old new c.finish.result)) (sym form) (outcome_with files on (Some command) old new c.run_form_with-end.result c.finish.result c.run_form_with-end.ensures c.finish.ensures)
