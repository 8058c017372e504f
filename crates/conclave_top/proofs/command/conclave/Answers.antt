use Rattle.std.proofs.Common.{rules, ◌≡◌, Some, None, map, string_bytes, subst, sym}
use Rattle.conclave_top.specs.Command.{command_in, command_of}
use Rattle.conclave_top.specs.Outcome.{OutcomeOf}
use Rattle.conclave_top.specs.Outside.{outside_at, ports_at, stream_at}
use Rattle.conclave_top.proofs.Outcomes.{command_outcome, usage_outcome}
use Rattle.conclave_top.proofs.command.conclave.Goals as goal

pub returns-in-Some : goal.returns-in-Some
returns-in-Some g c =
    let old = outside_at g.F.Folder g.O.Sink g.E.Sink c.args.files.now c.args.out.now c.args.err.now in
    let new = outside_at g.F.Folder g.O.Sink g.E.Sink c.run_form-end.new.files c.run_form-end.new.out c.finish.new.err in
    let command = command_in c.in-Some.form in
    let form : command_of (map string_bytes c.args.words.now.items) ≡ Some command = search rules in
    subst (λ some. OutcomeOf some old new c.finish.result) (sym form) (command_outcome command old new c.run_form-end.result c.finish.result c.run_form-end.ensures c.finish.ensures)

pub returns-in-None : goal.returns-in-None
returns-in-None g c =
    let ports = ports_at g.F.Folder g.O.Sink c.args.files.now c.args.out.now in
    let old = outside_at g.F.Folder g.O.Sink g.E.Sink c.args.files.now c.args.out.now c.args.err.now in
    let new = outside_at g.F.Folder g.O.Sink g.E.Sink c.args.files.now c.args.out.now c.usage.new.err in
    let form : command_of (map string_bytes c.args.words.now.items) ≡ None = search rules in
    subst (λ none. OutcomeOf none old new c.usage.result) (sym form) (usage_outcome ports (stream_at g.E.Sink c.args.err.now) (stream_at g.E.Sink c.usage.new.err) c.usage.result c.usage.ensures)
