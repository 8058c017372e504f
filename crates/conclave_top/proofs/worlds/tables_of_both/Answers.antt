use Rattle.std.proofs.Common.{rules, ◌≡◌, Ok, Err, map}
use Rattle.conclave_top.specs.Audit.{inside}
use Rattle.conclave_top.specs.Relations.{GivesTables, tables_of}
use Rattle.conclave_top.proofs.TwoWorlds.{gives_both, gives_first, gives_second}
use Rattle.conclave_top.proofs.worlds.tables_of_both.Goals as goal

pub returns-in_err-first : goal.returns-in_err-first
returns-in_err-first c =
    let nodes = map (λ node. node.now) c.args.relations.now in
    let first = tables_of (inside c.args.asked.now.first.now) nodes (map (λ b. b.items) c.args.bytes.now.first.items) in
    let second = tables_of (inside c.args.asked.now.second.now) nodes (map (λ b. b.items) c.args.bytes.now.second.items) in
    let stop = c.in_err-first.field-0.0 in
    let gives : GivesTables (Err stop) first = search rules in
    let same : c.from_residual.result ≡ Err stop = search rules in
    rw same (gives_first stop first second gives)

pub returns-in_err-second : goal.returns-in_err-second
returns-in_err-second c =
    let nodes = map (λ node. node.now) c.args.relations.now in
    let first = tables_of (inside c.args.asked.now.first.now) nodes (map (λ b. b.items) c.args.bytes.now.first.items) in
    let second = tables_of (inside c.args.asked.now.second.now) nodes (map (λ b. b.items) c.args.bytes.now.second.items) in
    let stop = c.in_err-second.field-0.0 in
    let read : first ≡ Ok c.in_ok-first.first.items = search rules in
    let gives : GivesTables (Err stop) second = search rules in
    let same : c.from_residual-in_err-second.result ≡ Err stop = search rules in
    rw same (gives_second stop c.in_ok-first.first.items first second read gives)

pub returns : goal.returns
returns c =
    let nodes = map (λ node. node.now) c.args.relations.now in
    let first = tables_of (inside c.args.asked.now.first.now) nodes (map (λ b. b.items) c.args.bytes.now.first.items) in
    let second = tables_of (inside c.args.asked.now.second.now) nodes (map (λ b. b.items) c.args.bytes.now.second.items) in
    let one : first ≡ Ok c.in_ok-first.first.items = search rules in
    let other : second ≡ Ok c.in_ok-second.second.items = search rules in
    gives_both (record { first = c.in_ok-first.first; second = c.in_ok-second.second }) first second one other
