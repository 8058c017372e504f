use Rattle.std.proofs.Common.{rules, ◌≡◌, ◌++◌, Err, map, subst}
use Rattle.std.specs.Prelude.{Vec, ℕ}
use Rattle.std.specs.Global.{Global}
use Rattle.conclave_top.specs.Audit.{inside}
use Rattle.conclave_top.specs.Effect.{HasRead}
use Rattle.conclave_top.specs.End.{EndedReading, Reads}
use Rattle.conclave_top.specs.Job.{reading}
use Rattle.conclave_top.specs.Outside.{folder_at}
use Rattle.conclave_top.specs.Relations.{AreBytes, file_names}
use Rattle.conclave_top.proofs.ReadFiles.{read_then}
use Rattle.conclave_top.proofs.ReadTapes.{reads_ended}
use Rattle.conclave_top.proofs.TwoWorlds.{ended_first, ended_second}
use Rattle.conclave_top.proofs.worlds.read_worlds.Goals as goal

pub returns-in_err-first : goal.returns-in_err-first
returns-in_err-first g c =
    let nodes = map (λ node. node.now) c.args.relations.now in
    let names = file_names (inside c.args.asked.now.first.now) nodes in
    let more = file_names (inside c.args.asked.now.second.now) nodes in
    let old = folder_at g.F.Folder c.args.files.now in
    let new = folder_at g.F.Folder c.read_world.new.files in
    let end = c.in_err-first.field-0.0 in
    let was : c.read_world.result ≡ Err end = search rules in
    let ends : EndedReading (reading names) old new end =
    reads_ended (reading names) (λ (bytes : Vec (Vec ℕ Global) Global). AreBytes old.files (inside c.args.asked.now.first.now) nodes (map (λ b. b.items) bytes.items)) old new c.read_world.result end was c.read_world.ensures in
    let same : c.from_residual.result ≡ Err end = search rules in
    rw same (ended_first names more old new end ends)

pub returns-in_err-second : goal.returns-in_err-second
returns-in_err-second g c =
    let nodes = map (λ node. node.now) c.args.relations.now in
    let names = file_names (inside c.args.asked.now.first.now) nodes in
    let more = file_names (inside c.args.asked.now.second.now) nodes in
    let old = folder_at g.F.Folder c.args.files.now in
    let mid = folder_at g.F.Folder c.read_world.new.files in
    let new = folder_at g.F.Folder c.read_world-2.new.files in
    let end = c.in_err-second.field-0.0 in
    let read : HasRead names old mid = c.in_ok-first.ensures.1 in
    let was : c.read_world-2.result ≡ Err end = search rules in
    let ends : EndedReading (reading more) mid new end =
    reads_ended (reading more) (λ (bytes : Vec (Vec ℕ Global) Global). AreBytes mid.files (inside c.args.asked.now.second.now) nodes (map (λ b. b.items) bytes.items)) mid new c.read_world-2.result end was c.read_world-2.ensures in
    let same : c.from_residual-in_err-second.result ≡ Err end = search rules in
    rw same (ended_second names more old mid new end read ends)

pub returns : goal.returns
returns g c =
    let nodes = map (λ node. node.now) c.args.relations.now in
    let first = inside c.args.asked.now.first.now in
    let second = inside c.args.asked.now.second.now in
    let old = folder_at g.F.Folder c.args.files.now in
    let mid = folder_at g.F.Folder c.read_world.new.files in
    let new = folder_at g.F.Folder c.read_world-2.new.files in
    let one = c.in_ok-first.ensures in
    let other = c.in_ok-second.ensures in (
      (one.0, subst (λ fs. AreBytes fs second nodes (map (λ b. b.items) c.in_ok-second.second.items)) one.1.files other.0),
      read_then (file_names first nodes) (file_names second nodes) old mid new one.1 other.1,
    )
