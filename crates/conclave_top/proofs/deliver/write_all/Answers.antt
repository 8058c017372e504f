use Rattle.std.proofs.Common.{rules, ◌≡◌, ◌≤◌, ◌<◌, [], ◌∷◌, Err, length, map, option_map, take, subst, sym}
use Rattle.std.proofs.lemmas.List.{length-map, take_all}
use Rattle.outside.specs.Folder.{called, written}
use Rattle.conclave_top.specs.Deliver.{AreWritten, write_of}
use Rattle.conclave_top.specs.Outside.{folder_at, gained}
use Rattle.conclave_top.proofs.ReadFiles.{item_of_map, within_map}
use Rattle.conclave_top.proofs.WriteFiles.{called_as, cut_at, cut_behind_all, one_written, written_as}
use Rattle.conclave_top.proofs.deliver.write_all.Goals as goal

pub returns-in_err-write-clause-cut : goal.returns-in_err-write-clause-cut
returns-in_err-write-clause-cut g c =
    let i = c.loop-name.name-index in
    let writes = c.args.writes.now in
    let write = write_of c.loop-name-item.result in
    let old = folder_at g.F.Folder c.args.files.now in
    let mid = folder_at g.F.Folder c.loop-name.files in
    let new = folder_at g.F.Folder c.write.new.self in
    let within : i < length writes = search rules in
    let name : c.deref.result.now ≡ write.0 = search rules in
    let files : new.files ≡ mid.files = search rules in
    let calls : new.calls ≡ called {T = Unit} c.deref.result.now (Err c.in_err-write.field-0.0) mid.calls = search rules in
    cut_at (map write_of writes) i write c.in_err-write.field-0.0 old mid new (within_map write_of writes i within) (item_of_map write_of writes i c.loop-name-item.result within c.loop-name-item.is)
    c.loop-name.invariant files (subst (λ n. new.calls ≡ called {T = Unit} n (Err c.in_err-write.field-0.0) mid.calls) name calls)

pub loop-name-preserved : goal.loop-name-preserved
loop-name-preserved g c =
    let i = c.loop-name.name-index in
    let writes = c.args.writes.now in
    let write = write_of c.loop-name-item.result in
    let old = folder_at g.F.Folder c.args.files.now in
    let mid = folder_at g.F.Folder c.loop-name.files in
    let new = folder_at g.F.Folder c.write.new.self in
    let within : i < length writes = search rules in
    let name : c.deref.result.now ≡ write.0 = search rules in
    let bytes : c.deref-in-loop-name.result.now ≡ write.1 = search rules in
    let files : new.files ≡ option_map (written write.0 write.1) mid.files =
    written_as mid.files new.files c.deref.result.now write.0 c.deref-in-loop-name.result.now write.1 c.in_ok-write.ensures.written name bytes in
    let calls : new.calls ≡ gained (write.0 ∷ []) mid.calls = called_as mid.calls new.calls c.deref.result.now write.0 c.in_ok-write.ensures.calls name in
    one_written (map write_of writes) i write old mid new (within_map write_of writes i within) (item_of_map write_of writes i c.loop-name-item.result within c.loop-name-item.is)
    c.loop-name.invariant files calls c.write.ensures.cause.later

pub returns-clause-cut : goal.returns-clause-cut
returns-clause-cut g c =
    let i = c.loop-name.name-index in
    let writes = c.args.writes.now in
    let old = folder_at g.F.Folder c.args.files.now in
    let new = folder_at g.F.Folder c.loop-name.files in
    let past : length writes ≤ i = search rules in
    let all : take i (map write_of writes) ≡ map write_of writes = take_all i (map write_of writes) (subst (λ n. n ≤ i) (sym (length-map writes write_of)) past) in
    cut_behind_all (map write_of writes) old new (subst (λ ws. AreWritten ws old new) all c.loop-name.invariant)
