use Rattle.std.proofs.Common.{rules, ◌≡◌, ℕ, [], ◌∷◌, Err, string_bytes, subst}
use Rattle.std.specs.Prelude.{Vec}
use Rattle.std.specs.Global.{Global}
use Rattle.outside.specs.Folder.{Holds}
use Rattle.conclave_top.specs.Effect.{HasRead}
use Rattle.conclave_top.specs.End.{EndedReading, Reads}
use Rattle.conclave_top.specs.Job.{reading}
use Rattle.conclave_top.specs.Outside.{folder_at}
use Rattle.conclave_top.specs.Tapes.{tape_names}
use Rattle.conclave_top.proofs.Folders.{read_nothing}
use Rattle.conclave_top.proofs.ReadFiles.{read_then}
use Rattle.conclave_top.proofs.ReadTapes.{ended_then, reads_ended}
use Rattle.conclave_top.proofs.tapes_of.read_tapes.Goals as goal

pub returns-in_err-first : goal.returns-in_err-first
returns-in_err-first g c =
    let names = c.in-Ok.names in
    let a = string_bytes names.first in
    let b = string_bytes names.second in
    let d = string_bytes names.third in
    let old = folder_at g.F.Folder c.args.files.now in
    let new = folder_at g.F.Folder c.read_one.new.files in
    let end = c.in_err-first.field-0.0 in
    let is : tape_names c.args.tapes.now ≡ a ∷ b ∷ d ∷ [] = search rules in
    let was : c.read_one.result ≡ Err end = search rules in
    let named : c.deref.result.now ≡ a = search rules in
    let reads : Reads (reading (a ∷ [])) (λ (bytes : Vec ℕ Global). Holds old.files a bytes.items) old new c.read_one.result =
    subst (λ n. Reads (reading (n ∷ [])) (λ (bytes : Vec ℕ Global). Holds old.files n bytes.items) old new c.read_one.result) named c.read_one.ensures in
    let ends : EndedReading (reading (a ∷ [])) old new end = reads_ended (reading (a ∷ [])) (λ (bytes : Vec ℕ Global). Holds old.files a bytes.items) old new c.read_one.result end was reads in
    let same : c.from_residual.result ≡ Err end = search rules in
    rw same (ended_then [] (a ∷ []) (b ∷ d ∷ []) (tape_names c.args.tapes.now) old old new end is (read_nothing old) ends)

pub returns-in_err-second : goal.returns-in_err-second
returns-in_err-second g c =
    let names = c.in-Ok.names in
    let a = string_bytes names.first in
    let b = string_bytes names.second in
    let d = string_bytes names.third in
    let old = folder_at g.F.Folder c.args.files.now in
    let mid = folder_at g.F.Folder c.read_one.new.files in
    let new = folder_at g.F.Folder c.read_one-2.new.files in
    let end = c.in_err-second.field-0.0 in
    let is : tape_names c.args.tapes.now ≡ a ∷ b ∷ d ∷ [] = search rules in
    let read : HasRead (a ∷ []) old mid = search rules in
    let was : c.read_one-2.result ≡ Err end = search rules in
    let named : c.deref-2.result.now ≡ b = search rules in
    let reads : Reads (reading (b ∷ [])) (λ (bytes : Vec ℕ Global). Holds mid.files b bytes.items) mid new c.read_one-2.result =
    subst (λ n. Reads (reading (n ∷ [])) (λ (bytes : Vec ℕ Global). Holds mid.files n bytes.items) mid new c.read_one-2.result) named c.read_one-2.ensures in
    let ends : EndedReading (reading (b ∷ [])) mid new end = reads_ended (reading (b ∷ [])) (λ (bytes : Vec ℕ Global). Holds mid.files b bytes.items) mid new c.read_one-2.result end was reads in
    let same : c.from_residual-in_err-second.result ≡ Err end = search rules in
    rw same (ended_then (a ∷ []) (b ∷ []) (d ∷ []) (tape_names c.args.tapes.now) old mid new end is read ends)

pub returns-in_err-third : goal.returns-in_err-third
returns-in_err-third g c =
    let names = c.in-Ok.names in
    let a = string_bytes names.first in
    let b = string_bytes names.second in
    let d = string_bytes names.third in
    let old = folder_at g.F.Folder c.args.files.now in
    let one = folder_at g.F.Folder c.read_one.new.files in
    let two = folder_at g.F.Folder c.read_one-2.new.files in
    let new = folder_at g.F.Folder c.read_one-3.new.files in
    let end = c.in_err-third.field-0.0 in
    let is : tape_names c.args.tapes.now ≡ a ∷ b ∷ d ∷ [] = search rules in
    let first : HasRead (a ∷ []) old one = search rules in
    let second : HasRead (b ∷ []) one two = search rules in
    let was : c.read_one-3.result ≡ Err end = search rules in
    let named : c.deref-3.result.now ≡ d = search rules in
    let reads : Reads (reading (d ∷ [])) (λ (bytes : Vec ℕ Global). Holds two.files d bytes.items) two new c.read_one-3.result =
    subst (λ n. Reads (reading (n ∷ [])) (λ (bytes : Vec ℕ Global). Holds two.files n bytes.items) two new c.read_one-3.result) named c.read_one-3.ensures in
    let ends : EndedReading (reading (d ∷ [])) two new end = reads_ended (reading (d ∷ [])) (λ (bytes : Vec ℕ Global). Holds two.files d bytes.items) two new c.read_one-3.result end was reads in
    let same : c.from_residual-in_err-third.result ≡ Err end = search rules in
    rw same (ended_then (a ∷ b ∷ []) (d ∷ []) [] (tape_names c.args.tapes.now) old two new end is (read_then (a ∷ []) (b ∷ []) old one two first second) ends)
