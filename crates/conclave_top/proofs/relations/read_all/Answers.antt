use Rattle.std.proofs.Common.{rules, ◌≡◌, ◌+◌, ◌<◌, ◌∙◌, [], ◌∷◌, ◌++◌, length, map, get_or, string_bytes, sym, subst, ap}
use Rattle.std.proofs.lemmas.List.{map_push}
use Rattle.conclave_top.specs.Effect.{HasRead}
use Rattle.conclave_top.specs.Outside.{folder_at}
use Rattle.conclave_top.proofs.ReadFiles.{ReadsSoFar, front_read, item_of_map, read_more, within_map}
use Rattle.conclave_top.proofs.relations.read_all.Goals as goal

pub returns-in_err-bytes-clause-cut : goal.returns-in_err-bytes-clause-cut
returns-in_err-bytes-clause-cut g c =
    let i = c.loop-name.name-index in
    let names = c.args.names.now in
    let within : i < length names = search rules in
    let name : c.deref.result.now ≡ get_or (map string_bytes names) i c.deref.result.now =
    subst (λ n. n ≡ get_or (map string_bytes names) i n) (sym c.deref.ensures) (item_of_map string_bytes names i c.name-item.result within c.name-item.is) in
    front_read (map string_bytes names) (folder_at g.F.Folder c.args.files.now) (folder_at g.F.Folder c.loop-name.files) (folder_at g.F.Folder c.read.new.self) i c.deref.result.now c.read.result
    (within_map string_bytes names i within) name c.loop-name.invariant.0.read c.read.ensures.same c.read.ensures.calls c.read.ensures.cause.later

pub returns-in_err-push-clause-cut : goal.returns-in_err-push-clause-cut
returns-in_err-push-clause-cut g c =
    let i = c.loop-name.name-index in
    let names = c.args.names.now in
    let within : i < length names = search rules in
    let name : c.deref.result.now ≡ get_or (map string_bytes names) i c.deref.result.now =
    subst (λ n. n ≡ get_or (map string_bytes names) i n) (sym c.deref.ensures) (item_of_map string_bytes names i c.name-item.result within c.name-item.is) in
    front_read (map string_bytes names) (folder_at g.F.Folder c.args.files.now) (folder_at g.F.Folder c.loop-name.files) (folder_at g.F.Folder c.read.new.self) i c.deref.result.now c.read.result
    (within_map string_bytes names i within) name c.loop-name.invariant.0.read c.read.ensures.same c.read.ensures.calls c.read.ensures.cause.later

pub loop-name-preserved : goal.loop-name-preserved
loop-name-preserved g c =
    let i = c.loop-name.name-index in
    let names = c.args.names.now in
    let old = folder_at g.F.Folder c.args.files.now in
    let mid = folder_at g.F.Folder c.loop-name.files in
    let new = folder_at g.F.Folder c.read.new.self in
    let within : i < length names = search rules in
    let name : c.deref.result.now ≡ get_or (map string_bytes names) i c.deref.result.now =
    subst (λ n. n ≡ get_or (map string_bytes names) i n) (sym c.deref.ensures) (item_of_map string_bytes names i c.name-item.result within c.name-item.is) in
    let here : HasRead (c.deref.result.now ∷ []) mid new = record { files = c.in_ok-bytes.ensures.same; calls = c.in_ok-bytes.ensures.calls; later = c.in_ok-bytes.ensures.cause.later } in
    let more = read_more (map string_bytes names) old mid new (map (λ b. b.items) c.loop-name.all.items) i c.deref.result.now c.in_ok-bytes.bytes.items
    (within_map string_bytes names i within) name c.loop-name.invariant.0 c.in_ok-bytes.ensures.bytes here in
    let pushed : c.push.new.self.items ≡ c.loop-name.all.items ++ c.in_ok-bytes.bytes ∷ [] = search rules in
    let read : map (λ b. b.items) c.push.new.self.items ≡ map (λ b. b.items) c.loop-name.all.items ++ c.in_ok-bytes.bytes.items ∷ [] =
    ap (map (λ b. b.items)) pushed ∙ map_push (λ b. b.items) c.loop-name.all.items c.in_ok-bytes.bytes in
    let count : length c.push.new.self.items ≡ i + 1 = search rules in
    (subst (λ bs. ReadsSoFar (map string_bytes names) old new bs (i + 1)) (sym read) more, count)
