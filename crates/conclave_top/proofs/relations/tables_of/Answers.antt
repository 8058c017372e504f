use Rattle.std.proofs.Common.{rules, ◌≡◌, ◌<◌, [], ◌∷◌, ◌++◌, Ok, Err, length, map, subst, sym}
use Rattle.conclave_top.specs.Relations.{IsStored, GivesTable, GivesTables, table_of, tables_of}
use Rattle.conclave_top.proofs.Files.{gives_fault, tables_pass}
use Rattle.conclave_top.proofs.ReadFiles.{item_of_map, within_map}
use Rattle.conclave_top.proofs.relations.tables_of.Goals as goal

pub read_one-requires : goal.read_one-requires
read_one-requires c =
    let within : c.loop-index.index < length c.args.relations.now = search rules in
    subst (λ node. IsStored node.now) (sym c.index-relations-index.is) (c.requires.stored c.loop-index.index c.index-relations-index.result within)

pub returns-in_err-read_one : goal.returns-in_err-read_one
returns-in_err-read_one c =
    let i = c.loop-index.index in
    let within : i < length c.args.relations.now = search rules in
    let inside : i < length c.args.bytes.now = subst (λ n. i < n) (sym c.requires.as_many) within in
    let node = item_of_map (λ node. node.now) c.args.relations.now i c.index-relations-index.result within c.index-relations-index.is in
    let file = item_of_map (λ b. b.items) c.args.bytes.now i c.index-bytes-index.result inside c.index-bytes-index.is in
    let gives : GivesTable (Err c.in_err-read_one.field-0.0) (table_of c.args.folder.now c.index-relations-index.result.now c.index-bytes-index.result.items) = search rules in
    let same : c.from_residual.result ≡ Err c.in_err-read_one.field-0.0 = search rules in
    subst (λ r. GivesTables r (tables_of c.args.folder.now (map (λ node. node.now) c.args.relations.now) (map (λ b. b.items) c.args.bytes.now))) (sym same) (gives_fault c.args.folder.now (map (λ node. node.now) c.args.relations.now) (map (λ b. b.items) c.args.bytes.now) i _ _ c.loop-index.tables.items _ c.in_err-read_one.field-0.0
    (within_map (λ node. node.now) c.args.relations.now i within) node (within_map (λ b. b.items) c.args.bytes.now i inside) file c.loop-index.invariant gives)

pub loop-index-preserved : goal.loop-index-preserved
loop-index-preserved c =
    let i = c.loop-index.index in
    let within : i < length c.args.relations.now = search rules in
    let inside : i < length c.args.bytes.now = subst (λ n. i < n) (sym c.requires.as_many) within in
    let node = item_of_map (λ node. node.now) c.args.relations.now i c.index-relations-index.result within c.index-relations-index.is in
    let file = item_of_map (λ b. b.items) c.args.bytes.now i c.index-bytes-index.result inside c.index-bytes-index.is in
    let passes : table_of c.args.folder.now c.index-relations-index.result.now c.index-bytes-index.result.items ≡ Ok c.in_ok-read_one.field-0 = search rules in
    let pushed : c.push.new.self.items ≡ c.loop-index.tables.items ++ c.in_ok-read_one.field-0 ∷ [] = search rules in
    let more = tables_pass c.args.folder.now (map (λ node. node.now) c.args.relations.now) (map (λ b. b.items) c.args.bytes.now) i _ _ c.loop-index.tables.items c.in_ok-read_one.field-0 _
    (within_map (λ node. node.now) c.args.relations.now i within) node (within_map (λ b. b.items) c.args.bytes.now i inside) file c.loop-index.invariant passes in
    search (rules, pushed, more)
