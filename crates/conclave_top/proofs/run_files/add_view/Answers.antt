use Rattle.std.proofs.Common.{rules, ◌≡◌, [], ◌∷◌, ◌++◌, refl, string_bytes}
use Rattle.conclave_top.specs.declared.run_files.Results.{Results}
use Rattle.conclave_top.specs.PartyFiles.{view_file}
use Rattle.conclave_top.specs.Views.{view_bytes}
use Rattle.conclave_top.proofs.Answered.{added_one}
use Rattle.conclave_top.proofs.run_files.add_view.Goals as goal

pub returns : goal.returns
returns c =
    let name = view_file c.args.name.now c.args.party in
    let bytes = view_bytes c.args.run.now.links c.args.party in
    let file = c.in_ok-file.file in
    let view = c.in_ok-view_bytes.field-0 in
    let old = c.args.results.now in
    let new : Results = record old { writes = c.push.new.self } in
    let named : string_bytes file ≡ name = search rules in
    let given : view.items ≡ bytes = search rules in
    let pushed : c.push.new.self.items ≡ old.writes.items ++ (file, view) ∷ [] = search rules in
    added_one name bytes file view old new named given pushed refl
