-- The tapes of a seed as the files that are written.
use Rattle.std.proofs.Common.{◌≡◌, ℕ, List, [], ◌∷◌, map, string_bytes, ap, refl, subst, ◌∙◌}
use Rattle.std.specs.Prelude.{String, Vec}
use Rattle.std.specs.Global.{Global}
use Rattle.joint_machine.specs.Left.{draws_of}
use Rattle.lanes.specs.declared.party.Party.TheVariants.{First, Second, Third}
use Rattle.lanes.specs.declared.three.Three.{Three}
use Rattle.lowering.specs.Plan.{Plan}
use Rattle.step_lists.specs.Draws.{ThreeTapes, schedule_of}
use Rattle.step_lists.specs.Schedule.{lists_of}
use Rattle.tapes.specs.Bytes.{tape_bytes}
use Rattle.tapes.specs.Made.{AreMade, IsMadeTape}
use Rattle.tapes.specs.declared.draw.Need.{Need}
use Rattle.tapes.specs.declared.draw.Schedule.{Schedule}
use Rattle.tapes.specs.declared.tape.Tapes.{Tapes}
use Rattle.conclave_top.specs.Deliver.{write_of}
use Rattle.conclave_top.specs.Due.{does}
use Rattle.conclave_top.specs.PartyFiles.{tape_file}
use Rattle.conclave_top.specs.Tape.{AreSeeded, IsTaped, tape_writes}
use Rattle.conclave_top.proofs.WriteFiles.{same_write}

seeded : (seed : ℕ) (plan : Plan) (schedule : Schedule) (tapes : Tapes) → lists_of schedule ≡ schedule_of plan.list → AreMade schedule seed tapes → AreSeeded seed plan (draws_of tapes)
seeded seed plan schedule tapes same made First = subst (λ ns. IsMadeTape seed 1 ns tapes.first) (ap (λ (s : Three (List Need)). s.first) same) made.first
seeded seed plan schedule tapes same made Second = subst (λ ns. IsMadeTape seed 2 ns tapes.second) (ap (λ (s : Three (List Need)). s.second) same) made.second
seeded seed plan schedule tapes same made Third = subst (λ ns. IsMadeTape seed 3 ns tapes.third) (ap (λ (s : Three (List Need)). s.third) same) made.third

-- three named vectors with the names and the bytes of tapes
pub record AreTapeFiles (name : List ℕ) (draws : ThreeTapes) (first second third : String Global × Vec ℕ Global) : Type 0 where
  pub first_name : string_bytes first.0 ≡ tape_file name First
  pub second_name : string_bytes second.0 ≡ tape_file name Second
  pub third_name : string_bytes third.0 ≡ tape_file name Third
  pub first_bytes : first.1.items ≡ tape_bytes draws.first
  pub second_bytes : second.1.items ≡ tape_bytes draws.second
  pub third_bytes : third.1.items ≡ tape_bytes draws.third

tape_files : (name : List ℕ) (draws : ThreeTapes) (first second third : String Global × Vec ℕ Global) → AreTapeFiles name draws first second third
    → map write_of (first ∷ second ∷ third ∷ []) ≡ tape_writes name draws
tape_files name draws first second third are =
    rw (
      same_write (string_bytes first.0) (tape_file name First) first.1.items (tape_bytes draws.first) are.first_name are.first_bytes,
      same_write (string_bytes second.0) (tape_file name Second) second.1.items (tape_bytes draws.second) are.second_name are.second_bytes,
      same_write (string_bytes third.0) (tape_file name Third) third.1.items (tape_bytes draws.third) are.third_name are.third_bytes,
    ) refl

pub taped : (seed : ℕ) (name : List ℕ) (plan : Plan) (schedule : Schedule) (tapes : Tapes) (first second third : String Global × Vec ℕ Global) (writes : List (String Global × Vec ℕ Global))
    → lists_of schedule ≡ schedule_of plan.list → AreMade schedule seed tapes → writes ≡ first ∷ second ∷ third ∷ [] → AreTapeFiles name (draws_of tapes) first second third
    → IsTaped seed name plan (does [] (map write_of writes) [])
taped seed name plan schedule tapes first second third writes same made is are = record {
  draws = draws_of tapes;
  seeded = seeded seed plan schedule tapes same made;
  is = ap (λ ws. does [] (map write_of ws) []) is ∙ ap (λ ws. does [] ws []) (tape_files name (draws_of tapes) first second third are);
}
