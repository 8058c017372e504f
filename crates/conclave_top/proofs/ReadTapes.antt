-- The files of three tapes, read one after the other, and what their bytes are.
use Rattle.std.proofs.Common.{◌≡◌, ◌∙◌, ℕ, ◌<◌, List, [], ◌∷◌, ◌++◌, Option, Some, None, Result, Err, arith, refl, sym, subst, append_assoc}
use Rattle.outside.specs.Folder.{Files, Holds}
use Rattle.lanes.specs.Party.{number_of}
use Rattle.lanes.specs.declared.party.Party.{Party}
use Rattle.lanes.specs.declared.party.Party.TheVariants.{First, Second, Third}
use Rattle.lanes.specs.declared.three.Three.{Three}
use Rattle.step_lists.specs.Draws.{ThreeTapes}
use Rattle.tapes.specs.declared.draw.Draw.{Draw}
use Rattle.tapes.specs.declared.draw.Need.{Need}
use Rattle.conclave_top.specs.declared.end.End.{End}
use Rattle.conclave_top.specs.declared.end.Stop.{Stop}
use Rattle.conclave_top.specs.declared.end.Stop.TheVariants.{Line, Memory}
use Rattle.conclave_top.specs.Effect.{HasRead}
use Rattle.conclave_top.specs.End.{EndedReading, Reads}
use Rattle.conclave_top.specs.Job.{Job, behind, reading}
use Rattle.conclave_top.specs.Outside.{FolderState}
use Rattle.conclave_top.specs.Relations.{AreHeld}
use Rattle.conclave_top.specs.Tapes.{AreSpelled, GivesTape, GivesTapes, Spells, tape_names}
use Rattle.conclave_top.proofs.Ends.{IsPart, ended_behind, ended_within}
use Rattle.conclave_top.proofs.Folders.{at as ports}
use Rattle.conclave_top.proofs.ReadFiles.{read_then}

-- a read behind others, of a list of names that goes on behind it
pub ended_then : (first names more all : List (List ℕ)) (old mid new : FolderState) (end : End) → all ≡ first ++ (names ++ more) → HasRead first old mid → EndedReading (reading names) mid new end
    → EndedReading (reading all) old new end
ended_then first names more all old mid new end is read ends out =
    let part : IsPart (behind first (reading names)) (reading all) = record { due = λ due is_due. absurd is_due.is_due; more = more; reads = is ∙ sym (append_assoc first names more) } in
    ended_within (behind first (reading names)) (reading all) (ports old out) (ports new out) end part (ended_behind first (reading names) old mid out (ports new out) end read (ends out))

-- a part that gives nothing
pub reads_ended : {T : Type 0} (job : Job) (gives : T → Type 0) (old new : FolderState) (answer : Result T End) (end : End) → answer ≡ Err end → Reads job gives old new answer → EndedReading job old new end
reads_ended job gives old new answer end is reads = subst (λ r. Reads job gives old new r) is reads

-- three files that are there
pub held_three : (files : Option Files) (a b c x y z : List ℕ) → Holds files a x → Holds files b y → Holds files c z → AreHeld files (a ∷ b ∷ c ∷ []) (x ∷ y ∷ z ∷ [])
held_three None a b c x y z first second third = tt
held_three (Some told) a b c x y z first second third = rw (first, second, third) refl

pub read_three : (tapes a b c x y z : List ℕ) (old one two new : FolderState) → a ∷ b ∷ c ∷ [] ≡ tape_names tapes → Holds old.files a x → Holds one.files b y → Holds two.files c z
    → HasRead (a ∷ []) old one → HasRead (b ∷ []) one two → HasRead (c ∷ []) two new → AreHeld old.files (tape_names tapes) (x ∷ y ∷ z ∷ []) × HasRead (tape_names tapes) old new
read_three tapes a b c x y z old one two new names here there last first second third =
    let both : HasRead (a ∷ b ∷ []) old two = read_then (a ∷ []) (b ∷ []) old one two first second in
    let held : AreHeld old.files (a ∷ b ∷ c ∷ []) (x ∷ y ∷ z ∷ []) =
    held_three old.files a b c x y z here (subst (λ fs. Holds fs b y) first.files there) (subst (λ fs. Holds fs c z) both.files last) in
    (subst (λ ns. AreHeld old.files ns (x ∷ y ∷ z ∷ [])) names held, subst (λ ns. HasRead ns old new) names (read_then (a ∷ b ∷ []) (c ∷ []) old two new both third))

-- the first party whose tape isn't spelled
abbrev HasDraws : Three (List Need) → Three (List ℕ) → Party → Type 0
HasDraws needs bytes party = (draws : List Draw) × Spells needs bytes party draws

before_first : (needs : Three (List Need)) (bytes : Three (List ℕ)) (other : Party) → number_of other < 1 → HasDraws needs bytes other
before_first needs bytes First below = absurd (omega arith)
before_first needs bytes Second below = absurd (omega arith)
before_first needs bytes Third below = absurd (omega arith)

before_second : (needs : Three (List Need)) (bytes : Three (List ℕ)) → HasDraws needs bytes First → (other : Party) → number_of other < 2 → HasDraws needs bytes other
before_second needs bytes first First below = first
before_second needs bytes first Second below = absurd (omega arith)
before_second needs bytes first Third below = absurd (omega arith)

before_third : (needs : Three (List Need)) (bytes : Three (List ℕ)) → HasDraws needs bytes First → HasDraws needs bytes Second → (other : Party) → number_of other < 3 → HasDraws needs bytes other
before_third needs bytes first second First below = first
before_third needs bytes first second Second below = second
before_third needs bytes first second Third below = absurd (omega arith)

pub fault_first : (needs : Three (List Need)) (bytes : Three (List ℕ)) (name : List ℕ) (stop : Stop) → GivesTape needs.first bytes.first name First (Err stop) → GivesTapes needs bytes name (Err stop)
fault_first needs bytes name (Line line) faulty = record { party = First; earlier = before_first needs bytes; faulty = faulty }
fault_first needs bytes name Memory faulty = tt

pub fault_second : (needs : Three (List Need)) (bytes : Three (List ℕ)) (name : List ℕ) (stop : Stop) (first : List Draw) → Spells needs bytes First first
    → GivesTape needs.second bytes.second name Second (Err stop) → GivesTapes needs bytes name (Err stop)
fault_second needs bytes name (Line line) first one faulty = record { party = Second; earlier = before_second needs bytes (first, one); faulty = faulty }
fault_second needs bytes name Memory first one faulty = tt

pub fault_third : (needs : Three (List Need)) (bytes : Three (List ℕ)) (name : List ℕ) (stop : Stop) (first second : List Draw) → Spells needs bytes First first → Spells needs bytes Second second
    → GivesTape needs.third bytes.third name Third (Err stop) → GivesTapes needs bytes name (Err stop)
fault_third needs bytes name (Line line) first second one two faulty = record { party = Third; earlier = before_third needs bytes (first, one) (second, two); faulty = faulty }
fault_third needs bytes name Memory first second one two faulty = tt

pub all_spelled : (needs : Three (List Need)) (bytes : Three (List ℕ)) (draws : ThreeTapes) → Spells needs bytes First draws.first → Spells needs bytes Second draws.second → Spells needs bytes Third draws.third
    → AreSpelled needs bytes draws
all_spelled needs bytes draws one two three First = one
all_spelled needs bytes draws one two three Second = two
all_spelled needs bytes draws one two three Third = three
