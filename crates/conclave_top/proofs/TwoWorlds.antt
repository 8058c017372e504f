-- The files of two worlds: those of the second are read behind those of the first, and looked at behind them.
use Rattle.std.proofs.Common.{◌≡◌, ℕ, List, [], ◌++◌, Result, Ok, Err, refl, ap, sym}
use Rattle.std.specs.Prelude.{Vec}
use Rattle.std.specs.Global.{Global}
use Rattle.std.proofs.lemmas.List.{append-nil}
use Rattle.tables.specs.Content as table
use Rattle.conclave_top.specs.declared.end.End.{End}
use Rattle.conclave_top.specs.declared.end.Stop.{Stop}
use Rattle.conclave_top.specs.declared.end.Stop.TheVariants as lines
use Rattle.conclave_top.specs.declared.worlds.Two.{Two}
use Rattle.conclave_top.specs.Audit.{GivesBoth}
use Rattle.conclave_top.specs.Effect.{HasRead}
use Rattle.conclave_top.specs.End.{EndedReading}
use Rattle.conclave_top.specs.Job.{reading}
use Rattle.conclave_top.specs.Outside.{FolderState}
use Rattle.conclave_top.specs.Relations.{GivesTables}
use Rattle.conclave_top.proofs.Folders.{read_nothing}
use Rattle.conclave_top.proofs.ReadTapes.{ended_then}

-- a read that ended is that of both, whether it is the first or the second
pub ended_first : (names more : List (List ℕ)) (old new : FolderState) (end : End) → EndedReading (reading names) old new end → EndedReading (reading (names ++ more)) old new end
ended_first names more old new end ends = ended_then [] names more (names ++ more) old old new end refl (read_nothing old) ends

pub ended_second : (names more : List (List ℕ)) (old mid new : FolderState) (end : End) → HasRead names old mid → EndedReading (reading more) mid new end → EndedReading (reading (names ++ more)) old new end
ended_second names more old mid new end read ends = ended_then names more [] (names ++ more) old mid new end (ap (λ ns. names ++ ns) (sym (append-nil more))) read ends

-- a file that is no table, of the first world or of the second
pub gives_first : (stop : Stop) (first second : Result (List table.Content) (List ℕ)) → GivesTables (Err stop) first → GivesBoth (Err stop) first second
gives_first (lines.Line line) first second gives = rw gives refl
gives_first lines.Memory first second gives = tt

pub gives_second : (stop : Stop) (tables : List table.Content) (first second : Result (List table.Content) (List ℕ)) → first ≡ Ok tables → GivesTables (Err stop) second → GivesBoth (Err stop) first second
gives_second (lines.Line line) tables first second read gives = rw (read, gives) refl
gives_second lines.Memory tables first second read gives = tt

-- or the tables of both
pub gives_both : (tables : Two (Vec table.Content Global)) (first second : Result (List table.Content) (List ℕ)) → first ≡ Ok tables.first.items → second ≡ Ok tables.second.items → GivesBoth (Ok tables) first second
gives_both tables first second one other = rw (one, other) refl
