-- Words of one tape alone.
use Rattle.std.proofs.Common.{◌≡◌, ℕ, Some, List, [], ◌++◌, replicate, drop, sym, subst}
use Rattle.std.proofs.lemmas.List.{append-nil}
use Rattle.tapes.specs.declared.draw.Need.TheVariants.{Word as NeedsWord}
use Rattle.tapes.specs.declared.draw.Draw.{Draw}
use Rattle.tapes.specs.Reading.{first_words}
use Rattle.tapes.specs.ReadingLaws.{WordsInBulk}
use Rattle.joint_machine.specs.Left.{HasWords, IsNext, Takes}
use Rattle.joint_machine.proofs.Taking.{words_next, takes_none, takes_words}

pub next_alone : WordsInBulk → (n : ℕ) (ds : List Draw) → IsNext (replicate n NeedsWord) ds → HasWords n ds
next_alone bulk n ds h = (words_next bulk n h.0 ds h.1).has

pub takes_alone : WordsInBulk → (n : ℕ) (ds : List Draw) (ws : List ℕ) (rest : List Draw) → first_words n ds ≡ Some ws → rest ≡ drop n ds → Takes (replicate n NeedsWord) ds ws [] rest
takes_alone bulk n ds ws rest e f =
    subst (λ ns. Takes ns ds ws [] rest) (append-nil (replicate n NeedsWord))
    (subst (λ ws. Takes (replicate n NeedsWord ++ []) ds ws [] rest) (append-nil ws)
    (subst (λ rest. Takes (replicate n NeedsWord ++ []) ds (ws ++ []) [] rest) (sym f)
    (takes_words bulk n [] ds ws [] [] (drop n ds) e (takes_none (drop n ds)))))
