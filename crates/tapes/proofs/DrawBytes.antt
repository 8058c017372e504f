-- The bytes of a tape, draw by draw.
use Rattle.std.proofs.Common.{◌≡◌, ℕ, ◌+◌, ◌<◌, List, ◌++◌, Some, length, get_or, take, sym, ◌∙◌, ap}
use Rattle.std.specs.Prelude.{slice_get}
use Rattle.std.proofs.lemmas.List.{take_more}
use Rattle.std.proofs.lemmas.Option.{slice_get-get_or}
use Rattle.tapes.specs.declared.draw.Draw.{Draw}
use Rattle.tapes.specs.declared.draw.Draw.TheVariants.{Word}
use Rattle.tapes.specs.Bytes.{draw_bytes, tape_bytes}
use Rattle.tapes.proofs.Spelling.{tape_bytes_more}

-- the bytes of one draw more
pub bytes_one : (ds : List Draw) (i : ℕ) (bytes new : List ℕ) → i < length ds → bytes ≡ tape_bytes (take i ds)
    → ((x : Draw) → slice_get ds i ≡ Some x → new ≡ bytes ++ draw_bytes x) → new ≡ tape_bytes (take (i + 1) ds)
bytes_one ds i bytes new h e f =
    let x = get_or ds i (Word 0) in
    f x (slice_get-get_or ds i (Word 0) h) ∙ ap (λ bs. bs ++ draw_bytes x) e ∙ sym (tape_bytes_more (take i ds) x)
    ∙ ap tape_bytes (sym (take_more ds i (Word 0) h))
