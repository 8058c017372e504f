-- The file of a party's view: all words that it gets, from the next party and then from the one before, each list behind its
-- count, in numbers of 8 bytes with the high byte first.
use Rattle.std.specs.Prelude.{ℕ, List, ◌++◌, length}
use Rattle.std.specs.Int.{w64, to_be_bytes}
use Rattle.std.specs.List.{flat_map}
use Rattle.lanes.specs.Party.{next, before}
use Rattle.lanes.specs.declared.party.Party.{Party}
use Rattle.step_lists.specs.Phases.{Links, link}

abbrev pub counted : List ℕ → List ℕ
counted words = to_be_bytes w64 (length words) ++ flat_map (λ word. to_be_bytes w64 word) words

abbrev pub view_bytes : Links → Party → List ℕ
view_bytes links party = counted (link (next party) party links) ++ counted (link (before party) party links)
