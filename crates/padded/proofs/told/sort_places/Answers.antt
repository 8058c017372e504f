use Rattle.std.proofs.Common.{rules, is_lt}
use Rattle.std.proofs.lemmas.Fn.{always_returns_same}
use Rattle.std.proofs.lemmas.List.Sorted.{ranks_by}
use Rattle.std.proofs.lemmas.Cmp.{nat_list_cmp_total}
use Rattle.bags.specs.Sorted.{row_cmp}
use Rattle.tapes.specs.RowLaws.{row_across}
use Rattle.listed.specs.Lists.{owned}
use Rattle.padded.proofs.SortedPlaces.{sorted_places}
use Rattle.padded.proofs.told.sort_places.Goals as goal

pub returns : goal.returns
returns c =
    let key = row_across (owned c.args.columns.now) in
    sorted_places c.sorted_is_unique.ensures key c.args.places.now.items c.sort_unstable_by.new.self.items c.sort_unstable_by.ensures.permutation
    (c.sort_unstable_by.ensures.sorted (λ a b. is_lt (row_cmp (key a) (key b))) (ranks_by nat_list_cmp_total key) (always_returns_same _ _ _ (λ a r f k. search rules)))
