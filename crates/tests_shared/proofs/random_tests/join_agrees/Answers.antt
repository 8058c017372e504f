use Rattle.std.proofs.Common.{◌≡◌, ℕ, ◌<◌, List, length, get_or, sym, subst}
use Rattle.std.specs.Borrow.{Bor}
use Rattle.std.specs.Prelude.{All}
use Rattle.plain_operators.specs.Operators.{left_keys, right_keys}
use Rattle.plain_operators.specs.Within.{EachFits, HasColumns}
use Rattle.tests_shared.proofs.random_tests.join_agrees.Goals as goal

-- rows of two words have these columns
each_fits : (rows others : List (Bor (List ℕ))) (columns : List ℕ) → others ≡ rows → All (λ row. length row.now ≡ 2) rows → HasColumns columns 2 → EachFits (HasColumns columns) others
each_fits rows others columns same two within =
    subst (λ (all : List (Bor (List ℕ))). EachFits (HasColumns columns) all) (sym same) (λ k d inside j e w. subst (λ n. get_or columns j e < n) (sym (two k d inside)) (within j e w))

pub joined_rows-requires-clause-of_left : goal.joined_rows-requires-clause-of_left
joined_rows-requires-clause-of_left c = each_fits c.in_ok-lefts.lefts.items c.deref.result.now (left_keys c.args.keys.now) c.deref.ensures.value c.in_ok-lefts.ensures c.requires.left

pub joined_rows-requires-clause-of_right : goal.joined_rows-requires-clause-of_right
joined_rows-requires-clause-of_right c = each_fits c.in_ok-rights.rights.items c.deref-2.result.now (right_keys c.args.keys.now) c.deref-2.ensures.value c.in_ok-rights.ensures c.requires.right
