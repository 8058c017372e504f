use Rattle.std.proofs.Common.{[], ◌++◌}
use Rattle.joint_machine.specs.Left.{left}
use Rattle.joint_machine.proofs.Drawing.{words, read_words, takes_as, plain_share, one_end}
use Rattle.joint_machine.proofs.Masks.{takes_alone}
use Rattle.joint_machine.proofs.Taking.{takes_none, words_long}
use Rattle.joint_machine.proofs.draws.share_draws.Goals as goal

pub returns-clause-own_long : goal.returns-clause-own_long
returns-clause-own_long c = words_long c.cursor_laws.ensures c.args.count (left c.args.own.now) c.next_words-own.result.now c.next_words-own.ensures.words

pub returns-clause-following_long : goal.returns-clause-following_long
returns-clause-following_long c =
    words_long c.cursor_laws.ensures c.args.count (left c.args.following.now) c.next_words-following.result.now c.next_words-following.ensures.words

pub returns-clause-own : goal.returns-clause-own
returns-clause-own c =
    let n = c.args.count in
    let ds = left c.args.own.now in
    let rest = left c.next_words-own.new.cursor in
    let ws = c.next_words-own.result.now in
    takes_as (words n ++ []) ds (ws ++ []) ws [] rest (λ r. words n ++ r) (plain_share n) (one_end ws)
    (read_words c.cursor_laws.ensures n [] ds rest ws [] [] rest c.next_words-own.ensures.words c.next_words-own.ensures.left (takes_none rest))

pub returns-clause-following : goal.returns-clause-following
returns-clause-following c =
    takes_alone c.cursor_laws.ensures c.args.count (left c.args.following.now) c.next_words-following.result.now (left c.next_words-following.new.cursor)
    c.next_words-following.ensures.words c.next_words-following.ensures.left
