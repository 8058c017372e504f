use Rattle.std.proofs.Common.{sym}
use Rattle.joint_machine.specs.Left.{left}
use Rattle.joint_machine.proofs.Drawing.{same_three}
use Rattle.joint_machine.proofs.Masks.{next_alone, takes_alone}
use Rattle.joint_machine.proofs.Taking.{words_long}
use Rattle.joint_machine.proofs.draws.draw_masks.Goals as goal
use Rattle.lanes.specs.declared.party.Party.TheVariants.{First, Second, Third}

pub next_words-requires : goal.next_words-requires
next_words-requires c = next_alone c.cursor_laws.ensures c.args.count (left c.args.tapes.now.first) (c.requires First)

pub next_words-requires-2 : goal.next_words-requires-2
next_words-requires-2 c = next_alone c.cursor_laws.ensures c.args.count (left c.args.tapes.now.second) (c.requires Second)

pub next_words-requires-3 : goal.next_words-requires-3
next_words-requires-3 c = next_alone c.cursor_laws.ensures c.args.count (left c.args.tapes.now.third) (c.requires Third)

pub returns : goal.returns
returns c =
    let bulk = c.cursor_laws.ensures in
    let n = c.args.count in
    let x = left c.args.tapes.now.first in
    let y = left c.args.tapes.now.second in
    let z = left c.args.tapes.now.third in
    let a = c.next_words.ensures in
    let b = c.next_words-2.ensures in
    let d = c.next_words-3.ensures in
    let one = takes_alone bulk n x c.next_words.result.now (left c.next_words.new.cursor) a.words a.left in
    let two = takes_alone bulk n y c.next_words-2.result.now (left c.next_words-2.new.cursor) b.words b.left in
    let three = takes_alone bulk n z c.next_words-3.result.now (left c.next_words-3.new.cursor) d.words d.left in
    record {
      rows =
          record {
            first = words_long bulk n x c.next_words.result.now a.words;
            second = words_long bulk n y c.next_words-2.result.now b.words;
            third = words_long bulk n z c.next_words-3.result.now d.words;
          };
      masks = same_three _ _ (sym one.words) (sym two.words) (sym three.words);
      left = same_three _ _ (sym one.left) (sym two.left) (sym three.left);
    }
