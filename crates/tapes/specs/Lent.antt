-- A draw that is lent.
use Rattle.tapes.specs.declared.draw.Draw.{Draw}
use Rattle.tapes.specs.declared.draw.Draw.TheVariants.{Word, Order}
use Rattle.tapes.specs.declared.draw.LentDraw.{LentDraw}
use Rattle.tapes.specs.declared.draw.LentDraw.TheVariants.{Word as LentWord, Order as LentOrder}

-- the draw itself
abbrev pub lent : LentDraw → Draw
lent (LentWord w) = Word w
lent (LentOrder o) = Order o.now
