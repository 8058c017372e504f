use Rattle.std.proofs.Common.{sym, ◌∙◌, subst}
use Rattle.places.specs.Cost.{AreSmall}
use Rattle.places.proofs.total.output_words.Goals as goal

pub rows_at-requires : goal.rows_at-requires
rows_at-requires c = subst AreSmall (sym (c.deref.ensures.value ∙ c.nodes-nodes.ensures.nodes)) c.requires.small

pub width_at-requires : goal.width_at-requires
width_at-requires c = subst AreSmall (sym (c.deref-2.ensures.value ∙ c.nodes-nodes.ensures.nodes)) c.requires.small
