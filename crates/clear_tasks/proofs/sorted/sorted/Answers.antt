use Rattle.std.proofs.Common.{take, ap, ◌∙◌}
use Rattle.std.proofs.lemmas.Result.{IfOk-weaker}
use Rattle.clear_tasks.proofs.Parts.{sorted-parts}
use Rattle.clear_tasks.proofs.sorted.sorted.Goals as goal

pub returns : goal.returns
returns c =
    let same = sorted-parts c.args.takes.now.items c.args.columns _ c.index.result.now _ c.requires (ap (take c.args.columns) c.deref.ensures.value) c.index.ensures c.deref-2.ensures.value in
    IfOk-weaker c.sorted_rows.result _ _ (λ table e. e ∙ same) c.sorted_rows.ensures
