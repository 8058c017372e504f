use Rattle.std.proofs.Common.{Err, sym}
use Rattle.std.proofs.lemmas.Result.{err_from_is_err_and}
use Rattle.query_graph.proofs.Finished.{finished}
use Rattle.query_graph.proofs.Made.{told}
use Rattle.query_graph.proofs.builder.build.Goals as goal

pub new-requires : goal.new-requires
new-requires c =
    record {
      graph = finished c.query.inside.statements c.in_ok-draft.draft c.query.invariant (rw c.as_slice.ensures.value at c.in_ok-draft.ensures.exact) c.in_ok-draft.ensures.draft;
    }

pub returns-in_err-draft-clause-first : goal.returns-in_err-draft-clause-first
returns-in_err-draft-clause-first c =
    let p = err_from_is_err_and c.from_residual.result c.from_residual.ensures.1 in
    rw (p.1, p.2, sym c.query.view_is) (told c.query.inside.statements (Err c.in_err-draft.field-0.0) (rw c.as_slice.ensures.value at c.in_err-draft.ensures.exact)).1
