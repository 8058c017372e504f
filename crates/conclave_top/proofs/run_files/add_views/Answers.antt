use Rattle.conclave_top.proofs.Answered.{added_views}
use Rattle.conclave_top.proofs.run_files.add_views.Goals as goal

pub returns : goal.returns
returns c =
    added_views c.args.name.now c.args.run.now.links c.args.results.now c.add_view.new.results c.add_view-2.new.results c.add_view-3.new.results
    c.in_ok-add_view.ensures c.in_ok-add_view-2.ensures c.in_ok-add_view-3.ensures
