-- How what a plan keeps is seen.
use Rattle.std.specs.Prelude.{◌≡◌, None}
use Rattle.trust_sets.specs.Trust.{trust_of}
use Rattle.lowering.specs.FirstSlots.{first_lengths}
use Rattle.lowering.specs.Plan as seen
use Rattle.lowering.specs.Unbuilt.{unbuilt}
use Rattle.lowering.specs.declared.plan.Plan.TheInside.{Inside}

abbrev pub plan_of : Inside → seen.Plan
plan_of p = record { text = p.text.items; graph = p.graph; list = p.list; ends = p.ends.items; answers = p.answers.items }

-- the trust is the graph's, the first slots are those of its relations, and nothing of it isn't built
pub record IsKept (p : Inside) : Type 0 where
  pub trust_is : p.trust ≡ trust_of p.graph.nodes
  pub first_is : p.list.first ≡ first_lengths p.graph.nodes
  pub built : unbuilt p.graph ≡ None
