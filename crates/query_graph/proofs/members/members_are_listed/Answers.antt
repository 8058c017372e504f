use Rattle.query_graph.proofs.PartyMembers.{members_are_listed}
use Rattle.query_graph.proofs.members.members_are_listed.Goals as goal

pub returns : goal.returns
returns c = members_are_listed
