-- What is written on a node: its sources, bounds and parties.
use Rattle.std.specs.Prelude.{ℕ, Bool, true, false, List, [], ◌∷◌, Option, None}
use Rattle.query_graph.specs.declared.operator.Operator.{Operator}
use Rattle.query_graph.specs.declared.operator.Operator.TheVariants.{Relation, Filter, Select, Concat, Join, Group, Distinct}

-- whether it is the rows of a file
abbrev pub is_relation : Operator → Bool
is_relation (Relation r) = true
is_relation _ = false

-- the numbers of its source nodes, in the order in which they are written
abbrev pub sources_of : Operator → List ℕ
sources_of (Relation r) = []
sources_of (Filter f) = f.source ∷ []
sources_of (Select s) = s.source ∷ []
sources_of (Concat c) = c.sources
sources_of (Join j) = j.left ∷ j.right ∷ []
sources_of (Group g) = g.source ∷ []
sources_of (Distinct d) = d.source ∷ []

-- the bound on its rows
abbrev pub at_most_of : Operator → Option ℕ
at_most_of (Relation r) = None
at_most_of (Filter f) = f.at_most
at_most_of (Select s) = None
at_most_of (Concat c) = None
at_most_of (Join j) = j.at_most
at_most_of (Group g) = g.at_most
at_most_of (Distinct d) = d.at_most

-- the bound on the groups of each party's parts
abbrev pub parts_at_most_of : Operator → Option ℕ
parts_at_most_of (Relation r) = None
parts_at_most_of (Filter f) = None
parts_at_most_of (Select s) = None
parts_at_most_of (Concat c) = None
parts_at_most_of (Join j) = None
parts_at_most_of (Group g) = g.parts_at_most
parts_at_most_of (Distinct d) = None

-- the party at which it is worked out in the clear
abbrev pub clear_at_of : Operator → Option ℕ
clear_at_of (Relation r) = None
clear_at_of (Filter f) = f.clear_at
clear_at_of (Select s) = s.clear_at
clear_at_of (Concat c) = None
clear_at_of (Join j) = j.clear_at
clear_at_of (Group g) = g.clear_at
clear_at_of (Distinct d) = d.clear_at

-- the party that sees its keys
abbrev pub via_of : Operator → Option ℕ
via_of (Relation r) = None
via_of (Filter f) = None
via_of (Select s) = None
via_of (Concat c) = None
via_of (Join j) = j.via
via_of (Group g) = g.via
via_of (Distinct d) = None
