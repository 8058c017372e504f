-- The names of files that belong to a party.
use Rattle.std.specs.Prelude.{ℕ, List, [], ◌∷◌, ◌++◌, codes}
use Rattle.lanes.specs.Party.{number_of}
use Rattle.lanes.specs.declared.party.Party.{Party}
use Rattle.lanes.specs.declared.party.Party.TheVariants.{First, Second, Third}
use Rattle.query_graph.specs.declared.node.Node.{Node}
use Rattle.conclave_top.specs.PlanText.{digit}

-- what each party has, in their order
abbrev pub of_parties : {A : Type 0} → (Party → A) → List A
of_parties f = f First ∷ f Second ∷ f Third ∷ []

-- a party's digit
abbrev pub digit_of : Party → List ℕ
digit_of party = digit (number_of party) ∷ []

-- the file of a tape, that of its twin, that of a party's view, and that of a node's answer to a party
abbrev pub tape_file : List ℕ → Party → List ℕ
tape_file tapes party = tapes ++ (codes "." ++ digit_of party)

abbrev pub twin_file : List ℕ → Party → List ℕ
twin_file tapes party = tapes ++ (codes ".twin." ++ digit_of party)

abbrev pub view_file : List ℕ → Party → List ℕ
view_file tapes party = tapes ++ (codes ".view." ++ digit_of party)

abbrev pub answer_file : Node → Party → List ℕ
answer_file node party = node.name ++ (codes ".to" ++ (digit_of party ++ codes ".csv"))
