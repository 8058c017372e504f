-- What a node makes is a joint table.
use Rattle.std.proofs.Common.{ℕ, List, Option, Some, None}
use Rattle.std.specs.Prelude.{IsSomeAnd}
use Rattle.wires.specs.Environment.{Environment}
use Rattle.plain_operators.specs.OnSources.{Operator}
use Rattle.shared_ops.specs.declared.joint.Joint.{Joint}
use Rattle.shared_ops.specs.Joint.{IsJoint}
use Rattle.shared_ops.specs.Nodes.{MakesOf}

pub joint_of : (possible : Environment → Type 0) (shape : List ℕ) (t : Joint) (tables : List Joint) (o : Option Operator) → IsSomeAnd o (λ operator. MakesOf possible shape t operator tables) → IsJoint shape t
joint_of possible shape t tables None h = absurd h
joint_of possible shape t tables (Some operator) h = h.joint
