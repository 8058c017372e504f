-- What the wires carry: an environment gives each wire's number a list of words, one a lane.
use Rattle.std.specs.Prelude.{ℕ, List}
use Rattle.std.specs.List.{flat_map}
use Rattle.wires.specs.declared.wire.Wire.{Wire}

abbrev pub Environment : Type 0
Environment = ℕ → List ℕ

-- the words of a wire
abbrev pub words : Environment → Wire → List ℕ
words v wire = v wire.0

-- the words of several wires, one wire after the other
abbrev pub all_words : Environment → List Wire → List ℕ
all_words v wires = flat_map (λ wire. words v wire) wires
