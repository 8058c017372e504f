-- One run over steps, for all that a list means. What a step takes of its input the layout alone says, so no run's
-- state holds draws or received words.
use Rattle.std.specs.Prelude.{List, [], ◌∷◌, ◌++◌}
use Rattle.step_lists.specs.Layout.{Step, Layout, grown}
use Rattle.step_lists.specs.Draws.{ThreeTapes, needs_of, taken, dropped}

-- how a step's part is cut from an input, and what is left
pub record Cut (T I : Type 0) : Type 0 where
  pub first : Layout → Step T → I → I
  pub rest : Layout → Step T → I → I

-- the state behind the steps
abbrev pub run : {T A I : Type 0} → (Layout → A → Step T → I → A) → Cut T I → Layout → A → List (Step T) → I → A
run f cut l a [] i = a
run f cut l a (s ∷ ss) i = run f cut (grown l s) (f l a s (cut.first l s i)) ss (cut.rest l s i)

-- what the steps put out, one after the other
abbrev pub outs : {T A I O : Type 0} → (Layout → A → Step T → I → A) → (Layout → A → Step T → I → List O) → Cut T I → Layout → A → List (Step T) → I → List O
outs f g cut l a [] i = []
outs f g cut l a (s ∷ ss) i = g l a s (cut.first l s i) ++ outs f g cut (grown l s) (f l a s (cut.first l s i)) ss (cut.rest l s i)

-- what the steps leave of the input
abbrev pub rest_after : {T I : Type 0} → Cut T I → Layout → List (Step T) → I → I
rest_after cut l [] i = i
rest_after cut l (s ∷ ss) i = rest_after cut (grown l s) ss (cut.rest l s i)

-- three tapes are cut by what each step draws
abbrev pub tape_cut : {T : Type 0} → Cut T ThreeTapes
tape_cut = record { first = λ l s ds. taken (needs_of l s) ds; rest = λ l s ds. dropped (needs_of l s) ds }
