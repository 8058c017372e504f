-- What a push does: the step is behind the list exactly where it may come next; else it comes back.
use Rattle.std.specs.Prelude.{◌≡◌, Bool, List, [], ◌∷◌, IsTrue, IsFalse, Result, Ok, Err, ⊤}
use Rattle.step_lists.specs.declared.step.Shape.{Shape}
use Rattle.step_lists.specs.declared.step_list.ListFault.{ListFault}
use Rattle.step_lists.specs.declared.step_list.ListFault.TheVariants.{IllFormed, Memory}
use Rattle.step_lists.specs.Layout.{Steps, Step, layout_of}
use Rattle.step_lists.specs.Possible.{behind}
use Rattle.step_lists.specs.Rules.{is_fine}

abbrev pub Pushed : {T : Type 0} → (T → List Shape → List Shape → Bool) → Steps T → Steps T → Step T → Result ⊤ (ListFault T) → Type 0
Pushed accepts old new step (Ok u) = IsTrue (is_fine accepts (layout_of old) step) × (new ≡ behind old (step ∷ []))
Pushed accepts old new step (Err (IllFormed back)) = IsFalse (is_fine accepts (layout_of old) step) × (back ≡ step) × (new ≡ old)
Pushed accepts old new step (Err (Memory back)) = (back ≡ step) × (new ≡ old)
