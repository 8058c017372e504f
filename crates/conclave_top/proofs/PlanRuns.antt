-- The run of a correct plan on the slots of a world, with tapes that fit.
use Rattle.std.proofs.Common.{◌≡◌, ◌∙◌, suc, List, [], ◌∷◌, length, Result, Ok, Err, refl, ap, sym, subst}
use Rattle.std.specs.Prelude.{IfOk}
use Rattle.std.specs.List.{AllZip}
use Rattle.bags.specs.Bag.{SameBag}
use Rattle.clear_tasks.specs.ClearTask.{accepts, answer}
use Rattle.lanes.specs.Three.{at}
use Rattle.lanes.specs.declared.party.Party.{Party}
use Rattle.lowering.specs.Plan.{IsCorrect, Plan, answer_rows}
use Rattle.plain_meaning.specs.Fits.{IsWorldOf}
use Rattle.plain_meaning.specs.Meaning.{meanings, rows_of}
use Rattle.plain_meaning.specs.Plain.{rows_of_tables}
use Rattle.step_lists.specs.Draws.{ThreeTapes, needs}
use Rattle.step_lists.specs.Layout.{layout_of, starting}
use Rattle.step_lists.specs.Laws.{ValuesHaveShapes}
use Rattle.step_lists.specs.Open.{SlotWords, open_of}
use Rattle.step_lists.specs.Possible.{FitsFront, Possible, SlotsFit, TapesFit}
use Rattle.step_lists.specs.Rules.{IsWellFormed}
use Rattle.step_lists.specs.Shapes.{HasShape}
use Rattle.tables.specs.Content as table
use Rattle.tapes.specs.Needs.{FitsNeeds}
use Rattle.tapes.specs.declared.draw.Draw.{Draw}
use Rattle.tapes.specs.declared.draw.Need.{Need}
use Rattle.conclave_top.specs.Added.{HoldAnswers}
use Rattle.conclave_top.specs.Run.{first_slots_of}

-- what follows of a result, where there is one
pub if_ok : {A E : Type 0} {P Q : A → Type 0} (r : Result A E) → ((x : A) → P x → Q x) → IfOk r P → IfOk r Q
if_ok (Ok x) f p = f x p
if_ok (Err e) f p = tt

-- draws that fit begin with draws that fit
front_of : (ns : List Need) (ds : List Draw) → FitsNeeds ns ds → FitsFront ns ds
front_of [] ds fits = tt
front_of (n ∷ ns) [] fits = absurd fits
front_of (n ∷ ns) (d ∷ ds) fits = (fits.0, front_of ns ds fits.1)

zipped_length : {A B : Type 0} (R : A → B → Type 0) (xs : List A) (ys : List B) → AllZip R xs ys → length ys ≡ length xs
zipped_length R [] [] all = refl
zipped_length R [] (y ∷ ys) all = absurd all
zipped_length R (x ∷ xs) [] all = absurd all
zipped_length R (x ∷ xs) (y ∷ ys) all = ap suc (zipped_length R xs ys all.1)

-- the run doesn't stop
possible_run : (plan : Plan) (tables : List table.Content) (draws : ThreeTapes) → IsCorrect plan → IsWorldOf plan.graph.nodes (rows_of_tables tables) → SlotsFit plan.list.first (first_slots_of plan tables)
    → TapesFit plan.list draws → Possible answer plan.list (first_slots_of plan tables) draws
possible_run plan tables draws correct fits slots_fit tapes_fit = record {
  fits = record { slots_fit = slots_fit; tapes_fit = λ p. front_of (needs p (starting plan.list.first) plan.list.steps) (at p draws) (tapes_fit p) };
  going = correct.goes (record { rows = rows_of_tables tables; fits = fits }) draws tapes_fit;
}

-- it makes all slots
pub run_is_whole : (plan : Plan) (tables : List table.Content) (draws : ThreeTapes) (slots : SlotWords) → ValuesHaveShapes accepts answer → IsWellFormed accepts plan.list → IsCorrect plan
    → IsWorldOf plan.graph.nodes (rows_of_tables tables) → SlotsFit plan.list.first (first_slots_of plan tables) → TapesFit plan.list draws
    → slots ≡ (open_of answer plan.list (first_slots_of plan tables) draws).slots → (p : Party) → length (at p slots) ≡ length (at p (layout_of plan.list).slots)
run_is_whole plan tables draws slots shapes formed correct fits slots_fit tapes_fit is p =
    let possible = possible_run plan tables draws correct fits slots_fit tapes_fit in
    let values = open_of answer plan.list (first_slots_of plan tables) draws in
    ap (λ ss. length (at p ss)) is ∙ zipped_length HasShape (at p (layout_of plan.list).slots) (at p values.slots) ((shapes plan.list (first_slots_of plan tables) draws formed possible).slots p)

-- and each recipient's slots hold its answer
pub run_holds : (plan : Plan) (tables : List table.Content) (draws : ThreeTapes) (slots : SlotWords) → IsCorrect plan → IsWorldOf plan.graph.nodes (rows_of_tables tables) → TapesFit plan.list draws
    → slots ≡ (open_of answer plan.list (first_slots_of plan tables) draws).slots → HoldAnswers plan tables slots
run_holds plan tables draws slots correct fits tapes_fit is number output party here has =
    subst (λ ss. SameBag (answer_rows plan output number party (at party ss)) (rows_of (meanings plan.graph.nodes (rows_of_tables tables)) output.node)) (sym is)
    (correct.answers (record { rows = rows_of_tables tables; fits = fits }) draws tapes_fit number output party here has)
