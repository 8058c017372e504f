-- A machine that fits its layout stays so, step by step.
use Rattle.std.proofs.Common.{ℕ, Bool, List, sym, refl, subst, arith}
use Rattle.lanes.specs.declared.party.Party.{Party}
use Rattle.lanes.specs.declared.three.Three.{Three}
use Rattle.lanes.specs.Three.{at}
use Rattle.step_lists.specs.declared.step.Shape.{Shape}
use Rattle.step_lists.specs.Layout.{grown, starting}
use Rattle.step_lists.specs.Rules.{fits_layout, is_small}
use Rattle.step_lists.specs.Shapes.{HaveShapes, IsLawful}
use Rattle.step_lists.specs.Open.{SlotWords, open_step, opening}
use Rattle.step_lists.specs.Possible.{SlotsFit}
use Rattle.step_lists.specs.Machine.{machine_step, step_words, before_steps}
use Rattle.joint_machine.specs.Fitting.{IsFitting, StepsFit}
use Rattle.joint_machine.proofs.Ahead.{few_behind}
use Rattle.joint_machine.proofs.Facts.{Facts}
use Rattle.joint_machine.proofs.Listing.{both}
use Rattle.joint_machine.proofs.SharesOpened.{step_kept, handed, starts_fit}

module _ {T : Type 0} (accepts : T → List Shape → List Shape → Bool) (answer : T → List (List ℕ) → List (List ℕ)) where
  starts : (first : Three (List ℕ)) (slots : SlotWords) → SlotsFit first slots → IsFitting (starting first) (before_steps slots)
  starts first slots h = record {
    values = opening slots;
    opens = record { registers = refl; slots = refl; flags = refl; stop = refl };
    registers = (starts_fit accepts answer first slots h).registers;
    slots = (starts_fit accepts answer first slots h).slots;
    long = tt;
    few = omega arith;
  }

  pub steps_fit : Facts → IsLawful accepts answer → StepsFit accepts answer
  steps_fit facts law = record {
    starts = starts;
    ready = λ l m s ds fine next h. record {
      fine = fine;
      long = h.long;
      slots = λ p. subst (λ xs. HaveShapes (at p l.slots) (at p xs)) (sym h.opens.slots) (h.slots p);
      few = h.few;
      draws = next;
    };
    stepped = λ l m s ds fine drawn h.
        let may = both (fits_layout accepts l s) (is_small (grown l s)) fine in
        let kept = handed accepts answer (step_words l m s ds) (grown l s) (machine_step answer l m s ds) (open_step answer h.values s ds)
        (step_kept accepts answer facts law l m h.values s ds may.0 drawn (record { opens = h.opens; long = h.long; fits = record { registers = h.registers; slots = h.slots } })) in
        record {
          values = open_step answer h.values s ds;
          opens = kept.opens;
          registers = kept.fits.registers;
          slots = kept.fits.slots;
          long = kept.long;
          few = few_behind accepts answer l m s ds h.few;
        };
  }
