-- Each kind of step in both worlds, from what its part of the code says.
use Rattle.std.proofs.Common.{◌≡◌, ℕ, ◌<◌, ◌^◌, Bool, true, false, List, [], ◌∷◌, Result, Ok, Err, IfErr, OnOk, length, refl, sym, subst, ap, ◌∙◌}
use Rattle.bags.specs.Bag.{SameBag}
use Rattle.lanes.specs.declared.party.Party.{Party}
use Rattle.lanes.specs.declared.party.Party.TheVariants.{First, Second, Third}
use Rattle.lanes.specs.Party.{before}
use Rattle.lanes.specs.Three.{at}
use Rattle.step_lists.specs.declared.step.Step.TheVariants.{Reveal, Tell, Flag}
use Rattle.step_lists.specs.Layout.{Layout, party_of, length_of, rows_moved}
use Rattle.step_lists.specs.Draws.{ThreeTapes, needs_reveal, needs_steer, taken}
use Rattle.step_lists.specs.Machine.{Machine, slot_of}
use Rattle.step_lists.specs.Seen.{Seen, Rows, Told, Flagged, Alike, AreAlike, none, also, same_rows, same_told, same_flag, same_party, only}
use Rattle.step_lists.specs.Twin.{changed, open_rows, twin_reveal, twin_steer}
use Rattle.joint_machine.specs.Steps.{rows_of_all}
use Rattle.twin.specs.declared.fault.TwinFault.{TwinFault}
use Rattle.twin.specs.declared.fault.TwinFault.TheVariants.{NotAligned, Memory}
use Rattle.twin.specs.Compared.{AreFactors, AreMovable, IsRowsFault, IsToldFault, IsWordsFault}
use Rattle.twin.specs.Passing.{IsStepFault}
use Rattle.twin.specs.Steered.{IsPrivate}
use Rattle.twin.proofs.Readied.{AndReady, IsReadyMoved, SteerReady, rows_short}

pub err_map : {A E : Type 0} (P Q : E → Type 0) (r : Result A E) → ((e : E) → P e → Q e) → IfErr r P → IfErr r Q
err_map P Q (Ok a) f h = tt
err_map P Q (Err e) f h = f e h

pub on_map : {A E P Q : Type 0} (r : Result A E) → (P → Q) → OnOk r P → OnOk r Q
on_map (Ok a) f h = f h
on_map (Err e) f h = tt

-- ---- what the parts ask for

pub factors : (m : Machine) (left right n k : ℕ) → n ≡ k → AndReady m left right k → AreFactors m left right n
factors m left right n k e h = subst (AreFactors m left right) (sym e) (record { made_left = h.made_left; made_right = h.made_right; left_rows = h.rows_left; right_rows = h.rows_right })

pub movable : (l : Layout) (x y : Machine) (moved : List ℕ) → ((r : ℕ) → length_of l r < 2 ^ 32) → IsReadyMoved l x moved → IsReadyMoved l y moved
    → AreMovable x y (rows_of_all x moved) moved
movable l x y moved short h i = subst (λ n. AreMovable x y n moved) (sym h.same) (record {
  some = h.some;
  made_one = h.made;
  made_other = i.made;
  rows_one = h.rows;
  rows_other = i.rows;
  short = rows_short l moved short;
})

pub private_of : (l : Layout) (m : Machine) (p : Party) (slot : ℕ) (moved : List ℕ) (n : ℕ) → n ≡ rows_moved l moved → SteerReady l m p slot moved → IsPrivate m p slot n
private_of l m p slot moved n e h = record { made = h.made; order = h.order; long = h.long ∙ sym e }

-- ---- Reveal

same_back : (p q : Party) → same_party p q ≡ same_party q p
same_back First First = refl
same_back First Second = refl
same_back First Third = refl
same_back Second First = refl
same_back Second Second = refl
same_back Second Third = refl
same_back Third First = refl
same_back Third Second = refl
same_back Third Third = refl

only_alike : (b : Bool) (x y : Seen) → (b ≡ true → Alike x y) → AreAlike (only b x) (only b y)
only_alike true x y h = also (h refl) none
only_alike false x y h = none

abbrev pub RevealChanged : Party → Machine → Machine → ThreeTapes → List ℕ → List ℕ → Party → List ℕ → List ℕ → ℕ → Type 0
RevealChanged v x y left order words to moved shown n =
    changed order words (at (before v) (taken (needs_reveal (length moved) n) left)) ≡ twin_reveal v to n moved shown x y (taken (needs_reveal (length moved) n) left)

pub reveal_changed : (v : Party) (x y : Machine) (left : ThreeTapes) (order words : List ℕ) (to to' : Party) (moved moved' shown shown' : List ℕ) (n : ℕ) → to' ≡ to → moved' ≡ moved → shown' ≡ shown
    → rows_of_all x moved ≡ n → RevealChanged v x y left order words to' moved' shown' (rows_of_all x moved') → RevealChanged v x y left order words to moved shown n
reveal_changed v x y left order words to to' moved moved' shown shown' n e f g k h =
    subst (λ m. RevealChanged v x y left order words to moved shown m) k
    (subst (λ s. RevealChanged v x y left order words to moved s (rows_of_all x moved)) g
    (subst (λ m. RevealChanged v x y left order words to m shown' (rows_of_all x m)) f
    (subst (λ (p : Party). RevealChanged v x y left order words p moved' shown' (rows_of_all x moved')) e h)))

abbrev pub RevealSame : Party → Machine → Machine → Party → List ℕ → List ℕ → ℕ → Type 0
RevealSame v x y to moved shown n = same_party to v ≡ true → SameBag (open_rows x n moved shown) (open_rows y n moved shown)

pub reveal_same : (v : Party) (x y : Machine) (to to' : Party) (moved moved' shown shown' : List ℕ) (n : ℕ) → to' ≡ to → moved' ≡ moved → shown' ≡ shown
    → rows_of_all x moved ≡ n → RevealSame v x y to' moved' shown' (rows_of_all x moved')
    → AreAlike (only (same_party v to) (Rows (open_rows x n moved shown))) (only (same_party v to) (Rows (open_rows y n moved shown)))
reveal_same v x y to to' moved moved' shown shown' n e f g k h =
    let a = subst (λ m. RevealSame v x y to moved shown m) k
    (subst (λ s. RevealSame v x y to moved s (rows_of_all x moved)) g
    (subst (λ m. RevealSame v x y to m shown' (rows_of_all x m)) f
    (subst (λ (p : Party). RevealSame v x y p moved' shown' (rows_of_all x moved')) e h))) in
    only_alike (same_party v to) (Rows (open_rows x n moved shown)) (Rows (open_rows y n moved shown)) (λ t. same_rows (a (same_back to v ∙ t)))

rows_same : (a b : List (List ℕ)) → Alike (Rows a) (Rows b) → SameBag a b
rows_same a b (same_rows h) = h

abbrev pub RevealFault : Party → ℕ → Machine → Machine → TwinFault → Party → List ℕ → List ℕ → ℕ → Type 0
RevealFault v k x y fault to moved shown n = IsRowsFault k (same_party to v) (open_rows x n moved shown) (open_rows y n moved shown) fault

rows_fault : (T : Type 0) (v : Party) (k : ℕ) (l : Layout) (x y : Machine) (to : ℕ) (moved shown : List ℕ) (fault : TwinFault)
    → RevealFault v k x y fault (party_of to) moved shown (rows_moved l moved) → IsStepFault {T = T} v l (Reveal to moved shown) x y k fault
rows_fault T v k l x y to moved shown Memory h = tt
rows_fault T v k l x y to moved shown (NotAligned step first second) h =
    let a = Rows (open_rows x (rows_moved l moved) moved shown) in
    let b = Rows (open_rows y (rows_moved l moved) moved shown) in
    let t = same_back v (party_of to) ∙ h.0 in (
      h.1.step_is,
      record {
        first = a;
        second = b;
        first_is = ap (λ s. only s a) t;
        second_is = ap (λ s. only s b) t;
        differ = λ e. h.1.differ (rows_same (open_rows x (rows_moved l moved) moved shown) (open_rows y (rows_moved l moved) moved shown) e);
        first_rows = h.1.first_is;
        second_rows = h.1.second_is;
      },
    )

pub reveal_fault : (T : Type 0) (v : Party) (k : ℕ) (l : Layout) (x y : Machine) (to : ℕ) (to' : Party) (moved moved' shown shown' : List ℕ) (fault : TwinFault) → to' ≡ party_of to
    → moved' ≡ moved → shown' ≡ shown → rows_of_all x moved ≡ rows_moved l moved → RevealFault v k x y fault to' moved' shown' (rows_of_all x moved')
    → IsStepFault {T = T} v l (Reveal to moved shown) x y k fault
reveal_fault T v k l x y to to' moved moved' shown shown' fault e f g i h =
    rows_fault T v k l x y to moved shown fault
    (subst (λ m. RevealFault v k x y fault (party_of to) moved shown m) i
    (subst (λ s. RevealFault v k x y fault (party_of to) moved s (rows_of_all x moved)) g
    (subst (λ m. RevealFault v k x y fault (party_of to) m shown' (rows_of_all x m)) f
    (subst (λ (p : Party). RevealFault v k x y fault p moved' shown' (rows_of_all x moved')) e h))))

-- ---- Steer

abbrev pub SteerChanged : Party → Machine → Machine → ThreeTapes → List ℕ → List ℕ → Party → ℕ → List ℕ → ℕ → Type 0
SteerChanged v x y left order words by slot moved n =
    changed order words (at (before v) (taken (needs_steer by (length moved) n) left))
    ≡ twin_steer v by (slot_of x by slot) (slot_of y by slot) n moved x y (taken (needs_steer by (length moved) n) left)

pub steer_changed : (v : Party) (x y : Machine) (left : ThreeTapes) (order words : List ℕ) (by by' : Party) (slot : ℕ) (moved moved' : List ℕ) (n : ℕ) → by' ≡ by → moved' ≡ moved
    → rows_of_all x moved ≡ n → SteerChanged v x y left order words by' slot moved' (rows_of_all x moved') → SteerChanged v x y left order words by slot moved n
steer_changed v x y left order words by by' slot moved moved' n e f k h =
    subst (λ m. SteerChanged v x y left order words by slot moved m) k
    (subst (λ m. SteerChanged v x y left order words by slot m (rows_of_all x m)) f
    (subst (λ (p : Party). SteerChanged v x y left order words p slot moved' (rows_of_all x moved')) e h))

-- ---- Tell and Flag

told_same : (a b : List ℕ) → Alike (Told a) (Told b) → a ≡ b
told_same a b (same_told e) = e

flagged_same : (a b : List ℕ) → Alike (Flagged a) (Flagged b) → a ≡ b
flagged_same a b (same_flag e) = e

pub tell_same : (v : Party) (x y : Machine) (source source' target : Party) (slot : ℕ) (told : Bool) → source' ≡ source → told ≡ same_party v target
    → (told ≡ true → slot_of x source' slot ≡ slot_of y source' slot) → AreAlike (only (same_party v target) (Told (slot_of x source slot))) (only (same_party v target) (Told (slot_of y source slot)))
tell_same v x y source source' target slot told e f h =
    only_alike (same_party v target) (Told (slot_of x source slot)) (Told (slot_of y source slot))
    (λ t. same_told (subst (λ (p : Party). slot_of x p slot ≡ slot_of y p slot) e (h (f ∙ t))))

told_fault : (T : Type 0) (v : Party) (k : ℕ) (l : Layout) (x y : Machine) (source target slot : ℕ) (fault : TwinFault)
    → IsToldFault k (same_party v (party_of target)) (slot_of x (party_of source) slot) (slot_of y (party_of source) slot) fault → IsStepFault {T = T} v l (Tell source target slot) x y k fault
told_fault T v k l x y source target slot Memory h = tt
told_fault T v k l x y source target slot (NotAligned step first second) h =
    let a = Told (slot_of x (party_of source) slot) in
    let b = Told (slot_of y (party_of source) slot) in (
      h.1.step_is,
      record {
        first = a;
        second = b;
        first_is = ap (λ s. only s a) h.0;
        second_is = ap (λ s. only s b) h.0;
        differ = λ e. h.1.differ (told_same (slot_of x (party_of source) slot) (slot_of y (party_of source) slot) e);
        first_rows = h.1.first_is;
        second_rows = h.1.second_is;
      },
    )

pub tell_fault : (T : Type 0) (v : Party) (k : ℕ) (l : Layout) (x y : Machine) (source target slot : ℕ) (source' : Party) (told : Bool) (fault : TwinFault) → source' ≡ party_of source
    → told ≡ same_party v (party_of target) → IsToldFault k told (slot_of x source' slot) (slot_of y source' slot) fault → IsStepFault {T = T} v l (Tell source target slot) x y k fault
tell_fault T v k l x y source target slot source' told fault e f h =
    told_fault T v k l x y source target slot fault
    (subst (λ b. IsToldFault k b (slot_of x (party_of source) slot) (slot_of y (party_of source) slot) fault) f
    (subst (λ (p : Party). IsToldFault k told (slot_of x p slot) (slot_of y p slot) fault) e h))

words_fault : (T : Type 0) (v : Party) (k : ℕ) (l : Layout) (x y : Machine) (party slot : ℕ) (fault : TwinFault)
    → IsWordsFault k (slot_of x (party_of party) slot) (slot_of y (party_of party) slot) fault → IsStepFault {T = T} v l (Flag party slot) x y k fault
words_fault T v k l x y party slot Memory h = tt
words_fault T v k l x y party slot (NotAligned step first second) h = (
  h.step_is,
  record {
    first = Flagged (slot_of x (party_of party) slot);
    second = Flagged (slot_of y (party_of party) slot);
    first_is = refl;
    second_is = refl;
    differ = λ e. h.differ (flagged_same (slot_of x (party_of party) slot) (slot_of y (party_of party) slot) e);
    first_rows = h.first_is;
    second_rows = h.second_is;
  },
)

pub flag_fault : (T : Type 0) (v : Party) (k : ℕ) (l : Layout) (x y : Machine) (party slot : ℕ) (party' : Party) (fault : TwinFault) → party' ≡ party_of party
    → IsWordsFault k (slot_of x party' slot) (slot_of y party' slot) fault → IsStepFault {T = T} v l (Flag party slot) x y k fault
flag_fault T v k l x y party slot party' fault e h =
    words_fault T v k l x y party slot fault (subst (λ (p : Party). IsWordsFault k (slot_of x p slot) (slot_of y p slot) fault) e h)

pub flag_same : (x y : Machine) (party party' : Party) (slot : ℕ) → party' ≡ party → slot_of x party' slot ≡ slot_of y party' slot
    → AreAlike (Flagged (slot_of x party slot) ∷ []) (Flagged (slot_of y party slot) ∷ [])
flag_same x y party party' slot e h = also (same_flag (subst (λ (p : Party). slot_of x p slot ≡ slot_of y p slot) e h)) none
