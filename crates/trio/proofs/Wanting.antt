-- What a core wants, read off its place.
use Rattle.std.proofs.Common.{◌≡◌, ℕ, Bool, true, false, Option, Some, None, List, refl, sym, subst, ap, ◌∙◌}
use Rattle.std.specs.Prelude.{◌==◌, ◌||◌, not, if◌then◌else◌}
use Rattle.std.proofs.lemmas.Bool.{eqb-false}
use Rattle.lanes.specs.declared.three.Three.{Three}
use Rattle.lanes.specs.Three.{at}
use Rattle.step_lists.specs.declared.step.Step.{Step}
use Rattle.step_lists.specs.Layout.{party_of}
use Rattle.party_core.specs.declared.want.Want.{Want}
use Rattle.party_core.specs.declared.want.Want.TheVariants.{Turn, Words, Done, Stopped}
use Rattle.party_core.specs.Stages.{takes_at, waits_at}
use Rattle.party_core.specs.CoreView.{CoreView, next_step, layout_here}
use Rattle.party_core.specs.Core.{part_so_far, words_or_turn, step_want, want_of}

-- ---- wants are apart

abbrev IsTurn : Want → Type 0
IsTurn Turn = Unit {0}
IsTurn (Words q n) = ⊥
IsTurn Done = ⊥
IsTurn (Stopped flag) = ⊥

abbrev AreWords : Want → Type 0
AreWords Turn = ⊥
AreWords (Words q n) = Unit {0}
AreWords Done = ⊥
AreWords (Stopped flag) = ⊥

abbrev IsDone : Want → Type 0
IsDone Turn = ⊥
IsDone (Words q n) = ⊥
IsDone Done = Unit {0}
IsDone (Stopped flag) = ⊥

abbrev IsStopped : Want → Type 0
IsStopped Turn = ⊥
IsStopped (Words q n) = ⊥
IsStopped Done = ⊥
IsStopped (Stopped flag) = Unit {0}

abbrev source_in : Want → ℕ
source_in Turn = 0
source_in (Words q n) = q
source_in Done = 0
source_in (Stopped flag) = 0

abbrev count_in : Want → ℕ
count_in Turn = 0
count_in (Words q n) = n
count_in Done = 0
count_in (Stopped flag) = 0

-- ---- words

-- so many words of a party, and at least one
pub record AreWanted (t : Three ℕ) (q n : ℕ) : Type 0 where
  pub count : at (party_of q) t ≡ n
  pub some : n ≡ 0 → ⊥

words_in_turn : (t : Three ℕ) (q n : ℕ) → words_or_turn t ≡ Words q n → AreWanted t q n
words_in_turn t q n = first (t.first == 0) refl where
  one : (p k : ℕ) → at (party_of p) t ≡ k → (k == 0) ≡ false → Words p k ≡ Words q n → AreWanted t q n
  one p k e z h =
      let same : p ≡ q = ap source_in h in
      let count : k ≡ n = ap count_in h in
      record { count = ap (λ i. at (party_of i) t) (sym same) ∙ (e ∙ count); some = λ f. eqb-false k 0 z (count ∙ f) }

  third : (b : Bool) → (t.third == 0) ≡ b → (if not b then Words 3 t.third else Turn) ≡ Words q n → AreWanted t q n
  third true e h = absurd (subst IsTurn h tt)
  third false e h = one 3 t.third refl e h

  second : (b : Bool) → (t.second == 0) ≡ b → (if not b then Words 2 t.second else (if not (t.third == 0) then Words 3 t.third else Turn)) ≡ Words q n → AreWanted t q n
  second true e h = third (t.third == 0) refl h
  second false e h = one 2 t.second refl e h

  first : (b : Bool) → (t.first == 0) ≡ b
      → (if not b then Words 1 t.first else (if not (t.second == 0) then Words 2 t.second else (if not (t.third == 0) then Words 3 t.third else Turn))) ≡ Words q n → AreWanted t q n
  first true e h = second (t.second == 0) refl h
  first false e h = one 1 t.first refl e h

-- ---- a core's want

pub record WantsWords {T : Type 0} (answer : T → List (List ℕ) → List (List ℕ)) (c : CoreView T) (q n : ℕ) : Type 0 where
  pub step : Step T
  pub there : next_step c ≡ Some step
  pub going : (part_so_far answer c).stop ≡ false
  pub wanted : AreWanted (takes_at c.party (layout_here c) step c.far.stages) q n
  pub begun : (c.far.turned || waits_at c.party step c.far.stages) ≡ true

module _ {T : Type 0} (answer : T → List (List ℕ) → List (List ℕ)) (c : CoreView T) where
  pub wants_words : (q n : ℕ) → want_of answer c ≡ Words q n → WantsWords answer c q n
  wants_words q n h = by (part_so_far answer c).stop (next_step c) refl refl h where
    stage : (s : Step T) → next_step c ≡ Some s → (part_so_far answer c).stop ≡ false → (b : Bool) → (c.far.turned || waits_at c.party s c.far.stages) ≡ b
        → (if b then words_or_turn (takes_at c.party (layout_here c) s c.far.stages) else Turn) ≡ Words q n → WantsWords answer c q n
    stage s e f true g h = record { step = s; there = e; going = f; wanted = words_in_turn (takes_at c.party (layout_here c) s c.far.stages) q n h; begun = g }
    stage s e f false g h = absurd (subst IsTurn h tt)

    by : (b : Bool) (o : Option (Step T)) → (part_so_far answer c).stop ≡ b → next_step c ≡ o
        → (if b then Stopped (part_so_far answer c).flags else step_want c o) ≡ Words q n → WantsWords answer c q n
    by true o e f h = absurd (subst IsStopped h tt)
    by false None e f h = absurd (subst IsDone h tt)
    by false (Some s) e f h = stage s f e (c.far.turned || waits_at c.party s c.far.stages) refl h

  words_or_turn_open : (t : Three ℕ) → words_or_turn t ≡ Done → ⊥
  words_or_turn_open t h = first (t.first == 0) h where
    third : (b : Bool) → (if not b then Words 3 t.third else Turn) ≡ Done → ⊥
    third true h = subst IsTurn h tt
    third false h = subst AreWords h tt

    second : (b : Bool) → (if not b then Words 2 t.second else (if not (t.third == 0) then Words 3 t.third else Turn)) ≡ Done → ⊥
    second true h = third (t.third == 0) h
    second false h = subst AreWords h tt

    first : (b : Bool) → (if not b then Words 1 t.first else (if not (t.second == 0) then Words 2 t.second else (if not (t.third == 0) then Words 3 t.third else Turn))) ≡ Done → ⊥
    first true h = second (t.second == 0) h
    first false h = subst AreWords h tt

  words_or_turn_goes : (t : Three ℕ) (flag : ℕ) → words_or_turn t ≡ Stopped flag → ⊥
  words_or_turn_goes t flag h = first (t.first == 0) h where
    third : (b : Bool) → (if not b then Words 3 t.third else Turn) ≡ Stopped flag → ⊥
    third true h = subst IsTurn h tt
    third false h = subst AreWords h tt

    second : (b : Bool) → (if not b then Words 2 t.second else (if not (t.third == 0) then Words 3 t.third else Turn)) ≡ Stopped flag → ⊥
    second true h = third (t.third == 0) h
    second false h = subst AreWords h tt

    first : (b : Bool) → (if not b then Words 1 t.first else (if not (t.second == 0) then Words 2 t.second else (if not (t.third == 0) then Words 3 t.third else Turn))) ≡ Stopped flag → ⊥
    first true h = second (t.second == 0) h
    first false h = subst AreWords h tt

  -- done: there is no next step; stopped: the part stopped
  pub is_done : want_of answer c ≡ Done → (next_step c ≡ None) × ((part_so_far answer c).stop ≡ false)
  is_done h = by (part_so_far answer c).stop (next_step c) refl refl h where
    by : (b : Bool) (o : Option (Step T)) → (part_so_far answer c).stop ≡ b → next_step c ≡ o → (if b then Stopped (part_so_far answer c).flags else step_want c o) ≡ Done
        → (next_step c ≡ None) × ((part_so_far answer c).stop ≡ false)
    by true o e f h = absurd (subst IsStopped h tt)
    by false None e f h = (f, e)
    by false (Some s) e f h = absurd (stage (c.far.turned || waits_at c.party s c.far.stages) h) where
      stage : (b : Bool) → (if b then words_or_turn (takes_at c.party (layout_here c) s c.far.stages) else Turn) ≡ Done → ⊥
      stage true h = words_or_turn_open (takes_at c.party (layout_here c) s c.far.stages) h
      stage false h = subst IsTurn h tt

  pub is_stopped : (flag : ℕ) → want_of answer c ≡ Stopped flag → (part_so_far answer c).stop ≡ true
  is_stopped flag h = by (part_so_far answer c).stop (next_step c) refl h where
    by : (b : Bool) (o : Option (Step T)) → (part_so_far answer c).stop ≡ b → (if b then Stopped (part_so_far answer c).flags else step_want c o) ≡ Stopped flag → (part_so_far answer c).stop ≡ true
    by true o e h = e
    by false None e h = absurd (subst IsDone h tt)
    by false (Some s) e h = absurd (stage (c.far.turned || waits_at c.party s c.far.stages) h) where
      stage : (b : Bool) → (if b then words_or_turn (takes_at c.party (layout_here c) s c.far.stages) else Turn) ≡ Stopped flag → ⊥
      stage true h = words_or_turn_goes (takes_at c.party (layout_here c) s c.far.stages) flag h
      stage false h = subst IsTurn h tt
