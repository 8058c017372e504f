-- What a want says of the stage that a core is in.
use Rattle.std.proofs.Common.{◌≡◌, ℕ, zero, suc, ◌<◌, Bool, true, false, cond, not, Option, Some, None, List, refl, sym, ap, subst, ◌∙◌, arith, true≢false}
use Rattle.std.specs.Prelude.{nat_lt, ◌||◌, ◌&&◌, ◌==◌}
use Rattle.std.proofs.lemmas.Bool.{eqb-true, eqb-false, lt-ltb, le-ltb}
use Rattle.lanes.specs.declared.party.Party.{Party}
use Rattle.lanes.specs.declared.party.Party.TheVariants.{First, Second, Third}
use Rattle.lanes.specs.declared.three.Three.{Three}
use Rattle.lanes.specs.Three.{at}
use Rattle.step_lists.specs.declared.step.Step.{Step}
use Rattle.step_lists.specs.Layout.{Layout, party_of}
use Rattle.party_core.specs.declared.want.Want.{Want}
use Rattle.party_core.specs.declared.want.Want.TheVariants.{Turn, Words, Done, Stopped}
use Rattle.party_core.specs.Stages.{takes_at, waits_at, takes_none}
use Rattle.party_core.specs.CoreView.{CoreView, Far, next_step, layout_here}
use Rattle.party_core.specs.Core.{part_so_far, want_of, step_want, stage_want, words_or_turn}
use Rattle.party_core.proofs.Progressing.{first_of}

-- the words of the first party of which a stage takes any
pub record AreFirst (t : Three ℕ) (q n : ℕ) : Type 0 where
  pub is : first_of t ≡ Some (party_of q)
  pub count : at (party_of q) t ≡ n
  pub some : takes_none t ≡ false

words_number : (a b c d : ℕ) → Words a b ≡ Words c d → a ≡ c
words_number a b c d e = cc

words_count : (a b c d : ℕ) → Words a b ≡ Words c d → b ≡ d
words_count a b c d e = cc

turn_words : (a b : ℕ) → Turn ≡ Words a b → ⊥
turn_words a b e = cc

above : (n : ℕ) → (n == 0) ≡ false → nat_lt 0 n ≡ true
above n e = lt-ltb 0 n (positive n (eqb-false n 0 e)) where
  positive : (n : ℕ) → (n ≡ 0 → ⊥) → 0 < n
  positive zero h = absurd (h refl)
  positive (suc n) h = omega arith

below : (n : ℕ) → (n == 0) ≡ true → nat_lt 0 n ≡ false
below n e = le-ltb 0 n (let h = eqb-true n 0 e in omega (arith, h))

pub words_first : (t : Three ℕ) (q n : ℕ) → words_or_turn t ≡ Words q n → AreFirst t q n
words_first t q n e = one (t.first == 0) refl e where
  three : (b : Bool) → (t.third == 0) ≡ b → (t.first == 0) ≡ true → (t.second == 0) ≡ true → cond (not b) (Words 3 t.third) Turn ≡ Words q n → AreFirst t q n
  three true f x y e = absurd (turn_words q n e)
  three false f x y e =
      let same : 3 ≡ q = words_number 3 t.third q n e in
      subst (λ q. AreFirst t q n) same (record {
        is = ap (λ b. cond b (Some First) (cond (nat_lt 0 t.second) (Some Second) (cond (nat_lt 0 t.third) (Some Third) None))) (below t.first x)
            ∙ ap (λ b. cond b (Some Second) (cond (nat_lt 0 t.third) (Some Third) None)) (below t.second y)
            ∙ ap (λ b. cond b (Some Third) None) (above t.third f);
        count = words_count 3 t.third q n e;
        some = none_of_three (t.first == 0) (t.second == 0) (t.third == 0) f;
      })
    where
      none_of_three : (a b c : Bool) → c ≡ false → (a && b && c) ≡ false
      none_of_three true true c f = f
      none_of_three true false c f = refl
      none_of_three false b c f = refl

  two : (b : Bool) → (t.second == 0) ≡ b → (t.first == 0) ≡ true → cond (not b) (Words 2 t.second) (cond (not (t.third == 0)) (Words 3 t.third) Turn) ≡ Words q n → AreFirst t q n
  two true f x e = three (t.third == 0) refl x f e
  two false f x e =
      let same : 2 ≡ q = words_number 2 t.second q n e in
      subst (λ q. AreFirst t q n) same (record {
        is = ap (λ b. cond b (Some First) (cond (nat_lt 0 t.second) (Some Second) (cond (nat_lt 0 t.third) (Some Third) None))) (below t.first x)
            ∙ ap (λ b. cond b (Some Second) (cond (nat_lt 0 t.third) (Some Third) None)) (above t.second f);
        count = words_count 2 t.second q n e;
        some = none_of_two (t.first == 0) (t.second == 0) (t.third == 0) f;
      })
    where
      none_of_two : (a b c : Bool) → b ≡ false → (a && b && c) ≡ false
      none_of_two true true c f = absurd (true≢false f)
      none_of_two true false c f = refl
      none_of_two false b c f = refl

  one : (b : Bool) → (t.first == 0) ≡ b → cond (not b) (Words 1 t.first) (cond (not (t.second == 0)) (Words 2 t.second) (cond (not (t.third == 0)) (Words 3 t.third) Turn)) ≡ Words q n → AreFirst t q n
  one true f e = two (t.second == 0) refl f e
  one false f e =
      let same : 1 ≡ q = words_number 1 t.first q n e in
      subst (λ q. AreFirst t q n) same (record {
        is = ap (λ b. cond b (Some First) (cond (nat_lt 0 t.second) (Some Second) (cond (nat_lt 0 t.third) (Some Third) None))) (above t.first f);
        count = words_count 1 t.first q n e;
        some = none_of_one (t.first == 0) (t.second == 0) (t.third == 0) f;
      })
    where
      none_of_one : (a b c : Bool) → a ≡ false → (a && b && c) ≡ false
      none_of_one true b c f = absurd (true≢false f)
      none_of_one false b c f = refl

-- ---- in a stage

-- words are wanted behind the stage's turn, or at once
pub record WantsWords {T : Type 0} (v : Party) (l : Layout) (s : Step T) (far : Far) (q n : ℕ) : Type 0 where
  pub ready : (far.turned || waits_at v s far.stages) ≡ true
  pub first : AreFirst (takes_at v l s far.stages) q n
  pub words : words_or_turn (takes_at v l s far.stages) ≡ Words q n

pub stage_words : {T : Type 0} (v : Party) (l : Layout) (s : Step T) (far : Far) (q n : ℕ) → stage_want v l s far ≡ Words q n → WantsWords v l s far q n
stage_words v l s far q n e = by (far.turned || waits_at v s far.stages) refl e where
  by : (b : Bool) → (far.turned || waits_at v s far.stages) ≡ b → cond b (words_or_turn (takes_at v l s far.stages)) Turn ≡ Words q n → WantsWords v l s far q n
  by true f e = record { ready = f; first = words_first (takes_at v l s far.stages) q n e; words = e }
  by false f e = absurd (turn_words q n e)

-- a stage wants a turn or words
pub stage_not_done : {T : Type 0} (v : Party) (l : Layout) (s : Step T) (far : Far) (w : Want) → stage_want v l s far ≡ w → (w ≡ Done → ⊥) × ((flag : ℕ) → w ≡ Stopped flag → ⊥)
stage_not_done v l s far w e = subst (λ w. (w ≡ Done → ⊥) × ((flag : ℕ) → w ≡ Stopped flag → ⊥)) e (by (far.turned || waits_at v s far.stages)) where
  Not : Want → Type 0
  Not w = (w ≡ Done → ⊥) × ((flag : ℕ) → w ≡ Stopped flag → ⊥)

  turn : (Turn ≡ Done → ⊥) × ((flag : ℕ) → Turn ≡ Stopped flag → ⊥)
  turn = (λ e. turn_done e, λ flag e. turn_stopped flag e) where
    turn_done : Turn ≡ Done → ⊥
    turn_done e = cc

    turn_stopped : (flag : ℕ) → Turn ≡ Stopped flag → ⊥
    turn_stopped flag e = cc

  words : (a b : ℕ) → (Words a b ≡ Done → ⊥) × ((flag : ℕ) → Words a b ≡ Stopped flag → ⊥)
  words a b = (λ e. words_done a b e, λ flag e. words_stopped a b flag e) where
    words_done : (a b : ℕ) → Words a b ≡ Done → ⊥
    words_done a b e = cc

    words_stopped : (a b flag : ℕ) → Words a b ≡ Stopped flag → ⊥
    words_stopped a b flag e = cc

  three : (t : Three ℕ) (a b c : Bool) → let w = cond a (Words 1 t.first) (cond b (Words 2 t.second) (cond c (Words 3 t.third) Turn)) in (w ≡ Done → ⊥) × ((flag : ℕ) → w ≡ Stopped flag → ⊥)
  three t true b c = words 1 t.first
  three t false true c = words 2 t.second
  three t false false true = words 3 t.third
  three t false false false = turn

  by : (b : Bool) → let w = cond b (words_or_turn (takes_at v l s far.stages)) Turn in (w ≡ Done → ⊥) × ((flag : ℕ) → w ≡ Stopped flag → ⊥)
  by true = let t = takes_at v l s far.stages in three t (not (t.first == 0)) (not (t.second == 0)) (not (t.third == 0))
  by false = turn

-- ---- of a core

module _ {T : Type 0} (answer : T → List (List ℕ) → List (List ℕ)) where
  abbrev want_by : CoreView T → Bool → Want
  want_by c b = cond b (Stopped (part_so_far answer c).flags) (step_want c (next_step c))

  -- where it wants words, it goes on, and it is in a step that wants them
  pub record InStep (c : CoreView T) (q n : ℕ) : Type 0 where
    pub going : (part_so_far answer c).stop ≡ false
    pub step : Step T
    pub next : next_step c ≡ Some step
    pub wants : WantsWords c.party (layout_here c) step c.far q n

  pub wants_words : (c : CoreView T) (q n : ℕ) → want_of answer c ≡ Words q n → InStep c q n
  wants_words c q n e = by (part_so_far answer c).stop refl e where
    stopped : (f : ℕ) → Stopped f ≡ Words q n → ⊥
    stopped f e = cc

    ended : Done ≡ Words q n → ⊥
    ended e = cc

    inside : (o : Option (Step T)) → next_step c ≡ o → (part_so_far answer c).stop ≡ false → step_want c o ≡ Words q n → InStep c q n
    inside None f g e = absurd (ended e)
    inside (Some s) f g e = record { going = g; step = s; next = f; wants = stage_words c.party (layout_here c) s c.far q n e }

    by : (b : Bool) → (part_so_far answer c).stop ≡ b → want_by c b ≡ Words q n → InStep c q n
    by true f e = absurd (stopped (part_so_far answer c).flags e)
    by false f e = inside (next_step c) refl f e

  pub record AtEnd (c : CoreView T) : Type 0 where
    pub going : (part_so_far answer c).stop ≡ false
    pub none : next_step c ≡ None

  pub wants_done : (c : CoreView T) → want_of answer c ≡ Done → AtEnd c
  wants_done c e = by (part_so_far answer c).stop refl e where
    stopped : (f : ℕ) → Stopped f ≡ Done → ⊥
    stopped f e = cc

    inside : (o : Option (Step T)) → next_step c ≡ o → (part_so_far answer c).stop ≡ false → step_want c o ≡ Done → AtEnd c
    inside None f g e = record { going = g; none = f }
    inside (Some s) f g e = absurd ((stage_not_done c.party (layout_here c) s c.far Done e).0 refl)

    by : (b : Bool) → (part_so_far answer c).stop ≡ b → want_by c b ≡ Done → AtEnd c
    by true f e = absurd (stopped (part_so_far answer c).flags e)
    by false f e = inside (next_step c) refl f e

  pub wants_stopped : (c : CoreView T) (flag : ℕ) → want_of answer c ≡ Stopped flag → ((part_so_far answer c).stop ≡ true) × ((part_so_far answer c).flags ≡ flag)
  wants_stopped c flag e = by (part_so_far answer c).stop refl e where
    same : (f : ℕ) → Stopped f ≡ Stopped flag → f ≡ flag
    same f e = cc

    ended : Done ≡ Stopped flag → ⊥
    ended e = cc

    inside : (o : Option (Step T)) → step_want c o ≡ Stopped flag → ((part_so_far answer c).stop ≡ true) × ((part_so_far answer c).flags ≡ flag)
    inside None e = absurd (ended e)
    inside (Some s) e = absurd ((stage_not_done c.party (layout_here c) s c.far (Stopped flag) e).1 flag refl)

    by : (b : Bool) → (part_so_far answer c).stop ≡ b → want_by c b ≡ Stopped flag → ((part_so_far answer c).stop ≡ true) × ((part_so_far answer c).flags ≡ flag)
    by true f e = (f, same (part_so_far answer c).flags e)
    by false f e = inside (next_step c) e

  -- where it wants a turn, it goes on, and it is in a step
  pub record InTurn (c : CoreView T) : Type 0 where
    pub going : (part_so_far answer c).stop ≡ false
    pub step : Step T
    pub next : next_step c ≡ Some step
    pub wants : stage_want c.party (layout_here c) step c.far ≡ Turn

  pub wants_turn : (c : CoreView T) → want_of answer c ≡ Turn → InTurn c
  wants_turn c e = by (part_so_far answer c).stop refl e where
    stopped : (f : ℕ) → Stopped f ≡ Turn → ⊥
    stopped f e = cc

    ended : Done ≡ Turn → ⊥
    ended e = cc

    inside : (o : Option (Step T)) → next_step c ≡ o → (part_so_far answer c).stop ≡ false → step_want c o ≡ Turn → InTurn c
    inside None f g e = absurd (ended e)
    inside (Some s) f g e = record { going = g; step = s; next = f; wants = e }

    by : (b : Bool) → (part_so_far answer c).stop ≡ b → want_by c b ≡ Turn → InTurn c
    by true f e = absurd (stopped (part_so_far answer c).flags e)
    by false f e = inside (next_step c) refl f e

-- ---- a turn

words_turn : (a b : ℕ) → Words a b ≡ Turn → ⊥
words_turn a b e = cc

pub turn_none : (t : Three ℕ) → words_or_turn t ≡ Turn → takes_none t ≡ true
turn_none t e = by (t.first == 0) (t.second == 0) (t.third == 0) e where
  by : (a b c : Bool) → cond (not a) (Words 1 t.first) (cond (not b) (Words 2 t.second) (cond (not c) (Words 3 t.third) Turn)) ≡ Turn → (a && b && c) ≡ true
  by true true true e = refl
  by false b c e = absurd (words_turn 1 t.first e)
  by true false c e = absurd (words_turn 2 t.second e)
  by true true false e = absurd (words_turn 3 t.third e)

-- where a stage's turn was made, or it waits at once, a turn is wanted only where it takes none
pub ready_none : {T : Type 0} (v : Party) (l : Layout) (s : Step T) (far : Far) → stage_want v l s far ≡ Turn → (far.turned || waits_at v s far.stages) ≡ true
    → takes_none (takes_at v l s far.stages) ≡ true
ready_none v l s far e f = turn_none (takes_at v l s far.stages) (sym (ap (λ b. cond b (words_or_turn (takes_at v l s far.stages)) Turn) f) ∙ e)
