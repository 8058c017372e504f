-- The three phases of a Reveal in both worlds, and the way back.
use Rattle.std.proofs.Common.{◌≡◌, ℕ, ◌+◌, ◌*◌, List, [], ◌++◌, length, refl, sym, subst, ◌∙◌, ap, arith}
use Rattle.std.proofs.lemmas.List.{append_assoc, append-nil, length-append, length-map}
use Rattle.lanes.specs.declared.party.Party.{Party}
use Rattle.lanes.specs.declared.party.Party.TheVariants.{First, Second, Third}
use Rattle.lanes.specs.Party.{before}
use Rattle.lanes.specs.Three.{at, put}
use Rattle.step_lists.specs.Draws.{ThreeTapes, words_in}
use Rattle.step_lists.specs.Phases.{phase_words}
use Rattle.step_lists.specs.Machine.{Machine, shares}
use Rattle.step_lists.specs.Twin.{Both, phase_both, begin_both, changed}
use Rattle.twin.proofs.Facts.{Facts}
use Rattle.twin.proofs.Same.{HeldSame, SameWords}
use Rattle.twin.proofs.PhasesBoth.{AreSeen, sees, phase_changes}
use Rattle.twin.proofs.PhasesPaired.{Paired, paired, paired_words, begins}
use Rattle.twin.proofs.PhasesCount.{AreMany, still_many, masked_count, changes_count}

-- three phases by these orders
abbrev pub first_by : Party → ℕ → List ℕ → List ℕ → Both → Both
first_by v n p q b = phase_both v First p q n b

abbrev pub second_by : Party → ℕ → List ℕ → List ℕ → List ℕ → List ℕ → Both → Both
second_by v n p q p' q' b = phase_both v Second p' q' n (first_by v n p q b)

abbrev pub third_by : Party → ℕ → List ℕ → List ℕ → List ℕ → List ℕ → List ℕ → List ℕ → Both → Both
third_by v n p q p' q' p'' q'' b = phase_both v Third p'' q'' n (second_by v n p q p' q' b)

-- orders of n rows that the viewer sees, but for its unseen one
pub record AreOrders (v j : Party) (n : ℕ) (p q : List ℕ) : Type 0 where
  pub one : length p ≡ n
  pub other : length q ≡ n
  pub seen : AreSeen (sees v j) p q

-- the changes of the three phases, one behind the other
abbrev pub three_changes : Party → ℕ → List ℕ → List ℕ → List ℕ → List ℕ → List ℕ → List ℕ → Both → List ℕ
three_changes v n p q p' q' p'' q'' b =
    phase_changes v First p q n b
    ++ (phase_changes v Second p' q' n (first_by v n p q b) ++ (phase_changes v Third p'' q'' n (second_by v n p q p' q' b) ++ []))

pub record IsTurned (v : Party) (n : ℕ) (p q p' q' p'' q'' : List ℕ) (b c : Both) : Type 0 where
  pub paired : Paired v (third_by v n p q p' q' p'' q'' b) (third_by v n q p q' p' q'' p'' c) []
  pub first : SameWords v (phase_words First p n b.one) (phase_words First q n c.one)
  pub second : SameWords v (phase_words Second p' n (first_by v n p q b).one) (phase_words Second q' n (first_by v n q p c).one)
  pub third : SameWords v (phase_words Third p'' n (second_by v n p q p' q' b).one) (phase_words Third q'' n (second_by v n q p q' p' c).one)

pub turned_three : Facts → (v : Party) (n : ℕ) (p q p' q' p'' q'' : List ℕ) (b c : Both) → AreOrders v First n p q → AreOrders v Second n p' q' → AreOrders v Third n p'' q''
    → Paired v b c (three_changes v n p q p' q' p'' q'' b) → IsTurned v n p q p' q' p'' q'' b c
turned_three facts v n p q p' q' p'' q'' b c h h' h'' start =
    let c' = phase_changes v Second p' q' n (first_by v n p q b) in
    let c'' = phase_changes v Third p'' q'' n (second_by v n p q p' q' b) in
    let one = paired facts v First p q n b c (c' ++ (c'' ++ [])) h.one h.other h.seen start in
    let two = paired facts v Second p' q' n (first_by v n p q b) (first_by v n q p c) (c'' ++ []) h'.one h'.other h'.seen one in
    record {
      paired = paired facts v Third p'' q'' n (second_by v n p q p' q' b) (second_by v n q p q' p' c) [] h''.one h''.other h''.seen two;
      first = paired_words facts v First p q n b c (c' ++ (c'' ++ [])) h.one h.seen start;
      second = paired_words facts v Second p' q' n (first_by v n p q b) (first_by v n q p c) (c'' ++ []) h'.one h'.seen one;
      third = paired_words facts v Third p'' q'' n (second_by v n p q p' q' b) (second_by v n q p q' p' c) [] h''.one h''.seen two;
    }

-- ---- from the machines on

-- so many words are changed as the unseen tape holds
three_count : Facts → (v : Party) (n c : ℕ) (p q p' q' p'' q'' : List ℕ) (b : Both) → AreOrders v First n p q → AreOrders v Second n p' q' → AreOrders v Third n p'' q''
    → AreMany c b → length (three_changes v n p q p' q' p'' q'' b) ≡ c * n + c * n
three_count facts v n c p q p' q' p'' q'' b h h' h'' many =
    let one = changes_count facts v First p q n c b h.one h.other many in
    let many' = still_many v First p q n c b many in
    let two = changes_count facts v Second p' q' n c (first_by v n p q b) h'.one h'.other many' in
    let three = changes_count facts v Third p'' q'' n c (second_by v n p q p' q' b) h''.one h''.other (still_many v Second p' q' n c (first_by v n p q b) many') in
    sum v (c * n) (phase_changes v First p q n b) (phase_changes v Second p' q' n (first_by v n p q b)) (phase_changes v Third p'' q'' n (second_by v n p q p' q' b)) one two three
  where
    sum : (v : Party) (w : ℕ) (xs ys zs : List ℕ) → length xs ≡ masked_count v First w → length ys ≡ masked_count v Second w → length zs ≡ masked_count v Third w
        → length (xs ++ (ys ++ (zs ++ []))) ≡ w + w
    sum First w xs ys zs a b c = omega (arith, length-append xs (ys ++ (zs ++ [])), length-append ys (zs ++ []), length-append zs [])
    sum Second w xs ys zs a b c = omega (arith, length-append xs (ys ++ (zs ++ [])), length-append ys (zs ++ []), length-append zs [])
    sum Third w xs ys zs a b c = omega (arith, length-append xs (ys ++ (zs ++ [])), length-append ys (zs ++ []), length-append zs [])

-- the twin's changes are these
pub three_added : (v : Party) (n : ℕ) (p q p' q' p'' q'' : List ℕ) (b : Both) → b.changes ≡ []
    → (third_by v n p q p' q' p'' q'' b).changes ≡ three_changes v n p q p' q' p'' q'' b
three_added v n p q p' q' p'' q'' b e =
    let x = phase_changes v First p q n b in
    let y = phase_changes v Second p' q' n (first_by v n p q b) in
    let z = phase_changes v Third p'' q'' n (second_by v n p q p' q' b) in
    ap (λ t. ((t ++ x) ++ y) ++ z) e ∙ (append_assoc x y z ∙ ap (λ t. x ++ (y ++ t)) (sym (append-nil z)))

pub three_worlds : Facts → (v : Party) (n : ℕ) (p q p' q' p'' q'' : List ℕ) (x y : Machine) (moved : List ℕ) (ds : ThreeTapes) (o : List ℕ)
    → AreOrders v First n p q → AreOrders v Second n p' q' → AreOrders v Third n p'' q'' → HeldSame v x.registers y.registers
    → length (words_in (at (before v) ds)) ≡ length moved * n + length moved * n
    → IsTurned v n p q p' q' p'' q'' (begin_both x y moved ds)
    (begin_both y x moved (put (before v) (changed o (third_by v n p q p' q' p'' q'' (begin_both x y moved ds)).changes (at (before v) ds)) ds))
three_worlds facts v n p q p' q' p'' q'' x y moved ds o h h' h'' held long =
    let b = begin_both x y moved ds in
    let cs = (third_by v n p q p' q' p'' q'' b).changes in
    let added = three_added v n p q p' q' p'' q'' b refl in
    let many : AreMany (length moved) b = record { one = length-map moved (shares x); other = length-map moved (shares y) } in
    let few : length cs ≡ length moved * n + length moved * n = ap length added ∙ three_count facts v n (length moved) p q p' q' p'' q'' b h h' h'' many in
    let es = put (before v) (changed o cs (at (before v) ds)) ds in
    turned_three facts v n p q p' q' p'' q'' b (begin_both y x moved es) h h' h''
    (subst (Paired v b (begin_both y x moved es)) added (begins facts v x y moved ds o cs held (omega arith)))
