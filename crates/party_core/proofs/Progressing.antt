-- How far a step comes on the words that there are.
use Rattle.std.proofs.Common.{◌≡◌, ℕ, zero, suc, ◌+◌, ◌<◌, ◌≤◌, Bool, true, false, cond, Option, Some, None, List, [], ◌∷◌, length, map, take, drop, refl, sym, ap, subst, ◌∙◌, arith, true≢false, length-drop}
use Rattle.std.specs.Prelude.{nat_lt, is_some, slice_index_or}
use Rattle.std.proofs.lemmas.Bool.{ltb-false, le-ltb}
use Rattle.std.proofs.lemmas.List.Sums.{sum_by-cons}
use Rattle.lanes.specs.declared.party.Party.{Party}
use Rattle.lanes.specs.declared.party.Party.TheVariants.{First, Second, Third}
use Rattle.lanes.specs.declared.three.Three.{Three}
use Rattle.lanes.specs.Three.{at}
use Rattle.step_lists.specs.Draws.{parties}
use Rattle.step_lists.specs.Part.{UsedUp, progress, one_more, used_up, lacks, count_from, takes_nothing}
use Rattle.party_core.proofs.Steps.{some_none}

pub at_parties : {A : Type 0} (f : Party → A) (p : Party) → at p (parties f) ≡ f p
at_parties f First = refl
at_parties f Second = refl
at_parties f Third = refl

pub count_more : (p : Party) (t : Three ℕ) (ts : List (Three ℕ)) → count_from p (t ∷ ts) ≡ at p t + count_from p ts
count_more p t ts = sum_by-cons (λ x. x) (at p t) (map (at p) ts)

pub count_none : (p : Party) → count_from p [] ≡ 0
count_none p = refl

-- ---- what a stage lacks

chosen : (a b c : Bool) → cond a (Some First) (cond b (Some Second) (cond c (Some Third) None)) ≡ None → (a ≡ false) × (b ≡ false) × (c ≡ false)
chosen true b c e = absurd (some_none First e)
chosen false true c e = absurd (some_none Second e)
chosen false false true e = absurd (some_none Third e)
chosen false false false e = (refl, refl, refl)

pub lacks_none : (t : Three ℕ) (got : Three (List ℕ)) → lacks t got ≡ None → (p : Party) → at p t ≤ length (at p got)
lacks_none t got e First = ltb-false _ _ (chosen (nat_lt (length got.first) t.first) (nat_lt (length got.second) t.second) (nat_lt (length got.third) t.third) e).0
lacks_none t got e Second = ltb-false _ _ (chosen (nat_lt (length got.first) t.first) (nat_lt (length got.second) t.second) (nat_lt (length got.third) t.third) e).1
lacks_none t got e Third = ltb-false _ _ (chosen (nat_lt (length got.first) t.first) (nat_lt (length got.second) t.second) (nat_lt (length got.third) t.third) e).2

choose : (a b c : Bool) → a ≡ false → b ≡ false → c ≡ false → cond a (Some First) (cond b (Some Second) (cond c (Some Third) None)) ≡ None
choose false false false e f g = refl
choose true b c e f g = absurd (true≢false e)
choose false true c e f g = absurd (true≢false f)
choose false false true e f g = absurd (true≢false g)

pub lacks_not : (t : Three ℕ) (got : Three (List ℕ)) → ((p : Party) → at p t ≤ length (at p got)) → lacks t got ≡ None
lacks_not t got h = choose (nat_lt (length got.first) t.first) (nat_lt (length got.second) t.second) (nat_lt (length got.third) t.third) (le-ltb _ _ (h First)) (le-ltb _ _ (h Second)) (le-ltb _ _ (h Third))

-- the first party of which a stage takes any words
abbrev pub first_of : Three ℕ → Option Party
first_of t = cond (nat_lt 0 t.first) (Some First) (cond (nat_lt 0 t.second) (Some Second) (cond (nat_lt 0 t.third) (Some Third) None))

pub lacks_all : (t : Three ℕ) (got : Three (List ℕ)) → ((p : Party) → length (at p got) ≡ 0) → lacks t got ≡ first_of t
lacks_all t got h =
    ap (λ n. cond (nat_lt n t.first) (Some First) (cond (nat_lt (length got.second) t.second) (Some Second) (cond (nat_lt (length got.third) t.third) (Some Third) None))) (h First)
    ∙ ap (λ n. cond (nat_lt 0 t.first) (Some First) (cond (nat_lt n t.second) (Some Second) (cond (nat_lt (length got.third) t.third) (Some Third) None))) (h Second)
    ∙ ap (λ n. cond (nat_lt 0 t.first) (Some First) (cond (nat_lt 0 t.second) (Some Second) (cond (nat_lt n t.third) (Some Third) None))) (h Third)

-- ---- stages

-- what is left of the words behind a stage
abbrev pub left_by : Three ℕ → Three (List ℕ) → Three (List ℕ)
left_by t got = parties (λ p. drop (at p t) (at p got))

pub length_left : (t : Three ℕ) (got : Three (List ℕ)) (p : Party) (n : ℕ) → length (at p got) ≡ at p t + n → length (at p (left_by t got)) ≡ n
length_left t got First n h = length-drop t.first got.first ∙ omega (arith, h)
length_left t got Second n h = length-drop t.second got.second ∙ omega (arith, h)
length_left t got Third n h = length-drop t.third got.third ∙ omega (arith, h)

pub enough_left : (t : Three ℕ) (got : Three (List ℕ)) (p : Party) (n : ℕ) → at p t + n ≤ length (at p got) → n ≤ length (at p (left_by t got))
enough_left t got First n h = let e = length-drop t.first got.first in omega (arith, h, e)
enough_left t got Second n h = let e = length-drop t.second got.second in omega (arith, h, e)
enough_left t got Third n h = let e = length-drop t.third got.third in omega (arith, h, e)

pub goes_on : (t : Three ℕ) (ts : List (Three ℕ)) (got : Three (List ℕ)) → lacks t got ≡ None → progress (t ∷ ts) got ≡ one_more (progress ts (left_by t got))
goes_on t ts got e = ap (λ o. cond (is_some o) (record { passed = 0; early = used_up o }) (one_more (progress ts (left_by t got)))) e

-- where nothing ends a step early, all its stages have their words
pub all_passed : (ts : List (Three ℕ)) (got : Three (List ℕ)) → (progress ts got).early ≡ None → (progress ts got).passed ≡ length ts
all_passed [] got h = refl
all_passed (t ∷ ts) got h = by (lacks t got) (all_passed ts (left_by t got)) h where
  by : (o : Option Party) → ((progress ts (left_by t got)).early ≡ None → (progress ts (left_by t got)).passed ≡ length ts) → (cond (is_some o) (record { passed = 0; early = used_up o }) (one_more (progress ts (left_by t got)))).early ≡ None
      → (cond (is_some o) (record { passed = 0; early = used_up o }) (one_more (progress ts (left_by t got)))).passed ≡ suc (length ts)
  by None more h = ap suc (more h)
  by (Some p) more h = absurd (some_none (UsedUp p) h)

pub all_there : (ts : List (Three ℕ)) (got : Three (List ℕ)) → (progress ts got).early ≡ None → (p : Party) → count_from p ts ≤ length (at p got)
all_there [] got h p = omega arith
all_there (t ∷ ts) got h p = by (lacks t got) (λ h. all_there ts (left_by t got) h p) refl h where
  by : (o : Option Party) → ((progress ts (left_by t got)).early ≡ None → count_from p ts ≤ length (at p (left_by t got))) → lacks t got ≡ o → (cond (is_some o) (record { passed = 0; early = used_up o }) (one_more (progress ts (left_by t got)))).early ≡ None
      → count_from p (t ∷ ts) ≤ length (at p got)
  by None further e h =
      let one = lacks_none t got e p in
      let more = further h in
      let same = at_parties (λ q. drop (at q t) (at q got)) p in
      let long = ap length same ∙ length-drop (at p t) (at p got) in
      let c = count_more p t ts in
      omega (arith, one, more, long, c)
  by (Some q) further e h = absurd (some_none (UsedUp q) h)

-- where all words are there, it comes to its end
pub comes_whole : (ts : List (Three ℕ)) (got : Three (List ℕ)) → ((p : Party) → count_from p ts ≤ length (at p got))
    → progress ts got ≡ record { passed = length ts; early = None }
comes_whole [] got h = refl
comes_whole (t ∷ ts) got h =
    goes_on t ts got (lacks_not t got (λ p. let c = count_more p t ts in omega (arith, h p, c)))
    ∙ ap one_more (comes_whole ts (left_by t got) (λ p. enough_left t got p (count_from p ts) (let c = count_more p t ts in omega (arith, h p, c))))

-- at least so many stages are passed as have their words
pub comes_far : (ts : List (Three ℕ)) (i : ℕ) (got : Three (List ℕ)) → i ≤ length ts → ((p : Party) → count_from p (take i ts) ≤ length (at p got))
    → i ≤ (progress ts got).passed
comes_far ts zero got b h = omega arith
comes_far [] (suc i) got b h = absurd (omega (arith, b))
comes_far (t ∷ ts) (suc i) got b h =
    let e = goes_on t ts got (lacks_not t got (λ p. let c = count_more p t (take i ts) in omega (arith, h p, c))) in
    let more = comes_far ts i (left_by t got) (omega (arith, b)) (λ p. enough_left t got p (count_from p (take i ts)) (let c = count_more p t (take i ts) in omega (arith, h p, c))) in
    subst (λ x. suc i ≤ x.passed) (sym e) (omega (arith, more))

-- and it ends early at the first stage of which no word came
pub comes_up_to : (ts : List (Three ℕ)) (i : ℕ) (got : Three (List ℕ)) (q : Party) → i < length ts → ((p : Party) → length (at p got) ≡ count_from p (take i ts))
    → first_of (slice_index_or ts i takes_nothing) ≡ Some q → progress ts got ≡ record { passed = i; early = Some (UsedUp q) }
comes_up_to [] i got q b h f = absurd (omega (arith, b))
comes_up_to (t ∷ ts) zero got q b h f =
    ap (λ o. cond (is_some o) (record { passed = 0; early = used_up o }) (one_more (progress ts (left_by t got)))) (lacks_all t got h ∙ f)
comes_up_to (t ∷ ts) (suc i) got q b h f =
    goes_on t ts got (lacks_not t got (λ p. let c = count_more p t (take i ts) in omega (arith, h p, c)))
    ∙ ap one_more (comes_up_to ts i (left_by t got) q (omega (arith, b)) (λ p. length_left t got p (count_from p (take i ts)) (h p ∙ count_more p t (take i ts))) f)
