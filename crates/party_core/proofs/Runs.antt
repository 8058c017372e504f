-- The part over some steps: behind an end nothing is done, what is sent grows, what is taken adds up, and words that come
-- later change nothing.
use Rattle.std.proofs.Common.{◌≡◌, ℕ, suc, ◌+◌, ◌≤◌, Bool, true, false, cond, Option, Some, None, List, [], ◌∷◌, ◌++◌, length, take, drop, refl, sym, ap, subst, ◌∙◌, arith, true≢false, length-take}
use Rattle.std.specs.Prelude.{◌||◌, is_some}
use Rattle.std.proofs.lemmas.List.{append-nil, append_assoc, drop-drop, take-append-le, drop-append-le}
use Rattle.lanes.specs.declared.party.Party.{Party}
use Rattle.lanes.specs.declared.party.Party.TheVariants.{First, Second, Third}
use Rattle.lanes.specs.declared.three.Three.{Three}
use Rattle.lanes.specs.Party.{next}
use Rattle.lanes.specs.Three.{at}
use Rattle.step_lists.specs.declared.step.Step.{Step}
use Rattle.step_lists.specs.Layout.{Layout, grown}
use Rattle.step_lists.specs.Draws.{joined}
use Rattle.step_lists.specs.Run.{run, rest_after}
use Rattle.step_lists.specs.Part.{Given, Part, Early, NoOrder, Progress, part_cut, part_going, part_step, progress, progress_of, takes_bad_order, stage_sends, stage_takes, taken_of, count_from, went, has_ended, all_sent, more_taken}
use Rattle.party_core.specs.CoreView.{with_words}
use Rattle.party_core.specs.Laws.{Begins}
use Rattle.party_core.proofs.Progressing.{at_parties, all_passed, all_there}

or_true : (b : Bool) → (b || true) ≡ false → ⊥
or_true true h = true≢false h
or_true false h = true≢false h

pub at_joined : {A : Type 0} (p : Party) (x y : Three (List A)) → at p (joined x y) ≡ at p x ++ at p y
at_joined First x y = refl
at_joined Second x y = refl
at_joined Third x y = refl

pub at_more : (p : Party) (x : Three ℕ) (ts : List (Three ℕ)) → at p (more_taken x ts) ≡ at p x + count_from p ts
at_more First x ts = refl
at_more Second x ts = refl
at_more Third x ts = refl

pub begins_refl : (xs : List ℕ) → Begins xs xs
begins_refl xs = record { rest = []; is = sym (append-nil xs) }

pub begins_trans : (xs ys zs : List ℕ) → Begins xs ys → Begins ys zs → Begins xs zs
begins_trans xs ys zs h k = record {
  rest = h.rest ++ k.rest;
  is = k.is ∙ ap (λ ys. ys ++ k.rest) h.is ∙ append_assoc xs h.rest k.rest;
}

-- ---- one step, as far as it comes

pub ended_early : (x : Progress) (sends : List (Three (List ℕ))) (takes : List (Three ℕ)) (a b : Part) → has_ended (went x sends takes a b) ≡ false → x.early ≡ None
ended_early x sends takes a b h = by x.early h where
  by : (e : Option Early)
      → has_ended (record (cond (is_some e) (record a { early = e }) b) { sent = joined a.sent (all_sent (take (suc x.passed) sends)); taken = more_taken a.taken (take x.passed takes) }) ≡ false
      → e ≡ None
  by None h = refl
  by (Some e) h = absurd (or_true a.stop h)

-- a step that comes to its end
abbrev pub done_whole : ℕ → List (Three (List ℕ)) → List (Three ℕ) → Part → Part → Part
done_whole n sends takes a b = record b { sent = joined a.sent (all_sent (take (suc n) sends)); taken = more_taken a.taken (take n takes) }

pub went_whole : (x : Progress) (n : ℕ) (sends : List (Three (List ℕ))) (takes : List (Three ℕ)) (a b : Part) → x ≡ record { passed = n; early = None }
    → went x sends takes a b ≡ done_whole n sends takes a b
went_whole x n sends takes a b e = ap (λ x. went x sends takes a b) e

-- one that ends early
pub went_early : (x : Progress) (n : ℕ) (why : Early) (sends : List (Three (List ℕ))) (takes : List (Three ℕ)) (a b : Part) → x ≡ record { passed = n; early = Some why }
    → went x sends takes a b ≡ record a { sent = joined a.sent (all_sent (take (suc n) sends)); taken = more_taken a.taken (take n takes); early = Some why }
went_early x n why sends takes a b e = ap (λ x. went x sends takes a b) e

pub same_given : (a b : Given) → a.own ≡ b.own → a.following ≡ b.following → a.received.first ≡ b.received.first → a.received.second ≡ b.received.second → a.received.third ≡ b.received.third → a ≡ b
same_given a b e f x y z =
    ap (λ o. record { own = o; following = a.following; received = a.received }) e
    ∙ ap (λ o. record { own = b.own; following = o; received = a.received }) f
    ∙ ap (λ o. record { own = b.own; following = b.following; received = record { first = o; second = a.received.second; third = a.received.third } }) x
    ∙ ap (λ o. record { own = b.own; following = b.following; received = record { first = b.received.first; second = o; third = a.received.third } }) y
    ∙ ap (λ o. record { own = b.own; following = b.following; received = record { first = b.received.first; second = b.received.second; third = o } }) z

module _ {T : Type 0} (answer : T → List (List ℕ) → List (List ℕ)) (v : Party) where
  abbrev pub runs : Layout → Part → List (Step T) → Given → Part
  runs l a ss g = run (part_going answer v) (part_cut v) l a ss g

  abbrev went_on : Layout → Part → Step T → Given → Part
  went_on l a s g = went (progress_of v l s g) (stage_sends v l a s g) (stage_takes v l s) a (part_step answer v l a s g)

  -- ---- behind an end

  pub ended_step : (l : Layout) (a : Part) (s : Step T) (g : Given) → has_ended a ≡ true → part_going answer v l a s g ≡ a
  ended_step l a s g h = ap (λ b. cond b a (went_on l a s g)) h

  pub going_step : (l : Layout) (a : Part) (s : Step T) (g : Given) → has_ended a ≡ false → part_going answer v l a s g ≡ went_on l a s g
  going_step l a s g h = ap (λ b. cond b a (went_on l a s g)) h

  pub ended_run : (l : Layout) (a : Part) (ss : List (Step T)) (g : Given) → has_ended a ≡ true → runs l a ss g ≡ a
  ended_run l a [] g h = refl
  ended_run l a (s ∷ ss) g h =
      ap (λ b. runs (grown l s) b ss ((part_cut v).rest l s g)) (ended_step l a s ((part_cut v).first l s g) h)
      ∙ ended_run (grown l s) a ss ((part_cut v).rest l s g) h

  pub not_yet : (l : Layout) (a : Part) (ss : List (Step T)) (g : Given) → has_ended (runs l a ss g) ≡ false → has_ended a ≡ false
  not_yet l a ss g h = by (has_ended a) refl where
    by : (b : Bool) → has_ended a ≡ b → b ≡ false
    by false e = refl
    by true e = sym e ∙ sym (ap has_ended (ended_run l a ss g e)) ∙ h

  -- ---- what is sent grows

  sent_step : (p : Party) (l : Layout) (a : Part) (s : Step T) (g : Given) → Begins (at p a.sent) (at p (part_going answer v l a s g).sent)
  sent_step p l a s g = by (has_ended a) where
    by : (b : Bool) → Begins (at p a.sent) (at p (cond b a (went_on l a s g)).sent)
    by true = begins_refl (at p a.sent)
    by false = let x = all_sent (take (suc (progress_of v l s g).passed) (stage_sends v l a s g)) in record { rest = at p x; is = at_joined p a.sent x }

  pub sent_run : (p : Party) (l : Layout) (a : Part) (ss : List (Step T)) (g : Given) → Begins (at p a.sent) (at p (runs l a ss g).sent)
  sent_run p l a [] g = begins_refl (at p a.sent)
  sent_run p l a (s ∷ ss) g =
      let b = part_going answer v l a s ((part_cut v).first l s g) in
      let rest = (part_cut v).rest l s g in
      begins_trans (at p a.sent) (at p b.sent) (at p (runs (grown l s) b ss rest).sent) (sent_step p l a s ((part_cut v).first l s g)) (sent_run p (grown l s) b ss rest)

  -- ---- what is taken

  -- how many words of a party some steps take
  abbrev pub taken_behind : Party → Layout → List (Step T) → ℕ
  taken_behind p l [] = 0
  taken_behind p l (s ∷ ss) = at p (taken_of v l s) + taken_behind p (grown l s) ss

  pub rest_received : (p : Party) (l : Layout) (ss : List (Step T)) (g : Given)
      → at p (rest_after (part_cut v) l ss g).received ≡ drop (taken_behind p l ss) (at p g.received)
  rest_received p l [] g = refl
  rest_received p l (s ∷ ss) g =
      rest_received p (grown l s) ss ((part_cut v).rest l s g)
      ∙ ap (λ xs. drop (taken_behind p (grown l s) ss) xs) (at_parties (λ q. drop (at q (taken_of v l s)) (at q g.received)) p)
      ∙ drop-drop (taken_behind p (grown l s) ss) (at p (taken_of v l s)) (at p g.received)

  -- a step that didn't end the part came to its end
  pub record CameWhole (l : Layout) (s : Step T) (g : Given) : Type 0 where
    pub good : takes_bad_order v l s g ≡ false
    pub whole : progress_of v l s g ≡ record { passed = length (stage_takes v l s); early = None }
    pub there : (p : Party) → at p (taken_of v l s) ≤ length (at p g.received)

  came_whole : (l : Layout) (s : Step T) (g : Given) → (progress_of v l s g).early ≡ None → CameWhole l s g
  came_whole l s g h = by (takes_bad_order v l s g) refl h where
    some_none : (x : Early) → Some x ≡ None → ⊥
    some_none x e = cc

    pair : (x : Progress) (n : ℕ) → x.passed ≡ n → x.early ≡ None → x ≡ record { passed = n; early = None }
    pair x n e f = ap (λ n. record { passed = n; early = x.early }) e ∙ ap (λ o. record { passed = n; early = o }) f

    by : (b : Bool) → takes_bad_order v l s g ≡ b
        → (cond b (record { passed = 0; early = Some (NoOrder (next v)) }) (progress (stage_takes v l s) g.received)).early ≡ None → CameWhole l s g
    by true e h = absurd (some_none (NoOrder (next v)) h)
    by false e h = record {
      good = e;
      whole =
          ap (λ b. cond b (record { passed = 0; early = Some (NoOrder (next v)) }) (progress (stage_takes v l s) g.received)) e
          ∙ pair (progress (stage_takes v l s) g.received) (length (stage_takes v l s)) (all_passed (stage_takes v l s) g.received h) h;
      there = λ p. subst (λ n. n ≤ length (at p g.received)) (sym (at_parties (λ q. count_from q (stage_takes v l s)) p)) (all_there (stage_takes v l s) g.received h p);
    }

  pub step_whole : (l : Layout) (a : Part) (s : Step T) (g : Given) → has_ended (part_going answer v l a s g) ≡ false → CameWhole l s g
  step_whole l a s g h =
      let going = not_yet_step (has_ended a) refl h in
      came_whole l s g (ended_early (progress_of v l s g) (stage_sends v l a s g) (stage_takes v l s) a (part_step answer v l a s g) (sym (ap has_ended (going_step l a s g going)) ∙ h))
    where
      not_yet_step : (b : Bool) → has_ended a ≡ b → has_ended (part_going answer v l a s g) ≡ false → has_ended a ≡ false
      not_yet_step false e h = e
      not_yet_step true e h = sym (ap has_ended (ended_step l a s g e)) ∙ h

  pub taken_run : (p : Party) (l : Layout) (a : Part) (ss : List (Step T)) (g : Given) → has_ended (runs l a ss g) ≡ false
      → at p (runs l a ss g).taken ≡ at p a.taken + taken_behind p l ss
  taken_run p l a [] g h = omega arith
  taken_run p l a (s ∷ ss) g h =
      let first = (part_cut v).first l s g in
      let b = part_going answer v l a s first in
      let rest = (part_cut v).rest l s g in
      let on = not_yet (grown l s) b ss rest h in
      let w = step_whole l a s first on in
      let a_on = not_yet l a (s ∷ ss) g h in
      let is = going_step l a s first a_on ∙ went_whole (progress_of v l s first) (length (stage_takes v l s)) (stage_sends v l a s first) (stage_takes v l s) a (part_step answer v l a s first) w.whole in
      let one = ap (λ b. at p b.taken) is ∙ at_more p a.taken (take (length (stage_takes v l s)) (stage_takes v l s)) in
      let all = ap (λ ts. count_from p ts) (take_whole (stage_takes v l s)) in
      let same = at_parties (λ q. count_from q (stage_takes v l s)) p in
      let more = taken_run p (grown l s) b ss rest h in
      omega (arith, one, all, same, more)
    where
      take_whole : (ts : List (Three ℕ)) → take (length ts) ts ≡ ts
      take_whole [] = refl
      take_whole (t ∷ ts) = ap (λ xs. t ∷ xs) (take_whole ts)

  -- ---- words that come later

  -- a step takes the same, and leaves more
  first_stays : (l : Layout) (s : Step T) (g : Given) (q : Party) (words : List ℕ) → ((p : Party) → at p (taken_of v l s) ≤ length (at p g.received))
      → (part_cut v).first l s (with_words g q words) ≡ (part_cut v).first l s g
  first_stays l s g First words h = same_given _ _ refl refl (take-append-le (at First (taken_of v l s)) g.received.first words (h First)) refl refl
  first_stays l s g Second words h = same_given _ _ refl refl refl (take-append-le (at Second (taken_of v l s)) g.received.second words (h Second)) refl
  first_stays l s g Third words h = same_given _ _ refl refl refl refl (take-append-le (at Third (taken_of v l s)) g.received.third words (h Third))

  rest_more : (l : Layout) (s : Step T) (g : Given) (q : Party) (words : List ℕ) → ((p : Party) → at p (taken_of v l s) ≤ length (at p g.received))
      → (part_cut v).rest l s (with_words g q words) ≡ with_words ((part_cut v).rest l s g) q words
  rest_more l s g First words h = same_given _ _ refl refl (drop-append-le (at First (taken_of v l s)) g.received.first words (h First)) refl refl
  rest_more l s g Second words h = same_given _ _ refl refl refl (drop-append-le (at Second (taken_of v l s)) g.received.second words (h Second)) refl
  rest_more l s g Third words h = same_given _ _ refl refl refl refl (drop-append-le (at Third (taken_of v l s)) g.received.third words (h Third))

  -- of the words that a step is cut there are as many as it takes at least where they were cut of as many
  cut_there : (l : Layout) (s : Step T) (g : Given) → CameWhole l s ((part_cut v).first l s g) → (p : Party) → at p (taken_of v l s) ≤ length (at p g.received)
  cut_there l s g w p =
      let same = ap length (at_parties (λ q. take (at q (taken_of v l s)) (at q g.received)) p) ∙ length-take (at p (taken_of v l s)) (at p g.received) in
      let h = w.there p in
      omega (arith, same, h)

  pub run_stays : (l : Layout) (a : Part) (ss : List (Step T)) (g : Given) (q : Party) (words : List ℕ) → has_ended (runs l a ss g) ≡ false
      → runs l a ss (with_words g q words) ≡ runs l a ss g
  run_stays l a [] g q words h = refl
  run_stays l a (s ∷ ss) g q words h =
      let first = (part_cut v).first l s g in
      let b = part_going answer v l a s first in
      let rest = (part_cut v).rest l s g in
      let on = not_yet (grown l s) b ss rest h in
      let there = cut_there l s g (step_whole l a s first on) in
      ap (λ x. runs (grown l s) (part_going answer v l a s x) ss ((part_cut v).rest l s (with_words g q words))) (first_stays l s g q words there)
      ∙ ap (λ x. runs (grown l s) b ss x) (rest_more l s g q words there)
      ∙ run_stays (grown l s) b ss rest q words h

  pub rest_stays : (l : Layout) (a : Part) (ss : List (Step T)) (g : Given) (q : Party) (words : List ℕ) → has_ended (runs l a ss g) ≡ false
      → rest_after (part_cut v) l ss (with_words g q words) ≡ with_words (rest_after (part_cut v) l ss g) q words
  rest_stays l a [] g q words h = refl
  rest_stays l a (s ∷ ss) g q words h =
      let first = (part_cut v).first l s g in
      let b = part_going answer v l a s first in
      let rest = (part_cut v).rest l s g in
      let on = not_yet (grown l s) b ss rest h in
      let there = cut_there l s g (step_whole l a s first on) in
      ap (λ x. rest_after (part_cut v) (grown l s) ss x) (rest_more l s g q words there)
      ∙ rest_stays (grown l s) b ss rest q words h
