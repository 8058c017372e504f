-- A part grows with the words that come.
use Rattle.std.proofs.Common.{◌≡◌, ℕ, zero, suc, ◌+◌, ◌*◌, ◌-◌, ◌<◌, ◌≤◌, inl, inr, Bool, true, false, Option, Some, None, List, [], ◌∷◌, ◌++◌, length, take, drop, refl, sym, subst, ap, ◌∙◌, arith}
use Rattle.std.specs.Prelude.{nat_le, not, ◌&&◌, ◌⊎◌, is_some, if◌then◌else◌}
use Rattle.std.proofs.lemmas.Bool.{cases_lt, leb-true, leb-false, and_parts, or_right}
use Rattle.std.proofs.lemmas.List.{length-append, length-drop, length-take, take-append-le, drop-append-le}
use Rattle.lanes.specs.declared.party.Party.{Party}
use Rattle.lanes.specs.declared.party.Party.TheVariants.{First, Second, Third}
use Rattle.lanes.specs.declared.three.Three.{Three}
use Rattle.lanes.specs.Party.{next, before}
use Rattle.lanes.specs.Three.{at, put}
use Rattle.tapes.specs.declared.draw.Draw.{Draw}
use Rattle.step_lists.specs.declared.step.Step.{Step}
use Rattle.step_lists.specs.declared.step.Step.TheVariants.{Const, Lin, And, Share, Reveal, Steer, Tell, Work, Flag}
use Rattle.step_lists.specs.Layout.{Layout, starting, party_of, grown, rows_moved}
use Rattle.step_lists.specs.Draws.{ThreeTapes, parties, nothing, joined, needs_of}
use Rattle.step_lists.specs.Seen.{same_party}
use Rattle.step_lists.specs.Run.{run}
use Rattle.step_lists.specs.Part.{Part, Given, NoOrder, Progress, part_cut, part_before, part_going, part_step, stage_sends, stage_takes, progress_of, progress, went, taken_of, count_from, takes_from, when, phase_takes, takes_bad_order, is_bad_order, is_order, lacks, used_up, one_more, has_ended, all_sent, more_taken}
use Rattle.party_laws.specs.InMachine.{GoesOn}
use Rattle.party_laws.specs.Grows.{lacks_words, PartsGrow}
use Rattle.party_laws.specs.StageWords.{given_with, StagesAreThere}
use Rattle.party_laws.proofs.Lists.{true_apart}
use Rattle.party_laws.proofs.Threes.{same_each, at_parties, at_joined, joined_again, joined_nothing, more_count}
use Rattle.party_laws.proofs.Progress.{lacks_none}
use Rattle.party_laws.proofs.PartialSteps.{step_sends, step_order}
use Rattle.party_laws.proofs.HaveWords.{at_each_party, enough_of, lacking, ended_part}

-- ---- lists

take_parts : (n : ℕ) (xs ys : List ℕ) → take n (xs ++ ys) ≡ take n xs ++ take (n - length xs) ys
take_parts zero xs ys = ap (λ k. take k ys) (let e : 0 ≡ 0 - length xs = omega arith in e)
take_parts (suc n) [] ys = ap (λ k. take k ys) (let e : suc n ≡ suc n - 0 = omega arith in e)
take_parts (suc n) (x ∷ xs) ys =
    ap (λ t. x ∷ t) (take_parts n xs ys) ∙ ap (λ k. x ∷ (take n xs ++ take k ys)) (let e : n - length xs ≡ suc n - suc (length xs) = omega arith in e)

goes_itself : (x : Three (List ℕ)) → GoesOn x x
goes_itself x = record { rest = nothing; is = sym (joined_nothing x) }

goes_through : (x y z : Three (List ℕ)) → GoesOn x y → GoesOn y z → GoesOn x z
goes_through x y z h i = record { rest = joined h.rest i.rest; is = i.is ∙ (ap (λ t. joined t i.rest) h.is ∙ joined_again x h.rest i.rest) }

behind_it : (x y z : Three (List ℕ)) → GoesOn y z → GoesOn (joined x y) (joined x z)
behind_it x y z h = record { rest = h.rest; is = ap (joined x) h.is ∙ sym (joined_again x y h.rest) }

-- what is sent in the first stages, and in more of them
sent_front : (a b : ℕ) (xs : List (Three (List ℕ))) → a ≤ b → GoesOn (all_sent (take a xs)) (all_sent (take b xs))
sent_front zero b xs h = record { rest = all_sent (take b xs); is = refl }
sent_front (suc a) zero xs h = absurd (omega arith)
sent_front (suc a) (suc b) [] h = goes_itself nothing
sent_front (suc a) (suc b) (x ∷ xs) h = behind_it x (all_sent (take a xs)) (all_sent (take b xs)) (sent_front a b xs (omega arith))

more_stages : (q : Party) (a b : ℕ) (ts : List (Three ℕ)) → a ≤ b → count_from q (take a ts) ≤ count_from q (take b ts)
more_stages q zero b ts h = omega arith
more_stages q (suc a) zero ts h = absurd (omega arith)
more_stages q (suc a) (suc b) [] h = omega arith
more_stages q (suc a) (suc b) (t ∷ ts) h = omega (arith, more_count q t (take a ts), more_count q t (take b ts), more_stages q a b ts (omega arith))

at_more : (p : Party) (x : Three ℕ) (ts : List (Three ℕ)) → at p (more_taken x ts) ≡ at p x + count_from p ts
at_more First x ts = refl
at_more Second x ts = refl
at_more Third x ts = refl

-- ---- how far a step comes

abbrev left_of : Three ℕ → Three (List ℕ) → Three (List ℕ)
left_of t got = parties (λ p. drop (at p t) (at p got))

abbrev progress_by : Bool → Three ℕ → List (Three ℕ) → Three (List ℕ) → Progress
progress_by b t ts got = if b then record { passed = 0; early = used_up (lacks t got) } else one_more (progress ts (left_of t got))

left_long : (t : Three ℕ) (got : Three (List ℕ)) (q : Party) → length (at q (left_of t got)) ≡ length (at q got) - at q t
left_long t got q = ap length (at_parties (λ p. drop (at p t) (at p got)) q) ∙ length-drop (at q t) (at q got)

-- the words of the stages that are passed are there
passed_there : (ts : List (Three ℕ)) (got : Three (List ℕ)) (q : Party) → count_from q (take (progress ts got).passed ts) ≤ length (at q got)
passed_there [] got q = omega arith
passed_there (t ∷ ts) got q = by (is_some (lacks t got)) refl (passed_there ts (left_of t got) q) where
  by : (b : Bool) → is_some (lacks t got) ≡ b → count_from q (take (progress ts (left_of t got)).passed ts) ≤ length (at q (left_of t got))
      → count_from q (take (progress_by b t ts got).passed (t ∷ ts)) ≤ length (at q got)
  by true e more = omega arith
  by false e more = omega (arith, more, more_count q t (take (progress ts (left_of t got)).passed ts), left_long t got q, enough_of t got e q)

left_goes_on : (t : Three ℕ) (got e : Three (List ℕ)) → ((q : Party) → at q t ≤ length (at q got)) → left_of t (joined got e) ≡ joined (left_of t got) e
left_goes_on t got e h =
    same_each _ _
    (λ q.
    at_parties (λ p. drop (at p t) (at p (joined got e))) q
    ∙ (ap (drop (at q t)) (at_joined q got e)
    ∙ (drop-append-le (at q t) (at q got) (at q e) (h q)
    ∙ (ap (λ x. x ++ at q e) (sym (at_parties (λ p. drop (at p t) (at p got)) q)) ∙ sym (at_joined q (left_of t got) e)))))

passed_more : (ts : List (Three ℕ)) (got e : Three (List ℕ)) → (progress ts got).passed ≤ (progress ts (joined got e)).passed
passed_more [] got e = omega arith
passed_more (t ∷ ts) got e = by (is_some (lacks t got)) refl (passed_more ts (left_of t got) e) where
  by : (b : Bool) → is_some (lacks t got) ≡ b → (progress ts (left_of t got)).passed ≤ (progress ts (joined (left_of t got) e)).passed
      → (progress_by b t ts got).passed ≤ (progress (t ∷ ts) (joined got e)).passed
  by true f more = omega arith
  by false f more =
      let enough = enough_of t got f in
      let none = lacks_none t (joined got e) (λ q. omega (arith, enough q, ap length (at_joined q got e), length-append (at q got) (at q e))) in
      let goes : (progress (t ∷ ts) (joined got e)).passed ≡ suc (progress ts (joined (left_of t got) e)).passed =
      ap (λ o. (progress_by (is_some o) t ts (joined got e)).passed) none ∙ ap (λ x. suc (progress ts x).passed) (left_goes_on t got e enough) in
      omega (arith, more, goes)

used : (o : Option Party) → is_some (used_up o) ≡ true → lacks_words (used_up o) ≡ true
used None h = absurd (true_apart h)
used (Some p) h = refl

-- what ends it is want of words
used_words : (ts : List (Three ℕ)) (got : Three (List ℕ)) → is_some (progress ts got).early ≡ true → lacks_words (progress ts got).early ≡ true
used_words [] got h = absurd (true_apart h)
used_words (t ∷ ts) got h = by (is_some (lacks t got)) (used_words ts (left_of t got)) h where
  by : (b : Bool) → (is_some (progress ts (left_of t got)).early ≡ true → lacks_words (progress ts (left_of t got)).early ≡ true) → is_some (progress_by b t ts got).early ≡ true
      → lacks_words (progress_by b t ts got).early ≡ true
  by true more h = used (lacks t got) h
  by false more h = more h

-- a stage for which the words aren't there is the first
lacking_first : (t : Three ℕ) (ts : List (Three ℕ)) (got : Three (List ℕ)) (q : Party) → length (at q got) < at q t → (progress (t ∷ ts) got).passed ≡ 0
lacking_first t ts got q h = by (is_some (lacks t got)) refl where
  by : (b : Bool) → is_some (lacks t got) ≡ b → (progress_by b t ts got).passed ≡ 0
  by true e = refl
  by false e = absurd (omega (arith, h, enough_of t got e q))

-- ---- private orders

late_order : (n : ℕ) (w more : List ℕ) → is_bad_order n (w ++ more) ≡ true → is_bad_order n w ≡ false → length w < n
late_order n w more h i = by (nat_le n (length w)) refl where
  by : (b : Bool) → nat_le n (length w) ≡ b → length w < n
  by false e = leb-false n (length w) e
  by true e =
      let within = leb-true n (length w) e in
      let good : not (is_order (take n w)) ≡ false = ap (λ b. b && not (is_order (take n w))) (sym e) ∙ i in
      let bad : not (is_order (take n w)) ≡ true =
      ap (λ x. not (is_order x)) (sym (take-append-le n w more within)) ∙ (and_parts (nat_le n (length (w ++ more))) (not (is_order (take n (w ++ more)))) h).1 in
      absurd (true_apart (sym good ∙ bad))

order_takes : (v p : Party) (n : ℕ) → same_party v (before p) ≡ true → at p (when (same_party v (before p)) (takes_from p n)) ≡ n
order_takes Third First n e = refl
order_takes First Second n e = refl
order_takes Second Third n e = refl
order_takes First First n e = absurd (cc)
order_takes Second First n e = absurd (cc)
order_takes Second Second n e = absurd (cc)
order_takes Third Second n e = absurd (cc)
order_takes Third Third n e = absurd (cc)
order_takes First Third n e = absurd (cc)

bad_late : {T : Type 0} (v : Party) (l : Layout) (s : Step T) (ds : ThreeTapes) (r more : Three (List ℕ)) → takes_bad_order v l s (given_with v ds (joined r more)) ≡ true
    → takes_bad_order v l s (given_with v ds r) ≡ false → (progress (stage_takes v l s) r).passed ≡ 0
bad_late v l (Steer by s moved) ds r more h i =
    let p = party_of by in
    let n = rows_moved l moved in
    let parts = and_parts (same_party v (before p)) (is_bad_order n (at p (joined r more))) h in
    let bad : is_bad_order n (at p r ++ at p more) ≡ true = ap (is_bad_order n) (sym (at_joined p r more)) ∙ parts.1 in
    let good : is_bad_order n (at p r) ≡ false = ap (λ b. b && is_bad_order n (at p r)) (sym parts.0) ∙ i in
    let late = late_order n (at p r) (at p more) bad good in
    let c = length moved * n in
    lacking_first (when (same_party v (before p)) (takes_from p n)) (phase_takes v (next p) c ∷ phase_takes v p c ∷ []) r p (omega (arith, late, order_takes v p n parts.0))
bad_late v l (Const words) ds r more h i = absurd (true_apart h)
bad_late v l (Lin op) ds r more h i = absurd (true_apart h)
bad_late v l (And left right) ds r more h i = absurd (true_apart h)
bad_late v l (Share p s) ds r more h i = absurd (true_apart h)
bad_late v l (Reveal to moved shown) ds r more h i = absurd (true_apart h)
bad_late v l (Tell source target s) ds r more h i = absurd (true_apart h)
bad_late v l (Work p task takes gives) ds r more h i = absurd (true_apart h)
bad_late v l (Flag p s) ds r more h i = absurd (true_apart h)

-- ---- a step

-- three tapes of which a party holds these two
abbrev tapes_for : Party → List Draw → List Draw → ThreeTapes
tapes_for v own following = put v own (put (next v) following nothing)

abbrev given_by : List Draw → List Draw → Three (List ℕ) → Given
given_by own following words = record { own = own; following = following; received = words }

tapes_are : (v : Party) (own following : List Draw) (r : Three (List ℕ)) → given_with v (tapes_for v own following) r ≡ given_by own following r
tapes_are First own following r = refl
tapes_are Second own following r = refl
tapes_are Third own following r = refl

module _ {T : Type 0} (answer : T → List (List ℕ) → List (List ℕ)) (v : Party) where
  abbrev run_on : Layout → Part → List (Step T) → Given → Part
  run_on l a ss g = run (part_going answer v) (part_cut v) l a ss g

  pub record HasMore (a b : Part) : Type 0 where
    pub sent : GoesOn a.sent b.sent
    pub taken : (p : Party) → at p a.taken ≤ at p b.taken

  more_itself : (a : Part) → HasMore a a
  more_itself a = record { sent = goes_itself a.sent; taken = λ p. omega arith }

  more_through : (a b c : Part) → HasMore a b → HasMore b c → HasMore a c
  more_through a b c h i = record { sent = goes_through a.sent b.sent c.sent h.sent i.sent; taken = λ p. omega (arith, h.taken p, i.taken p) }

  -- a step adds to what is sent and taken
  step_more : (l : Layout) (a : Part) (s : Step T) (g : Given) → HasMore a (part_going answer v l a s g)
  step_more l a s g = by (has_ended a) where
    by : (b : Bool) → HasMore a (if b then a else went (progress_of v l s g) (stage_sends v l a s g) (stage_takes v l s) a (part_step answer v l a s g))
    by true = more_itself a
    by false = record {
      sent = record { rest = all_sent (take (suc (progress_of v l s g).passed) (stage_sends v l a s g)); is = refl };
      taken = λ p. omega (arith, at_more p a.taken (take (progress_of v l s g).passed (stage_takes v l s)));
    }

  run_more : (l : Layout) (a : Part) (ss : List (Step T)) (g : Given) → HasMore a (run_on l a ss g)
  run_more l a [] g = more_itself a
  run_more l a (s ∷ ss) g =
      let b = part_going answer v l a s ((part_cut v).first l s g) in
      more_through a b _ (step_more l a s ((part_cut v).first l s g)) (run_more (grown l s) b ss ((part_cut v).rest l s g))

  -- a step on words of which more are to come
  module _ (l : Layout) (a : Part) (s : Step T) (own following : List Draw) (r e : Three (List ℕ)) where
    abbrev few : Given
    few = given_by own following r

    abbrev all : Given
    all = given_by own following (joined r e)

    abbrev takes : List (Three ℕ)
    takes = stage_takes v l s

    same_sends : (i : ℕ) → StagesAreThere v l s i r → take (suc i) (stage_sends v l a s few) ≡ take (suc i) (stage_sends v l a s all)
    same_sends i there =
        let ds = tapes_for v own following in
        ap (λ g. take (suc i) (stage_sends v l a s g)) (sym (tapes_are v own following r))
        ∙ (step_sends v l a s ds r e i there ∙ ap (λ g. take (suc i) (stage_sends v l a s g)) (tapes_are v own following (joined r e)))

    -- the same order is a bad one with more words
    bad_stays : takes_bad_order v l s few ≡ true → takes_bad_order v l s all ≡ true
    bad_stays h = by (takes_bad_order v l s all) refl where
      by : (b : Bool) → takes_bad_order v l s all ≡ b → b ≡ true
      by true f = refl
      by false f =
          let ds = tapes_for v own following in
          let no = step_order v l s ds r e (ap (takes_bad_order v l s) (tapes_are v own following (joined r e)) ∙ f) in
          absurd (true_apart (sym no ∙ (ap (takes_bad_order v l s) (tapes_are v own following r) ∙ h)))

    bad_first : takes_bad_order v l s all ≡ true → takes_bad_order v l s few ≡ false → (progress takes r).passed ≡ 0
    bad_first h i =
        let ds = tapes_for v own following in
        bad_late v l s ds r e (ap (takes_bad_order v l s) (tapes_are v own following (joined r e)) ∙ h) (ap (takes_bad_order v l s) (tapes_are v own following r) ∙ i)

    abbrev progress_when : Bool → Given → Progress
    progress_when b g = if b then record { passed = 0; early = Some (NoOrder (next v)) } else progress takes g.received

    -- it comes no less far
    comes_far : (progress_of v l s few).passed ≤ (progress_of v l s all).passed
    comes_far = by (takes_bad_order v l s few) (takes_bad_order v l s all) refl refl where
      by : (b c : Bool) → takes_bad_order v l s few ≡ b → takes_bad_order v l s all ≡ c → (progress_when b few).passed ≤ (progress_when c all).passed
      by true c f g = omega arith
      by false false f g = passed_more takes r e
      by false true f g = omega (arith, bad_first g f)

    stages_there : StagesAreThere v l s (progress_of v l s few).passed r
    stages_there q = by (takes_bad_order v l s few) where
      by : (b : Bool) → count_from q (take (progress_when b few).passed takes) ≤ length (at q r)
      by true = omega arith
      by false = passed_there takes r q

    abbrev few_went : Part
    few_went = went (progress_of v l s few) (stage_sends v l a s few) takes a (part_step answer v l a s few)

    abbrev all_went : Part
    all_went = went (progress_of v l s all) (stage_sends v l a s all) takes a (part_step answer v l a s all)

    went_more : HasMore few_went all_went
    went_more =
        let p = (progress_of v l s few).passed in
        let q = (progress_of v l s all).passed in
        let far = comes_far in
        record {
          sent =
              subst (λ x. GoesOn (joined a.sent (all_sent x)) (joined a.sent (all_sent (take (suc q) (stage_sends v l a s all))))) (sym (same_sends p stages_there))
              (behind_it a.sent (all_sent (take (suc p) (stage_sends v l a s all))) (all_sent (take (suc q) (stage_sends v l a s all)))
              (sent_front (suc p) (suc q) (stage_sends v l a s all) (omega (arith, far))));
          taken = λ k. omega (arith, at_more k a.taken (take p takes), at_more k a.taken (take q takes), more_stages k p q takes far);
        }

    -- a bad order ends both in the same way
    bad_same : takes_bad_order v l s few ≡ true → all_went ≡ few_went
    bad_same h =
        let stop : Progress = record { passed = 0; early = Some (NoOrder (next v)) } in
        let one : progress_of v l s few ≡ stop = ap (λ b. progress_when b few) h in
        let other : progress_of v l s all ≡ stop = ap (λ b. progress_when b all) (bad_stays h) in
        let sends = same_sends 0 (λ q. omega arith) in
        ap (λ p. went p (stage_sends v l a s all) takes a (part_step answer v l a s all)) other
        ∙ (ap (λ (x : List (Three (List ℕ))). let w : Part = record (record a { early = Some (NoOrder (next v)) }) { sent = joined a.sent (all_sent x); taken = more_taken a.taken [] } in w) (sym sends)
        ∙ ap (λ p. went p (stage_sends v l a s few) takes a (part_step answer v l a s few)) (sym one))

    -- where words lack, both have at least sent and taken the same, and without a bad order words lack
    module _ (q : Party) (lack : length (at q r) < count_from q takes) where
      few_early : is_some (progress_of v l s few).early ≡ true
      few_early = by (takes_bad_order v l s few) where
        by : (b : Bool) → is_some (progress_when b few).early ≡ true
        by true = refl
        by false = lacking takes r q lack

      early_is : few_went.early ≡ (progress_of v l s few).early
      early_is = ap (λ b. (if b then record a { early = (progress_of v l s few).early } else part_step answer v l a s few).early) few_early

      few_ended : has_ended few_went ≡ true
      few_ended = or_right few_went.stop (is_some few_went.early) (ap is_some early_is ∙ few_early)

      not_words : lacks_words few_went.early ≡ false → takes_bad_order v l s few ≡ true
      not_words h = by (takes_bad_order v l s few) refl where
        by : (b : Bool) → takes_bad_order v l s few ≡ b → b ≡ true
        by true f = refl
        by false f =
            let is : progress_of v l s few ≡ progress takes r = ap (λ b. progress_when b few) f in
            let used = used_words takes r (ap (λ p. is_some p.early) (sym is) ∙ few_early) in
            absurd (true_apart (sym h ∙ (ap lacks_words early_is ∙ (ap (λ p. lacks_words p.early) is ∙ used))))

  -- ---- all steps

  pub record IsGrown (a b : Part) : Type 0 where
    pub more : HasMore a b
    pub same : lacks_words a.early ≡ false → b ≡ a

  ended_stays : (l : Layout) (a : Part) (ss : List (Step T)) (g : Given) → has_ended a ≡ true → run_on l a ss g ≡ a
  ended_stays l a ss g e = ended_part (λ task takes gives. false) answer v l a ss g e

  both_ended : (l : Layout) (a : Part) (ss : List (Step T)) (g k : Given) → has_ended a ≡ true → IsGrown (run_on l a ss g) (run_on l a ss k)
  both_ended l a ss g k e =
      let one = ended_stays l a ss g e in
      let other = ended_stays l a ss k e in
      record {
        more = subst (λ x. HasMore x (run_on l a ss k)) (sym one) (subst (HasMore a) (sym other) (more_itself a));
        same = λ f. other ∙ sym one;
      }

  -- a step of a part that goes on
  module _ (l : Layout) (a : Part) (s : Step T) (ss : List (Step T)) (own following : List Draw) (words more : Three (List ℕ)) (going : has_ended a ≡ false) where
    abbrev counts : Party → ℕ
    counts p = at p (taken_of v l s)

    abbrev own_first : List Draw
    own_first = take (length (at v (needs_of l s))) own

    abbrev following_first : List Draw
    following_first = take (length (at (next v) (needs_of l s))) following

    abbrev own_rest : List Draw
    own_rest = drop (length (at v (needs_of l s))) own

    abbrev following_rest : List Draw
    following_rest = drop (length (at (next v) (needs_of l s))) following

    abbrev r : Three (List ℕ)
    r = parties (λ p. take (counts p) (at p words))

    abbrev left : Three (List ℕ)
    left = parties (λ p. drop (counts p) (at p words))

    abbrev Whole : Type 0
    Whole = IsGrown (run_on l a (s ∷ ss) (given_by own following words)) (run_on l a (s ∷ ss) (given_by own following (joined words more)))

    -- where all words of the step are there it is the same step
    pub all_there : ((p : Party) → counts p ≤ length (at p words))
        → IsGrown (run_on (grown l s) (part_going answer v l a s (given_by own_first following_first r)) ss (given_by own_rest following_rest left))
        (run_on (grown l s) (part_going answer v l a s (given_by own_first following_first r)) ss (given_by own_rest following_rest (joined left more)))
        → Whole
    all_there there h =
        let first : parties (λ p. take (counts p) (at p (joined words more))) ≡ r =
        same_each _ _
        (λ q.
        at_parties (λ p. take (counts p) (at p (joined words more))) q
        ∙ (ap (take (counts q)) (at_joined q words more) ∙ (take-append-le (counts q) (at q words) (at q more) (there q) ∙ sym (at_parties (λ p. take (counts p) (at p words)) q)))) in
        let rest : parties (λ p. drop (counts p) (at p (joined words more))) ≡ joined left more =
        same_each _ _
        (λ q.
        at_parties (λ p. drop (counts p) (at p (joined words more))) q
        ∙ (ap (drop (counts q)) (at_joined q words more)
        ∙ (drop-append-le (counts q) (at q words) (at q more) (there q)
        ∙ (ap (λ x. x ++ at q more) (sym (at_parties (λ p. drop (counts p) (at p words)) q)) ∙ sym (at_joined q left more))))) in
        let runs : run_on l a (s ∷ ss) (given_by own following (joined words more))
        ≡ run_on (grown l s) (part_going answer v l a s (given_by own_first following_first r)) ss (given_by own_rest following_rest (joined left more)) =
        ap (λ x. run_on (grown l s) (part_going answer v l a s (given_by own_first following_first x)) ss
        (given_by own_rest following_rest (parties (λ p. drop (counts p) (at p (joined words more)))))) first
        ∙ ap (λ x. run_on (grown l s) (part_going answer v l a s (given_by own_first following_first r)) ss (given_by own_rest following_rest x)) rest in
        subst (IsGrown (run_on l a (s ∷ ss) (given_by own following words))) (sym runs) h

    -- where some aren't there the part ends in the step
    pub not_there : (q : Party) → length (at q words) < counts q → Whole
    not_there q lt =
        let e = parties (λ p. take (counts p - length (at p words)) (at p more)) in
        let first : parties (λ p. take (counts p) (at p (joined words more))) ≡ joined r e =
        same_each _ _
        (λ k.
        at_parties (λ p. take (counts p) (at p (joined words more))) k
        ∙ (ap (take (counts k)) (at_joined k words more)
        ∙ (take_parts (counts k) (at k words) (at k more)
        ∙ (ap (λ x. x ++ take (counts k - length (at k words)) (at k more)) (sym (at_parties (λ p. take (counts p) (at p words)) k))
        ∙ (ap (λ x. at k r ++ x) (sym (at_parties (λ p. take (counts p - length (at p words)) (at p more)) k)) ∙ sym (at_joined k r e)))))) in
        let rest = given_by own_rest following_rest (parties (λ p. drop (counts p) (at p (joined words more)))) in
        let one = few_went l a s own_first following_first r e in
        let other = all_went l a s own_first following_first r e in
        let lack : length (at q r) < count_from q (stage_takes v l s) =
        omega (arith, lt, ap length (at_parties (λ p. take (counts p) (at p words)) q), length-take (counts q) (at q words), at_parties (λ p. count_from p (stage_takes v l s)) q) in
        let ended = few_ended l a s own_first following_first r e q lack in
        let few_run : run_on l a (s ∷ ss) (given_by own following words) ≡ one =
        ap (λ b. run_on (grown l s) (if b then a else one) ss (given_by own_rest following_rest left)) going ∙ ended_stays (grown l s) one ss (given_by own_rest following_rest left) ended in
        let all_run : run_on l a (s ∷ ss) (given_by own following (joined words more)) ≡ run_on (grown l s) other ss rest =
        ap (λ x. run_on (grown l s) (part_going answer v l a s (given_by own_first following_first x)) ss rest) first ∙ ap (λ b. run_on (grown l s) (if b then a else other) ss rest) going in
        let grows : IsGrown one (run_on (grown l s) other ss rest) = record {
          more = more_through one other (run_on (grown l s) other ss rest) (went_more l a s own_first following_first r e) (run_more (grown l s) other ss rest);
          same = λ f.
              let same = bad_same l a s own_first following_first r e (not_words l a s own_first following_first r e q lack f) in
              ended_stays (grown l s) other ss rest (ap has_ended same ∙ ended) ∙ same;
        } in
        subst (λ x. IsGrown x (run_on l a (s ∷ ss) (given_by own following (joined words more)))) (sym few_run) (subst (IsGrown one) (sym all_run) grows)

  -- the steps behind one, where all words of it are there
  abbrev NextGrows : Layout → Part → Step T → List (Step T) → List Draw → List Draw → Three (List ℕ) → Three (List ℕ) → Type 0
  NextGrows l a s ss own following words more =
      IsGrown
      (run_on (grown l s) (part_going answer v l a s ((part_cut v).first l s (given_by own following words))) ss ((part_cut v).rest l s (given_by own following words)))
      (run_on (grown l s) (part_going answer v l a s ((part_cut v).first l s (given_by own following words))) ss
      (given_by (drop (length (at v (needs_of l s))) own) (drop (length (at (next v) (needs_of l s))) following) (joined (parties (λ p. drop (at p (taken_of v l s)) (at p words))) more)))

  abbrev IsThere : Layout → Step T → Three (List ℕ) → Party → Type 0
  IsThere l s words p = (length (at p words) < at p (taken_of v l s)) ⊎ (at p (taken_of v l s) ≤ length (at p words))

  decide : (l : Layout) (a : Part) (s : Step T) (ss : List (Step T)) (own following : List Draw) (words more : Three (List ℕ)) → has_ended a ≡ false → NextGrows l a s ss own following words more
      → IsThere l s words First → IsThere l s words Second → IsThere l s words Third
      → IsGrown (run_on l a (s ∷ ss) (given_by own following words)) (run_on l a (s ∷ ss) (given_by own following (joined words more)))
  decide l a s ss own following words more e ih (inl x) y z = not_there l a s ss own following words more e First x
  decide l a s ss own following words more e ih (inr x) (inl y) z = not_there l a s ss own following words more e Second y
  decide l a s ss own following words more e ih (inr x) (inr y) (inl z) = not_there l a s ss own following words more e Third z
  decide l a s ss own following words more e ih (inr x) (inr y) (inr z) =
      all_there l a s ss own following words more e (at_each_party (λ p. at p (taken_of v l s) ≤ length (at p words)) x y z) ih

  grows_on : (l : Layout) (a : Part) (ss : List (Step T)) (own following : List Draw) (words more : Three (List ℕ))
      → IsGrown (run_on l a ss (given_by own following words)) (run_on l a ss (given_by own following (joined words more)))
  grows_on l a [] own following words more = record { more = more_itself a; same = λ e. refl }
  grows_on l a (s ∷ ss) own following words more =
      by (has_ended a) refl
      (grows_on (grown l s) (part_going answer v l a s ((part_cut v).first l s (given_by own following words))) ss (drop (length (at v (needs_of l s))) own)
      (drop (length (at (next v) (needs_of l s))) following) (parties (λ p. drop (at p (taken_of v l s)) (at p words))) more) where
        there : (p : Party) → IsThere l s words p
        there p = cases_lt (length (at p words)) (at p (taken_of v l s))

        by : (b : Bool) → has_ended a ≡ b → NextGrows l a s ss own following words more
            → IsGrown (run_on l a (s ∷ ss) (given_by own following words)) (run_on l a (s ∷ ss) (given_by own following (joined words more)))
        by true e ih = both_ended l a (s ∷ ss) (given_by own following words) (given_by own following (joined words more)) e
        by false e ih = decide l a s ss own following words more e ih (there First) (there Second) (there Third)

pub parts_grow : {T : Type 0} (answer : T → List (List ℕ) → List (List ℕ)) → PartsGrow answer
parts_grow answer v list slots own following words more =
    let h = grows_on answer v (starting list.first) (part_before slots) list.steps own following words more in
    record { sent = h.more.sent; taken = h.more.taken; same = h.same }
