-- The laws of readers that go on: what may be missing, a reader again and again, and lists with an element
-- between.
use Rattle.std.proofs.Common.{◌≡◌, ℕ, zero, suc, ◌+◌, ◌<◌, ◌≤◌, Bool, true, false, List, [], ◌∷◌, ◌++◌, length, Option, Some, None, Ok, Err, refl, sym, ap, subst, ◌∙◌, ◌⊎◌, inl, inr, append_assoc, cond, arith, length-append}
use Rattle.std.proofs.lemmas.List.{append-nil}
use Rattle.std.specs.Prelude.{IfSome}
use Rattle.std.specs.List.{AllByRecursion, flat_map}
use Rattle.query_text.specs.Reading.{Read, ◌>>=◌, starts, after, nothing, pair, either, option_of, maybe, times, many, cons_of, several}
use Rattle.query_text.specs.Spelling.{led, separated, optional}
use Rattle.query_text.specs.Grammar.{IsFilled}
use Rattle.query_text.proofs.ReaderLaw.{first, first_or, Refuses, Taken, Stopped, Reads, bind_ok, bind_err, ok_is, ok_no_err, first_of_append, first_stays, AllByRecursion-append, starts_by_first, refused, not_started, freely, nothing_reads, mapped_reads}
use Rattle.query_text.proofs.Joined.{pair_reads, IsFixed, after_reads, spelled_by, fits_by, follows_by, either_reads}

-- ---- the same law in other words

pub reads_as : {T A : Type 0} (V K : T → Type 0) (r : List T → Read T A) (spell : A → List T) (fits : A → Type 0) (follows : A → Option T → Type 0)
    (spell' : A → List T) (follows' : A → Option T → Type 0) → Reads V K r spell fits follows → ((a : A) → fits a → spell a ≡ spell' a)
    → ((a : A) (next : Option T) → fits a → follows a next → follows' a next) → ((a : A) (next : Option T) → fits a → follows' a next → follows a next)
    → Reads V K r spell' fits follows'
reads_as {T} {A} V K r spell fits follows spell' follows' law same there here = record {
  takes = λ ts x e.
      let p = law.takes ts x e in
      record { parts = p.parts ∙ ap (λ (l : List T). l ++ x.1) (same x.0 p.fit); fit = p.fit; follow = there x.0 (first x.1) p.fit p.follow };
  again = λ a rest fit next. ap (λ (l : List T). r (l ++ rest)) (sym (same a fit)) ∙ law.again a rest fit (here a (first rest) fit next);
  stops = λ ts rest e.
      let p = law.stops ts rest e in
      record { good = p.good; parts = p.parts; goal_value = p.goal_value; more = p.more; fit = p.fit; spelled = sym (same p.goal_value p.fit) ∙ p.spelled; real = p.real; same = p.same };
  sample = record { value = law.sample.value; fit = law.sample.fit; real = subst (λ (l : List T). AllByRecursion V l) (same law.sample.value law.sample.fit) law.sample.real };
  known = λ a fit. subst (λ (l : List T). AllByRecursion K l) (same a fit) (law.known a fit);
}

-- ---- what may be missing

choice_of : {A : Type 0} → Option A → A ⊎ Unit {0}
choice_of None = inr tt
choice_of (Some a) = inl a

abbrev pub maybe_follows : {T A : Type 0} → (T → Bool) → (A → Option T → Type 0) → Option A → Option T → Type 0
maybe_follows test follows None next = Refuses test next
maybe_follows test follows (Some a) next = follows a next

module _ {T A : Type 0} (V K : T → Type 0) (test : T → Bool) (r : List T → Read T A) (spell : A → List T) (fits : A → Type 0) (follows : A → Option T → Type 0)
    (law : Reads V K r spell fits follows) (begins : (a : A) (rest : List T) → fits a → starts test (spell a ++ rest) ≡ true) where
  abbrev no_more : Unit {0} → List T
  no_more u = []

  abbrev any : Unit {0} → Type 0
  any u = Unit {0}

  maybe_there : (x : A ⊎ Unit {0}) → fits_by fits any x → (choice_of (option_of x) ≡ x) × IfSome (option_of x) fits
  unfolding choice_of
  maybe_there (inl a) fit = (refl, fit)
  maybe_there (inr tt) fit = (refl, tt)

  maybe_here : (o : Option A) → IfSome o fits → (option_of (choice_of o) ≡ o) × fits_by fits any (choice_of o)
  unfolding choice_of
  maybe_here None fit = (refl, tt)
  maybe_here (Some a) fit = (refl, fit)

  maybe_same : (o : Option A) → IfSome o fits → spelled_by spell no_more (choice_of o) ≡ optional spell o
  unfolding choice_of
  maybe_same None fit = refl
  maybe_same (Some a) fit = refl

  maybe_to : (o : Option A) (next : Option T) → IfSome o fits → follows_by test no_more follows freely (choice_of o) next → maybe_follows test follows o next
  unfolding choice_of
  maybe_to None next fit h = h.0
  maybe_to (Some a) next fit h = h

  maybe_from : (o : Option A) (next : Option T) → IfSome o fits → maybe_follows test follows o next → follows_by test no_more follows freely (choice_of o) next
  unfolding choice_of
  maybe_from None next fit h = (h, tt)
  maybe_from (Some a) next fit h = h

  pub maybe_reads : Reads V K (maybe test r) (optional spell) (λ o. IfSome o fits) (maybe_follows test follows)
  maybe_reads =
      let chosen = either_reads V K test r spell fits follows nothing no_more any freely law (nothing_reads V K) begins in
      let changed = mapped_reads V K (either test r nothing) (spelled_by spell no_more) (fits_by fits any) (follows_by test no_more follows freely) option_of choice_of (λ o. IfSome o fits) chosen (record { there = maybe_there; here = maybe_here }) in
      reads_as V K (maybe test r) (λ o. spelled_by spell no_more (choice_of o)) (λ o. IfSome o fits) (λ o. follows_by test no_more follows freely (choice_of o)) (optional spell) (maybe_follows test follows) changed maybe_same maybe_to maybe_from

-- ---- again and again

-- each is followed by the next, and the last by what comes then
abbrev pub chain : {T A : Type 0} → (A → List T) → (A → Option T → Type 0) → List A → Option T → Type 0
chain spell follows [] next = Unit {0}
chain spell follows (a ∷ xs) next = follows a (first_or (flat_map spell xs) next) × chain spell follows xs next

module _ {T A : Type 0} (V K : T → Type 0) (test : T → Bool) (r : List T → Read T A) (spell : A → List T) (fits : A → Type 0) (follows : A → Option T → Type 0)
    (law : Reads V K r spell fits follows) (begins : (a : A) (rest : List T) → fits a → starts test (spell a ++ rest) ≡ true) where
  abbrev few_fit : ℕ → List A → Type 0
  few_fit n xs = AllByRecursion fits xs × (length xs ≤ n)

  abbrev few_follow : ℕ → List A → Option T → Type 0
  few_follow n xs next = chain spell follows xs next × (length xs < n → Refuses test next)

  times_takes : (n : ℕ) (ts : List T) (x : List A × List T) → times n test r ts ≡ Ok x → Taken (flat_map spell) (few_fit n) (few_follow n) ts x
  times_takes zero ts x e =
      subst (λ (z : List A × List T). Taken (flat_map spell) (few_fit 0) (few_follow 0) ts z) (ok_is ([], ts) x e)
      (record { parts = refl; fit = (tt, omega arith); follow = (tt, λ h. absurd (omega arith)) })
  times_takes (suc n) ts x e = go (starts test ts) refl e (λ t a. times_takes n t a)
    where
      go : (b : Bool) → starts test ts ≡ b → cond b (r ts >>= λ y. times n test r y.1 >>= λ ys. Ok (y.0 ∷ ys.0, ys.1)) (Ok ([], ts)) ≡ Ok x
          → ((t : List T) (a : List A × List T) → times n test r t ≡ Ok a → Taken (flat_map spell) (few_fit n) (few_follow n) t a)
          → Taken (flat_map spell) (few_fit (suc n)) (few_follow (suc n)) ts x
      go false h e ih =
          subst (λ (z : List A × List T). Taken (flat_map spell) (few_fit (suc n)) (few_follow (suc n)) ts z) (ok_is ([], ts) x e)
          (record { parts = refl; fit = (tt, omega arith); follow = (tt, λ l. refused test ts h) })
      go true h e ih =
          let a = bind_ok (r ts) (λ y. times n test r y.1 >>= λ ys. Ok (y.0 ∷ ys.0, ys.1)) x e in
          let b = bind_ok (times n test r a.0.1) (λ ys. Ok (a.0.0 ∷ ys.0, ys.1)) x a.2 in
          let p = law.takes ts a.0 a.1 in
          let q = ih a.0.1 b.0 b.1 in
          subst (λ (z : List A × List T). Taken (flat_map spell) (few_fit (suc n)) (few_follow (suc n)) ts z) (ok_is (a.0.0 ∷ b.0.0, b.0.1) x b.2)
          (record {
            parts = p.parts ∙ ap (λ (l : List T). spell a.0.0 ++ l) q.parts ∙ sym (append_assoc (spell a.0.0) (flat_map spell b.0.0) b.0.1);
            fit = ((p.fit, q.fit.0), omega (arith, q.fit.1));
            follow = ((subst (λ (o : Option T). follows a.0.0 o) (ap first q.parts ∙ first_of_append (flat_map spell b.0.0) b.0.1) p.follow, q.follow.0), λ l. q.follow.1 (omega (arith, l)));
          })

  times_again : (n : ℕ) (xs : List A) (rest : List T) → few_fit n xs → few_follow n xs (first rest) → times n test r (flat_map spell xs ++ rest) ≡ Ok (xs, rest)
  times_again zero [] rest fit next = refl
  times_again (suc n) [] rest fit next =
      let h : starts test rest ≡ false = not_started test rest (next.1 (omega arith)) in
      rw h refl
  times_again zero (a ∷ xs) rest fit next = absurd (omega (arith, fit.1))
  times_again (suc n) (a ∷ xs) rest fit next =
      let f : follows a (first (flat_map spell xs ++ rest)) = subst (λ (o : Option T). follows a o) (sym (first_of_append (flat_map spell xs) rest)) next.0.0 in
      let more = times_again n xs rest (fit.0.1, omega (arith, fit.1)) (next.0.1, λ l. next.1 (omega (arith, l))) in
      rw (append_assoc (spell a) (flat_map spell xs) rest, begins a (flat_map spell xs ++ rest) fit.0.0, law.again a (flat_map spell xs ++ rest) fit.0.0 f, more) refl

  -- where reading stops in the value after k others
  record StopsAt (n : ℕ) (ts rest : List T) : Type 0 where
    good : List T
    parts : ts ≡ good ++ rest
    goal_value : List A
    more : List T
    fit : few_fit n goal_value
    spelled : flat_map spell goal_value ≡ good ++ more
    real : AllByRecursion V more
    k : ℕ
    below : k < n
    within : k ≤ length good
    same : (t : T) (behind : List T) → rest ≡ t ∷ behind → (other : List T) (m : ℕ) → k < m → times m test r (good ++ t ∷ other) ≡ Err (t ∷ other)

  -- a value's spelling isn't empty
  filled : (a : A) → fits a → 0 < length (spell a)
  filled a fit = go (spell a) (begins a [] fit)
    where
      go : (l : List T) → starts test (l ++ []) ≡ true → 0 < length l
      go [] e = absurd cc
      go (t ∷ l) e = omega arith

  stops_now : (n : ℕ) (ts rest : List T) → starts test ts ≡ true → Stopped V r spell fits ts rest → StopsAt (suc n) ts rest
  stops_now n ts rest h p =
      record {
        good = p.good;
        parts = p.parts;
        goal_value = p.goal_value ∷ [];
        more = p.more;
        fit = ((p.fit, tt), omega arith);
        spelled = append-nil (spell p.goal_value) ∙ p.spelled;
        real = p.real;
        k = 0;
        below = omega arith;
        within = omega arith;
        same = λ t behind e other. go t behind e other;
      }
    where
      go : (t : T) (behind : List T) → rest ≡ t ∷ behind → (other : List T) (m : ℕ) → 0 < m → times m test r (p.good ++ t ∷ other) ≡ Err (t ∷ other)
      go t behind e other zero l = absurd (omega (arith, l))
      go t behind e other (suc m) l =
          let f : starts test (p.good ++ t ∷ other) ≡ true = starts_by_first test (p.good ++ t ∷ other) ts (first_stays p.good t other behind ∙ sym (ap first (p.parts ∙ ap (λ (x : List T). p.good ++ x) e))) ∙ h in
          rw (f, p.same t behind e other) refl

  stops_later : (n : ℕ) (ts rest : List T) (a : A) (ts' : List T) → Taken spell fits follows ts (a, ts') → StopsAt n ts' rest → StopsAt (suc n) ts rest
  stops_later n ts rest a ts' p q =
      record {
        good = spell a ++ q.good;
        parts = p.parts ∙ ap (λ (l : List T). spell a ++ l) q.parts ∙ sym (append_assoc (spell a) q.good rest);
        goal_value = a ∷ q.goal_value;
        more = q.more;
        fit = ((p.fit, q.fit.0), omega (arith, q.fit.1));
        spelled = ap (λ (l : List T). spell a ++ l) q.spelled ∙ sym (append_assoc (spell a) q.good q.more);
        real = q.real;
        k = suc q.k;
        below = omega (arith, q.below);
        within = omega (arith, q.within, filled a p.fit, length-append (spell a) q.good);
        same = λ t behind e other. go t behind e other;
      }
    where
      go : (t : T) (behind : List T) → rest ≡ t ∷ behind → (other : List T) (m : ℕ) → suc q.k < m → times m test r ((spell a ++ q.good) ++ t ∷ other) ≡ Err (t ∷ other)
      go t behind e other zero l = absurd (omega (arith, l))
      go t behind e other (suc m) l =
          let f : follows a (first (q.good ++ t ∷ other)) = subst (λ (o : Option T). follows a o) (ap first (q.parts ∙ ap (λ (x : List T). q.good ++ x) e) ∙ first_stays q.good t behind other) p.follow in
          rw (append_assoc (spell a) q.good (t ∷ other), begins a (q.good ++ t ∷ other) p.fit, law.again a (q.good ++ t ∷ other) p.fit f, q.same t behind e other m (omega (arith, l))) refl

  -- the values behind the first, with it
  abbrev next_values : ℕ → A × List T → Read T (List A)
  next_values n y = times n test r y.1 >>= λ ys. Ok (y.0 ∷ ys.0, ys.1)

  abbrev no_values : List T → Read T (List A)
  no_values ts = Ok ([], ts)

  times_stops : (n : ℕ) (ts rest : List T) → times n test r ts ≡ Err rest → StopsAt n ts rest
  times_stops zero ts rest e = absurd (ok_no_err _ _ e)
  times_stops (suc n) ts rest e = go (starts test ts) refl e (λ t d. times_stops n t d)
    where
      go : (b : Bool) → starts test ts ≡ b → cond b (r ts >>= next_values n) (no_values ts) ≡ Err rest
          → ((t d : List T) → times n test r t ≡ Err d → StopsAt n t d) → StopsAt (suc n) ts rest
      go false h e ih = absurd (ok_no_err _ _ e)
      go true h e ih =
          elim (bind_err (r ts) (next_values n) rest e) [
            | inl d ↦ stops_now n ts rest h (law.stops ts rest d)
            | inr a ↦
                elim (bind_err (times n test r a.0.1) (λ ys. Ok (a.0.0 ∷ ys.0, ys.1)) rest a.2) [
                  | inr b ↦ absurd (ok_no_err _ _ b.2)
                  | inl d ↦ stops_later n ts rest a.0.0 a.0.1 (law.takes ts a.0 a.1) (ih a.0.1 rest d)
                ]
          ]

  all_known : (xs : List A) → AllByRecursion fits xs → AllByRecursion K (flat_map spell xs)
  all_known [] fit = tt
  all_known (a ∷ xs) fit = AllByRecursion-append K (spell a) (flat_map spell xs) (law.known a fit.0) (all_known xs fit.1)

  pub times_reads : (n : ℕ) → Reads V K (times n test r) (flat_map spell) (few_fit n) (few_follow n)
  times_reads n = record {
    takes = times_takes n;
    again = times_again n;
    stops = λ ts rest e.
        let p = times_stops n ts rest e in
        record { good = p.good; parts = p.parts; goal_value = p.goal_value; more = p.more; fit = p.fit; spelled = p.spelled; real = p.real; same = λ t behind h other. p.same t behind h other n p.below };
    sample = record { value = []; fit = (tt, omega arith); real = tt };
    known = λ xs fit. all_known xs fit.0;
  }

  -- a list is no longer than its spelling
  no_longer : (xs : List A) → AllByRecursion fits xs → length xs ≤ length (flat_map spell xs)
  no_longer [] fit = omega arith
  no_longer (a ∷ xs) fit = omega (arith, filled a fit.0, no_longer xs fit.1, length-append (spell a) (flat_map spell xs))

  abbrev many_follow : List A → Option T → Type 0
  many_follow xs next = chain spell follows xs next × Refuses test next

  many_takes : (ts : List T) (x : List A × List T) → many test r ts ≡ Ok x → Taken (flat_map spell) (AllByRecursion fits) many_follow ts x
  many_takes ts x e =
      let p = times_takes (length ts) ts x e in
      record { parts = p.parts; fit = p.fit.0; follow = (p.follow.0, go x.1 (ap (λ (l : List T). length l) p.parts ∙ length-append (flat_map spell x.0) x.1) (no_longer x.0 p.fit.0) p.follow.1) }
    where
      go : (rest : List T) → length ts ≡ length (flat_map spell x.0) + length rest → length x.0 ≤ length (flat_map spell x.0) → (length x.0 < length ts → Refuses test (first rest)) → Refuses test (first rest)
      go [] e le h = tt
      go (t ∷ rest) e le h = h (omega (arith, e, le))

  pub many_reads : Reads V K (many test r) (flat_map spell) (AllByRecursion fits) (λ xs next. chain spell follows xs next × Refuses test next)
  many_reads = record {
    takes = many_takes;
    again = λ xs rest fit next.
        times_again (length (flat_map spell xs ++ rest)) xs rest (fit, omega (arith, no_longer xs fit, length-append (flat_map spell xs) rest)) (next.0, λ l. next.1);
    stops = λ ts rest e.
        let p = times_stops (length ts) ts rest e in
        record {
          good = p.good;
          parts = p.parts;
          goal_value = p.goal_value;
          more = p.more;
          fit = p.fit.0;
          spelled = p.spelled;
          real = p.real;
          same = λ t behind h other. p.same t behind h other (length (p.good ++ t ∷ other)) (omega (arith, p.within, length-append p.good (t ∷ other)));
        };
    sample = record { value = []; fit = tt; real = tt };
    known = all_known;
  }

-- ---- one or more, with an element between

abbrev pub several_follows : {T A : Type 0} → (T → Bool) → T → (A → List T) → (A → Option T → Type 0) → List A → Option T → Type 0
several_follows test lead spell follows [] next = Unit {0}
several_follows test lead spell follows (a ∷ xs) next = follows a (first_or (led lead spell xs) next) × chain (λ x. lead ∷ spell x) follows xs next × Refuses test next

module _ {T A : Type 0} (V K : T → Type 0) (test : T → Bool) (lead : T) (fixed : IsFixed V K test lead)
    (r : List T → Read T A) (spell : A → List T) (fits : A → Type 0) (follows : A → Option T → Type 0) (law : Reads V K r spell fits follows) where
  abbrev filled_fit : List A → Type 0
  filled_fit xs = IsFilled xs × AllByRecursion fits xs

  parts_of : List A → A × List A
  parts_of [] = (law.sample.value, [])
  parts_of (a ∷ xs) = (a, xs)

  abbrev parts_spelled : A × List A → List T
  parts_spelled p = spell p.0 ++ flat_map (λ x. lead ∷ spell x) p.1

  abbrev parts_fit : A × List A → Type 0
  parts_fit p = fits p.0 × AllByRecursion fits p.1

  abbrev parts_follow : A × List A → Option T → Type 0
  parts_follow p next = follows p.0 (first_or (flat_map (λ x. lead ∷ spell x) p.1) next) × (chain (λ x. lead ∷ spell x) follows p.1 next × Refuses test next)

  several_here : (xs : List A) → filled_fit xs → (cons_of (parts_of xs) ≡ xs) × parts_fit (parts_of xs)
  unfolding parts_of
  several_here [] fit = absurd fit.0
  several_here (a ∷ xs) fit = (refl, fit.1)

  several_there : (p : A × List A) → parts_fit p → (parts_of (cons_of p) ≡ p) × filled_fit (cons_of p)
  unfolding parts_of
  several_there p fit = (refl, (tt, fit))

  several_same : (xs : List A) → filled_fit xs → parts_spelled (parts_of xs) ≡ separated lead spell xs
  unfolding parts_of
  several_same [] fit = absurd fit.0
  several_same (a ∷ xs) fit = refl

  several_to : (xs : List A) (next : Option T) → filled_fit xs → parts_follow (parts_of xs) next → several_follows test lead spell follows xs next
  unfolding parts_of
  several_to [] next fit h = tt
  several_to (a ∷ xs) next fit h = (h.0, h.1.0, h.1.1)

  several_from : (xs : List A) (next : Option T) → filled_fit xs → several_follows test lead spell follows xs next → parts_follow (parts_of xs) next
  unfolding parts_of
  several_from [] next fit h = absurd fit.0
  several_from (a ∷ xs) next fit h = (h.0, (h.1, h.2))

  pub several_reads : Reads V K (several test r) (separated lead spell) (λ xs. IsFilled xs × AllByRecursion fits xs) (several_follows test lead spell follows)
  several_reads =
      let behind = after_reads V K test lead fixed r spell fits follows law in
      let others = many_reads V K test (after test r) (λ x. lead ∷ spell x) fits follows behind (λ a rest fit. fixed.passes) in
      let both = pair_reads V K r spell fits follows (many test (after test r)) (flat_map (λ x. lead ∷ spell x)) (AllByRecursion fits) (λ xs next. chain (λ x. lead ∷ spell x) follows xs next × Refuses test next) law others in
      let changed = mapped_reads V K (pair r (many test (after test r))) parts_spelled parts_fit parts_follow cons_of parts_of filled_fit both (record { there = several_there; here = several_here }) in
      reads_as V K (several test r) (λ xs. parts_spelled (parts_of xs)) filled_fit (λ xs. parts_follow (parts_of xs)) (separated lead spell) (several_follows test lead spell follows) changed several_same several_to several_from

  -- a list is followed freely where each of its values can be followed by the element between and by what comes
  chain_free : (next : Option T) (xs : List A) → ((a : A) → fits a → follows a (Some lead)) → ((a : A) → fits a → follows a next) → AllByRecursion fits xs → chain (λ x. lead ∷ spell x) follows xs next
  chain_free next [] between last fit = tt
  chain_free next (a ∷ []) between last fit = (last a fit.0, tt)
  chain_free next (a ∷ b ∷ xs) between last fit = (between a fit.0, chain_free next (b ∷ xs) between last fit.1)

  pub several_free : (next : Option T) (xs : List A) → ((a : A) → fits a → follows a (Some lead)) → ((a : A) → fits a → follows a next) → Refuses test next → AllByRecursion fits xs → several_follows test lead spell follows xs next
  several_free next [] between last ends fit = tt
  several_free next (a ∷ []) between last ends fit = (last a fit.0, tt, ends)
  several_free next (a ∷ b ∷ xs) between last ends fit = (between a fit.0, chain_free next (b ∷ xs) between last fit.1, ends)
