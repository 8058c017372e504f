-- The laws of readers one after the other, behind a fixed element, and of a choice by the first element.
use Rattle.std.proofs.Common.{◌≡◌, Bool, true, false, List, [], ◌∷◌, ◌++◌, Option, Ok, Err, refl, sym, ap, subst, ◌∙◌, ◌⊎◌, inl, inr, append_assoc, cond}
use Rattle.std.specs.List.{AllByRecursion}
use Rattle.query_text.specs.Reading.{Read, ◌>>=◌, starts, after, mapped, pair, either}
use Rattle.query_text.proofs.ReaderLaw.{first, first_or, Refuses, Taken, Stopped, Reads, bind_ok, bind_err, ok_is, err_is, ok_no_err, first_of_append, first_stays, AllByRecursion-append, starts_by_first, refused, not_started}

-- ---- one after the other

module _ {T A B : Type 0} (V K : T → Type 0) (r : List T → Read T A) (spell : A → List T) (fits : A → Type 0) (follows : A → Option T → Type 0)
    (s : List T → Read T B) (spell' : B → List T) (fits' : B → Type 0) (follows' : B → Option T → Type 0)
    (law : Reads V K r spell fits follows) (law' : Reads V K s spell' fits' follows') where
  abbrev both_spelled : A × B → List T
  both_spelled p = spell p.0 ++ spell' p.1

  abbrev both_fit : A × B → Type 0
  both_fit p = fits p.0 × fits' p.1

  abbrev both_follow : A × B → Option T → Type 0
  both_follow p next = follows p.0 (first_or (spell' p.1) next) × follows' p.1 next

  pair_takes : (ts : List T) (x : (A × B) × List T) → pair r s ts ≡ Ok x → Taken both_spelled both_fit both_follow ts x
  pair_takes ts x e =
      let a = bind_ok (r ts) (λ x. s x.1 >>= λ y. Ok ((x.0, y.0), y.1)) x e in
      let b = bind_ok (s a.0.1) (λ y. Ok ((a.0.0, y.0), y.1)) x a.2 in
      let p = law.takes ts a.0 a.1 in
      let q = law'.takes a.0.1 b.0 b.1 in
      subst (λ (z : (A × B) × List T). Taken both_spelled both_fit both_follow ts z) (ok_is ((a.0.0, b.0.0), b.0.1) x b.2)
      (record {
        parts = p.parts ∙ ap (λ (l : List T). spell a.0.0 ++ l) q.parts ∙ sym (append_assoc (spell a.0.0) (spell' b.0.0) b.0.1);
        fit = (p.fit, q.fit);
        follow = (subst (λ (o : Option T). follows a.0.0 o) (ap first q.parts ∙ first_of_append (spell' b.0.0) b.0.1) p.follow, q.follow);
      })

  pair_again : (p : A × B) (rest : List T) → both_fit p → both_follow p (first rest) → pair r s (both_spelled p ++ rest) ≡ Ok (p, rest)
  pair_again p rest fit next =
      let n : follows p.0 (first (spell' p.1 ++ rest)) = subst (λ (o : Option T). follows p.0 o) (sym (first_of_append (spell' p.1) rest)) next.0 in
      rw (append_assoc (spell p.0) (spell' p.1) rest, law.again p.0 (spell' p.1 ++ rest) fit.0 n, law'.again p.1 rest fit.1 next.1) refl

  pair_stops : (ts rest : List T) → pair r s ts ≡ Err rest → Stopped V (pair r s) both_spelled both_fit ts rest
  pair_stops ts rest e =
      elim (bind_err (r ts) (λ x. s x.1 >>= λ y. Ok ((x.0, y.0), y.1)) rest e) [
        | inl d ↦
            let p = law.stops ts rest d in
            record {
              good = p.good;
              parts = p.parts;
              goal_value = (p.goal_value, law'.sample.value);
              more = p.more ++ spell' law'.sample.value;
              fit = (p.fit, law'.sample.fit);
              spelled = ap (λ (l : List T). l ++ spell' law'.sample.value) p.spelled ∙ append_assoc p.good p.more (spell' law'.sample.value);
              real = AllByRecursion-append V p.more (spell' law'.sample.value) p.real law'.sample.real;
              same = λ t behind h other. rw (p.same t behind h other) refl;
            }
        | inr a ↦
            elim (bind_err (s a.0.1) (λ y. Ok ((a.0.0, y.0), y.1)) rest a.2) [
              | inr b ↦ absurd (ok_no_err _ _ b.2)
              | inl d ↦
                  let p = law.takes ts a.0 a.1 in
                  let q = law'.stops a.0.1 rest d in
                  record {
                    good = spell a.0.0 ++ q.good;
                    parts = p.parts ∙ ap (λ (l : List T). spell a.0.0 ++ l) q.parts ∙ sym (append_assoc (spell a.0.0) q.good rest);
                    goal_value = (a.0.0, q.goal_value);
                    more = q.more;
                    fit = (p.fit, q.fit);
                    spelled = ap (λ (l : List T). spell a.0.0 ++ l) q.spelled ∙ sym (append_assoc (spell a.0.0) q.good q.more);
                    real = q.real;
                    same = λ t behind h other.
                        let n : follows a.0.0 (first (q.good ++ t ∷ other)) = subst (λ (o : Option T). follows a.0.0 o) (ap first (q.parts ∙ ap (λ (l : List T). q.good ++ l) h) ∙ first_stays q.good t behind other) p.follow in
                        rw (append_assoc (spell a.0.0) q.good (t ∷ other), law.again a.0.0 (q.good ++ t ∷ other) p.fit n, q.same t behind h other) refl;
                  }
            ]
      ]

  pub pair_reads : Reads V K (pair r s) (λ p. spell p.0 ++ spell' p.1) (λ p. fits p.0 × fits' p.1) (λ p next. follows p.0 (first_or (spell' p.1) next) × follows' p.1 next)
  pair_reads = record {
    takes = pair_takes;
    again = pair_again;
    stops = pair_stops;
    sample = record {
      value = (law.sample.value, law'.sample.value);
      fit = (law.sample.fit, law'.sample.fit);
      real = AllByRecursion-append V (spell law.sample.value) (spell' law'.sample.value) law.sample.real law'.sample.real;
    };
    known = λ p fit. AllByRecursion-append K (spell p.0) (spell' p.1) (law.known p.0 fit.0) (law'.known p.1 fit.1);
  }

-- ---- behind a fixed element

-- the test passes for this element alone, which is real
pub record IsFixed {T : Type 0} (V K : T → Type 0) (test : T → Bool) (lead : T) : Type 0 where
  pub only : (t : T) → test t ≡ true → t ≡ lead
  pub passes : test lead ≡ true
  pub real : V lead
  pub known : K lead

module _ {T A : Type 0} (V K : T → Type 0) (test : T → Bool) (lead : T) (fixed : IsFixed V K test lead)
    (r : List T → Read T A) (spell : A → List T) (fits : A → Type 0) (follows : A → Option T → Type 0) (law : Reads V K r spell fits follows) where
  abbrev led_spelled : A → List T
  led_spelled a = lead ∷ spell a

  after_takes : (ts : List T) (x : A × List T) → after test r ts ≡ Ok x → Taken led_spelled fits follows ts x
  after_takes [] x e = absurd cc
  after_takes (t ∷ ts) x e = go (test t) refl e
    where
      go : (b : Bool) → test t ≡ b → (cond b (Ok ts) (Err (t ∷ ts)) >>= r) ≡ Ok x → Taken led_spelled fits follows (t ∷ ts) x
      go false h e = absurd cc
      go true h e =
          let p = law.takes ts x e in
          record { parts = rw (fixed.only t h) (ap (λ (l : List T). lead ∷ l) p.parts); fit = p.fit; follow = p.follow }

  -- where even the fixed element isn't there
  no_lead : (ts : List T) → starts test ts ≡ false → (rest : List T) → ts ≡ rest → Stopped V (after test r) led_spelled fits ts rest
  no_lead ts h rest e =
      record {
        good = [];
        parts = e;
        goal_value = law.sample.value;
        more = led_spelled law.sample.value;
        fit = law.sample.fit;
        spelled = refl;
        real = (fixed.real, law.sample.real);
        same = λ t behind k other.
            let f : starts test (t ∷ other) ≡ false = starts_by_first test (t ∷ other) ts (ap first (sym (e ∙ k))) ∙ h in
            let f' : test t ≡ false = f in
            rw f' refl;
      }

  after_stops : (ts rest : List T) → after test r ts ≡ Err rest → Stopped V (after test r) led_spelled fits ts rest
  after_stops [] rest e = no_lead [] refl rest (err_is _ _ e)
  after_stops (t ∷ ts) rest e = go (test t) refl e
    where
      go : (b : Bool) → test t ≡ b → (cond b (Ok ts) (Err (t ∷ ts)) >>= r) ≡ Err rest → Stopped V (after test r) led_spelled fits (t ∷ ts) rest
      go false h e = no_lead (t ∷ ts) h rest (err_is _ _ e)
      go true h e =
          let p = law.stops ts rest e in
          record {
            good = lead ∷ p.good;
            parts = rw (fixed.only t h) (ap (λ (l : List T). lead ∷ l) p.parts);
            goal_value = p.goal_value;
            more = p.more;
            fit = p.fit;
            spelled = ap (λ (l : List T). lead ∷ l) p.spelled;
            real = p.real;
            same = λ u behind k other. rw (fixed.passes) (p.same u behind k other);
          }

  pub after_reads : Reads V K (after test r) (λ a. lead ∷ spell a) fits follows
  after_reads = record {
    takes = after_takes;
    again = λ a rest fit next. rw (fixed.passes) (law.again a rest fit next);
    stops = after_stops;
    sample = record { value = law.sample.value; fit = law.sample.fit; real = (fixed.real, law.sample.real) };
    known = λ a fit. (fixed.known, law.known a fit);
  }

-- ---- the one or the other

abbrev pub spelled_by : {T A B : Type 0} → (A → List T) → (B → List T) → A ⊎ B → List T
spelled_by spell spell' (inl a) = spell a
spelled_by spell spell' (inr b) = spell' b

abbrev pub fits_by : {A B : Type 0} → (A → Type 0) → (B → Type 0) → A ⊎ B → Type 0
fits_by fits fits' (inl a) = fits a
fits_by fits fits' (inr b) = fits' b

-- what comes behind the other one can't be taken for the start of the one
abbrev pub follows_by : {T A B : Type 0} → (T → Bool) → (B → List T) → (A → Option T → Type 0) → (B → Option T → Type 0) → A ⊎ B → Option T → Type 0
follows_by test spell' follows follows' (inl a) next = follows a next
follows_by test spell' follows follows' (inr b) next = Refuses test (first_or (spell' b) next) × follows' b next

module _ {T A B : Type 0} (V K : T → Type 0) (test : T → Bool) (r : List T → Read T A) (spell : A → List T) (fits : A → Type 0) (follows : A → Option T → Type 0)
    (s : List T → Read T B) (spell' : B → List T) (fits' : B → Type 0) (follows' : B → Option T → Type 0)
    (law : Reads V K r spell fits follows) (law' : Reads V K s spell' fits' follows')
    (begins : (a : A) (rest : List T) → fits a → starts test (spell a ++ rest) ≡ true) where
  abbrev one_spelled : A ⊎ B → List T
  one_spelled x = spelled_by spell spell' x

  abbrev one_fits : A ⊎ B → Type 0
  one_fits x = fits_by fits fits' x

  abbrev one_follows : A ⊎ B → Option T → Type 0
  one_follows x next = follows_by test spell' follows follows' x next

  either_takes : (ts : List T) (x : (A ⊎ B) × List T) → either test r s ts ≡ Ok x → Taken one_spelled one_fits one_follows ts x
  either_takes ts x e = go (starts test ts) refl e
    where
      go : (b : Bool) → starts test ts ≡ b → cond b (mapped inl r ts) (mapped inr s ts) ≡ Ok x → Taken one_spelled one_fits one_follows ts x
      go true h e =
          let a = bind_ok (r ts) (λ y. Ok (inl y.0, y.1)) x e in
          let p = law.takes ts a.0 a.1 in
          subst (λ (z : (A ⊎ B) × List T). Taken one_spelled one_fits one_follows ts z) (ok_is (inl a.0.0, a.0.1) x a.2)
          (record { parts = p.parts; fit = p.fit; follow = p.follow })
      go false h e =
          let b = bind_ok (s ts) (λ y. Ok (inr y.0, y.1)) x e in
          let p = law'.takes ts b.0 b.1 in
          let n : Refuses test (first ts) = refused test ts h in
          subst (λ (z : (A ⊎ B) × List T). Taken one_spelled one_fits one_follows ts z) (ok_is (inr b.0.0, b.0.1) x b.2)
          (record { parts = p.parts; fit = p.fit; follow = (subst (λ (o : Option T). Refuses test o) (ap first p.parts ∙ first_of_append (spell' b.0.0) b.0.1) n, p.follow) })

  either_again : (x : A ⊎ B) (rest : List T) → one_fits x → one_follows x (first rest) → either test r s (one_spelled x ++ rest) ≡ Ok (x, rest)
  either_again (inl a) rest fit next = rw (begins a rest fit, law.again a rest fit next) refl
  either_again (inr b) rest fit next =
      let h : starts test (spell' b ++ rest) ≡ false = not_started test (spell' b ++ rest) (subst (λ (o : Option T). Refuses test o) (sym (first_of_append (spell' b) rest)) next.0) in
      rw (h, law'.again b rest fit next.1) refl

  either_stops : (ts rest : List T) → either test r s ts ≡ Err rest → Stopped V (either test r s) one_spelled one_fits ts rest
  either_stops ts rest e = go (starts test ts) refl e
    where
      go : (b : Bool) → starts test ts ≡ b → cond b (mapped inl r ts) (mapped inr s ts) ≡ Err rest → Stopped V (either test r s) one_spelled one_fits ts rest
      go true h e =
          elim (bind_err (r ts) (λ y. Ok (inl y.0, y.1)) rest e) [
            | inr a ↦ absurd (ok_no_err _ _ a.2)
            | inl d ↦
                let p = law.stops ts rest d in
                record {
                  good = p.good;
                  parts = p.parts;
                  goal_value = inl p.goal_value;
                  more = p.more;
                  fit = p.fit;
                  spelled = p.spelled;
                  real = p.real;
                  same = λ t behind k other.
                      let f : starts test (p.good ++ t ∷ other) ≡ true = starts_by_first test (p.good ++ t ∷ other) ts (first_stays p.good t other behind ∙ sym (ap first (p.parts ∙ ap (λ (l : List T). p.good ++ l) k))) ∙ h in
                      rw (f, p.same t behind k other) refl;
                }
          ]
      go false h e =
          elim (bind_err (s ts) (λ y. Ok (inr y.0, y.1)) rest e) [
            | inr a ↦ absurd (ok_no_err _ _ a.2)
            | inl d ↦
                let p = law'.stops ts rest d in
                record {
                  good = p.good;
                  parts = p.parts;
                  goal_value = inr p.goal_value;
                  more = p.more;
                  fit = p.fit;
                  spelled = p.spelled;
                  real = p.real;
                  same = λ t behind k other.
                      let f : starts test (p.good ++ t ∷ other) ≡ false = starts_by_first test (p.good ++ t ∷ other) ts (first_stays p.good t other behind ∙ sym (ap first (p.parts ∙ ap (λ (l : List T). p.good ++ l) k))) ∙ h in
                      rw (f, p.same t behind k other) refl;
                }
          ]

  either_known : (x : A ⊎ B) → one_fits x → AllByRecursion K (one_spelled x)
  either_known (inl a) fit = law.known a fit
  either_known (inr b) fit = law'.known b fit

  pub either_reads : Reads V K (either test r s) (spelled_by spell spell') (fits_by fits fits') (follows_by test spell' follows follows')
  either_reads = record {
    takes = either_takes;
    again = either_again;
    stops = either_stops;
    sample = record { value = inr law'.sample.value; fit = law'.sample.fit; real = law'.sample.real };
    known = either_known;
  }
