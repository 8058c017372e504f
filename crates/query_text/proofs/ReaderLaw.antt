-- What holds of every reader: what it reads is spelled so, what is spelled so is read, and where it stops
-- no spelling goes on. One law for each way of putting readers together.
use Rattle.std.proofs.Common.{◌≡◌, Bool, true, false, List, [], ◌∷◌, ◌++◌, Option, Some, None, Result, Ok, Err, refl, ap, subst, ◌⊎◌, inl, inr, cond}
use Rattle.std.specs.List.{AllByRecursion}
use Rattle.query_text.specs.Reading.{Read, ◌>>=◌, starts, found, one, nothing, mapped}

-- the first element, where there is one
abbrev pub first : {T : Type 0} → List T → Option T
first [] = None
first (t ∷ ts) = Some t

-- the first element, or what comes behind
abbrev pub first_or : {T : Type 0} → List T → Option T → Option T
first_or [] next = next
first_or (t ∷ ts) next = Some t

-- what comes next doesn't pass the test
abbrev pub Refuses : {T : Type 0} → (T → Bool) → Option T → Type 0
Refuses test None = Unit {0}
Refuses test (Some t) = test t ≡ false

-- x was read, and rest is left
pub record Taken {T A : Type 0} (spell : A → List T) (fits : A → Type 0) (follows : A → Option T → Type 0) (ts : List T) (x : A × List T) : Type 0 where
  pub parts : ts ≡ spell x.0 ++ x.1
  pub fit : fits x.0
  pub follow : follows x.0 (first x.1)

-- reading stopped where rest begins: some spelling begins with what stands before it, and reading stops
-- there whatever comes behind rest's first element
pub record Stopped {T A : Type 0} (V : T → Type 0) (r : List T → Read T A) (spell : A → List T) (fits : A → Type 0) (ts rest : List T) : Type 0 where
  pub good : List T
  pub parts : ts ≡ good ++ rest
  pub goal_value : A
  pub more : List T
  pub fit : fits goal_value
  pub spelled : spell goal_value ≡ good ++ more
  pub real : AllByRecursion V more
  pub same : (t : T) (behind : List T) → rest ≡ t ∷ behind → (other : List T) → r (good ++ t ∷ other) ≡ Err (t ∷ other)

-- some value is spelled in real elements
pub record Sample {T A : Type 0} (V : T → Type 0) (spell : A → List T) (fits : A → Type 0) : Type 0 where
  pub value : A
  pub fit : fits value
  pub real : AllByRecursion V (spell value)

-- The law of a reader. V says which elements are real, and K which can stand in a spelling.
pub record Reads {T A : Type 0} (V K : T → Type 0) (r : List T → Read T A) (spell : A → List T) (fits : A → Type 0) (follows : A → Option T → Type 0) : Type 0 where
  pub takes : (ts : List T) (x : A × List T) → r ts ≡ Ok x → Taken spell fits follows ts x
  pub again : (a : A) (rest : List T) → fits a → follows a (first rest) → r (spell a ++ rest) ≡ Ok (a, rest)
  pub stops : (ts rest : List T) → r ts ≡ Err rest → Stopped V r spell fits ts rest
  pub sample : Sample V spell fits
  pub known : (a : A) → fits a → AllByRecursion K (spell a)

-- ---- steps of readers

pub bind_ok : {A B E : Type 0} (r : Result A E) (f : A → Result B E) (y : B) → (r >>= f) ≡ Ok y → (x : A) × (r ≡ Ok x) × (f x ≡ Ok y)
bind_ok (Ok x) f y e = (x, refl, e)
bind_ok (Err d) f y e = absurd cc

pub bind_err : {A B E : Type 0} (r : Result A E) (f : A → Result B E) (d : E) → (r >>= f) ≡ Err d → (r ≡ Err d) ⊎ ((x : A) × (r ≡ Ok x) × (f x ≡ Err d))
bind_err (Ok x) f d e = inr (x, refl, e)
bind_err (Err c) f d e = inl cc

abbrev pub ok_of : {A E : Type 0} → A → Result A E
ok_of x = Ok x

abbrev pub err_of : {A E : Type 0} → E → Result A E
err_of e = Err e

pub ok_is : {A E : Type 0} (x y : A) → ok_of {A = A} {E = E} x ≡ ok_of y → x ≡ y
ok_is x y e = cc

pub err_is : {A E : Type 0} (x y : E) → err_of {A = A} {E = E} x ≡ err_of y → x ≡ y
err_is x y e = cc

pub ok_no_err : {A E : Type 0} (x : A) (y : E) → ok_of {A = A} {E = E} x ≡ err_of y → ⊥
ok_no_err x y e = cc

pub chosen : {X : Type 0} (b : Bool) (x y z : X) → cond b x y ≡ z → ((b ≡ true) × (x ≡ z)) ⊎ ((b ≡ false) × (y ≡ z))
chosen true x y z e = inl (refl, e)
chosen false x y z e = inr (refl, e)

-- ---- lists

pub first_of_append : {T : Type 0} (xs ys : List T) → first (xs ++ ys) ≡ first_or xs (first ys)
first_of_append [] ys = refl
first_of_append (x ∷ xs) ys = refl

-- the first element is the same, however the list goes on
pub first_stays : {T : Type 0} (good : List T) (t : T) (x y : List T) → first (good ++ t ∷ x) ≡ first (good ++ t ∷ y)
first_stays [] t x y = refl
first_stays (g ∷ good) t x y = refl

pub first_or-append : {T : Type 0} (xs ys : List T) (next : Option T) → first_or (xs ++ ys) next ≡ first_or xs (first_or ys next)
first_or-append [] ys next = refl
first_or-append (x ∷ xs) ys next = refl

pub AllByRecursion-append : {T : Type 0} (P : T → Type 0) (xs ys : List T) → AllByRecursion P xs → AllByRecursion P ys → AllByRecursion P (xs ++ ys)
AllByRecursion-append P [] ys p q = q
AllByRecursion-append P (x ∷ xs) ys p q = (p.0, AllByRecursion-append P xs ys p.1 q)

pub starts_by_first : {T : Type 0} (test : T → Bool) (x y : List T) → first x ≡ first y → starts test x ≡ starts test y
starts_by_first test [] [] e = refl
starts_by_first test [] (b ∷ y) e = absurd cc
starts_by_first test (a ∷ x) [] e = absurd cc
starts_by_first test (a ∷ x) (b ∷ y) e = let s : a ≡ b = cc in ap test s

pub refused : {T : Type 0} (test : T → Bool) (ts : List T) → starts test ts ≡ false → Refuses test (first ts)
refused test [] e = tt
refused test (t ∷ ts) e = e

pub not_started : {T : Type 0} (test : T → Bool) (ts : List T) → Refuses test (first ts) → starts test ts ≡ false
not_started test [] h = refl
not_started test (t ∷ ts) h = h

-- ---- one element

-- the elements that stand for values, and back
pub record Stands {T A : Type 0} (V K : T → Type 0) (value : T → Option A) (token : A → T) (fits : A → Type 0) : Type 0 where
  pub reads : (t : T) (a : A) → value t ≡ Some a → (t ≡ token a) × fits a
  pub writes : (a : A) → fits a → value (token a) ≡ Some a
  pub example : A
  pub fit : fits example
  pub real : V (token example)
  pub known : (a : A) → fits a → K (token a)

-- nothing is asked of what comes behind
abbrev pub freely : {T A : Type 0} → A → Option T → Type 0
freely a next = Unit {0}

abbrev pub single : {T A : Type 0} → (A → T) → A → List T
single token a = token a ∷ []

one_takes : {T A : Type 0} (V K : T → Type 0) (value : T → Option A) (token : A → T) (fits : A → Type 0) → Stands V K value token fits
    → (ts : List T) (x : A × List T) → one value ts ≡ Ok x → Taken (single token) fits freely ts x
one_takes V K value token fits s [] x e = absurd cc
one_takes {T} {A} V K value token fits s (t ∷ ts) x e = go (value t) refl e
  where
    go : (o : Option A) → value t ≡ o → found (t ∷ ts) o ≡ Ok x → Taken (single token) fits freely (t ∷ ts) x
    go None h e = absurd cc
    go (Some a) h e =
        let r = s.reads t a h in
        subst (λ (y : A × List T). Taken (single token) fits freely (t ∷ ts) y) (ok_is (a, ts) x e)
        (record { parts = ap (λ (u : T). u ∷ ts) r.0; fit = r.1; follow = tt })

one_stops : {T A : Type 0} (V K : T → Type 0) (value : T → Option A) (token : A → T) (fits : A → Type 0) → Stands V K value token fits
    → (ts rest : List T) → one value ts ≡ Err rest → Stopped V (one value) (single token) fits ts rest
one_stops V K value token fits s [] rest e =
    let r : [] ≡ rest = err_is _ _ e in
    record { good = []; parts = r; goal_value = s.example; more = token s.example ∷ []; fit = s.fit; spelled = refl; real = (s.real, tt); same = λ t behind h. absurd cc }
one_stops {T} {A} V K value token fits s (t ∷ ts) rest e = go (value t) refl e
  where
    go : (o : Option A) → value t ≡ o → found (t ∷ ts) o ≡ Err rest → Stopped V (one value) (single token) fits (t ∷ ts) rest
    go (Some a) h e = absurd cc
    go None h e =
        let r : t ∷ ts ≡ rest = err_is _ _ e in
        record {
          good = [];
          parts = r;
          goal_value = s.example;
          more = token s.example ∷ [];
          fit = s.fit;
          spelled = refl;
          real = (s.real, tt);
          same = λ u behind k other. let same_head : t ≡ u = cc in rw (← same_head, h) refl;
        }

pub one_reads : {T A : Type 0} (V K : T → Type 0) (value : T → Option A) (token : A → T) (fits : A → Type 0) → Stands V K value token fits
    → Reads V K (one value) (single token) fits freely
one_reads V K value token fits s = record {
  takes = one_takes V K value token fits s;
  again = λ a rest f n. rw (s.writes a f) refl;
  stops = one_stops V K value token fits s;
  sample = record { value = s.example; fit = s.fit; real = (s.real, tt) };
  known = λ a f. (s.known a f, tt);
}

-- ---- nothing

pub nothing_reads : {T : Type 0} (V K : T → Type 0) → Reads V K nothing (λ _. []) (λ _. Unit {0}) freely
nothing_reads {T} V K = record {
  takes = λ ts x e. subst (λ (y : Unit {0} × List T). Taken (λ _. []) (λ _. Unit {0}) freely ts y) (ok_is (tt, ts) x e) (record { parts = refl; fit = tt; follow = tt });
  again = λ a rest f n. refl;
  stops = λ ts rest e. absurd (ok_no_err _ _ e);
  sample = record { value = tt; fit = tt; real = tt };
  known = λ a f. tt;
}

-- ---- a value changed

-- The values that fit are those that were read, changed.
pub record Changes {A B : Type 0} (f : A → B) (back : B → A) (fits : A → Type 0) (fits' : B → Type 0) : Type 0 where
  pub there : (a : A) → fits a → (back (f a) ≡ a) × fits' (f a)
  pub here : (b : B) → fits' b → (f (back b) ≡ b) × fits (back b)

mapped_stops : {T A B : Type 0} (V K : T → Type 0) (r : List T → Read T A) (spell : A → List T) (fits : A → Type 0) (follows : A → Option T → Type 0) (f : A → B) (back : B → A) (fits' : B → Type 0)
    → Reads V K r spell fits follows → Changes f back fits fits' → (ts rest : List T) → mapped f r ts ≡ Err rest → Stopped V (mapped f r) (λ b. spell (back b)) fits' ts rest
mapped_stops {T} {A} {B} V K r spell fits follows f back fits' law c ts rest e =
    elim (bind_err (r ts) (λ x. Ok (f x.0, x.1)) rest e) [
      | inl d ↦
          let s = law.stops ts rest d in
          let there = c.there s.goal_value s.fit in
          record {
            good = s.good;
            parts = s.parts;
            goal_value = f s.goal_value;
            more = s.more;
            fit = there.1;
            spelled = rw (there.0) s.spelled;
            real = s.real;
            same = λ t behind h other. rw (s.same t behind h other) refl;
          }
      | inr y ↦ absurd (ok_no_err _ _ y.2)
    ]

pub mapped_reads : {T A B : Type 0} (V K : T → Type 0) (r : List T → Read T A) (spell : A → List T) (fits : A → Type 0) (follows : A → Option T → Type 0) (f : A → B) (back : B → A) (fits' : B → Type 0)
    → Reads V K r spell fits follows → Changes f back fits fits' → Reads V K (mapped f r) (λ b. spell (back b)) fits' (λ b. follows (back b))
mapped_reads {T} {A} {B} V K r spell fits follows f back fits' law c = record {
  takes = λ ts x e.
      let y = bind_ok (r ts) (λ x. Ok (f x.0, x.1)) x e in
      let t = law.takes ts y.0 y.1 in
      let there = c.there y.0.0 t.fit in
      subst (λ (z : B × List T). Taken (λ b. spell (back b)) fits' (λ b. follows (back b)) ts z) (ok_is (f y.0.0, y.0.1) x y.2)
      (record { parts = rw (there.0) t.parts; fit = there.1; follow = rw (there.0) t.follow });
  again = λ b rest fit next.
      let here = c.here b fit in
      rw (law.again (back b) rest here.1 next, here.0) refl;
  stops = mapped_stops V K r spell fits follows f back fits' law c;
  sample =
      let there = c.there law.sample.value law.sample.fit in
      record { value = f law.sample.value; fit = there.1; real = rw (there.0) law.sample.real };
  known = λ b fit. law.known (back b) (c.here b fit).1;
}
