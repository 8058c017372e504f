-- A phase in two worlds: what the viewer holds and receives is equal, where the unseen masks take up the difference of
-- what they mask.
use Rattle.std.proofs.Common.{◌≡◌, ℕ, zero, suc, ◌*◌, List, [], ◌∷◌, ◌++◌, length, take, drop, refl, sym, subst, ◌∙◌, ap, arith}
use Rattle.std.specs.List.{flat_map}
use Rattle.std.proofs.Math.Nat.{suc-mul}
use Rattle.std.proofs.lemmas.List.{append_assoc, length-append}
use Rattle.lanes.specs.declared.party.Party.{Party}
use Rattle.lanes.specs.declared.party.Party.TheVariants.{First, Second, Third}
use Rattle.lanes.specs.Party.{next, before}
use Rattle.lanes.specs.Three.{at}
use Rattle.lanes.specs.Lanes.{xors}
use Rattle.tapes.specs.Order.{applied}
use Rattle.step_lists.specs.Phases.{Shares, there, back, reshared, reshared_all, there_all, back_all}
use Rattle.twin.proofs.Facts.{Facts}
use Rattle.twin.proofs.Same.{HeldSame}

-- ---- words

pub xor_nothing : (xs : List ℕ) → xors xs [] ≡ xs
xor_nothing [] = refl
xor_nothing (x ∷ xs) = refl

pub take_nothing : (n : ℕ) → take {A = ℕ} n [] ≡ []
take_nothing zero = refl
take_nothing (suc n) = refl

pub drop_nothing : (n : ℕ) → drop {A = ℕ} n [] ≡ []
drop_nothing zero = refl
drop_nothing (suc n) = refl

pub take_front : (n : ℕ) (xs ys : List ℕ) → length xs ≡ n → take n (xs ++ ys) ≡ xs
take_front zero [] ys h = take-none ys where
  take-none : (ys : List ℕ) → take 0 ys ≡ []
  take-none [] = refl
  take-none (y ∷ ys) = refl
take_front zero (x ∷ xs) ys h = absurd (omega arith)
take_front (suc n) [] ys h = absurd (omega arith)
take_front (suc n) (x ∷ xs) ys h = ap (λ t. x ∷ t) (take_front n xs ys (omega arith))

pub drop_front : (n : ℕ) (xs ys : List ℕ) → length xs ≡ n → drop n (xs ++ ys) ≡ ys
drop_front zero [] ys h = drop-none ys where
  drop-none : (ys : List ℕ) → drop 0 ys ≡ ys
  drop-none [] = refl
  drop-none (y ∷ ys) = refl
drop_front zero (x ∷ xs) ys h = absurd (omega arith)
drop_front (suc n) [] ys h = absurd (omega arith)
drop_front (suc n) (x ∷ xs) ys h = drop_front n xs ys (omega arith)

-- the mask of the second world takes up the difference
pub absorbed : Facts → (a u w : List ℕ) → length w ≡ length u → xors w (xors a (xors u w)) ≡ xors u a
absorbed facts a u w e =
    facts.commutes w (xors a (xors u w))
    ∙ (ap (λ x. xors x w) (sym (facts.associates a u w) ∙ ap (λ x. xors x w) (facts.commutes a u))
    ∙ facts.comes_off (xors u a) w (omega (arith, facts.lengths.xor u a)))

-- the first changes, and those behind them
pub changed_first : Facts → (n : ℕ) (a c cs : List ℕ) → length c ≡ n → take n (xors a (c ++ cs)) ≡ xors (take n a) c
changed_first facts n a c cs e = facts.parts.first n a (c ++ cs) ∙ ap (xors (take n a)) (take_front n c cs e)

pub changed_behind : Facts → (n : ℕ) (a c cs : List ℕ) → length c ≡ n → drop n (xors a (c ++ cs)) ≡ xors (drop n a) cs
changed_behind facts n a c cs e = facts.parts.behind n a (c ++ cs) ∙ ap (xors (drop n a)) (drop_front n c cs e)

-- ---- one register

own_of_own : (v : Party) (o : List ℕ) (s : Shares) (a b : List ℕ) → at v (reshared v o s a b) ≡ xors (there v o s a) (back v o s b)
own_of_own First o s a b = refl
own_of_own Second o s a b = refl
own_of_own Third o s a b = refl

following_of_own : (v : Party) (o : List ℕ) (s : Shares) (a b : List ℕ) → at (next v) (reshared v o s a b) ≡ b
following_of_own First o s a b = refl
following_of_own Second o s a b = refl
following_of_own Third o s a b = refl

own_of_next : (v : Party) (o : List ℕ) (s : Shares) (a b : List ℕ) → at v (reshared (next v) o s a b) ≡ a
own_of_next First o s a b = refl
own_of_next Second o s a b = refl
own_of_next Third o s a b = refl

following_of_next : (v : Party) (o : List ℕ) (s : Shares) (a b : List ℕ)
    → at (next v) (reshared (next v) o s a b) ≡ xors (xors (applied o (xors (at v s) (at (next v) s))) a) (back (next v) o s b)
following_of_next First o s a b = refl
following_of_next Second o s a b = refl
following_of_next Third o s a b = refl

own_of_before : (v : Party) (o : List ℕ) (s : Shares) (a b : List ℕ) → at v (reshared (before v) o s a b) ≡ b
own_of_before First o s a b = refl
own_of_before Second o s a b = refl
own_of_before Third o s a b = refl

following_of_before : (v : Party) (o : List ℕ) (s : Shares) (a b : List ℕ) → at (next v) (reshared (before v) o s a b) ≡ a
following_of_before First o s a b = refl
following_of_before Second o s a b = refl
following_of_before Third o s a b = refl

-- ---- several registers

-- in both worlds these words and the masks behind them give the same
abbrev pub Absorbs : (Shares → List ℕ) → ℕ → List Shares → List Shares → List ℕ → List ℕ → Type 0
Absorbs f n [] [] a b = Unit {0}
Absorbs f n [] (t ∷ ts) a b = ⊥
Absorbs f n (s ∷ ss) [] a b = ⊥
Absorbs f n (s ∷ ss) (t ∷ ts) a b = (xors (f s) (take n a) ≡ xors (f t) (take n b)) × Absorbs f n ss ts (drop n a) (drop n b)

pub bare_long : (f : Shares → List ℕ) (n : ℕ) (ss : List Shares) → ((s : Shares) → length (f s) ≡ n) → length (flat_map f ss) ≡ length ss * n
bare_long f n [] e = omega arith
bare_long f n (s ∷ ss) e =
    let more = bare_long f n ss e in
    let here = e s in
    let times = suc-mul (length ss) n in
    omega (arith, length-append (f s) (flat_map f ss))

-- changes one behind the other
split_changes : Facts → (n : ℕ) (u w us ws rest : List ℕ) → length u ≡ n → length w ≡ n → xors (u ++ us) (w ++ ws) ++ rest ≡ xors u w ++ (xors us ws ++ rest)
split_changes facts n u w us ws rest hu hw =
    ap (λ t. t ++ rest) (facts.parts.appended u us w ws (hu ∙ sym hw)) ∙ append_assoc (xors u w) (xors us ws) rest

pub absorbs : Facts → (f : Shares → List ℕ) (n : ℕ) (ss ts : List Shares) (a rest : List ℕ) → ((s : Shares) → length (f s) ≡ n) → length ss ≡ length ts
    → Absorbs f n ss ts a (xors a (xors (flat_map f ss) (flat_map f ts) ++ rest))
absorbs facts f n [] [] a rest e h = tt
absorbs facts f n [] (t ∷ ts) a rest e h = absurd (omega arith)
absorbs facts f n (s ∷ ss) [] a rest e h = absurd (omega arith)
absorbs facts f n (s ∷ ss) (t ∷ ts) a rest e h =
    let u = f s in
    let w = f t in
    let us = flat_map f ss in
    let ws = flat_map f ts in
    let long : length (xors u w) ≡ n = omega (arith, facts.lengths.xor u w, e s, e t) in
    let split = ap (xors a) (split_changes facts n u w us ws rest (e s) (e t)) in
    let front = ap (take n) split ∙ changed_first facts n a (xors u w) (xors us ws ++ rest) long in
    let behind = ap (drop n) split ∙ changed_behind facts n a (xors u w) (xors us ws ++ rest) long in (
      sym (ap (xors w) front ∙ absorbed facts (take n a) u w (e t ∙ sym (e s))),
      subst (Absorbs f n ss ts (drop n a)) (sym behind) (absorbs facts f n ss ts (drop n a) rest e (omega arith)),
    )

-- ---- a phase of the viewer

abbrev pub there_words : Party → List ℕ → Shares → List ℕ
there_words j o s = applied o (xors (at (before j) s) (at j s))

abbrev pub back_words : Party → List ℕ → Shares → List ℕ
back_words j o s = applied o (at (next j) s)

pub there_bare : (j : Party) (o : List ℕ) (n : ℕ) (ss : List Shares) → there_all j o n ss [] ≡ flat_map (there_words j o) ss
there_bare j o n [] = refl
there_bare j o n (s ∷ ss) =
    ap (λ x. xors (there_words j o s) x ++ there_all j o n ss (drop n [])) (take_nothing n)
    ∙ (ap (λ x. x ++ there_all j o n ss (drop n [])) (xor_nothing (there_words j o s))
    ∙ ap (λ x. there_words j o s ++ x) (ap (there_all j o n ss) (drop_nothing n) ∙ there_bare j o n ss))

pub back_bare : (j : Party) (o : List ℕ) (n : ℕ) (ss : List Shares) → back_all j o n ss [] ≡ flat_map (back_words j o) ss
back_bare j o n [] = refl
back_bare j o n (s ∷ ss) =
    ap (λ x. xors (back_words j o s) x ++ back_all j o n ss (drop n [])) (take_nothing n)
    ∙ (ap (λ x. x ++ back_all j o n ss (drop n [])) (xor_nothing (back_words j o s))
    ∙ ap (λ x. back_words j o s ++ x) (ap (back_all j o n ss) (drop_nothing n) ∙ back_bare j o n ss))

pub there_same : (j : Party) (o : List ℕ) (n : ℕ) (ss ts : List Shares) (a b : List ℕ) → Absorbs (there_words j o) n ss ts a b → there_all j o n ss a ≡ there_all j o n ts b
there_same j o n [] [] a b h = refl
there_same j o n [] (t ∷ ts) a b h = absurd h
there_same j o n (s ∷ ss) [] a b h = absurd h
there_same j o n (s ∷ ss) (t ∷ ts) a b h = let more = there_same j o n ss ts (drop n a) (drop n b) h.1 in let here = h.0 in cc

pub back_same : (j : Party) (o : List ℕ) (n : ℕ) (ss ts : List Shares) (a b : List ℕ) → Absorbs (back_words j o) n ss ts a b → back_all j o n ss a ≡ back_all j o n ts b
back_same j o n [] [] a b h = refl
back_same j o n [] (t ∷ ts) a b h = absurd h
back_same j o n (s ∷ ss) [] a b h = absurd h
back_same j o n (s ∷ ss) (t ∷ ts) a b h = let more = back_same j o n ss ts (drop n a) (drop n b) h.1 in let here = h.0 in cc

-- as party j
pub held_as_own : (v : Party) (o : List ℕ) (n : ℕ) (ss ts : List Shares) (a b m : List ℕ) → HeldSame v ss ts → Absorbs (there_words v o) n ss ts a b
    → HeldSame v (reshared_all v o n ss a m) (reshared_all v o n ts b m)
held_as_own v o n [] [] a b m h i = tt
held_as_own v o n [] (t ∷ ts) a b m h i = absurd h
held_as_own v o n (s ∷ ss) [] a b m h i = absurd h
held_as_own v o n (s ∷ ss) (t ∷ ts) a b m h i = (
  record {
    own =
        own_of_own v o s (take n a) (take n m)
        ∙ (ap (λ x. xors x (back v o s (take n m))) i.0
        ∙ (ap (λ x. xors (there v o t (take n b)) (xors (applied o x) (take n m))) h.0.following ∙ sym (own_of_own v o t (take n b) (take n m))));
    following = following_of_own v o s (take n a) (take n m) ∙ sym (following_of_own v o t (take n b) (take n m));
  },
  held_as_own v o n ss ts (drop n a) (drop n b) (drop n m) h.1 i.1,
)

-- as party j - 1
pub held_as_next : (v : Party) (o : List ℕ) (n : ℕ) (ss ts : List Shares) (m a b : List ℕ) → HeldSame v ss ts → Absorbs (back_words (next v) o) n ss ts a b
    → HeldSame v (reshared_all (next v) o n ss m a) (reshared_all (next v) o n ts m b)
held_as_next v o n [] [] m a b h i = tt
held_as_next v o n [] (t ∷ ts) m a b h i = absurd h
held_as_next v o n (s ∷ ss) [] m a b h i = absurd h
held_as_next v o n (s ∷ ss) (t ∷ ts) m a b h i = (
  record {
    own = own_of_next v o s (take n m) (take n a) ∙ sym (own_of_next v o t (take n m) (take n b));
    following =
        following_of_next v o s (take n m) (take n a)
        ∙ (ap (xors (xors (applied o (xors (at v s) (at (next v) s))) (take n m))) i.0
        ∙ (ap (λ x. xors (xors (applied o (xors x (at (next v) s))) (take n m)) (back (next v) o t (take n b))) h.0.own
        ∙ (ap (λ x. xors (xors (applied o (xors (at v t) x)) (take n m)) (back (next v) o t (take n b))) h.0.following
        ∙ sym (following_of_next v o t (take n m) (take n b)))));
  },
  held_as_next v o n ss ts (drop n m) (drop n a) (drop n b) h.1 i.1,
)

-- as the third party, whatever the orders are
pub held_as_before : (v : Party) (p q : List ℕ) (n : ℕ) (ss ts : List Shares) (a b : List ℕ) → HeldSame v ss ts
    → HeldSame v (reshared_all (before v) p n ss a b) (reshared_all (before v) q n ts a b)
held_as_before v p q n [] [] a b h = tt
held_as_before v p q n [] (t ∷ ts) a b h = absurd h
held_as_before v p q n (s ∷ ss) [] a b h = absurd h
held_as_before v p q n (s ∷ ss) (t ∷ ts) a b h = (
  record {
    own = own_of_before v p s (take n a) (take n b) ∙ sym (own_of_before v q t (take n a) (take n b));
    following = following_of_before v p s (take n a) (take n b) ∙ sym (following_of_before v q t (take n a) (take n b));
  },
  held_as_before v p q n ss ts (drop n a) (drop n b) h.1,
)
