-- A phase of registers that are moved in two worlds, for the viewer as each of its three parties.
use Rattle.std.proofs.Common.{◌≡◌, ℕ, suc, ◌*◌, List, [], ◌∷◌, ◌++◌, length, drop, refl, sym, subst, ◌∙◌, ap, arith}
use Rattle.std.specs.List.{flat_map}
use Rattle.lanes.specs.declared.party.Party.{Party}
use Rattle.lanes.specs.declared.party.Party.TheVariants.{First, Second, Third}
use Rattle.lanes.specs.Party.{next, before}
use Rattle.lanes.specs.Three.{at}
use Rattle.lanes.specs.Lanes.{xors}
use Rattle.step_lists.specs.Phases.{Shares, reshared_all, there_all, back_all, Moving, phase, phase_words}
use Rattle.twin.proofs.Facts.{Facts}
use Rattle.twin.proofs.Same.{HeldSame, SameWords}
use Rattle.twin.proofs.Phases.{Absorbs, absorbs, bare_long, changed_behind, there_words, back_words, there_bare, back_bare, there_same, back_same, held_as_own, held_as_next, held_as_before}
use Rattle.twin.proofs.PhasesParties.{own_left_by_own, following_left_by_own, unseen_left_by_own, own_left_by_next, following_left_by_next, unseen_left_by_next, own_left_by_before, following_left_by_before, unseen_left_by_before, shares_by_next, shares_by_before, words_by_own, words_by_next, words_by_before}

pub held_count : (v : Party) (ss ts : List Shares) → HeldSame v ss ts → length ss ≡ length ts
held_count v [] [] h = refl
held_count v [] (t ∷ ts) h = absurd h
held_count v (s ∷ ss) [] h = absurd h
held_count v (s ∷ ss) (t ∷ ts) h = ap suc (held_count v ss ts h.1)

-- the viewer's shares and masks are equal, and the unseen masks of the second world are changed
pub record Stands (v : Party) (x y : Moving) (changes : List ℕ) : Type 0 where
  pub held : HeldSame v x.shares y.shares
  pub own : at v x.masks ≡ at v y.masks
  pub following : at (next v) x.masks ≡ at (next v) y.masks
  pub unseen : at (before v) y.masks ≡ xors (at (before v) x.masks) changes

-- what is left of masks in both worlds
same_left : (n : ℕ) (ss ts : List Shares) (a b : List ℕ) → length ss ≡ length ts → a ≡ b → drop (length ss * n) a ≡ drop (length ts * n) b
same_left n ss ts a b e f = ap (λ k. drop (k * n) a) e ∙ ap (drop (length ts * n)) f

-- what is left of changed masks
pub changes_long : Facts → (f : Shares → List ℕ) (n : ℕ) (ss ts : List Shares) → ((s : Shares) → length (f s) ≡ n) → length ss ≡ length ts
    → length (xors (flat_map f ss) (flat_map f ts)) ≡ length ss * n
changes_long facts f n ss ts e h =
    let a = bare_long f n ss e in
    let b = bare_long f n ts e ∙ ap (λ k. k * n) (sym h) in
    omega (arith, facts.lengths.xor (flat_map f ss) (flat_map f ts))

changed_left : Facts → (n : ℕ) (ss ts : List Shares) (a b c rest : List ℕ) → length ss ≡ length ts → length c ≡ length ss * n → b ≡ xors a (c ++ rest)
    → drop (length ts * n) b ≡ xors (drop (length ss * n) a) rest
changed_left facts n ss ts a b c rest e h is =
    ap (λ k. drop (k * n) b) (sym e) ∙ (ap (drop (length ss * n)) is ∙ changed_behind facts (length ss * n) a c rest h)

there_absorbs : Facts → (v : Party) (o : List ℕ) (n : ℕ) (ss ts : List Shares) (a b rest : List ℕ) → length o ≡ n → length ss ≡ length ts
    → b ≡ xors a (xors (there_all v o n ss []) (there_all v o n ts []) ++ rest) → Absorbs (there_words v o) n ss ts a b
there_absorbs facts v o n ss ts a b rest ho e h =
    let f = there_words v o in
    let is = h ∙ (ap (λ x. xors a (xors x (there_all v o n ts []) ++ rest)) (there_bare v o n ss) ∙ ap (λ x. xors a (xors (flat_map f ss) x ++ rest)) (there_bare v o n ts)) in
    subst (Absorbs f n ss ts a) (sym is) (absorbs facts f n ss ts a rest (λ s. facts.lengths.pick o (xors (at (before v) s) (at v s)) ∙ ho) e)

back_absorbs : Facts → (j : Party) (o : List ℕ) (n : ℕ) (ss ts : List Shares) (a b rest : List ℕ) → length o ≡ n → length ss ≡ length ts
    → b ≡ xors a (xors (back_all j o n ss []) (back_all j o n ts []) ++ rest) → Absorbs (back_words j o) n ss ts a b
back_absorbs facts j o n ss ts a b rest ho e h =
    let f = back_words j o in
    let is = h ∙ (ap (λ x. xors a (xors x (back_all j o n ts []) ++ rest)) (back_bare j o n ss) ∙ ap (λ x. xors a (xors (flat_map f ss) x ++ rest)) (back_bare j o n ts)) in
    subst (Absorbs f n ss ts a) (sym is) (absorbs facts f n ss ts a rest (λ s. facts.lengths.pick o (at (next j) s) ∙ ho) e)

pub there_changes : Facts → (v : Party) (o : List ℕ) (n : ℕ) (ss ts : List Shares) → length o ≡ n → length ss ≡ length ts
    → length (xors (there_all v o n ss []) (there_all v o n ts [])) ≡ length ss * n
there_changes facts v o n ss ts ho e =
    ap (λ x. length (xors x (there_all v o n ts []))) (there_bare v o n ss)
    ∙ (ap (λ x. length (xors (flat_map (there_words v o) ss) x)) (there_bare v o n ts)
    ∙ changes_long facts (there_words v o) n ss ts (λ s. facts.lengths.pick o (xors (at (before v) s) (at v s)) ∙ ho) e)

pub back_changes : Facts → (j : Party) (o : List ℕ) (n : ℕ) (ss ts : List Shares) → length o ≡ n → length ss ≡ length ts
    → length (xors (back_all j o n ss []) (back_all j o n ts [])) ≡ length ss * n
back_changes facts j o n ss ts ho e =
    ap (λ x. length (xors x (back_all j o n ts []))) (back_bare j o n ss)
    ∙ (ap (λ x. length (xors (flat_map (back_words j o) ss) x)) (back_bare j o n ts)
    ∙ changes_long facts (back_words j o) n ss ts (λ s. facts.lengths.pick o (at (next j) s) ∙ ho) e)

-- ---- the viewer as party j

pub own_stands : Facts → (v : Party) (o : List ℕ) (n : ℕ) (x y : Moving) (rest : List ℕ) → length o ≡ n
    → Stands v x y (xors (there_all v o n x.shares []) (there_all v o n y.shares []) ++ rest) → Stands v (phase v o n x) (phase v o n y) rest
own_stands facts v o n x y rest ho h =
    let count = held_count v x.shares y.shares h.held in
    let is = there_absorbs facts v o n x.shares y.shares (at (before v) x.masks) (at (before v) y.masks) rest ho count h.unseen in
    let held = held_as_own v o n x.shares y.shares (at (before v) x.masks) (at (before v) y.masks) (at (next v) x.masks) h.held is in
    record {
      held = subst (λ m. HeldSame v (phase v o n x).shares (reshared_all v o n y.shares (at (before v) y.masks) m)) h.following held;
      own = own_left_by_own v o n x ∙ (h.own ∙ sym (own_left_by_own v o n y));
      following =
          following_left_by_own v o n x
          ∙ (same_left n x.shares y.shares (at (next v) x.masks) (at (next v) y.masks) count h.following ∙ sym (following_left_by_own v o n y));
      unseen =
          unseen_left_by_own v o n y
          ∙ (changed_left facts n x.shares y.shares (at (before v) x.masks) (at (before v) y.masks) (xors (there_all v o n x.shares []) (there_all v o n y.shares [])) rest
          count (there_changes facts v o n x.shares y.shares ho count) h.unseen
          ∙ ap (λ t. xors t rest) (sym (unseen_left_by_own v o n x)));
    }

pub own_words : Facts → (v : Party) (o : List ℕ) (n : ℕ) (x y : Moving) (rest : List ℕ) → length o ≡ n
    → Stands v x y (xors (there_all v o n x.shares []) (there_all v o n y.shares []) ++ rest) → SameWords v (phase_words v o n x) (phase_words v o n y)
own_words facts v o n x y rest ho h =
    let count = held_count v x.shares y.shares h.held in
    let is = there_absorbs facts v o n x.shares y.shares (at (before v) x.masks) (at (before v) y.masks) rest ho count h.unseen in
    words_by_own v (there_all v o n x.shares (at (before v) x.masks)) (there_all v o n y.shares (at (before v) y.masks))
    (back_all v o n x.shares (at (next v) x.masks)) (back_all v o n y.shares (at (next v) y.masks))
    (there_same v o n x.shares y.shares (at (before v) x.masks) (at (before v) y.masks) is)

-- ---- the viewer as party j - 1

next_next : (v : Party) → next (next v) ≡ before v
next_next First = refl
next_next Second = refl
next_next Third = refl

pub next_stands : Facts → (v : Party) (o : List ℕ) (n : ℕ) (x y : Moving) (rest : List ℕ) → length o ≡ n
    → Stands v x y (xors (back_all (next v) o n x.shares []) (back_all (next v) o n y.shares []) ++ rest) → Stands v (phase (next v) o n x) (phase (next v) o n y) rest
next_stands facts v o n x y rest ho h =
    let count = held_count v x.shares y.shares h.held in
    let is = back_absorbs facts (next v) o n x.shares y.shares (at (before v) x.masks) (at (before v) y.masks) rest ho count h.unseen in
    let held = held_as_next v o n x.shares y.shares (at v x.masks) (at (before v) x.masks) (at (before v) y.masks) h.held is in
    record {
      held =
          subst (λ ss. HeldSame v ss (phase (next v) o n y).shares) (sym (shares_by_next v o n x))
          (subst (HeldSame v (reshared_all (next v) o n x.shares (at v x.masks) (at (before v) x.masks))) (sym (shares_by_next v o n y))
          (subst (λ m. HeldSame v (reshared_all (next v) o n x.shares (at v x.masks) (at (before v) x.masks)) (reshared_all (next v) o n y.shares m (at (before v) y.masks))) h.own held));
      own =
          own_left_by_next v o n x ∙ (same_left n x.shares y.shares (at v x.masks) (at v y.masks) count h.own ∙ sym (own_left_by_next v o n y));
      following = following_left_by_next v o n x ∙ (h.following ∙ sym (following_left_by_next v o n y));
      unseen =
          unseen_left_by_next v o n y
          ∙ (changed_left facts n x.shares y.shares (at (before v) x.masks) (at (before v) y.masks)
          (xors (back_all (next v) o n x.shares []) (back_all (next v) o n y.shares [])) rest
          count (back_changes facts (next v) o n x.shares y.shares ho count) h.unseen
          ∙ ap (λ t. xors t rest) (sym (unseen_left_by_next v o n x)));
    }

pub next_words : Facts → (v : Party) (o : List ℕ) (n : ℕ) (x y : Moving) (rest : List ℕ) → length o ≡ n
    → Stands v x y (xors (back_all (next v) o n x.shares []) (back_all (next v) o n y.shares []) ++ rest)
    → SameWords v (phase_words (next v) o n x) (phase_words (next v) o n y)
next_words facts v o n x y rest ho h =
    let count = held_count v x.shares y.shares h.held in
    let is = back_absorbs facts (next v) o n x.shares y.shares (at (before v) x.masks) (at (before v) y.masks) rest ho count h.unseen in
    let same = back_same (next v) o n x.shares y.shares (at (before v) x.masks) (at (before v) y.masks) is in
    words_by_next v (there_all (next v) o n x.shares (at (before (next v)) x.masks)) (there_all (next v) o n y.shares (at (before (next v)) y.masks))
    (back_all (next v) o n x.shares (at (next (next v)) x.masks)) (back_all (next v) o n y.shares (at (next (next v)) y.masks))
    (subst (λ p. back_all (next v) o n x.shares (at p x.masks) ≡ back_all (next v) o n y.shares (at p y.masks)) (sym (next_next v)) same)

-- ---- the viewer as the third party

pub before_stands : (v : Party) (p q : List ℕ) (n : ℕ) (x y : Moving) (rest : List ℕ) → Stands v x y rest → Stands v (phase (before v) p n x) (phase (before v) q n y) rest
before_stands v p q n x y rest h =
    let count = held_count v x.shares y.shares h.held in
    let held = held_as_before v p q n x.shares y.shares (at (next v) x.masks) (at v x.masks) h.held in
    record {
      held =
          subst (λ ss. HeldSame v ss (phase (before v) q n y).shares) (sym (shares_by_before v p n x))
          (subst (HeldSame v (reshared_all (before v) p n x.shares (at (next v) x.masks) (at v x.masks))) (sym (shares_by_before v q n y))
          (subst (λ m. HeldSame v (reshared_all (before v) p n x.shares (at (next v) x.masks) (at v x.masks)) (reshared_all (before v) q n y.shares (at (next v) y.masks) m)) h.own
          (subst (λ m. HeldSame v (reshared_all (before v) p n x.shares (at (next v) x.masks) (at v x.masks)) (reshared_all (before v) q n y.shares m (at v x.masks))) h.following held)));
      own =
          own_left_by_before v p n x ∙ (same_left n x.shares y.shares (at v x.masks) (at v y.masks) count h.own ∙ sym (own_left_by_before v q n y));
      following =
          following_left_by_before v p n x
          ∙ (same_left n x.shares y.shares (at (next v) x.masks) (at (next v) y.masks) count h.following ∙ sym (following_left_by_before v q n y));
      unseen = unseen_left_by_before v q n y ∙ (h.unseen ∙ ap (λ t. xors t rest) (sym (unseen_left_by_before v p n x)));
    }

pub before_words : (v : Party) (p q : List ℕ) (n : ℕ) (x y : Moving) → SameWords v (phase_words (before v) p n x) (phase_words (before v) q n y)
before_words v p q n x y =
    words_by_before v (there_all (before v) p n x.shares (at (before (before v)) x.masks)) (there_all (before v) q n y.shares (at (before (before v)) y.masks))
    (back_all (before v) p n x.shares (at (next (before v)) x.masks)) (back_all (before v) q n y.shares (at (next (before v)) y.masks))
