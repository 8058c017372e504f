-- The phases of both worlds: the second world as the twin counts it is the second world under the twin's draws, and the
-- changes of the way back are the same.
use Rattle.std.proofs.Common.{◌≡◌, ℕ, ◌*◌, ◌≤◌, List, [], ◌∷◌, ◌++◌, length, take, drop, refl, sym, subst, ◌∙◌, ap, arith}
use Rattle.std.specs.Prelude.{Bool, true, false, if◌then◌else◌}
use Rattle.std.proofs.Math.Nat.{suc-mul}
use Rattle.std.proofs.lemmas.List.{length-drop, drop_all, take-append-le, drop-append-le}
use Rattle.lanes.specs.declared.party.Party.{Party}
use Rattle.lanes.specs.declared.party.Party.TheVariants.{First, Second, Third}
use Rattle.lanes.specs.Party.{next, before}
use Rattle.lanes.specs.Three.{at}
use Rattle.lanes.specs.Lanes.{xors}
use Rattle.step_lists.specs.Seen.{same_party}
use Rattle.step_lists.specs.Phases.{Shares, reshared_all, there_all, back_all, Moving, phase, phase_words}
use Rattle.step_lists.specs.Twin.{Both, bare_phase, masked_anew, phase_both}
use Rattle.twin.proofs.Facts.{Facts}
use Rattle.twin.proofs.Same.{SameWords}
use Rattle.twin.proofs.Puts.{at_put, own_stays, next_stays}
use Rattle.twin.proofs.Phases.{xor_nothing}
use Rattle.twin.proofs.PhasesParties.{own_left_by_own, following_left_by_own, unseen_left_by_own, own_left_by_next, following_left_by_next, unseen_left_by_next, own_left_by_before, following_left_by_before, unseen_left_by_before, shares_by_next, shares_by_before, bare_of_own, bare_of_next, bare_of_before}
use Rattle.twin.proofs.PhasesMoved.{Stands, held_count, there_changes, back_changes, own_stands, own_words, next_stands, next_words, before_stands, before_words}

-- ---- masks of which a front counts

-- two lists of masks that have the same words for these registers
abbrev pub FrontsSame : ℕ → List Shares → List ℕ → List ℕ → Type 0
FrontsSame n [] a b = Unit {0}
FrontsSame n (s ∷ ss) a b = (take n a ≡ take n b) × FrontsSame n ss (drop n a) (drop n b)

first_front : (j : Party) (o : List ℕ) (n : ℕ) (ss : List Shares) (a b m : List ℕ) → FrontsSame n ss a b → reshared_all j o n ss a m ≡ reshared_all j o n ss b m
first_front j o n [] a b m h = refl
first_front j o n (s ∷ ss) a b m h = let more = first_front j o n ss (drop n a) (drop n b) (drop n m) h.1 in let here = h.0 in cc

second_front : (j : Party) (o : List ℕ) (n : ℕ) (ss : List Shares) (m a b : List ℕ) → FrontsSame n ss a b → reshared_all j o n ss m a ≡ reshared_all j o n ss m b
second_front j o n [] m a b h = refl
second_front j o n (s ∷ ss) m a b h = let more = second_front j o n ss (drop n m) (drop n a) (drop n b) h.1 in let here = h.0 in cc

fronts_same : Facts → (n : ℕ) (ss : List Shares) (a c rest : List ℕ) → length c ≡ length ss * n → FrontsSame n ss (xors a (c ++ rest)) (xors a c)
fronts_same facts n [] a c rest h = tt
fronts_same facts n (s ∷ ss) a c rest h =
    let times = suc-mul (length ss) n in
    let enough : n ≤ length c = omega arith in
    let left : length (drop n c) ≡ length ss * n = omega (arith, length-drop n c) in (
      facts.parts.first n a (c ++ rest) ∙ (ap (xors (take n a)) (take-append-le n c rest enough) ∙ sym (facts.parts.first n a c)),
      subst (λ x. FrontsSame n ss x (drop n (xors a c)))
          (sym (facts.parts.behind n a (c ++ rest) ∙ ap (xors (drop n a)) (drop-append-le n c rest enough)))
          (subst (FrontsSame n ss (xors (drop n a) (drop n c ++ rest))) (sym (facts.parts.behind n a c)) (fronts_same facts n ss (drop n a) (drop n c) rest left)),
    )

-- ---- one phase

-- the second world as the twin counts it, and the second world itself, whose unseen masks hold the changes still to come
pub record Follows (v : Party) (b : Both) (z : Moving) (changes : List ℕ) : Type 0 where
  pub shares : z.shares ≡ b.other.shares
  pub stands : Stands v b.one z changes
  pub own : at v b.other.masks ≡ at v b.one.masks
  pub following : at (next v) b.other.masks ≡ at (next v) b.one.masks
  pub unseen : at (before v) b.other.masks ≡ at (before v) b.one.masks

-- what a phase changes
abbrev pub phase_changes : Party → Party → List ℕ → List ℕ → ℕ → Both → List ℕ
phase_changes v j p q n b = xors (bare_phase v j p n b.one) (bare_phase v j q n b.other)

pub bare_same : (v j : Party) (o : List ℕ) (n : ℕ) (x y : Moving) → x.shares ≡ y.shares → bare_phase v j o n x ≡ bare_phase v j o n y
bare_same v j o n x y e = ap (λ ss. bare_phase v j o n (record { shares = ss; masks = x.masks })) e

-- the words that are changed are used up
used_up : Facts → (k l : ℕ) (a b c : List ℕ) → k ≡ l → b ≡ a → length c ≡ k → drop l (xors b c) ≡ drop k a
used_up facts k l a b c e f h =
    ap (λ k. drop k (xors b c)) (sym e)
    ∙ (facts.parts.behind k b c
    ∙ (ap (xors (drop k b)) (drop_all k c (omega arith)) ∙ (xor_nothing (drop k b) ∙ ap (drop k) f)))

-- the same registers and masks give the same shares
remade : (j : Party) (o : List ℕ) (n : ℕ) (ss ts : List Shares) (a b l m : List ℕ) → ss ≡ ts → a ≡ b → l ≡ m → reshared_all j o n ss a l ≡ reshared_all j o n ts b m
remade j o n ss ts a b l m e f g = cc

pub changes_own : (v : Party) (o : List ℕ) (n : ℕ) (b : Both) (z : Moving) → z.shares ≡ b.other.shares
    → phase_changes v v o o n b ≡ xors (there_all v o n b.one.shares []) (there_all v o n z.shares [])
changes_own v o n b z e =
    ap (λ x. xors x (bare_phase v v o n b.other)) (bare_of_own v o n b.one)
    ∙ ap (xors (there_all v o n b.one.shares [])) (bare_of_own v o n b.other ∙ ap (λ ss. there_all v o n ss []) (sym e))

pub changes_next : (v : Party) (o : List ℕ) (n : ℕ) (b : Both) (z : Moving) → z.shares ≡ b.other.shares
    → phase_changes v (next v) o o n b ≡ xors (back_all (next v) o n b.one.shares []) (back_all (next v) o n z.shares [])
changes_next v o n b z e =
    ap (λ x. xors x (bare_phase v (next v) o n b.other)) (bare_of_next v o n b.one)
    ∙ ap (xors (back_all (next v) o n b.one.shares [])) (bare_of_next v o n b.other ∙ ap (λ ss. back_all (next v) o n ss []) (sym e))

follows_own : Facts → (v : Party) (o : List ℕ) (n : ℕ) (b : Both) (z : Moving) (rest : List ℕ) → length o ≡ n
    → Follows v b z (phase_changes v v o o n b ++ rest) → Follows v (phase_both v v o o n b) (phase v o n z) rest
follows_own facts v o n b z rest ho h =
    let c = phase_changes v v o o n b in
    let other = masked_anew v c b.other in
    let a = at (before v) b.one.masks in
    let same = changes_own v o n b z h.shares in
    let count = held_count v b.one.shares z.shares h.stands.held in
    let long : length c ≡ length b.one.shares * n = ap length same ∙ there_changes facts v o n b.one.shares z.shares ho count in
    let also : length b.one.shares * n ≡ length b.other.shares * n = ap (λ k. k * n) (count ∙ ap length h.shares) in
    let masked : at (before v) other.masks ≡ xors a c = at_put (before v) _ b.other.masks ∙ ap (λ x. xors x c) h.unseen in
    let seen : at (next v) z.masks ≡ at (next v) other.masks = sym h.stands.following ∙ (sym h.following ∙ sym (next_stays v _ b.other.masks)) in
    record {
      shares =
          ap (λ a. reshared_all v o n z.shares a (at (next v) z.masks)) h.stands.unseen
          ∙ (first_front v o n z.shares (xors a (c ++ rest)) (xors a c) (at (next v) z.masks) (fronts_same facts n z.shares a c rest (long ∙ ap (λ k. k * n) count))
          ∙ remade v o n z.shares b.other.shares (xors a c) (at (before v) other.masks) (at (next v) z.masks) (at (next v) other.masks) h.shares (sym masked) seen);
      stands = own_stands facts v o n b.one z rest ho (subst (λ c. Stands v b.one z (c ++ rest)) same h.stands);
      own = own_left_by_own v o n other ∙ (own_stays v _ b.other.masks ∙ (h.own ∙ sym (own_left_by_own v o n b.one)));
      following =
          following_left_by_own v o n other
          ∙ (ap (drop (length b.other.shares * n)) (next_stays v _ b.other.masks ∙ h.following)
          ∙ (ap (λ k. drop k (at (next v) b.one.masks)) (sym also) ∙ sym (following_left_by_own v o n b.one)));
      unseen =
          unseen_left_by_own v o n other
          ∙ (ap (drop (length b.other.shares * n)) (at_put (before v) _ b.other.masks)
          ∙ (used_up facts (length b.one.shares * n) (length b.other.shares * n) a (at (before v) b.other.masks) c also h.unseen long
          ∙ sym (unseen_left_by_own v o n b.one)));
    }

follows_next : Facts → (v : Party) (o : List ℕ) (n : ℕ) (b : Both) (z : Moving) (rest : List ℕ) → length o ≡ n
    → Follows v b z (phase_changes v (next v) o o n b ++ rest) → Follows v (phase_both v (next v) o o n b) (phase (next v) o n z) rest
follows_next facts v o n b z rest ho h =
    let c = phase_changes v (next v) o o n b in
    let other = masked_anew v c b.other in
    let a = at (before v) b.one.masks in
    let same = changes_next v o n b z h.shares in
    let count = held_count v b.one.shares z.shares h.stands.held in
    let long : length c ≡ length b.one.shares * n = ap length same ∙ back_changes facts (next v) o n b.one.shares z.shares ho count in
    let also : length b.one.shares * n ≡ length b.other.shares * n = ap (λ k. k * n) (count ∙ ap length h.shares) in
    let masked : at (before v) other.masks ≡ xors a c = at_put (before v) _ b.other.masks ∙ ap (λ x. xors x c) h.unseen in
    let seen : at v z.masks ≡ at v other.masks = sym h.stands.own ∙ (sym h.own ∙ sym (own_stays v _ b.other.masks)) in
    record {
      shares =
          shares_by_next v o n z
          ∙ (ap (reshared_all (next v) o n z.shares (at v z.masks)) h.stands.unseen
          ∙ (second_front (next v) o n z.shares (at v z.masks) (xors a (c ++ rest)) (xors a c) (fronts_same facts n z.shares a c rest (long ∙ ap (λ k. k * n) count))
          ∙ (remade (next v) o n z.shares b.other.shares (at v z.masks) (at v other.masks) (xors a c) (at (before v) other.masks) h.shares seen (sym masked)
          ∙ sym (shares_by_next v o n other))));
      stands = next_stands facts v o n b.one z rest ho (subst (λ c. Stands v b.one z (c ++ rest)) same h.stands);
      own =
          own_left_by_next v o n other
          ∙ (ap (drop (length b.other.shares * n)) (own_stays v _ b.other.masks ∙ h.own)
          ∙ (ap (λ k. drop k (at v b.one.masks)) (sym also) ∙ sym (own_left_by_next v o n b.one)));
      following = following_left_by_next v o n other ∙ (next_stays v _ b.other.masks ∙ (h.following ∙ sym (following_left_by_next v o n b.one)));
      unseen =
          unseen_left_by_next v o n other
          ∙ (ap (drop (length b.other.shares * n)) (at_put (before v) _ b.other.masks)
          ∙ (used_up facts (length b.one.shares * n) (length b.other.shares * n) a (at (before v) b.other.masks) c also h.unseen long
          ∙ sym (unseen_left_by_next v o n b.one)));
    }

follows_before : (v : Party) (p q : List ℕ) (n : ℕ) (b : Both) (z : Moving) (rest : List ℕ)
    → Follows v b z (phase_changes v (before v) p q n b ++ rest) → Follows v (phase_both v (before v) p q n b) (phase (before v) q n z) rest
follows_before v p q n b z rest h =
    let c = phase_changes v (before v) p q n b in
    let other = masked_anew v c b.other in
    let none : c ≡ [] = ap (λ x. xors x (bare_phase v (before v) q n b.other)) (bare_of_before v p n b.one) ∙ bare_of_before v q n b.other in
    let count = held_count v b.one.shares z.shares h.stands.held in
    let also : length b.other.shares ≡ length b.one.shares = sym (count ∙ ap length h.shares) in
    let first : at v other.masks ≡ at v b.one.masks = own_stays v _ b.other.masks ∙ h.own in
    let second : at (next v) other.masks ≡ at (next v) b.one.masks = next_stays v _ b.other.masks ∙ h.following in
    record {
      shares =
          shares_by_before v q n z
          ∙ (remade (before v) q n z.shares b.other.shares (at (next v) z.masks) (at (next v) other.masks) (at v z.masks) (at v other.masks) h.shares
          (sym h.stands.following ∙ sym second) (sym h.stands.own ∙ sym first)
          ∙ sym (shares_by_before v q n other));
      stands = before_stands v p q n b.one z rest (subst (λ c. Stands v b.one z (c ++ rest)) none h.stands);
      own =
          own_left_by_before v q n other
          ∙ (ap (λ k. drop (k * n) (at v other.masks)) also ∙ (ap (drop (length b.one.shares * n)) first ∙ sym (own_left_by_before v p n b.one)));
      following =
          following_left_by_before v q n other
          ∙ (ap (λ k. drop (k * n) (at (next v) other.masks)) also ∙ (ap (drop (length b.one.shares * n)) second ∙ sym (following_left_by_before v p n b.one)));
      unseen =
          unseen_left_by_before v q n other
          ∙ (at_put (before v) _ b.other.masks
          ∙ (ap (xors (at (before v) b.other.masks)) none ∙ (xor_nothing (at (before v) b.other.masks) ∙ (h.unseen ∙ sym (unseen_left_by_before v p n b.one)))));
    }

-- ---- any phase

-- the orders are equal, but for the phase whose order the viewer doesn't see
abbrev pub AreSeen : Bool → List ℕ → List ℕ → Type 0
AreSeen true p q = p ≡ q
AreSeen false p q = Unit {0}

abbrev pub sees : Party → Party → Bool
sees v j = if same_party j (before v) then false else true

pub follows : Facts → (v j : Party) (p q : List ℕ) (n : ℕ) (b : Both) (z : Moving) (rest : List ℕ) → length p ≡ n → AreSeen (sees v j) p q
    → Follows v b z (phase_changes v j p q n b ++ rest) → Follows v (phase_both v j p q n b) (phase j q n z) rest
follows facts First First p q n b z rest hp e h =
    subst (λ q. Follows First b z (phase_changes First First p q n b ++ rest) → Follows First (phase_both First First p q n b) (phase First q n z) rest) e
    (follows_own facts First p n b z rest hp) h
follows facts First Second p q n b z rest hp e h =
    subst (λ q. Follows First b z (phase_changes First Second p q n b ++ rest) → Follows First (phase_both First Second p q n b) (phase Second q n z) rest) e
    (follows_next facts First p n b z rest hp) h
follows facts First Third p q n b z rest hp e h = follows_before First p q n b z rest h
follows facts Second First p q n b z rest hp e h = follows_before Second p q n b z rest h
follows facts Second Second p q n b z rest hp e h =
    subst (λ q. Follows Second b z (phase_changes Second Second p q n b ++ rest) → Follows Second (phase_both Second Second p q n b) (phase Second q n z) rest) e
    (follows_own facts Second p n b z rest hp) h
follows facts Second Third p q n b z rest hp e h =
    subst (λ q. Follows Second b z (phase_changes Second Third p q n b ++ rest) → Follows Second (phase_both Second Third p q n b) (phase Third q n z) rest) e
    (follows_next facts Second p n b z rest hp) h
follows facts Third First p q n b z rest hp e h =
    subst (λ q. Follows Third b z (phase_changes Third First p q n b ++ rest) → Follows Third (phase_both Third First p q n b) (phase First q n z) rest) e
    (follows_next facts Third p n b z rest hp) h
follows facts Third Second p q n b z rest hp e h = follows_before Third p q n b z rest h
follows facts Third Third p q n b z rest hp e h =
    subst (λ q. Follows Third b z (phase_changes Third Third p q n b ++ rest) → Follows Third (phase_both Third Third p q n b) (phase Third q n z) rest) e
    (follows_own facts Third p n b z rest hp) h

-- ---- what a phase sends

sent_own : Facts → (v : Party) (o : List ℕ) (n : ℕ) (b : Both) (z : Moving) (rest : List ℕ) → length o ≡ n
    → Follows v b z (phase_changes v v o o n b ++ rest) → SameWords v (phase_words v o n b.one) (phase_words v o n z)
sent_own facts v o n b z rest ho h = own_words facts v o n b.one z rest ho (subst (λ c. Stands v b.one z (c ++ rest)) (changes_own v o n b z h.shares) h.stands)

sent_next : Facts → (v : Party) (o : List ℕ) (n : ℕ) (b : Both) (z : Moving) (rest : List ℕ) → length o ≡ n
    → Follows v b z (phase_changes v (next v) o o n b ++ rest) → SameWords v (phase_words (next v) o n b.one) (phase_words (next v) o n z)
sent_next facts v o n b z rest ho h = next_words facts v o n b.one z rest ho (subst (λ c. Stands v b.one z (c ++ rest)) (changes_next v o n b z h.shares) h.stands)

pub sent_same : Facts → (v j : Party) (p q : List ℕ) (n : ℕ) (b : Both) (z : Moving) (rest : List ℕ) → length p ≡ n → AreSeen (sees v j) p q
    → Follows v b z (phase_changes v j p q n b ++ rest) → SameWords v (phase_words j p n b.one) (phase_words j q n z)
sent_same facts First First p q n b z rest hp e h =
    subst (λ q. Follows First b z (phase_changes First First p q n b ++ rest) → SameWords First (phase_words First p n b.one) (phase_words First q n z)) e
    (sent_own facts First p n b z rest hp) h
sent_same facts First Second p q n b z rest hp e h =
    subst (λ q. Follows First b z (phase_changes First Second p q n b ++ rest) → SameWords First (phase_words Second p n b.one) (phase_words Second q n z)) e
    (sent_next facts First p n b z rest hp) h
sent_same facts First Third p q n b z rest hp e h = before_words First p q n b.one z
sent_same facts Second First p q n b z rest hp e h = before_words Second p q n b.one z
sent_same facts Second Second p q n b z rest hp e h =
    subst (λ q. Follows Second b z (phase_changes Second Second p q n b ++ rest) → SameWords Second (phase_words Second p n b.one) (phase_words Second q n z)) e
    (sent_own facts Second p n b z rest hp) h
sent_same facts Second Third p q n b z rest hp e h =
    subst (λ q. Follows Second b z (phase_changes Second Third p q n b ++ rest) → SameWords Second (phase_words Third p n b.one) (phase_words Third q n z)) e
    (sent_next facts Second p n b z rest hp) h
sent_same facts Third First p q n b z rest hp e h =
    subst (λ q. Follows Third b z (phase_changes Third First p q n b ++ rest) → SameWords Third (phase_words First p n b.one) (phase_words First q n z)) e
    (sent_next facts Third p n b z rest hp) h
sent_same facts Third Second p q n b z rest hp e h = before_words Third p q n b.one z
sent_same facts Third Third p q n b z rest hp e h =
    subst (λ q. Follows Third b z (phase_changes Third Third p q n b ++ rest) → SameWords Third (phase_words Third p n b.one) (phase_words Third q n z)) e
    (sent_own facts Third p n b z rest hp) h
