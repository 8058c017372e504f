-- Values of three parties, of which one is changed, and what changes for a party.
use Rattle.std.proofs.Common.{◌≡◌, ℕ, Bool, true, false, List, [], ◌++◌, refl, sym, ◌∙◌, ap}
use Rattle.lanes.specs.declared.party.Party.{Party}
use Rattle.lanes.specs.declared.party.Party.TheVariants.{First, Second, Third}
use Rattle.lanes.specs.declared.three.Three.{Three}
use Rattle.lanes.specs.Party.{next, before}
use Rattle.lanes.specs.Three.{at, put}
use Rattle.step_lists.specs.Draws.{nothing}
use Rattle.step_lists.specs.Seen.{same_party}
use Rattle.step_lists.specs.Phases.{no_words, message, link}
use Rattle.step_lists.specs.Open.{SlotWords, more_slots}
use Rattle.step_lists.specs.Machine.{to_both}
use Rattle.twin.proofs.Lists.{true_apart}
use Rattle.twin.proofs.Same.{SameWords}

-- ---- put

pub put_at : {A : Type 0} (p : Party) (x : Three A) → put p (at p x) x ≡ x
put_at First x = refl
put_at Second x = refl
put_at Third x = refl

pub put_put : {A : Type 0} (p : Party) (a b : A) (x : Three A) → put p a (put p b x) ≡ put p a x
put_put First a b x = refl
put_put Second a b x = refl
put_put Third a b x = refl

pub at_put : {A : Type 0} (p : Party) (a : A) (x : Three A) → at p (put p a x) ≡ a
at_put First a x = refl
at_put Second a x = refl
at_put Third a x = refl

-- the viewer's own two stay where the third is put
pub own_stays : {A : Type 0} (v : Party) (a : A) (x : Three A) → at v (put (before v) a x) ≡ at v x
own_stays First a x = refl
own_stays Second a x = refl
own_stays Third a x = refl

pub next_stays : {A : Type 0} (v : Party) (a : A) (x : Three A) → at (next v) (put (before v) a x) ≡ at (next v) x
next_stays First a x = refl
next_stays Second a x = refl
next_stays Third a x = refl

-- what holds of all three values holds with one put
pub put_holds : {A B : Type 0} (P : B → A → Type 0) (p : Party) (b : Three B) (a : A) (x : Three A) → P (at p b) a → ((q : Party) → P (at q b) (at q x))
    → (q : Party) → P (at q b) (at q (put p a x))
put_holds P First b a x h i First = h
put_holds P First b a x h i Second = i Second
put_holds P First b a x h i Third = i Third
put_holds P Second b a x h i First = i First
put_holds P Second b a x h i Second = h
put_holds P Second b a x h i Third = i Third
put_holds P Third b a x h i First = i First
put_holds P Third b a x h i Second = i Second
put_holds P Third b a x h i Third = h

-- ---- slots

pub same_more : (v p : Party) (a b : SlotWords) (xs ys : List (List ℕ)) → at v a ≡ at v b → (same_party v p ≡ true → xs ≡ ys)
    → at v (more_slots p xs a) ≡ at v (more_slots p ys b)
same_more First First a b xs ys e f = ap (λ s. s ++ xs) e ∙ ap (λ x. b.first ++ x) (f refl)
same_more First Second a b xs ys e f = e
same_more First Third a b xs ys e f = e
same_more Second First a b xs ys e f = e
same_more Second Second a b xs ys e f = ap (λ s. s ++ xs) e ∙ ap (λ x. b.second ++ x) (f refl)
same_more Second Third a b xs ys e f = e
same_more Third First a b xs ys e f = e
same_more Third Second a b xs ys e f = e
same_more Third Third a b xs ys e f = ap (λ s. s ++ xs) e ∙ ap (λ x. b.third ++ x) (f refl)

-- ---- messages

at_sent : (P : Three (List ℕ) → Type 0) (q s : Party) (x : Three (List ℕ)) → P x → P (at q no_words) → P (at q (put s x no_words))
at_sent P First First x h i = h
at_sent P First Second x h i = i
at_sent P First Third x h i = i
at_sent P Second First x h i = i
at_sent P Second Second x h i = h
at_sent P Second Third x h i = i
at_sent P Third First x h i = i
at_sent P Third Second x h i = i
at_sent P Third Third x h i = h

at_kept : (v t : Party) (w : List ℕ) (x : Three (List ℕ)) → same_party v t ≡ false → at v (put t w x) ≡ at v x
at_kept First First w x h = absurd (let g : false ≡ true = sym h in true_apart g)
at_kept First Second w x h = refl
at_kept First Third w x h = refl
at_kept Second First w x h = refl
at_kept Second Second w x h = absurd (let g : false ≡ true = sym h in true_apart g)
at_kept Second Third w x h = refl
at_kept Third First w x h = refl
at_kept Third Second w x h = refl
at_kept Third Third w x h = absurd (let g : false ≡ true = sym h in true_apart g)

none_sent : (v q : Party) → at v (at q no_words) ≡ []
none_sent First First = refl
none_sent First Second = refl
none_sent First Third = refl
none_sent Second First = refl
none_sent Second Second = refl
none_sent Second Third = refl
none_sent Third First = refl
none_sent Third Second = refl
none_sent Third Third = refl

none_here : (v : Party) → at v (nothing {A = ℕ}) ≡ []
none_here First = refl
none_here Second = refl
none_here Third = refl

-- a message to another one brings a party nothing
silent : (v q s t : Party) (w : List ℕ) → same_party v t ≡ false → link q v (message s t w) ≡ []
silent v q s t w h = at_sent (λ x. at v x ≡ []) q s (put t w nothing) (at_kept v t w _ h ∙ none_here v) (none_sent v q)

pub same_message : (v s t : Party) (w u : List ℕ) → (same_party v t ≡ true → w ≡ u) → SameWords v (message s t w) (message s t u)
same_message v s t w u f = by (same_party v t) refl where
  by : (b : Bool) → same_party v t ≡ b → SameWords v (message s t w) (message s t u)
  by true e = record { from_next = ap (λ x. link (next v) v (message s t x)) (f e); from_before = ap (λ x. link (before v) v (message s t x)) (f e) }
  by false e = record {
    from_next = silent v (next v) s t w e ∙ sym (silent v (next v) s t u e);
    from_before = silent v (before v) s t w e ∙ sym (silent v (before v) s t u e);
  }

pub same_to_both : (v p : Party) (w u : List ℕ) → w ≡ u → SameWords v (to_both p w) (to_both p u)
same_to_both v p w u e = record { from_next = ap (λ x. link (next v) v (to_both p x)) e; from_before = ap (λ x. link (before v) v (to_both p x)) e }
