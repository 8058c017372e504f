-- A move of one party keeps a run one of its list, its slots and its tapes.
use Rattle.std.proofs.Common.{◌≡◌, ℕ, Bool, List, ◌++◌, take, refl, sym, subst, ap, ◌∙◌}
use Rattle.lanes.specs.declared.party.Party.{Party}
use Rattle.lanes.specs.declared.party.Party.TheVariants.{First, Second, Third}
use Rattle.lanes.specs.declared.three.Three.{Three}
use Rattle.lanes.specs.Three.{at, put}
use Rattle.step_lists.specs.declared.step.Shape.{Shape}
use Rattle.step_lists.specs.Layout.{Steps}
use Rattle.step_lists.specs.Draws.{ThreeTapes, joined}
use Rattle.step_lists.specs.Open.{SlotWords}
use Rattle.step_lists.specs.Phases.{Links, link}
use Rattle.step_lists.specs.Machine.{joint_of}
use Rattle.party_core.specs.CoreView.{CoreView, turned_on, took}
use Rattle.party_core.specs.Core.{sent_so_far, turn_sends}
use Rattle.party_core.specs.MoveLaws.{TurnKept, TakeKept}
use Rattle.trio.specs.Running.{Running, core_at, taken_on, waiting_on, by_turn, by_words}
use Rattle.trio.specs.RunOf.{Begins, IsCoreOf, IsRunOf}
use Rattle.trio.proofs.Facts.{Facts}
use Rattle.trio.proofs.Words.{at_joined, begins_through, begins_more}
use Rattle.trio.proofs.Movers.{known}

pub put_all : {A : Type 0} (P : Party → A → Type 0) (v : Party) (a : A) (x : Three A) → P v a → ((u : Party) → P u (at u x)) → (u : Party) → P u (at u (put v a x))
put_all P First a x h i First = h
put_all P First a x h i Second = i Second
put_all P First a x h i Third = i Third
put_all P Second a x h i First = i First
put_all P Second a x h i Second = h
put_all P Second a x h i Third = i Third
put_all P Third a x h i First = i First
put_all P Third a x h i Second = i Second
put_all P Third a x h i Third = h

put_two : {A B : Type 0} (P : Party → A → B → Type 0) (v : Party) (a : A) (b : B) (x : Three A) (y : Three B) → P v a b → ((u : Party) → P u (at u x) (at u y))
    → (u : Party) → P u (at u (put v a x)) (at u (put v b y))
put_two P First a b x y h i First = h
put_two P First a b x y h i Second = i Second
put_two P First a b x y h i Third = i Third
put_two P Second a b x y h i First = i First
put_two P Second a b x y h i Second = h
put_two P Second a b x y h i Third = i Third
put_two P Third a b x y h i First = i First
put_two P Third a b x y h i Second = i Second
put_two P Third a b x y h i Third = h

module _ {T : Type 0} (accepts : T → List Shape → List Shape → Bool) (answer : T → List (List ℕ) → List (List ℕ)) (facts : Facts accepts answer)
    (list : Steps T) (slots : SlotWords) (ds : ThreeTapes) (r : Running T) (h : IsRunOf accepts answer list slots ds r) (v : Party) where
  abbrev c : CoreView T
  c = core_at v r

  abbrev joint_links : Links
  joint_links = (joint_of answer list slots ds).links

  -- ---- a turn

  module _ (kept : TurnKept accepts answer c (turned_on c)) where
    abbrev sends : Three (List ℕ)
    sends = turn_sends answer c

    abbrev more : Three (List ℕ)
    more = joined (at v r.sent) sends

    turned_core : IsCoreOf accepts answer list slots ds v (turned_on c)
    turned_core =
        let was = h.cores v in
        record { list_is = was.list_is; party = was.party; slots_are = was.slots_are; own = was.own; following = was.following; reached = kept.reached }

    more_is : more ≡ sent_so_far answer (turned_on c)
    more_is = ap (λ x. joined x sends) (h.sent v) ∙ sym kept.sent

    given_same : (u : Party) → (at u (put v (turned_on c) r.cores)).given ≡ (core_at u r).given
    given_same = put_all (λ u d. d.given ≡ (core_at u r).given) v (turned_on c) r.cores refl (λ u. refl)

    longer : (u : Party) → Begins (link v u r.sent) (at u more)
    longer u = record { rest = at u sends; is = at_joined u (at v r.sent) sends }

    new_begins : (u : Party) → Begins (at u more) (link v u joint_links)
    new_begins u =
        let k =
        known accepts answer facts list slots ds v (turned_on c) h.well_formed h.fits turned_core
        (λ q. begins_through (taken_on q v r) (link q v r.sent) _ (h.taken q v) (h.begins q v)) in
        subst (λ x. Begins (at u x) (link v u joint_links)) (sym more_is) (k.begins u)

    pub turn_kept : IsRunOf accepts answer list slots ds (by_turn answer v r)
    turn_kept = record {
      well_formed = h.well_formed;
      fits = h.fits;
      cores = put_all (λ u d. IsCoreOf accepts answer list slots ds u d) v (turned_on c) r.cores turned_core h.cores;
      sent = put_two (λ u x d. x ≡ sent_so_far answer d) v more (turned_on c) r.sent r.cores more_is h.sent;
      taken = λ q u.
          subst (λ g. Begins (at q g.received) (at u (at q (put v more r.sent)))) (sym (given_same u))
          (put_all (λ q x. Begins (taken_on q u r) (at u x)) v more r.sent (begins_through (taken_on v u r) (link v u r.sent) (at u more) (h.taken v u) (longer u)) (λ q. h.taken q u) q);
      begins = λ q u. put_all (λ q x. Begins (at u x) (link q u joint_links)) v more r.sent (new_begins u) (λ q. h.begins q u) q;
    }

  -- ---- words

  module _ (p : Party) (n : ℕ) (kept : TakeKept accepts answer c (took c p (take n (waiting_on p v r)))) where
    abbrev words : List ℕ
    words = take n (waiting_on p v r)

    took_core : IsCoreOf accepts answer list slots ds v (took c p words)
    took_core =
        let was = h.cores v in
        record { list_is = was.list_is; party = was.party; slots_are = was.slots_are; own = was.own; following = was.following; reached = kept.reached }

    new_taken : (q : Party) → Begins (at q (put p (at p c.given.received ++ words) c.given.received)) (link q v r.sent)
    new_taken =
        put_all (λ q ws. Begins ws (link q v r.sent)) p (at p c.given.received ++ words) c.given.received (begins_more (at p c.given.received) (link p v r.sent) n (h.taken p v)) (λ q. h.taken q v)

    pub words_kept : IsRunOf accepts answer list slots ds (by_words v p n r)
    words_kept = record {
      well_formed = h.well_formed;
      fits = h.fits;
      cores = put_all (λ u d. IsCoreOf accepts answer list slots ds u d) v (took c p words) r.cores took_core h.cores;
      sent = put_all (λ u d. at u r.sent ≡ sent_so_far answer d) v (took c p words) r.cores (h.sent v ∙ sym kept.sent) h.sent;
      taken = λ q u. put_all (λ u d. Begins (at q d.given.received) (link q u r.sent)) v (took c p words) r.cores (new_taken q) (λ u. h.taken q u) u;
      begins = h.begins;
    }
