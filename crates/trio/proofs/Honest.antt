-- The words that wait for a core complete no bad private order.
use Rattle.std.proofs.Common.{◌≡◌, ℕ, suc, ◌<◌, ◌≤◌, Bool, false, Some, List, ◌++◌, length, take, drop, refl, sym, ap, ◌∙◌, arith, inl, inr}
use Rattle.std.specs.Prelude.{◌⊎◌, slice_get}
use Rattle.std.proofs.lemmas.Bool.{cases_lt}
use Rattle.std.proofs.lemmas.List.{append-nil, append_assoc, append_cancel_left, take_all, take_at, drop_all}
use Rattle.lanes.specs.declared.party.Party.{Party}
use Rattle.lanes.specs.declared.three.Three.{Three}
use Rattle.lanes.specs.Party.{next}
use Rattle.lanes.specs.Three.{at}
use Rattle.step_lists.specs.declared.step.Shape.{Shape}
use Rattle.step_lists.specs.declared.step.Step.{Step}
use Rattle.step_lists.specs.Layout.{Steps, Layout, starting, layout_of}
use Rattle.step_lists.specs.Draws.{ThreeTapes, parties, joined, needs_of}
use Rattle.step_lists.specs.Rules.{IsWellFormed}
use Rattle.step_lists.specs.Run.{tape_cut, rest_after}
use Rattle.step_lists.specs.Open.{SlotWords}
use Rattle.step_lists.specs.Phases.{Links, link, behind_on}
use Rattle.step_lists.specs.Machine.{Machine, step_words, joint_of}
use Rattle.step_lists.specs.Possible.{Fits}
use Rattle.step_lists.specs.Prefixes.{at-taken}
use Rattle.step_lists.specs.Part.{part_cut, count_from, taken_of, stage_takes, takes_bad_order}
use Rattle.party_laws.specs.InMachine.{received_by, GoesOn, IsPartIn}
use Rattle.party_laws.specs.StageWords.{stage_words, all_words, given_with, HoldsStages, front, draws_at}
use Rattle.party_core.specs.CoreView.{CoreView, Far, given_for}
use Rattle.trio.specs.RunOf.{Begins}
use Rattle.trio.proofs.Facts.{Facts}
use Rattle.trio.proofs.Words.{same_each, at_parties, at_joined, link_behind, at_received, begins_shorter}
use Rattle.trio.proofs.Placed.{same_given}

-- of two lists that agree the first words of one, as many as the other has
first_agree : (xs ys a b : List ℕ) → xs ++ a ≡ ys ++ b → ys ≡ take (length ys) xs ++ drop (length (take (length ys) xs)) ys
first_agree xs ys a b e = by (cases_lt (length xs) (length ys)) where
  by : (length xs < length ys) ⊎ (length ys ≤ length xs) → ys ≡ take (length ys) xs ++ drop (length (take (length ys) xs)) ys
  by (inl lt) =
      let whole : take (length ys) xs ≡ xs = take_all (length ys) xs (omega (arith, lt)) in
      begins_shorter ys xs b a (sym e) (omega (arith, lt)) ∙ ap (λ t. t ++ drop (length t) ys) (sym whole)
  by (inr ge) =
      let front : take (length ys) xs ≡ ys =
      ap (take (length ys)) (begins_shorter xs ys a b e ge)
      ∙ (take_at ys (drop (length ys) xs) (length ys) refl) in
      sym (append-nil ys)
      ∙ (ap (λ t. ys ++ t) (sym (drop_all (length ys) ys (omega arith))) ∙ ap (λ t. t ++ drop (length t) ys) (sym front))

module _ {T : Type 0} (accepts : T → List Shape → List Shape → Bool) (answer : T → List (List ℕ) → List (List ℕ)) (facts : Facts accepts answer)
    (list : Steps T) (slots : SlotWords) (ds : ThreeTapes) (well : IsWellFormed accepts list) (fits : Fits list slots ds) (v : Party) (words : Three (List ℕ)) (far : Far)
    (begins : (q : Party) → Begins (at q words) (link q v (joint_of answer list slots ds).links))
    (long : (q : Party) → length (link q v (joint_of answer (front far.steps list) slots ds).links) ≤ length (at q words))
    (s : Step T) (there : slice_get list.steps far.steps ≡ Some s) (going : (joint_of answer (front far.steps list) slots ds).stop ≡ false) where
  abbrev k : ℕ
  k = far.steps

  abbrev m : Machine
  m = joint_of answer (front k list) slots ds

  abbrev l : Layout
  l = layout_of (front k list)

  abbrev d : ThreeTapes
  d = draws_at k list s ds

  abbrev w : Links
  w = step_words l m s d

  abbrev now : CoreView T
  now = record { list = list; party = v; slots = at v slots; given = record { own = at v ds; following = at (next v) ds; received = words }; far = far }

  abbrev more : Links
  more = (facts.grow.links (suc k) list slots ds).0

  links_are : (q : Party) → link q v (joint_of answer list slots ds).links ≡ link q v m.links ++ (link q v w ++ link q v more)
  links_are q =
      ap (link q v) ((facts.grow.links (suc k) list slots ds).1 ∙ ap (λ x. behind_on x more) (facts.grow.step k list slots ds s there going))
      ∙ (link_behind q v (behind_on m.links w) more ∙ (ap (λ t. t ++ link q v more) (link_behind q v m.links w) ∙ append_assoc (link q v m.links) (link q v w) (link q v more)))

  goes : GoesOn (received_by v m.links) words
  goes = record {
    rest = parties (λ q. drop (length (link q v m.links)) (at q words));
    is =
        same_each words _
        (λ q.
        begins_shorter (at q words) (link q v m.links) (begins q).rest (link q v w ++ link q v more) (sym (begins q).is ∙ links_are q) (long q)
        ∙ (ap (λ t. t ++ drop (length (link q v m.links)) (at q words)) (sym (at_received v q m.links))
        ∙ (ap (λ t. at q (received_by v m.links) ++ t) (sym (at_parties (λ q. drop (length (link q v m.links)) (at q words)) q))
        ∙ sym (at_joined q (received_by v m.links) (parties (λ q. drop (length (link q v m.links)) (at q words)))))));
  }

  abbrev rest : Three (List ℕ)
  rest = goes.rest

  abbrev few : Three (List ℕ)
  few = parties (λ q. take (at q (taken_of v l s)) (at q rest))

  in_machine : IsPartIn answer v (front k list) slots ds now.given rest
  in_machine =
      facts.machine v (front k list) slots ds now.given (facts.fit.fine k list well) (facts.fit.fits k list slots ds fits) (record { own = refl; following = refl; received = goes })

  given_is : given_for now s ≡ given_with v d few
  given_is =
      let tapes = rest_after tape_cut (starting list.first) (take k list.steps) ds in
      ap ((part_cut v).first l s) (in_machine.left going)
      ∙ same_given _ _ _ _ few few (sym (at-taken v (needs_of l s) tapes)) (sym (at-taken (next v) (needs_of l s) tapes)) refl

  holds : HoldsStages v l m s d
  holds = facts.stages v list slots ds k s well fits there going

  all_long : (q : Party) → length (link q v w) ≡ at q (taken_of v l s)
  all_long q =
      let ws = stage_words l m s d in
      ap (λ x. length (link q v x)) holds.whole
      ∙ (ap (λ x. length (link q v (all_words x))) (sym (take_all (length ws) ws (omega arith)))
      ∙ (holds.counts q (length ws)
      ∙ (ap (count_from q) (take_all (length ws) (stage_takes v l s) (omega (arith, holds.stages))) ∙ sym (at_parties (λ p. count_from p (stage_takes v l s)) q))))

  words_are : (q : Party) → at q words ≡ link q v m.links ++ at q rest
  words_are q = ap (at q) goes.is ∙ (at_joined q (received_by v m.links) rest ∙ ap (λ t. t ++ at q rest) (at_received v q m.links))

  rest_agrees : (q : Party) → at q rest ++ (begins q).rest ≡ link q v w ++ link q v more
  rest_agrees q =
      append_cancel_left (link q v m.links) (at q rest ++ (begins q).rest) (link q v w ++ link q v more)
      (sym (append_assoc (link q v m.links) (at q rest) (begins q).rest)
      ∙ (ap (λ t. t ++ (begins q).rest) (sym (words_are q)) ∙ (sym (begins q).is ∙ links_are q)))

  few_at : (q : Party) → at q few ≡ take (length (link q v w)) (at q rest)
  few_at q = at_parties (λ q. take (at q (taken_of v l s)) (at q rest)) q ∙ ap (λ n. take n (at q rest)) (sym (all_long q))

  abbrev behind_few : Three (List ℕ)
  behind_few = parties (λ q. drop (length (at q few)) (link q v w))

  step_words_are : received_by v w ≡ joined few behind_few
  step_words_are =
      same_each _ _
      (λ q.
      at_received v q w
      ∙ (first_agree (at q rest) (link q v w) (begins q).rest (link q v more) (rest_agrees q)
      ∙ (ap (λ t. t ++ drop (length t) (link q v w)) (sym (few_at q))
      ∙ (ap (λ t. at q few ++ t) (sym (at_parties (λ q. drop (length (at q few)) (link q v w)) q)) ∙ sym (at_joined q few behind_few)))))

  pub order_is_fine : takes_bad_order v l s (given_for now s) ≡ false
  order_is_fine = ap (takes_bad_order v l s) given_is ∙ holds.order few behind_few step_words_are
