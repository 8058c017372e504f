-- Each move keeps a core reached, and what it has sent grows by what its turns send.
use Rattle.std.proofs.Common.{◌≡◌, ℕ, zero, suc, ◌+◌, ◌<◌, ◌≤◌, ◌^◌, Bool, true, false, cond, Option, Some, None, List, [], ◌∷◌, ◌++◌, length, take, drop, refl, sym, ap, subst, ◌∙◌, arith, inr, map}
use Rattle.std.specs.Prelude.{◌||◌, ◌-◌, sum, slice_get, slice_index, slice_index_or}
use Rattle.std.specs.List.{AllByRecursion}
use Rattle.std.proofs.lemmas.List.{take_all, length-append}
use Rattle.lanes.specs.declared.party.Party.{Party}
use Rattle.lanes.specs.declared.party.Party.TheVariants.{First, Second, Third}
use Rattle.lanes.specs.declared.three.Three.{Three}
use Rattle.lanes.specs.Party.{next}
use Rattle.lanes.specs.Three.{at}
use Rattle.tapes.specs.declared.draw.Draw.{Draw}
use Rattle.tapes.specs.Needs.{FitsNeeds}
use Rattle.lanes.specs.Word.{AreWords}
use Rattle.step_lists.specs.declared.step.Shape.{Shape}
use Rattle.step_lists.specs.declared.step.Step.{Step}
use Rattle.step_lists.specs.Layout.{Steps, Layout, grown, party_of, starting}
use Rattle.step_lists.specs.Rules.{IsWellFormed}
use Rattle.step_lists.specs.Draws.{joined, needs, nothing, parties}
use Rattle.step_lists.specs.Part.{Given, part_before, part_cut, stage_sends, stage_takes, taken_of, count_from, takes_from, has_ended, all_sent}
use Rattle.party_core.specs.declared.want.Want.TheVariants.{Turn, Words}
use Rattle.party_core.specs.Stages.{takes_at, takes_none, waits_at, stage_count}
use Rattle.party_core.specs.CoreView.{CoreView, fresh_core, next_step, layout_here, given_here, given_for, stages_begun, behind_stage, behind_turn, far_turned, far_taken, turned_on, took, with_words}
use Rattle.party_core.specs.Core.{part_so_far, sent_so_far, taken_so_far, sends_in, stage_want, turn_sends, want_of, breaks_order, breaks_order_in}
use Rattle.party_core.specs.Reached.{IsReached, Stands}
use Rattle.party_core.specs.MoveLaws.{TurnKept, TakeKept, MovesKeep}
use Rattle.party_core.proofs.Progressing.{at_parties, first_of}
use Rattle.party_core.proofs.Runs.{same_given, run_stays, rest_stays}
use Rattle.party_core.proofs.Here.{Here, here, take_none, count_take, long_behind}
use Rattle.party_core.proofs.Fine.{fine_here}
use Rattle.party_core.proofs.SendsStay.{sends_stay}
use Rattle.party_core.proofs.OneParty.{one_party}
use Rattle.party_core.proofs.CoreLaws.{begun_sent, from_one, waits_quiet}
use Rattle.party_core.proofs.Wanting.{AreFirst, WantsWords, wants_turn, wants_words, ready_none}
use Rattle.party_core.specs.Moves.{moves_left, moves_behind, stage_moves, step_moves}
use Rattle.party_core.proofs.MovesLeft.{moves_at, moves_behind_stage, moves_here, moves_split}
use Rattle.party_core.proofs.Kept.{Filled, done_layout, all_sent_more, joined_again, count_next, no_order, none_each, stage_reached, stage_sent}

abbrev turns : Bool → ℕ
turns b = cond b 1 0

abbrev behind_turns : Bool → ℕ
behind_turns b = cond b 1 2

false_true : false ≡ true → ⊥
false_true e = cc

words_first : (x : ℕ) (xs : List ℕ) → x < 2 ^ 64 → AreWords xs → AreWords (x ∷ xs)
words_first x xs h k = record { below = by } where
  by : (i : ℕ) → slice_index (x ∷ xs) i < 2 ^ 64
  by zero = h
  by (suc i) = k.below i

some_words : (xs ys : List ℕ) → AreWords xs → AreWords ys → AreWords (xs ++ ys)
some_words [] ys h k = k
some_words (x ∷ xs) ys h k = words_first x (xs ++ ys) (h.below 0) (some_words xs ys (record { below = λ i. h.below (suc i) }) k)

more_are_words : (g : Given) (q p : Party) (words : List ℕ) → ((p : Party) → AreWords (at p g.received)) → AreWords words → AreWords (at p (with_words g q words).received)
more_are_words g First First words h k = some_words g.received.first words (h First) k
more_are_words g First Second words h k = h Second
more_are_words g First Third words h k = h Third
more_are_words g Second First words h k = h First
more_are_words g Second Second words h k = some_words g.received.second words (h Second) k
more_are_words g Second Third words h k = h Third
more_are_words g Third First words h k = h First
more_are_words g Third Second words h k = h Second
more_are_words g Third Third words h k = some_words g.received.third words (h Third) k

more_long : (g : Given) (q p : Party) (words : List ℕ) → length (at p (with_words g q words).received) ≡ length (at p g.received) + at p (takes_from q (length words))
more_long g First First words = length-append g.received.first words
more_long g First Second words = omega arith
more_long g First Third words = omega arith
more_long g Second First words = omega arith
more_long g Second Second words = length-append g.received.second words
more_long g Second Third words = omega arith
more_long g Third First words = omega arith
more_long g Third Second words = omega arith
more_long g Third Third words = length-append g.received.third words

at_from : (p : Party) (n : ℕ) → at p (takes_from p n) ≡ n
at_from First n = refl
at_from Second n = refl
at_from Third n = refl

module _ {T : Type 0} (accepts : T → List Shape → List Shape → Bool) (answer : T → List (List ℕ) → List (List ℕ)) where
  -- ---- a turn

  pub filled_here : (c : CoreView T) (s : Step T) → IsReached accepts answer c → (y : Here accepts answer c s) → next_step c ≡ Some s → takes_none (takes_at c.party (layout_here c) s c.far.stages) ≡ true
      → Filled accepts answer c s (suc c.far.stages)
  filled_here c s h y e f = record {
    well_formed = h.well_formed;
    long = h.long;
    below = h.below;
    own = h.own;
    following = h.following;
    on = y.on;
    early = h.early;
    here = e;
    order = y.order;
    words = h.words;
    total = λ p.
        let t = y.total p in
        let n = count_next p c.far.stages (stage_takes c.party (layout_here c) s) in
        let z = none_each (takes_at c.party (layout_here c) s c.far.stages) f p in
        omega (arith, t, n, z);
  }

  -- behind a turn whose stage takes words
  abbrev stayed : CoreView T → CoreView T
  stayed c = record c { far = record c.far { turned = true } }

  stayed_reached : (c : CoreView T) (s : Step T) → IsReached accepts answer c → (part_so_far answer c).stop ≡ false → (y : Here accepts answer c s) → next_step c ≡ Some s
      → takes_none (takes_at c.party (layout_here c) s c.far.stages) ≡ false → waits_at c.party s c.far.stages ≡ false → IsReached accepts answer (stayed c)
  stayed_reached c s h g y e f w = record {
    well_formed = h.well_formed;
    long = h.long;
    below = h.below;
    own = h.own;
    following = h.following;
    words = h.words;
    taken = h.taken;
    early = h.early;
    order = subst (λ o. breaks_order_in (stayed c) o ≡ false) (sym e) y.order;
    stands = subst (Stands (stayed c)) (sym e) (record { inside = y.stands.inside; turned = λ t. (f, w) });
    still = λ t. absurd (false_true (sym g ∙ t));
  }

  -- what was sent by stages that have begun, and one more
  one_more_sent : (c : CoreView T) (s : Step T) → next_step c ≡ Some s → c.far.turned ≡ false
      → joined (part_so_far answer c).sent (all_sent (take (suc c.far.stages) (stage_sends c.party (layout_here c) (part_so_far answer c) s (given_for c s))))
      ≡ joined (sent_so_far answer c) (turn_sends answer c)
  one_more_sent c s e t =
      let a = part_so_far answer c in
      let ss = stage_sends c.party (layout_here c) a s (given_for c s) in
      let i = c.far.stages in
      ap (λ x. joined a.sent x) (all_sent_more i ss)
      ∙ joined_again a.sent (all_sent (take i ss)) (slice_index_or ss i nothing)
      ∙ ap (λ n. joined (joined a.sent (all_sent (take n ss))) (slice_index_or ss i nothing)) (sym (ap (λ b. cond b (suc i) i) t))
      ∙ ap (λ o. joined (joined a.sent (all_sent (take (stages_begun c.far) (sends_in answer c o)))) (slice_index_or (sends_in answer c o) i nothing)) (sym e)

  turn_in : (c : CoreView T) (s : Step T) → IsReached accepts answer c → (part_so_far answer c).stop ≡ false → next_step c ≡ Some s
      → stage_want c.party (layout_here c) s c.far ≡ Turn → TurnKept accepts answer c (record c { far = behind_turn c.party (layout_here c) s c.far })
  turn_in c s h g e w = by (takes_none (takes_at c.party (layout_here c) s c.far.stages)) refl where
    y : Here accepts answer c s
    y = here accepts answer c s h g e

    unturned : (b : Bool) → c.far.turned ≡ b → b ≡ false
    unturned false f = refl
    unturned true f =
        let n = ready_none c.party (layout_here c) s c.far w (ap (λ b. b || waits_at c.party s c.far.stages) f) in
        absurd (false_true (sym (y.stands.turned f).0 ∙ n))

    at_once : (b : Bool) → waits_at c.party s c.far.stages ≡ b → takes_none (takes_at c.party (layout_here c) s c.far.stages) ≡ false → b ≡ false
    at_once false f n = refl
    at_once true f n =
        let m = ready_none c.party (layout_here c) s c.far w (ap (λ b. b || waits_at c.party s c.far.stages) (unturned c.far.turned refl) ∙ f) in
        absurd (false_true (sym n ∙ m))

    by : (b : Bool) → takes_none (takes_at c.party (layout_here c) s c.far.stages) ≡ b
        → TurnKept accepts answer c (record c { far = cond b (behind_stage (stage_count c.party (layout_here c) s) c.far) (record c.far { turned = true }) })
    by true f =
        let filled = filled_here c s h y e f in
        let m = moves_here c s e in
        let n = moves_split c s (moves_at c.party (layout_here c) s c.far.stages y.stands.inside) in
        let one : stage_moves (waits_at c.party s c.far.stages) (takes_at c.party (layout_here c) s c.far.stages) ≡ 1 = ap (λ b. cond b 1 (cond (waits_at c.party s c.far.stages) 1 2)) f in
        let less = moves_behind_stage c s e (done_layout accepts answer c s e) in
        let z : cond c.far.turned 1 0 ≡ 0 = ap turns (unturned c.far.turned refl) in
        record {
          reached = stage_reached accepts answer c s filled;
          sent = stage_sent accepts answer c s filled ∙ one_more_sent c s e (unturned c.far.turned refl);
          one_less = omega (arith, m, n, one, less, z);
        }
    by false f = record {
      reached = stayed_reached c s h g y e f (at_once (waits_at c.party s c.far.stages) refl f);
      sent = ap (λ o. joined (part_so_far answer c).sent (all_sent (take (suc c.far.stages) (sends_in answer c o)))) e ∙ one_more_sent c s e (unturned c.far.turned refl);
      one_less =
          let m = moves_here c s e in
          let n = moves_split c s (moves_at c.party (layout_here c) s c.far.stages y.stands.inside) in
          let w = at_once (waits_at c.party s c.far.stages) refl f in
          let choose : Bool → ℕ = λ b. cond b 1 2 in
          let two : stage_moves (waits_at c.party s c.far.stages) (takes_at c.party (layout_here c) s c.far.stages) ≡ 2 = ap (λ b. cond b 1 (choose (waits_at c.party s c.far.stages))) f ∙ ap choose w in
          let less = moves_here (stayed c) s e in
          let z : cond c.far.turned 1 0 ≡ 0 = ap turns (unturned c.far.turned refl) in
          omega (arith, m, n, two, less, z);
    }

  pub turn_kept : (c : CoreView T) → IsReached accepts answer c → want_of answer c ≡ Turn → TurnKept accepts answer c (turned_on c)
  turn_kept c h e =
      let w = wants_turn answer c e in
      subst (λ o. TurnKept accepts answer c (record c { far = far_turned c o })) (sym w.next) (turn_in c w.step h w.going w.next w.wants)

  -- ---- words

  -- the one party of which a stage takes words, and how many
  from_source : (v : Party) (l : Layout) (s : Step T) (i q n : ℕ) → AreFirst (takes_at v l s i) q n → takes_at v l s i ≡ takes_from (party_of q) n
  from_source v l s i q n h =
      let o = one_party v l s i in
      let same = from_one o.party (party_of q) o.count (sym (ap first_of o.is) ∙ h.is) in
      let is = o.is ∙ ap (λ p. takes_from p o.count) (sym same) in
      let count = sym (at_from (party_of q) o.count) ∙ sym (ap (at (party_of q)) is) ∙ h.count in
      is ∙ ap (λ n. takes_from (party_of q) n) count

  -- more words than a step takes aren't cut off
  given_more : (c : CoreView T) (s : Step T) (q : Party) (words : List ℕ)
      → given_here (record c { given = with_words c.given q words }) ≡ with_words (given_here c) q words
      → ((p : Party) → length (at p (given_here c).received) + at p (takes_from q (length words)) ≤ at p (taken_of c.party (layout_here c) s))
      → given_for (record c { given = with_words c.given q words }) s ≡ with_words (given_for c s) q words
  given_more c s q words e h = ap (λ g. (part_cut c.party).first (layout_here c) s g) e ∙ cut_more (given_here c) q h where
    whole : (n : ℕ) (xs : List ℕ) → length xs ≤ n → take n xs ≡ xs
    whole n xs h = take_all n xs h

    both : (n : ℕ) (xs : List ℕ) → length xs + length words ≤ n → take n (xs ++ words) ≡ take n xs ++ words
    both n xs h = whole n (xs ++ words) (let e = length-append xs words in omega (arith, e, h)) ∙ ap (λ ys. ys ++ words) (sym (whole n xs (omega (arith, h))))

    cut_more : (g : Given) (q : Party) → ((p : Party) → length (at p g.received) + at p (takes_from q (length words)) ≤ at p (taken_of c.party (layout_here c) s))
        → (part_cut c.party).first (layout_here c) s (with_words g q words) ≡ with_words ((part_cut c.party).first (layout_here c) s g) q words
    cut_more g First h = same_given _ _ refl refl (both (at First (taken_of c.party (layout_here c) s)) g.received.first (h First)) refl refl
    cut_more g Second h = same_given _ _ refl refl refl (both (at Second (taken_of c.party (layout_here c) s)) g.received.second (h Second)) refl
    cut_more g Third h = same_given _ _ refl refl refl refl (both (at Third (taken_of c.party (layout_here c) s)) g.received.third (h Third))

  -- a core with more words, before it moves on
  abbrev pub more : CoreView T → Party → List ℕ → CoreView T
  more c q words = record c { given = with_words c.given q words }

  pub same_so_far : (c : CoreView T) (q : Party) (words : List ℕ) → has_ended (part_so_far answer c) ≡ false → part_so_far answer (more c q words) ≡ part_so_far answer c
  same_so_far c q words h = run_stays answer c.party (starting c.list.first) (part_before c.slots) (take c.far.steps c.list.steps) c.given q words h

  pub same_here : (c : CoreView T) (q : Party) (words : List ℕ) → has_ended (part_so_far answer c) ≡ false → given_here (more c q words) ≡ with_words (given_here c) q words
  same_here c q words h = rest_stays answer c.party (starting c.list.first) (part_before c.slots) (take c.far.steps c.list.steps) c.given q words h

  -- these are the words of its stage
  pub total_more : (c : CoreView T) (s : Step T) (q n : ℕ) (words : List ℕ) → Here accepts answer c s → WantsWords c.party (layout_here c) s c.far q n → length words ≡ n → (p : Party)
      → length (at p (with_words c.given (party_of q) words).received)
      ≡ at p (part_so_far answer (more c (party_of q) words)).taken + count_from p (take (suc c.far.stages) (stage_takes c.party (layout_here c) s))
  total_more c s q n words y w long p =
      let a = more_long c.given (party_of q) p words in
      let t = y.total p in
      let m = count_next p c.far.stages (stage_takes c.party (layout_here c) s) in
      let from = ap (at p) (from_source c.party (layout_here c) s c.far.stages q n w.first) in
      let k = ap (λ n. at p (takes_from (party_of q) n)) long in
      let same = ap (λ a. at p a.taken) (same_so_far c (party_of q) words y.on) in
      omega (arith, a, t, m, from, k, same)

  pub filled_more : (c : CoreView T) (s : Step T) (q n : ℕ) (words : List ℕ) → IsReached accepts answer c → Here accepts answer c s → next_step c ≡ Some s
      → WantsWords c.party (layout_here c) s c.far q n → length words ≡ n → AreWords words
      → breaks_order_in (more c (party_of q) words) (next_step c) ≡ false
      → Filled accepts answer (more c (party_of q) words) s (suc c.far.stages)
  filled_more c s q n words h y e w long below good = record {
    well_formed = h.well_formed;
    long = h.long;
    below = h.below;
    own = h.own;
    following = h.following;
    on = ap has_ended (same_so_far c (party_of q) words y.on) ∙ y.on;
    early = ap (λ a. a.early) (same_so_far c (party_of q) words y.on) ∙ h.early;
    here = e;
    order = sym (ap (λ o. breaks_order_in (more c (party_of q) words) o) e) ∙ good;
    words = λ p. more_are_words c.given (party_of q) p words h.words below;
    total = total_more c s q n words y w long;
  }

  -- the step's words with these are no more than it takes
  few_more : (c : CoreView T) (s : Step T) (q n : ℕ) (words : List ℕ) → Here accepts answer c s → WantsWords c.party (layout_here c) s c.far q n → length words ≡ n
      → (p : Party) → length (at p (given_here c).received) + at p (takes_from (party_of q) (length words)) ≤ at p (taken_of c.party (layout_here c) s)
  few_more c s q n words y w long p =
      let here = long_behind accepts answer c s c.far.stages p y.on (y.total p) in
      let m = count_next p c.far.stages (stage_takes c.party (layout_here c) s) in
      let from = ap (at p) (from_source c.party (layout_here c) s c.far.stages q n w.first) in
      let k = ap (λ n. at p (takes_from (party_of q) n)) long in
      let few = count_take p (suc c.far.stages) (stage_takes c.party (layout_here c) s) in
      let all = at_parties (λ q. count_from q (stage_takes c.party (layout_here c) s)) p in
      omega (arith, here, m, from, k, few, all)

  take_back : (c : CoreView T) (s : Step T) (q n : ℕ) (words : List ℕ) → IsReached accepts answer c → Here accepts answer c s → next_step c ≡ Some s
      → WantsWords c.party (layout_here c) s c.far q n → length words ≡ n
      → joined (part_so_far answer (more c (party_of q) words)).sent
      (all_sent (take (suc c.far.stages) (stage_sends c.party (layout_here c) (part_so_far answer (more c (party_of q) words)) s (given_for (more c (party_of q) words) s))))
      ≡ sent_so_far answer c
  take_back c s q n words h y e w long =
      let v = c.party in
      let l = layout_here c in
      let a = part_so_far answer c in
      let i = c.far.stages in
      let r = party_of q in
      let g = given_for c s in
      ap (λ a. joined a.sent (all_sent (take (suc i) (stage_sends v l a s (given_for (more c r words) s))))) (same_so_far c r words y.on)
      ∙ ap (λ g. joined a.sent (all_sent (take (suc i) (stage_sends v l a s g)))) (given_more c s r words (same_here c r words y.on) (few_more c s q n words y w long))
      ∙ ap (λ ss. joined a.sent (all_sent ss)) (sends_stay v l a s g r words i (λ p. let k = y.long p in omega (arith, k)))
      ∙ ap (λ x. joined a.sent x) (begun_sent c.far.turned (waits_at v s i) i (stage_sends v l a s g) w.ready (λ f. waits_quiet accepts answer v l a s g i (fine_here accepts answer c s h e) f))
      ∙ ap (λ o. joined a.sent (all_sent (take (stages_begun c.far) (sends_in answer c o)))) (sym e)

  -- words are the last move of a stage, behind its turn or at once
  take_less : (c : CoreView T) (s : Step T) (q n : ℕ) (words : List ℕ) → Here accepts answer c s → next_step c ≡ Some s → WantsWords c.party (layout_here c) s c.far q n
      → moves_left c ≡ suc (moves_left (record c { given = with_words c.given (party_of q) words; far = behind_stage (stage_count c.party (layout_here c) s) c.far }))
  take_less c s q n words y e w = by c.far.turned refl w.ready where
    m : moves_left c ≡ (sum (drop c.far.stages (step_moves c.party (layout_here c) s)) + moves_behind c.party (grown (layout_here c) s) (drop (suc c.far.steps) c.list.steps)) - cond c.far.turned 1 0
    m = moves_here c s e

    split : sum (drop c.far.stages (step_moves c.party (layout_here c) s))
        ≡ stage_moves (waits_at c.party s c.far.stages) (takes_at c.party (layout_here c) s c.far.stages) + sum (drop (suc c.far.stages) (step_moves c.party (layout_here c) s))
    split = moves_split c s (moves_at c.party (layout_here c) s c.far.stages y.stands.inside)

    less : moves_left (record c { far = behind_stage (stage_count c.party (layout_here c) s) c.far })
        ≡ sum (drop (suc c.far.stages) (step_moves c.party (layout_here c) s)) + moves_behind c.party (grown (layout_here c) s) (drop (suc c.far.steps) c.list.steps)
    less = moves_behind_stage c s e (done_layout accepts answer c s e)

    of_stage : (b : Bool) → waits_at c.party s c.far.stages ≡ b → stage_moves (waits_at c.party s c.far.stages) (takes_at c.party (layout_here c) s c.far.stages) ≡ behind_turns b
    of_stage b f = ap (λ b. cond b 1 (behind_turns (waits_at c.party s c.far.stages))) w.first.some ∙ ap behind_turns f

    by : (b : Bool) → c.far.turned ≡ b → (b || waits_at c.party s c.far.stages) ≡ true
        → moves_left c ≡ suc (moves_left (record c { far = behind_stage (stage_count c.party (layout_here c) s) c.far }))
    by true t r =
        let one = ap turns t in
        let two = of_stage false (y.stands.turned t).1 in
        omega (arith, m, split, less, one, two)
    by false t r =
        let one = ap turns t in
        let two = of_stage true r in
        omega (arith, m, split, less, one, two)

  take_in : (c : CoreView T) (s : Step T) (q n : ℕ) (words : List ℕ) → IsReached accepts answer c → (part_so_far answer c).stop ≡ false → next_step c ≡ Some s
      → WantsWords c.party (layout_here c) s c.far q n → length words ≡ n → AreWords words
      → breaks_order_in (more c (party_of q) words) (next_step c) ≡ false
      → TakeKept accepts answer c (record c { given = with_words c.given (party_of q) words; far = behind_stage (stage_count c.party (layout_here c) s) c.far })
  take_in c s q n words h g e w long below good =
      let y = here accepts answer c s h g e in
      let filled = filled_more c s q n words h y e w long below good in
      record {
        reached = stage_reached accepts answer (more c (party_of q) words) s filled;
        sent = stage_sent accepts answer (more c (party_of q) words) s filled ∙ take_back c s q n words h y e w long;
        one_less = take_less c s q n words y e w;
      }

  pub take_kept : (c : CoreView T) (q n : ℕ) (words : List ℕ) → IsReached accepts answer c → want_of answer c ≡ Words q n → length words ≡ n → AreWords words
      → breaks_order c (party_of q) words ≡ false → TakeKept accepts answer c (took c (party_of q) words)
  take_kept c q n words h e long below good =
      let w = wants_words answer c q n e in
      subst (λ o. TakeKept accepts answer c (record c { given = with_words c.given (party_of q) words; far = far_taken c o })) (sym w.next)
      (take_in c w.step q n words h w.going w.next w.wants long below good)

  -- ---- before the first move

  pub start_kept : (list : Steps T) (v : Party) (slots : List (List ℕ)) (own following : List Draw) → IsWellFormed accepts list → map length slots ≡ at v list.first
      → AllByRecursion AreWords slots → FitsNeeds (needs v (starting list.first) list.steps) own → FitsNeeds (needs (next v) (starting list.first) list.steps) following
      → IsReached accepts answer (fresh_core list v slots own following)
  start_kept list v slots own following well long below fits fits_following = record {
    well_formed = well;
    long = long;
    below = below;
    own = fits;
    following = fits_following;
    words = no_words_below;
    taken = taken;
    early = refl;
    order = order (next_step (fresh_core list v slots own following));
    stands = stands (next_step (fresh_core list v slots own following)) refl;
    still = λ e. record { stages = refl; turned = refl };
  } where
    no_words_below : (p : Party) → AreWords (at p (nothing {A = ℕ}))
    no_words_below First = record { below = λ k. omega arith }
    no_words_below Second = record { below = λ k. omega arith }
    no_words_below Third = record { below = λ k. omega arith }

    taken : (p : Party) → length (at p (nothing {A = ℕ})) ≡ at p (taken_so_far answer (fresh_core list v slots own following))
    taken First = refl
    taken Second = refl
    taken Third = refl

    nothing_for : (n : Three ℕ) (p : Party) → at p (parties (λ q. take (at q n) (at q (nothing {A = ℕ})))) ≡ []
    nothing_for n First = take_none n.first
    nothing_for n Second = take_none n.second
    nothing_for n Third = take_none n.third

    order : (o : Option (Step T)) → breaks_order_in (fresh_core list v slots own following) o ≡ false
    order None = refl
    order (Some s) = no_order v (starting list.first) s (given_for (fresh_core list v slots own following) s) (nothing_for (taken_of v (starting list.first) s))

    empty : (xs : List (Step T)) → slice_get xs 0 ≡ None → 0 ≡ length xs
    empty [] e = refl
    empty (x ∷ xs) e = absurd (some_none x e) where
      some_none : (x : Step T) → Some x ≡ None → ⊥
      some_none x e = cc

    stands : (o : Option (Step T)) → next_step (fresh_core list v slots own following) ≡ o → Stands (fresh_core list v slots own following) o
    stands None e = record { end = empty list.steps e; stages = refl; turned = refl }
    stands (Some s) e = record { inside = inr refl; turned = λ e. absurd (false_true e) }

  pub moves_keep : MovesKeep accepts answer
  moves_keep = record { starts = start_kept; turns = turn_kept; takes = take_kept }
