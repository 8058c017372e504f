-- The part of one party: what it computes and sends, from its own two tapes and slots and the words that come to it,
-- honest or not, and where it ends early.
use Rattle.std.specs.Prelude.{ℕ, suc, ◌+◌, ◌*◌, Bool, true, false, not, ◌&&◌, ◌==◌, nat_lt, nat_le, ◌||◌, is_some, Option, Some, None, List, [], ◌∷◌, ◌++◌, length, map, take, drop, sum, slice_index, slice_index_or, if◌then◌else◌}
use Rattle.std.specs.List.{flat_map, list_all, range_with_len}
use Rattle.lanes.specs.declared.party.Party.{Party}
use Rattle.lanes.specs.declared.party.Party.TheVariants.{First, Second, Third}
use Rattle.lanes.specs.declared.three.Three.{Three}
use Rattle.lanes.specs.Party.{next, before}
use Rattle.lanes.specs.Three.{at, put}
use Rattle.lanes.specs.Lanes.{xors, crosses}
use Rattle.tapes.specs.declared.draw.Draw.{Draw}
use Rattle.tapes.specs.Order.{applied, composed, inverse_of, place_of}
use Rattle.step_lists.specs.Layout.{Step, Const, Lin, And, Share, Reveal, Steer, Tell, Work, Flag, Steps, Layout, party_of, starting, length_of, words_in_slot, rows_moved}
use Rattle.step_lists.specs.Draws.{parties, nothing, joined, words_in, order_in, needs_of}
use Rattle.step_lists.specs.Run.{Cut, run}
use Rattle.step_lists.specs.Lin.{lin_share}
use Rattle.step_lists.specs.Open.{item}
use Rattle.step_lists.specs.Seen.{same_party}
use Rattle.step_lists.specs.Machine.{const_share}

-- the two shares of a register that party v holds: that of v and that of v + 1
pub record Pair : Type 0 where
  pub own : List ℕ
  pub following : List ℕ

abbrev pub no_pair : Pair
no_pair = record { own = []; following = [] }

-- what is given to party v: tape v, tape v + 1, and the words that came from each party
pub record Given : Type 0 where
  pub own : List Draw
  pub following : List Draw
  pub received : Three (List ℕ)

-- ---- what a party takes: a step has stages, and in each a party sends first and then takes words of one party at most

abbrev pub takes_nothing : Three ℕ
takes_nothing = record { first = 0; second = 0; third = 0 }

abbrev pub takes_from : Party → ℕ → Three ℕ
takes_from p n = put p n takes_nothing

abbrev pub when : Bool → Three ℕ → Three ℕ
when b x = if b then x else takes_nothing

-- n words of a phase
abbrev pub phase_takes : Party → Party → ℕ → Three ℕ
phase_takes v j n = if same_party v j then takes_from (before j) n else when (same_party v (before j)) (takes_from j n)

abbrev pub stage_takes : {T : Type 0} → Party → Layout → Step T → List (Three ℕ)
stage_takes v l (Const words) = []
stage_takes v l (Lin op) = []
stage_takes v l (And left right) = takes_from (next v) (length_of l left) ∷ []
stage_takes v l (Share party s) =
    when (not (same_party v (party_of party))) (takes_from (party_of party) (words_in_slot l (party_of party) s)) ∷ []
stage_takes v l (Reveal to moved shown) =
    phase_takes v First (length moved * rows_moved l moved)
    ∷ phase_takes v Second (length moved * rows_moved l moved)
    ∷ phase_takes v Third (length moved * rows_moved l moved)
    ∷ when (same_party v (party_of to)) (takes_from (next (party_of to)) (length shown * rows_moved l moved))
    ∷ []
stage_takes v l (Steer by s moved) =
    when (same_party v (before (party_of by))) (takes_from (party_of by) (rows_moved l moved))
    ∷ phase_takes v (next (party_of by)) (length moved * rows_moved l moved)
    ∷ phase_takes v (party_of by) (length moved * rows_moved l moved)
    ∷ []
stage_takes v l (Tell source target s) =
    when (same_party v (party_of target)) (takes_from (party_of source) (words_in_slot l (party_of source) s)) ∷ []
stage_takes v l (Work party task takes gives) = []
stage_takes v l (Flag party s) = when (not (same_party v (party_of party))) (takes_from (party_of party) 1) ∷ []

-- how many words of a party it takes in some stages
abbrev pub count_from : Party → List (Three ℕ) → ℕ
count_from p stages = sum (map (at p) stages)

-- the words of each party that a step takes
abbrev pub taken_of : {T : Type 0} → Party → Layout → Step T → Three ℕ
taken_of v l s = parties (λ p. count_from p (stage_takes v l s))

abbrev pub part_cut : {T : Type 0} → Party → Cut T Given
part_cut v = record {
  first = λ l s g. record {
    own = take (length (at v (needs_of l s))) g.own;
    following = take (length (at (next v) (needs_of l s))) g.following;
    received = parties (λ p. take (at p (taken_of v l s)) (at p g.received));
  };
  rest = λ l s g. record {
    own = drop (length (at v (needs_of l s))) g.own;
    following = drop (length (at (next v) (needs_of l s))) g.following;
    received = parties (λ p. drop (at p (taken_of v l s)) (at p g.received));
  };
}

-- ---- one phase at party v

-- the pairs of the moved registers, and what isn't used yet of the words of its two tapes and of the received ones
pub record PartMoving : Type 0 where
  pub pairs : List Pair
  pub own : List ℕ
  pub following : List ℕ
  pub received : Three (List ℕ)

-- what party j, and what party j - 1, sends of a register
abbrev pub sent_by_j : List ℕ → Pair → List ℕ → List ℕ
sent_by_j order p b = xors (applied order p.following) b

abbrev pub sent_before_j : List ℕ → Pair → List ℕ → List ℕ
sent_before_j order p a = xors (applied order (xors p.own p.following)) a

-- party j keeps a mask and xors what it got with what it sent; so does party j - 1; the third party has both masks
abbrev pub pairs_of_j : List ℕ → ℕ → List Pair → List ℕ → List ℕ → List Pair
pairs_of_j order n [] b got = []
pairs_of_j order n (p ∷ ps) b got =
    record { own = xors (take n got) (sent_by_j order p (take n b)); following = take n b } ∷ pairs_of_j order n ps (drop n b) (drop n got)

abbrev pub pairs_before_j : List ℕ → ℕ → List Pair → List ℕ → List ℕ → List Pair
pairs_before_j order n [] a got = []
pairs_before_j order n (p ∷ ps) a got =
    record { own = take n a; following = xors (sent_before_j order p (take n a)) (take n got) } ∷ pairs_before_j order n ps (drop n a) (drop n got)

abbrev pub pairs_of_masks : ℕ → List Pair → List ℕ → List ℕ → List Pair
pairs_of_masks n [] b a = []
pairs_of_masks n (p ∷ ps) b a = record { own = take n b; following = take n a } ∷ pairs_of_masks n ps (drop n b) (drop n a)

abbrev pub all_by_j : List ℕ → ℕ → List Pair → List ℕ → List ℕ
all_by_j order n [] b = []
all_by_j order n (p ∷ ps) b = sent_by_j order p (take n b) ++ all_by_j order n ps (drop n b)

abbrev pub all_before_j : List ℕ → ℕ → List Pair → List ℕ → List ℕ
all_before_j order n [] a = []
all_before_j order n (p ∷ ps) a = sent_before_j order p (take n a) ++ all_before_j order n ps (drop n a)

-- phase (j, order) at party v, and what it sends in it
abbrev pub part_phase : Party → Party → List ℕ → ℕ → PartMoving → PartMoving
part_phase v j order n x =
    if same_party v j then record x {
      pairs = pairs_of_j order n x.pairs x.following (at (before j) x.received);
      following = drop (length x.pairs * n) x.following;
      received = put (before j) (drop (length x.pairs * n) (at (before j) x.received)) x.received;
    } else (if same_party v (before j) then record x {
      pairs = pairs_before_j order n x.pairs x.own (at j x.received);
      own = drop (length x.pairs * n) x.own;
      received = put j (drop (length x.pairs * n) (at j x.received)) x.received;
    } else record x {
      pairs = pairs_of_masks n x.pairs x.own x.following;
      own = drop (length x.pairs * n) x.own;
      following = drop (length x.pairs * n) x.following;
    })

abbrev pub phase_sends : Party → Party → List ℕ → ℕ → PartMoving → Three (List ℕ)
phase_sends v j order n x =
    if same_party v j then put (before j) (all_by_j order n x.pairs x.following) nothing
    else (if same_party v (before j) then put j (all_before_j order n x.pairs x.own) nothing else nothing)

-- the order that a Reveal draws of tape j, for the two parties that hold it
abbrev pub held_order : Party → Party → Given → List ℕ
held_order v j g = if same_party v j then order_in g.own else order_in g.following

-- the private order of a Steer by p: p makes it, p - 1 is sent it
abbrev pub steered : Party → Party → List ℕ → Given → List ℕ
steered v p secret g = if same_party v p then composed (inverse_of (order_in g.following)) secret else at p g.received

-- a Steer's phases begin behind the words of the order
abbrev pub behind_order : Party → Party → ℕ → PartMoving → PartMoving
behind_order v p n x = if same_party v (before p) then record x { received = put p (drop n (at p x.received)) x.received } else x

-- ---- the steps

-- why a part ends early: the words from a party are used up, or a private order isn't one
pub data Early : Type 0 where
  UsedUp : Party → Early
  NoOrder : Party → Early

pub record Part : Type 0 where
  pub pairs : List Pair
  pub slots : List (List ℕ)
  pub sent : Three (List ℕ)
  pub taken : Three ℕ
  pub flags : ℕ
  pub stop : Bool
  pub early : Option Early

-- before the first step
abbrev pub part_before : List (List ℕ) → Part
part_before slots = record { pairs = []; slots = slots; sent = nothing; taken = takes_nothing; flags = 0; stop = false; early = None }

abbrev pub pair_at : Part → ℕ → Pair
pair_at a r = slice_index_or a.pairs r no_pair

abbrev pub with_pairs : Part → List Pair → Part
with_pairs a more = record a { pairs = a.pairs ++ more }

abbrev pub with_own_slots : Bool → Part → List (List ℕ) → Part
with_own_slots b a more = if b then record a { slots = a.slots ++ more } else a

abbrev pub part_flag : Part → List ℕ → Part
part_flag a ws = if slice_index ws 0 == 0 then record a { flags = suc a.flags } else record a { stop = true }

abbrev pub part_moving : Part → List ℕ → Given → PartMoving
part_moving a moved g =
    record { pairs = map (pair_at a) moved; own = words_in g.own; following = words_in g.following; received = g.received }

abbrev pub part_first : Party → ℕ → Given → PartMoving → PartMoving
part_first v n g x = part_phase v First (held_order v First g) n x

abbrev pub part_second : Party → ℕ → Given → PartMoving → PartMoving
part_second v n g x = part_phase v Second (held_order v Second g) n (part_first v n g x)

abbrev pub part_third : Party → ℕ → Given → PartMoving → PartMoving
part_third v n g x = part_phase v Third (held_order v Third g) n (part_second v n g x)

abbrev pub part_drawn : Party → Party → ℕ → Given → PartMoving → PartMoving
part_drawn v p n g x = part_phase v (next p) (held_order v (next p) g) n (behind_order v p n x)

-- the private order of a Steer, of n numbers
abbrev pub part_private : Party → Party → List ℕ → ℕ → Given → PartMoving → PartMoving
part_private v p secret n g x = part_phase v p (take n (steered v p secret g)) n (part_drawn v p n g x)

-- party v's new share of an and, and the share that it gives away of words that it shares
abbrev pub and_part : Pair → Pair → Given → List ℕ
and_part x y g = xors (xors (crosses x.own x.following y.own y.following) (words_in g.own)) (words_in g.following)

abbrev pub given_away : List ℕ → Given → List ℕ
given_away words g = xors (xors words (words_in g.own)) (words_in g.following)

-- the pair of words shared by p
abbrev pub shared_pair : Party → Party → Given → Pair
shared_pair v p g =
    if same_party v p then record { own = words_in g.own; following = words_in g.following }
    else (if same_party v (next p) then record { own = words_in g.own; following = at p g.received }
    else record { own = at p g.received; following = words_in g.following })

-- the slots that a Reveal gives: the two shares that are held, and the one that came last
abbrev pub opened_at : Party → Pair → List ℕ → List ℕ
opened_at First p third = xors (xors p.own p.following) third
opened_at Second p third = xors (xors third p.own) p.following
opened_at Third p third = xors (xors p.following third) p.own

abbrev pub revealed_slots : Party → ℕ → PartMoving → List ℕ → List ℕ → List (List ℕ)
revealed_slots q n x [] got = []
revealed_slots q n x (k ∷ ks) got = opened_at q (slice_index_or x.pairs k no_pair) (take n got) ∷ revealed_slots q n x ks (drop n got)

abbrev pub to_others : Party → List ℕ → Three (List ℕ)
to_others v words = put (next v) words (put (before v) words nothing)

abbrev pub when_sent : Bool → Three (List ℕ) → Three (List ℕ)
when_sent b x = if b then x else nothing

module _ {T : Type 0} (answer : T → List (List ℕ) → List (List ℕ)) (v : Party) where
  -- pairs, slots, flags and stop behind a step
  abbrev pub part_step : Layout → Part → Step T → Given → Part
  part_step l a (Const words) g = with_pairs a (record { own = const_share v words; following = const_share (next v) words } ∷ [])
  part_step l a (Lin op) g =
      with_pairs a (record { own = lin_share v op (λ r. (pair_at a r).own); following = lin_share (next v) op (λ r. (pair_at a r).following) } ∷ [])
  part_step l a (And left right) g = with_pairs a (record { own = and_part (pair_at a left) (pair_at a right) g; following = at (next v) g.received } ∷ [])
  part_step l a (Share party s) g = with_pairs a (shared_pair v (party_of party) g ∷ [])
  part_step l a (Reveal to moved shown) g =
      with_own_slots (same_party v (party_of to)) (with_pairs a (part_third v (rows_moved l moved) g (part_moving a moved g)).pairs)
      (revealed_slots v (rows_moved l moved) (part_third v (rows_moved l moved) g (part_moving a moved g)) shown (at (next v) (part_third v (rows_moved l moved) g (part_moving a moved g)).received))
  part_step l a (Steer by s moved) g = with_pairs a (part_private v (party_of by) (item a.slots s) (rows_moved l moved) g (part_moving a moved g)).pairs
  part_step l a (Tell source target s) g = with_own_slots (same_party v (party_of target)) a (at (party_of source) g.received ∷ [])
  part_step l a (Work party task takes gives) g = with_own_slots (same_party v (party_of party)) a (answer task (map (item a.slots) takes))
  part_step l a (Flag party s) g = part_flag a (if same_party v (party_of party) then item a.slots s else at (party_of party) g.received)

-- what party v sends in each stage of a step
abbrev pub stage_sends : {T : Type 0} → Party → Layout → Part → Step T → Given → List (Three (List ℕ))
stage_sends v l a (Const words) g = []
stage_sends v l a (Lin op) g = []
stage_sends v l a (And left right) g = put (before v) (and_part (pair_at a left) (pair_at a right) g) nothing ∷ []
stage_sends v l a (Share party s) g = when_sent (same_party v (party_of party)) (to_others v (given_away (item a.slots s) g)) ∷ []
stage_sends v l a (Reveal to moved shown) g =
    phase_sends v First (held_order v First g) (rows_moved l moved) (part_moving a moved g)
    ∷ phase_sends v Second (held_order v Second g) (rows_moved l moved) (part_first v (rows_moved l moved) g (part_moving a moved g))
    ∷ phase_sends v Third (held_order v Third g) (rows_moved l moved) (part_second v (rows_moved l moved) g (part_moving a moved g))
    ∷ when_sent (same_party v (next (party_of to)))
    (put (party_of to) (flat_map (λ k. (slice_index_or (part_third v (rows_moved l moved) g (part_moving a moved g)).pairs k no_pair).following) shown) nothing)
    ∷ []
stage_sends v l a (Steer by s moved) g =
    when_sent (same_party v (party_of by)) (put (before v) (steered v (party_of by) (item a.slots s) g) nothing)
    ∷ phase_sends v (next (party_of by)) (held_order v (next (party_of by)) g) (rows_moved l moved) (behind_order v (party_of by) (rows_moved l moved) (part_moving a moved g))
    ∷ phase_sends v (party_of by) (take (rows_moved l moved) (steered v (party_of by) (item a.slots s) g)) (rows_moved l moved) (part_drawn v (party_of by) (rows_moved l moved) g (part_moving a moved g))
    ∷ []
stage_sends v l a (Tell source target s) g = when_sent (same_party v (party_of source)) (put (party_of target) (item a.slots s) nothing) ∷ []
stage_sends v l a (Work party task takes gives) g = []
stage_sends v l a (Flag party s) g = when_sent (same_party v (party_of party)) (to_others v (item a.slots s)) ∷ []

-- ---- where it ends early

-- a permutation of the numbers below its length: each of them occurs
abbrev pub is_order : List ℕ → Bool
is_order o = list_all (λ k. nat_lt (place_of k o) (length o)) (range_with_len 0 (length o))

-- the party of which a stage takes more words than there are
abbrev pub lacks : Three ℕ → Three (List ℕ) → Option Party
lacks takes got =
    if nat_lt (length got.first) takes.first then Some First
    else (if nat_lt (length got.second) takes.second then Some Second
    else (if nat_lt (length got.third) takes.third then Some Third else None))

-- the stages that come to their end, and what ends the next one
pub record Progress : Type 0 where
  pub passed : ℕ
  pub early : Option Early

abbrev pub used_up : Option Party → Option Early
used_up None = None
used_up (Some p) = Some (UsedUp p)

abbrev pub one_more : Progress → Progress
one_more p = record p { passed = suc p.passed }

abbrev pub progress : List (Three ℕ) → Three (List ℕ) → Progress
progress [] got = record { passed = 0; early = None }
progress (t ∷ ts) got =
    if is_some (lacks t got) then record { passed = 0; early = used_up (lacks t got) }
    else one_more (progress ts (parties (λ p. drop (at p t) (at p got))))

-- a private order of n numbers that was sent whole and isn't one
abbrev pub is_bad_order : ℕ → List ℕ → Bool
is_bad_order n got = nat_le n (length got) && not (is_order (take n got))

abbrev pub takes_bad_order : {T : Type 0} → Party → Layout → Step T → Given → Bool
takes_bad_order v l (Steer by s moved) g = same_party v (before (party_of by)) && is_bad_order (rows_moved l moved) (at (party_of by) g.received)
takes_bad_order v l (Const words) g = false
takes_bad_order v l (Lin op) g = false
takes_bad_order v l (And left right) g = false
takes_bad_order v l (Share party s) g = false
takes_bad_order v l (Reveal to moved shown) g = false
takes_bad_order v l (Tell source target s) g = false
takes_bad_order v l (Work party task takes gives) g = false
takes_bad_order v l (Flag party s) g = false

-- how far a step comes; a bad order comes from the next party, in the first stage of a Steer
abbrev pub progress_of : {T : Type 0} → Party → Layout → Step T → Given → Progress
progress_of v l s g =
    if takes_bad_order v l s g then record { passed = 0; early = Some (NoOrder (next v)) } else progress (stage_takes v l s) g.received

-- ---- the run

-- what is sent in some stages, and how many words are taken in them
abbrev pub all_sent : List (Three (List ℕ)) → Three (List ℕ)
all_sent [] = nothing
all_sent (x ∷ xs) = joined x (all_sent xs)

abbrev pub more_taken : Three ℕ → List (Three ℕ) → Three ℕ
more_taken x stages = record {
  first = x.first + count_from First stages;
  second = x.second + count_from Second stages;
  third = x.third + count_from Third stages;
}

-- a step as far as it comes: what is sent before the words that end it early is sent
abbrev pub went : Progress → List (Three (List ℕ)) → List (Three ℕ) → Part → Part → Part
went p sends takes a b = record (if is_some p.early then record a { early = p.early } else b) {
  sent = joined a.sent (all_sent (take (suc p.passed) sends));
  taken = more_taken a.taken (take p.passed takes);
}

abbrev pub has_ended : Part → Bool
has_ended a = a.stop || is_some a.early

module _ {T : Type 0} (answer : T → List (List ℕ) → List (List ℕ)) (v : Party) where
  -- nothing is done after a stop, or after an early end
  abbrev pub part_going : Layout → Part → Step T → Given → Part
  part_going l a s g =
      if has_ended a then a else went (progress_of v l s g) (stage_sends v l a s g) (stage_takes v l s) a (part_step answer v l a s g)

  abbrev pub part_of : Steps T → List (List ℕ) → Given → Part
  part_of list slots g = run part_going (part_cut v) (starting list.first) (part_before slots) list.steps g
