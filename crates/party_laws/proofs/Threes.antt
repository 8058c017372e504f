-- Values of three parties, and words on links.
use Rattle.std.proofs.Common.{◌≡◌, ℕ, ◌+◌, Bool, true, false, List, [], ◌∷◌, ◌++◌, length, map, refl, sym, ap, ◌∙◌, arith}
use Rattle.std.proofs.lemmas.List.{append-nil, append_assoc, length-append}
use Rattle.std.proofs.lemmas.List.Sums.{sum_by_from}
use Rattle.std.specs.Prelude.{not, if◌then◌else◌}
use Rattle.lanes.specs.declared.party.Party.{Party}
use Rattle.lanes.specs.declared.party.Party.TheVariants.{First, Second, Third}
use Rattle.lanes.specs.declared.three.Three.{Three}
use Rattle.lanes.specs.Party.{next, before}
use Rattle.lanes.specs.Three.{at, put, each}
use Rattle.step_lists.specs.Draws.{parties, nothing, joined}
use Rattle.step_lists.specs.Seen.{same_party}
use Rattle.step_lists.specs.Phases.{Links, link, no_words, message, behind_on}
use Rattle.step_lists.specs.Machine.{to_both}
use Rattle.step_lists.specs.Part.{takes_nothing, takes_from, when, phase_takes, count_from, all_sent}
use Rattle.party_laws.specs.InMachine.{received_by}

pub same_three : {A : Type 0} (x y : Three A) → x.first ≡ y.first → x.second ≡ y.second → x.third ≡ y.third → x ≡ y
same_three x y e f g =
    ap (λ a. record { first = a; second = x.second; third = x.third }) e
    ∙ (ap (λ a. record { first = y.first; second = a; third = x.third }) f ∙ ap (λ a. record { first = y.first; second = y.second; third = a }) g)

pub same_each : {A : Type 0} (x y : Three A) → ((p : Party) → at p x ≡ at p y) → x ≡ y
same_each x y h = same_three x y (h First) (h Second) (h Third)

pub at_parties : {A : Type 0} (f : Party → A) (p : Party) → at p (parties f) ≡ f p
at_parties f First = refl
at_parties f Second = refl
at_parties f Third = refl

pub at_each : {A B : Type 0} (f : A → B) (p : Party) (x : Three A) → at p (each f x) ≡ f (at p x)
at_each f First x = refl
at_each f Second x = refl
at_each f Third x = refl

pub at_joined : {A : Type 0} (p : Party) (x y : Three (List A)) → at p (joined x y) ≡ at p x ++ at p y
at_joined First x y = refl
at_joined Second x y = refl
at_joined Third x y = refl

pub joined_nothing : {A : Type 0} (x : Three (List A)) → joined x nothing ≡ x
joined_nothing x = same_three (joined x nothing) x (append-nil x.first) (append-nil x.second) (append-nil x.third)

pub joined_again : {A : Type 0} (x y z : Three (List A)) → joined (joined x y) z ≡ joined x (joined y z)
joined_again x y z =
    same_three (joined (joined x y) z) (joined x (joined y z)) (append_assoc x.first y.first z.first) (append_assoc x.second y.second z.second)
    (append_assoc x.third y.third z.third)

-- one stage
pub one_sent : (x : Three (List ℕ)) → all_sent (x ∷ []) ≡ x
one_sent x = joined_nothing x

-- ---- links

pub at_behind : (v : Party) (a b : Links) → at v (behind_on a b) ≡ joined (at v a) (at v b)
at_behind First a b = refl
at_behind Second a b = refl
at_behind Third a b = refl

pub link_behind : (p v : Party) (a b : Links) → link p v (behind_on a b) ≡ link p v a ++ link p v b
link_behind p v a b = ap (at v) (at_behind p a b) ∙ at_joined v (at p a) (at p b)

pub behind_again : (a b c : Links) → behind_on (behind_on a b) c ≡ behind_on a (behind_on b c)
behind_again a b c =
    same_three (behind_on (behind_on a b) c) (behind_on a (behind_on b c)) (joined_again a.first b.first c.first) (joined_again a.second b.second c.second)
    (joined_again a.third b.third c.third)

pub behind_none : (a : Links) → behind_on a no_words ≡ a
behind_none a = same_three (behind_on a no_words) a (joined_nothing a.first) (joined_nothing a.second) (joined_nothing a.third)

pub received_behind : (v : Party) (a b : Links) → received_by v (behind_on a b) ≡ joined (received_by v a) (received_by v b)
received_behind First a b = refl
received_behind Second a b = refl
received_behind Third a b = refl

pub at_received : (v p : Party) (a : Links) → at p (received_by v a) ≡ link p v a
at_received v p a = at_parties (λ q. link q v a) p

-- words of two parties to one another
abbrev pub two_ways : Party → List ℕ → List ℕ → Links
two_ways j there back = behind_on (message (before j) j there) (message j (before j) back)

pub message_arrives : (p q : Party) (w : List ℕ) → link p q (message p q w) ≡ w
message_arrives First First w = refl
message_arrives First Second w = refl
message_arrives First Third w = refl
message_arrives Second First w = refl
message_arrives Second Second w = refl
message_arrives Second Third w = refl
message_arrives Third First w = refl
message_arrives Third Second w = refl
message_arrives Third Third w = refl

-- words to both others, at each of them
pub both_to_next : (p : Party) (w : List ℕ) → link p (next p) (to_both p w) ≡ w
both_to_next First w = append-nil w
both_to_next Second w = append-nil w
both_to_next Third w = append-nil w

pub both_to_before : (p : Party) (w : List ℕ) → link p (before p) (to_both p w) ≡ w
both_to_before First w = refl
both_to_before Second w = refl
both_to_before Third w = refl

-- ---- counts

pub count_nothing : (p : Party) → at p takes_nothing ≡ 0
count_nothing First = refl
count_nothing Second = refl
count_nothing Third = refl

pub one_count : (p : Party) (t : Three ℕ) → count_from p (t ∷ []) ≡ at p t
one_count p t = omega arith

pub more_count : (p : Party) (t : Three ℕ) (ts : List (Three ℕ)) → count_from p (t ∷ ts) ≡ at p t + count_from p ts
more_count p t ts = omega (arith, sum_by_from (λ x. x) (0 + at p t) (map (at p) ts))

pub none_long : (p v : Party) → length (link p v no_words) ≡ 0
none_long First First = refl
none_long First Second = refl
none_long First Third = refl
none_long Second First = refl
none_long Second Second = refl
none_long Second Third = refl
none_long Third First = refl
none_long Third Second = refl
none_long Third Third = refl

empty_long : (v : Party) → length (at v (nothing {A = ℕ})) ≡ 0
empty_long First = refl
empty_long Second = refl
empty_long Third = refl

from_source : (q s v : Party) (x : Three (List ℕ)) → length (at v (at q (put s x no_words))) ≡ (if same_party q s then length (at v x) else 0)
from_source First First v x = refl
from_source First Second v x = empty_long v
from_source First Third v x = empty_long v
from_source Second First v x = empty_long v
from_source Second Second v x = refl
from_source Second Third v x = empty_long v
from_source Third First v x = empty_long v
from_source Third Second v x = empty_long v
from_source Third Third v x = refl

to_target : (v t : Party) (w : List ℕ) → length (at v (put t w nothing)) ≡ (if same_party v t then length w else 0)
to_target First First w = refl
to_target First Second w = refl
to_target First Third w = refl
to_target Second First w = refl
to_target Second Second w = refl
to_target Second Third w = refl
to_target Third First w = refl
to_target Third Second w = refl
to_target Third Third w = refl

taken_from : (q s : Party) (n : ℕ) → at q (takes_from s n) ≡ (if same_party q s then n else 0)
taken_from First First n = refl
taken_from First Second n = refl
taken_from First Third n = refl
taken_from Second First n = refl
taken_from Second Second n = refl
taken_from Second Third n = refl
taken_from Third First n = refl
taken_from Third Second n = refl
taken_from Third Third n = refl

taken_when : (q : Party) (b : Bool) (t : Three ℕ) → at q (when b t) ≡ (if b then at q t else 0)
taken_when q true t = refl
taken_when q false t = count_nothing q

either_way : (a b : Bool) (n : ℕ) → (if a then (if b then n else 0) else 0) ≡ (if b then (if a then n else 0) else 0)
either_way true true n = refl
either_way true false n = refl
either_way false true n = refl
either_way false false n = refl

pub count_message : (q v s t : Party) (w : List ℕ) (n : ℕ) → length w ≡ n → length (link q v (message s t w)) ≡ at q (when (same_party v t) (takes_from s n))
count_message q v s t w n h =
    from_source q s v (put t w nothing)
    ∙ (ap (λ k. if same_party q s then k else 0) (to_target v t w ∙ ap (λ k. if same_party v t then k else 0) h)
    ∙ (either_way (same_party q s) (same_party v t) n
    ∙ (ap (λ k. if same_party v t then k else 0) (sym (taken_from q s n)) ∙ sym (taken_when q (same_party v t) (takes_from s n)))))

link_long : (p v : Party) (a b : Links) → length (link p v (behind_on a b)) ≡ length (link p v a) + length (link p v b)
link_long p v a b = ap length (link_behind p v a b) ∙ length-append (link p v a) (link p v b)

to_others : (q v p : Party) (n : ℕ) → at q (when (same_party v (next p)) (takes_from p n)) + at q (when (same_party v (before p)) (takes_from p n)) ≡ at q (when (not (same_party v p)) (takes_from p n))
to_others q First First n = omega (arith, count_nothing q)
to_others q First Second n = omega (arith, count_nothing q)
to_others q First Third n = omega (arith, count_nothing q)
to_others q Second First n = omega (arith, count_nothing q)
to_others q Second Second n = omega (arith, count_nothing q)
to_others q Second Third n = omega (arith, count_nothing q)
to_others q Third First n = omega (arith, count_nothing q)
to_others q Third Second n = omega (arith, count_nothing q)
to_others q Third Third n = omega (arith, count_nothing q)

pub count_both : (q v p : Party) (w : List ℕ) (n : ℕ) → length w ≡ n → length (link q v (to_both p w)) ≡ at q (when (not (same_party v p)) (takes_from p n))
count_both q v p w n h =
    omega (arith, link_long q v (message p (next p) w) (message p (before p) w), count_message q v p (next p) w n h, count_message q v p (before p) w n h, to_others q v p n)

in_phase : (q v j : Party) (n : ℕ) → at q (when (same_party v j) (takes_from (before j) n)) + at q (when (same_party v (before j)) (takes_from j n)) ≡ at q (phase_takes v j n)
in_phase q First First n = omega (arith, count_nothing q)
in_phase q First Second n = omega (arith, count_nothing q)
in_phase q First Third n = omega (arith, count_nothing q)
in_phase q Second First n = omega (arith, count_nothing q)
in_phase q Second Second n = omega (arith, count_nothing q)
in_phase q Second Third n = omega (arith, count_nothing q)
in_phase q Third First n = omega (arith, count_nothing q)
in_phase q Third Second n = omega (arith, count_nothing q)
in_phase q Third Third n = omega (arith, count_nothing q)

pub count_phase : (q v j : Party) (a b : List ℕ) (n : ℕ) → length a ≡ n → length b ≡ n → length (link q v (two_ways j a b)) ≡ at q (phase_takes v j n)
count_phase q v j a b n h i =
    omega (arith, link_long q v (message (before j) j a) (message j (before j) b), count_message q v (before j) j a n h, count_message q v j (before j) b n i, in_phase q v j n)
