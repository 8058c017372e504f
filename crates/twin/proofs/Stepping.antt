-- A step of both worlds, from what its parts in the code say.
use Rattle.std.proofs.Common.{◌≡◌, ℕ, zero, suc, ◌+◌, ◌-◌, ◌≤◌, List, [], ◌∷◌, ◌++◌, length, take, drop, refl, sym, subst, ap, ◌∙◌, arith}
use Rattle.std.proofs.lemmas.List.{append-nil, length-append, length-take-le, length-drop}
use Rattle.std.proofs.Math.Seq.{drop-append_seam}
use Rattle.lanes.specs.declared.party.Party.{Party}
use Rattle.lanes.specs.declared.party.Party.TheVariants.{First, Second, Third}
use Rattle.lanes.specs.declared.three.Three.{Three}
use Rattle.lanes.specs.Three.{at, put, each}
use Rattle.tapes.specs.declared.draw.Need.{Need}
use Rattle.tapes.specs.declared.draw.Draw.{Draw}
use Rattle.tapes.specs.declared.draw.Draw.TheVariants.{Word, Order}
use Rattle.step_lists.specs.Draws.{ThreeTapes, taken, dropped}
use Rattle.step_lists.specs.Prefixes.{at-taken}
use Rattle.step_lists.specs.Twin.{changed}
use Rattle.joint_machine.specs.Left.{IsNext, AreNext}
use Rattle.twin.specs.Passing.{left_at}
use Rattle.twin.proofs.PairRun.{fits_count, cut_first}

pub at_left : (p : Party) (places : Three ℕ) (ds : ThreeTapes) → at p (left_at places ds) ≡ drop (at p places) (at p ds)
at_left First places ds = refl
at_left Second places ds = refl
at_left Third places ds = refl

at_length : (p : Party) (ns : Three (List Need)) → at p (each length ns) ≡ length (at p ns)
at_length First ns = refl
at_length Second ns = refl
at_length Third ns = refl

next_count : (ns : List Need) (ds : List Draw) → IsNext ns ds → length ns ≤ length ds
next_count ns ds h = let e = fits_count (ns ++ h.0) ds h.1 in omega (arith, length-append ns h.0)

-- the draws of a step lie within the tapes
pub within : (ns : Three (List Need)) (places counts : Three ℕ) (ds : ThreeTapes) → counts ≡ each length ns → AreNext ns (left_at places ds)
    → ((p : Party) → at p places ≤ length (at p ds)) → (p : Party) → at p places + at p counts ≤ length (at p ds)
within ns places counts ds e next h p =
    let c : at p counts ≡ length (at p ns) = ap (at p) e ∙ at_length p ns in
    let n : length (at p ns) ≤ length (drop (at p places) (at p ds)) = subst (λ d. length (at p ns) ≤ length d) (at_left p places ds) (next_count (at p ns) (at p (left_at places ds)) (next p)) in
    let le = h p in
    omega (arith, length-drop (at p places) (at p ds))

drop_twice : (n k : ℕ) (xs : List Draw) → drop (n + k) xs ≡ drop k (drop n xs)
drop_twice n k [] = drop_none (n + k) ∙ sym (ap (drop k) (drop_none n) ∙ drop_none k) where
  drop_none : (n : ℕ) → drop {A = Draw} n [] ≡ []
  drop_none zero = refl
  drop_none (suc n) = refl
drop_twice zero k (x ∷ xs) = let e : 0 + k ≡ k = omega arith in ap (λ i. drop i (x ∷ xs)) e
drop_twice (suc n) k (x ∷ xs) = let e : suc n + k ≡ suc (n + k) = omega arith in ap (λ i. drop i (x ∷ xs)) e ∙ drop_twice n k xs

-- what is left of the tapes behind a step
pub left_behind_step : (ns : Three (List Need)) (places counts new : Three ℕ) (ds : ThreeTapes) → counts ≡ each length ns → ((p : Party) → at p new ≡ at p places + at p counts)
    → left_at new ds ≡ dropped ns (left_at places ds)
left_behind_step ns places counts new ds e h =
    let one : drop new.first ds.first ≡ drop (length ns.first) (drop places.first ds.first) =
    ap (λ k. drop k ds.first) (h First ∙ ap (λ k. places.first + k) (ap (at First) e)) ∙ drop_twice places.first (length ns.first) ds.first in
    let two : drop new.second ds.second ≡ drop (length ns.second) (drop places.second ds.second) =
    ap (λ k. drop k ds.second) (h Second ∙ ap (λ k. places.second + k) (ap (at Second) e)) ∙ drop_twice places.second (length ns.second) ds.second in
    let three : drop new.third ds.third ≡ drop (length ns.third) (drop places.third ds.third) =
    ap (λ k. drop k ds.third) (h Third ∙ ap (λ k. places.third + k) (ap (at Third) e)) ∙ drop_twice places.third (length ns.third) ds.third in
    let M : List Draw → List Draw → List Draw → ThreeTapes = λ a b c. record { first = a; second = b; third = c } in
    ap (λ a. M a (drop new.second ds.second) (drop new.third ds.third)) one
    ∙ (ap (λ b. M (drop (length ns.first) (drop places.first ds.first)) b (drop new.third ds.third)) two
    ∙ ap (M (drop (length ns.first) (drop places.first ds.first)) (drop (length ns.second) (drop places.second ds.second))) three)

-- the unseen draws of the step, as they are read
pub unseen_draws : (u : Party) (ns : Three (List Need)) (places counts : Three ℕ) (ds : ThreeTapes) (from to : ℕ) → counts ≡ each length ns → from ≡ at u places → to ≡ at u places + at u counts
    → take (to - from) (drop from (at u ds)) ≡ at u (taken ns (left_at places ds))
unseen_draws u ns places counts ds from to e f g =
    let c : at u counts ≡ length (at u ns) = ap (at u) e ∙ at_length u ns in
    let k : to - from ≡ length (at u ns) = omega arith in
    ap (λ i. take i (drop from (at u ds))) k
    ∙ (ap (λ i. take (length (at u ns)) (drop i (at u ds))) f
    ∙ (ap (take (length (at u ns))) (sym (at_left u places ds)) ∙ sym (at-taken u ns (left_at places ds))))

changed_count : (o cs : List ℕ) (ds : List Draw) → length (changed o cs ds) ≡ length ds
changed_count o cs [] = refl
changed_count o [] (Word w ∷ ds) = ap suc (changed_count o [] ds)
changed_count o (c ∷ cs) (Word w ∷ ds) = ap suc (changed_count o cs ds)
changed_count o cs (Order p ∷ ds) = ap suc (changed_count o cs ds)

-- changed draws are as many as the needs
twin_count : (u : Party) (ns : Three (List Need)) (left : ThreeTapes) (o cs : List ℕ) (t : List Draw) → AreNext ns left → changed o cs (at u (taken ns left)) ≡ t → length t ≡ length (at u ns)
twin_count u ns left o cs t next e =
    sym (ap length e) ∙ (changed_count o cs (at u (taken ns left))
    ∙ (ap length (at-taken u ns left) ∙ length-take-le (length (at u ns)) (at u left) (next_count (at u ns) (at u left) (next u))))

-- the step's draws of three tapes with exactly these in the place of the unseen ones
pub taken_put : (u : Party) (ns : Three (List Need)) (left : ThreeTapes) (o cs : List ℕ) (t : List Draw) → AreNext ns left → changed o cs (at u (taken ns left)) ≡ t
    → taken ns (put u t left) ≡ put u t (taken ns left)
taken_put u ns left o cs t next e =
    ap (λ z. taken ns (put u z left)) (sym (append-nil t)) ∙ cut_first u ns left t [] (twin_count u ns left o cs t next e)

-- the draws that were made last
pub made_last : (made z made' : List Draw) (place : ℕ) → place ≡ length made → made' ≡ made ++ z → drop place made' ≡ z
made_last made z made' place e f = ap (λ k. drop k made') e ∙ (ap (drop (length made)) f ∙ drop-append_seam made z)
