-- A phase, one register after the other.
use Rattle.std.proofs.Common.{◌≡◌, ℕ, suc, ◌+◌, ◌*◌, ◌<◌, ◌≤◌, List, [], ◌∷◌, ◌++◌, Vec, length, map, take, drop, get_or, refl, sym, subst, ◌∙◌, ap, arith}
use Rattle.std.specs.Global.{Global}
use Rattle.std.proofs.Math.Nat.{suc-mul}
use Rattle.std.proofs.lemmas.List.{append_assoc, map-append, drop_more, drop_all, length-drop, length-map, get_or-map}
use Rattle.lanes.specs.declared.party.Party.{Party}
use Rattle.lanes.specs.declared.party.Party.TheVariants.{First, Second, Third}
use Rattle.lanes.specs.declared.three.Three.{Three}
use Rattle.lanes.specs.Lanes.{xors}
use Rattle.lanes.specs.Party.{next, before}
use Rattle.lanes.specs.Three.{put}
use Rattle.step_lists.specs.Draws.{nothing}
use Rattle.step_lists.specs.Phases.{Shares, reshared, there, back, reshared_all, there_all, back_all}
use Rattle.joint_machine.specs.Ready.{HasRows, HaveRows}
use Rattle.joint_machine.specs.Seen.{lists}

pub row_at : (n : ℕ) (ss : List (Three (Vec ℕ Global))) (i : ℕ) (d : Three (Vec ℕ Global)) → HaveRows n (map lists ss) → i < length ss → d ≡ get_or ss i d → HasRows n (lists d)
row_at n ss i d h lt is =
    let e = get_or-map lists ss i d nothing lt in
    subst (λ x. HasRows n (lists x)) (sym is) (subst (HasRows n) e (h i (rw (length-map ss lists) lt)))

pub own_rows : (n : ℕ) (s : Shares) → HasRows n s → HasRows (length s.first) s
own_rows n s h = record { first = refl; second = h.second ∙ sym h.first; third = h.third ∙ sym h.first }

pub masks_left : (X : Type 0) (ss : List X) (i n : ℕ) (masks : List ℕ) → i < length ss → length masks ≡ length (drop i ss) * n
    → length (drop n masks) ≡ length (drop (i + 1) ss) * n
masks_left X ss i n masks lt h =
    let a = length-drop i ss in
    let b = length-drop (i + 1) ss in
    let k : length (drop i ss) ≡ suc (length (drop (i + 1) ss)) = omega arith in
    let m : length masks ≡ length (drop (i + 1) ss) * n + n = h ∙ (ap (λ k. k * n) k ∙ suc-mul (length (drop (i + 1) ss)) n) in
    omega (arith, length-drop n masks)

pub masks_enough : (X : Type 0) (ss : List X) (i n : ℕ) (masks : List ℕ) → i < length ss → length masks ≡ length (drop i ss) * n → n ≤ length masks
masks_enough X ss i n masks lt h =
    let a = length-drop i ss in
    let b = length-drop (i + 1) ss in
    let k : length (drop i ss) ≡ suc (length (drop (i + 1) ss)) = omega arith in
    let m : length masks ≡ length (drop (i + 1) ss) * n + n = h ∙ (ap (λ k. k * n) k ∙ suc-mul (length (drop (i + 1) ss)) n) in
    omega arith

next_lists : (ss : List (Three (Vec ℕ Global))) (i : ℕ) (d : Three (Vec ℕ Global)) → i < length ss
    → map lists (drop i ss) ≡ lists (get_or ss i d) ∷ map lists (drop (i + 1) ss)
next_lists ss i d lt = ap (map lists) (drop_more ss i d lt)

pub shares_more : (j : Party) (o : List ℕ) (n : ℕ) (ss : List (Three (Vec ℕ Global))) (i : ℕ) (s : Three (Vec ℕ Global)) (a b x y x' y' : List ℕ) (all made more : List Shares)
    → i < length ss → s ≡ get_or ss i s → x ≡ take n a → y ≡ take n b → x' ≡ drop n a → y' ≡ drop n b → more ≡ made ++ reshared j o (lists s) x y ∷ []
    → all ≡ made ++ reshared_all j o n (map lists (drop i ss)) a b
    → all ≡ more ++ reshared_all j o n (map lists (drop (i + 1) ss)) x' y'
shares_more j o n ss i s a b x y x' y' all made more lt is ex ey ex' ey' em h =
    h ∙ (ap (λ xs. made ++ reshared_all j o n xs a b) (next_lists ss i s lt)
    ∙ (ap (λ s. made ++ reshared j o (lists s) (take n a) (take n b) ∷ reshared_all j o n (map lists (drop (i + 1) ss)) (drop n a) (drop n b)) (sym is)
    ∙ (sym (append_assoc made (reshared j o (lists s) (take n a) (take n b) ∷ []) (reshared_all j o n (map lists (drop (i + 1) ss)) (drop n a) (drop n b)))
    ∙ rw (em, ex, ey, ex', ey') refl)))

pub there_more : (j : Party) (o : List ℕ) (n : ℕ) (ss : List (Three (Vec ℕ Global))) (i : ℕ) (s : Three (Vec ℕ Global)) (a x x' all made more : List ℕ)
    → i < length ss → s ≡ get_or ss i s → x ≡ take n a → x' ≡ drop n a → more ≡ made ++ there j o (lists s) x
    → all ≡ made ++ there_all j o n (map lists (drop i ss)) a
    → all ≡ more ++ there_all j o n (map lists (drop (i + 1) ss)) x'
there_more j o n ss i s a x x' all made more lt is ex ex' em h =
    h ∙ (ap (λ xs. made ++ there_all j o n xs a) (next_lists ss i s lt)
    ∙ (ap (λ s. made ++ (there j o (lists s) (take n a) ++ there_all j o n (map lists (drop (i + 1) ss)) (drop n a))) (sym is)
    ∙ (sym (append_assoc made (there j o (lists s) (take n a)) (there_all j o n (map lists (drop (i + 1) ss)) (drop n a)))
    ∙ rw (em, ex, ex') refl)))

pub back_more : (j : Party) (o : List ℕ) (n : ℕ) (ss : List (Three (Vec ℕ Global))) (i : ℕ) (s : Three (Vec ℕ Global)) (b x x' all made more : List ℕ)
    → i < length ss → s ≡ get_or ss i s → x ≡ take n b → x' ≡ drop n b → more ≡ made ++ back j o (lists s) x
    → all ≡ made ++ back_all j o n (map lists (drop i ss)) b
    → all ≡ more ++ back_all j o n (map lists (drop (i + 1) ss)) x'
back_more j o n ss i s b x x' all made more lt is ex ex' em h =
    h ∙ (ap (λ xs. made ++ back_all j o n xs b) (next_lists ss i s lt)
    ∙ (ap (λ s. made ++ (back j o (lists s) (take n b) ++ back_all j o n (map lists (drop (i + 1) ss)) (drop n b))) (sym is)
    ∙ (sym (append_assoc made (back j o (lists s) (take n b)) (back_all j o n (map lists (drop (i + 1) ss)) (drop n b)))
    ∙ rw (em, ex, ex') refl)))

-- the three lists of a new register
pub reshared_is : (j : Party) (o : List ℕ) (s : Shares) (a b sum : List ℕ) → sum ≡ xors (there j o s a) (back j o s b)
    → put (before j) a (put (next j) b (put j sum nothing)) ≡ reshared j o s a b
reshared_is First o s a b sum e = ap (λ x. put Third a (put Second b (put First x nothing))) e
reshared_is Second o s a b sum e = ap (λ x. put First a (put Third b (put Second x nothing))) e
reshared_is Third o s a b sum e = ap (λ x. put Second a (put First b (put Third x nothing))) e

pub one_more : (ss new : List (Three (Vec ℕ Global))) (x : Three (Vec ℕ Global)) (y : Shares) → new ≡ ss ++ x ∷ [] → lists x ≡ y → map lists new ≡ map lists ss ++ y ∷ []
one_more ss new x y e f = ap (map lists) e ∙ (map-append lists ss (x ∷ []) ∙ ap (λ s. map lists ss ++ s ∷ []) f)

-- behind the last one nothing is left
pub shares_end : (j : Party) (o : List ℕ) (n : ℕ) (ss : List (Three (Vec ℕ Global))) (i : ℕ) (a b : List ℕ) → length ss ≤ i → reshared_all j o n (map lists (drop i ss)) a b ≡ []
shares_end j o n ss i a b h = ap (λ xs. reshared_all j o n (map lists xs) a b) (drop_all i ss h)

pub there_end : (j : Party) (o : List ℕ) (n : ℕ) (ss : List (Three (Vec ℕ Global))) (i : ℕ) (a : List ℕ) → length ss ≤ i → there_all j o n (map lists (drop i ss)) a ≡ []
there_end j o n ss i a h = ap (λ xs. there_all j o n (map lists xs) a) (drop_all i ss h)

pub back_end : (j : Party) (o : List ℕ) (n : ℕ) (ss : List (Three (Vec ℕ Global))) (i : ℕ) (b : List ℕ) → length ss ≤ i → back_all j o n (map lists (drop i ss)) b ≡ []
back_end j o n ss i b h = ap (λ xs. back_all j o n (map lists xs) b) (drop_all i ss h)
