-- The unseen order of a Reveal in the second world.
use Rattle.std.proofs.Common.{◌≡◌, ℕ, true, List, [], ◌∷◌, Result, Ok, Err, IfOk, length, refl, sym, ap, ◌∙◌}
use Rattle.std.specs.Prelude.{if◌then◌else◌}
use Rattle.std.proofs.lemmas.List.FromFn.{length-range_with_len}
use Rattle.bags.specs.Bag.{SameBag}
use Rattle.lanes.specs.declared.party.Party.{Party}
use Rattle.lanes.specs.declared.party.Party.TheVariants.{First, Second, Third}
use Rattle.lanes.specs.Party.{before}
use Rattle.lanes.specs.Three.{at}
use Rattle.tapes.specs.declared.draw.Draw.TheVariants.{Order}
use Rattle.step_lists.specs.Draws.{ThreeTapes, order_in}
use Rattle.step_lists.specs.Part.{is_order}
use Rattle.step_lists.specs.Machine.{Machine}
use Rattle.step_lists.specs.Seen.{same_party}
use Rattle.step_lists.specs.Twin.{aligning, begin_both, changed, earlier_orders, open_rows, reveal_draws, reveal_order, shifted, third_both, twin_reveal, with_order}
use Rattle.twin.specs.Revealed.{OrdersOf}
use Rattle.twin.proofs.Facts.{Facts}
use Rattle.twin.proofs.OrdersAligned.{aligning_aligns}
use Rattle.twin.proofs.OrdersTested.{order_passes}

pub ok_map : {A E : Type 0} (P Q : A → Type 0) (r : Result A E) → ((a : A) → P a → Q a) → IfOk r P → IfOk r Q
ok_map P Q (Ok a) f h = f a h
ok_map P Q (Err e) f h = tt

-- three tapes of an order each
abbrev pub only_orders : List ℕ → List ℕ → List ℕ → ThreeTapes
only_orders p q r = record { first = Order p ∷ []; second = Order q ∷ []; third = Order r ∷ [] }

pub orders_only : (p q r : List ℕ) → OrdersOf p q r (only_orders p q r)
orders_only p q r = record { one = refl; two = refl; three = refl }

pub order_long : (j : Party) (n : ℕ) (p q r : List ℕ) → length p ≡ n → length q ≡ n → length r ≡ n → length (order_in (at j (only_orders p q r))) ≡ n
order_long First n p q r e f g = e
order_long Second n p q r e f g = f
order_long Third n p q r e f g = g

pub earlier_long : Facts → (j : Party) (n : ℕ) (p q r : List ℕ) → length p ≡ n → length q ≡ n → length (earlier_orders j n (only_orders p q r)) ≡ n
earlier_long facts First n p q r e f = length-range_with_len 0 n
earlier_long facts Second n p q r e f = e
earlier_long facts Third n p q r e f = facts.lengths.pick q p ∙ f

-- where the rows are the same bag the order is shifted
pub order_is : Facts → (v : Party) (n : ℕ) (ds : ThreeTapes) (rows others : List (List ℕ)) (p a d : List ℕ) → SameBag rows others
    → p ≡ order_in (at (before v) ds) → a ≡ earlier_orders (before v) n ds → d ≡ aligning others rows → shifted p a d ≡ reveal_order v n ds rows others
order_is facts v n ds rows others p a d same e f g =
    let o = order_in (at (before v) ds) in
    let b = earlier_orders (before v) n ds in
    let k = aligning others rows in
    let passes : is_order k ≡ true = order_passes facts k (aligning_aligns facts others rows (facts.equivalence.back rows others same)).order in
    ap (λ x. shifted x a d) e ∙ (ap (λ x. shifted o x d) f ∙ (ap (shifted o b) g ∙ sym (ap (λ t. if t then shifted o b k else o) passes)))

pub drawn_long : (j : Party) (n : ℕ) (p q r : List ℕ) (ds : ThreeTapes) → OrdersOf p q r ds → length p ≡ n → length q ≡ n → length r ≡ n → length (order_in (at j ds)) ≡ n
drawn_long First n p q r ds h e f g = ap length (sym h.one) ∙ e
drawn_long Second n p q r ds h e f g = ap length (sym h.two) ∙ f
drawn_long Third n p q r ds h e f g = ap length (sym h.three) ∙ g

-- the changed draws are the twin's
pub reveal_is : (v q : Party) (n : ℕ) (moved shown : List ℕ) (x y : Machine) (ds : ThreeTapes) (order words : List ℕ)
    → order ≡ (if same_party q v then reveal_order v n ds (open_rows x n moved shown) (open_rows y n moved shown) else order_in (at (before v) ds))
    → words ≡ (third_both v ds (with_order v order ds) n (begin_both x y moved ds)).changes
    → changed order words (at (before v) ds) ≡ twin_reveal v q n moved shown x y ds
reveal_is v q n moved shown x y ds order words e f = ap (λ w. changed order w (at (before v) ds)) f ∙ ap (reveal_draws v n moved x y ds) e
