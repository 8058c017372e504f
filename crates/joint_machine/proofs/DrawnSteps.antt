-- What the steps read of the three tapes together.
use Rattle.std.proofs.Common.{◌≡◌, ℕ, ◌*◌, List, [], ◌∷◌, ◌++◌, length, sym, subst}
use Rattle.lanes.specs.declared.party.Party.{Party}
use Rattle.lanes.specs.declared.party.Party.TheVariants.{First, Second, Third}
use Rattle.lanes.specs.Party.{next, before}
use Rattle.lanes.specs.Three.{at}
use Rattle.tapes.specs.declared.draw.Need.{Need}
use Rattle.tapes.specs.declared.draw.Need.TheVariants.{OrderOf}
use Rattle.step_lists.specs.Draws.{ThreeTapes}
use Rattle.joint_machine.specs.Left.{Takes, IsRevealDraw, IsSteerDraw}
use Rattle.joint_machine.specs.Steps.{PhaseDraw, IsDrawnFor}
use Rattle.joint_machine.proofs.Drawing.{words, same_three}

abbrev pub first_needs : ℕ → ℕ → List Need
first_needs n w = OrderOf n ∷ ((words w ++ []) ++ words w)

abbrev pub second_needs : ℕ → ℕ → List Need
second_needs n w = words w ++ (OrderOf n ∷ (words w ++ []))

abbrev pub third_needs : ℕ → ℕ → List Need
third_needs n w = (words w ++ []) ++ (words w ++ (OrderOf n ∷ []))

pub reveal_drawn : (m n w : ℕ) (x y : ThreeTapes) (one two three : PhaseDraw) → w ≡ m * n
    → IsDrawnFor n w one → IsDrawnFor n w two → IsDrawnFor n w three
    → Takes (first_needs n w) x.first (two.mask ++ three.other) one.order y.first
    → Takes (second_needs n w) x.second (one.other ++ three.mask) two.order y.second
    → Takes (third_needs n w) x.third (one.mask ++ two.other) three.order y.third
    → IsRevealDraw m n x one two three y
reveal_drawn m n w x y one two three e l1 l2 l3 t1 t2 t3 =
    let a = subst (λ w. Takes (first_needs n w) x.first (two.mask ++ three.other) one.order y.first) e t1 in
    let b = subst (λ w. Takes (second_needs n w) x.second (one.other ++ three.mask) two.order y.second) e t2 in
    let d = subst (λ w. Takes (third_needs n w) x.third (one.mask ++ two.other) three.order y.third) e t3 in
    record {
      one_long = subst (λ w. IsDrawnFor n w one) e l1;
      two_long = subst (λ w. IsDrawnFor n w two) e l2;
      three_long = subst (λ w. IsDrawnFor n w three) e l3;
      holds =
          record {
            order_one = sym a.order;
            order_two = sym b.order;
            order_three = sym d.order;
            first = a.words;
            second = b.words;
            third = d.words;
          };
      left = same_three _ _ (sym a.left) (sym b.left) (sym d.left);
    }

pub steer_drawn : (p : Party) (m n w : ℕ) (x y : ThreeTapes) (one : PhaseDraw) (mask other : List ℕ) → w ≡ m * n
    → IsDrawnFor n w one → length mask ≡ w → length other ≡ w
    → Takes ((words w ++ []) ++ []) (at p x) one.mask [] (at p y)
    → Takes (OrderOf n ∷ words w) (at (next p) x) other one.order (at (next p) y)
    → Takes (words w ++ (words w ++ [])) (at (before p) x) (one.other ++ mask) [] (at (before p) y)
    → IsSteerDraw p m n x one mask other y
steer_drawn p m n w x y one mask other e l1 l2 l3 t1 t2 t3 =
    of p (subst (λ w. IsDrawnFor n w one) e l1) (subst (λ w. length mask ≡ w) e l2) (subst (λ w. length other ≡ w) e l3)
    (subst (λ w. Takes ((words w ++ []) ++ []) (at p x) one.mask [] (at p y)) e t1)
    (subst (λ w. Takes (OrderOf n ∷ words w) (at (next p) x) other one.order (at (next p) y)) e t2)
    (subst (λ w. Takes (words w ++ (words w ++ [])) (at (before p) x) (one.other ++ mask) [] (at (before p) y)) e t3) where
      of : (p : Party) → IsDrawnFor n (m * n) one → length mask ≡ m * n → length other ≡ m * n
          → Takes ((words (m * n) ++ []) ++ []) (at p x) one.mask [] (at p y)
          → Takes (OrderOf n ∷ words (m * n)) (at (next p) x) other one.order (at (next p) y)
          → Takes (words (m * n) ++ (words (m * n) ++ [])) (at (before p) x) (one.other ++ mask) [] (at (before p) y)
          → IsSteerDraw p m n x one mask other y
      of First l1 l2 l3 a b d = record {
        one_long = l1;
        mask_long = l2;
        other_long = l3;
        holds = record { order = sym b.order; own = a.words; earlier = d.words; following = b.words };
        left = same_three _ _ (sym a.left) (sym b.left) (sym d.left);
      }
      of Second l1 l2 l3 a b d = record {
        one_long = l1;
        mask_long = l2;
        other_long = l3;
        holds = record { order = sym b.order; own = a.words; earlier = d.words; following = b.words };
        left = same_three _ _ (sym d.left) (sym a.left) (sym b.left);
      }
      of Third l1 l2 l3 a b d = record {
        one_long = l1;
        mask_long = l2;
        other_long = l3;
        holds = record { order = sym b.order; own = a.words; earlier = d.words; following = b.words };
        left = same_three _ _ (sym b.left) (sym d.left) (sym a.left);
      }
