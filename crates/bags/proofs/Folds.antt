-- A fold whose steps may change places gives the same for the same bag.
use Rattle.std.proofs.Common.{◌≡◌, Bool, List, [], ◌∷◌, ◌++◌, refl, sym, ◌∙◌, ap}
use Rattle.std.specs.List.{fold}
use Rattle.bags.specs.Bag.{SameBagBy}
use Rattle.bags.proofs.Bags.{IsEqualityTest, by_bag}

module _ {X B : Type 0} (f : B → X → B) (swaps : (b : B) (x y : X) → f (f b x) y ≡ f (f b y) x) where
  fold-middle : (b : B) (us : List X) (x : X) (vs : List X) → fold f b (us ++ x ∷ vs) ≡ fold f (f b x) (us ++ vs)
  fold-middle b [] x vs = refl
  fold-middle b (u ∷ us) x vs = fold-middle (f b u) us x vs ∙ ap (λ start. fold f start (us ++ vs)) (swaps b u x)

  pub fold_bag : {eq : X → X → Bool} → IsEqualityTest eq → (xs ys : List X) → SameBagBy eq xs ys → (b : B) → fold f b xs ≡ fold f b ys
  fold_bag test = by_bag test (λ xs ys. (b : B) → fold f b xs ≡ fold f b ys) (λ b. refl) step
    where
      step : (x : X) (xs us vs : List X) → ((b : B) → fold f b xs ≡ fold f b (us ++ vs)) → (b : B) → fold f b (x ∷ xs) ≡ fold f b (us ++ x ∷ vs)
      step x xs us vs h b = h (f b x) ∙ sym (fold-middle b us x vs)

-- an operation that is associative and commutative
pub fold_op_bag : {X : Type 0} (op : X → X → X) → ((x y z : X) → op (op x y) z ≡ op x (op y z)) → ((x y : X) → op x y ≡ op y x)
    → {eq : X → X → Bool} → IsEqualityTest eq → (xs ys : List X) → SameBagBy eq xs ys → (b : X) → fold op b xs ≡ fold op b ys
fold_op_bag op assoc comm test = fold_bag op (λ b x y. assoc b x y ∙ ap (op b) (comm x y) ∙ sym (assoc b y x)) test
