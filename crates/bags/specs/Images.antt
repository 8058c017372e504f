-- Bags of what is made of rows that pass a test, by a function that looks at their images alone.
use Rattle.std.specs.Prelude.{◌≡◌, ℕ, Bool, true, List, map}
use Rattle.std.specs.List.{All, flat_map}
use Rattle.bags.specs.Bag.{SameBag}
use Rattle.bags.specs.Words.{SameWords}

-- where f gives the same for rows that pass with one image under h, the bag of the images decides: of rows, and of words
pub record BagsOfTestedImages : Type 0 where
  pub rows : (p : List ℕ → Bool) (h : List ℕ → List ℕ) (f : List ℕ → List (List ℕ)) (xs ys : List (List ℕ))
      → ((a b : List ℕ) → p a ≡ true → p b ≡ true → h a ≡ h b → SameBag (f a) (f b))
      → All (λ row. p row ≡ true) xs → All (λ row. p row ≡ true) ys → SameBag (map h xs) (map h ys) → SameBag (flat_map f xs) (flat_map f ys)
  pub words : (p : List ℕ → Bool) (h : List ℕ → List ℕ) (f : List ℕ → ℕ) (xs ys : List (List ℕ))
      → ((a b : List ℕ) → p a ≡ true → p b ≡ true → h a ≡ h b → f a ≡ f b)
      → All (λ row. p row ≡ true) xs → All (λ row. p row ≡ true) ys → SameBag (map h xs) (map h ys) → SameWords (map f xs) (map f ys)
