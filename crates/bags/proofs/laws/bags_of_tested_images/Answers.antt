use Rattle.std.proofs.Common.{◌≡◌, true, List, [], ◌∷◌, sym, ap}
use Rattle.std.specs.List.{flat_map}
use Rattle.std.specs.Prelude.{map}
use Rattle.std.proofs.lemmas.List.{append-nil, map-append}
use Rattle.std.proofs.lemmas.List.Concat.{flat_map-append}
use Rattle.bags.proofs.Bags.{SameBag-same, SameBag-trans}
use Rattle.bags.proofs.Images.{SameBag-through_image}
use Rattle.bags.proofs.Rows.{row_test}
use Rattle.bags.proofs.laws.bags_of_tested_images.Goals as goal

pub returns : goal.returns
returns c = record {
  rows = λ p h f xs ys each.
      SameBag-through_image row_test h (λ row. p row ≡ true) (flat_map f) (flat_map-append f)
      (λ a b q r e. SameBag-trans (SameBag-same (append-nil (f a))) (SameBag-trans (each a b q r e) (SameBag-same (sym (append-nil (f b))))));
  words = λ p h f xs ys each. SameBag-through_image row_test h (λ row. p row ≡ true) (map f) (map-append f) (λ a b q r e. SameBag-same (ap (λ x. x ∷ []) (each a b q r e)));
}
