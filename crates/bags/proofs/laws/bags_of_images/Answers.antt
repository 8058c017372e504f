use Rattle.std.specs.Prelude.{⊤}
use Rattle.std.specs.List.{flat_map}
use Rattle.std.proofs.Common.{sym}
use Rattle.std.proofs.lemmas.List.{append-nil}
use Rattle.std.proofs.lemmas.List.Concat.{flat_map-append}
use Rattle.bags.proofs.Bags.{SameBag-same, SameBag-trans}
use Rattle.bags.proofs.Images.{SameBag-through_image}
use Rattle.bags.proofs.Rows.{row_test}
use Rattle.bags.proofs.laws.bags_of_images.Goals as goal

pub returns : goal.returns
returns c = λ h f xs ys each.
    SameBag-through_image row_test h (λ row. ⊤) (flat_map f) (flat_map-append f)
    (λ a b q r e. SameBag-trans (SameBag-same (append-nil (f a))) (SameBag-trans (each a b e) (SameBag-same (sym (append-nil (f b))))))
    (λ k d below. tt) (λ k d below. tt)
