use Rattle.bags.proofs.Bags.{SameBag-append, SameBag-append_comm, SameBag-append_cancel}
use Rattle.bags.proofs.laws.bags_of_append.Goals as goal

pub returns : goal.returns
returns c = record { both = λ xs ys us vs. SameBag-append; swapped = SameBag-append_comm; cancelled = λ xs ys zs. SameBag-append_cancel xs }
