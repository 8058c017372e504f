-- The word of a text as a sum over its bytes, and the order of such sums.
use Rattle.std.proofs.Common.{◌≡◌, ℕ, zero, suc, ◌+◌, ◌-◌, ◌*◌, ◌^◌, ◌<◌, ◌≤◌, inl, inr, true, List, [], ◌∷◌, ◌++◌, length, replicate, get_or, Ordering, Less, Equal, Greater, nat_cmp, refl, sym, ap, ◌∙◌, arith}
use Rattle.std.proofs.Math.Nat.{mul-le-mul_right, suc-mul, pow-suc}
use Rattle.std.specs.Cmp.{nat_cmp_is}
use Rattle.std.specs.Ordering.{ordering_then}
use Rattle.std.proofs.lemmas.Bool.{cases_order}
use Rattle.std.proofs.lemmas.List.{length-append, length-replicate}
use Rattle.std.specs.Cmp.Lexicographic.{slice_cmp}
use Rattle.std.specs.List.{list_all, slice_index}
use Rattle.std.proofs.lemmas.Grind.{common_steps}
use Rattle.words.specs.Texts.{is_text_byte, packed}

-- what the bytes from place i on are worth, as the high ones of n
abbrev pub worth : ℕ → ℕ → List ℕ → ℕ
worth zero i bytes = 0
worth (suc n) i bytes = slice_index bytes i * 256 ^ n + worth n (suc i) bytes

pub zeros_are_nothing : (bytes : List ℕ) (k i : ℕ) → get_or (bytes ++ replicate k 0) i 0 ≡ get_or bytes i 0
zeros_are_nothing [] zero i = refl
zeros_are_nothing [] (suc k) zero = refl
zeros_are_nothing [] (suc k) (suc i) = zeros_are_nothing [] k i
zeros_are_nothing (x ∷ xs) k zero = refl
zeros_are_nothing (x ∷ xs) k (suc i) = zeros_are_nothing xs k i

pub packed_is : (bytes : List ℕ) → packed bytes ≡ worth 8 0 bytes
unfolding packed
packed_is bytes = let at = zeros_are_nothing bytes (8 - length bytes) in
    rw (at 0, at 1, at 2, at 3, at 4, at 5, at 6, at 7) (omega arith)

-- each byte of a text is one of these
pub text_byte_at : (bytes : List ℕ) (i : ℕ) → list_all is_text_byte bytes ≡ true → get_or bytes i 0 ≤ 126
text_byte_at [] i all = omega arith
text_byte_at (x ∷ xs) zero all = grind (arith, common_steps)
text_byte_at (x ∷ xs) (suc i) all =
    let rest = text_byte_at xs i in
    grind (arith, common_steps, rest)

-- with zeros behind it, a text has 8 bytes
pub padded_byte_fits : (bytes : List ℕ) (k i : ℕ) → list_all is_text_byte bytes ≡ true → get_or (bytes ++ replicate k 0) i 0 < 256
padded_byte_fits bytes k i all =
    let read = zeros_are_nothing bytes k i in
    let byte = text_byte_at bytes i all in
    omega arith

pub padded_is_whole : (bytes : List ℕ) → length bytes ≤ 8 → length (bytes ++ replicate (8 - length bytes) 0) ≡ 8
padded_is_whole bytes fits =
    let parts = length-append bytes (replicate (8 - length bytes) 0) in
    let zeros = length-replicate {A = ℕ} (8 - length bytes) 0 in
    omega arith

pub worth_below : (n i : ℕ) (bytes : List ℕ) → list_all is_text_byte bytes ≡ true → worth n i bytes < 256 ^ n
worth_below zero i bytes all = omega arith
worth_below (suc n) i bytes all =
    let rest = worth_below n (suc i) bytes all in
    let first = mul-le-mul_right (256 ^ n) (text_byte_at bytes i all) in
    let power = pow-suc 256 n in
    omega arith

worth_behind : (n i x : ℕ) (xs : List ℕ) → worth n (suc i) (x ∷ xs) ≡ worth n i xs
worth_behind zero i x xs = refl
worth_behind (suc n) i x xs = ap (λ w. get_or xs i 0 * 256 ^ n + w) (worth_behind n (suc i) x xs)

worth_none : (n i : ℕ) → worth n i [] ≡ 0
worth_none zero i = refl
worth_none (suc n) i = let rest = worth_none n (suc i) in omega arith

-- a greater first byte outweighs what follows
outweighs : (x y p v w : ℕ) → x < y → v < p → x * p + v < y * p + w
outweighs x y p v w less low =
    let first = mul-le-mul_right p less in
    let one = suc-mul x p in
    omega arith

shifted : (k v w : ℕ) → nat_cmp v w ≡ nat_cmp (k + v) (k + w)
shifted k v w = elim (cases_order v w) [
  | inl same ↦ sym (nat_cmp_is v w Equal same) ∙ nat_cmp_is (k + v) (k + w) Equal (omega arith)
  | inr (inl less) ↦ sym (nat_cmp_is v w Less less) ∙ nat_cmp_is (k + v) (k + w) Less (omega arith)
  | inr (inr more) ↦ sym (nat_cmp_is v w Greater more) ∙ nat_cmp_is (k + v) (k + w) Greater (omega arith)
]

-- a byte that differs decides, and equal ones leave it to the rest
leads : (x y p v w : ℕ) (r : Ordering) → v < p → w < p → r ≡ nat_cmp v w → ordering_then (nat_cmp x y) r ≡ nat_cmp (x * p + v) (y * p + w)
leads x y p v w r low high is = elim (cases_order x y) [
  | inl same ↦
      let first = sym (nat_cmp_is x y Equal same) in
      rw first (is ∙ shifted (x * p) v w ∙ ap (λ z. nat_cmp (x * p + v) (z * p + w)) same)
  | inr (inl less) ↦
      let first = sym (nat_cmp_is x y Less less) in
      let whole = nat_cmp_is (x * p + v) (y * p + w) Less (outweighs x y p v w less low) in
      rw first whole
  | inr (inr more) ↦
      let first = sym (nat_cmp_is x y Greater more) in
      let whole = nat_cmp_is (x * p + v) (y * p + w) Greater (outweighs y x p w v more high) in
      rw first whole
]

text_is_more : (n x : ℕ) (xs : List ℕ) → list_all is_text_byte (x ∷ xs) ≡ true → worth (suc n) 0 [] < worth (suc n) 0 (x ∷ xs)
text_is_more n x xs all =
    let none = worth_none (suc n) 0 in
    let first : 1 ≤ x = grind (arith, common_steps) in
    let some = mul-le-mul_right (256 ^ n) first in
    let power = worth_below n 1 (x ∷ xs) all in
    omega arith

all_behind : (x : ℕ) (xs : List ℕ) → list_all is_text_byte (x ∷ xs) ≡ true → list_all is_text_byte xs ≡ true
all_behind x xs all = grind (arith, common_steps)

-- texts are ordered as the sums
pub ordered_as_worth : (n : ℕ) (a b : List ℕ) → length a ≤ n → length b ≤ n → list_all is_text_byte a ≡ true → list_all is_text_byte b ≡ true
    → slice_cmp nat_cmp a b ≡ nat_cmp (worth n 0 a) (worth n 0 b)
ordered_as_worth n [] [] fits fits' all all' = nat_cmp_is (worth n 0 []) (worth n 0 []) Equal refl
ordered_as_worth zero [] (y ∷ ys) fits fits' all all' = absurd (omega arith)
ordered_as_worth zero (x ∷ xs) b fits fits' all all' = absurd (omega arith)
ordered_as_worth (suc n) [] (y ∷ ys) fits fits' all all' =
    nat_cmp_is (worth (suc n) 0 []) (worth (suc n) 0 (y ∷ ys)) Less (text_is_more n y ys all')
ordered_as_worth (suc n) (x ∷ xs) [] fits fits' all all' =
    nat_cmp_is (worth (suc n) 0 (x ∷ xs)) (worth (suc n) 0 []) Greater (text_is_more n x xs all)
ordered_as_worth (suc n) (x ∷ xs) (y ∷ ys) fits fits' all all' =
    let below = worth_below n 1 (x ∷ xs) all in
    let below' = worth_below n 1 (y ∷ ys) all' in
    let rest = ordered_as_worth n xs ys (omega arith) (omega arith) (all_behind x xs all) (all_behind y ys all') in
    let behind = ap (λ v. nat_cmp v (worth n 0 ys)) (sym (worth_behind n 0 x xs)) ∙ ap (nat_cmp (worth n 1 (x ∷ xs))) (sym (worth_behind n 0 y ys)) in
    leads x y (256 ^ n) (worth n 1 (x ∷ xs)) (worth n 1 (y ∷ ys)) (slice_cmp nat_cmp xs ys) below below' (rest ∙ behind)
