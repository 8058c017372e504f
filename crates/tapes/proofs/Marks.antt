-- Marking in place: each number that was looked at has set the highest bit at its own place.
use Rattle.std.proofs.Common.{◌≡◌, ◌≢◌, ℕ, ◌+◌, ◌%◌, ◌^◌, ◌<◌, ◌≤◌, List, length, get_or, set, refl, sym, ◌∙◌, ap, subst, ⊎_elim, arith}
use Rattle.std.proofs.lemmas.List.{get_or-set_same, get_or-set_other, length-set}
use Rattle.std.proofs.lemmas.Bool.{cases_eq}
use Rattle.tapes.specs.Order.{AllBelow, NoneTwice}

-- the list s, of which the first i numbers have marked their places, is now l
pub record Marks (s l : List ℕ) (i : ℕ) : Type 0 where
  pub long : length l ≡ length s
  pub kept : (k : ℕ) → k < length s → get_or l k 0 % 2 ^ 31 ≡ get_or s k 0
  pub seen : (j : ℕ) → j < i → 2 ^ 31 ≤ get_or l (get_or s j 0) 0
  pub only : (k : ℕ) → k < length s → 2 ^ 31 ≤ get_or l k 0 → (j : ℕ) × (j < i) × (get_or s j 0 ≡ k)
  pub apart : (j k : ℕ) → j < i → k < i → get_or s j 0 ≡ get_or s k 0 → j ≡ k

pub marks_none : (s : List ℕ) → AllBelow s → length s ≤ 2 ^ 31 → Marks s s 0
marks_none s below short = record {
  long = refl;
  kept = λ k h. let b : get_or s k 0 < length s = below k h in omega arith;
  seen = λ j h. absurd (omega arith);
  only = λ k h m. absurd (let b : get_or s k 0 < length s = below k h in omega arith);
  apart = λ j k h g e. absurd (omega arith);
}

-- a place that is not marked yet gets its mark
pub marks_more : (s l : List ℕ) (i p : ℕ) → Marks s l i → i < length s → p ≡ get_or s i 0 → p < length s → get_or l p 0 < 2 ^ 31
    → Marks s (set l p (get_or l p 0 + 2 ^ 31)) (i + 1)
marks_more s l i p m h e within free =
    let inside : p < length l = omega (arith, m.long) in
    let here : get_or (set l p (get_or l p 0 + 2 ^ 31)) p 0 ≡ get_or l p 0 + 2 ^ 31 = get_or-set_same l p (get_or l p 0 + 2 ^ 31) 0 inside in
    let there : (k : ℕ) → k ≢ p → get_or (set l p (get_or l p 0 + 2 ^ 31)) k 0 ≡ get_or l k 0 = λ k n. get_or-set_other l p k (get_or l p 0 + 2 ^ 31) 0 n in
    let new : (j : ℕ) → j < i → get_or s j 0 ≢ p = λ j b q. absurd (let r : 2 ^ 31 ≤ get_or l (get_or s j 0) 0 = m.seen j b in let t : get_or l (get_or s j 0) 0 ≡ get_or l p 0 = ap (λ n. get_or l n 0) q in omega arith) in
    record {
      long = length-set l p (get_or l p 0 + 2 ^ 31) ∙ m.long;
      kept = λ k b.
          ⊎_elim
          (λ same. subst (λ (n : ℕ). get_or (set l p (get_or l p 0 + 2 ^ 31)) n 0 % 2 ^ 31 ≡ get_or s n 0) (sym same)
          (let old : get_or l p 0 % 2 ^ 31 ≡ get_or s p 0 = m.kept p within in omega arith))
          (λ other. rw (there k other) (m.kept k b))
          (cases_eq k p);
      seen = λ j b.
          ⊎_elim
          (λ last. subst (λ (n : ℕ). 2 ^ 31 ≤ get_or (set l p (get_or l p 0 + 2 ^ 31)) n 0) (e ∙ ap (λ n. get_or s n 0) (sym last)) (omega arith))
          (λ early. let b' : j < i = omega arith in rw (there (get_or s j 0) (new j b')) (m.seen j b'))
          (cases_eq j i);
      only = λ k b marked.
          ⊎_elim
          (λ same. (i, omega arith, sym e ∙ sym same))
          (λ other. let old = m.only k b (rw (there k other) at marked) in (old.0, omega (arith, old.1), old.2))
          (cases_eq k p);
      apart = λ j k b c q.
          ⊎_elim
          (λ j-last.
          ⊎_elim
          (λ k-last. j-last ∙ sym k-last)
          (λ k-early. absurd (new k (omega arith) (sym q ∙ ap (λ n. get_or s n 0) j-last ∙ sym e)))
          (cases_eq k i))
          (λ j-early.
          ⊎_elim
          (λ k-last. absurd (new j (omega arith) (q ∙ ap (λ n. get_or s n 0) k-last ∙ sym e)))
          (λ k-early. m.apart j k (omega arith) (omega arith) q)
          (cases_eq k i))
          (cases_eq j i);
    }

-- a place that is marked already belongs to an earlier number too
pub marked_twice : (s l : List ℕ) (i p : ℕ) → Marks s l i → i < length s → p ≡ get_or s i 0 → p < length s → 2 ^ 31 ≤ get_or l p 0 → NoneTwice s → ⊥
marked_twice s l i p m h e within marked none =
    let old = m.only p within marked in
    let same : old.0 ≡ i = none old.0 i (omega (arith, old.1)) h (old.2 ∙ e) in
    omega (arith, old.1)
