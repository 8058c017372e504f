-- The steps And and Share.
use Rattle.std.proofs.Common.{◌≡◌, ℕ, List, [], ◌++◌, length, replicate, sym, ◌∙◌, arith}
use Rattle.std.proofs.lemmas.List.{append-nil}
use Rattle.lanes.specs.declared.party.Party.{Party}
use Rattle.lanes.specs.declared.party.Party.TheVariants.{First, Second, Third}
use Rattle.lanes.specs.Party.{next}
use Rattle.lanes.specs.Three.{at, opened, each}
use Rattle.lanes.specs.Lanes.{xors, ands, crosses}
use Rattle.lanes.specs.SharedAnd.{and_shares, AreMasks}
use Rattle.tapes.specs.declared.draw.Need.TheVariants.{Word as NeedsWord}
use Rattle.tapes.specs.Needs.{FitsNeeds}
use Rattle.step_lists.specs.Draws.{ThreeTapes, parties, joined, needs_words, words_in}
use Rattle.step_lists.specs.Phases.{Shares}
use Rattle.step_lists.specs.Machine.{dealt}
use Rattle.joint_machine.specs.Opens.{IsLong}
use Rattle.joint_machine.proofs.Facts.{Facts}
use Rattle.joint_machine.proofs.Drawn.{words_needed, drawn_words, needed_words}
use Rattle.joint_machine.proofs.Masking.{given}

pub opened_long : Facts → (n : ℕ) (s : Shares) → IsLong n s → length (opened s) ≡ n
opened_long facts n s h =
    omega (arith, facts.lengths.xor s.first s.second, facts.lengths.xor (xors s.first s.second) s.third, h.each First, h.each Second, h.each Third)

-- ---- And

pub and_draws : (n : ℕ) (ds : ThreeTapes) → ((p : Party) → FitsNeeds (at p (parties (λ p. replicate n NeedsWord))) (at p ds)) → IsLong n (each words_in ds)
and_draws n ds h = record { each = long } where
  long : (p : Party) → length (at p (each words_in ds)) ≡ n
  long First = drawn_words (replicate n NeedsWord) ds.first (h First) ∙ needed_words n
  long Second = drawn_words (replicate n NeedsWord) ds.second (h Second) ∙ needed_words n
  long Third = drawn_words (replicate n NeedsWord) ds.third (h Third) ∙ needed_words n

pub and_opens : Facts → (n : ℕ) (s t masks : Shares) → IsLong n s → IsLong n t → IsLong n masks → opened (and_shares s t masks) ≡ ands (opened s) (opened t)
and_opens facts n s t masks hs ht hm = facts.masked s t masks are where
  are : AreMasks s t masks
  are p = omega (arith, facts.lengths.and (opened s) (opened t), opened_long facts n s hs, opened_long facts n t ht, hm.each p)

one_share : Facts → (n : ℕ) (x x' y y' a b : List ℕ) → length x ≡ n → length x' ≡ n → length y ≡ n → length y' ≡ n → length a ≡ n → length b ≡ n
    → length (xors (xors (crosses x x' y y') a) b) ≡ n
one_share facts n x x' y y' a b hx hx' hy hy' ha hb =
    let c = facts.lengths.cross x x' y y' (hx' ∙ sym hx) (hy ∙ sym hx) (hy' ∙ sym hx) in
    omega (arith, facts.lengths.xor (crosses x x' y y') a, facts.lengths.xor (xors (crosses x x' y y') a) b)

pub and_long : Facts → (n : ℕ) (s t masks : Shares) → IsLong n s → IsLong n t → IsLong n masks → IsLong n (and_shares s t masks)
and_long facts n s t masks hs ht hm = record { each = long } where
  long : (p : Party) → length (at p (and_shares s t masks)) ≡ n
  long First =
      one_share facts n s.first s.second t.first t.second masks.first masks.second (hs.each First) (hs.each Second) (ht.each First) (ht.each Second) (hm.each First) (hm.each Second)
  long Second =
      one_share facts n s.second s.third t.second t.third masks.second masks.third (hs.each Second) (hs.each Third) (ht.each Second) (ht.each Third) (hm.each Second) (hm.each Third)
  long Third =
      one_share facts n s.third s.first t.third t.first masks.third masks.first (hs.each Third) (hs.each First) (ht.each Third) (ht.each First) (hm.each Third) (hm.each First)

-- ---- Share

pub record ShareDraws (p : Party) (n : ℕ) (ds : ThreeTapes) : Type 0 where
  pub own : length (at p (each words_in ds)) ≡ n
  pub following : length (at (next p) (each words_in ds)) ≡ n

own_words : (n : ℕ) → words_needed (replicate n NeedsWord ++ []) ≡ n
own_words n = simp (append-nil, needed_words)

pub share_draws : (p : Party) (n : ℕ) (ds : ThreeTapes) → ((q : Party) → FitsNeeds (at q (joined (needs_words p n) (needs_words (next p) n))) (at q ds)) → ShareDraws p n ds
share_draws First n ds h = record {
  own = drawn_words (replicate n NeedsWord ++ []) ds.first (h First) ∙ own_words n;
  following = drawn_words (replicate n NeedsWord) ds.second (h Second) ∙ needed_words n;
}
share_draws Second n ds h = record {
  own = drawn_words (replicate n NeedsWord ++ []) ds.second (h Second) ∙ own_words n;
  following = drawn_words (replicate n NeedsWord) ds.third (h Third) ∙ needed_words n;
}
share_draws Third n ds h = record {
  own = drawn_words (replicate n NeedsWord ++ []) ds.third (h Third) ∙ own_words n;
  following = drawn_words (replicate n NeedsWord) ds.first (h First) ∙ needed_words n;
}

given_opens : Facts → (n : ℕ) (words a b : List ℕ) → length words ≡ n → length a ≡ n → length b ≡ n → xors (xors (xors (xors words a) b) a) b ≡ words
given_opens facts n words a b h ha hb = given facts words a b (omega arith) (omega arith)

pub dealt_opens : Facts → (p : Party) (n : ℕ) (words : List ℕ) (r : Shares) → length words ≡ n → length (at p r) ≡ n → length (at (next p) r) ≡ n
    → opened (dealt p words r) ≡ words
dealt_opens facts First n words r h i j = facts.round Third (dealt First words r) ∙ given_opens facts n words r.first r.second h i j
dealt_opens facts Second n words r h i j = facts.round First (dealt Second words r) ∙ given_opens facts n words r.second r.third h i j
dealt_opens facts Third n words r h i j = facts.round Second (dealt Third words r) ∙ given_opens facts n words r.third r.first h i j

given_long : Facts → (n : ℕ) (words a b : List ℕ) → length words ≡ n → length a ≡ n → length b ≡ n → length (xors (xors words a) b) ≡ n
given_long facts n words a b h ha hb = omega (arith, facts.lengths.xor words a, facts.lengths.xor (xors words a) b)

pub dealt_long : Facts → (p : Party) (n : ℕ) (words : List ℕ) (r : Shares) → length words ≡ n → length (at p r) ≡ n → length (at (next p) r) ≡ n
    → IsLong n (dealt p words r)
dealt_long facts p n words r h i j = record { each = λ q. long p q h i j } where
  long : (p q : Party) → length words ≡ n → length (at p r) ≡ n → length (at (next p) r) ≡ n → length (at q (dealt p words r)) ≡ n
  long First First h i j = i
  long First Second h i j = j
  long First Third h i j = given_long facts n words r.first r.second h i j
  long Second First h i j = given_long facts n words r.second r.third h i j
  long Second Second h i j = i
  long Second Third h i j = j
  long Third First h i j = j
  long Third Second h i j = given_long facts n words r.third r.first h i j
  long Third Third h i j = i
