-- The steps And and Share: what the viewer receives is masked by a word that it doesn't see, which takes up what the
-- two worlds differ by.
use Rattle.std.proofs.Common.{◌≡◌, ℕ, true, false, List, [], ◌++◌, length, replicate, refl, sym, subst, ap, ◌∙◌, arith}
use Rattle.std.proofs.lemmas.List.{length-replicate, append-nil}
use Rattle.std.specs.List.{AllByRecursion}
use Rattle.lanes.specs.declared.party.Party.{Party}
use Rattle.lanes.specs.declared.party.Party.TheVariants.{First, Second, Third}
use Rattle.lanes.specs.declared.three.Three.{Three}
use Rattle.lanes.specs.Party.{next, before}
use Rattle.lanes.specs.Three.{at, put, each}
use Rattle.lanes.specs.Lanes.{xors, crosses}
use Rattle.lanes.specs.SharedAnd.{and_shares}
use Rattle.tapes.specs.declared.draw.Need.{Need}
use Rattle.tapes.specs.declared.draw.Need.TheVariants.{Word as NeedsWord}
use Rattle.tapes.specs.declared.draw.Draw.{Draw}
use Rattle.tapes.specs.Needs.{FitsNeeds}
use Rattle.step_lists.specs.Shapes.{HasLength}
use Rattle.step_lists.specs.Draws.{ThreeTapes, joined, needs_each, needs_words, words_in}
use Rattle.step_lists.specs.Seen.{same_party}
use Rattle.step_lists.specs.Phases.{Shares}
use Rattle.step_lists.specs.Machine.{and_words, to_both, given_share, dealt}
use Rattle.step_lists.specs.Twin.{changed, bare_and}
use Rattle.twin.proofs.Facts.{Facts}
use Rattle.twin.proofs.Same.{IsFull, Held, SameWords}
use Rattle.twin.proofs.Masks.{IsWord, absorbed, absorbed_first, changed_fits, changed_words, suits_words, all_words, all_appended, drawn_below, drawn_long}

-- ---- words that are drawn

-- words of so many, where words alone are drawn
pub drawn_full : Facts → (n : ℕ) (ns : List Need) (ds : List Draw) → FitsNeeds ns ds → AllByRecursion IsWord ns → length ns ≡ n → HasLength n (words_in ds)
drawn_full facts n ns ds h i e = record { long = drawn_long ns ds h i ∙ e; below = drawn_below facts ns ds h }

-- the draws changed, of so many words
pub record Change (n : ℕ) (ns : List Need) (cs : List ℕ) (ds : List Draw) : Type 0 where
  pub fits : FitsNeeds ns (changed [] cs ds)
  pub words : words_in (changed [] cs ds) ≡ xors (words_in ds) cs

pub change : Facts → (n : ℕ) (ns : List Need) (cs : List ℕ) (ds : List Draw) → FitsNeeds ns ds → AllByRecursion IsWord ns → length ns ≡ n → HasLength n cs → Change n ns cs ds
change facts n ns cs ds h i e c = record {
  fits = changed_fits facts [] cs ns ds h (suits_words [] ns i) c.below;
  words = changed_words [] cs ds (omega (arith, drawn_long ns ds h i, e, c.long));
}

pub xor_full : Facts → (n : ℕ) (a b : List ℕ) → HasLength n a → HasLength n b → HasLength n (xors a b)
xor_full facts n a b h i = record { long = omega (arith, facts.lengths.xor a b, h.long, i.long); below = facts.stay.xor a b h.below i.below }

cross_full : Facts → (n : ℕ) (a b c d : List ℕ) → HasLength n a → HasLength n b → HasLength n c → HasLength n d → HasLength n (crosses a b c d)
cross_full facts n a b c d ha hb hc hd = record {
  long = facts.lengths.cross a b c d (hb.long ∙ sym ha.long) (hc.long ∙ sym ha.long) (hd.long ∙ sym ha.long) ∙ ha.long;
  below = facts.stay.cross a b c d ha.below hb.below;
}

-- ---- And

pub each_words : (n : ℕ) (p : Party) → AllByRecursion IsWord (at p (needs_each n))
each_words n First = all_words n
each_words n Second = all_words n
each_words n Third = all_words n

pub each_long : (n : ℕ) (p : Party) → length (at p (needs_each n)) ≡ n
each_long n First = length-replicate n NeedsWord
each_long n Second = length-replicate n NeedsWord
each_long n Third = length-replicate n NeedsWord

pub at_each : (p : Party) (ds : ThreeTapes) → at p (each words_in ds) ≡ words_in (at p ds)
at_each First ds = refl
at_each Second ds = refl
at_each Third ds = refl

pub masks_full : Facts → (n : ℕ) (ds : ThreeTapes) → ((p : Party) → FitsNeeds (at p (needs_each n)) (at p ds)) → IsFull n (each words_in ds)
masks_full facts n ds h = record {
  each = λ p. subst (HasLength n) (sym (at_each p ds)) (drawn_full facts n (at p (needs_each n)) (at p ds) (h p) (each_words n p) (each_long n p));
}

one_share : Facts → (n : ℕ) (a b c d m r : List ℕ) → HasLength n a → HasLength n b → HasLength n c → HasLength n d → HasLength n m → HasLength n r
    → HasLength n (xors (xors (crosses a b c d) m) r)
one_share facts n a b c d m r ha hb hc hd hm hr =
    xor_full facts n (xors (crosses a b c d) m) r (xor_full facts n (crosses a b c d) m (cross_full facts n a b c d ha hb hc hd) hm) hr

pub and_full : Facts → (n : ℕ) (s t masks : Shares) → IsFull n s → IsFull n t → IsFull n masks → IsFull n (and_shares s t masks)
and_full facts n s t masks hs ht hm = record { each = each } where
  each : (p : Party) → HasLength n (at p (and_shares s t masks))
  each First =
      one_share facts n s.first s.second t.first t.second masks.first masks.second (hs.each First) (hs.each Second) (ht.each First) (ht.each Second) (hm.each First) (hm.each Second)
  each Second =
      one_share facts n s.second s.third t.second t.third masks.second masks.third (hs.each Second) (hs.each Third) (ht.each Second) (ht.each Third) (hm.each Second) (hm.each Third)
  each Third =
      one_share facts n s.third s.first t.third t.first masks.third masks.first (hs.each Third) (hs.each First) (ht.each Third) (ht.each First) (hm.each Third) (hm.each First)

pub bare_full : Facts → (v : Party) (n : ℕ) (s t : Shares) → IsFull n s → IsFull n t → HasLength n (bare_and v s t)
bare_full facts v n s t hs ht =
    cross_full facts n (at (next v) s) (at (before v) s) (at (next v) t) (at (before v) t) (hs.each (next v)) (hs.each (before v)) (ht.each (next v)) (ht.each (before v))

-- a share of the viewer, from what it holds
own_share : (a b c d m r a' b' c' d' : List ℕ) → a ≡ a' → b ≡ b' → c ≡ c' → d ≡ d' → xors (xors (crosses a b c d) m) r ≡ xors (xors (crosses a' b' c' d') m) r
own_share a b c d m r a' b' c' d' ea eb ec ed = cc

-- the masks of the second world
pub record ShiftedMasks (v : Party) (c : List ℕ) (r q : Shares) : Type 0 where
  pub own : at v q ≡ at v r
  pub following : at (next v) q ≡ at (next v) r
  pub unseen : at (before v) q ≡ xors (at (before v) r) c

pub and_held : Facts → (v : Party) (n : ℕ) (s t s' t' r q : Shares) → IsFull n s → IsFull n t → IsFull n s' → IsFull n t' → Held v s s' → Held v t t'
    → ShiftedMasks v (xors (bare_and v s t) (bare_and v s' t')) r q → Held v (and_shares s t r) (and_shares s' t' q)
and_held facts First n s t s' t' r q hs ht hs' ht' es et e = record {
  own =
      own_share s.first s.second t.first t.second r.first r.second s'.first s'.second t'.first t'.second es.own es.following et.own et.following
      ∙ (ap (λ m. xors (xors (crosses s'.first s'.second t'.first t'.second) m) r.second) (sym e.own)
      ∙ ap (λ m. xors (xors (crosses s'.first s'.second t'.first t'.second) q.first) m) (sym e.following));
  following =
      sym (absorbed facts n (bare_and First s t) (bare_and First s' t') r.second r.third (bare_full facts First n s t hs ht).long (bare_full facts First n s' t' hs' ht').long)
      ∙ (ap (λ m. xors (xors (bare_and First s' t') m) (xors r.third (xors (bare_and First s t) (bare_and First s' t')))) (sym e.following)
      ∙ ap (λ m. xors (xors (bare_and First s' t') q.second) m) (sym e.unseen));
}
and_held facts Second n s t s' t' r q hs ht hs' ht' es et e = record {
  own =
      own_share s.second s.third t.second t.third r.second r.third s'.second s'.third t'.second t'.third es.own es.following et.own et.following
      ∙ (ap (λ m. xors (xors (crosses s'.second s'.third t'.second t'.third) m) r.third) (sym e.own)
      ∙ ap (λ m. xors (xors (crosses s'.second s'.third t'.second t'.third) q.second) m) (sym e.following));
  following =
      sym (absorbed facts n (bare_and Second s t) (bare_and Second s' t') r.third r.first (bare_full facts Second n s t hs ht).long (bare_full facts Second n s' t' hs' ht').long)
      ∙ (ap (λ m. xors (xors (bare_and Second s' t') m) (xors r.first (xors (bare_and Second s t) (bare_and Second s' t')))) (sym e.following)
      ∙ ap (λ m. xors (xors (bare_and Second s' t') q.third) m) (sym e.unseen));
}
and_held facts Third n s t s' t' r q hs ht hs' ht' es et e = record {
  own =
      own_share s.third s.first t.third t.first r.third r.first s'.third s'.first t'.third t'.first es.own es.following et.own et.following
      ∙ (ap (λ m. xors (xors (crosses s'.third s'.first t'.third t'.first) m) r.first) (sym e.own)
      ∙ ap (λ m. xors (xors (crosses s'.third s'.first t'.third t'.first) q.third) m) (sym e.following));
  following =
      sym (absorbed facts n (bare_and Third s t) (bare_and Third s' t') r.first r.second (bare_full facts Third n s t hs ht).long (bare_full facts Third n s' t' hs' ht').long)
      ∙ (ap (λ m. xors (xors (bare_and Third s' t') m) (xors r.second (xors (bare_and Third s t) (bare_and Third s' t')))) (sym e.following)
      ∙ ap (λ m. xors (xors (bare_and Third s' t') q.first) m) (sym e.unseen));
}

-- the party after the viewer sends it its share, and the one before nothing
pub and_sent : (v : Party) (z w : Shares) → at (next v) z ≡ at (next v) w → SameWords v (and_words z) (and_words w)
and_sent First z w e = record { from_next = ap (λ x. x ++ []) e; from_before = refl }
and_sent Second z w e = record { from_next = e; from_before = refl }
and_sent Third z w e = record { from_next = ap (λ x. x ++ []) e; from_before = refl }

pub shifted_masks : (v : Party) (c : List ℕ) (ds : ThreeTapes) (d : List Draw) → words_in d ≡ xors (words_in (at (before v) ds)) c
    → ShiftedMasks v c (each words_in ds) (each words_in (put (before v) d ds))
shifted_masks First c ds d e = record { own = refl; following = refl; unseen = e }
shifted_masks Second c ds d e = record { own = refl; following = refl; unseen = e }
shifted_masks Third c ds d e = record { own = refl; following = refl; unseen = e }

-- ---- Share

-- what a Share needs of a tape: words alone, of the party's two tapes so many
pub share_words : (n : ℕ) (p q : Party) → AllByRecursion IsWord (at q (joined (needs_words p n) (needs_words (next p) n)))
share_words n First First = all_appended IsWord (replicate n NeedsWord) [] (all_words n) tt
share_words n First Second = all_words n
share_words n First Third = tt
share_words n Second First = tt
share_words n Second Second = all_appended IsWord (replicate n NeedsWord) [] (all_words n) tt
share_words n Second Third = all_words n
share_words n Third First = all_words n
share_words n Third Second = tt
share_words n Third Third = all_appended IsWord (replicate n NeedsWord) [] (all_words n) tt

pub own_long : (n : ℕ) (p : Party) → length (at p (joined (needs_words p n) (needs_words (next p) n))) ≡ n
own_long n First = ap length (append-nil (replicate n NeedsWord)) ∙ length-replicate n NeedsWord
own_long n Second = ap length (append-nil (replicate n NeedsWord)) ∙ length-replicate n NeedsWord
own_long n Third = ap length (append-nil (replicate n NeedsWord)) ∙ length-replicate n NeedsWord

pub next_long : (n : ℕ) (p : Party) → length (at (next p) (joined (needs_words p n) (needs_words (next p) n))) ≡ n
next_long n First = length-replicate n NeedsWord
next_long n Second = length-replicate n NeedsWord
next_long n Third = length-replicate n NeedsWord

-- the unseen tape of a Share by another party
pub unseen_long : (n : ℕ) (v p : Party) → same_party p v ≡ false → length (at (before v) (joined (needs_words p n) (needs_words (next p) n))) ≡ n
unseen_long n First First h = absurd (cc)
unseen_long n First Second h = next_long n Second
unseen_long n First Third h = own_long n Third
unseen_long n Second First h = own_long n First
unseen_long n Second Second h = absurd (cc)
unseen_long n Second Third h = next_long n Third
unseen_long n Third First h = next_long n First
unseen_long n Third Second h = own_long n Second
unseen_long n Third Third h = absurd (cc)

pub dealt_full : Facts → (p : Party) (n : ℕ) (words : List ℕ) (r : Shares) → HasLength n words → HasLength n (at p r) → HasLength n (at (next p) r) → IsFull n (dealt p words r)
dealt_full facts p n words r h i j = record { each = λ q. full p q h i j } where
  full : (p q : Party) → HasLength n words → HasLength n (at p r) → HasLength n (at (next p) r) → HasLength n (at q (dealt p words r))
  full First First h i j = i
  full First Second h i j = j
  full First Third h i j = xor_full facts n (xors words r.first) r.second (xor_full facts n words r.first h i) j
  full Second First h i j = xor_full facts n (xors words r.second) r.third (xor_full facts n words r.second h i) j
  full Second Second h i j = i
  full Second Third h i j = j
  full Third First h i j = j
  full Third Second h i j = xor_full facts n (xors words r.third) r.first (xor_full facts n words r.third h i) j
  full Third Third h i j = i

-- what the viewer holds and receives of words of another party under shifted masks
pub record DealtSame (v p : Party) (a b : List ℕ) (r q : Shares) : Type 0 where
  pub held : Held v (dealt p a r) (dealt p b q)
  pub words : SameWords v (to_both p (given_share p a r)) (to_both p (given_share p b q))

given_next : (p : Party) (a b : List ℕ) (r q : Shares) → given_share p a r ≡ given_share p b q
    → (v : Party) → SameWords v (to_both p (given_share p a r)) (to_both p (given_share p b q))
given_next p a b r q e v = record { from_next = ap (λ w. at v (at (next v) (to_both p w))) e; from_before = ap (λ w. at v (at (before v) (to_both p w))) e }

given_late : Facts → (n : ℕ) (a b m u m' u' : List ℕ) → length a ≡ n → length b ≡ n → m' ≡ m → u' ≡ xors u (xors a b) → xors (xors a m) u ≡ xors (xors b m') u'
given_late facts n a b m u m' u' ha hb em eu =
    sym (absorbed facts n a b m u ha hb) ∙ (ap (λ m. xors (xors b m) (xors u (xors a b))) (sym em) ∙ ap (λ u. xors (xors b m') u) (sym eu))

given_first : Facts → (n : ℕ) (a b m u m' u' : List ℕ) → length a ≡ n → length b ≡ n → m' ≡ m → u' ≡ xors u (xors a b) → xors (xors a u) m ≡ xors (xors b u') m'
given_first facts n a b m u m' u' ha hb em eu =
    sym (absorbed_first facts n a b m u ha hb) ∙ (ap (λ m. xors (xors b (xors u (xors a b))) m) (sym em) ∙ ap (λ u. xors (xors b u) m') (sym eu))

pub dealt_same : Facts → (n : ℕ) (v p : Party) (a b : List ℕ) (r q : Shares) → same_party p v ≡ false → length a ≡ n → length b ≡ n
    → ShiftedMasks v (xors a b) r q → DealtSame v p a b r q
dealt_same facts n First First a b r q h ha hb e = absurd (cc)
dealt_same facts n First Second a b r q h ha hb e =
    let g = given_late facts n a b r.second r.third q.second q.third ha hb e.following e.unseen in
    record { held = record { own = g; following = sym e.following }; words = given_next Second a b r q g First }
dealt_same facts n First Third a b r q h ha hb e =
    let g = given_first facts n a b r.first r.third q.first q.third ha hb e.own e.unseen in
    record { held = record { own = sym e.own; following = g }; words = given_next Third a b r q g First }
dealt_same facts n Second First a b r q h ha hb e =
    let g = given_first facts n a b r.second r.first q.second q.first ha hb e.own e.unseen in
    record { held = record { own = sym e.own; following = g }; words = given_next First a b r q g Second }
dealt_same facts n Second Second a b r q h ha hb e = absurd (cc)
dealt_same facts n Second Third a b r q h ha hb e =
    let g = given_late facts n a b r.third r.first q.third q.first ha hb e.following e.unseen in
    record { held = record { own = g; following = sym e.following }; words = given_next Third a b r q g Second }
dealt_same facts n Third First a b r q h ha hb e =
    let g = given_late facts n a b r.first r.second q.first q.second ha hb e.following e.unseen in
    record { held = record { own = g; following = sym e.following }; words = given_next First a b r q g Third }
dealt_same facts n Third Second a b r q h ha hb e =
    let g = given_first facts n a b r.third r.second q.third q.second ha hb e.own e.unseen in
    record { held = record { own = sym e.own; following = g }; words = given_next Second a b r q g Third }
dealt_same facts n Third Third a b r q h ha hb e = absurd (cc)

-- words of the viewer itself, which are equal
pub same_dealt : (v p : Party) (a b : List ℕ) (r : Shares) → a ≡ b → DealtSame v p a b r r
same_dealt v p a b r e = record {
  held = record { own = ap (λ w. at v (dealt p w r)) e; following = ap (λ w. at (next v) (dealt p w r)) e };
  words = given_next p a b r r (ap (λ w. given_share p w r) e) v;
}

pub same_own : (v p : Party) (x y : Three (List (List ℕ))) (f : List (List ℕ) → List ℕ) → same_party p v ≡ true → at v x ≡ at v y → f (at p x) ≡ f (at p y)
same_own First First x y f h e = ap f e
same_own First Second x y f h e = absurd (cc)
same_own First Third x y f h e = absurd (cc)
same_own Second First x y f h e = absurd (cc)
same_own Second Second x y f h e = ap f e
same_own Second Third x y f h e = absurd (cc)
same_own Third First x y f h e = absurd (cc)
same_own Third Second x y f h e = absurd (cc)
same_own Third Third x y f h e = ap f e
