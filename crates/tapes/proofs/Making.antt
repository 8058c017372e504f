-- A generator at a place of a key's words, and tapes that are made draw by draw.
use Rattle.std.proofs.Common.{◌≡◌, ℕ, suc, ◌+◌, ◌*◌, ◌^◌, List, [], ◌∷◌, ◌++◌, length, map, refl, sym, ◌∙◌, ap, subst, arith}
use Rattle.std.proofs.lemmas.List.{map_push, length_push}
use Rattle.rand_chacha.specs.ChaCha.{ChaCha, word_at, key_of}
use Rattle.tapes.specs.declared.draw.Need.{Need}
use Rattle.tapes.specs.declared.draw.Need.TheVariants.{Word as NeedsWord, OrderOf}
use Rattle.tapes.specs.declared.draw.Draw.{Draw}
use Rattle.tapes.specs.declared.draw.Draw.TheVariants.{Word, Order}
use Rattle.tapes.specs.Order.{identity_of}
use Rattle.tapes.specs.Made.{key_bytes, key_word, worded, IsMadeDraw, AreMadeFrom, IsMadeTape}
use Rattle.tapes.specs.Grown.{IsPushed}
use Rattle.tapes.specs.Needs.{Meets, FitsNeeds}
use Rattle.tapes.proofs.OrderLemmas.{identity_more}
use Rattle.tapes.proofs.SortedOrders.{only_sorted}

-- the generator of a key before its word i
abbrev pub generator_at : List ℕ → ℕ → ChaCha
generator_at key i = record { key = key_of key; stream = 0; word_pos = 2 * i }

pub word_there : (g : ChaCha) (key : List ℕ) (i : ℕ) → g ≡ generator_at key i
    → word_at 10 g.key g.stream g.word_pos * 2 ^ 32 + word_at 10 g.key g.stream (g.word_pos + 1) ≡ key_word key i
unfolding key_word
word_there g key i e =
    ap (λ (x : ChaCha). word_at 10 x.key x.stream x.word_pos * 2 ^ 32 + word_at 10 x.key x.stream (x.word_pos + 1)) e

pub generator_moved : (g h : ChaCha) (key : List ℕ) (i : ℕ) → g ≡ generator_at key i → h ≡ record g { word_pos = g.word_pos + 2 } → h ≡ generator_at key (i + 1)
generator_moved g h key i e m =
    m ∙ ap (λ (x : ChaCha). record x { word_pos = x.word_pos + 2 }) e
    ∙ ap (λ n. record { key = key_of key; stream = 0; word_pos = n }) (omega arith)

-- one more number with its word
pub worded_more : (words : ℕ → ℕ) (n : ℕ) → worded words (n + 1) ≡ worded words n ++ (words n, n) ∷ []
worded_more words n =
    ap (λ xs. map (λ i. (words i, i)) xs) (identity_more n) ∙ map_push (λ i. (words i, i)) (identity_of n) n

-- ---- one more draw

made_push : (seed tape d : ℕ) (needs : List Need) (ds : List Draw) (need : Need) (x : Draw) → AreMadeFrom seed tape d needs ds
    → IsMadeDraw seed tape (d + length ds) need x → AreMadeFrom seed tape d (needs ++ need ∷ []) (ds ++ x ∷ [])
made_push seed tape d [] [] need x f m = (subst (λ (k : ℕ). IsMadeDraw seed tape k need x) (omega arith) m, tt)
made_push seed tape d [] (y ∷ ds) need x f m = absurd f
made_push seed tape d (n ∷ ns) [] need x f m = absurd f
made_push seed tape d (n ∷ ns) (y ∷ ds) need x f m =
    (f.0, made_push seed tape (suc d) ns ds need x f.1 (subst (λ (k : ℕ). IsMadeDraw seed tape k need x) (omega arith) m))

fits_push : (needs : List Need) (ds : List Draw) (need : Need) (x : Draw) → FitsNeeds needs ds → Meets need x → FitsNeeds (needs ++ need ∷ []) (ds ++ x ∷ [])
fits_push [] [] need x f m = (m, tt)
fits_push [] (y ∷ ds) need x f m = absurd f
fits_push (n ∷ ns) [] need x f m = absurd f
fits_push (n ∷ ns) (y ∷ ds) need x f m = (f.0, fits_push ns ds need x f.1 m)

-- a tape's first draws, and the generator of its words behind them
pub record MadeSoFar (seed tape : ℕ) (needs : List Need) (ds : List Draw) (g : ChaCha) : Type 0 where
  pub made : IsMadeTape seed tape needs ds
  pub fits : FitsNeeds needs ds
  pub words : g ≡ generator_at (key_bytes seed tape 0) (length ds)

pub made_nothing : (seed tape : ℕ) (ds : List Draw) (g : ChaCha) → ds ≡ [] → g ≡ generator_at (key_bytes seed tape 0) 0 → MadeSoFar seed tape [] ds g
made_nothing seed tape [] g e w = record { made = tt; fits = tt; words = w }
made_nothing seed tape (x ∷ ds) g e w = absurd (cc)

pub made_one : (seed tape : ℕ) (needs : List Need) (ds new : List Draw) (need : Need) (g h : ChaCha) → MadeSoFar seed tape needs ds g
    → IsPushed (λ draw. IsMadeDraw seed tape (length ds) need draw × Meets need draw) ds new → h ≡ record g { word_pos = g.word_pos + 2 }
    → MadeSoFar seed tape (needs ++ need ∷ []) new h
made_one seed tape needs ds new need g h f p m =
    rw p.pushed
    (record {
      made = made_push seed tape 0 needs ds need p.draw f.made (subst (λ (k : ℕ). IsMadeDraw seed tape k need p.draw) (omega arith) p.holds.0);
      fits = fits_push needs ds need p.draw f.fits p.holds.1;
      words =
          generator_moved g h (key_bytes seed tape 0) (length ds) f.words m
          ∙ ap (λ n. generator_at (key_bytes seed tape 0) n) (sym (length_push ds p.draw));
    })

-- ---- a seed has one tape

one_draw : (seed tape d : ℕ) (need : Need) (x y : Draw) → IsMadeDraw seed tape d need x → IsMadeDraw seed tape d need y → x ≡ y
one_draw seed tape d NeedsWord (Word w) (Word v) a b = ap (λ i. Word i) (a ∙ sym b)
one_draw seed tape d NeedsWord (Word w) (Order o) a b = absurd b
one_draw seed tape d NeedsWord (Order o) y a b = absurd a
one_draw seed tape d (OrderOf n) (Word w) y a b = absurd a
one_draw seed tape d (OrderOf n) (Order o) (Word v) a b = absurd b
one_draw seed tape d (OrderOf n) (Order o) (Order p) a b =
    ap (λ i. Order i) (only_sorted (λ i. key_word (key_bytes seed tape (d + 1)) i) n o p a b)

pub only_made : (seed tape d : ℕ) (needs : List Need) (xs ys : List Draw) → AreMadeFrom seed tape d needs xs → AreMadeFrom seed tape d needs ys → xs ≡ ys
only_made seed tape d [] [] [] a b = refl
only_made seed tape d [] [] (y ∷ ys) a b = absurd b
only_made seed tape d [] (x ∷ xs) ys a b = absurd a
only_made seed tape d (n ∷ ns) [] ys a b = absurd a
only_made seed tape d (n ∷ ns) (x ∷ xs) [] a b = absurd b
only_made seed tape d (n ∷ ns) (x ∷ xs) (y ∷ ys) a b =
    rw (one_draw seed tape d n x y a.0 b.0, only_made seed tape (suc d) ns xs ys a.1 b.1) refl
