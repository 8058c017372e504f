-- Words that are read in bulk.
use Rattle.std.proofs.Common.{◌≡◌, ◌≤◌, ℕ, zero, suc, List, [], ◌∷◌, ◌++◌, length, map, drop, replicate, Option, Some, None, refl, sym, ◌∙◌, ap, arith}
use Rattle.std.specs.Prelude.{IsSome}
use Rattle.std.specs.Option.{option_map}
use Rattle.tapes.specs.declared.draw.Draw.{Draw}
use Rattle.tapes.specs.declared.draw.Draw.TheVariants.{Word, Order}
use Rattle.tapes.specs.declared.draw.Need.{Need}
use Rattle.tapes.specs.declared.draw.Need.TheVariants.{Word as NeedsWord}
use Rattle.tapes.specs.Needs.{FitsNeeds}
use Rattle.tapes.specs.Reading.{first_words, leading_words}
use Rattle.tapes.specs.ReadingLaws.{WordsInBulk}

words_told : (n : ℕ) (draws : List Draw) (words : List ℕ) → first_words n draws ≡ Some words → (length words ≡ n) × (draws ≡ map (λ w. Word w) words ++ drop n draws)
unfolding first_words
words_told zero draws words e = let none : words ≡ [] = cc in (ap length none, ap (λ ws. map {B = Draw} (λ w. Word w) ws ++ draws) (sym none))
words_told (suc n) [] words e = absurd (cc)
words_told (suc n) (Order o ∷ draws) words e = absurd (cc)
words_told (suc n) (Word w ∷ draws) words e = go (words_told n draws) (first_words n draws) refl e
  where
    go : ((ws : List ℕ) → first_words n draws ≡ Some ws → (length ws ≡ n) × (draws ≡ map (λ v. Word v) ws ++ drop n draws))
        → (o : Option (List ℕ)) → first_words n draws ≡ o → option_map (λ ws. w ∷ ws) o ≡ Some words
        → (length words ≡ suc n) × (Word w ∷ draws ≡ map (λ v. Word v) words ++ drop n draws)
    go inner None q e = absurd (cc)
    go inner (Some ws) q e =
        let rest = inner ws q in
        let same : words ≡ w ∷ ws = cc in
        (ap length same ∙ ap suc rest.0, ap (λ ds. Word w ∷ ds) rest.1 ∙ ap (λ vs. map {B = Draw} (λ v. Word v) vs ++ drop n draws) (sym same))

words_from : (n : ℕ) (draws : List Draw) (words : List ℕ) → length words ≡ n → draws ≡ map (λ w. Word w) words ++ drop n draws → first_words n draws ≡ Some words
unfolding first_words
words_from zero draws [] l e = refl
words_from zero draws (w ∷ words) l e = absurd (omega arith)
words_from (suc n) draws [] l e = absurd (omega arith)
words_from (suc n) [] (w ∷ words) l e = absurd (cc)
words_from (suc n) (d ∷ draws) (w ∷ words) l e =
    let first : d ≡ Word w = cc in
    let rest : draws ≡ map (λ v. Word v) words ++ drop n draws = cc in
    ap (λ x. first_words (suc n) (x ∷ draws)) first ∙ ap (λ o. option_map (λ ws. w ∷ ws) o) (words_from n draws words (omega arith) rest)

words_lead : (n : ℕ) (draws : List Draw) → n ≤ leading_words draws → IsSome (first_words n draws)
unfolding first_words leading_words
words_lead zero draws h = refl
words_lead (suc n) [] h = absurd (omega arith)
words_lead (suc n) (Order o ∷ draws) h = absurd (omega arith)
words_lead (suc n) (Word w ∷ draws) h = go (first_words n draws) (words_lead n draws (omega arith))
  where
    go : (o : Option (List ℕ)) → IsSome o → IsSome (option_map (λ ws. w ∷ ws) o)
    go None i = absurd (cc)
    go (Some ws) i = refl

lead_words : (n : ℕ) (draws : List Draw) → IsSome (first_words n draws) → n ≤ leading_words draws
unfolding first_words leading_words
lead_words zero draws i = omega arith
lead_words (suc n) [] i = absurd (cc)
lead_words (suc n) (Order o ∷ draws) i = absurd (cc)
lead_words (suc n) (Word w ∷ draws) i = omega (arith, lead_words n draws (go (first_words n draws) i))
  where
    go : (o : Option (List ℕ)) → IsSome (option_map (λ ws. w ∷ ws) o) → IsSome o
    go None i = i
    go (Some ws) i = refl

words_fit : (n : ℕ) (needs : List Need) (draws : List Draw) → FitsNeeds (replicate n NeedsWord ++ needs) draws
    → (words : List ℕ) × ((first_words n draws ≡ Some words) × FitsNeeds needs (drop n draws))
unfolding first_words
words_fit zero needs draws f = ([], (refl, f))
words_fit (suc n) needs [] f = absurd f
words_fit (suc n) needs (Order o ∷ draws) f = absurd f.0
words_fit (suc n) needs (Word w ∷ draws) f =
    let rest = words_fit n needs draws f.1 in (w ∷ rest.0, (ap (λ o. option_map (λ ws. w ∷ ws) o) rest.1.0, rest.1.1))

pub words_in_bulk : WordsInBulk
words_in_bulk = record {
  told = λ n draws words. (words_told n draws words, λ p. words_from n draws words p.0 p.1);
  lead = λ n draws. (lead_words n draws, words_lead n draws);
  fit = words_fit;
}
