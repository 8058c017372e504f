-- Lists of words of which one begins another, and values of three parties.
use Rattle.std.proofs.Common.{◌≡◌, ℕ, zero, suc, ◌+◌, ◌≤◌, List, [], ◌∷◌, ◌++◌, length, map, take, drop, refl, sym, ap, ◌∙◌, arith}
use Rattle.std.proofs.lemmas.List.{append-nil, append_assoc, length-append, take-append-drop, take-append-le}
use Rattle.lanes.specs.declared.party.Party.{Party}
use Rattle.lanes.specs.declared.party.Party.TheVariants.{First, Second, Third}
use Rattle.lanes.specs.declared.three.Three.{Three}
use Rattle.lanes.specs.Three.{at, each}
use Rattle.std.proofs.lemmas.List.Sums.{sum_by_from}
use Rattle.step_lists.specs.Draws.{parties, nothing, joined}
use Rattle.step_lists.specs.Phases.{Links, link, no_words, behind_on}
use Rattle.step_lists.specs.Part.{count_from, more_taken}
use Rattle.party_laws.specs.InMachine.{received_by}
use Rattle.party_laws.specs.StageWords.{all_words}
use Rattle.trio.specs.RunOf.{Begins}

-- ---- values of three parties

pub same_three : {A : Type 0} (x y : Three A) → x.first ≡ y.first → x.second ≡ y.second → x.third ≡ y.third → x ≡ y
same_three x y e f g =
    ap (λ a. record { first = a; second = x.second; third = x.third }) e
    ∙ (ap (λ a. record { first = y.first; second = a; third = x.third }) f ∙ ap (λ a. record { first = y.first; second = y.second; third = a }) g)

pub same_each : {A : Type 0} (x y : Three A) → ((p : Party) → at p x ≡ at p y) → x ≡ y
same_each x y h = same_three x y (h First) (h Second) (h Third)

pub at_parties : {A : Type 0} (f : Party → A) (p : Party) → at p (parties f) ≡ f p
at_parties f First = refl
at_parties f Second = refl
at_parties f Third = refl

pub at_each : {A B : Type 0} (f : A → B) (p : Party) (x : Three A) → at p (each f x) ≡ f (at p x)
at_each f First x = refl
at_each f Second x = refl
at_each f Third x = refl

pub at_joined : {A : Type 0} (p : Party) (x y : Three (List A)) → at p (joined x y) ≡ at p x ++ at p y
at_joined First x y = refl
at_joined Second x y = refl
at_joined Third x y = refl

pub at_more : (p : Party) (x : Three ℕ) (ts : List (Three ℕ)) → at p (more_taken x ts) ≡ at p x + count_from p ts
at_more First x ts = refl
at_more Second x ts = refl
at_more Third x ts = refl

pub joined_nothing : {A : Type 0} (x : Three (List A)) → joined x nothing ≡ x
joined_nothing x = same_three (joined x nothing) x (append-nil x.first) (append-nil x.second) (append-nil x.third)

-- ---- links

pub at_behind : (v : Party) (a b : Links) → at v (behind_on a b) ≡ joined (at v a) (at v b)
at_behind First a b = refl
at_behind Second a b = refl
at_behind Third a b = refl

pub link_behind : (p v : Party) (a b : Links) → link p v (behind_on a b) ≡ link p v a ++ link p v b
link_behind p v a b = ap (at v) (at_behind p a b) ∙ at_joined v (at p a) (at p b)

pub link_long : (p v : Party) (a b : Links) → length (link p v (behind_on a b)) ≡ length (link p v a) + length (link p v b)
link_long p v a b = ap length (link_behind p v a b) ∙ length-append (link p v a) (link p v b)

pub at_received : (v p : Party) (a : Links) → at p (received_by v a) ≡ link p v a
at_received v p a = at_parties (λ q. link q v a) p

pub no_link : (p v : Party) → link p v no_words ≡ []
no_link First First = refl
no_link First Second = refl
no_link First Third = refl
no_link Second First = refl
no_link Second Second = refl
no_link Second Third = refl
no_link Third First = refl
no_link Third Second = refl
no_link Third Third = refl

pub behind_none : (a : Links) → behind_on a no_words ≡ a
behind_none a = same_three (behind_on a no_words) a (joined_nothing a.first) (joined_nothing a.second) (joined_nothing a.third)

pub none_behind : (a : Links) → behind_on no_words a ≡ a
none_behind a = refl

pub behind_again : (a b c : Links) → behind_on (behind_on a b) c ≡ behind_on a (behind_on b c)
behind_again a b c =
    same_three (behind_on (behind_on a b) c) (behind_on a (behind_on b c)) (again a.first b.first c.first) (again a.second b.second c.second) (again a.third b.third c.third) where
      again : (x y z : Three (List ℕ)) → joined (joined x y) z ≡ joined x (joined y z)
      again x y z =
          same_three (joined (joined x y) z) (joined x (joined y z)) (append_assoc x.first y.first z.first) (append_assoc x.second y.second z.second) (append_assoc x.third y.third z.third)

-- the words of the first stages, and of those behind them
pub words_split : (b : ℕ) (ws : List Links) → all_words ws ≡ behind_on (all_words (take b ws)) (all_words (drop b ws))
words_split zero ws = refl
words_split (suc b) [] = refl
words_split (suc b) (w ∷ ws) = ap (behind_on w) (words_split b ws) ∙ sym (behind_again w (all_words (take b ws)) (all_words (drop b ws)))

-- ---- counts

pub more_count : (p : Party) (t : Three ℕ) (ts : List (Three ℕ)) → count_from p (t ∷ ts) ≡ at p t + count_from p ts
more_count p t ts = omega (arith, sum_by_from (λ x. x) (0 + at p t) (map (at p) ts))

pub fewer_count : (p : Party) (b : ℕ) (ts : List (Three ℕ)) → count_from p (take b ts) ≤ count_from p ts
fewer_count p zero ts = omega arith
fewer_count p (suc b) [] = omega arith
fewer_count p (suc b) (t ∷ ts) = omega (arith, more_count p t ts, more_count p t (take b ts), fewer_count p b ts)

-- ---- lists that begin others

pub begins_itself : (xs : List ℕ) → Begins xs xs
begins_itself xs = record { rest = []; is = sym (append-nil xs) }

pub begins_through : (xs ys zs : List ℕ) → Begins xs ys → Begins ys zs → Begins xs zs
begins_through xs ys zs h i = record {
  rest = h.rest ++ i.rest;
  is = i.is ∙ (ap (λ t. t ++ i.rest) h.is ∙ append_assoc xs h.rest i.rest);
}

pub begins_short : (xs ys : List ℕ) → Begins xs ys → length xs ≤ length ys
begins_short xs ys h = omega (arith, ap length h.is, length-append xs h.rest)

nothing_behind : (xs rest : List ℕ) → length (xs ++ rest) ≤ length xs → xs ++ rest ≡ xs
nothing_behind xs [] h = append-nil xs
nothing_behind xs (r ∷ rest) h = absurd (omega (arith, h, length-append xs (r ∷ rest)))

pub begins_whole : (xs ys : List ℕ) → Begins xs ys → length ys ≤ length xs → ys ≡ xs
begins_whole xs ys h i = h.is ∙ nothing_behind xs h.rest (omega (arith, i, ap length h.is))

-- the next words of the longer list behind the shorter one
pub begins_more : (xs ys : List ℕ) (n : ℕ) → Begins xs ys → Begins (xs ++ take n (drop (length xs) ys)) ys
begins_more xs ys n h =
    let rest = drop (length xs) ys in
    let front : take (length xs) ys ≡ xs = ap (take (length xs)) h.is ∙ (take-append-le (length xs) xs h.rest (omega arith) ∙ take_self xs) in
    record {
      rest = drop n rest;
      is =
          sym (take-append-drop (length xs) ys)
          ∙ (ap (λ t. t ++ rest) front ∙ (ap (λ t. xs ++ t) (sym (take-append-drop n rest)) ∙ sym (append_assoc xs (take n rest) (drop n rest))));
    } where
      take_self : (xs : List ℕ) → take (length xs) xs ≡ xs
      take_self [] = refl
      take_self (x ∷ xs) = ap (λ t. x ∷ t) (take_self xs)

-- two lists that begin one, by their lengths
pub begins_shorter : (few more a b : List ℕ) → few ++ a ≡ more ++ b → length more ≤ length few → few ≡ more ++ drop (length more) few
begins_shorter few more a b e h =
    let front : take (length more) few ≡ more =
    sym (take-append-le (length more) few a h) ∙ (ap (take (length more)) e ∙ (take-append-le (length more) more b (omega arith) ∙ take_self more)) in
    sym (take-append-drop (length more) few) ∙ ap (λ x. x ++ drop (length more) few) front where
      take_self : (xs : List ℕ) → take (length xs) xs ≡ xs
      take_self [] = refl
      take_self (x ∷ xs) = ap (λ t. x ∷ t) (take_self xs)
