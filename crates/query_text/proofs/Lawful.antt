-- Readers of tokens with their laws, put together.
use Rattle.std.proofs.Common.{◌≡◌, Bool, true, List, [], ◌∷◌, ◌++◌, Option, Some, None, refl}
use Rattle.std.specs.Prelude.{IfSome}
use Rattle.std.specs.List.{AllByRecursion}
use Rattle.std.proofs.lemmas.Bool.{eq-eqb}
use Rattle.query_tokens.specs.Token.{Token, keyword, sign, IsToken, IsKnown, is_keyword, is_sign}
use Rattle.query_tokens.specs.Words.{keyword_number, sign_number}
use Rattle.query_tokens.specs.declared.keyword.Keyword.{Keyword}
use Rattle.query_tokens.specs.declared.sign.Sign.{Sign}
use Rattle.query_text.specs.Reading.{starts, one, after, nothing, mapped, pair, either, maybe, several, value_of, ended_by}
use Rattle.query_text.specs.Forms.{Reader, list_of, behind, if_behind}
use Rattle.query_text.specs.Spelling.{separated, optional, if_any}
use Rattle.query_text.specs.Grammar.{IsFilled}
use Rattle.query_text.proofs.ReaderLaw.{first_or, Refuses, Reads, freely, single, Stands, one_reads, nothing_reads, Changes, mapped_reads}
use Rattle.query_text.proofs.Joined.{pair_reads, IsFixed, after_reads, spelled_by, fits_by, follows_by, either_reads}
use Rattle.query_text.proofs.TokenTests.{keyword_alone, sign_alone}
use Rattle.query_text.proofs.Repeated.{reads_as, maybe_follows, maybe_reads, several_follows, several_reads}

-- a reader's law, with what can follow what it reads
pub record Law {A : Type 0} (r : Reader A) (spell : A → List Token) (fits : A → Type 0) : Type 1 where
  pub follows : A → Option Token → Type 0
  pub reads : Reads IsToken IsKnown r spell fits follows

-- nothing is asked of a value
abbrev pub any : {A : Type 0} → A → Type 0
any a = Unit {0}

pub some_any : {A : Type 0} (o : Option A) → IfSome o any
some_any None = tt
some_any (Some a) = tt

pub keyword_fixed : (k : Keyword) → IsFixed IsToken IsKnown (is_keyword k) (keyword k)
keyword_fixed k = record { only = keyword_alone k; passes = eq-eqb (keyword_number k) (keyword_number k) refl; real = tt; known = tt }

pub sign_fixed : (s : Sign) → IsFixed IsToken IsKnown (is_sign s) (sign s)
sign_fixed s = record { only = sign_alone s; passes = eq-eqb (sign_number s) (sign_number s) refl; real = tt; known = tt }

abbrev pub one_law : {A : Type 0} (value : Token → Option A) (token : A → Token) (fits : A → Type 0) → Stands IsToken IsKnown value token fits → Law (one value) (single token) fits
one_law value token fits s = record { follows = freely; reads = one_reads IsToken IsKnown value token fits s }

abbrev pub nothing_law : Law nothing (λ (u : Unit {0}). []) any
nothing_law = record { follows = freely; reads = nothing_reads IsToken IsKnown }

abbrev pub pair_law : {A B : Type 0} {r : Reader A} {spell : A → List Token} {fits : A → Type 0} {s : Reader B} {spell' : B → List Token} {fits' : B → Type 0}
    → Law r spell fits → Law s spell' fits' → Law (pair r s) (λ p. spell p.0 ++ spell' p.1) (λ p. fits p.0 × fits' p.1)
pair_law {A} {B} {r} {spell} {fits} {s} {spell'} {fits'} a b = record {
  follows = λ p next. a.follows p.0 (first_or (spell' p.1) next) × b.follows p.1 next;
  reads = pair_reads IsToken IsKnown r spell fits a.follows s spell' fits' b.follows a.reads b.reads;
}

abbrev pub behind_law : {A : Type 0} (k : Keyword) {r : Reader A} {spell : A → List Token} {fits : A → Type 0} → Law r spell fits → Law (behind k r) (λ a. keyword k ∷ spell a) fits
behind_law {A} k {r} {spell} {fits} a = record { follows = a.follows; reads = after_reads IsToken IsKnown (is_keyword k) (keyword k) (keyword_fixed k) r spell fits a.follows a.reads }

abbrev pub behind_sign_law : {A : Type 0} (s : Sign) {r : Reader A} {spell : A → List Token} {fits : A → Type 0} → Law r spell fits → Law (after (is_sign s) r) (λ a. sign s ∷ spell a) fits
behind_sign_law {A} s {r} {spell} {fits} a = record { follows = a.follows; reads = after_reads IsToken IsKnown (is_sign s) (sign s) (sign_fixed s) r spell fits a.follows a.reads }

abbrev pub maybe_law : {A : Type 0} (test : Token → Bool) {r : Reader A} {spell : A → List Token} {fits : A → Type 0} → Law r spell fits
    → ((a : A) (rest : List Token) → fits a → starts test (spell a ++ rest) ≡ true) → Law (maybe test r) (optional spell) (λ o. IfSome o fits)
maybe_law {A} test {r} {spell} {fits} a begins = record { follows = maybe_follows test a.follows; reads = maybe_reads IsToken IsKnown test r spell fits a.follows a.reads begins }

abbrev pub if_behind_law : {A : Type 0} (k : Keyword) {r : Reader A} {spell : A → List Token} {fits : A → Type 0} → Law r spell fits
    → Law (if_behind k r) (optional (λ a. keyword k ∷ spell a)) (λ o. IfSome o fits)
if_behind_law {A} k {r} {spell} {fits} a = maybe_law (is_keyword k) (behind_law k a) (λ x rest fit. (keyword_fixed k).passes)

-- by a keyword that each of the first begins with
abbrev pub either_law : {A B : Type 0} (k : Keyword) {r : Reader A} {spell : A → List Token} {fits : A → Type 0} {s : Reader B} {spell' : B → List Token} {fits' : B → Type 0}
    → Law r spell fits → Law s spell' fits' → Law (either (is_keyword k) (behind k r) s) (spelled_by (λ a. keyword k ∷ spell a) spell') (fits_by fits fits')
either_law {A} {B} k {r} {spell} {fits} {s} {spell'} {fits'} a b = record {
  follows = follows_by (is_keyword k) spell' a.follows b.follows;
  reads = either_reads IsToken IsKnown (is_keyword k) (behind k r) (λ x. keyword k ∷ spell x) fits a.follows s spell' fits' b.follows (behind_law k a).reads b.reads (λ x rest fit. (keyword_fixed k).passes);
}

abbrev pub mapped_law : {A B : Type 0} (f : A → B) (back : B → A) (fits' : B → Type 0) {r : Reader A} {spell : A → List Token} {fits : A → Type 0}
    → Law r spell fits → Changes f back fits fits' → Law (mapped f r) (λ b. spell (back b)) fits'
mapped_law {A} {B} f back fits' {r} {spell} {fits} a c = record { follows = λ b. a.follows (back b); reads = mapped_reads IsToken IsKnown r spell fits a.follows f back fits' a.reads c }

-- the same law with another name for the spelling
abbrev pub spelled_law : {A : Type 0} {r : Reader A} {spell : A → List Token} {fits : A → Type 0} (spell' : A → List Token) → Law r spell fits → ((a : A) → fits a → spell a ≡ spell' a) → Law r spell' fits
spelled_law {A} {r} {spell} {fits} spell' a same = record { follows = a.follows; reads = reads_as IsToken IsKnown r spell fits a.follows spell' a.follows a.reads same (λ x next fit h. h) (λ x next fit h. h) }

abbrev pub several_law : {A : Type 0} (test : Token → Bool) (lead : Token) → IsFixed IsToken IsKnown test lead → {r : Reader A} {spell : A → List Token} {fits : A → Type 0} → Law r spell fits
    → Law (several test r) (separated lead spell) (λ xs. IsFilled xs × AllByRecursion fits xs)
several_law {A} test lead fixed {r} {spell} {fits} a = record { follows = several_follows test lead spell a.follows; reads = several_reads IsToken IsKnown test lead fixed r spell fits a.follows a.reads }

-- ---- ended by a fixed token

module _ {A : Type 0} (s : Sign) (r : Reader A) (spell : A → List Token) (fits : A → Type 0) (follows : A → Option Token → Type 0) (law : Reads IsToken IsKnown r spell fits follows)
    (free : (a : A) → fits a → follows a (Some (sign s))) where
  abbrev ended_follow : A × Unit {0} → Option Token → Type 0
  ended_follow p next = follows p.0 (Some (sign s)) × Unit {0}

  pub ended_reads : Reads IsToken IsKnown (ended_by (is_sign s) r) (λ a. spell a ++ sign s ∷ []) fits freely
  ended_reads =
      let mark = after_reads IsToken IsKnown (is_sign s) (sign s) (sign_fixed s) nothing (λ (u : Unit {0}). []) any freely (nothing_reads IsToken IsKnown) in
      let both = pair_reads IsToken IsKnown r spell fits follows (after (is_sign s) nothing) (λ (u : Unit {0}). sign s ∷ []) any freely law mark in
      let changed = mapped_reads IsToken IsKnown (pair r (after (is_sign s) nothing)) (λ (p : A × Unit {0}). spell p.0 ++ sign s ∷ []) (λ p. fits p.0 × Unit {0}) ended_follow value_of (λ a. (a, tt)) fits both
      (record { there = λ p fit. (refl, fit.0); here = λ a fit. (refl, (fit, tt)) }) in
      reads_as IsToken IsKnown (ended_by (is_sign s) r) (λ a. spell a ++ sign s ∷ []) fits (λ a. ended_follow (a, tt)) (λ a. spell a ++ sign s ∷ []) freely changed
      (λ a fit. refl) (λ a next fit h. tt) (λ a next fit h. (free a fit, tt))

abbrev pub ended_law : {A : Type 0} (s : Sign) {r : Reader A} {spell : A → List Token} {fits : A → Type 0} (a : Law r spell fits) → ((x : A) → fits x → a.follows x (Some (sign s)))
    → Law (ended_by (is_sign s) r) (λ x. spell x ++ sign s ∷ []) fits
ended_law {A} s {r} {spell} {fits} a free = record { follows = freely; reads = ended_reads s r spell fits a.follows a.reads free }

-- ---- a list that may be missing

maybe_list : {A : Type 0} → List A → Option (List A)
maybe_list [] = None
maybe_list (x ∷ xs) = Some (x ∷ xs)

abbrev pub list_follows : {A : Type 0} → (Token → Bool) → (List A → Option Token → Type 0) → List A → Option Token → Type 0
list_follows test follows [] next = Refuses test next
list_follows test follows (x ∷ xs) next = follows (x ∷ xs) next

module _ {A : Type 0} (k : Keyword) (r : Reader (List A)) (spell : List A → List Token) (fits : List A → Type 0) (law : Law r spell (λ xs. IsFilled xs × fits xs)) (none : fits []) where
  list_there : (o : Option (List A)) → IfSome o (λ xs. IsFilled xs × fits xs) → (maybe_list (list_of o) ≡ o) × fits (list_of o)
  unfolding maybe_list
  list_there None fit = (refl, none)
  list_there (Some []) fit = absurd fit.0
  list_there (Some (x ∷ xs)) fit = (refl, fit.1)

  list_here : (xs : List A) → fits xs → (list_of (maybe_list xs) ≡ xs) × IfSome (maybe_list xs) (λ ys. IsFilled ys × fits ys)
  unfolding maybe_list
  list_here [] fit = (refl, tt)
  list_here (x ∷ xs) fit = (refl, (tt, fit))

  list_same : (xs : List A) → fits xs → optional (λ ys. keyword k ∷ spell ys) (maybe_list xs) ≡ if_any (keyword k) spell xs
  unfolding maybe_list
  list_same [] fit = refl
  list_same (x ∷ xs) fit = refl

  list_to : (xs : List A) (next : Option Token) → fits xs → maybe_follows (is_keyword k) law.follows (maybe_list xs) next → list_follows (is_keyword k) law.follows xs next
  unfolding maybe_list
  list_to [] next fit h = h
  list_to (x ∷ xs) next fit h = h

  list_from : (xs : List A) (next : Option Token) → fits xs → list_follows (is_keyword k) law.follows xs next → maybe_follows (is_keyword k) law.follows (maybe_list xs) next
  unfolding maybe_list
  list_from [] next fit h = h
  list_from (x ∷ xs) next fit h = h

  pub list_reads : Reads IsToken IsKnown (mapped list_of (if_behind k r)) (if_any (keyword k) spell) fits (list_follows (is_keyword k) law.follows)
  list_reads =
      let chosen = (if_behind_law k law).reads in
      let changed = mapped_reads IsToken IsKnown (if_behind k r) (optional (λ xs. keyword k ∷ spell xs)) (λ o. IfSome o (λ xs. IsFilled xs × fits xs)) (maybe_follows (is_keyword k) law.follows) list_of maybe_list fits chosen
      (record { there = list_there; here = list_here }) in
      reads_as IsToken IsKnown (mapped list_of (if_behind k r)) (λ xs. optional (λ ys. keyword k ∷ spell ys) (maybe_list xs)) fits (λ xs. maybe_follows (is_keyword k) law.follows (maybe_list xs))
      (if_any (keyword k) spell) (list_follows (is_keyword k) law.follows) changed list_same list_to list_from

abbrev pub list_law : {A : Type 0} (k : Keyword) {r : Reader (List A)} {spell : List A → List Token} (fits : List A → Type 0) (a : Law r spell (λ xs. IsFilled xs × fits xs)) → fits []
    → Law (mapped list_of (if_behind k r)) (if_any (keyword k) spell) fits
list_law {A} k {r} {spell} fits a none = record { follows = list_follows (is_keyword k) a.follows; reads = list_reads k r spell fits a none }
