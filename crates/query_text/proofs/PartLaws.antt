-- The laws of the parts of statements.
use Rattle.std.proofs.Common.{◌≡◌, ℕ, true, false, List, [], ◌∷◌, ◌++◌, Option, Some, None, refl, ap, ◌⊎◌, inl, inr}
use Rattle.std.specs.Prelude.{IfSome, is_some}
use Rattle.std.specs.List.{AllByRecursion}
use Rattle.query_tokens.specs.Token.{Token, name, keyword, sign, IsToken, IsKnown, is_sign}
use Rattle.query_tokens.specs.declared.keyword.Keyword.{Keyword}
use Rattle.query_tokens.specs.declared.keyword.Keyword.TheVariants as word
use Rattle.query_tokens.specs.declared.sign.Sign.{Sign}
use Rattle.query_tokens.specs.declared.sign.Sign.TheVariants as sign_of
use Rattle.query_text.specs.declared.operand.Op.{Op}
use Rattle.query_text.specs.declared.operand.OperandText.{OperandText}
use Rattle.query_text.specs.declared.parts.ColumnText.{ColumnText}
use Rattle.query_text.specs.declared.parts.TestText.{TestText}
use Rattle.query_text.specs.declared.parts.ItemText.{ItemText}
use Rattle.query_text.specs.declared.parts.ItemText.TheVariants as items
use Rattle.query_text.specs.declared.parts.AggregateText.{AggregateText}
use Rattle.query_text.specs.declared.parts.AggregateText.TheVariants as aggregates
use Rattle.query_text.specs.Parties.{IsParty, AreParties}
use Rattle.query_text.specs.Reading.{starts}
use Rattle.query_text.specs.Forms.{Reader, is_operator, parties_behind, column_of, column_at, test_of, test_at, computed, assigned, item_of, value_at, assigned_at, item_at, Function, function_at, aggregate_by, aggregate_of, aggregate_at, with_commas, in_parens, names_at, at_most_at, parts_at_most_at, clear_at_at, via_and_clear_at, place_at, keys_at}
use Rattle.query_text.specs.Spelling.{optional, parties_after, operator, operand, column, test, item, aggregate, listed, names, keys, at_most, parts_at_most, clear_at, via, separated}
use Rattle.query_text.specs.Grammar.{IsFilled, IsNotBoth, IsMaybeParty}
use Rattle.query_text.proofs.ReaderLaw.{Refuses, Changes}
use Rattle.query_text.proofs.Joined.{spelled_by, fits_by}
use Rattle.query_text.proofs.Repeated.{several_free}
use Rattle.query_text.proofs.Lawful.{Law, any, sign_fixed, nothing_law, pair_law, behind_law, behind_sign_law, maybe_law, if_behind_law, either_law, mapped_law, spelled_law, several_law, ended_law, list_law}
use Rattle.query_text.proofs.PartyLaws.{party_law, parties_law, rising_sign, rising_end}
use Rattle.query_text.proofs.TokenLaws.{operator_writes, name_law, number_law, kind_law, comparison_law, operator_law, operand_law}

-- ---- columns

abbrev pub parties_behind_law : (k : Keyword) → Law (parties_behind k) (parties_after k) AreParties
parties_behind_law k = list_law k AreParties parties_law tt

pub parties_then_sign : (k : Keyword) (ps : List ℕ) (s : Sign) → (parties_behind_law k).follows ps (Some (sign s))
parties_then_sign k [] s = refl
parties_then_sign k (p ∷ ps) s = rising_sign p ps s

pub parties_then_end : (k : Keyword) (ps : List ℕ) → (parties_behind_law k).follows ps None
parties_then_end k [] = tt
parties_then_end k (p ∷ ps) = rising_end p ps

abbrev pub column_law : Law column_at column (λ c. AreParties c.trusted)
column_law = mapped_law column_of (λ c. (c.name, (c.kind, c.trusted))) (λ c. AreParties c.trusted) (pair_law name_law (pair_law kind_law (parties_behind_law word.Trust)))
    (record { there = λ p fit. (refl, fit.1.1); here = λ c fit. (refl, (tt, (tt, fit))) })

pub column_then : (s : Sign) (c : ColumnText) → AreParties c.trusted → column_law.follows c (Some (sign s))
column_then s c fit = (tt, (tt, parties_then_sign word.Trust c.trusted s))

-- ---- lists in parentheses

abbrev pub with_commas_law : {A : Type 0} {r : Reader A} {spell : A → List Token} {fits : A → Type 0} → Law r spell fits → Law (with_commas r) (separated (sign sign_of.Comma) spell) (λ xs. IsFilled xs × AllByRecursion fits xs)
with_commas_law a = several_law (is_sign sign_of.Comma) (sign sign_of.Comma) (sign_fixed sign_of.Comma) a

pub commas_free : {A : Type 0} {r : Reader A} {spell : A → List Token} {fits : A → Type 0} (a : Law r spell fits) (next : Option Token) (xs : List A) → ((x : A) → fits x → a.follows x (Some (sign sign_of.Comma)))
    → ((x : A) → fits x → a.follows x next) → Refuses (is_sign sign_of.Comma) next → AllByRecursion fits xs → (with_commas_law a).follows xs next
commas_free {A} {r} {spell} {fits} a next xs between last ends fit = several_free IsToken IsKnown (is_sign sign_of.Comma) (sign sign_of.Comma) (sign_fixed sign_of.Comma) r spell fits a.follows a.reads next xs between last ends fit

abbrev pub in_parens_law : {A : Type 0} {r : Reader A} {spell : A → List Token} {fits : A → Type 0} (a : Law r spell fits) → ((x : A) → fits x → a.follows x (Some (sign sign_of.Comma)))
    → ((x : A) → fits x → a.follows x (Some (sign sign_of.RightParen))) → Law (in_parens r) (listed spell) (λ xs. IsFilled xs × AllByRecursion fits xs)
in_parens_law a between last = behind_sign_law sign_of.LeftParen (ended_law sign_of.RightParen (with_commas_law a) (λ xs fit. commas_free a (Some (sign sign_of.RightParen)) xs between last refl fit.1))

abbrev pub columns_law : Law (in_parens column_at) (listed column) (λ cs. IsFilled cs × AllByRecursion (λ (c : ColumnText). AreParties c.trusted) cs)
columns_law = in_parens_law column_law (column_then sign_of.Comma) (column_then sign_of.RightParen)

-- ---- tests

abbrev pub test_law : Law test_at test any
test_law = mapped_law test_of (λ t. (t.left, (t.cmp, t.right))) any (pair_law operand_law (pair_law comparison_law operand_law))
    (record { there = λ p fit. (refl, tt); here = λ t fit. (refl, (tt, (tt, tt))) })

pub test_free : (t : TestText) (next : Option Token) → test_law.follows t next
test_free t next = (tt, (tt, tt))

-- ---- items

pub operator_begins : (p : Op × OperandText) (rest : List Token) → Unit {0} × Unit {0} → starts is_operator ((operator p.0 ∷ operand p.1 ∷ []) ++ rest) ≡ true
operator_begins p rest fit = ap is_some (operator_writes p.0)

abbrev pub Computation : Type 0
Computation = OperandText × Option (Op × OperandText)

abbrev value_law : Law value_at (λ p. operand p.0 ∷ optional (λ q. operator q.0 ∷ operand q.1 ∷ []) p.1) (λ p. Unit {0} × IfSome p.1 (λ q. Unit {0} × Unit {0}))
value_law = pair_law operand_law (maybe_law is_operator (pair_law operator_law operand_law) operator_begins)

abbrev assigned_law : Law assigned_at (λ p. name p.0 ∷ optional (λ v. sign sign_of.Assign ∷ operand v.0 ∷ optional (λ q. operator q.0 ∷ operand q.1 ∷ []) v.1) p.1)
    (λ p. Unit {0} × IfSome p.1 (λ v. Unit {0} × IfSome v.1 (λ q. Unit {0} × Unit {0})))
assigned_law = pair_law name_law (maybe_law (is_sign sign_of.Assign) (behind_sign_law sign_of.Assign value_law) (λ v rest fit. (sign_fixed sign_of.Assign).passes))

pub item_parts : ItemText → List ℕ × Option Computation
item_parts (items.Same c) = (c, None)
item_parts (items.Copied c x) = (c, Some (x, None))
item_parts (items.Computed c x o y) = (c, Some (x, Some (o, y)))

abbrev assigned_fits : List ℕ × Option Computation → Type 0
assigned_fits p = Unit {0} × IfSome p.1 (λ v. Unit {0} × IfSome v.1 (λ q. Unit {0} × Unit {0}))

value_there : (c : List ℕ) (o : Option Computation) → item_parts (assigned c o) ≡ (c, o)
unfolding item_parts
value_there c None = refl
value_there c (Some v) = go v.0 v.1
  where
    go : (x : OperandText) (q : Option (Op × OperandText)) → item_parts (computed c x q) ≡ (c, Some (x, q))
    go x None = refl
    go x (Some q) = refl

item_here : (i : ItemText) → (item_of (item_parts i) ≡ i) × assigned_fits (item_parts i)
unfolding item_parts
item_here (items.Same c) = (refl, (tt, tt))
item_here (items.Copied c x) = (refl, (tt, (tt, tt)))
item_here (items.Computed c x o y) = (refl, (tt, (tt, (tt, tt))))

pub item_changes : Changes item_of item_parts assigned_fits any
item_changes = record { there = λ p fit. (value_there p.0 p.1, tt); here = λ i fit. item_here i }

pub item_spelled : (i : ItemText) → Unit {0} → name (item_parts i).0 ∷ optional (λ v. sign sign_of.Assign ∷ operand v.0 ∷ optional (λ q. operator q.0 ∷ operand q.1 ∷ []) v.1) (item_parts i).1 ≡ item i
unfolding item_parts
item_spelled (items.Same c) fit = refl
item_spelled (items.Copied c x) fit = refl
item_spelled (items.Computed c x o y) fit = refl

abbrev pub item_law : Law item_at item any
item_law = spelled_law item (mapped_law item_of item_parts any assigned_law item_changes) item_spelled

-- the sign of a list or of its end, which no item goes on with
abbrev pub ClosesItem : Sign → Type 0
ClosesItem s = (is_sign sign_of.Assign (sign s) ≡ false) × (is_operator (sign s) ≡ false)

pub item_closed : (s : Sign) → ClosesItem s → (i : ItemText) → item_law.follows i (Some (sign s))
unfolding item_parts
item_closed s closes (items.Same c) = (tt, closes.0)
item_closed s closes (items.Copied c x) = (tt, (tt, closes.1))
item_closed s closes (items.Computed c x o y) = (tt, (tt, (tt, tt)))

abbrev pub items_law : Law (in_parens item_at) (listed item) (λ xs. IsFilled xs × AllByRecursion any xs)
items_law = in_parens_law item_law (λ i fit. item_closed sign_of.Comma (refl, refl) i) (λ i fit. item_closed sign_of.RightParen (refl, refl) i)

-- ---- aggregates

abbrev function_fits : Function → Type 0
function_fits f = fits_by any (fits_by any (fits_by any any)) f

abbrev function_spelled : Function → List Token
function_spelled f = spelled_by (λ c. keyword word.Sum ∷ name c ∷ []) (spelled_by (λ u. keyword word.Count ∷ []) (spelled_by (λ c. keyword word.Least ∷ name c ∷ []) (λ c. keyword word.Greatest ∷ name c ∷ []))) f

abbrev pub function_law : Law function_at function_spelled function_fits
function_law = either_law word.Sum name_law (either_law word.Count nothing_law (either_law word.Least name_law (behind_law word.Greatest name_law)))

pub function_free : (f : Function) (next : Option Token) → function_law.follows f next
function_free (inl c) next = tt
function_free (inr (inl u)) next = (refl, tt)
function_free (inr (inr (inl c))) next = (refl, (refl, tt))
function_free (inr (inr (inr c))) next = (refl, (refl, (refl, tt)))

pub aggregate_parts : AggregateText → List ℕ × Function
aggregate_parts (aggregates.Sum c x) = (c, inl x)
aggregate_parts (aggregates.Count c) = (c, inr (inl tt))
aggregate_parts (aggregates.Least c x) = (c, inr (inr (inl x)))
aggregate_parts (aggregates.Greatest c x) = (c, inr (inr (inr x)))

aggregate_there : (c : List ℕ) (f : Function) → aggregate_parts (aggregate_by c f) ≡ (c, f)
unfolding aggregate_parts
aggregate_there c (inl x) = refl
aggregate_there c (inr (inl tt)) = refl
aggregate_there c (inr (inr (inl x))) = refl
aggregate_there c (inr (inr (inr x))) = refl

aggregate_here : (a : AggregateText) → (aggregate_of (aggregate_parts a) ≡ a) × Unit {0} × function_fits (aggregate_parts a).1
unfolding aggregate_parts
aggregate_here (aggregates.Sum c x) = (refl, tt, tt)
aggregate_here (aggregates.Count c) = (refl, tt, tt)
aggregate_here (aggregates.Least c x) = (refl, tt, tt)
aggregate_here (aggregates.Greatest c x) = (refl, tt, tt)

pub aggregate_changes : Changes aggregate_of aggregate_parts (λ p. Unit {0} × function_fits p.1) any
aggregate_changes = record { there = λ p fit. (aggregate_there p.0 p.1, tt); here = λ a fit. let h = aggregate_here a in (h.0, (h.1, h.2)) }

pub aggregate_spelled : (a : AggregateText) → Unit {0} → name (aggregate_parts a).0 ∷ sign sign_of.Assign ∷ function_spelled (aggregate_parts a).1 ≡ aggregate a
unfolding aggregate_parts
aggregate_spelled (aggregates.Sum c x) fit = refl
aggregate_spelled (aggregates.Count c) fit = refl
aggregate_spelled (aggregates.Least c x) fit = refl
aggregate_spelled (aggregates.Greatest c x) fit = refl

abbrev pub aggregate_law : Law aggregate_at aggregate any
aggregate_law = spelled_law aggregate (mapped_law aggregate_of aggregate_parts any (pair_law name_law (behind_sign_law sign_of.Assign function_law)) aggregate_changes) aggregate_spelled

pub aggregate_free : (next : Option Token) (a : AggregateText) → Unit {0} → aggregate_law.follows a next
aggregate_free next a fit = (tt, function_free (aggregate_parts a).1 next)

abbrev pub aggregates_law : Law (in_parens aggregate_at) (listed aggregate) (λ xs. IsFilled xs × AllByRecursion any xs)
aggregates_law = in_parens_law aggregate_law (aggregate_free (Some (sign sign_of.Comma))) (aggregate_free (Some (sign sign_of.RightParen)))

-- ---- names, bounds and places

abbrev pub names_law : Law names_at names (λ ns. IsFilled ns × AllByRecursion any ns)
names_law = with_commas_law name_law

pub all_any : {A : Type 0} (xs : List A) → AllByRecursion any xs
all_any [] = tt
all_any (x ∷ xs) = (tt, all_any xs)

pub names_free : (next : Option Token) (ns : List (List ℕ)) → Refuses (is_sign sign_of.Comma) next → names_law.follows ns next
names_free next ns ends = commas_free name_law next ns (λ n fit. tt) (λ n fit. tt) ends (all_any ns)

abbrev pub at_most_law : Law at_most_at (optional at_most) (λ o. IfSome o any)
at_most_law = if_behind_law word.At (behind_law word.Most number_law)

abbrev pub parts_at_most_law : Law parts_at_most_at (optional parts_at_most) (λ o. IfSome o any)
parts_at_most_law = if_behind_law word.Parts (behind_law word.At (behind_law word.Most number_law))

abbrev pub clear_at_law : Law clear_at_at (optional clear_at) IsMaybeParty
clear_at_law = if_behind_law word.Clear (behind_law word.At party_law)

pub clear_at_end : (o : Option ℕ) → clear_at_law.follows o None
clear_at_end None = tt
clear_at_end (Some p) = tt

pub place_parts : Option ℕ → Option ℕ → ℕ ⊎ Option ℕ
place_parts (Some p) o = inl p
place_parts None o = inr o

abbrev pub place_spelled : ℕ ⊎ Option ℕ → List Token
place_spelled p = spelled_by via (optional clear_at) p

place_there : (x : ℕ ⊎ Option ℕ) → fits_by IsParty IsMaybeParty x
    → (place_parts (via_and_clear_at x).0 (via_and_clear_at x).1 ≡ x) × IsMaybeParty (via_and_clear_at x).0 × IsMaybeParty (via_and_clear_at x).1 × IsNotBoth (via_and_clear_at x).0 (via_and_clear_at x).1
unfolding place_parts
place_there (inl p) fit = (refl, fit, tt, tt)
place_there (inr o) fit = (refl, tt, fit, tt)

place_here : (v c : Option ℕ) → IsMaybeParty v × IsMaybeParty c × IsNotBoth v c → (via_and_clear_at (place_parts v c) ≡ (v, c)) × fits_by IsParty IsMaybeParty (place_parts v c)
unfolding place_parts
place_here None c fit = (refl, fit.1)
place_here (Some p) None fit = (refl, fit.0)
place_here (Some p) (Some q) fit = absurd fit.2

abbrev pub place_fits : Option ℕ × Option ℕ → Type 0
place_fits p = IsMaybeParty p.0 × IsMaybeParty p.1 × IsNotBoth p.0 p.1

pub place_changes : Changes via_and_clear_at (λ p. place_parts p.0 p.1) (fits_by IsParty IsMaybeParty) place_fits
place_changes = record { there = λ x fit. let h = place_there x fit in (h.0, (h.1, h.2, h.3)); here = λ p fit. place_here p.0 p.1 fit }

place_same : (v c : Option ℕ) → IsNotBoth v c → place_spelled (place_parts v c) ≡ optional via v ++ optional clear_at c
unfolding place_parts
place_same None c fit = refl
place_same (Some p) None fit = refl
place_same (Some p) (Some q) fit = absurd fit

pub place_spells : (p : Option ℕ × Option ℕ) → place_fits p → place_spelled (place_parts p.0 p.1) ≡ optional via p.0 ++ optional clear_at p.1
place_spells p fit = place_same p.0 p.1 fit.2

abbrev pub place_law : Law place_at (λ p. optional via p.0 ++ optional clear_at p.1) place_fits
place_law = spelled_law (λ p. optional via p.0 ++ optional clear_at p.1) (mapped_law via_and_clear_at (λ p. place_parts p.0 p.1) place_fits (either_law word.Via party_law clear_at_law) place_changes) place_spells

place_ends : (v c : Option ℕ) → place_law.follows (v, c) None
unfolding place_parts
place_ends (Some p) c = tt
place_ends None None = (tt, tt)
place_ends None (Some q) = (refl, tt)

pub place_end : (p : Option ℕ × Option ℕ) → place_law.follows p None
place_end p = place_ends p.0 p.1

abbrev pub keys_law : Law keys_at keys (AllByRecursion any)
keys_law = list_law word.By (AllByRecursion any) names_law tt
