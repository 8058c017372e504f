-- How each form of statement is read.
use Rattle.std.specs.Prelude.{ℕ, nat_lt, nat_le, Bool, ◌&&◌, List, [], ◌∷◌, Option, Some, None, Result, Ok, is_some, unwrap_or, if◌then◌else◌, ◌⊎◌}
use Rattle.std.proofs.Common.{inl, inr}
use Rattle.query_tokens.specs.Token.{Token, name, number, quoted, keyword, sign, is_keyword, is_sign, name_of, number_of}
use Rattle.query_tokens.specs.declared.keyword.Keyword.{Keyword}
use Rattle.query_tokens.specs.declared.keyword.Keyword.TheVariants as word
use Rattle.query_tokens.specs.declared.sign.Sign.TheVariants as sign_of
use Rattle.query_text.specs.declared.operand.KindText.{KindText}
use Rattle.query_text.specs.declared.operand.KindText.TheVariants as kinds
use Rattle.query_text.specs.declared.operand.Cmp.{Cmp}
use Rattle.query_text.specs.declared.operand.Cmp.TheVariants as comparisons
use Rattle.query_text.specs.declared.operand.Op.{Op}
use Rattle.query_text.specs.declared.operand.Op.TheVariants as operators
use Rattle.query_text.specs.declared.operand.OperandText.{OperandText}
use Rattle.query_text.specs.declared.operand.OperandText.TheVariants as operands
use Rattle.query_text.specs.declared.parts.ColumnText.{ColumnText}
use Rattle.query_text.specs.declared.parts.TestText.{TestText}
use Rattle.query_text.specs.declared.parts.ItemText.{ItemText}
use Rattle.query_text.specs.declared.parts.ItemText.TheVariants as items
use Rattle.query_text.specs.declared.parts.AggregateText.{AggregateText}
use Rattle.query_text.specs.declared.parts.AggregateText.TheVariants as aggregates
use Rattle.query_text.specs.declared.statement.Body.{Body}
use Rattle.query_text.specs.declared.statement.Body.TheVariants as bodies
use Rattle.query_text.specs.Reading.{Read, ◌>>=◌, one, after, mapped, nothing, pair, either, maybe, times, several, ended_by, whole}

-- ---- single tokens

abbrev pub party_of : Token → Option ℕ
party_of (number n) = if nat_lt 0 n && nat_le n 3 then Some n else None
party_of _ = None

abbrev pub kind_of : Token → Option KindText
kind_of (keyword word.Num) = Some kinds.Num
kind_of (keyword word.Text) = Some kinds.Text
kind_of _ = None

abbrev pub comparison_of : Token → Option Cmp
comparison_of (sign sign_of.Equal) = Some comparisons.Eq
comparison_of (sign sign_of.NotEqual) = Some comparisons.Ne
comparison_of (sign sign_of.Less) = Some comparisons.Lt
comparison_of (sign sign_of.LessEqual) = Some comparisons.Le
comparison_of (sign sign_of.Greater) = Some comparisons.Gt
comparison_of (sign sign_of.GreaterEqual) = Some comparisons.Ge
comparison_of _ = None

abbrev pub operator_of : Token → Option Op
operator_of (sign sign_of.Equal) = Some (operators.Compare comparisons.Eq)
operator_of (sign sign_of.NotEqual) = Some (operators.Compare comparisons.Ne)
operator_of (sign sign_of.Less) = Some (operators.Compare comparisons.Lt)
operator_of (sign sign_of.LessEqual) = Some (operators.Compare comparisons.Le)
operator_of (sign sign_of.Greater) = Some (operators.Compare comparisons.Gt)
operator_of (sign sign_of.GreaterEqual) = Some (operators.Compare comparisons.Ge)
operator_of (sign sign_of.Plus) = Some operators.Add
operator_of (sign sign_of.Minus) = Some operators.Sub
operator_of (sign sign_of.Star) = Some operators.Mul
operator_of (sign sign_of.Ampersand) = Some operators.And
operator_of (sign sign_of.Bar) = Some operators.Or
operator_of _ = None

abbrev pub operand_of : Token → Option OperandText
operand_of (name n) = Some (operands.Name n)
operand_of (number n) = Some (operands.Number n)
operand_of (quoted text) = Some (operands.Quoted text)
operand_of (keyword word.True) = Some operands.True
operand_of (keyword word.False) = Some operands.False
operand_of _ = None

-- a reader of tokens
abbrev pub Reader : Type 0 → Type 0
Reader A = List Token → Read Token A

abbrev pub name_at : Reader (List ℕ)
name_at = one name_of

abbrev pub number_at : Reader ℕ
number_at = one number_of

abbrev pub party_at : Reader ℕ
party_at = one party_of

abbrev pub kind_at : Reader KindText
kind_at = one kind_of

abbrev pub comparison_at : Reader Cmp
comparison_at = one comparison_of

abbrev pub operator_at : Reader Op
operator_at = one operator_of

abbrev pub operand_at : Reader OperandText
operand_at = one operand_of

abbrev pub is_name : Token → Bool
is_name t = is_some (name_of t)

abbrev pub is_operator : Token → Bool
is_operator t = is_some (operator_of t)

-- behind this keyword
abbrev pub behind : {A : Type 0} → Keyword → Reader A → Reader A
behind k r = after (is_keyword k) r

-- where this keyword stands, what is behind it
abbrev pub if_behind : {A : Type 0} → Keyword → Reader A → Reader (Option A)
if_behind k r = maybe (is_keyword k) (behind k r)

-- ---- parties

-- a party above this one
abbrev pub party_above : ℕ → Token → Option ℕ
party_above n (number p) = if nat_lt n p && nat_le p 3 then Some p else None
party_above n _ = None

abbrev pub rising_next : {A : Type 0} → (ℕ → A) → A → Option ℕ → A
rising_next f other (Some p) = f p
rising_next f other None = other

-- the parties above this one, in rising order
abbrev pub rising : ℕ → Reader (List ℕ)
rising n [] = Ok ([], [])
rising n (t ∷ ts) = rising_next (λ p. rising p ts >>= λ ps. Ok (p ∷ ps.0, ps.1)) (Ok ([], t ∷ ts)) (party_above n t)

-- one to three parties in rising order
abbrev pub parties_at : Reader (List ℕ)
parties_at ts = do
  p ← party_at ts
  ps ← rising p.0 p.1
  Ok (p.0 ∷ ps.0, ps.1)

abbrev pub list_of : {A : Type 0} → Option (List A) → List A
list_of o = unwrap_or o []

-- [KEYWORD PS]
abbrev pub parties_behind : Keyword → Reader (List ℕ)
parties_behind k = mapped list_of (if_behind k parties_at)

-- ---- parts of statements

abbrev pub column_of : List ℕ × (KindText × List ℕ) → ColumnText
column_of p = record { name = p.0; kind = p.1.0; trusted = p.1.1 }

abbrev pub column_at : Reader ColumnText
column_at = mapped column_of (pair name_at (pair kind_at (parties_behind word.Trust)))

abbrev pub test_of : OperandText × (Cmp × OperandText) → TestText
test_of p = record { left = p.0; cmp = p.1.0; right = p.1.1 }

abbrev pub test_at : Reader TestText
test_at = mapped test_of (pair operand_at (pair comparison_at operand_at))

abbrev pub computed : List ℕ → OperandText → Option (Op × OperandText) → ItemText
computed c x None = items.Copied c x
computed c x (Some q) = items.Computed c x q.0 q.1

abbrev pub assigned : List ℕ → Option (OperandText × Option (Op × OperandText)) → ItemText
assigned c None = items.Same c
assigned c (Some p) = computed c p.0 p.1

abbrev pub item_of : List ℕ × Option (OperandText × Option (Op × OperandText)) → ItemText
item_of p = assigned p.0 p.1

-- OPERAND [OP OPERAND]
abbrev pub value_at : Reader (OperandText × Option (Op × OperandText))
value_at = pair operand_at (maybe is_operator (pair operator_at operand_at))

-- C [= OPERAND [OP OPERAND]]
abbrev pub assigned_at : Reader (List ℕ × Option (OperandText × Option (Op × OperandText)))
assigned_at = pair name_at (maybe (is_sign sign_of.Assign) (after (is_sign sign_of.Assign) value_at))

abbrev pub item_at : Reader ItemText
item_at = mapped item_of assigned_at

-- what an aggregate computes, with its column
abbrev pub Function : Type 0
Function = List ℕ ⊎ (Unit {0} ⊎ (List ℕ ⊎ List ℕ))

abbrev pub function_at : Reader Function
function_at = either (is_keyword word.Sum) (behind word.Sum name_at) (either (is_keyword word.Count) (behind word.Count nothing)
    (either (is_keyword word.Least) (behind word.Least name_at) (behind word.Greatest name_at)))

abbrev pub aggregate_by : List ℕ → Function → AggregateText
aggregate_by c (inl x) = aggregates.Sum c x
aggregate_by c (inr (inl u)) = aggregates.Count c
aggregate_by c (inr (inr (inl x))) = aggregates.Least c x
aggregate_by c (inr (inr (inr x))) = aggregates.Greatest c x

abbrev pub aggregate_of : List ℕ × Function → AggregateText
aggregate_of p = aggregate_by p.0 p.1

abbrev pub aggregate_at : Reader AggregateText
aggregate_at = mapped aggregate_of (pair name_at (after (is_sign sign_of.Assign) function_at))

-- X {, X}
abbrev pub with_commas : {A : Type 0} → Reader A → Reader (List A)
with_commas r = several (is_sign sign_of.Comma) r

-- ( X {, X} )
abbrev pub in_parens : {A : Type 0} → Reader A → Reader (List A)
in_parens r = after (is_sign sign_of.LeftParen) (ended_by (is_sign sign_of.RightParen) (with_commas r))

abbrev pub names_at : Reader (List (List ℕ))
names_at = with_commas name_at

-- most K
abbrev pub most_at : Reader ℕ
most_at = behind word.Most number_at

-- [at most K]
abbrev pub at_most_at : Reader (Option ℕ)
at_most_at = if_behind word.At most_at

-- [parts at most K]
abbrev pub parts_at_most_at : Reader (Option ℕ)
parts_at_most_at = if_behind word.Parts (behind word.At most_at)

-- [clear at P]
abbrev pub clear_at_at : Reader (Option ℕ)
clear_at_at = if_behind word.Clear (behind word.At party_at)

-- the party behind via, and the one behind clear at
abbrev pub via_and_clear_at : ℕ ⊎ Option ℕ → Option ℕ × Option ℕ
via_and_clear_at (inl p) = (Some p, None)
via_and_clear_at (inr o) = (None, o)

-- [via P | clear at P]
abbrev pub place_at : Reader (Option ℕ × Option ℕ)
place_at = mapped via_and_clear_at (either (is_keyword word.Via) (behind word.Via party_at) clear_at_at)

-- [by C {, C}]
abbrev pub keys_at : Reader (List (List ℕ))
keys_at = mapped list_of (if_behind word.By names_at)

-- ---- statements

-- N of P rows K ( COLUMN {, COLUMN} ) [release PS]
abbrev pub relation_at : Reader (List ℕ × (ℕ × (ℕ × (List ColumnText × List ℕ))))
relation_at = pair name_at (behind word.Of (pair party_at (behind word.Rows (pair number_at (pair (in_parens column_at) (parties_behind word.Release))))))

-- S where TEST {and TEST} [at most K] [clear at P]
abbrev pub filter_at : Reader (List ℕ × (List TestText × (Option ℕ × Option ℕ)))
filter_at = pair name_at (behind word.Where (pair (several (is_keyword word.And) test_at) (pair at_most_at clear_at_at)))

-- S ( ITEM {, ITEM} ) [clear at P]
abbrev pub select_at : Reader (List ℕ × (List ItemText × Option ℕ))
select_at = pair name_at (pair (in_parens item_at) clear_at_at)

abbrev pub sources_of : List ℕ × (List ℕ × List (List ℕ)) → List (List ℕ)
sources_of p = p.0 ∷ p.1.0 ∷ p.1.1

-- S S {S}, at most eight
abbrev pub concat_at : Reader (List (List ℕ))
concat_at = mapped sources_of (pair name_at (pair name_at (times 6 is_name name_at)))

-- S S on C {, C} [at most K] [via P | clear at P]
abbrev pub join_at : Reader (List ℕ × (List ℕ × (List (List ℕ) × (Option ℕ × (Option ℕ × Option ℕ)))))
join_at = pair name_at (pair name_at (behind word.On (pair names_at (pair at_most_at place_at))))

-- S [by C {, C}] ( AGG {, AGG} ) [parts at most K] [at most K] [via P | clear at P]
abbrev pub group_at : Reader (List ℕ × (List (List ℕ) × (List AggregateText × (Option ℕ × (Option ℕ × (Option ℕ × Option ℕ))))))
group_at = pair name_at (pair keys_at (pair (in_parens aggregate_at) (pair parts_at_most_at (pair at_most_at place_at))))

-- S [at most K] [clear at P]
abbrev pub distinct_at : Reader (List ℕ × (Option ℕ × Option ℕ))
distinct_at = pair name_at (pair at_most_at clear_at_at)

-- N to PS
abbrev pub output_at : Reader (List ℕ × List ℕ)
output_at = pair name_at (behind word.To parties_at)

abbrev pub relation_of : List ℕ × (ℕ × (ℕ × (List ColumnText × List ℕ))) → Body
relation_of p = bodies.Relation (record { name = p.0; owner = p.1.0; rows = p.1.1.0; columns = p.1.1.1.0; release = p.1.1.1.1 })

abbrev pub filter_of : List ℕ → List ℕ × (List TestText × (Option ℕ × Option ℕ)) → Body
filter_of n p = bodies.Filter (record { name = n; source = p.0; tests = p.1.0; at_most = p.1.1.0; clear_at = p.1.1.1 })

abbrev pub select_of : List ℕ → List ℕ × (List ItemText × Option ℕ) → Body
select_of n p = bodies.Select (record { name = n; source = p.0; items = p.1.0; clear_at = p.1.1 })

abbrev pub concat_of : List ℕ → List (List ℕ) → Body
concat_of n sources = bodies.Concat (record { name = n; sources = sources })

abbrev pub join_of : List ℕ → List ℕ × (List ℕ × (List (List ℕ) × (Option ℕ × (Option ℕ × Option ℕ)))) → Body
join_of n p = bodies.Join (record { name = n; left = p.0; right = p.1.0; keys = p.1.1.0; at_most = p.1.1.1.0; via = p.1.1.1.1.0; clear_at = p.1.1.1.1.1 })

abbrev pub group_of : List ℕ → List ℕ × (List (List ℕ) × (List AggregateText × (Option ℕ × (Option ℕ × (Option ℕ × Option ℕ))))) → Body
group_of n p = bodies.Group (record { name = n; source = p.0; keys = p.1.0; aggregates = p.1.1.0; parts_at_most = p.1.1.1.0; at_most = p.1.1.1.1.0; via = p.1.1.1.1.1.0; clear_at = p.1.1.1.1.1.1 })

abbrev pub distinct_of : List ℕ → List ℕ × (Option ℕ × Option ℕ) → Body
distinct_of n p = bodies.Distinct (record { name = n; source = p.0; at_most = p.1.0; clear_at = p.1.1 })

abbrev pub output_of : List ℕ × List ℕ → Body
output_of p = bodies.Output (record { node = p.0; recipients = p.1 })

-- what stands behind N =
abbrev pub Node : Type 0
Node = (List ℕ × (List TestText × (Option ℕ × Option ℕ))) ⊎ ((List ℕ × (List ItemText × Option ℕ)) ⊎ (List (List ℕ)
    ⊎ ((List ℕ × (List ℕ × (List (List ℕ) × (Option ℕ × (Option ℕ × Option ℕ)))))
    ⊎ ((List ℕ × (List (List ℕ) × (List AggregateText × (Option ℕ × (Option ℕ × (Option ℕ × Option ℕ)))))) ⊎ (List ℕ × (Option ℕ × Option ℕ))))))

abbrev pub node_at : Reader Node
node_at = either (is_keyword word.Filter) (behind word.Filter filter_at) (either (is_keyword word.Select) (behind word.Select select_at)
    (either (is_keyword word.Concat) (behind word.Concat concat_at) (either (is_keyword word.Join) (behind word.Join join_at)
    (either (is_keyword word.Group) (behind word.Group group_at) (behind word.Distinct distinct_at)))))

abbrev pub node_of : List ℕ → Node → Body
node_of n (inl p) = filter_of n p
node_of n (inr (inl p)) = select_of n p
node_of n (inr (inr (inl p))) = concat_of n p
node_of n (inr (inr (inr (inl p)))) = join_of n p
node_of n (inr (inr (inr (inr (inl p))))) = group_of n p
node_of n (inr (inr (inr (inr (inr p))))) = distinct_of n p

-- what stands on a line
abbrev pub Line : Type 0
Line = (List ℕ × (ℕ × (ℕ × (List ColumnText × List ℕ)))) ⊎ ((List ℕ × List ℕ) ⊎ (List ℕ × Node))

abbrev pub line_at : Reader Line
line_at = either (is_keyword word.Relation) (behind word.Relation relation_at) (either (is_keyword word.Output) (behind word.Output output_at)
    (pair name_at (after (is_sign sign_of.Assign) node_at)))

abbrev pub body_of : Line → Body
body_of (inl p) = relation_of p
body_of (inr (inl p)) = output_of p
body_of (inr (inr p)) = node_of p.0 p.1

abbrev pub body_at : Reader Body
body_at = mapped body_of line_at

-- the statement that a line's tokens are, or the tokens from its fault on
abbrev pub statement_at : List Token → Result Body (List Token)
statement_at = whole body_at
