-- The one list of tokens by which each statement is spelled.
use Rattle.std.specs.Prelude.{ℕ, List, [], ◌∷◌, ◌++◌, map, Option, Some, None}
use Rattle.std.specs.List.{flat_map}
use Rattle.query_tokens.specs.Token.{Token, name, number, quoted, keyword, sign}
use Rattle.query_tokens.specs.declared.keyword.Keyword.{Keyword}
use Rattle.query_tokens.specs.declared.keyword.Keyword.TheVariants as word
use Rattle.query_tokens.specs.declared.sign.Sign.TheVariants as sign_of
use Rattle.query_text.specs.declared.operand.KindText.{KindText}
use Rattle.query_text.specs.declared.operand.KindText.TheVariants as kinds
use Rattle.query_text.specs.declared.operand.Cmp.{Cmp}
use Rattle.query_text.specs.declared.operand.Cmp.TheVariants as comparisons
use Rattle.query_text.specs.declared.operand.Op.{Op}
use Rattle.query_text.specs.declared.operand.Op.TheVariants as operators
use Rattle.query_text.specs.declared.operand.OperandText.{OperandText}
use Rattle.query_text.specs.declared.operand.OperandText.TheVariants as operands
use Rattle.query_text.specs.declared.parts.ColumnText.{ColumnText}
use Rattle.query_text.specs.declared.parts.TestText.{TestText}
use Rattle.query_text.specs.declared.parts.ItemText.{ItemText}
use Rattle.query_text.specs.declared.parts.ItemText.TheVariants as items
use Rattle.query_text.specs.declared.parts.AggregateText.{AggregateText}
use Rattle.query_text.specs.declared.parts.AggregateText.TheVariants as aggregates
use Rattle.query_text.specs.declared.statement.RelationText.{RelationText}
use Rattle.query_text.specs.declared.statement.FilterText.{FilterText}
use Rattle.query_text.specs.declared.statement.SelectText.{SelectText}
use Rattle.query_text.specs.declared.statement.ConcatText.{ConcatText}
use Rattle.query_text.specs.declared.statement.JoinText.{JoinText}
use Rattle.query_text.specs.declared.statement.GroupText.{GroupText}
use Rattle.query_text.specs.declared.statement.DistinctText.{DistinctText}
use Rattle.query_text.specs.declared.statement.OutputText.{OutputText}
use Rattle.query_text.specs.declared.statement.Body.{Body}
use Rattle.query_text.specs.declared.statement.Body.TheVariants as bodies

-- each spelled behind this token
abbrev pub led : {A T : Type 0} → T → (A → List T) → List A → List T
led separator spell xs = flat_map (λ x. separator ∷ spell x) xs

-- each spelled, with this token between them
abbrev pub separated : {A T : Type 0} → T → (A → List T) → List A → List T
separated separator spell [] = []
separated separator spell (x ∷ xs) = spell x ++ led separator spell xs

-- what may be missing
abbrev pub optional : {A T : Type 0} → (A → List T) → Option A → List T
optional spell None = []
optional spell (Some x) = spell x

-- the numbers of parties, in the order of the list
abbrev pub parties : List ℕ → List Token
parties ps = map number ps

-- a list behind this token, or nothing where it is empty
abbrev pub if_any : {A T : Type 0} → T → (List A → List T) → List A → List T
if_any lead spell [] = []
if_any lead spell (x ∷ xs) = lead ∷ spell (x ∷ xs)

-- a word and the parties behind it, or nothing where there are none
abbrev pub parties_after : Keyword → List ℕ → List Token
parties_after k ps = if_any (keyword k) parties ps

abbrev pub one_name : List ℕ → List Token
one_name n = name n ∷ []

abbrev pub names : List (List ℕ) → List Token
names ns = separated (sign sign_of.Comma) one_name ns

abbrev pub kind_token : KindText → Token
kind_token kinds.Num = keyword word.Num
kind_token kinds.Text = keyword word.Text

abbrev pub comparison : Cmp → Token
comparison comparisons.Eq = sign sign_of.Equal
comparison comparisons.Ne = sign sign_of.NotEqual
comparison comparisons.Lt = sign sign_of.Less
comparison comparisons.Le = sign sign_of.LessEqual
comparison comparisons.Gt = sign sign_of.Greater
comparison comparisons.Ge = sign sign_of.GreaterEqual

abbrev pub operator : Op → Token
operator (operators.Compare c) = comparison c
operator operators.Add = sign sign_of.Plus
operator operators.Sub = sign sign_of.Minus
operator operators.Mul = sign sign_of.Star
operator operators.And = sign sign_of.Ampersand
operator operators.Or = sign sign_of.Bar

abbrev pub operand : OperandText → Token
operand (operands.Name n) = name n
operand (operands.Number n) = number n
operand (operands.Quoted text) = quoted text
operand operands.True = keyword word.True
operand operands.False = keyword word.False

-- C KIND [trust PS]
abbrev pub column : ColumnText → List Token
column c = name c.name ∷ kind_token c.kind ∷ parties_after word.Trust c.trusted

-- OPERAND CMP OPERAND
abbrev pub test : TestText → List Token
test t = operand t.left ∷ comparison t.cmp ∷ operand t.right ∷ []

-- C, or C = OPERAND, or C = OPERAND OP OPERAND
abbrev pub item : ItemText → List Token
item (items.Same c) = name c ∷ []
item (items.Copied c x) = name c ∷ sign sign_of.Assign ∷ operand x ∷ []
item (items.Computed c x o y) = name c ∷ sign sign_of.Assign ∷ operand x ∷ operator o ∷ operand y ∷ []

-- C = sum C, C = count, C = least C, or C = greatest C
abbrev pub aggregate : AggregateText → List Token
aggregate (aggregates.Sum c x) = name c ∷ sign sign_of.Assign ∷ keyword word.Sum ∷ name x ∷ []
aggregate (aggregates.Count c) = name c ∷ sign sign_of.Assign ∷ keyword word.Count ∷ []
aggregate (aggregates.Least c x) = name c ∷ sign sign_of.Assign ∷ keyword word.Least ∷ name x ∷ []
aggregate (aggregates.Greatest c x) = name c ∷ sign sign_of.Assign ∷ keyword word.Greatest ∷ name x ∷ []

-- ( X {, X} )
abbrev pub listed : {A : Type 0} → (A → List Token) → List A → List Token
listed spell xs = sign sign_of.LeftParen ∷ (separated (sign sign_of.Comma) spell xs ++ sign sign_of.RightParen ∷ [])

-- at most K
abbrev pub at_most : ℕ → List Token
at_most k = keyword word.At ∷ keyword word.Most ∷ number k ∷ []

-- parts at most K
abbrev pub parts_at_most : ℕ → List Token
parts_at_most k = keyword word.Parts ∷ at_most k

-- clear at P
abbrev pub clear_at : ℕ → List Token
clear_at p = keyword word.Clear ∷ keyword word.At ∷ number p ∷ []

-- via P
abbrev pub via : ℕ → List Token
via p = keyword word.Via ∷ number p ∷ []

-- [by C {, C}]
abbrev pub keys : List (List ℕ) → List Token
keys cs = if_any (keyword word.By) names cs

-- relation N of P rows K ( COLUMN {, COLUMN} ) [release PS]
abbrev pub relation : RelationText → List Token
relation r = keyword word.Relation ∷ name r.name ∷ keyword word.Of ∷ number r.owner ∷ keyword word.Rows ∷ number r.rows
    ∷ (listed column r.columns ++ parties_after word.Release r.release)

-- N = filter S where TEST {and TEST} [at most K] [clear at P]
abbrev pub filter : FilterText → List Token
filter f = name f.name ∷ sign sign_of.Assign ∷ keyword word.Filter ∷ name f.source ∷ keyword word.Where
    ∷ (separated (keyword word.And) test f.tests ++ (optional at_most f.at_most ++ optional clear_at f.clear_at))

-- N = select S ( ITEM {, ITEM} ) [clear at P]
abbrev pub select : SelectText → List Token
select s = name s.name ∷ sign sign_of.Assign ∷ keyword word.Select ∷ name s.source
    ∷ (listed item s.items ++ optional clear_at s.clear_at)

-- N = concat S S {S}
abbrev pub concat : ConcatText → List Token
concat c = name c.name ∷ sign sign_of.Assign ∷ keyword word.Concat ∷ flat_map one_name c.sources

-- N = join S S on C {, C} [at most K] [via P | clear at P]
abbrev pub join : JoinText → List Token
join j = name j.name ∷ sign sign_of.Assign ∷ keyword word.Join ∷ name j.left ∷ name j.right ∷ keyword word.On
    ∷ (names j.keys ++ (optional at_most j.at_most ++ (optional via j.via ++ optional clear_at j.clear_at)))

-- N = group S [by C {, C}] ( AGG {, AGG} ) [parts at most K] [at most K] [via P | clear at P]
abbrev pub group : GroupText → List Token
group g = name g.name ∷ sign sign_of.Assign ∷ keyword word.Group ∷ name g.source
    ∷ (keys g.keys ++ (listed aggregate g.aggregates ++ (optional parts_at_most g.parts_at_most
    ++ (optional at_most g.at_most ++ (optional via g.via ++ optional clear_at g.clear_at)))))

-- N = distinct S [at most K] [clear at P]
abbrev pub distinct : DistinctText → List Token
distinct d = name d.name ∷ sign sign_of.Assign ∷ keyword word.Distinct ∷ name d.source
    ∷ (optional at_most d.at_most ++ optional clear_at d.clear_at)

-- output N to PS
abbrev pub output : OutputText → List Token
output o = keyword word.Output ∷ name o.node ∷ keyword word.To ∷ parties o.recipients

-- the tokens of a statement
abbrev pub spelling : Body → List Token
spelling (bodies.Relation r) = relation r
spelling (bodies.Filter f) = filter f
spelling (bodies.Select s) = select s
spelling (bodies.Concat c) = concat c
spelling (bodies.Join j) = join j
spelling (bodies.Group g) = group g
spelling (bodies.Distinct d) = distinct d
spelling (bodies.Output o) = output o
