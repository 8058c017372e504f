-- Which statements a text can hold, and which tokens of a line are one.
use Rattle.std.specs.Prelude.{◌≡◌, ℕ, ◌<◌, ◌≤◌, List, [], ◌∷◌, ◌++◌, length, Option, Some, None, IfSome, All, AllPairs}
use Rattle.std.specs.List.{AllByRecursion}
use Rattle.query_tokens.specs.Token.{Token, IsToken}
use Rattle.query_text.specs.declared.parts.ColumnText.{ColumnText}
use Rattle.query_text.specs.declared.statement.Body.{Body}
use Rattle.query_text.specs.declared.statement.Body.TheVariants as bodies
use Rattle.query_text.specs.declared.statement.Statement.{Statement}
use Rattle.query_text.specs.Parties.{IsParty, AreParties}
use Rattle.query_text.specs.Spelling.{spelling}

-- a list with something in it
abbrev pub IsFilled : {A : Type 0} → List A → Type 0
IsFilled [] = ⊥
IsFilled (x ∷ xs) = Unit {0}

-- not both
abbrev pub IsNotBoth : Option ℕ → Option ℕ → Type 0
IsNotBoth None clear_at = Unit {0}
IsNotBoth (Some p) None = Unit {0}
IsNotBoth (Some p) (Some q) = ⊥

-- where a part names a party, it is one
abbrev pub IsMaybeParty : Option ℕ → Type 0
IsMaybeParty p = IfSome p IsParty

-- what the types don't say of a statement's parts: the parties, and how long its lists are
abbrev pub FitsForm : Body → Type 0
FitsForm (bodies.Relation r) = IsParty r.owner × (IsFilled r.columns × AllByRecursion (λ (c : ColumnText). AreParties c.trusted) r.columns) × AreParties r.release
FitsForm (bodies.Filter f) = IsFilled f.tests × IsMaybeParty f.clear_at
FitsForm (bodies.Select s) = IsFilled s.items × IsMaybeParty s.clear_at
FitsForm (bodies.Concat c) = (2 ≤ length c.sources) × (length c.sources ≤ 8)
FitsForm (bodies.Join j) = IsFilled j.keys × IsMaybeParty j.via × IsMaybeParty j.clear_at × IsNotBoth j.via j.clear_at
FitsForm (bodies.Group g) = IsFilled g.aggregates × IsMaybeParty g.via × IsMaybeParty g.clear_at × IsNotBoth g.via g.clear_at
FitsForm (bodies.Distinct d) = IsMaybeParty d.clear_at
FitsForm (bodies.Output o) = IsFilled o.recipients × AreParties o.recipients

-- a statement that a text can hold: its parts fit, and each of its tokens is one
pub record Fits (body : Body) : Type 0 where
  pub form : FitsForm body
  pub real : AllByRecursion IsToken (spelling body)

-- these tokens are this statement
pub record IsStatement (tokens : List Token) (body : Body) : Type 0 where
  pub fits : Fits body
  pub spelled : tokens ≡ spelling body

-- some statement begins with these tokens
pub record IsFront (tokens : List Token) : Type 0 where
  pub body : Body
  pub more : List Token
  pub fits : Fits body
  pub spelled : spelling body ≡ tokens ++ more

-- The tokens of a line stop being a statement where rest begins: what stands before it begins one, but
-- not with rest's first token, and where rest is empty the line ends before its statement is whole.
pub record IsFault (tokens rest : List Token) : Type 0 where
  pub before : List Token
  pub parts : tokens ≡ before ++ rest
  pub front : IsFront before
  pub no_front : (t : Token) (after : List Token) → rest ≡ t ∷ after → IsFront (before ++ t ∷ []) → ⊥
  pub not_whole : (body : Body) → rest ≡ [] → IsStatement tokens body → ⊥

-- the statements of a query: at most 64, each of them fits, and each stands on a later line than those before it
pub record AreStatements (statements : List Statement) : Type 0 where
  pub fit : All (λ (s : Statement). Fits s.body) statements
  pub few : length statements ≤ 64
  pub rise : AllPairs (λ (a b : Statement). a.line < b.line) statements
