-- What is true of the parts of a statement without a fault.
use Rattle.std.proofs.Common.{◌≡◌, ℕ, Bool, true, false, cond, not, ◌&&◌, List, [], ◌∷◌, Option, Some, None, Result, Ok, Err, map, refl, sym, ap, ◌∙◌, subst, arith}
use Rattle.std.specs.Prelude.{◌≢◌}
use Rattle.std.specs.List.{AllByRecursion, AllZip, list_all}
use Rattle.std.specs.Result.{result_unwrap_or}
use Rattle.words.specs.Texts.{packed, text_of}
use Rattle.words.specs.declared.column.Column.{Column}
use Rattle.words.specs.declared.column.Kind.{Kind}
use Rattle.words.specs.declared.column.Kind.TheVariants.{Num, Text, Flag}
use Rattle.words.specs.declared.num.ValueFault.{ValueFault}
use Rattle.query_tokens.specs.Token.{IsToken}
use Rattle.query_text.specs.Spelling.{item, operand, test}
use Rattle.query_text.specs.declared.operand.Op.{Op}
use Rattle.query_text.specs.declared.operand.Op.TheVariants as ops
use Rattle.query_text.specs.declared.operand.OperandText.{OperandText}
use Rattle.query_text.specs.declared.operand.OperandText.TheVariants as operands
use Rattle.query_text.specs.declared.parts.TestText.{TestText}
use Rattle.query_text.specs.declared.parts.ItemText.{ItemText}
use Rattle.query_text.specs.declared.parts.ItemText.TheVariants as items
use Rattle.query_text.specs.declared.parts.AggregateText.{AggregateText}
use Rattle.query_text.specs.declared.parts.AggregateText.TheVariants as aggregates
use Rattle.query_graph.specs.declared.fault.GraphFault.{GraphFault}
use Rattle.query_graph.specs.Columns.{aggregate_column, column, item_column}
use Rattle.query_graph.specs.Faults.{first_fault, first_of, unless}
use Rattle.query_graph.specs.IsGraph.{AreOperandsOf, AreTaken, Gathers, IsColumnOf, IsKey, IsOperandOf, IsTest, Makes}
use Rattle.query_graph.specs.Kinds.{aggregate_fits, item_fits, operand_kind, same_kind, takes, test_fits}
use Rattle.query_graph.specs.Names.{column_kind, column_number, is_column}
use Rattle.query_graph.specs.Operators.{aggregate_of, item_of, operand_of, test_of}
use Rattle.query_graph.specs.Used.{unknown_column, unknown_in_aggregate, unknown_in_item, unknown_in_test, unknown_operand}
use Rattle.query_graph.proofs.Places.{column_at_number, column_within, kind_at_number}
use Rattle.query_graph.proofs.RealTokens.{AreReal}

pub both_none : (a b : Option GraphFault) → first_of a b ≡ None → (a ≡ None) × (b ≡ None)
both_none (Some fault) b passes = absurd cc
both_none None b passes = (refl, passes)

pub both_true : (a b : Bool) → (a && b) ≡ true → (a ≡ true) × (b ≡ true)
both_true true b holds = (refl, holds)
both_true false b holds = absurd cc

pub unless_none : (b : Bool) (fault : GraphFault) → unless b fault ≡ None → b ≡ true
unless_none true fault passes = refl
unless_none false fault passes = absurd cc

pub known_of : (b : Bool) (fault : GraphFault) → cond b None (Some fault) ≡ None → b ≡ true
known_of true fault passes = refl
known_of false fault passes = absurd cc

pub new_of : (b : Bool) (fault : GraphFault) → cond b (Some fault) None ≡ None → b ≡ false
new_of true fault passes = absurd cc
new_of false fault passes = refl

-- of parts of which nothing else is known
pub each_unit : {A : Type 0} (xs : List A) → AllByRecursion (λ (x : A). Unit {0}) xs
each_unit [] = tt
each_unit (x ∷ xs) = (tt, each_unit xs)

-- each part of a list without a fault, of kinds that fit, and of which Q is known
pub all_of : {A B : Type 0} (Q : A → Type 0) (fault : A → Option GraphFault) (fits : A → Bool) (f : A → B) (P : B → Type 0)
    → ((x : A) → Q x → fault x ≡ None → fits x ≡ true → P (f x))
    → (xs : List A) → AllByRecursion Q xs → first_fault fault xs ≡ None → list_all fits xs ≡ true → AllByRecursion P (map f xs)
all_of Q fault fits f P each [] all passes fit = tt
all_of Q fault fits f P each (x ∷ xs) all passes fit =
    let none = both_none (fault x) (first_fault fault xs) passes in
    let both = both_true (fits x) (list_all fits xs) fit in
    (each x all.0 none.0 both.0, all_of Q fault fits f P each xs all.1 none.1 both.1)

-- the same, place by place with what else is made of them
pub zip_of : {A B C : Type 0} (Q : A → Type 0) (fault : A → Option GraphFault) (fits : A → Bool) (f : A → B) (g : A → C) (R : B → C → Type 0)
    → ((x : A) → Q x → fault x ≡ None → fits x ≡ true → R (f x) (g x))
    → (xs : List A) → AllByRecursion Q xs → first_fault fault xs ≡ None → list_all fits xs ≡ true → AllZip R (map f xs) (map g xs)
zip_of Q fault fits f g R each [] all passes fit = tt
zip_of Q fault fits f g R each (x ∷ xs) all passes fit =
    let none = both_none (fault x) (first_fault fault xs) passes in
    let both = both_true (fits x) (list_all fits xs) fit in
    (each x all.0 none.0 both.0, zip_of Q fault fits f g R each xs all.1 none.1 both.1)

pub kind_same : (a b : Kind) → same_kind a b ≡ true → a ≡ b
kind_same Num Num same = refl
kind_same Num Text same = absurd cc
kind_same Num Flag same = absurd cc
kind_same Text Num same = absurd cc
kind_same Text Text same = refl
kind_same Text Flag same = absurd cc
kind_same Flag Num same = absurd cc
kind_same Flag Text same = absurd cc
kind_same Flag Flag same = refl

kind_not_flag : (a : Kind) → not (same_kind a Flag) ≡ true → a ≢ Flag
kind_not_flag Num other = λ same. absurd cc
kind_not_flag Text other = λ same. absurd cc
kind_not_flag Flag other = absurd cc

no_text : text_of [] ≡ Ok 0
unfolding packed
no_text = refl

or_none : (bytes : List ℕ) (r : Result ℕ ValueFault) → text_of bytes ≡ r → (text : List ℕ) × (text_of text ≡ Ok (result_unwrap_or r 0))
or_none bytes (Ok word) is = (bytes, is)
or_none bytes (Err fault) is = ([], no_text)

-- a name that is known to both sides
pub known_column : (line : ℕ) (left right : List Column) (name : List ℕ) → unknown_column line left right name ≡ None
    → (is_column left name ≡ true) × (is_column right name ≡ true)
known_column line left right name passes = both_true (is_column left name) (is_column right name) (known_of _ _ passes)

column_of_kind : (columns : List Column) (name : List ℕ) → is_column columns name ≡ true → IsColumnOf columns (column_kind columns name) (column_number columns name)
column_of_kind columns name known = record { within = column_within columns name known; same = sym (kind_at_number columns name) }

operand_fits : (line : ℕ) (columns : List Column) (o : OperandText) → IsToken (operand o) → unknown_operand line columns columns o ≡ None
    → IsOperandOf columns (operand_kind columns o) (operand_of columns o)
operand_fits line columns (operands.Name name) real passes = column_of_kind columns name (known_column line columns columns name passes).0
operand_fits line columns (operands.Number n) real passes = real
operand_fits line columns (operands.Quoted text) real passes = or_none text (text_of text) refl
operand_fits line columns operands.True real passes = omega arith
operand_fits line columns operands.False real passes = omega arith

-- an operand that is a token, and known
record IsKnownOperand (line : ℕ) (columns : List Column) (o : OperandText) : Type 0 where
  real : IsToken (operand o)
  known : unknown_operand line columns columns o ≡ None

of_kind : (line : ℕ) (columns : List Column) (kind : Kind) (o : OperandText) → IsKnownOperand line columns o → operand_kind columns o ≡ kind
    → IsOperandOf columns kind (operand_of columns o)
of_kind line columns kind o known is = subst (λ k. IsOperandOf columns k (operand_of columns o)) is (operand_fits line columns o known.real known.known)

both_of_kind : (line : ℕ) (columns : List Column) (kind : Kind) (left right : OperandText) → IsKnownOperand line columns left → IsKnownOperand line columns right
    → (same_kind (operand_kind columns left) kind && same_kind (operand_kind columns right) kind) ≡ true
    → AreOperandsOf columns kind (operand_of columns left) (operand_of columns right)
both_of_kind line columns kind left right first second fit =
    let both = both_true (same_kind (operand_kind columns left) kind) (same_kind (operand_kind columns right) kind) fit in
    record {
      left_fits = of_kind line columns kind left first (kind_same _ _ both.0);
      right_fits = of_kind line columns kind right second (kind_same _ _ both.1);
    }

compared : (line : ℕ) (columns : List Column) (left right : OperandText) → IsKnownOperand line columns left → IsKnownOperand line columns right
    → same_kind (operand_kind columns left) (operand_kind columns right) ≡ true
    → (kind : Kind) × AreOperandsOf columns kind (operand_of columns left) (operand_of columns right)
compared line columns left right first second fit = (
  operand_kind columns left,
  record {
    left_fits = of_kind line columns (operand_kind columns left) left first refl;
    right_fits = of_kind line columns (operand_kind columns left) right second (sym (kind_same _ _ fit));
  },
)

taken_fits : (line : ℕ) (columns : List Column) (op : Op) (left right : OperandText) → IsKnownOperand line columns left → IsKnownOperand line columns right
    → takes op (operand_kind columns left) (operand_kind columns right) ≡ true → AreTaken columns op (operand_of columns left) (operand_of columns right)
taken_fits line columns (ops.Compare cmp) left right first second fit = compared line columns left right first second fit
taken_fits line columns ops.Add left right first second fit = both_of_kind line columns Num left right first second fit
taken_fits line columns ops.Sub left right first second fit = both_of_kind line columns Num left right first second fit
taken_fits line columns ops.Mul left right first second fit = both_of_kind line columns Num left right first second fit
taken_fits line columns ops.And left right first second fit = both_of_kind line columns Flag left right first second fit
taken_fits line columns ops.Or left right first second fit = both_of_kind line columns Flag left right first second fit

pub test_is : (line : ℕ) (columns : List Column) (t : TestText) → AreReal (test t) → unknown_in_test line columns columns t ≡ None → test_fits columns t ≡ true
    → IsTest columns (test_of columns t)
test_is line columns t real passes fit =
    let none = both_none (unknown_operand line columns columns t.left) (unknown_operand line columns columns t.right) passes in
    compared line columns t.left t.right (record { real = real.0; known = none.0 }) (record { real = real.1.1.0; known = none.1 }) fit

pub item_makes : (line : ℕ) (columns : List Column) (i : ItemText) → AreReal (item i) → unknown_in_item line columns columns i ≡ None → item_fits columns i ≡ true
    → Makes columns (item_of columns i) (item_column columns i)
item_makes line columns (items.Same name) real passes fit = column_of_kind columns name (known_column line columns columns name passes).0
item_makes line columns (items.Copied new operand) real passes fit = operand_fits line columns operand real.1.1.0 passes
item_makes line columns (items.Computed new left op right) real passes fit =
    let none = both_none (unknown_operand line columns columns left) (unknown_operand line columns columns right) passes in
    (refl, taken_fits line columns op left right (record { real = real.1.1.0; known = none.0 }) (record { real = real.1.1.1.1.0; known = none.1 }) fit)

number_column : (line : ℕ) (columns : List Column) (name : List ℕ) → unknown_column line columns columns name ≡ None → same_kind (column_kind columns name) Num ≡ true
    → IsColumnOf columns Num (column_number columns name)
number_column line columns name passes fit =
    subst (λ k. IsColumnOf columns k (column_number columns name)) (kind_same _ _ fit) (column_of_kind columns name (known_column line columns columns name passes).0)

pub aggregate_gathers : (line : ℕ) (columns : List Column) (aggregate : AggregateText) → unknown_in_aggregate line columns columns aggregate ≡ None
    → aggregate_fits columns aggregate ≡ true → Gathers columns (aggregate_of columns aggregate) (aggregate_column columns aggregate)
aggregate_gathers line columns (aggregates.Sum new name) passes fit = (refl, number_column line columns name passes fit)
aggregate_gathers line columns (aggregates.Count new) passes fit = refl
aggregate_gathers line columns (aggregates.Least new name) passes fit =
    (kind_not_flag _ fit, column_of_kind columns name (known_column line columns columns name passes).0)
aggregate_gathers line columns (aggregates.Greatest new name) passes fit =
    (kind_not_flag _ fit, column_of_kind columns name (known_column line columns columns name passes).0)

pub key_is : (line : ℕ) (left right : List Column) (name : List ℕ) → unknown_column line left right name ≡ None
    → same_kind (column_kind left name) (column_kind right name) ≡ true → IsKey left right (column_number left name, column_number right name)
key_is line left right name passes fit =
    let known = known_column line left right name passes in
    record {
      on_left = column_within left name known.0;
      on_right = column_within right name known.1;
      same = column_at_number left name known.0 ∙ (ap (λ kind. Some (column name kind)) (kind_same _ _ fit) ∙ sym (column_at_number right name known.1));
    }
