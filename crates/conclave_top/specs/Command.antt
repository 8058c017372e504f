-- The command lines that are listed forms.
use Rattle.std.specs.Prelude.{ℕ, nat_lt, Bool, true, false, ◌||◌, List, [], ◌∷◌, length, Option, Some, None, option_map, Result, Ok, Err, if◌then◌else◌, codes, bytes_eq}
use Rattle.lanes.specs.declared.party.Party.{Party}
use Rattle.lanes.specs.declared.party.Party.TheVariants.{First, Second, Third}
use Rattle.words.specs.Numbers.{number_of}
use Rattle.words.specs.declared.num.ValueFault.{ValueFault}
use Rattle.conclave_top.specs.declared.audit.Question as lent
use Rattle.conclave_top.specs.declared.command.Form.{Form}
use Rattle.conclave_top.specs.declared.command.Form.TheVariants as forms
use Rattle.conclave_top.specs.Question.{Question}

-- a command, and its words behind the first
pub data Command : Type 0 where
  -- `plain Q`: the answers of the query in the file Q
  plain : List ℕ → Command
  -- `plan Q`: who may know what of that query
  plan : List ℕ → Command
  -- `tape Q SEED T`: the tapes of the seed for that query's plan, in the files of the name T
  tape : List ℕ → ℕ → List ℕ → Command
  -- `run Q T`: the answers and views of that query's plan, with the tapes of the name T
  run : List ℕ → List ℕ → Command
  -- `audit Q PARTY A B T`: the twin of a tape of the name T for that party, from the world in the folder A to that in B
  audit : List ℕ → Question → Command

-- a word with no byte
abbrev pub is_empty : List ℕ → Bool
is_empty [] = true
is_empty (byte ∷ bytes) = false

-- the command of a first word that takes a query's name
abbrev pub command_on : List ℕ → List ℕ → Option Command
command_on word query = if bytes_eq word (codes "plain") then Some (plain query) else if bytes_eq word (codes "plan") then Some (plan query) else None

-- that of one that takes the name of tapes too
abbrev pub command_over : List ℕ → List ℕ → List ℕ → Option Command
command_over word query tapes = if bytes_eq word (codes "run") then Some (run query tapes) else None

-- the number of a seed: 1 to 20 digits whose value fits a word
abbrev pub if_number : Result ℕ ValueFault → Option ℕ
if_number (Ok number) = Some number
if_number (Err fault) = None

abbrev pub seed_of : List ℕ → Option ℕ
seed_of digits = if nat_lt 20 (length digits) then None else if_number (number_of digits)

-- that of one that takes a seed between them
abbrev pub command_from : List ℕ → List ℕ → List ℕ → List ℕ → Option Command
command_from word query seed tapes = if bytes_eq word (codes "tape") then option_map (λ number. tape query number tapes) (seed_of seed) else None

-- the party of a digit
abbrev pub party_named : List ℕ → Option Party
party_named digit = if bytes_eq digit (codes "1") then Some First else if bytes_eq digit (codes "2") then Some Second else if bytes_eq digit (codes "3") then Some Third else None

-- that of one that takes a party and two folders between them
abbrev pub command_between : List ℕ → List ℕ → List ℕ → List ℕ → List ℕ → List ℕ → Option Command
command_between word query digit first second tapes =
    if is_empty query || is_empty first || is_empty second || is_empty tapes then None
    else (if bytes_eq word (codes "audit") then option_map (λ party. audit query (record { party = party; first = first; second = second; tapes = tapes })) (party_named digit) else None)

-- the command that a command line is, if it is a listed form: `plain Q`, `plan Q`, `tape Q SEED T`, `run Q T` or
-- `audit Q PARTY A B T`, Q, A, B and T any words that aren't empty
abbrev pub command_of : List (List ℕ) → Option Command
command_of [] = None
command_of (word ∷ []) = None
command_of (word ∷ query ∷ []) = if is_empty query then None else command_on word query
command_of (word ∷ query ∷ tapes ∷ []) = if is_empty query || is_empty tapes then None else command_over word query tapes
command_of (word ∷ query ∷ seed ∷ tapes ∷ []) = if is_empty query || is_empty tapes then None else command_from word query seed tapes
command_of (word ∷ query ∷ party ∷ first ∷ second ∷ []) = None
command_of (word ∷ query ∷ party ∷ first ∷ second ∷ tapes ∷ []) = command_between word query party first second tapes
command_of (word ∷ query ∷ party ∷ first ∷ second ∷ tapes ∷ more ∷ words) = None

-- what the code asks of an audit
abbrev pub asked_in : lent.Question → Question
asked_in asked = record { party = asked.party; first = asked.first.now; second = asked.second.now; tapes = asked.tapes.now }

-- the command that the code tells by a form
abbrev pub command_in : Form → Command
command_in (forms.Plain query) = plain query.now
command_in (forms.Plan query) = plan query.now
command_in (forms.Tape query seed tapes) = tape query.now seed tapes.now
command_in (forms.Run query tapes) = run query.now tapes.now
command_in (forms.Audit query asked) = audit query.now (asked_in asked)
