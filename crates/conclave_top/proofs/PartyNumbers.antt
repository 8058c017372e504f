-- Parties and their numbers.
use Rattle.std.proofs.Common.{◌≡◌, ◌∙◌, arith, refl, ap, sym}
use Rattle.std.specs.Prelude.{IsTrue}
use Rattle.lanes.specs.Party.{before, next, number_of}
use Rattle.lanes.specs.Three.{at, each}
use Rattle.lanes.specs.declared.party.Party.{Party}
use Rattle.lanes.specs.declared.party.Party.TheVariants.{First, Second, Third}
use Rattle.lanes.specs.declared.three.Three.{Three}
use Rattle.query_text.specs.Parties.{IsParty}
use Rattle.step_lists.specs.Layout.{party_of}
use Rattle.step_lists.specs.Rules.{is_party}

pub party_of_number : (party : Party) → party_of (number_of party) ≡ party
party_of_number First = refl
party_of_number Second = refl
party_of_number Third = refl

pub is_number : (party : Party) → IsTrue (is_party (number_of party))
is_number First = refl
is_number Second = refl
is_number Third = refl

-- parties with one number are one
pub same_number : (a b : Party) → number_of a ≡ number_of b → a ≡ b
same_number a b same = sym (party_of_number a) ∙ ap party_of same ∙ party_of_number b

-- the next party is another one, and so is the one before
pub next_apart : (party : Party) → next party ≡ party → ⊥
next_apart First same = cc
next_apart Second same = cc
next_apart Third same = cc

pub before_apart : (party : Party) → before party ≡ party → ⊥
before_apart First same = cc
before_apart Second same = cc
before_apart Third same = cc

-- a function at each party's value, at one party
pub at_each : {A B : Type 0} (f : A → B) (party : Party) (x : Three A) → at party (each f x) ≡ f (at party x)
at_each f First x = refl
at_each f Second x = refl
at_each f Third x = refl

pub is_a_party : (party : Party) → IsParty (number_of party)
is_a_party First = (omega arith, omega arith)
is_a_party Second = (omega arith, omega arith)
is_a_party Third = (omega arith, omega arith)
