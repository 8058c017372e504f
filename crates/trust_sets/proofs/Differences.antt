-- Two worlds have one difference at most.
use Rattle.std.proofs.Common.{◌≡◌, ℕ, List, Option, Some, None, refl, sym, ap, ◌∙◌, subst, inl, inr}
use Rattle.std.specs.Prelude.{slice_get}
use Rattle.std.specs.List.{All}
use Rattle.std.proofs.lemmas.Bool.{cases_order}
use Rattle.std.proofs.lemmas.Option.{get_or_from_slice_get, same_Some, slice_get_within}
use Rattle.query_graph.specs.Content as graph_content
use Rattle.query_graph.specs.declared.flag.Flag.{Flag}
use Rattle.trust_sets.specs.declared.agreement.Differs.{Differs}
use Rattle.trust_sets.specs.declared.agreement.Differs.TheVariants.{OwnFile, Trusted, Excess, Answer}
use Rattle.trust_sets.specs.declared.known.Known.{Known}
use Rattle.trust_sets.specs.Agreement.{Agree, AnswerAgrees, OwnFileAgrees, TrustedPartAgrees}
use Rattle.trust_sets.specs.Differs.{AnswerDiffers, DifferencesAreOne, ExcessDiffers, FirstAnswerDiffers, FirstFails, IsDifference, PlaceAgrees, TrustedDiffers}

first_is_one : (P : ℕ → Type 0) (a b : ℕ) → FirstFails P a → FirstFails P b → a ≡ b
first_is_one P a b at_a at_b = elim (cases_order a b) [
  | inl same ↦ same
  | inr apart ↦ elim apart [ inl below ↦ absurd (at_a.fails (at_b.earlier a below)) | inr above ↦ absurd (at_b.fails (at_a.earlier b above)) ]
]

module _ (graph : graph_content.Content) (known : List Known) (party : ℕ) (world other : List (List (List ℕ))) (excess other_excess : Option Flag) where
  abbrev Is : Option Differs → Type 0
  Is = IsDifference graph known party world other excess other_excess

  -- where all answers agree none differs
  no_answer : (node : ℕ) → FirstAnswerDiffers graph party world other node → All (AnswerAgrees graph.nodes party world other) graph.outputs → ⊥
  no_answer node differs agree = differs.first.fails (λ output at.
      subst (AnswerAgrees graph.nodes party world other) (get_or_from_slice_get graph.outputs differs.place output output at) (agree differs.place output (slice_get_within graph.outputs differs.place output at)))

  answer_is_one : (a b : ℕ) → FirstAnswerDiffers graph party world other a → FirstAnswerDiffers graph party world other b → a ≡ b
  answer_is_one a b p q =
      let places = first_is_one (PlaceAgrees graph party world other) p.place q.place p.first q.first in
      let found = sym p.at ∙ ap (slice_get graph.outputs) places ∙ q.at in
      sym p.is ∙ ap (λ o. o.node) (same_Some p.output q.output found) ∙ q.is

  own_alone : (relation : ℕ) (b : Option Differs) → FirstFails (OwnFileAgrees graph.nodes party world other) relation → Is b → Some (OwnFile relation) ≡ b
  own_alone relation None p q = absurd (p.fails (q.files.own relation))
  own_alone relation (Some (OwnFile r)) p q = ap (λ n. Some (OwnFile n)) (first_is_one (OwnFileAgrees graph.nodes party world other) relation r p q)
  own_alone relation (Some (Trusted r)) p q = absurd (p.fails (q.own relation))
  own_alone relation (Some (Excess first second)) p q = absurd (p.fails (q.files.own relation))
  own_alone relation (Some (Answer node)) p q = absurd (p.fails (q.files.own relation))

  trusted_alone : (relation : ℕ) (b : Option Differs) → TrustedDiffers graph.nodes known party world other relation → Is b → Some (Trusted relation) ≡ b
  trusted_alone relation None p q = absurd (p.first.fails (q.files.trusted relation))
  trusted_alone relation (Some (OwnFile r)) p q = absurd (q.fails (p.own r))
  trusted_alone relation (Some (Trusted r)) p q = ap (λ n. Some (Trusted n)) (first_is_one (TrustedPartAgrees graph.nodes known party world other) relation r p.first q.first)
  trusted_alone relation (Some (Excess first second)) p q = absurd (p.first.fails (q.files.trusted relation))
  trusted_alone relation (Some (Answer node)) p q = absurd (p.first.fails (q.files.trusted relation))

  excess_alone : (first second : Option Flag) (b : Option Differs) → ExcessDiffers graph.nodes known party world other excess other_excess first second → Is b → Some (Excess first second) ≡ b
  excess_alone first second None p q = absurd (p.differ q.same_excess)
  excess_alone first second (Some (OwnFile r)) p q = absurd (q.fails (p.files.own r))
  excess_alone first second (Some (Trusted r)) p q = absurd (q.first.fails (p.files.trusted r))
  excess_alone first second (Some (Excess a b)) p q = ap (λ x. Some (Excess x second)) (p.is_first ∙ sym q.is_first) ∙ ap (λ x. Some (Excess a x)) (p.is_second ∙ sym q.is_second)
  excess_alone first second (Some (Answer node)) p q = absurd (p.differ q.same_excess)

  answer_alone : (node : ℕ) (b : Option Differs) → AnswerDiffers graph known party world other excess other_excess node → Is b → Some (Answer node) ≡ b
  answer_alone node None p q = absurd (no_answer node p.first (q.answers p.none))
  answer_alone node (Some (OwnFile r)) p q = absurd (q.fails (p.files.own r))
  answer_alone node (Some (Trusted r)) p q = absurd (q.first.fails (p.files.trusted r))
  answer_alone node (Some (Excess first second)) p q = absurd (q.differ p.same_excess)
  answer_alone node (Some (Answer n)) p q = ap (λ m. Some (Answer m)) (answer_is_one node n p.first q.first)

  agree_alone : (b : Option Differs) → Agree graph known party world other excess other_excess → Is b → None ≡ b
  agree_alone None p q = refl
  agree_alone (Some (OwnFile r)) p q = absurd (q.fails (p.files.own r))
  agree_alone (Some (Trusted r)) p q = absurd (q.first.fails (p.files.trusted r))
  agree_alone (Some (Excess first second)) p q = absurd (q.differ p.same_excess)
  agree_alone (Some (Answer node)) p q = absurd (no_answer node q.first (p.answers q.none))

  one : (a b : Option Differs) → Is a → Is b → a ≡ b
  one None b p q = agree_alone b p q
  one (Some (OwnFile relation)) b p q = own_alone relation b p q
  one (Some (Trusted relation)) b p q = trusted_alone relation b p q
  one (Some (Excess first second)) b p q = excess_alone first second b p q
  one (Some (Answer node)) b p q = answer_alone node b p q

pub differences_are_one : DifferencesAreOne
differences_are_one graph known party world other excess other_excess a b p q = one graph known party world other excess other_excess a b p q
