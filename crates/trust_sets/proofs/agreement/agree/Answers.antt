use Rattle.std.proofs.Common.{◌≡◌, ℕ, false, List, Option, Some, None, refl, sym, ap, ◌∙◌, subst}
use Rattle.std.specs.Prelude.{is_some}
use Rattle.std.proofs.lemmas.Bool.{both_ways, false≢true}
use Rattle.query_graph.specs.declared.flag.Flag.{Flag}
use Rattle.query_graph.specs.declared.node.Node.{Node}
use Rattle.plain_meaning.specs.Plain.{rows_of_tables}
use Rattle.trust_sets.specs.declared.known.Known.{Known}
use Rattle.trust_sets.specs.Agreement.{OwnFileAgrees, TrustedPartAgrees}
use Rattle.trust_sets.specs.Differs.{FirstAnswer, FirstFails, FirstFailure}
use Rattle.trust_sets.proofs.agreement.agree.Goals as goal

-- what was found of the nodes as they were lent
module _ (lent nodes : List Node) (known : List Known) (party : ℕ) (world other : List (List (List ℕ))) (same : lent ≡ nodes) where
  own : (found : Option ℕ) → found ≡ None → FirstFailure (OwnFileAgrees lent party world other) found → (number : ℕ) → OwnFileAgrees nodes party world other number
  own found none first = subst (λ n. (number : ℕ) → OwnFileAgrees n party world other number) same (subst (FirstFailure (OwnFileAgrees lent party world other)) none first)

  trusted : (found : Option ℕ) → found ≡ None → FirstFailure (TrustedPartAgrees lent known party world other) found → (number : ℕ) → TrustedPartAgrees nodes known party world other number
  trusted found none first = subst (λ n. (number : ℕ) → TrustedPartAgrees n known party world other number) same (subst (FirstFailure (TrustedPartAgrees lent known party world other)) none first)

  first_trusted : (found : Option ℕ) (relation : ℕ) → found ≡ Some relation → FirstFailure (TrustedPartAgrees lent known party world other) found → FirstFails (TrustedPartAgrees nodes known party world other) relation
  first_trusted found relation some first = subst (λ n. FirstFails (TrustedPartAgrees n known party world other) relation) same (subst (FirstFailure (TrustedPartAgrees lent known party world other)) some first)

none_of : (excess : Option Flag) → is_some excess ≡ false → excess ≡ None
none_of None none = refl
none_of (Some flag) none = absurd (false≢true (sym none))

pub returns-in-Some-2 : goal.returns-in-Some-2
returns-in-Some-2 c =
    let nodes = c.args.graph.now.nodes in
    let known = c.args.trust.now.known in
    let world = rows_of_tables c.args.world.now in
    let other = rows_of_tables c.args.other.now in
    let first = c.deref.ensures.value ∙ c.nodes-nodes.ensures.nodes in
    let second = c.deref-2.ensures.value ∙ c.nodes-nodes.ensures.nodes in
    record {
      own = own c.deref.result.now nodes known c.args.party world other first c.first_own_file.result c.in_default.is c.first_own_file.ensures;
      first = first_trusted c.deref-2.result.now nodes known c.args.party world other second c.in_ok-relation.field-0 c.in-Some-2.relation c.in-Some-2.is c.in_ok-relation.ensures;
    }

pub returns-then-not-same_excess : goal.returns-then-not-same_excess
returns-then-not-same_excess c =
    let nodes = c.args.graph.now.nodes in
    let known = c.args.trust.now.known in
    let world = rows_of_tables c.args.world.now in
    let other = rows_of_tables c.args.other.now in
    let first = c.deref.ensures.value ∙ c.nodes-nodes.ensures.nodes in
    let second = c.deref-2.ensures.value ∙ c.nodes-nodes.ensures.nodes in
    record {
      files = record {
        own = own c.deref.result.now nodes known c.args.party world other first c.first_own_file.result c.in_default.is c.first_own_file.ensures;
        trusted = trusted c.deref-2.result.now nodes known c.args.party world other second c.in_ok-relation.field-0 c.in_default-2.is c.in_ok-relation.ensures;
      };
      is_first = refl;
      is_second = refl;
      differ = λ same. both_ways _ c.if-not-same_excess.true (c.same_excess.ensures.1 same);
    }

pub returns-then-is_some : goal.returns-then-is_some
returns-then-is_some c =
    let nodes = c.args.graph.now.nodes in
    let known = c.args.trust.now.known in
    let world = rows_of_tables c.args.world.now in
    let other = rows_of_tables c.args.other.now in
    let first = c.deref.ensures.value ∙ c.nodes-nodes.ensures.nodes in
    let second = c.deref-2.ensures.value ∙ c.nodes-nodes.ensures.nodes in
    let some = sym c.is_some.ensures ∙ c.if-is_some.true in
    record {
      files = record {
        own = own c.deref.result.now nodes known c.args.party world other first c.first_own_file.result c.in_default.is c.first_own_file.ensures;
        trusted = trusted c.deref-2.result.now nodes known c.args.party world other second c.in_ok-relation.field-0 c.in_default-2.is c.in_ok-relation.ensures;
      };
      same_excess = c.same_excess.ensures.0 c.if-not-same_excess.false;
      answers = λ none. absurd (false≢true (sym (ap is_some none) ∙ some));
    }

pub returns-in-None : goal.returns-in-None
returns-in-None c =
    let nodes = c.args.graph.now.nodes in
    let known = c.args.trust.now.known in
    let world = rows_of_tables c.args.world.now in
    let other = rows_of_tables c.args.other.now in
    let first = c.deref.ensures.value ∙ c.nodes-nodes.ensures.nodes in
    let second = c.deref-2.ensures.value ∙ c.nodes-nodes.ensures.nodes in
    record {
      files = record {
        own = own c.deref.result.now nodes known c.args.party world other first c.first_own_file.result c.in_default.is c.first_own_file.ensures;
        trusted = trusted c.deref-2.result.now nodes known c.args.party world other second c.in_ok-relation.field-0 c.in_default-2.is c.in_ok-relation.ensures;
      };
      same_excess = c.same_excess.ensures.0 c.if-not-same_excess.false;
      answers = λ none. subst (FirstAnswer c.args.graph.now c.args.party world other) c.in-None.is c.in_ok-first_answer.ensures;
    }

pub returns-in-Some-3 : goal.returns-in-Some-3
returns-in-Some-3 c =
    let nodes = c.args.graph.now.nodes in
    let known = c.args.trust.now.known in
    let world = rows_of_tables c.args.world.now in
    let other = rows_of_tables c.args.other.now in
    let first = c.deref.ensures.value ∙ c.nodes-nodes.ensures.nodes in
    let second = c.deref-2.ensures.value ∙ c.nodes-nodes.ensures.nodes in
    record {
      files = record {
        own = own c.deref.result.now nodes known c.args.party world other first c.first_own_file.result c.in_default.is c.first_own_file.ensures;
        trusted = trusted c.deref-2.result.now nodes known c.args.party world other second c.in_ok-relation.field-0 c.in_default-2.is c.in_ok-relation.ensures;
      };
      same_excess = c.same_excess.ensures.0 c.if-not-same_excess.false;
      none = none_of c.args.excess (sym c.is_some.ensures ∙ c.if-is_some.false);
      first = subst (FirstAnswer c.args.graph.now c.args.party world other) c.in-Some-3.is c.in_ok-first_answer.ensures;
    }
