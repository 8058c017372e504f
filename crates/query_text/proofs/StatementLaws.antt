-- The laws of statements.
use Rattle.std.proofs.Common.{◌≡◌, ℕ, ◌≤◌, ◌<◌, Bool, true, false, List, [], ◌∷◌, ◌++◌, length, Option, Some, None, refl, inl, inr, arith}
use Rattle.std.specs.Prelude.{IfSome}
use Rattle.std.specs.List.{AllByRecursion, flat_map}
use Rattle.query_tokens.specs.Token.{Token, name, number, keyword, sign, IsToken, IsKnown, is_keyword, is_sign}
use Rattle.query_tokens.specs.declared.keyword.Keyword.TheVariants as word
use Rattle.query_tokens.specs.declared.sign.Sign.TheVariants as sign_of
use Rattle.query_text.specs.declared.parts.ColumnText.{ColumnText}
use Rattle.query_text.specs.declared.parts.TestText.{TestText}
use Rattle.query_text.specs.declared.parts.ItemText.{ItemText}
use Rattle.query_text.specs.declared.parts.AggregateText.{AggregateText}
use Rattle.query_text.specs.declared.statement.Body.{Body}
use Rattle.query_text.specs.declared.statement.Body.TheVariants as bodies
use Rattle.query_text.specs.Parties.{IsParty, AreParties}
use Rattle.query_text.specs.Reading.{times, several}
use Rattle.query_text.specs.Forms.{name_at, is_name, test_at, sources_of, relation_at, filter_at, select_at, concat_at, join_at, group_at, distinct_at, output_at, Node, node_at, node_of, Line, line_at, body_of, body_at}
use Rattle.query_text.specs.Spelling.{optional, separated, one_name, parties, parties_after, column, test, item, aggregate, listed, names, keys, at_most, parts_at_most, clear_at, via, spelling}
use Rattle.query_text.specs.Grammar.{IsFilled, IsMaybeParty, FitsForm}
use Rattle.query_text.proofs.ReaderLaw.{first_or, Refuses, freely, Reads}
use Rattle.query_text.proofs.Joined.{spelled_by, fits_by}
use Rattle.query_text.proofs.Repeated.{chain, times_reads, several_free}
use Rattle.query_text.proofs.Lawful.{Law, any, some_any, keyword_fixed, pair_law, behind_law, behind_sign_law, either_law, mapped_law, spelled_law, several_law}
use Rattle.query_text.proofs.PartyLaws.{party_law, parties_law, filled_parties, rising_end}
use Rattle.query_text.proofs.TokenLaws.{name_law, number_law}
use Rattle.query_text.proofs.PartLaws.{parties_behind_law, parties_then_end, columns_law, test_law, test_free, items_law, aggregates_law, names_law, all_any, names_free, at_most_law, parts_at_most_law, clear_at_law, clear_at_end, place_fits, place_law, place_end, keys_law}

-- ---- what the options begin with

clear_first : (check : Token → Bool) (c : Option ℕ) → check (keyword word.Clear) ≡ false → Refuses check (first_or (optional clear_at c) None)
clear_first check None h = tt
clear_first check (Some p) h = h

place_first : (check : Token → Bool) (v c : Option ℕ) → check (keyword word.Via) ≡ false → check (keyword word.Clear) ≡ false → Refuses check (first_or (optional via v ++ optional clear_at c) None)
place_first check None c h k = clear_first check c k
place_first check (Some p) c h k = h

most_first : (check : Token → Bool) (m : Option ℕ) (more : List Token) → check (keyword word.At) ≡ false → Refuses check (first_or more None) → Refuses check (first_or (optional at_most m ++ more) None)
most_first check None more h k = k
most_first check (Some n) more h k = h

parts_first : (check : Token → Bool) (m : Option ℕ) (more : List Token) → check (keyword word.Parts) ≡ false → Refuses check (first_or more None) → Refuses check (first_or (optional parts_at_most m ++ more) None)
parts_first check None more h k = k
parts_first check (Some n) more h k = h

most_then : (m : Option ℕ) (next : Option Token) → Refuses (is_keyword word.At) next → at_most_law.follows m next
most_then None next h = h
most_then (Some n) next h = tt

parts_then : (m : Option ℕ) (next : Option Token) → Refuses (is_keyword word.Parts) next → parts_at_most_law.follows m next
parts_then None next h = h
parts_then (Some n) next h = tt

keys_then : (ks : List (List ℕ)) → keys_law.follows ks (Some (sign sign_of.LeftParen))
keys_then [] = refl
keys_then (k ∷ ks) = names_free (Some (sign sign_of.LeftParen)) (k ∷ ks) refl

-- ---- relations

abbrev Relation : Type 0
Relation = List ℕ × (ℕ × (ℕ × (List ColumnText × List ℕ)))

abbrev relation_spelled : Relation → List Token
relation_spelled p = name p.0 ∷ keyword word.Of ∷ number p.1.0 ∷ keyword word.Rows ∷ number p.1.1.0 ∷ (listed column p.1.1.1.0 ++ parties_after word.Release p.1.1.1.1)

abbrev relation_fits : Relation → Type 0
relation_fits p = Unit {0} × (IsParty p.1.0 × (Unit {0} × ((IsFilled p.1.1.1.0 × AllByRecursion (λ (c : ColumnText). AreParties c.trusted) p.1.1.1.0) × AreParties p.1.1.1.1)))

abbrev relation_law : Law relation_at relation_spelled relation_fits
relation_law = pair_law name_law (behind_law word.Of (pair_law party_law (behind_law word.Rows (pair_law number_law (pair_law columns_law (parties_behind_law word.Release))))))

-- ---- filters

abbrev tests_law : Law (several (is_keyword word.And) test_at) (separated (keyword word.And) test) (λ ts. IsFilled ts × AllByRecursion any ts)
tests_law = several_law (is_keyword word.And) (keyword word.And) (keyword_fixed word.And) test_law

tests_free : (next : Option Token) (ts : List TestText) → Refuses (is_keyword word.And) next → tests_law.follows ts next
tests_free next ts h =
    several_free IsToken IsKnown (is_keyword word.And) (keyword word.And) (keyword_fixed word.And) test_at test any test_law.follows test_law.reads next ts
    (λ t fit. test_free t (Some (keyword word.And))) (λ t fit. test_free t next) h (all_any ts)

abbrev Filter : Type 0
Filter = List ℕ × (List TestText × (Option ℕ × Option ℕ))

abbrev filter_spelled : Filter → List Token
filter_spelled p = name p.0 ∷ keyword word.Where ∷ (separated (keyword word.And) test p.1.0 ++ (optional at_most p.1.1.0 ++ optional clear_at p.1.1.1))

abbrev filter_fits : Filter → Type 0
filter_fits p = Unit {0} × ((IsFilled p.1.0 × AllByRecursion any p.1.0) × (IfSome p.1.1.0 any × IsMaybeParty p.1.1.1))

abbrev filter_law : Law filter_at filter_spelled filter_fits
filter_law = pair_law name_law (behind_law word.Where (pair_law tests_law (pair_law at_most_law clear_at_law)))

filter_end : (p : Filter) → filter_law.follows p None
filter_end p = (
  tt,
  (
    tests_free (first_or (optional at_most p.1.1.0 ++ optional clear_at p.1.1.1) None) p.1.0 (most_first (is_keyword word.And) p.1.1.0 (optional clear_at p.1.1.1) refl (clear_first (is_keyword word.And) p.1.1.1 refl)),
    (most_then p.1.1.0 (first_or (optional clear_at p.1.1.1) None) (clear_first (is_keyword word.At) p.1.1.1 refl), clear_at_end p.1.1.1),
  ),
)

-- ---- selects

abbrev Select : Type 0
Select = List ℕ × (List ItemText × Option ℕ)

abbrev select_spelled : Select → List Token
select_spelled p = name p.0 ∷ (listed item p.1.0 ++ optional clear_at p.1.1)

abbrev select_fits : Select → Type 0
select_fits p = Unit {0} × ((IsFilled p.1.0 × AllByRecursion any p.1.0) × IsMaybeParty p.1.1)

abbrev select_law : Law select_at select_spelled select_fits
select_law = pair_law name_law (pair_law items_law clear_at_law)

-- ---- concats

abbrev Names : Type 0
Names = List (List ℕ)

more_begin : (n : List ℕ) (rest : List Token) → Unit {0} → is_name (name n) ≡ true
more_begin n rest fit = refl

abbrev more_law : Law (times 6 is_name name_at) (flat_map one_name) (λ ns. AllByRecursion any ns × (length ns ≤ 6))
more_law = record {
  follows = λ ns next. chain one_name freely ns next × (length ns < 6 → Refuses is_name next);
  reads = times_reads IsToken IsKnown is_name name_at one_name any freely name_law.reads more_begin 6;
}

chain_any : (ns : Names) (next : Option Token) → chain one_name freely ns next
chain_any [] next = tt
chain_any (n ∷ ns) next = (tt, chain_any ns next)

source_parts : Names → List ℕ × (List ℕ × Names)
source_parts [] = ([], ([], []))
source_parts (a ∷ []) = (a, ([], []))
source_parts (a ∷ b ∷ ns) = (a, (b, ns))

abbrev concat_fits : Names → Type 0
concat_fits ns = (2 ≤ length ns) × (length ns ≤ 8)

abbrev source_fits : List ℕ × (List ℕ × Names) → Type 0
source_fits p = Unit {0} × (Unit {0} × (AllByRecursion any p.1.1 × (length p.1.1 ≤ 6)))

sources_there : (p : List ℕ × (List ℕ × Names)) → source_fits p → (source_parts (sources_of p) ≡ p) × concat_fits (sources_of p)
unfolding source_parts
sources_there p fit = let few : length p.1.1 ≤ 6 = fit.1.1.1 in (refl, (omega arith, omega arith))

sources_here : (ns : Names) → concat_fits ns → (sources_of (source_parts ns) ≡ ns) × source_fits (source_parts ns)
unfolding source_parts
sources_here [] fit = absurd (omega (arith, fit.0))
sources_here (a ∷ []) fit = absurd (omega (arith, fit.0))
sources_here (a ∷ b ∷ ns) fit = (refl, (tt, (tt, (all_any ns, omega (arith, fit.1)))))

sources_same : (ns : Names) → concat_fits ns → name (source_parts ns).0 ∷ name (source_parts ns).1.0 ∷ flat_map one_name (source_parts ns).1.1 ≡ flat_map one_name ns
unfolding source_parts
sources_same [] fit = absurd (omega (arith, fit.0))
sources_same (a ∷ []) fit = absurd (omega (arith, fit.0))
sources_same (a ∷ b ∷ ns) fit = refl

abbrev concat_law : Law concat_at (flat_map one_name) concat_fits
concat_law = spelled_law (flat_map one_name) (mapped_law sources_of source_parts concat_fits (pair_law name_law (pair_law name_law more_law)) (record { there = sources_there; here = sources_here })) sources_same

concat_end : (ns : Names) → concat_law.follows ns None
concat_end ns = (tt, (tt, (chain_any (source_parts ns).1.1 None, λ few. tt)))

-- ---- joins

abbrev Join : Type 0
Join = List ℕ × (List ℕ × (Names × (Option ℕ × (Option ℕ × Option ℕ))))

abbrev join_spelled : Join → List Token
join_spelled p = name p.0 ∷ name p.1.0 ∷ keyword word.On ∷ (names p.1.1.0 ++ (optional at_most p.1.1.1.0 ++ (optional via p.1.1.1.1.0 ++ optional clear_at p.1.1.1.1.1)))

abbrev join_fits : Join → Type 0
join_fits p = Unit {0} × (Unit {0} × ((IsFilled p.1.1.0 × AllByRecursion any p.1.1.0) × (IfSome p.1.1.1.0 any × place_fits p.1.1.1.1)))

abbrev join_law : Law join_at join_spelled join_fits
join_law = pair_law name_law (pair_law name_law (behind_law word.On (pair_law names_law (pair_law at_most_law place_law))))

join_end : (p : Join) → join_law.follows p None
join_end p =
    let places = optional via p.1.1.1.1.0 ++ optional clear_at p.1.1.1.1.1 in (
      tt,
      (
        tt,
        (
          names_free (first_or (optional at_most p.1.1.1.0 ++ places) None) p.1.1.0 (most_first (is_sign sign_of.Comma) p.1.1.1.0 places refl (place_first (is_sign sign_of.Comma) p.1.1.1.1.0 p.1.1.1.1.1 refl refl)),
          (most_then p.1.1.1.0 (first_or places None) (place_first (is_keyword word.At) p.1.1.1.1.0 p.1.1.1.1.1 refl refl), place_end p.1.1.1.1),
        ),
      ),
    )

-- ---- groups

abbrev Group : Type 0
Group = List ℕ × (Names × (List AggregateText × (Option ℕ × (Option ℕ × (Option ℕ × Option ℕ)))))

abbrev group_spelled : Group → List Token
group_spelled p = name p.0 ∷ (keys p.1.0 ++ (listed aggregate p.1.1.0 ++ (optional parts_at_most p.1.1.1.0 ++ (optional at_most p.1.1.1.1.0 ++ (optional via p.1.1.1.1.1.0 ++ optional clear_at p.1.1.1.1.1.1)))))

abbrev group_fits : Group → Type 0
group_fits p = Unit {0} × (AllByRecursion any p.1.0 × ((IsFilled p.1.1.0 × AllByRecursion any p.1.1.0) × (IfSome p.1.1.1.0 any × (IfSome p.1.1.1.1.0 any × place_fits p.1.1.1.1.1))))

abbrev group_law : Law group_at group_spelled group_fits
group_law = pair_law name_law (pair_law keys_law (pair_law aggregates_law (pair_law parts_at_most_law (pair_law at_most_law place_law))))

group_end : (p : Group) → group_law.follows p None
group_end p =
    let places = optional via p.1.1.1.1.1.0 ++ optional clear_at p.1.1.1.1.1.1 in
    let bounds = optional at_most p.1.1.1.1.0 ++ places in (
      tt,
      (
        keys_then p.1.0,
        (
          tt,
          (
            parts_then p.1.1.1.0 (first_or bounds None) (most_first (is_keyword word.Parts) p.1.1.1.1.0 places refl (place_first (is_keyword word.Parts) p.1.1.1.1.1.0 p.1.1.1.1.1.1 refl refl)),
            (most_then p.1.1.1.1.0 (first_or places None) (place_first (is_keyword word.At) p.1.1.1.1.1.0 p.1.1.1.1.1.1 refl refl), place_end p.1.1.1.1.1),
          ),
        ),
      ),
    )

-- ---- distincts and outputs

abbrev Distinct : Type 0
Distinct = List ℕ × (Option ℕ × Option ℕ)

abbrev distinct_spelled : Distinct → List Token
distinct_spelled p = name p.0 ∷ (optional at_most p.1.0 ++ optional clear_at p.1.1)

abbrev distinct_fits : Distinct → Type 0
distinct_fits p = Unit {0} × (IfSome p.1.0 any × IsMaybeParty p.1.1)

abbrev distinct_law : Law distinct_at distinct_spelled distinct_fits
distinct_law = pair_law name_law (pair_law at_most_law clear_at_law)

distinct_end : (p : Distinct) → distinct_law.follows p None
distinct_end p = (tt, (most_then p.1.0 (first_or (optional clear_at p.1.1) None) (clear_first (is_keyword word.At) p.1.1 refl), clear_at_end p.1.1))

abbrev output_law : Law output_at (λ p. name p.0 ∷ keyword word.To ∷ parties p.1) (λ p. Unit {0} × filled_parties p.1)
output_law = pair_law name_law (behind_law word.To parties_law)

-- ---- a node, a line, a statement

abbrev node_fits : Node → Type 0
node_fits n = fits_by filter_fits (fits_by select_fits (fits_by concat_fits (fits_by join_fits (fits_by group_fits distinct_fits)))) n

abbrev node_spelled : Node → List Token
node_spelled n = spelled_by (λ p. keyword word.Filter ∷ filter_spelled p) (spelled_by (λ p. keyword word.Select ∷ select_spelled p) (spelled_by (λ p. keyword word.Concat ∷ flat_map one_name p)
    (spelled_by (λ p. keyword word.Join ∷ join_spelled p) (spelled_by (λ p. keyword word.Group ∷ group_spelled p) (λ p. keyword word.Distinct ∷ distinct_spelled p))))) n

abbrev node_law : Law node_at node_spelled node_fits
node_law = either_law word.Filter filter_law (either_law word.Select select_law (either_law word.Concat concat_law (either_law word.Join join_law (either_law word.Group group_law (behind_law word.Distinct distinct_law)))))

node_end : (n : Node) → node_law.follows n None
node_end (inl p) = filter_end p
node_end (inr (inl p)) = (refl, (tt, (tt, clear_at_end p.1.1)))
node_end (inr (inr (inl p))) = (refl, (refl, concat_end p))
node_end (inr (inr (inr (inl p)))) = (refl, (refl, (refl, join_end p)))
node_end (inr (inr (inr (inr (inl p))))) = (refl, (refl, (refl, (refl, group_end p))))
node_end (inr (inr (inr (inr (inr p))))) = (refl, (refl, (refl, (refl, (refl, distinct_end p)))))

abbrev line_fits : Line → Type 0
line_fits l = fits_by relation_fits (fits_by (λ p. Unit {0} × filled_parties p.1) (λ p. Unit {0} × node_fits p.1)) l

abbrev line_spelled : Line → List Token
line_spelled l = spelled_by (λ p. keyword word.Relation ∷ relation_spelled p) (spelled_by (λ p. keyword word.Output ∷ name p.0 ∷ keyword word.To ∷ parties p.1) (λ p. name p.0 ∷ sign sign_of.Assign ∷ node_spelled p.1)) l

abbrev line_law : Law line_at line_spelled line_fits
line_law = either_law word.Relation relation_law (either_law word.Output output_law (pair_law name_law (behind_sign_law sign_of.Assign node_law)))

line_end : (l : Line) → line_law.follows l None
line_end (inl p) = (tt, (tt, (tt, (tt, parties_then_end word.Release p.1.1.1.1))))
line_end (inr (inl p)) = (refl, (tt, rising_end 0 p.1))
line_end (inr (inr p)) = (refl, (refl, (tt, node_end p.1)))

line_of : Body → Line
line_of (bodies.Relation r) = inl (r.name, (r.owner, (r.rows, (r.columns, r.release))))
line_of (bodies.Filter f) = inr (inr (f.name, inl (f.source, (f.tests, (f.at_most, f.clear_at)))))
line_of (bodies.Select s) = inr (inr (s.name, inr (inl (s.source, (s.items, s.clear_at)))))
line_of (bodies.Concat c) = inr (inr (c.name, inr (inr (inl c.sources))))
line_of (bodies.Join j) = inr (inr (j.name, inr (inr (inr (inl (j.left, (j.right, (j.keys, (j.at_most, (j.via, j.clear_at))))))))))
line_of (bodies.Group g) = inr (inr (g.name, inr (inr (inr (inr (inl (g.source, (g.keys, (g.aggregates, (g.parts_at_most, (g.at_most, (g.via, g.clear_at))))))))))))
line_of (bodies.Distinct d) = inr (inr (d.name, inr (inr (inr (inr (inr (d.source, (d.at_most, d.clear_at))))))))
line_of (bodies.Output o) = inr (inl (o.node, o.recipients))

node_there : (n : List ℕ) (x : Node) → node_fits x → (line_of (node_of n x) ≡ inr (inr (n, x))) × FitsForm (node_of n x)
unfolding line_of
node_there n (inl p) fit = (refl, (fit.1.0.0, fit.1.1.1))
node_there n (inr (inl p)) fit = (refl, (fit.1.0.0, fit.1.1))
node_there n (inr (inr (inl p))) fit = (refl, fit)
node_there n (inr (inr (inr (inl p)))) fit = (refl, (fit.1.1.0.0, fit.1.1.1.1.0, fit.1.1.1.1.1, fit.1.1.1.1.2))
node_there n (inr (inr (inr (inr (inl p))))) fit = (refl, (fit.1.1.0.0, fit.1.1.1.1.1.0, fit.1.1.1.1.1.1, fit.1.1.1.1.1.2))
node_there n (inr (inr (inr (inr (inr p))))) fit = (refl, fit.1.1)

line_there : (l : Line) → line_fits l → (line_of (body_of l) ≡ l) × FitsForm (body_of l)
unfolding line_of
line_there (inl p) fit = (refl, (fit.1.0, fit.1.1.1.0, fit.1.1.1.1))
line_there (inr (inl p)) fit = (refl, (fit.1.0, fit.1.1))
line_there (inr (inr p)) fit = node_there p.0 p.1 fit.1

line_here : (b : Body) → FitsForm b → (body_of (line_of b) ≡ b) × line_fits (line_of b)
unfolding line_of
line_here (bodies.Relation r) fit = (refl, (tt, (fit.0, (tt, (fit.1, fit.2)))))
line_here (bodies.Filter f) fit = (refl, (tt, (tt, ((fit.0, all_any f.tests), (some_any f.at_most, fit.1)))))
line_here (bodies.Select s) fit = (refl, (tt, (tt, ((fit.0, all_any s.items), fit.1))))
line_here (bodies.Concat c) fit = (refl, (tt, fit))
line_here (bodies.Join j) fit = (refl, (tt, (tt, (tt, ((fit.0, all_any j.keys), (some_any j.at_most, (fit.1, fit.2, fit.3)))))))
line_here (bodies.Group g) fit = (refl, (tt, (tt, (all_any g.keys, ((fit.0, all_any g.aggregates), (some_any g.parts_at_most, (some_any g.at_most, (fit.1, fit.2, fit.3))))))))
line_here (bodies.Distinct d) fit = (refl, (tt, (tt, (some_any d.at_most, fit))))
line_here (bodies.Output o) fit = (refl, (tt, fit))

line_same : (b : Body) → FitsForm b → line_spelled (line_of b) ≡ spelling b
unfolding line_of
line_same (bodies.Relation r) fit = refl
line_same (bodies.Filter f) fit = refl
line_same (bodies.Select s) fit = refl
line_same (bodies.Concat c) fit = refl
line_same (bodies.Join j) fit = refl
line_same (bodies.Group g) fit = refl
line_same (bodies.Distinct d) fit = refl
line_same (bodies.Output o) fit = refl

abbrev body_law : Law body_at spelling FitsForm
body_law = spelled_law spelling (mapped_law body_of line_of FitsForm line_law (record { there = line_there; here = line_here })) line_same

pub body_follows : Body → Option Token → Type 0
body_follows b next = body_law.follows b next

pub body_reads : Reads IsToken IsKnown body_at spelling FitsForm body_follows
unfolding body_follows
body_reads = body_law.reads

pub body_end : (b : Body) → body_follows b None
unfolding body_follows
body_end b = line_end (line_of b)
