-- The laws of parties: one, and one to three in rising order.
use Rattle.std.proofs.Common.{◌≡◌, ℕ, ◌<◌, ◌≤◌, Bool, true, false, cond, ltb, leb, ◌&&◌, List, [], ◌∷◌, ◌++◌, Option, Some, None, Ok, Err, refl, ap, subst, ◌∙◌, inl, inr, lit≤, lit<}
use Rattle.std.specs.Prelude.{is_some}
use Rattle.std.specs.List.{AllByRecursion}
use Rattle.std.proofs.lemmas.Bool.{ltb-true, lt-ltb, leb-true, le-leb}
use Rattle.query_tokens.specs.Token.{Token, number, sign, IsToken, IsKnown}
use Rattle.query_tokens.specs.declared.sign.Sign.{Sign}
use Rattle.query_text.specs.Reading.{Read, ◌>>=◌}
use Rattle.query_text.specs.Parties.{IsParty, AreRisingAbove, AreParties}
use Rattle.query_text.specs.Forms.{party_of, party_at, party_above, rising_next, rising, parties_at}
use Rattle.query_text.specs.Spelling.{parties}
use Rattle.query_text.specs.Grammar.{IsFilled}
use Rattle.query_text.proofs.ReaderLaw.{first, Refuses, Taken, Stopped, bind_ok, bind_err, ok_is, ok_no_err, single}
use Rattle.query_text.proofs.Lawful.{Law, one_law}

some_is : {A : Type 0} (a b : A) → Some a ≡ Some b → a ≡ b
some_is a b e = cc

both_true : (a b : Bool) → (a && b) ≡ true → (a ≡ true) × (b ≡ true)
both_true true b e = (refl, e)
both_true false b e = absurd cc

-- a test that passed, and the value that it let through
let_through : (b : Bool) (n p : ℕ) → cond b (Some n) None ≡ Some p → (b ≡ true) × (n ≡ p)
let_through true n p e = (refl, some_is n p e)
let_through false n p e = absurd cc

-- between two numbers
in_bounds : (low n : ℕ) → (ltb low n && leb n 3) ≡ true → (low < n) × (n ≤ 3)
in_bounds low n e =
    let b = both_true (ltb low n) (leb n 3) e in
    (ltb-true low n b.0, leb-true n 3 b.1)

pub within_bounds : (low n : ℕ) → low < n → n ≤ 3 → (ltb low n && leb n 3) ≡ true
within_bounds low n above below =
    let a : ltb low n ≡ true = lt-ltb low n above in
    let b : leb n 3 ≡ true = le-leb n 3 below in
    rw (a, b) refl

pub party_reads : (t : Token) (p : ℕ) → party_of t ≡ Some p → (t ≡ number p) × IsParty p
party_reads (number n) p e =
    let h = let_through (ltb 0 n && leb n 3) n p e in
    (ap number h.1, subst IsParty h.1 (in_bounds 0 n h.0))
party_reads _ p e = absurd cc

abbrev pub party_law : Law party_at (single number) IsParty
party_law = one_law party_of number IsParty (record {
  reads = party_reads;
  writes = λ p fit. rw (within_bounds 0 p fit.0 fit.1) refl;
  example = 1;
  fit = (lit< tt, lit≤ tt);
  real = lit< tt;
  known = λ p fit. tt;
})

above_is : (n : ℕ) (t : Token) (p : ℕ) → party_above n t ≡ Some p → (t ≡ number p) × (n < p) × (p ≤ 3)
above_is n (number q) p e =
    let h = let_through (ltb n q && leb q 3) q p e in
    let b = in_bounds n q h.0 in
    (ap number h.1, subst (λ (x : ℕ). n < x) h.1 b.0, subst (λ (x : ℕ). x ≤ 3) h.1 b.1)
above_is n _ p e = absurd cc

no_some : (o : Option ℕ) → is_some o ≡ false → o ≡ None
no_some None e = refl
no_some (Some p) e = absurd cc

-- what comes next isn't a party above the last
abbrev pub rising_follows : ℕ → List ℕ → Option Token → Type 0
rising_follows n [] next = Refuses (λ t. is_some (party_above n t)) next
rising_follows n (p ∷ ps) next = rising_follows p ps next

pub rising_sign : (n : ℕ) (ps : List ℕ) (s : Sign) → rising_follows n ps (Some (sign s))
rising_sign n [] s = refl
rising_sign n (p ∷ ps) s = rising_sign p ps s

pub rising_end : (n : ℕ) (ps : List ℕ) → rising_follows n ps None
rising_end n [] = tt
rising_end n (p ∷ ps) = rising_end p ps

abbrev none_above : List Token → Read Token (List ℕ)
none_above ts = Ok ([], ts)

abbrev with_party : ℕ → List ℕ × List Token → Read Token (List ℕ)
with_party p x = Ok (p ∷ x.0, x.1)

rising_takes : (n : ℕ) (ts : List Token) (x : List ℕ × List Token) → rising n ts ≡ Ok x → Taken parties (AreRisingAbove n) (rising_follows n) ts x
rising_takes n [] x e =
    subst (λ (y : List ℕ × List Token). Taken parties (AreRisingAbove n) (rising_follows n) [] y) (ok_is ([], []) x e) (record { parts = refl; fit = tt; follow = tt })
rising_takes n (t ∷ ts) x e = go (party_above n t) refl e (λ p y h. rising_takes p ts y h)
  where
    go : (o : Option ℕ) → party_above n t ≡ o → rising_next (λ p. rising p ts >>= with_party p) (none_above (t ∷ ts)) o ≡ Ok x
        → ((p : ℕ) (y : List ℕ × List Token) → rising p ts ≡ Ok y → Taken parties (AreRisingAbove p) (rising_follows p) ts y)
        → Taken parties (AreRisingAbove n) (rising_follows n) (t ∷ ts) x
    go None h e ih =
        subst (λ (y : List ℕ × List Token). Taken parties (AreRisingAbove n) (rising_follows n) (t ∷ ts) y) (ok_is ([], t ∷ ts) x e)
        (record { parts = refl; fit = tt; follow = ap is_some h })
    go (Some p) h e ih =
        let a = above_is n t p h in
        let b = bind_ok (rising p ts) (with_party p) x e in
        let q = ih p b.0 b.1 in
        subst (λ (y : List ℕ × List Token). Taken parties (AreRisingAbove n) (rising_follows n) (t ∷ ts) y) (ok_is (p ∷ b.0.0, b.0.1) x b.2)
        (record { parts = ap (λ (u : Token). u ∷ ts) a.0 ∙ ap (λ (l : List Token). number p ∷ l) q.parts; fit = (a.1, a.2, q.fit); follow = q.follow })

rising_goes : (n : ℕ) (ts rest : List Token) → rising n ts ≡ Err rest → ⊥
rising_goes n [] rest e = ok_no_err _ _ e
rising_goes n (t ∷ ts) rest e = go (party_above n t) e (λ p h. rising_goes p ts rest h)
  where
    go : (o : Option ℕ) → rising_next (λ p. rising p ts >>= with_party p) (none_above (t ∷ ts)) o ≡ Err rest → ((p : ℕ) → rising p ts ≡ Err rest → ⊥) → ⊥
    go None e ih = ok_no_err _ _ e
    go (Some p) e ih =
        elim (bind_err (rising p ts) (with_party p) rest e) [
          | inl d ↦ ih p d
          | inr b ↦ ok_no_err _ _ b.2
        ]

rising_again : (n : ℕ) (ps : List ℕ) (rest : List Token) → AreRisingAbove n ps → rising_follows n ps (first rest) → rising n (parties ps ++ rest) ≡ Ok (ps, rest)
rising_again n [] [] fit next = refl
rising_again n [] (t ∷ rest) fit next = rw (no_some (party_above n t) next) refl
rising_again n (p ∷ ps) rest fit next =
    let h : (ltb n p && leb p 3) ≡ true = within_bounds n p fit.0 fit.1 in
    rw (h, rising_again p ps rest fit.2 next) refl

pub parties_known : (ps : List ℕ) → AllByRecursion IsKnown (parties ps)
parties_known [] = tt
parties_known (p ∷ ps) = (tt, parties_known ps)

abbrev pub filled_parties : List ℕ → Type 0
filled_parties ps = IsFilled ps × AreParties ps

pub parties_takes : (ts : List Token) (x : List ℕ × List Token) → parties_at ts ≡ Ok x → Taken parties filled_parties (rising_follows 0) ts x
parties_takes ts x e =
    let a = bind_ok (party_at ts) (λ p. rising p.0 p.1 >>= with_party p.0) x e in
    let b = bind_ok (rising a.0.0 a.0.1) (with_party a.0.0) x a.2 in
    let p = party_law.reads.takes ts a.0 a.1 in
    let q = rising_takes a.0.0 a.0.1 b.0 b.1 in
    subst (λ (y : List ℕ × List Token). Taken parties filled_parties (rising_follows 0) ts y) (ok_is (a.0.0 ∷ b.0.0, b.0.1) x b.2)
    (record { parts = p.parts ∙ ap (λ (l : List Token). number a.0.0 ∷ l) q.parts; fit = (tt, (p.fit.0, p.fit.1, q.fit)); follow = q.follow })

pub parties_again : (ps : List ℕ) (rest : List Token) → filled_parties ps → rising_follows 0 ps (first rest) → parties_at (parties ps ++ rest) ≡ Ok (ps, rest)
parties_again [] rest fit next = absurd fit.0
parties_again (p ∷ ps) rest fit next =
    let h : (ltb 0 p && leb p 3) ≡ true = within_bounds 0 p fit.1.0 fit.1.1 in
    rw (h, rising_again p ps rest fit.1.2 next) refl

pub parties_stops : (ts rest : List Token) → parties_at ts ≡ Err rest → Stopped IsToken parties_at parties filled_parties ts rest
parties_stops ts rest e =
    elim (bind_err (party_at ts) (λ p. rising p.0 p.1 >>= with_party p.0) rest e) [
      | inr a ↦
          elim (bind_err (rising a.0.0 a.0.1) (with_party a.0.0) rest a.2) [
            | inl d ↦ absurd (rising_goes a.0.0 a.0.1 rest d)
            | inr b ↦ absurd (ok_no_err _ _ b.2)
          ]
      | inl d ↦
          let p = party_law.reads.stops ts rest d in
          record {
            good = p.good;
            parts = p.parts;
            goal_value = p.goal_value ∷ [];
            more = p.more;
            fit = (tt, (p.fit.0, p.fit.1, tt));
            spelled = p.spelled;
            real = p.real;
            same = λ t behind h other. rw (p.same t behind h other) refl;
          }
    ]

abbrev pub parties_law : Law parties_at parties filled_parties
parties_law = record {
  follows = rising_follows 0;
  reads = record {
    takes = parties_takes;
    again = parties_again;
    stops = parties_stops;
    sample = record { value = 1 ∷ []; fit = (tt, (lit< tt, lit≤ tt, tt)); real = (lit< tt, tt) };
    known = λ ps fit. parties_known ps;
  };
}
