-- The words of a phase in both worlds, and what they differ by.
use Rattle.std.proofs.Common.{◌≡◌, ℕ, suc, ◌*◌, ◌≤◌, Bool, true, false, List, [], ◌∷◌, ◌++◌, length, take, drop, refl, sym, ap, ◌∙◌, arith}
use Rattle.std.specs.Prelude.{if◌then◌else◌}
use Rattle.std.specs.List.{flat_map}
use Rattle.std.proofs.lemmas.List.{take-append-drop, length-take, length-drop}
use Rattle.std.proofs.Math.Nat.{suc-mul}
use Rattle.lanes.specs.declared.party.Party.{Party}
use Rattle.lanes.specs.Lanes.{xors}
use Rattle.lanes.specs.Party.{next, before}
use Rattle.lanes.specs.Three.{at}
use Rattle.step_lists.specs.Phases.{Shares, there_all, back_all}
use Rattle.step_lists.specs.Seen.{same_party}
use Rattle.step_lists.specs.Phases.{reshared_all}
use Rattle.joint_machine.specs.Steps.{IsTurned}
use Rattle.twin.specs.Turning.{AreTurned, phase_change, taken_up}
use Rattle.twin.proofs.Facts.{Facts}
use Rattle.twin.proofs.Phases.{there_words, back_words, there_bare, back_bare, bare_long}

there_long : Facts → (j : Party) (o : List ℕ) (n : ℕ) (s : Shares) → length o ≡ n → length (there_words j o s) ≡ n
there_long facts j o n s e = facts.lengths.pick o (xors (at (before j) s) (at j s)) ∙ e

back_long : Facts → (j : Party) (o : List ℕ) (n : ℕ) (s : Shares) → length o ≡ n → length (back_words j o s) ≡ n
back_long facts j o n s e = facts.lengths.pick o (at (next j) s) ∙ e

nothing_masked : (a : List ℕ) (n : ℕ) → length a ≡ 0 * n → [] ≡ xors [] a
nothing_masked [] n e = refl
nothing_masked (x ∷ a) n e = absurd (omega arith)

record IsCut (n k : ℕ) (a : List ℕ) : Type 0 where
  pub first : length (take n a) ≡ n
  pub rest : length (drop n a) ≡ k * n

cut : (n k : ℕ) (a : List ℕ) → length a ≡ suc k * n → IsCut n k a
cut n k a e =
    let times = suc-mul k n in
    record { first = omega (arith, length-take n a); rest = omega (arith, length-drop n a) }

-- one block behind the other, each under its part of the mask, are all blocks under the whole mask
block : Facts → (n : ℕ) (u us a more : List ℕ) → length u ≡ n → length (take n a) ≡ n → more ≡ xors us (drop n a) → xors u (take n a) ++ more ≡ xors (u ++ us) a
block facts n u us a more e f h =
    ap (λ x. xors u (take n a) ++ x) h
    ∙ (sym (facts.parts.appended u us (take n a) (drop n a) (e ∙ sym f)) ∙ ap (xors (u ++ us)) (take-append-drop n a))

there_masked : Facts → (j : Party) (o : List ℕ) (n : ℕ) (ss : List Shares) (a : List ℕ) → length o ≡ n → length a ≡ length ss * n → there_all j o n ss a ≡ xors (flat_map (there_words j o) ss) a
there_masked facts j o n [] a e h = nothing_masked a n h
there_masked facts j o n (s ∷ ss) a e h =
    let c = cut n (length ss) a h in
    block facts n (there_words j o s) (flat_map (there_words j o) ss) a (there_all j o n ss (drop n a)) (there_long facts j o n s e) c.first (there_masked facts j o n ss (drop n a) e c.rest)

back_masked : Facts → (j : Party) (o : List ℕ) (n : ℕ) (ss : List Shares) (a : List ℕ) → length o ≡ n → length a ≡ length ss * n → back_all j o n ss a ≡ xors (flat_map (back_words j o) ss) a
back_masked facts j o n [] a e h = nothing_masked a n h
back_masked facts j o n (s ∷ ss) a e h =
    let c = cut n (length ss) a h in
    block facts n (back_words j o s) (flat_map (back_words j o) ss) a (back_all j o n ss (drop n a)) (back_long facts j o n s e) c.first (back_masked facts j o n ss (drop n a) e c.rest)

pub there_count : Facts → (j : Party) (o : List ℕ) (n : ℕ) (ss : List Shares) (a : List ℕ) → length o ≡ n → length a ≡ length ss * n → length (there_all j o n ss a) ≡ length ss * n
there_count facts j o n ss a e h =
    let bare = flat_map (there_words j o) ss in
    let long = bare_long (there_words j o) n ss (λ s. there_long facts j o n s e) in
    ap length (there_masked facts j o n ss a e h) ∙ omega (arith, facts.lengths.xor bare a)

pub back_count : Facts → (j : Party) (o : List ℕ) (n : ℕ) (ss : List Shares) (a : List ℕ) → length o ≡ n → length a ≡ length ss * n → length (back_all j o n ss a) ≡ length ss * n
back_count facts j o n ss a e h =
    let bare = flat_map (back_words j o) ss in
    let long = bare_long (back_words j o) n ss (λ s. back_long facts j o n s e) in
    ap length (back_masked facts j o n ss a e h) ∙ omega (arith, facts.lengths.xor bare a)

-- one mask on both comes off
unmasked : Facts → (f g a : List ℕ) → length a ≤ length g → xors (xors f a) (xors g a) ≡ xors f g
unmasked facts f g a le =
    facts.associates f a (xors g a) ∙ ap (xors f) (facts.commutes a (xors g a) ∙ facts.comes_off g a le)

there_differ : Facts → (j : Party) (p q : List ℕ) (n : ℕ) (xs ys : List Shares) (a : List ℕ) → length p ≡ n → length q ≡ n → length ys ≡ length xs → length a ≡ length xs * n
    → xors (there_all j p n xs a) (there_all j q n ys a) ≡ xors (there_all j p n xs []) (there_all j q n ys [])
there_differ facts j p q n xs ys a hp hq e h =
    let f = flat_map (there_words j p) xs in
    let g = flat_map (there_words j q) ys in
    let long = bare_long (there_words j q) n ys (λ s. there_long facts j q n s hq) in
    let le : length a ≤ length g = let k : length ys * n ≡ length xs * n = ap (λ k. k * n) e in omega arith in
    ap (λ x. xors x (there_all j q n ys a)) (there_masked facts j p n xs a hp h)
    ∙ (ap (xors (xors f a)) (there_masked facts j q n ys a hq (h ∙ sym (ap (λ k. k * n) e)))
    ∙ (unmasked facts f g a le
    ∙ (ap (λ x. xors x g) (sym (there_bare j p n xs)) ∙ ap (xors (there_all j p n xs [])) (sym (there_bare j q n ys)))))

back_differ : Facts → (j : Party) (p q : List ℕ) (n : ℕ) (xs ys : List Shares) (a : List ℕ) → length p ≡ n → length q ≡ n → length ys ≡ length xs → length a ≡ length xs * n
    → xors (back_all j p n xs a) (back_all j q n ys a) ≡ xors (back_all j p n xs []) (back_all j q n ys [])
back_differ facts j p q n xs ys a hp hq e h =
    let f = flat_map (back_words j p) xs in
    let g = flat_map (back_words j q) ys in
    let long = bare_long (back_words j q) n ys (λ s. back_long facts j q n s hq) in
    let le : length a ≤ length g = let k : length ys * n ≡ length xs * n = ap (λ k. k * n) e in omega arith in
    ap (λ x. xors x (back_all j q n ys a)) (back_masked facts j p n xs a hp h)
    ∙ (ap (xors (xors f a)) (back_masked facts j q n ys a hq (h ∙ sym (ap (λ k. k * n) e)))
    ∙ (unmasked facts f g a le
    ∙ (ap (λ x. xors x g) (sym (back_bare j p n xs)) ∙ ap (xors (back_all j p n xs [])) (sym (back_bare j q n ys)))))

-- what the code takes: the difference of the masked words of both worlds
abbrev pub masked_change : Party → Party → List ℕ → List ℕ → List ℕ → List ℕ → List ℕ
masked_change v j t t' b b' = if same_party j v then xors t t' else (if same_party j (next v) then xors b b' else [])

choose : (v j : Party) (b c : Bool) (t t' u u' : List ℕ) → (if b then xors t t' else (if c then xors u u' else []))
    ≡ xors (if b then t else (if c then u else [])) (if b then t' else (if c then u' else []))
choose v j true c t t' u u' = refl
choose v j false true t t' u u' = refl
choose v j false false t t' u u' = refl

pub change_is : Facts → (v j : Party) (p q : List ℕ) (n : ℕ) (xs ys : List Shares) (a b : List ℕ) → length p ≡ n → length q ≡ n → length ys ≡ length xs
    → length a ≡ length xs * n → length b ≡ length xs * n
    → masked_change v j (there_all j p n xs a) (there_all j q n ys a) (back_all j p n xs b) (back_all j q n ys b) ≡ phase_change v j p q n xs ys
change_is facts v j p q n xs ys a b hp hq e ha hb =
    ap (λ x. if same_party j v then x else (if same_party j (next v) then xors (back_all j p n xs b) (back_all j q n ys b) else [])) (there_differ facts j p q n xs ys a hp hq e ha)
    ∙ (ap (λ x. if same_party j v then xors (there_all j p n xs []) (there_all j q n ys []) else (if same_party j (next v) then x else [])) (back_differ facts j p q n xs ys b hp hq e hb)
    ∙ choose v j (same_party j v) (same_party j (next v)) (there_all j p n xs []) (there_all j q n ys []) (back_all j p n xs []) (back_all j q n ys []))

-- how long the difference is where the viewer is sent something
pub change_long : Facts → (v j : Party) (w : ℕ) (t t' b b' : List ℕ) → length t ≡ w → length t' ≡ w → length b ≡ w → length b' ≡ w
    → (same_party j v ≡ true → length (masked_change v j t t' b b') ≡ w) × (same_party j (next v) ≡ true → length (masked_change v j t t' b b') ≡ w)
change_long facts v j w t t' b b' e1 e2 e3 e4 = (own, following) where
  there : length (xors t t') ≡ w
  there = omega (arith, facts.lengths.xor t t')

  back : length (xors b b') ≡ w
  back = omega (arith, facts.lengths.xor b b')

  own : same_party j v ≡ true → length (masked_change v j t t' b b') ≡ w
  own h = ap (λ x. length (if x then xors t t' else (if same_party j (next v) then xors b b' else []))) h ∙ there

  following : same_party j (next v) ≡ true → length (masked_change v j t t' b b') ≡ w
  following h = ap (λ x. length (if same_party j v then xors t t' else (if x then xors b b' else []))) h ∙ by (same_party j v) where
    by : (x : Bool) → length (if x then xors t t' else xors b b') ≡ w
    by true = there
    by false = back

-- what a phase of m registers sends, by masks of as many words
pub record IsSent (w : ℕ) (there back : List ℕ) : Type 0 where
  pub there_long : length there ≡ w
  pub back_long : length back ≡ w

pub sent_long : Facts → (j : Party) (o : List ℕ) (n m : ℕ) (ss : List Shares) (a b : List ℕ) (made : List Shares) (t u : List ℕ) → IsTurned j o ss a b made t u
    → length o ≡ n → length ss ≡ m → length a ≡ m * n → length b ≡ m * n → IsSent (m * n) t u
sent_long facts j o n m ss a b made t u h e f ha hb =
    let times : length ss * n ≡ m * n = ap (λ k. k * n) f in
    record {
      there_long = ap length h.there ∙ (ap (λ k. length (there_all j o k ss a)) e ∙ (there_count facts j o n ss a e (ha ∙ sym times) ∙ times));
      back_long = ap length h.back ∙ (ap (λ k. length (back_all j o k ss b)) e ∙ (back_count facts j o n ss b e (hb ∙ sym times) ∙ times));
    }

-- three phases of the code: of the first world, of the second one under the same masks, and of it under the changed ones
pub are_turned : Facts → (v j : Party) (p q : List ℕ) (n m : ℕ) (a b : List ℕ) (xs ys : List Shares) (cs : List ℕ) (xs' zs ys' : List Shares) (t u t' u' d a' b' t'' u'' cs' : List ℕ)
    → length p ≡ n → length q ≡ n → length xs ≡ m → length ys ≡ m → length a ≡ m * n → length b ≡ m * n
    → IsTurned j p xs a b xs' t u → IsTurned j q ys a b zs t' u' → d ≡ masked_change v j t t' u u'
    → a' ≡ taken_up (same_party j v) a d → b' ≡ taken_up (same_party j (next v)) b d → IsTurned j q ys a' b' ys' t'' u'' → cs' ≡ cs ++ d
    → AreTurned v j p q n a b xs ys cs xs' ys' cs'
are_turned facts v j p q n m a b xs ys cs xs' zs ys' t u t' u' d a' b' t'' u'' cs' hp hq hx hy ha hb one tried hd hm ho other hc =
    let times : length xs * n ≡ m * n = ap (λ k. k * n) hx in
    let e1 : t ≡ there_all j p n xs a = one.there ∙ ap (λ k. there_all j p k xs a) hp in
    let e2 : t' ≡ there_all j q n ys a = tried.there ∙ ap (λ k. there_all j q k ys a) hq in
    let e3 : u ≡ back_all j p n xs b = one.back ∙ ap (λ k. back_all j p k xs b) hp in
    let e4 : u' ≡ back_all j q n ys b = tried.back ∙ ap (λ k. back_all j q k ys b) hq in
    let change : d ≡ phase_change v j p q n xs ys =
    hd ∙ (ap (λ x. masked_change v j x t' u u') e1 ∙ (ap (λ x. masked_change v j (there_all j p n xs a) x u u') e2
    ∙ (ap (λ x. masked_change v j (there_all j p n xs a) (there_all j q n ys a) x u') e3
    ∙ (ap (λ x. masked_change v j (there_all j p n xs a) (there_all j q n ys a) (back_all j p n xs b) x) e4
    ∙ change_is facts v j p q n xs ys a b hp hq (hy ∙ sym hx) (ha ∙ sym times) (hb ∙ sym times))))) in
    record {
      one_is = one.made ∙ ap (λ k. reshared_all j p k xs a b) hp;
      other_is =
          other.made
          ∙ (ap (λ k. reshared_all j q k ys a' b') hq
          ∙ (ap (λ x. reshared_all j q n ys x b') (hm ∙ ap (taken_up (same_party j v) a) change)
          ∙ ap (reshared_all j q n ys (taken_up (same_party j v) a (phase_change v j p q n xs ys))) (ho ∙ ap (taken_up (same_party j (next v)) b) change)));
      changes = hc ∙ ap (λ x. cs ++ x) change;
    }
