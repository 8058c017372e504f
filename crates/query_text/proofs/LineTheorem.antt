-- The reader of a line is the grammar of a line: it reads the statements, and it stops at the fault.
use Rattle.std.proofs.Common.{◌≡◌, List, [], ◌∷◌, ◌++◌, Option, Some, Result, Ok, Err, refl, sym, ap, subst, ◌∙◌, ◌⊎◌, inl, inr, append_assoc}
use Rattle.std.specs.List.{AllByRecursion}
use Rattle.std.proofs.lemmas.List.{append-nil}
use Rattle.query_tokens.specs.Token.{Token, IsToken, IsKnown}
use Rattle.query_text.specs.declared.statement.Body.{Body}
use Rattle.query_text.specs.Reading.{◌>>=◌, all_read}
use Rattle.query_text.specs.Forms.{body_at, statement_at}
use Rattle.query_text.specs.Spelling.{spelling}
use Rattle.query_text.specs.Grammar.{FitsForm, IsStatement, IsFront, IsFault}
use Rattle.query_text.proofs.ReaderLaw.{first, bind_ok, bind_err, ok_is, err_is, ok_no_err, AllByRecursion-append}
use Rattle.query_text.proofs.StatementLaws.{body_follows, body_reads, body_end}

-- the tokens of a line: each is a real one, or bad
abbrev pub AreLineTokens : List Token → Type 0
AreLineTokens ts = AllByRecursion (λ t. IsKnown t → IsToken t) ts

real_of : (ts : List Token) → AreLineTokens ts → AllByRecursion IsKnown ts → AllByRecursion IsToken ts
real_of [] h k = tt
real_of (t ∷ ts) h k = (h.0 k.0, real_of ts h.1 k.1)

front_all : {T : Type 0} (P : T → Type 0) (xs ys : List T) → AllByRecursion P (xs ++ ys) → AllByRecursion P xs
front_all P [] ys h = tt
front_all P (x ∷ xs) ys h = (h.0, front_all P xs ys h.1)

-- the tokens before the rest of a line are real where a spelling begins with them
real_front : (ts good rest more : List Token) (b : Body) → AreLineTokens ts → ts ≡ good ++ rest → FitsForm b → spelling b ≡ good ++ more → AllByRecursion IsToken good
real_front ts good rest more b h parts fit spelled =
    real_of good (front_all (λ t. IsKnown t → IsToken t) good rest (subst AreLineTokens parts h)) (front_all IsKnown good more (subst (λ (l : List Token). AllByRecursion IsKnown l) spelled (body_reads.known b fit)))

all_read_ok : (x : Body) (ts : List Token) (b : Body) → all_read x ts ≡ Ok b → (ts ≡ []) × (x ≡ b)
all_read_ok x [] b e = (refl, ok_is x b e)
all_read_ok x (t ∷ ts) b e = absurd cc

all_read_err : (x : Body) (ts rest : List Token) → all_read x ts ≡ Err rest → ts ≡ rest
all_read_err x [] rest e = absurd (ok_no_err _ _ e)
all_read_err x (t ∷ ts) rest e = err_is _ _ e

rest_read : Body × List Token → Result Body (List Token)
rest_read x = all_read x.0 x.1

again_whole : (b : Body) → FitsForm b → body_at (spelling b) ≡ Ok (b, [])
again_whole b fit = subst (λ (l : List Token). body_at l ≡ Ok (b, [])) (append-nil (spelling b)) (body_reads.again b [] fit (body_end b))

pub statement_found : (ts : List Token) (b : Body) → AreLineTokens ts → statement_at ts ≡ Ok b → IsStatement ts b
statement_found ts b h e =
    let x = bind_ok (body_at ts) (λ y. all_read y.0 y.1) b e in
    let a = all_read_ok x.0.0 x.0.1 b x.2 in
    let t = body_reads.takes ts x.0 x.1 in
    let parts : ts ≡ spelling b = t.parts ∙ ap (λ (l : List Token). spelling x.0.0 ++ l) a.0 ∙ append-nil (spelling x.0.0) ∙ ap spelling a.1 in
    let fit : FitsForm b = subst FitsForm a.1 t.fit in
    record {
      fits = record { form = fit; real = real_of (spelling b) (subst AreLineTokens parts h) (body_reads.known b fit) };
      spelled = parts;
    }

pub statement_again : (ts : List Token) (b : Body) → IsStatement ts b → statement_at ts ≡ Ok b
statement_again ts b s = ap statement_at s.spelled ∙ ap (λ (r : Result (Body × List Token) (List Token)). r >>= λ x. all_read x.0 x.1) (again_whole b s.fits.form)

pub statement_fault : (ts rest : List Token) → AreLineTokens ts → statement_at ts ≡ Err rest → IsFault ts rest
statement_fault ts rest h e =
    elim (bind_err (body_at ts) (λ y. all_read y.0 y.1) rest e) [
      | inl d ↦
          let s = body_reads.stops ts rest d in
          record {
            before = s.good;
            parts = s.parts;
            front = record {
              body = s.goal_value;
              more = s.more;
              fits = record {
                form = s.fit;
                real = subst (λ (l : List Token). AllByRecursion IsToken l) (sym s.spelled)
                    (AllByRecursion-append IsToken s.good s.more (real_front ts s.good rest s.more s.goal_value h s.parts s.fit s.spelled) s.real);
              };
              spelled = s.spelled;
            };
            no_front = λ t behind k f.
                let p : spelling f.body ≡ s.good ++ t ∷ f.more = f.spelled ∙ append_assoc s.good (t ∷ []) f.more in
                let read : body_at (s.good ++ t ∷ f.more) ≡ Ok (f.body, []) = ap body_at (sym p) ∙ again_whole f.body f.fits.form in
                let stop = s.same t behind k f.more in
                ok_no_err (f.body, []) (t ∷ f.more) (sym read ∙ stop);
            not_whole = λ b k w. ok_no_err b rest (sym (statement_again ts b w) ∙ e);
          }
      | inr a ↦
          let left = all_read_err a.0.0 a.0.1 rest a.2 in
          let t = body_reads.takes ts a.0 a.1 in
          let parts : ts ≡ spelling a.0.0 ++ rest = t.parts ∙ ap (λ (l : List Token). spelling a.0.0 ++ l) left in
          record {
            before = spelling a.0.0;
            parts = parts;
            front = record {
              body = a.0.0;
              more = [];
              fits = record { form = t.fit; real = real_front ts (spelling a.0.0) rest [] a.0.0 h parts t.fit (sym (append-nil (spelling a.0.0))) };
              spelled = sym (append-nil (spelling a.0.0));
            };
            no_front = λ u behind k f.
                let p : spelling f.body ≡ spelling a.0.0 ++ u ∷ f.more = f.spelled ∙ append_assoc (spelling a.0.0) (u ∷ []) f.more in
                let read : body_at (spelling a.0.0 ++ u ∷ f.more) ≡ Ok (f.body, []) = ap body_at (sym p) ∙ again_whole f.body f.fits.form in
                let next : body_follows a.0.0 (Some u) = subst (λ (o : Option Token). body_follows a.0.0 o) (ap first (left ∙ k)) t.follow in
                let short = body_reads.again a.0.0 (u ∷ f.more) t.fit next in
                let same : (a.0.0, u ∷ f.more) ≡ (f.body, []) = ok_is _ _ (sym short ∙ read) in
                let rests : u ∷ f.more ≡ [] = ap (λ (x : Body × List Token). x.1) same in
                absurd cc;
            not_whole = λ b k w. ok_no_err b rest (sym (statement_again ts b w) ∙ e);
          }
    ]

-- ---- a line has one fault, and none where it is a statement

-- where one list is cut twice, one of the fronts goes on as the other
two_cuts : {T : Type 0} (b b' r r' : List T) → b ++ r ≡ b' ++ r'
    → (r ≡ r') ⊎ (((t : T) × (x : List T) × (b' ≡ b ++ t ∷ x) × (r ≡ t ∷ (x ++ r'))) ⊎ ((t : T) × (x : List T) × (b ≡ b' ++ t ∷ x) × (r' ≡ t ∷ (x ++ r))))
two_cuts [] [] r r' e = inl e
two_cuts [] (y ∷ b') r r' e = inr (inl (y, b', refl, e))
two_cuts (y ∷ b) [] r r' e = inr (inr (y, b, refl, sym e))
two_cuts {T} (y ∷ b) (z ∷ b') r r' e =
    let heads : y ≡ z = cc in
    let tails : b ++ r ≡ b' ++ r' = cc in
    elim (two_cuts b b' r r' tails) [
      | inl s ↦ inl s
      | inr (inl w) ↦ inr (inl (w.0, w.1, rw (heads, w.2) refl, w.3))
      | inr (inr w) ↦ inr (inr (w.0, w.1, rw (heads, w.2) refl, w.3))
    ]

shorter_front : (b : List Token) (t : Token) (x b' : List Token) → b' ≡ b ++ t ∷ x → IsFront b' → IsFront (b ++ t ∷ [])
shorter_front b t x b' e f =
    record {
      body = f.body;
      more = x ++ f.more;
      fits = f.fits;
      spelled = f.spelled ∙ ap (λ (l : List Token). l ++ f.more) e ∙ append_assoc b (t ∷ x) f.more ∙ sym (append_assoc b (t ∷ []) (x ++ f.more));
    }

one_fault : (ts rest rest' : List Token) → IsFault ts rest → IsFault ts rest' → rest ≡ rest'
one_fault ts rest rest' f g =
    elim (two_cuts f.before g.before rest rest' (sym f.parts ∙ g.parts)) [
      | inl s ↦ s
      | inr (inl w) ↦ absurd (f.no_front w.0 (w.1 ++ rest') w.3 (shorter_front f.before w.0 w.1 g.before w.2 g.front))
      | inr (inr w) ↦ absurd (g.no_front w.0 (w.1 ++ rest) w.3 (shorter_front g.before w.0 w.1 f.before w.2 f.front))
    ]

pub no_fault : (ts rest : List Token) (b : Body) → IsStatement ts b → IsFault ts rest → ⊥
no_fault ts [] b s f = f.not_whole b refl s
no_fault ts (t ∷ rest) b s f =
    f.no_front t rest refl (record { body = b; more = rest; fits = s.fits; spelled = sym s.spelled ∙ f.parts ∙ sym (append_assoc f.before (t ∷ []) rest) })

pub fault_statement : (ts rest : List Token) → AreLineTokens ts → IsFault ts rest → statement_at ts ≡ Err rest
fault_statement ts rest h f = go (statement_at ts) refl
  where
    go : (r : Result Body (List Token)) → statement_at ts ≡ r → statement_at ts ≡ Err rest
    go (Ok b) e = absurd (no_fault ts rest b (statement_found ts b h e) f)
    go (Err rest') e = e ∙ ap (λ (l : List Token). Err l) (one_fault ts rest' rest (statement_fault ts rest' h e) f)
