-- Reading a line that begins with a name and =.
use Rattle.std.proofs.Common.{◌≡◌, Bool, false, List, Ok, Err, refl, ◌⊎◌, inr}
use Rattle.query_text.specs.Reading.{Read, ◌>>=◌, starts, expect, after, mapped, pair, either}

abbrev changed : {T A B : Type 0} → (A → B) → Read T A → Read T B
changed f x = x >>= λ y. Ok (f y.0, y.1)

abbrev with_name : {T N C : Type 0} → N → C × List T → Read T (N × C)
with_name name y = Ok ((name, y.0), y.1)

pub third_choice : {T A B N C D : Type 0} (t u v : T → Bool) (r : List T → Read T A) (s : List T → Read T B) (n : List T → Read T N) (k : List T → Read T C) (f : A ⊎ (B ⊎ (N × C)) → D)
    (ts : List T) (name : N) (rest behind : List T) → starts t ts ≡ false → starts u ts ≡ false → n ts ≡ Ok (name, rest) → expect v rest ≡ Ok behind
    → mapped f (either t r (either u s (pair n (after v k)))) ts ≡ mapped (λ c. f (inr (inr (name, c)))) k behind
third_choice {T} {A} {B} {N} {C} {D} t u v r s n k f ts name rest behind h i e g = rw (h, i, e, g) (go (k behind))
  where
    second : B ⊎ (N × C) → A ⊎ (B ⊎ (N × C))
    second x = inr x

    third : N × C → B ⊎ (N × C)
    third x = inr x

    go : (x : Read T C) → changed f (changed second (changed third (x >>= with_name name))) ≡ changed (λ c. f (inr (inr (name, c)))) x
    go (Ok x) = refl
    go (Err d) = refl
