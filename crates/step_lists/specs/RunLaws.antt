-- The one run over steps that are appended, and the one induction that relates two runs: lemmas with their proofs, for
-- the crates above.
use Rattle.std.proofs.Common.{◌≡◌, List, [], ◌∷◌, ◌++◌, refl, sym, ap, ◌∙◌}
use Rattle.std.proofs.lemmas.List.{append_assoc}
use Rattle.step_lists.specs.Layout.{Step, Layout, grown, grown_by}
use Rattle.step_lists.specs.Run.{Cut, run, outs, rest_after}

pub grown_by-append : {T : Type 0} (l : Layout) (xs ys : List (Step T)) → grown_by l (xs ++ ys) ≡ grown_by (grown_by l xs) ys
grown_by-append l [] ys = refl
grown_by-append l (x ∷ xs) ys = grown_by-append (grown l x) xs ys

pub rest_after-append : {T I : Type 0} (cut : Cut T I) (l : Layout) (xs ys : List (Step T)) (i : I)
    → rest_after cut l (xs ++ ys) i ≡ rest_after cut (grown_by l xs) ys (rest_after cut l xs i)
rest_after-append cut l [] ys i = refl
rest_after-append cut l (x ∷ xs) ys i = rest_after-append cut (grown l x) xs ys (cut.rest l x i)

pub run-append : {T A I : Type 0} (f : Layout → A → Step T → I → A) (cut : Cut T I) (l : Layout) (a : A) (xs ys : List (Step T)) (i : I)
    → run f cut l a (xs ++ ys) i ≡ run f cut (grown_by l xs) (run f cut l a xs i) ys (rest_after cut l xs i)
run-append f cut l a [] ys i = refl
run-append f cut l a (x ∷ xs) ys i = run-append f cut (grown l x) (f l a x (cut.first l x i)) xs ys (cut.rest l x i)

pub outs-append : {T A I O : Type 0} (f : Layout → A → Step T → I → A) (g : Layout → A → Step T → I → List O) (cut : Cut T I) (l : Layout) (a : A)
    (xs ys : List (Step T)) (i : I)
    → outs f g cut l a (xs ++ ys) i ≡ outs f g cut l a xs i ++ outs f g cut (grown_by l xs) (run f cut l a xs i) ys (rest_after cut l xs i)
outs-append f g cut l a [] ys i = refl
outs-append f g cut l a (x ∷ xs) ys i =
    ap (λ rest. g l a x (cut.first l x i) ++ rest) (outs-append f g cut (grown l x) (f l a x (cut.first l x i)) xs ys (cut.rest l x i))
    ∙ sym (append_assoc (g l a x (cut.first l x i)) (outs f g cut (grown l x) (f l a x (cut.first l x i)) xs (cut.rest l x i))
    (outs f g cut (grown_by (grown l x) xs) (run f cut (grown l x) (f l a x (cut.first l x i)) xs (cut.rest l x i)) ys (rest_after cut (grown l x) xs (cut.rest l x i))))

-- what holds of two runs before each step holds behind all of them; it may speak of the steps and the inputs that are
-- still to come
pub related : {T A B I J : Type 0} (f : Layout → A → Step T → I → A) (cut : Cut T I) (g : Layout → B → Step T → J → B) (cut' : Cut T J)
    (R : Layout → List (Step T) → A → I → B → J → Type 0)
    → ((l : Layout) (s : Step T) (ss : List (Step T)) (a : A) (i : I) (b : B) (j : J)
    → R l (s ∷ ss) a i b j → R (grown l s) ss (f l a s (cut.first l s i)) (cut.rest l s i) (g l b s (cut'.first l s j)) (cut'.rest l s j))
    → (l : Layout) (ss : List (Step T)) (a : A) (i : I) (b : B) (j : J)
    → R l ss a i b j → R (grown_by l ss) [] (run f cut l a ss i) (rest_after cut l ss i) (run g cut' l b ss j) (rest_after cut' l ss j)
related f cut g cut' R step l [] a i b j h = h
related f cut g cut' R step l (s ∷ ss) a i b j h =
    related f cut g cut' R step (grown l s) ss (f l a s (cut.first l s i)) (cut.rest l s i) (g l b s (cut'.first l s j)) (cut'.rest l s j)
    (step l s ss a i b j h)
