-- What the steps read of one tape, need after need.
use Rattle.std.proofs.Common.{◌≡◌, ℕ, Some, List, [], ◌∷◌, ◌++◌, replicate, drop, sym, subst, ◌∙◌, ap}
use Rattle.std.proofs.lemmas.List.{append-nil, append_assoc}
use Rattle.lanes.specs.declared.three.Three.{Three}
use Rattle.tapes.specs.declared.draw.Need.{Need}
use Rattle.tapes.specs.declared.draw.Need.TheVariants.{Word as NeedsWord, OrderOf}
use Rattle.tapes.specs.declared.draw.Draw.{Draw}
use Rattle.tapes.specs.Needs.{FitsNeeds}
use Rattle.tapes.specs.Reading.{first_words}
use Rattle.tapes.specs.ReadingLaws.{WordsInBulk}
use Rattle.joint_machine.specs.Left.{first_order, IsNext, Takes}
use Rattle.joint_machine.proofs.Taking.{words_next, takes_words, takes_order}

-- reads in turn, each from what the one before left
pub read_words : WordsInBulk → (n : ℕ) (ns : List Need) (ds ds' : List Draw) (ws vs o : List ℕ) (rest : List Draw) → first_words n ds ≡ Some ws → ds' ≡ drop n ds
    → Takes ns ds' vs o rest → Takes (replicate n NeedsWord ++ ns) ds (ws ++ vs) o rest
read_words bulk n ns ds ds' ws vs o rest e f h = takes_words bulk n ns ds ws vs o rest e (subst (λ ds. Takes ns ds vs o rest) f h)

pub read_order : (n : ℕ) (ns : List Need) (ds ds' : List Draw) (ws o o' : List ℕ) (rest : List Draw) → first_order ds ≡ Some o → ds' ≡ drop 1 ds
    → Takes ns ds' ws o' rest → Takes (OrderOf n ∷ ns) ds ws o rest
read_order n ns ds ds' ws o o' rest e f h = takes_order n ns ds ws o o' rest e (subst (λ ds. Takes ns ds ws o' rest) f h)

pub rest_words : WordsInBulk → (n : ℕ) (ns : List Need) (ds ds' : List Draw) → FitsNeeds (replicate n NeedsWord ++ ns) ds → ds' ≡ drop n ds → FitsNeeds ns ds'
rest_words bulk n ns ds ds' h f = subst (FitsNeeds ns) (sym f) (words_next bulk n ns ds h).rest

-- ---- the needs of one tape in plain form

abbrev pub words : ℕ → List Need
words w = replicate w NeedsWord

pub plain_first : (w n : ℕ) (r : List Need) → (OrderOf n ∷ ((words w ++ []) ++ words w)) ++ r ≡ OrderOf n ∷ (words w ++ (words w ++ r))
plain_first w n r =
    ap (λ ns. OrderOf n ∷ ((ns ++ words w) ++ r)) (append-nil (words w)) ∙ ap (λ ns. OrderOf n ∷ ns) (append_assoc (words w) (words w) r)

pub plain_second : (w n : ℕ) (r : List Need) → (words w ++ (OrderOf n ∷ (words w ++ []))) ++ r ≡ words w ++ (OrderOf n ∷ (words w ++ r))
plain_second w n r =
    ap (λ ns. (words w ++ (OrderOf n ∷ ns)) ++ r) (append-nil (words w)) ∙ append_assoc (words w) (OrderOf n ∷ words w) r

pub plain_third : (w n : ℕ) (r : List Need) → ((words w ++ []) ++ (words w ++ (OrderOf n ∷ []))) ++ r ≡ words w ++ (words w ++ (OrderOf n ∷ r))
plain_third w n r =
    ap (λ ns. (ns ++ (words w ++ (OrderOf n ∷ []))) ++ r) (append-nil (words w))
    ∙ (append_assoc (words w) (words w ++ (OrderOf n ∷ [])) r ∙ ap (λ ns. words w ++ ns) (append_assoc (words w) (OrderOf n ∷ []) r))

pub plain_own : (w : ℕ) (r : List Need) → ((words w ++ []) ++ []) ++ r ≡ words w ++ r
plain_own w r = ap (λ ns. ns ++ r) (append-nil (words w ++ []) ∙ append-nil (words w))

pub plain_share : (w : ℕ) (r : List Need) → (words w ++ []) ++ r ≡ words w ++ r
plain_share w r = ap (λ ns. ns ++ r) (append-nil (words w))

pub plain_earlier : (w : ℕ) (r : List Need) → (words w ++ (words w ++ [])) ++ r ≡ words w ++ (words w ++ r)
plain_earlier w r = append_assoc (words w) (words w ++ []) r ∙ ap (λ ns. words w ++ ns) (plain_share w r)

-- what is next, in plain form
pub next_as : (ns : List Need) (ds : List Draw) (plain : List Need → List Need) → ((r : List Need) → ns ++ r ≡ plain r) → (h : IsNext ns ds) → FitsNeeds (plain h.0) ds
next_as ns ds plain e h = subst (λ ns. FitsNeeds ns ds) (e h.0) h.1

-- and what was taken, back from it
pub takes_as : (ns : List Need) (ds : List Draw) (ws vs o : List ℕ) (rest : List Draw) (plain : List Need → List Need) → ((r : List Need) → ns ++ r ≡ plain r)
    → ws ≡ vs → Takes (plain []) ds ws o rest → Takes ns ds vs o rest
takes_as ns ds ws vs o rest plain e f h =
    subst (λ ns. Takes ns ds vs o rest) (sym (e []) ∙ append-nil ns) (subst (λ ws. Takes (plain []) ds ws o rest) f h)

pub one_end : (a : List ℕ) → a ++ [] ≡ a
one_end a = append-nil a

pub two_end : (a b : List ℕ) → a ++ (b ++ []) ≡ a ++ b
two_end a b = ap (λ b. a ++ b) (append-nil b)

pub same_three : {A : Type 0} (x y : Three A) → x.first ≡ y.first → x.second ≡ y.second → x.third ≡ y.third → x ≡ y
same_three x y a b c =
    ap (λ t. record { first = t; second = x.second; third = x.third }) a
    ∙ (ap (λ t. record { first = y.first; second = t; third = x.third }) b ∙ ap (λ t. record { first = y.first; second = y.second; third = t }) c)
