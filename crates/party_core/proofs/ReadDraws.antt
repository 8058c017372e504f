-- Draws that are read one after the other: their words, and the first order among them.
use Rattle.std.proofs.Common.{◌≡◌, ℕ, ◌+◌, ◌<◌, true, false, Option, Some, None, List, [], ◌∷◌, ◌++◌, length, take, drop, length-drop, refl, sym, ap, ◌∙◌, arith}
use Rattle.std.specs.Borrow.{Bor}
use Rattle.std.specs.Prelude.{slice_get, is_some, option_and_then}
use Rattle.std.specs.Option.{option_copied, option_or}
use Rattle.std.proofs.lemmas.List.{take_more, get_or-drop}
use Rattle.std.proofs.lemmas.Option.{slice_get-get_or}
use Rattle.tapes.specs.declared.draw.Draw.{Draw}
use Rattle.tapes.specs.declared.draw.Draw.TheVariants.{Word, Order}
use Rattle.tapes.specs.Reading.{Reading, word_of, order_of, word_at, order_at, moved_past}
use Rattle.step_lists.specs.Draws.{words_in, order_in}
use Rattle.party_core.specs.Read.{AreRead, order_seen}

-- the first order of some draws, where they have one
abbrev pub first_order : List Draw → Option (List ℕ)
first_order [] = None
first_order (Word w ∷ ds) = first_order ds
first_order (Order o ∷ ds) = Some o

first_seen : (ds : List Draw) → order_seen (first_order ds) ≡ order_in ds
first_seen [] = refl
first_seen (Word w ∷ ds) = first_seen ds
first_seen (Order o ∷ ds) = refl

-- with one more word, and with one more order
words_and_word : (ds : List Draw) (w : ℕ) → words_in (ds ++ Word w ∷ []) ≡ words_in ds ++ w ∷ []
words_and_word [] w = refl
words_and_word (Word v ∷ ds) w = ap (λ ws. v ∷ ws) (words_and_word ds w)
words_and_word (Order o ∷ ds) w = words_and_word ds w

order_and_word : (ds : List Draw) (w : ℕ) → first_order (ds ++ Word w ∷ []) ≡ first_order ds
order_and_word [] w = refl
order_and_word (Word v ∷ ds) w = order_and_word ds w
order_and_word (Order o ∷ ds) w = refl

words_and_order : (ds : List Draw) (o : List ℕ) → words_in (ds ++ Order o ∷ []) ≡ words_in ds
words_and_order [] o = refl
words_and_order (Word v ∷ ds) o = ap (λ ws. v ∷ ws) (words_and_order ds o)
words_and_order (Order p ∷ ds) o = words_and_order ds o

order_and_order : (ds : List Draw) (o : List ℕ) → first_order (ds ++ Order o ∷ []) ≡ option_or (first_order ds) (Some o)
order_and_order [] o = refl
order_and_order (Word v ∷ ds) o = order_and_order ds o
order_and_order (Order p ∷ ds) o = refl

-- so many draws from a place on were read: the reader stands behind them, and their words and first order are known
pub record HasRead (tape : List Draw) (place i : ℕ) (r : Reading) (ws : List ℕ) (o : Option (List ℕ)) : Type 0 where
  pub cursor : r ≡ record { draws = tape; place = place + i }
  pub words : ws ≡ words_in (take i (drop place tape))
  pub order : o ≡ first_order (take i (drop place tape))

record NextDraw (tape : List Draw) (place i : ℕ) : Type 0 where
  draw : Draw
  is : slice_get tape (place + i) ≡ Some draw
  more : take (i + 1) (drop place tape) ≡ take i (drop place tape) ++ draw ∷ []

next_draw : (tape : List Draw) (place i : ℕ) → place + i < length tape → NextDraw tape place i
next_draw tape place i h = record {
  draw = _;
  is = slice_get-get_or tape (place + i) (Word 0) h;
  more =
      let long = length-drop place tape in
      take_more (drop place tape) i (Word 0) (omega arith) ∙ ap (λ d. take i (drop place tape) ++ d ∷ []) (get_or-drop place tape i (Word 0));
}

some_none : {A : Type 0} {x : A} → Some x ≡ None → ⊥
some_none h = cc

one_on : (tape : List Draw) (place i : ℕ) (r new : Reading) → new ≡ moved_past r true → r ≡ record { draws = tape; place = place + i }
    → new ≡ record { draws = tape; place = place + (i + 1) }
one_on tape place i r new moved at =
    let e : place + i + 1 ≡ place + (i + 1) = omega arith in moved ∙ ap (λ r. moved_past r true) at ∙ ap (λ n. record { draws = tape; place = n }) e

pub word_read : (tape : List Draw) (place i w : ℕ) (r new : Reading) (ws more : List ℕ) (o : Option (List ℕ)) → place + i < length tape → word_at r ≡ Some w
    → new ≡ moved_past r true → more ≡ ws ++ w ∷ [] → HasRead tape place i r ws o → HasRead tape place (i + 1) new more o
word_read tape place i w r new ws more o h is moved pushed read = by n.draw (sym (ap (option_and_then word_of) n.is) ∙ sym (ap word_at read.cursor) ∙ is) n.more where
  n : NextDraw tape place i
  n = next_draw tape place i h

  ds : List Draw
  ds = take i (drop place tape)

  by : (d : Draw) → word_of d ≡ Some w → take (i + 1) (drop place tape) ≡ ds ++ d ∷ [] → HasRead tape place (i + 1) new more o
  by (Word v) there all =
      let e : w ≡ v = cc in
      record {
        cursor = one_on tape place i r new moved read.cursor;
        words = pushed ∙ ap (λ t. t ++ w ∷ []) read.words ∙ ap (λ v. words_in ds ++ v ∷ []) e ∙ sym (words_and_word ds v) ∙ sym (ap words_in all);
        order = read.order ∙ sym (order_and_word ds v) ∙ sym (ap first_order all);
      }
  by (Order p) there all = absurd (some_none (sym there))

copied_or : (a b : Option (Bor (List ℕ))) → option_copied (option_or a b) ≡ option_or (option_copied a) (option_copied b)
copied_or None b = refl
copied_or (Some x) b = refl

pub order_read : (tape : List Draw) (place i : ℕ) (r one two : Reading) (ws : List ℕ) (order x new : Option (Bor (List ℕ))) → place + i < length tape → word_at r ≡ None
    → one ≡ moved_past r false → option_copied x ≡ order_at one → two ≡ moved_past one (is_some x) → new ≡ option_or order x
    → HasRead tape place i r ws (option_copied order) → HasRead tape place (i + 1) two ws (option_copied new)
order_read tape place i r one two ws order x new h is stays found moved made read = by n.draw at_word at_order n.more where
  n : NextDraw tape place i
  n = next_draw tape place i h

  ds : List Draw
  ds = take i (drop place tape)

  at_word : word_of n.draw ≡ None
  at_word = sym (ap (option_and_then word_of) n.is) ∙ sym (ap word_at read.cursor) ∙ is

  at_order : option_copied x ≡ order_of n.draw
  at_order = found ∙ ap order_at (stays ∙ read.cursor) ∙ ap (option_and_then order_of) n.is

  past : (x : Option (Bor (List ℕ))) (p : List ℕ) → option_copied x ≡ Some p → two ≡ moved_past one (is_some x) → two ≡ moved_past one true
  past None p e moved = absurd (some_none (sym e))
  past (Some b) p e moved = moved

  by : (d : Draw) → word_of d ≡ None → option_copied x ≡ order_of d → take (i + 1) (drop place tape) ≡ ds ++ d ∷ [] → HasRead tape place (i + 1) two ws (option_copied new)
  by (Word v) no_word it all = absurd (some_none no_word)
  by (Order p) no_word it all = record {
    cursor = one_on tape place i one two (past x p it moved) (stays ∙ read.cursor);
    words = read.words ∙ sym (words_and_order ds p) ∙ sym (ap words_in all);
    order =
        ap option_copied made ∙ copied_or order x ∙ ap (λ a. option_or a (option_copied x)) read.order ∙ ap (option_or (first_order ds)) it
        ∙ sym (order_and_order ds p) ∙ sym (ap first_order all);
  }

pub none_read : (tape : List Draw) (place : ℕ) (r : Reading) (ws : List ℕ) (o : Option (List ℕ)) → r ≡ record { draws = tape; place = place } → ws ≡ [] → o ≡ None → HasRead tape place 0 r ws o
none_read tape place r ws o cursor words order = let e : place ≡ place + 0 = omega arith in record { cursor = cursor ∙ ap (λ n. record { draws = tape; place = n }) e; words = words; order = order }

pub all_read : (tape : List Draw) (place i count : ℕ) (r : Reading) (ws : List ℕ) (o : Option (List ℕ)) → i ≡ count → HasRead tape place i r ws o
    → AreRead (take count (drop place tape)) ws (order_seen o)
all_read tape place i count r ws o e read = record {
  words = read.words ∙ ap (λ n. words_in (take n (drop place tape))) e;
  order = ap order_seen read.order ∙ first_seen (take i (drop place tape)) ∙ ap (λ n. order_in (take n (drop place tape))) e;
}
