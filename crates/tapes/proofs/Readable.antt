-- Bytes are a tape or have a first fault.
use Rattle.std.proofs.Common.{◌≡◌, ℕ, suc, zero, ◌+◌, ◌*◌, ◌<◌, ◌≤◌, ◌^◌, inl, inr, ⊎_elim, List, [], ◌∷◌, ◌++◌, length, get_or, take, drop, refl, sym, ◌∙◌, ap, Option, Some, None, Result, Ok, Err, arith, lit<}
use Rattle.std.specs.Int.{w32, w64, from_be_bytes, to_be_bytes}
use Rattle.std.proofs.lemmas.Bool.{cases_lt}
use Rattle.std.proofs.lemmas.List.{append_assoc, drop-drop, get_or-drop, get_or_past, get_or-take, length-drop, length-take, length-take-le, take-append-drop}
use Rattle.std.proofs.lemmas.Nat.{be_bytes_4, be_bytes_8}
use Rattle.tapes.specs.declared.draw.Draw.{Draw}
use Rattle.tapes.specs.declared.draw.Draw.TheVariants.{Word, Order}
use Rattle.tapes.specs.declared.draw.Need.{Need}
use Rattle.tapes.specs.declared.draw.Need.TheVariants.{Word as NeedsWord, OrderOf}
use Rattle.tapes.specs.declared.tape_bytes.TapeFault.{TapeFault}
use Rattle.tapes.specs.declared.tape_bytes.TapeFault.TheVariants.{Short, Long, NotOrder, Memory}
use Rattle.tapes.specs.Bytes.{draw_bytes, number_bytes, tape_bytes}
use Rattle.tapes.specs.Laws.{BytesHaveAnswer}
use Rattle.tapes.specs.Needs.{Meets, width_of}
use Rattle.tapes.specs.ReadDraw.{ReadsDraw}
use Rattle.tapes.specs.ReadTape.{Begins, ReadsTape}
use Rattle.tapes.proofs.NeedLemmas.{order_or_not}
use Rattle.tapes.proofs.OrderLemmas.{short_from_numbers}

-- each item is a byte
record AreBytes (bytes : List ℕ) : Type 0 where
  below : (k : ℕ) → get_or bytes k 0 < 2 ^ 8

bytes_behind : (n : ℕ) (bytes : List ℕ) → AreBytes bytes → AreBytes (drop n bytes)
bytes_behind n bytes a = record { below = λ k. rw (get_or-drop n bytes k 0) (a.below (n + k)) }

bytes_first : (n : ℕ) (bytes : List ℕ) → AreBytes bytes → AreBytes (take n bytes)
bytes_first n bytes a = record {
  below = λ k. ⊎_elim
      (λ (low : k < n). rw (get_or-take n bytes k 0 low) (a.below k))
      (λ (high : n ≤ k). rw (get_or_past (take n bytes) k 0 (omega (arith, length-take n bytes))) (lit< tt))
      (cases_lt k n);
}

-- numbers of bytes are below the powers of 2
word_below : (a b c d e f g h : ℕ) → a < 256 → b < 256 → c < 256 → d < 256 → e < 256 → f < 256 → g < 256 → h < 256
    → a * 72057594037927936 + b * 281474976710656 + c * 1099511627776 + d * 4294967296 + e * 16777216 + f * 65536 + g * 256 + h < 2 ^ 64
word_below a b c d e f g h a' b' c' d' e' f' g' h' = omega arith

number_below : (a b c d : ℕ) → a < 256 → b < 256 → c < 256 → d < 256 → a * 16777216 + b * 65536 + c * 256 + d < 2 ^ 32
number_below a b c d a' b' c' d' = omega arith

-- the first word and the first number that bytes spell
word_there : (bytes : List ℕ) → AreBytes bytes → 8 ≤ length bytes → (w : ℕ) × ((w < 2 ^ 64) × (bytes ≡ to_be_bytes w64 w ++ drop 8 bytes))
word_there bytes a h =
    let front = take 8 bytes in
    let b = bytes_first 8 bytes a in
    let w = from_be_bytes w64 front in
    let small : w < 2 ^ 64 = omega (arith, word_below (get_or front 0 0) (get_or front 1 0) (get_or front 2 0) (get_or front 3 0) (get_or front 4 0) (get_or front 5 0) (get_or front 6 0) (get_or front 7 0) (b.below 0) (b.below 1) (b.below 2) (b.below 3) (b.below 4) (b.below 5) (b.below 6) (b.below 7)) in
    let same : to_be_bytes w64 w ≡ front = be_bytes_8 front w (length-take-le 8 bytes h) b.below refl in
    (w, (small, sym (take-append-drop 8 bytes) ∙ ap (λ bs. bs ++ drop 8 bytes) (sym same)))

number_there : (bytes : List ℕ) → AreBytes bytes → 4 ≤ length bytes → (w : ℕ) × ((w < 2 ^ 32) × (bytes ≡ to_be_bytes w32 w ++ drop 4 bytes))
number_there bytes a h =
    let front = take 4 bytes in
    let b = bytes_first 4 bytes a in
    let w = from_be_bytes w32 front in
    let small : w < 2 ^ 32 = omega (arith, number_below (get_or front 0 0) (get_or front 1 0) (get_or front 2 0) (get_or front 3 0) (b.below 0) (b.below 1) (b.below 2) (b.below 3)) in
    let same : to_be_bytes w32 w ≡ front = be_bytes_4 front w (length-take-le 4 bytes h) b.below refl in
    (w, (small, sym (take-append-drop 4 bytes) ∙ ap (λ bs. bs ++ drop 4 bytes) (sym same)))

record Numbers (count : ℕ) (bytes : List ℕ) : Type 0 where
  numbers : List ℕ
  count_is : length numbers ≡ count
  small : (k : ℕ) → get_or numbers k 0 < 2 ^ 32
  spelled : bytes ≡ number_bytes numbers ++ drop (4 * count) bytes

numbers_there : (count : ℕ) (bytes : List ℕ) → AreBytes bytes → 4 * count ≤ length bytes → Numbers count bytes
numbers_there zero bytes a h = record { numbers = []; count_is = refl; small = λ k. lit< tt; spelled = refl }
numbers_there (suc count) bytes a h =
    let first = number_there bytes a (omega arith) in
    let rest = numbers_there count (drop 4 bytes) (bytes_behind 4 bytes a) (omega (arith, length-drop 4 bytes)) in
    let place : 4 + 4 * count ≡ 4 * suc count = omega arith in
    record {
      numbers = first.0 ∷ rest.numbers;
      count_is = ap suc rest.count_is;
      small = small first.0 rest.numbers first.1.0 rest.small;
      spelled = first.1.1 ∙ ap (λ bs. to_be_bytes w32 first.0 ++ bs) rest.spelled
          ∙ sym (append_assoc (to_be_bytes w32 first.0) (number_bytes rest.numbers) (drop (4 * count) (drop 4 bytes)))
          ∙ ap (λ bs. number_bytes (first.0 ∷ rest.numbers) ++ bs) (drop-drop (4 * count) 4 bytes ∙ ap (λ n. drop n bytes) place);
    }
  where
    small : (n : ℕ) (ns : List ℕ) → n < 2 ^ 32 → ((k : ℕ) → get_or ns k 0 < 2 ^ 32) → (k : ℕ) → get_or (n ∷ ns) k 0 < 2 ^ 32
    small n ns h rest zero = h
    small n ns h rest (suc k) = rest k

-- the first draw that bytes spell, or numbers that are no order
draw_there : (need : Need) (bytes : List ℕ) → AreBytes bytes → width_of need ≤ length bytes → (draw : Option Draw) × ReadsDraw need bytes draw
draw_there NeedsWord bytes a h = let w = word_there bytes a h in (Some (Word w.0), (w.1.0, w.1.1))
draw_there (OrderOf count) bytes a h =
    let read = numbers_there count bytes a h in
    elim (order_or_not read.numbers) [
      | inl ok ↦ (Some (Order read.numbers), ((record { order = ok; short = short_from_numbers read.numbers ok (λ k w. read.small k) }, read.count_is), read.spelled))
      | inr none ↦ (
        None,
        record {
          count = count;
          numbers = read.numbers;
          needed = refl;
          no_order = record { count_is = read.count_is; small = read.small; no_order = none };
          spelled = read.spelled;
        },
      )
    ]

-- what follows a draw begins with draws where all begins with that draw and these
begins_behind : (need : Need) (needs : List Need) (bytes rest : List ℕ) (draw : Draw) (draws : List Draw) → Meets need draw → bytes ≡ draw_bytes draw ++ drop (width_of need) bytes
    → Begins needs (drop (width_of need) bytes) draws rest → Begins (need ∷ needs) bytes (draw ∷ draws) rest
begins_behind need needs bytes rest draw draws m e b = record {
  within = omega (arith, b.within);
  fits = (m, b.fits);
  spelled = e ∙ ap (λ bs. draw_bytes draw ++ bs) b.spelled ∙ sym (append_assoc (draw_bytes draw) (tape_bytes draws) rest);
}

-- an answer for what follows a draw, as one for all
answer_behind : (need : Need) (needs : List Need) (bytes : List ℕ) (draw : Draw) → Meets need draw → bytes ≡ draw_bytes draw ++ drop (width_of need) bytes
    → (answer : Result (List Draw) TapeFault) → ReadsTape needs (drop (width_of need) bytes) answer → (answer ≡ Err Memory → ⊥)
    → (all : Result (List Draw) TapeFault) × ((all ≡ Err Memory → ⊥) × ReadsTape (need ∷ needs) bytes all)
answer_behind need needs bytes draw m e (Ok draws) h fine =
    (Ok (draw ∷ draws), (λ q. cc, ((m, h.0), e ∙ ap (λ bs. draw_bytes draw ++ bs) h.1)))
answer_behind need needs bytes draw m e (Err (Short d)) h fine = (
  Err (Short (suc d)),
  (
    λ q. cc,
    record {
      draws = draw ∷ h.draws;
      rest = h.rest;
      begins = begins_behind need needs bytes h.rest draw h.draws m e h.begins;
      number = ap suc h.number;
      need = h.need;
      needed = h.needed;
      short = h.short;
    },
  ),
)
answer_behind need needs bytes draw m e (Err (Long d)) h fine = (
  Err (Long (suc d)),
  (
    λ q. cc,
    record {
      draws = draw ∷ h.draws;
      rest = h.rest;
      begins = begins_behind need needs bytes h.rest draw h.draws m e h.begins;
      all = ap suc h.all;
      number = ap suc h.number;
      more = h.more;
    },
  ),
)
answer_behind need needs bytes draw m e (Err (NotOrder d)) h fine = (
  Err (NotOrder (suc d)),
  (
    λ q. cc,
    record {
      draws = draw ∷ h.draws;
      numbers = h.numbers;
      rest = h.rest;
      begins = begins_behind need needs bytes (number_bytes h.numbers ++ h.rest) draw h.draws m e h.begins;
      number = ap suc h.number;
      count = h.count;
      needed = h.needed;
      no_order = h.no_order;
    },
  ),
)
answer_behind need needs bytes draw m e (Err Memory) h fine = absurd (fine refl)

answer_of : (needs : List Need) (bytes : List ℕ) → AreBytes bytes → (answer : Result (List Draw) TapeFault) × ((answer ≡ Err Memory → ⊥) × ReadsTape needs bytes answer)
answer_of [] [] a = (Ok [], (λ q. cc, (tt, refl)))
answer_of [] (b ∷ bytes) a =
    (Err (Long 0), (λ q. cc, record { draws = []; rest = b ∷ bytes; begins = record { within = omega arith; fits = tt; spelled = refl }; all = refl; number = refl; more = omega arith }))
answer_of (need ∷ needs) bytes a =
    ⊎_elim
    (λ (short : length bytes < width_of need).
    (Err (Short 0), (λ q. cc, record { draws = []; rest = bytes; begins = record { within = omega arith; fits = tt; spelled = refl }; number = refl; need = need; needed = refl; short = short })))
    (λ (long : width_of need ≤ length bytes). by (draw_there need bytes a long).0 (draw_there need bytes a long).1 (answer_of needs (drop (width_of need) bytes) (bytes_behind (width_of need) bytes a)))
    (cases_lt (length bytes) (width_of need))
  where
    by : (draw : Option Draw) → ReadsDraw need bytes draw
        → (answer : Result (List Draw) TapeFault) × ((answer ≡ Err Memory → ⊥) × ReadsTape needs (drop (width_of need) bytes) answer)
        → (answer : Result (List Draw) TapeFault) × ((answer ≡ Err Memory → ⊥) × ReadsTape (need ∷ needs) bytes answer)
    by (Some draw) read rest = answer_behind need needs bytes draw read.0 read.1 rest.0 rest.1.1 rest.1.0
    by None bad rest = (
      Err (NotOrder 0),
      (
        λ q. cc,
        record {
          draws = [];
          numbers = bad.numbers;
          rest = drop (width_of need) bytes;
          begins = record { within = omega arith; fits = tt; spelled = bad.spelled };
          number = refl;
          count = bad.count;
          needed = ap (λ n. Some n) bad.needed;
          no_order = bad.no_order;
        },
      ),
    )

pub bytes_have_answer : BytesHaveAnswer
bytes_have_answer needs bytes below = answer_of needs bytes (record { below = below })
