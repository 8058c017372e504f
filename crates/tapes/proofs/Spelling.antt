-- What bytes begin with, one number or draw further.
use Rattle.std.proofs.Common.{◌≡◌, ℕ, suc, zero, ◌+◌, ◌<◌, ◌^◌, List, [], ◌∷◌, ◌++◌, length, get_or, take, drop, slice_get, Some, refl, sym, ◌∙◌, ap, subst, arith, add-one, lit<}
use Rattle.std.specs.Int.{w32, to_be_bytes}
use Rattle.std.proofs.lemmas.List.{append-nil, append_assoc, drop-drop, length_push}
use Rattle.std.proofs.lemmas.Option.{slice_get_within, get_or_from_slice_get}
use Rattle.std.proofs.lemmas.List.Concat.{flat_map-append}
use Rattle.tapes.specs.declared.draw.Need.{Need}
use Rattle.tapes.specs.declared.draw.Draw.{Draw}
use Rattle.tapes.specs.Grown.{IsPushed}
use Rattle.tapes.specs.Bytes.{number_bytes, draw_bytes, tape_bytes}
use Rattle.tapes.specs.Needs.{Meets, FitsNeeds, width_of}
use Rattle.tapes.specs.ReadTape.{Begins, IsNoOrderAt}
use Rattle.tapes.specs.ReadDraw.{BeginsNoOrder}

-- one number more
pub number_bytes_more : (ns : List ℕ) (n : ℕ) → number_bytes (ns ++ n ∷ []) ≡ number_bytes ns ++ to_be_bytes w32 n
number_bytes_more ns n =
    flat_map-append (λ i. to_be_bytes w32 i) ns (n ∷ []) ∙ ap (λ bs. number_bytes ns ++ bs) (append-nil (to_be_bytes w32 n))

pub spelled_more : (bytes ns : List ℕ) (n a b : ℕ) → b ≡ a + 4 → bytes ≡ number_bytes ns ++ drop a bytes
    → drop a bytes ≡ to_be_bytes w32 n ++ drop 4 (drop a bytes) → bytes ≡ number_bytes (ns ++ n ∷ []) ++ drop b bytes
spelled_more bytes ns n a b e front next =
    front ∙ ap (λ bs. number_bytes ns ++ bs) (next ∙ ap (λ bs. to_be_bytes w32 n ++ bs) (drop-drop 4 a bytes ∙ ap (λ i. drop i bytes) (sym e)))
    ∙ sym (append_assoc (number_bytes ns) (to_be_bytes w32 n) (drop b bytes)) ∙ ap (λ bs. bs ++ drop b bytes) (sym (number_bytes_more ns n))

-- one draw more
pub tape_bytes_more : (ds : List Draw) (d : Draw) → tape_bytes (ds ++ d ∷ []) ≡ tape_bytes ds ++ draw_bytes d
tape_bytes_more ds d =
    flat_map-append draw_bytes ds (d ∷ []) ∙ ap (λ bs. tape_bytes ds ++ bs) (append-nil (draw_bytes d))

pub fits_more : (needs : List Need) (ds : List Draw) (need : Need) (d : Draw) → length ds < length needs → need ≡ get_or needs (length ds) need
    → FitsNeeds (take (length ds) needs) ds → Meets need d → FitsNeeds (take (suc (length ds)) needs) (ds ++ d ∷ [])
fits_more [] ds need d h e f m = absurd (omega arith)
fits_more (n ∷ ns) [] need d h e f m = (subst (λ (x : Need). Meets x d) e m, tt)
fits_more (n ∷ ns) (x ∷ ds) need d h e f m = (f.0, fits_more ns ds need d (omega arith) e f.1 m)

pub begins_more : (needs : List Need) (bytes : List ℕ) (ds : List Draw) (rest after : List ℕ) (need : Need) (d : Draw)
    → Begins needs bytes ds rest → length ds < length needs → need ≡ get_or needs (length ds) need → Meets need d → rest ≡ draw_bytes d ++ after
    → Begins needs bytes (ds ++ d ∷ []) after
begins_more needs bytes ds rest after need d b h e m r = record {
  within = omega (arith, length_push ds d);
  fits = rw (length_push ds d, add-one) (fits_more needs ds need d h e b.fits m);
  spelled = b.spelled ∙ ap (λ bs. tape_bytes ds ++ bs) r ∙ sym (append_assoc (tape_bytes ds) (draw_bytes d) after)
      ∙ ap (λ bs. bs ++ after) (sym (tape_bytes_more ds d));
}

-- numbers of 32 bits, and one more
pub small_push : (ns : List ℕ) (n : ℕ) → ((k : ℕ) → get_or ns k 0 < 2 ^ 32) → n < 2 ^ 32 → (k : ℕ) → get_or (ns ++ n ∷ []) k 0 < 2 ^ 32
small_push [] n h s zero = s
small_push [] n h s (suc k) = lit< tt
small_push (x ∷ xs) n h s zero = h 0
small_push (x ∷ xs) n h s (suc k) = small_push xs n (λ i. h (suc i)) s k

-- the need that was read stands at its place
pub get_from_read : (needs : List Need) (i : ℕ) (need : Need) → i < length needs → need ≡ get_or needs i need → slice_get needs i ≡ Some need
get_from_read [] i need h e = absurd (omega arith)
get_from_read (n ∷ ns) zero need h e = ap (λ x. Some x) (sym e)
get_from_read (n ∷ ns) (suc i) need h e = get_from_read ns i need (omega arith) e

-- numbers that are no order stand for the next draw
pub no_order_here : (needs : List Need) (bytes : List ℕ) (ds : List Draw) (rest : List ℕ) (need : Need) (d : ℕ)
    → Begins needs bytes ds rest → length ds ≡ d → slice_get needs d ≡ Some need → BeginsNoOrder need rest → IsNoOrderAt needs bytes d
no_order_here needs bytes ds rest need d b e g no_order = record {
  draws = ds;
  numbers = no_order.numbers;
  rest = drop (width_of need) rest;
  begins = subst (λ (x : List ℕ). Begins needs bytes ds x) no_order.spelled b;
  number = e;
  count = no_order.count;
  needed = g ∙ ap (λ x. Some x) no_order.needed;
  no_order = no_order.no_order;
}

-- what is read so far: as many draws as the needs that are passed
pub record ReadSoFar (needs passed : List Need) (bytes : List ℕ) (ds : List Draw) (rest : List ℕ) : Type 0 where
  pub begins : Begins needs bytes ds rest
  pub count : length ds ≡ length passed

pub read_nothing : (needs : List Need) (bytes : List ℕ) (ds : List Draw) (rest : List ℕ) → ds ≡ [] → rest ≡ bytes → ReadSoFar needs [] bytes ds rest
read_nothing needs bytes [] rest e r = record { begins = record { within = omega arith; fits = tt; spelled = sym r }; count = refl }
read_nothing needs bytes (d ∷ ds) rest e r = absurd (cc)

pub read_one : (needs passed : List Need) (bytes : List ℕ) (ds new : List Draw) (rest after : List ℕ) (need : Need) → ReadSoFar needs passed bytes ds rest
    → slice_get needs (length passed) ≡ Some need → IsPushed (λ d. Meets need d × (rest ≡ draw_bytes d ++ drop (width_of need) rest)) ds new
    → after ≡ drop (width_of need) rest → ReadSoFar needs (passed ++ need ∷ []) bytes new after
read_one needs passed bytes ds new rest after need r g p e =
    let there : slice_get needs (length ds) ≡ Some need = ap (λ n. slice_get needs n) r.count ∙ g in
    rw (p.pushed, e)
    (record {
      begins = begins_more needs bytes ds rest (drop (width_of need) rest) need p.draw r.begins (slice_get_within needs (length ds) need there)
          (sym (get_or_from_slice_get needs (length ds) need need there)) p.holds.0 p.holds.1;
      count = length_push ds p.draw ∙ ap (λ n. n + 1) r.count ∙ sym (length_push passed need);
    })
