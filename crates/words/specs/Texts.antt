-- Texts as words.
use Rattle.std.specs.Prelude.{◌≡◌, ℕ, ◌-◌, ◌%◌, ◌^◌, ◌<◌, ◌==◌, ◌&&◌, nat_le, nat_lt, Bool, if◌then◌else◌, List, [], ◌∷◌, ◌++◌, Result, Ok, Err, length, replicate}
use mir.Syntax.{w64}
use Rattle.std.specs.Cmp.Lexicographic.{slice_cmp}
use Rattle.std.specs.Int.{from_be_bytes, to_be_bytes}
use Rattle.std.specs.List.{list_all}
use Rattle.std.specs.Ordering.{nat_cmp}
use Rattle.words.specs.declared.num.ValueFault.{ValueFault}
use Rattle.words.specs.declared.num.ValueFault.TheVariants.{TextLong, TextByte}

-- a byte that may stand in a text
abbrev pub is_text_byte : ℕ → Bool
is_text_byte byte = nat_le 0x20 byte && nat_le byte 0x7E

-- the word whose bytes from the high one on are these, and then zeros
unfoldable pub packed : List ℕ → ℕ
packed bytes = from_be_bytes w64 (bytes ++ replicate (8 - length bytes) 0)

-- the word of a text, or why these bytes are none
abbrev pub text_of : List ℕ → Result ℕ ValueFault
text_of bytes = if nat_lt 8 (length bytes) then Err TextLong else if list_all is_text_byte bytes then Ok (packed bytes) else Err TextByte

-- a byte that fills a word up
abbrev pub is_zero : ℕ → Bool
is_zero byte = byte == 0

-- the list up to the last that isn't 0
unfoldable pub without_end_zeros : List ℕ → List ℕ
without_end_zeros [] = []
without_end_zeros (byte ∷ bytes) = if list_all is_zero (byte ∷ bytes) then [] else byte ∷ without_end_zeros bytes

-- the bytes of a word from the high one on, without the zeros at their end
abbrev pub unpacked : ℕ → List ℕ
unpacked word = without_end_zeros (to_be_bytes w64 word)

-- the word of a text unpacks to that text
abbrev pub TextsComeBack : Type 0
TextsComeBack = (bytes : List ℕ) (word : ℕ) → text_of bytes ≡ Ok word → unpacked word ≡ bytes

-- the word of a text is below 2 ^ 64
abbrev pub TextsAreWords : Type 0
TextsAreWords = (bytes : List ℕ) (word : ℕ) → text_of bytes ≡ Ok word → word < 2 ^ 64

-- what a word unpacks to has that word
abbrev pub WordsComeBack : Type 0
WordsComeBack = (word : ℕ) → word < 2 ^ 64 → packed (unpacked word) ≡ word

-- texts are ordered as their words
abbrev pub PackingKeepsOrder : Type 0
PackingKeepsOrder = (a b : List ℕ) (v w : ℕ) → text_of a ≡ Ok v → text_of b ≡ Ok w → slice_cmp nat_cmp a b ≡ nat_cmp v w

-- all ones where bit 0 is 1
abbrev pub spread_of : ℕ → ℕ
spread_of word = if word % 2 == 1 then 2 ^ 64 - 1 else 0
