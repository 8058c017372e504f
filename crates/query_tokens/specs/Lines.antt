-- How a text is cut into lines: each ends at LF, at CR LF, or at the end of the text.
use Rattle.std.specs.Prelude.{ℕ, Bool, true, false, ◌&&◌, ◌==◌, List, [], ◌∷◌, if◌then◌else◌}

-- a byte at the front of the first line
abbrev pub lengthen : ℕ → List (List ℕ) → List (List ℕ)
lengthen b [] = (b ∷ []) ∷ []
lengthen b (line ∷ lines) = (b ∷ line) ∷ lines

abbrev pub is_nil : List ℕ → Bool
is_nil [] = true
is_nil (b ∷ bytes) = false

-- LF comes next
abbrev pub at_line_feed : List ℕ → Bool
at_line_feed [] = false
at_line_feed (b ∷ bytes) = b == 10

-- a line without a CR at its end
abbrev pub without_return : List ℕ → List ℕ
without_return [] = []
without_return (b ∷ bytes) = if b == 13 && is_nil bytes then [] else b ∷ without_return bytes

-- the lines of a text, without their ends
abbrev pub lines_of : List ℕ → List (List ℕ)
lines_of [] = [] ∷ []
lines_of (b ∷ bytes) = if b == 10 then [] ∷ lines_of bytes else (if b == 13 && at_line_feed bytes then lines_of bytes else lengthen b (lines_of bytes))
