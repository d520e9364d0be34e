-- Texts cut at a byte: the lines of a text and the words of a line.
use Rattle.std.specs.Prelude.{ℕ, ◌-◌, Bool, false, not, List, [], ◌∷◌, length, filter, take, slice_index, ◌==◌, ◌&&◌, nat_lt, if◌then◌else◌, Option, Some, None, option_map}

-- a byte at the front of the first piece
abbrev pub onto_first : ℕ → List (List ℕ) → List (List ℕ)
onto_first b [] = (b ∷ []) ∷ []
onto_first b (piece ∷ rest) = (b ∷ piece) ∷ rest

-- what stands between the separators; there is one piece more than there are separators
abbrev pub pieces : ℕ → List ℕ → List (List ℕ)
pieces separator [] = [] ∷ []
pieces separator (b ∷ bs) = if b == separator then [] ∷ pieces separator bs else onto_first b (pieces separator bs)

-- the text before the first separator and the text after it, where there is one
abbrev pub cut_of : ℕ → List ℕ → Option (List ℕ × List ℕ)
cut_of separator [] = None
cut_of separator (b ∷ bs) = if b == separator then Some ([], bs) else option_map (λ parts. (b ∷ parts.0, parts.1)) (cut_of separator bs)

-- the words of a text, with one or more spaces between them
abbrev pub words : List ℕ → List (List ℕ)
words line = filter (λ piece. not (length piece == 0)) (pieces 32 line)

abbrev pub begins_with : ℕ → List ℕ → Bool
begins_with b [] = false
begins_with b (c ∷ cs) = c == b

-- the words of a line of a script; a comment, which begins with `#`, has none
abbrev pub line_words : List ℕ → List (List ℕ)
line_words line = if begins_with 35 line then [] else words line

-- a line without the carriage return at its end
abbrev pub without_return : List ℕ → List ℕ
without_return line = if nat_lt 0 (length line) && slice_index line (length line - 1) == 13 then take (length line - 1) line else line

-- Each piece but the last stood before a newline. What stands after the last newline is a line where it has a byte.
abbrev pub ended : List (List ℕ) → List (List ℕ)
ended [] = []
ended (last ∷ []) = if length last == 0 then [] else last ∷ []
ended (piece ∷ next ∷ rest) = without_return piece ∷ ended (next ∷ rest)

-- the lines of a text, without newlines and the carriage returns directly before them
abbrev pub text_lines : List ℕ → List (List ℕ)
text_lines text = ended (pieces 10 text)
