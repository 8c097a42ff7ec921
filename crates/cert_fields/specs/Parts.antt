-- How a text falls into lines, and a line into fields.
use Rattle.std.specs.Prelude.{ℕ, ◌==◌, Bool, List}
use Rattle.std.specs.List.{slice_split}

abbrev pub is_byte : ℕ → ℕ → Bool
is_byte byte b = b == byte

-- The lines, each of which ends with a line feed, and last what stands behind them.
abbrev pub pieces_of : List ℕ → List (List ℕ)
pieces_of text = slice_split (is_byte 10) text

-- the parts of a line, with one blank between two
abbrev pub parts_of : List ℕ → List (List ℕ)
parts_of line = slice_split (is_byte 32) line
