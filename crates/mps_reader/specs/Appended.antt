-- A text with another behind it.
use Rattle.std.specs.Prelude.{◌≡◌, ℕ, ◌-◌, List, length, Some, slice_get}
use Rattle.mps_grammar.specs.Reading.{rest_of}

-- the last byte is a line feed
abbrev pub EndsInLineFeed : List ℕ → Type 0
EndsInLineFeed text = slice_get text (length text - 1) ≡ Some 10

-- there is a first line, and it is neither blank nor a comment
abbrev pub BeginsShown : List ℕ → Type 0
BeginsShown text = rest_of text (0, 1) ≡ Some (0, 1)
