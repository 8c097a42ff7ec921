-- The words of a line.
use Rattle.std.specs.Prelude.{ℕ, ◌==◌, ◌&&◌, not, nat_le, Bool, List, length}
use Rattle.std.specs.List.{list_all}

-- printable and no blank
abbrev pub is_graphic : ℕ → Bool
is_graphic b = nat_le 33 b && nat_le b 126

-- such bytes, at least one
abbrev pub is_word : List ℕ → Bool
is_word field = not (length field == 0) && list_all is_graphic field
