-- Whether a number was given before, by the places of columns and rows.
use Rattle.std.specs.Prelude.{ℕ, ◌==◌, ◌&&◌, ◌||◌, Bool, false, List, Option, Some, None, is_some}
use Rattle.program_law.specs.Places.{place_of}
use Rattle.mps_tokens.specs.declared.words.RowKind.{RowKind}
use Rattle.mps_grammar.specs.Told.{used_names}
use Rattle.mps_notes.specs.declared.numbers.Entry.{Entry}
use Rattle.mps_notes.specs.Entries.{is_marked}

-- a row that counts for what is given twice: the objective, or a row of the program
abbrev pub is_counted : List (List ℕ × RowKind) → List ℕ → Bool
is_counted rows name = is_some (place_of (used_names rows) name)

-- whether there is one for a column and a place that are known
abbrev pub given_at : List Entry → Option ℕ → Option ℕ → Bool
given_at es None place = false
given_at es (Some column) None = false
given_at es (Some column) (Some place) = is_marked es column place

abbrev pub same_place : Option ℕ → Option ℕ → Bool
same_place None other = false
same_place (Some one) None = false
same_place (Some one) (Some other) = one == other

-- whether one of two places was given for a column, or they are one place
abbrev pub twice_at : List Entry → Option ℕ → Option ℕ → Option ℕ → Bool
twice_at es column first second = given_at es column first || (given_at es column second || same_place first second)

-- whether a pair was given, where `once` says that its order isn't looked at
abbrev pub pair_given : List Entry → Bool → ℕ → ℕ → Bool
pair_given es once one other = is_marked es one other || (once && is_marked es other one)

abbrev pub second_twice : List Entry → Bool → ℕ → ℕ → Option ℕ → Bool
second_twice es once column first None = false
second_twice es once column first (Some second) = (second == first) || pair_given es once column second

-- whether one of a column's pairs was given, or they are one pair
abbrev pub pair_twice : List Entry → Bool → ℕ → ℕ → Option ℕ → Bool
pair_twice es once column first second = pair_given es once column first || second_twice es once column first second
