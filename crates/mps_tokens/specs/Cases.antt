-- Tables of words.
use Rattle.std.specs.Prelude.{ℕ, ◌+◌, ◌==◌, ◌&&◌, not, Bool, true, List, [], ◌∷◌, take, map, Option, Some, None, if◌then◌else◌, codes}
use Rattle.std.specs.Str.{bytes_eq}
use Rattle.mps_tokens.specs.declared.case.Case.{Case}

-- a word and its number
abbrev pub entry_of : Case → List ℕ × ℕ
entry_of c = (take c.length c.text, c.number)

abbrev pub entries_of : List Case → List (List ℕ × ℕ)
entries_of table = map entry_of table

-- what stands beside this word, where it stands first
abbrev pub named : {E : Type 0} → List (List ℕ × E) → List ℕ → Option E
named [] word = None
named (e ∷ es) word = if bytes_eq e.0 word then Some e.1 else named es word

-- the same by the number of an entry, where the first has this one and each other has one more than the entry before it
abbrev pub numbered : {E : Type 0} → ℕ → List (List ℕ × E) → ℕ → Option E
numbered first [] number = None
numbered first (e ∷ es) number = if number == first then Some e.1 else numbered (first + 1) es number

-- no entry has this word
abbrev pub is_absent : List (List ℕ × ℕ) → List ℕ → Bool
is_absent [] word = true
is_absent (e ∷ es) word = not (bytes_eq e.0 word) && is_absent es word

abbrev pub has_distinct_words : List (List ℕ × ℕ) → Bool
has_distinct_words [] = true
has_distinct_words (e ∷ es) = is_absent es e.0 && has_distinct_words es

abbrev pub row_kind_table : List (List ℕ × ℕ)
row_kind_table = (codes "N", 1) ∷ (codes "L", 2) ∷ (codes "G", 3) ∷ (codes "E", 4) ∷ []

abbrev pub section_table : List (List ℕ × ℕ)
section_table = (codes "NAME", 1) ∷ (codes "ROWS", 2) ∷ (codes "COLUMNS", 3) ∷ (codes "RHS", 4) ∷ (codes "RANGES", 5) ∷ (codes "BOUNDS", 6) ∷ (codes "QUADOBJ", 7) ∷ (codes "QMATRIX", 8) ∷ (codes "DMATRIX", 9) ∷ (codes "ENDATA", 10) ∷ (codes "OBJSENSE", 11) ∷ []

abbrev pub bound_kind_table : List (List ℕ × ℕ)
bound_kind_table =
    (codes "UP", 1) ∷ (codes "LO", 2) ∷ (codes "FX", 3) ∷ (codes "FR", 4) ∷ (codes "MI", 5) ∷ (codes "PL", 6) ∷ (codes "BV", 7) ∷ (codes "LI", 8) ∷ (codes "UI", 9) ∷ []

abbrev pub certificate_table : List (List ℕ × ℕ)
certificate_table =
    (codes "OPTIMAL", 1) ∷ (codes "INFEASIBLE", 2) ∷ (codes "UNBOUNDED", 3) ∷ (codes "NOTCONVEX", 4) ∷ (codes "VALUE", 5) ∷ (codes "POINT", 6) ∷ (codes "RAY", 7) ∷ (codes "VECTOR", 8) ∷ (codes "SQUARE", 9) ∷ (codes "COEF", 10)
    ∷ (codes "BRANCH", 11) ∷ (codes "BOUND", 12) ∷ (codes "FARKAS", 13) ∷ (codes "CROSS", 14) ∷ (codes "W", 15) ∷ (codes "Y", 16) ∷ (codes "END", 17) ∷ []
