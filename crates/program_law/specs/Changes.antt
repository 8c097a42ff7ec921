-- What each change of a program makes of it: what it names changes, and all else stays.
use Rattle.std.specs.Prelude.{ℕ, zero, suc, ◌+◌, List, [], ◌∷◌, ◌++◌, map, length, replicate, slice_set}
use Rattle.rational.specs.Rational.{ℚ, zero_ℚ}
use Rattle.program_law.specs.declared.Row.{Row}
use Rattle.program_law.specs.declared.Column.{Column}
use Rattle.rational.specs.Vectors.{row_at}
use Rattle.program_law.specs.Program.{Program}

-- no rows, no columns, and the constant 0
abbrev pub empty_program : List ℕ → Program
empty_program name =
    record { objective = name; rows = []; columns = []; entries = []; costs = []; constant = zero_ℚ; pairs = [] }

abbrev pub zeros : ℕ → List ℚ
zeros n = replicate n zero_ℚ

-- an entry more, which is 0
abbrev pub widened : List ℚ → List ℚ
widened row = row ++ zero_ℚ ∷ []

-- the row last, with entries 0
abbrev pub with_row : Program → List ℕ → Row → Program
with_row p name s =
    record {
      objective = p.objective;
      rows = p.rows ++ (name, s) ∷ [];
      columns = p.columns;
      entries = p.entries ++ zeros (length p.columns) ∷ [];
      costs = p.costs;
      constant = p.constant;
      pairs = p.pairs;
    }

-- the column last, with entries, cost and pairs 0
abbrev pub with_column : Program → List ℕ → Column → Program
with_column p name c =
    record {
      objective = p.objective;
      rows = p.rows;
      columns = p.columns ++ (name, c) ∷ [];
      entries = map widened p.entries;
      costs = widened p.costs;
      constant = p.constant;
      pairs = map widened p.pairs ++ zeros (length p.columns + 1) ∷ [];
    }

-- a matrix with another entry at a place
abbrev pub with_place : List (List ℚ) → ℕ → ℕ → ℚ → List (List ℚ)
with_place rows i j value = slice_set rows i (slice_set (row_at rows i) j value)

abbrev pub with_entry : Program → ℕ → ℕ → ℚ → Program
with_entry p i j value =
    record {
      objective = p.objective;
      rows = p.rows;
      columns = p.columns;
      entries = with_place p.entries i j value;
      costs = p.costs;
      constant = p.constant;
      pairs = p.pairs;
    }

abbrev pub with_cost : Program → ℕ → ℚ → Program
with_cost p j value =
    record {
      objective = p.objective;
      rows = p.rows;
      columns = p.columns;
      entries = p.entries;
      costs = slice_set p.costs j value;
      constant = p.constant;
      pairs = p.pairs;
    }

abbrev pub with_constant : Program → ℚ → Program
with_constant p value =
    record {
      objective = p.objective;
      rows = p.rows;
      columns = p.columns;
      entries = p.entries;
      costs = p.costs;
      constant = value;
      pairs = p.pairs;
    }

-- both Q_jk and Q_kj
abbrev pub with_pair : Program → ℕ → ℕ → ℚ → Program
with_pair p j k value =
    record {
      objective = p.objective;
      rows = p.rows;
      columns = p.columns;
      entries = p.entries;
      costs = p.costs;
      constant = p.constant;
      pairs = with_place (with_place p.pairs j k value) k j value;
    }

-- a list of named things with another thing under the name at a place
abbrev pub renewed : {A : Type 0} → List (List ℕ × A) → ℕ → A → List (List ℕ × A)
renewed [] k thing = []
renewed (n ∷ ns) zero thing = (n.0, thing) ∷ ns
renewed (n ∷ ns) (suc k) thing = n ∷ renewed ns k thing

abbrev pub with_sides : Program → ℕ → Row → Program
with_sides p i s =
    record {
      objective = p.objective;
      rows = renewed p.rows i s;
      columns = p.columns;
      entries = p.entries;
      costs = p.costs;
      constant = p.constant;
      pairs = p.pairs;
    }

abbrev pub with_bounds : Program → ℕ → Column → Program
with_bounds p j c =
    record {
      objective = p.objective;
      rows = p.rows;
      columns = renewed p.columns j c;
      entries = p.entries;
      costs = p.costs;
      constant = p.constant;
      pairs = p.pairs;
    }
