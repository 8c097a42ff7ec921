-- A program as it is kept. Each row of numbers has room for as many columns as there may be, with zeros behind the columns that there are.
use Rattle.std.specs.Prelude.{◌≡◌, ℕ, ◌≤◌, List, map, take, length, All}
use Rattle.rational.specs.Rational.{ℚ, zero_ℚ}
use Rattle.rational.specs.Sums.{entry}
use Rattle.program_law.specs.Program as law
use Rattle.program_law.specs.Program.{IsProgram, most_columns}
use Rattle.program_data.specs.declared.program.Program.TheInside.{Inside}

-- as many numbers as there may be columns, all 0 from a place on
pub record IsPadded (count : ℕ) (row : List ℚ) : Type 0 where
  pub room : length row ≡ most_columns
  pub zeros : (j : ℕ) → count ≤ j → entry row j ≡ zero_ℚ

-- a program without what stands behind its columns
abbrev pub trimmed : law.Program → law.Program
trimmed p =
    record {
      objective = p.objective;
      rows = p.rows;
      columns = p.columns;
      entries = map (take (length p.columns)) p.entries;
      costs = take (length p.columns) p.costs;
      constant = p.constant;
      pairs = map (take (length p.columns)) p.pairs;
    }

-- a program with room for more columns
pub record IsRoomy (p : law.Program) : Type 0 where
  pub good : IsProgram (trimmed p)
  pub entries : All (IsPadded (length p.columns)) p.entries
  pub costs : IsPadded (length p.columns) p.costs
  pub pairs : All (IsPadded (length p.columns)) p.pairs

-- what is kept, as a program
abbrev pub kept : Inside → law.Program
kept p =
    record {
      objective = p.objective;
      rows = p.rows;
      columns = p.columns;
      entries = p.entries;
      costs = p.costs.items;
      constant = p.constant;
      pairs = p.pairs;
    }

abbrev pub viewed : Inside → law.Program
viewed p = trimmed (kept p)

abbrev pub IsKept : Inside → Type 0
IsKept p = IsRoomy (kept p)
