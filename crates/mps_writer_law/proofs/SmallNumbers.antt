-- The numbers of a program are small where those at its places are; there are no others.
use Rattle.std.specs.Prelude.{◌≡◌, ◌<◌, ◌≤◌, ℕ, zero, suc, List, [], ◌∷◌, length, slice_index_or}
use Rattle.std.proofs.Common.{arith, refl, sym, ap, subst, inl, inr}
use Rattle.std.proofs.lemmas.Bool.{cases_lt}
use Rattle.rational.specs.Rational.{ℚ, Fits, zero_ℚ}
use Rattle.frac_core.specs.Parts.{max_part}
use Rattle.program_law.specs.declared.Row.{Row}
use Rattle.program_law.specs.declared.Column.{Column}
use Rattle.program_law.specs.Program.{Program, IsProgram, bounds_of}
use Rattle.rational.specs.Sums.{entry}
use Rattle.rational.specs.Vectors.{row_at}
use Rattle.mps_writer_law.specs.Canonical.{no_sides, sides_at, bounds_at}
use Rattle.mps_writer_law.specs.Small.{HasSmallSides, HasSmallNumbers}
use Rattle.mps_writer_law.proofs.Names.{length-map}
use Rattle.mps_writer_law.proofs.SidesBack.{zero_small}

-- past the end there is the default
beyond : {A : Type 0} (xs : List A) (i : ℕ) (d : A) → length xs ≤ i → slice_index_or xs i d ≡ d
beyond [] i d h = refl
beyond (x ∷ xs) zero d h = absurd (omega (arith, h))
beyond (x ∷ xs) (suc i) d h = beyond xs i d (omega (arith, h))

small_default : (q : ℚ) → q ≡ zero_ℚ → Fits max_part q
small_default q e = subst (λ (r : ℚ). Fits max_part r) (sym e) zero_small

-- a row of so many numbers
small_in : (n : ℕ) (row : List ℚ) → length row ≡ n → ((j : ℕ) → j < n → Fits max_part (entry row j)) → (j : ℕ) → Fits max_part (entry row j)
small_in n row long h j = elim (cases_lt j n) [ inl lt ↦ h j lt | inr above ↦ small_default (entry row j) (beyond row j zero_ℚ (omega (arith, above))) ]

-- a table of so many rows of so many numbers
small_table : (m n : ℕ) (rows : List (List ℚ)) → length rows ≡ m → ((i : ℕ) → i < m → length (row_at rows i) ≡ n) → ((i j : ℕ) → i < m → j < n → Fits max_part (entry (row_at rows i) j))
    → (i j : ℕ) → Fits max_part (entry (row_at rows i) j)
small_table m n rows high wide h i j =
    elim (cases_lt i m) [
      | inl lt ↦ small_in n (row_at rows i) (wide i lt) (λ k kt. h i k lt kt) j
      | inr above ↦ small_default (entry (row_at rows i) j) (ap (λ (row : List ℚ). entry row j) (beyond rows i [] (omega (arith, above))))
    ]

none_small : HasSmallSides no_sides
none_small = record { low = tt; high = tt }

small_list : (n : ℕ) (rows : List Row) → length rows ≡ n → ((i : ℕ) → i < n → HasSmallSides (slice_index_or rows i no_sides)) → (i : ℕ) → HasSmallSides (slice_index_or rows i no_sides)
small_list n rows long h i =
    elim (cases_lt i n) [ inl lt ↦ h i lt | inr above ↦ subst (λ (s : Row). HasSmallSides s) (sym (beyond rows i no_sides (omega (arith, above)))) none_small ]

pub all_small : (p : Program) → IsProgram p
    → ((i j : ℕ) → i < length p.rows → j < length p.columns → Fits max_part (entry (row_at p.entries i) j))
    → ((j : ℕ) → j < length p.columns → Fits max_part (entry p.costs j))
    → Fits max_part p.constant
    → ((j k : ℕ) → j < length p.columns → k < length p.columns → Fits max_part (entry (row_at p.pairs j) k))
    → ((i : ℕ) → i < length p.rows → HasSmallSides (sides_at p i))
    → ((j : ℕ) → j < length p.columns → HasSmallSides (bounds_at p j))
    → HasSmallNumbers p
all_small p good entries costs constant pairs sides bounds =
    record {
      entries = small_table (length p.rows) (length p.columns) p.entries good.height (λ i lt. good.width i [] (omega (arith, good.height))) entries;
      costs = small_in (length p.columns) p.costs good.costs_width costs;
      constant = constant;
      pairs = small_table (length p.columns) (length p.columns) p.pairs good.pairs_height (λ j lt. good.pairs_width j [] (omega (arith, good.pairs_height))) pairs;
      sides = small_list (length p.rows) _ (length-map (λ (r : List ℕ × Row). r.1) p.rows) sides;
      bounds = small_list (length p.columns) _ (length-map (λ (c : List ℕ × Column). bounds_of c.1) p.columns) bounds;
    }
