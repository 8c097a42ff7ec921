-- The names of a program.
use Rattle.std.specs.Prelude.{◌≡◌, ◌≢◌, ◌<◌, ◌≤◌, nat_lt, ℕ, suc, false, List, [], ◌∷◌, map, length}
use Rattle.std.proofs.Common.{arith, refl, sym, ap, inl, inr}
use Rattle.std.specs.Str.{bytes_eq}
use Rattle.std.proofs.lemmas.Bool.{cases_lt}
use Rattle.std.proofs.lemmas.Bool.Decides.{nat_tests}
use Rattle.program_law.specs.Program.{Program, IsProgram, IsName, marker}
use Rattle.mps_grammar.specs.Faults.{is_long}
use Rattle.mps_writer_law.specs.Canonical.{row_name, column_name}
use Rattle.mps_writer_law.proofs.Fields.{IsWord, name_word}
use Rattle.mps_writer_law.proofs.Lookups.{other_bytes}

pub length-map : {A B : Type 0} (f : A → B) (xs : List A) → length (map f xs) ≡ length xs
length-map f [] = refl
length-map f (x ∷ xs) = ap (λ (n : ℕ). suc n) (length-map f xs)

not_long : (name : List ℕ) → IsName name → is_long name ≡ false
not_long name h = by (length name) h.short
  where
    by : (n : ℕ) → n ≤ 64 → nat_lt 64 n ≡ false
    by n h = grind (arith, nat_tests)

module _ (p : Program) (good : IsProgram p) where
  row_count : length (map (λ r. r.0) p.rows) ≡ length p.rows
  row_count = length-map (λ r. r.0) p.rows

  column_count : length (map (λ c. c.0) p.columns) ≡ length p.columns
  column_count = length-map (λ c. c.0) p.columns

  row_is_name : (i : ℕ) → i < length p.rows → IsName (row_name p i)
  row_is_name i lt = good.named_rows (suc i) [] (omega (arith, row_count))

  column_is_name : (j : ℕ) → j < length p.columns → IsName (column_name p j)
  column_is_name j lt = good.named_columns j [] (omega (arith, column_count))

  pub row_word : (i : ℕ) → i < length p.rows → IsWord (row_name p i)
  row_word i lt = name_word (row_name p i) (row_is_name i lt)

  pub column_word : (j : ℕ) → j < length p.columns → IsWord (column_name p j)
  column_word j lt = name_word (column_name p j) (column_is_name j lt)

  pub objective_word : IsWord p.objective
  objective_word = name_word p.objective (good.named_rows 0 [] (omega arith))

  pub row_short : (i : ℕ) → i < length p.rows → is_long (row_name p i) ≡ false
  row_short i lt = not_long (row_name p i) (row_is_name i lt)

  pub column_short : (j : ℕ) → j < length p.columns → is_long (column_name p j) ≡ false
  column_short j lt = not_long (column_name p j) (column_is_name j lt)

  pub objective_short : is_long p.objective ≡ false
  objective_short = not_long p.objective (good.named_rows 0 [] (omega arith))

  pub rows_differ : (i k : ℕ) → i < length p.rows → k < length p.rows → i ≢ k → row_name p i ≢ row_name p k
  rows_differ i k a b other =
      elim (cases_lt i k) [
        | inl less ↦ good.rows_differ (suc i) (suc k) [] (omega arith) (omega (arith, row_count))
        | inr more ↦ λ e. good.rows_differ (suc k) (suc i) [] (omega arith) (omega (arith, row_count)) (sym e)
      ]

  pub columns_differ : (j k : ℕ) → j < length p.columns → k < length p.columns → j ≢ k → column_name p j ≢ column_name p k
  columns_differ j k a b other =
      elim (cases_lt j k) [
        | inl less ↦ good.columns_differ j k [] less (omega (arith, column_count))
        | inr more ↦ λ e. good.columns_differ k j [] (omega arith) (omega (arith, column_count)) (sym e)
      ]

  pub objective_differs : (i : ℕ) → i < length p.rows → p.objective ≢ row_name p i
  objective_differs i lt = good.rows_differ 0 (suc i) [] (omega arith) (omega (arith, row_count))

  pub row_no_marker : (i : ℕ) → i < length p.rows → bytes_eq (row_name p i) marker ≡ false
  row_no_marker i lt = other_bytes (row_name p i) marker (good.no_marker (suc i) [] (omega (arith, row_count)))

  pub objective_no_marker : bytes_eq p.objective marker ≡ false
  objective_no_marker = other_bytes p.objective marker (good.no_marker 0 [] (omega arith))
