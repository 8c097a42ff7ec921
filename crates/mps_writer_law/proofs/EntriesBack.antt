-- The entries that the columns of a program's text tell, by names.
use Rattle.std.specs.Prelude.{◌≡◌, ◌≢◌, ◌<◌, ◌&&◌, ℕ, zero, suc, Bool, true, false, List, [], ◌∷◌, ◌++◌, map, length, Option, Some, None, unwrap_or, if◌then◌else◌}
use Rattle.std.proofs.Common.{arith, refl, sym, ap, ◌∙◌}
use Rattle.std.specs.Str.{bytes_eq}
use Rattle.rational.specs.Rational.{ℚ, zero_ℚ}
use Rattle.rational.specs.Tests.{is_zero}
use Rattle.program_law.specs.Program.{Program, IsProgram}
use Rattle.rational.specs.Sums.{entry}
use Rattle.rational.specs.Vectors.{row_at}
use Rattle.mps_grammar.specs.Told.{Telling}
use Rattle.mps_grammar.specs.Programs.{value_at, value_told, or_other}
use Rattle.mps_writer_law.specs.Canonical.{row_name, column_name}
use Rattle.mps_writer_law.proofs.Erased.{bare}
use Rattle.mps_writer_law.proofs.Lookups.{each_back, map-append, telling, telling_unless_zero, value-append, value_nowhere, value_somewhere, value_elsewhere, value_here, column_differs, row_differs, same_bytes, or_none}
use Rattle.mps_writer_law.proofs.Names.{rows_differ, columns_differ, objective_differs}
use Rattle.mps_writer_law.proofs.Stages.{entry_told, column_told, entries_told}

-- ---- tellings without the numbers of their lines

pub unless_zero_bare : (column row : List ℕ) (v : ℚ) → map bare (telling_unless_zero column row v) ≡ telling_unless_zero column row v
unless_zero_bare column row v = by (is_zero v)
  where
    by : (b : Bool) → map bare (if b then [] else telling column row v ∷ []) ≡ (if b then [] else telling column row v ∷ [])
    by true = refl
    by false = refl

pub append_bare : (ts us : List Telling) → map bare ts ≡ ts → map bare us ≡ us → map bare (ts ++ us) ≡ ts ++ us
append_bare ts us e f = map-append bare ts us ∙ ap (λ (xs : List Telling). xs ++ map bare us) e ∙ ap (λ (xs : List Telling). ts ++ xs) f

pub each_bare : (n : ℕ) (f : ℕ → List Telling) → ((i : ℕ) → map bare (f i) ≡ f i) → map bare (each_back n f) ≡ each_back n f
each_bare zero f h = refl
each_bare (suc n) f h = append_bare (f n) (each_back n f) (h n) (each_bare n f h)

pub column_bare : (p : Program) (j n : ℕ) → map bare (column_told p j n) ≡ column_told p j n
column_bare p j n = append_bare (each_back n (entry_told p j)) _ (each_bare n (entry_told p j) (λ i. unless_zero_bare (column_name p j) (row_name p i) (entry (row_at p.entries i) j))) refl

pub entries_bare : (p : Program) (n : ℕ) → map bare (entries_told p n) ≡ entries_told p n
entries_bare p n = each_bare n (λ j. column_told p j (length p.rows)) (λ j. column_bare p j (length p.rows))

-- ---- what is found

one_elsewhere : (column row c r : List ℕ) (v : ℚ) → (bytes_eq c column && bytes_eq r row) ≡ false → value_at (telling column row v ∷ []) c r ≡ None
one_elsewhere column row c r v e = rw e refl

one_here : (column row : List ℕ) (v : ℚ) → value_at (telling column row v ∷ []) column row ≡ Some v
one_here column row v = rw (same_bytes column, same_bytes row) refl

-- nothing under another column
other_column : (p : Program) (j n : ℕ) (c r : List ℕ) → c ≢ column_name p j → value_at (column_told p j n) c r ≡ None
other_column p j n c r other =
    value-append (each_back n (entry_told p j)) (telling (column_name p j) p.objective (entry p.costs j) ∷ []) c r
    ∙ rw (value_nowhere n (entry_told p j) c r (λ i lt. value_elsewhere (column_name p j) (row_name p i) c r (entry (row_at p.entries i) j) (column_differs c (column_name p j) r (row_name p i) other)))
    (one_elsewhere (column_name p j) p.objective c r (entry p.costs j) (column_differs c (column_name p j) r p.objective other))

module _ (p : Program) (good : IsProgram p) where
  -- nothing of a column before its lines
  pub before_column : (j : ℕ) (r : List ℕ) → j < length p.columns → value_at (entries_told p j) (column_name p j) r ≡ None
  before_column j r lt =
      value_nowhere j (λ k. column_told p k (length p.rows)) (column_name p j) r
      (λ k less. other_column p k (length p.rows) (column_name p j) r (columns_differ p good j k lt (omega (arith, less)) (λ e. omega (arith, less))))

  -- nothing of an entry before its line
  pub before_entry : (j i : ℕ) → j < length p.columns → i < length p.rows
      → value_at (each_back i (entry_told p j) ++ telling (column_name p j) p.objective (entry p.costs j) ∷ entries_told p j) (column_name p j) (row_name p i) ≡ None
  before_entry j i jt it =
      value-append (each_back i (entry_told p j)) (telling (column_name p j) p.objective (entry p.costs j) ∷ entries_told p j) (column_name p j) (row_name p i)
      ∙ rw (
        value_nowhere i (entry_told p j) (column_name p j) (row_name p i) (λ k less. value_elsewhere (column_name p j) (row_name p k) (column_name p j) (row_name p i) (entry (row_at p.entries k) j)
            (row_differs (column_name p j) (column_name p j) (row_name p i) (row_name p k) (rows_differ p good i k it (omega (arith, less)) (λ e. omega (arith, less))))),
        row_differs (column_name p j) (column_name p j) (row_name p i) p.objective (λ e. objective_differs p good i it (sym e)),
      )
      (before_column j (row_name p i) jt)

  -- all of a column is found among its own tellings
  found_column : (j : ℕ) (r : List ℕ) → j < length p.columns → value_at (entries_told p (length p.columns)) (column_name p j) r ≡ value_at (column_told p j (length p.rows)) (column_name p j) r
  found_column j r lt =
      value_somewhere (length p.columns) (λ k. column_told p k (length p.rows)) (column_name p j) r j lt
      (λ k less other. other_column p k (length p.rows) (column_name p j) r (columns_differ p good j k lt less (λ e. other (sym e))))

  pub found_entry : (j i : ℕ) → j < length p.columns → i < length p.rows → value_told (entries_told p (length p.columns)) (column_name p j) (row_name p i) ≡ entry (row_at p.entries i) j
  found_entry j i jt it =
      let cost : value_at (telling (column_name p j) p.objective (entry p.costs j) ∷ []) (column_name p j) (row_name p i) ≡ None =
      one_elsewhere (column_name p j) p.objective (column_name p j) (row_name p i) (entry p.costs j) (row_differs (column_name p j) (column_name p j) (row_name p i) p.objective (λ e. objective_differs p good i it (sym e))) in
      let rest : value_at (column_told p j (length p.rows)) (column_name p j) (row_name p i) ≡ value_at (entry_told p j i) (column_name p j) (row_name p i) =
      value-append (each_back (length p.rows) (entry_told p j)) (telling (column_name p j) p.objective (entry p.costs j) ∷ []) (column_name p j) (row_name p i)
      ∙ ap (λ (o : Option ℚ). or_other (value_at (each_back (length p.rows) (entry_told p j)) (column_name p j) (row_name p i)) o) cost
      ∙ or_none (value_at (each_back (length p.rows) (entry_told p j)) (column_name p j) (row_name p i))
      ∙ value_somewhere (length p.rows) (entry_told p j) (column_name p j) (row_name p i) i it
      (λ k less other. value_elsewhere (column_name p j) (row_name p k) (column_name p j) (row_name p i) (entry (row_at p.entries k) j)
      (row_differs (column_name p j) (column_name p j) (row_name p i) (row_name p k) (rows_differ p good i k it less (λ e. other (sym e))))) in
      ap (λ (o : Option ℚ). unwrap_or o zero_ℚ) (found_column j (row_name p i) jt ∙ rest) ∙ value_here (column_name p j) (row_name p i) (entry (row_at p.entries i) j)

  pub found_cost : (j : ℕ) → j < length p.columns → value_told (entries_told p (length p.columns)) (column_name p j) p.objective ≡ entry p.costs j
  found_cost j jt =
      let rest : value_at (column_told p j (length p.rows)) (column_name p j) p.objective ≡ Some (entry p.costs j) =
      value-append (each_back (length p.rows) (entry_told p j)) (telling (column_name p j) p.objective (entry p.costs j) ∷ []) (column_name p j) p.objective
      ∙ rw (value_nowhere (length p.rows) (entry_told p j) (column_name p j) p.objective
      (λ k less. value_elsewhere (column_name p j) (row_name p k) (column_name p j) p.objective (entry (row_at p.entries k) j)
      (row_differs (column_name p j) (column_name p j) p.objective (row_name p k) (objective_differs p good k less))))
      (one_here (column_name p j) p.objective (entry p.costs j)) in
      ap (λ (o : Option ℚ). unwrap_or o zero_ℚ) (found_column j p.objective jt ∙ rest)
