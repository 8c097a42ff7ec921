-- The program and the end faults don't depend on the numbers of the lines.
use Rattle.std.specs.Prelude.{◌≡◌, ℕ, Bool, true, false, List, [], ◌∷◌, map, Option, Some, None, unwrap_or, if◌then◌else◌}
use Rattle.std.proofs.Common.{refl, sym, ap, ◌∙◌}
use Rattle.std.proofs.Math.Path.{fun_ext}
use Rattle.rational.specs.Rational.{ℚ, zero_ℚ, neg_ℚ}
use Rattle.program_law.specs.Program.{Program}
use Rattle.mps_tokens.specs.declared.words.RowKind.{RowKind}
use Rattle.mps_tokens.specs.Cases.{named}
use Rattle.mps_grammar.specs.declared.kinds.FaultKind.TheVariants as kinds
use Rattle.named_things.specs.Named.{names_of}
use Rattle.mps_grammar.specs.Told.{Told, Telling, is_at, program_rows}
use Rattle.mps_grammar.specs.Programs.{or_other, value_at, sides_of, column_of, gives_pairs_once, objective_of, program_of, makes_past, is_range_past, is_lopsided, first_line, fault_at, range_fault, pair_fault, end_fault}
use Rattle.mps_writer_law.proofs.Erased.{bare, erase}

value_bare : (ts : List Telling) (column row : List ℕ) → value_at (map bare ts) column row ≡ value_at ts column row
value_bare [] column row = refl
value_bare (t ∷ ts) column row = ap (λ (o : Option ℚ). if is_at column row t then Some t.value else o) (value_bare ts column row)

-- what is found under two names
abbrev Found : Type 0
Found = List ℕ → List ℕ → Option ℚ

found_bare : (ts : List Telling) → value_at (map bare ts) ≡ value_at ts
found_bare ts = fun_ext (λ column. fun_ext (λ row. value_bare ts column row))

or_zero : Option ℚ → ℚ
or_zero o = unwrap_or o zero_ℚ

-- the program by what is found
by_found : Told → Found → Found → Found → Found → Program
by_found told entries sides ranges pairs =
    record {
      objective = objective_of told;
      rows = map (λ (r : List ℕ × RowKind). (r.0, sides_of r.1 (unwrap_or (sides [] r.0) zero_ℚ) (ranges [] r.0))) (program_rows told.rows);
      columns = map (column_of told) told.columns;
      entries = map (λ (r : List ℕ × RowKind). map (λ (column : List ℕ). unwrap_or (entries column r.0) zero_ℚ) (names_of told.columns)) (program_rows told.rows);
      costs = map (λ (column : List ℕ). unwrap_or (entries column (objective_of told)) zero_ℚ) (names_of told.columns);
      constant = neg_ℚ (unwrap_or (sides [] (objective_of told)) zero_ℚ);
      pairs =
          map (λ (one : List ℕ). map (λ (other : List ℕ). if gives_pairs_once told then unwrap_or (or_other (pairs one other) (pairs other one)) zero_ℚ else unwrap_or (pairs one other) zero_ℚ) (names_of told.columns)) (names_of told.columns);
    }

pub program_bare : (told : Told) → program_of (erase told) ≡ program_of told
unfolding by_found
program_bare told =
    ap (λ (f : Found). by_found told f (value_at (map bare told.sides)) (value_at (map bare told.ranges)) (value_at (map bare told.pairs))) (found_bare told.entries)
    ∙ ap (λ (f : Found). by_found told (value_at told.entries) f (value_at (map bare told.ranges)) (value_at (map bare told.pairs))) (found_bare told.sides)
    ∙ ap (λ (f : Found). by_found told (value_at told.entries) (value_at told.sides) f (value_at (map bare told.pairs))) (found_bare told.ranges)
    ∙ ap (λ (f : Found). by_found told (value_at told.entries) (value_at told.sides) (value_at told.ranges) f) (found_bare told.pairs)

-- ---- end faults

-- a range that makes no side too large
abbrev pub NonePast : Told → List Telling → Type 0
NonePast told [] = Unit {0}
NonePast told (t ∷ ts) = (is_range_past told t ≡ false) × NonePast told ts

past_bare : (told : Told) (t : Telling) → is_range_past (erase told) (bare t) ≡ is_range_past told t
past_bare told t = ap (λ (o : Option ℚ). makes_past (named told.rows t.row) (unwrap_or o zero_ℚ) t.value) (value_bare told.sides [] t.row)

none_past_bare : (told : Told) (ts : List Telling) → NonePast (erase told) (map bare ts) → NonePast told ts
none_past_bare told [] h = tt
none_past_bare told (t ∷ ts) h = (sym (past_bare told t) ∙ h.0, none_past_bare told ts h.1)

no_line : (told : Told) (ts : List Telling) → NonePast told ts → first_line (is_range_past told) ts ≡ None
no_line told [] h = refl
no_line told (t ∷ ts) h = rw (no_line told ts h.1, h.0) refl

nothing_bare : (ts : List Telling) → map bare ts ≡ [] → ts ≡ []
nothing_bare [] e = refl
nothing_bare (t ∷ ts) e = absurd cc

pair_none : (b : Bool) (told : Told) → (b ≡ false → told.pairs ≡ []) → (if b then None else fault_at kinds.NotSymmetric (first_line (is_lopsided told.pairs) told.pairs)) ≡ None
pair_none true told h = refl
pair_none false told h = rw (h refl) refl

-- no end fault, where none is seen without the numbers of the lines
pub no_end_fault : (told : Told) → NonePast (erase told) (erase told).ranges → (gives_pairs_once told ≡ false → (erase told).pairs ≡ []) → end_fault told ≡ None
no_end_fault told ranges pairs =
    let no_range : range_fault told ≡ None = ap (fault_at kinds.RangePast) (no_line told told.ranges (none_past_bare told told.ranges ranges)) in
    let no_pair : pair_fault told ≡ None = pair_none (gives_pairs_once told) told (λ e. nothing_bare told.pairs (pairs e)) in
    rw (no_range, no_pair) refl
