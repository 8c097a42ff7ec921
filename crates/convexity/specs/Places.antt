-- The reduction place by place: R in an upper half of which the first rows are done. A row that is done has the weight of its square
-- and then the square's entries after its place; a weight 0 stands for no square.
use Rattle.std.specs.Prelude.{◌≡◌, ℕ, suc, ◌+◌, ◌-◌, ◌<◌, Bool, true, false, List, [], ◌∷◌, ◌++◌, take, drop, length, replicate, Option, Some, None, Result, Ok, Err, if◌then◌else◌}
use Rattle.rational.specs.Rational.{ℚ, zero_ℚ, one_ℚ}
use Rattle.rational.specs.Order.{same_fields}
use Rattle.frac_core.specs.declared.fractions.Refused.{Refused}
use Rattle.program_law.specs.declared.Square.{Square}
use Rattle.convexity.specs.declared.Curvature.{Curvature}
use Rattle.convexity.specs.declared.Curvature.TheVariants.{Negative}
use Rattle.frac_core.specs.Calculated.{◌>>=◌}
use Rattle.symmetric_half.specs.Chain.{row_answered}
use Rattle.convexity.specs.Reduction.{after_zero}
use Rattle.convexity.specs.ReductionCalculation.{less_product, after_square_in, squares_from}

-- an answer carried back over a row that is done
abbrev pub after_row : List ℚ → Curvature → Result Curvature Refused
after_row [] c = Ok (after_zero c)
after_row (d ∷ v) c = if same_fields d zero_ℚ then Ok (after_zero c) else after_square_in d v c

-- an answer carried back over rows that are done, the last first
abbrev pub after_rows : List (List ℚ) → Result Curvature Refused → Result Curvature Refused
after_rows [] answer = answer
after_rows (row ∷ rows) answer = after_rows rows answer >>= λ c. after_row row c

-- a vector with one entry more before it
abbrev pub with_entry : Result ℚ Refused → List ℚ → Result Curvature Refused
with_entry entry z = entry >>= λ x. Ok (Negative (x ∷ z))

-- the answer of rows of which the first j are done
unfoldable pub answer_at : ℕ → List (List ℚ) → Result Curvature Refused
answer_at j rows = after_rows (take j rows) (squares_from (length rows - j) (drop j rows))

-- the answer where the vector z is found at the place j
unfoldable pub answer_found : ℕ → List (List ℚ) → List ℚ → Result Curvature Refused
answer_found j rows z = after_rows (take j rows) (Ok (Negative (drop j z)))

-- after the place j: whether a vector is found; in any case the answer is the same as before
abbrev pub IsStep : ℕ → List (List ℚ) → List (List ℚ) → List ℚ → Result Bool Refused → Type 0
IsStep j old new z (Ok true) = answer_found j new z ≡ answer_at j old
IsStep j old new z (Ok false) = answer_at (j + 1) new ≡ answer_at j old
IsStep j old new z (Err r) = answer_at j old ≡ Err r

-- after a square is taken at the place j
abbrev pub IsTaken : ℕ → List (List ℚ) → List (List ℚ) → Result (Unit {0}) Refused → Type 0
IsTaken j old new (Ok u) = answer_at (j + 1) new ≡ answer_at j old
IsTaken j old new (Err r) = answer_at j old ≡ Err r

-- after all places: the place where a vector is found, if one is
abbrev pub IsReduced : List (List ℚ) → List (List ℚ) → List ℚ → Result (Option ℕ) Refused → Type 0
IsReduced old new z (Ok (Some j)) = (j < length new) × (answer_found j new z ≡ answer_at 0 old)
IsReduced old new z (Ok None) = answer_at (length new) new ≡ answer_at 0 old
IsReduced old new z (Err r) = answer_at 0 old ≡ Err r

-- rows less a product, one after another: `done` are the rows before them
abbrev pub freed_onto : List (List ℚ) → List ℚ → List ℚ → List (List ℚ) → Result (List (List ℚ)) Refused
freed_onto done [] v rows = Ok done
freed_onto done (f ∷ r) [] rows = Ok done
freed_onto done (f ∷ r) (y ∷ v) [] = Ok done
freed_onto done (f ∷ r) (y ∷ v) (row ∷ rows) = row_answered (less_product f (y ∷ v) row) >>= λ one. freed_onto (done ++ one ∷ []) r v rows

-- the squares of rows that are done, the first of which is that of the place j
abbrev pub squares_of_rows : ℕ → List (List ℚ) → List Square
squares_of_rows j [] = []
squares_of_rows j ([] ∷ rows) = squares_of_rows (suc j) rows
squares_of_rows j ((d ∷ v) ∷ rows) =
    if same_fields d zero_ℚ then squares_of_rows (suc j) rows
    else record { weight = d; coef = replicate j zero_ℚ ++ one_ℚ ∷ v } ∷ squares_of_rows (suc j) rows
