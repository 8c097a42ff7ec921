-- What `solve` and `invert` answer.
use Rattle.std.specs.Prelude.{◌≡◌, ◌<◌, ℕ, List, [], ◌∷◌, ◌++◌, map, length, slice_index_or, Option, Some, None}
use Rattle.rational.specs.Rational.{ℚ}
use Rattle.exact_matrix.specs.declared.systems.Solved.{Solved}
use Rattle.exact_matrix.specs.declared.systems.Solved.TheVariants as answers
use Rattle.elimination_law.specs.Answers.{Answer, Solution, Refutation, row_of_pivot}
use Rattle.exact_matrix.specs.State.{lines}

-- the numbers of an answer
abbrev pub answer_value : {F : Type 0} → (F → ℚ) → Solved F → Answer
answer_value value (answers.Solution z) = Solution (map value z)
answer_value value (answers.Refuted w x) = Refutation (map value w) (value x)

-- where the row with the pivot of column j is, if there is one, whatever the rows are
abbrev pub IsPlaceOfPivot : ℕ → List (Option ℕ) → Option ℕ → Type 0
IsPlaceOfPivot j ps None = (rows : List (List ℚ)) → row_of_pivot j (lines ps rows) ≡ None
IsPlaceOfPivot j ps (Some i) = (i < length ps) × ((rows : List (List ℚ)) → i < length rows → row_of_pivot j (lines ps rows) ≡ Some (slice_index_or rows i []))

-- rows one after another
abbrev pub joined : List (List ℚ) → List ℚ
joined [] = []
joined (row ∷ rows) = row ++ joined rows
