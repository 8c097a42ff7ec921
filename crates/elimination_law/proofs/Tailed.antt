-- The elimination of M with columns X beside it: what its rows give of vectors in two parts.
use Rattle.std.proofs.Common.{◌≡◌, ℕ, ◌+◌, List, [], ◌∷◌, ◌++◌, length, take, drop, sym, ◌∙◌, arith}
use Rattle.std.specs.List.{AllByRecursion}
use Rattle.rational.specs.Rational.{ℚ, zero_ℚ, ◌+ℚ◌}
use Rattle.rational.specs.Vectors.{dot, add_each, zeros, rows_dot}
use Rattle.elimination_law.specs.Elimination.{Line, eliminated}
use Rattle.elimination_law.specs.Answers.{beside, lines_of}
use Rattle.elimination_law.proofs.Lines.{each_both, each_weaker, HasWidth}
use Rattle.elimination_law.proofs.Kernel.{SameKernel, same_kernel}
use Rattle.elimination_law.proofs.Vectors.{dot-split, width-beside, kills-beside, killed-beside}

pub width-lines : (w : ℕ) (rows : List (List ℚ)) → AllByRecursion (λ r. length r ≡ w) rows → HasWidth w (lines_of rows)
width-lines w [] h = tt
width-lines w (row ∷ rows) h = (h.0, width-lines w rows h.1)

module _ (n x : ℕ) (M X : List (List ℚ)) (m_width : AllByRecursion (λ r. length r ≡ n) M) (x_width : AllByRecursion (λ r. length r ≡ x) X) (heights : length M ≡ length X) where
  abbrev pub final : List Line
  final = eliminated n (lines_of (beside M X))

  pub kernel : (v : List ℚ) → SameKernel (n + x) v (lines_of (beside M X)) final
  kernel v = same_kernel (n + x) v n (lines_of (beside M X)) (width-lines (n + x) (beside M X) (width-beside n x M X m_width x_width))

  split : (row z y : List ℚ) → length z ≡ n → length row ≡ n + x → dot row (z ++ y) ≡ dot (take n row) z +ℚ dot (drop n row) y
  split row z y e h = dot-split n row z y e (omega arith)

  -- where M z + X y is 0, so is each row
  pub there : (z y : List ℚ) → length z ≡ n → add_each (rows_dot M z) (rows_dot X y) ≡ zeros (length M)
      → AllByRecursion (λ l. dot (take n l.entries) z +ℚ dot (drop n l.entries) y ≡ zero_ℚ) final
  there z y e h =
      let k = kernel (z ++ y) in
      each_weaker (λ l. (length l.entries ≡ n + x) × (dot l.entries (z ++ y) ≡ zero_ℚ)) (λ l. dot (take n l.entries) z +ℚ dot (drop n l.entries) y ≡ zero_ℚ) final
      (λ l t. sym (split l.entries z y e t.0) ∙ t.1)
      (each_both (λ l. length l.entries ≡ n + x) (λ l. dot l.entries (z ++ y) ≡ zero_ℚ) final k.width (k.there (kills-beside n M X z y m_width e heights h)))

  -- and back
  pub back : (z y : List ℚ) → length z ≡ n → AllByRecursion (λ l. dot (take n l.entries) z +ℚ dot (drop n l.entries) y ≡ zero_ℚ) final
      → add_each (rows_dot M z) (rows_dot X y) ≡ zeros (length M)
  back z y e h =
      let k = kernel (z ++ y) in
      killed-beside n M X z y m_width e heights (k.back
      (each_weaker (λ l. (length l.entries ≡ n + x) × (dot (take n l.entries) z +ℚ dot (drop n l.entries) y ≡ zero_ℚ)) (λ l. dot l.entries (z ++ y) ≡ zero_ℚ) final
      (λ l t. split l.entries z y e t.0 ∙ t.1)
      (each_both (λ l. length l.entries ≡ n + x) (λ l. dot (take n l.entries) z +ℚ dot (drop n l.entries) y ≡ zero_ℚ) final k.width h)))
