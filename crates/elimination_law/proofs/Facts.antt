-- The laws of the lines, of all lines at once.
use Rattle.std.proofs.Common.{◌≡◌, ℕ, suc, List, [], ◌∷◌, length, take, drop, subst}
use Rattle.std.specs.Prelude.{◌↔◌}
use Rattle.std.specs.List.{AllByRecursion, All}
use Rattle.std.proofs.lemmas.List.Elements.{recursion_from_All, All-from_recursion}
use Rattle.rational.specs.Rational.{ℚ, zero_ℚ}
use Rattle.rational.specs.Vectors.{HasColumns, dot, rows_dot}
use Rattle.elimination_law.specs.Elimination.{eliminated}
use Rattle.elimination_law.specs.Answers.{lines_of, solve_rows}
use Rattle.elimination_law.specs.Meaning.{Shaped, IsCombined}
use Rattle.elimination_law.proofs.Lines.{width-lines_of}
use Rattle.elimination_law.proofs.Kernel.{Kills, same_kernel}
use Rattle.elimination_law.proofs.Pivots.{shaped}
use Rattle.elimination_law.proofs.Solved.{rows_combined, front_is, rows_give}

pub all_combined : (n : ℕ) (M : List (List ℚ)) (r : List ℚ) → HasColumns n M → length r ≡ length M → All (λ l. IsCombined n M r l.entries) (eliminated n (lines_of (solve_rows M r)))
all_combined n M r h e = All-from_recursion (λ l. IsCombined n M r l.entries) (eliminated n (lines_of (solve_rows M r))) (rows_combined n M r h e)

pub all_shaped : (n w : ℕ) (rows : List (List ℚ)) → HasColumns w rows → All (Shaped w n (eliminated n (lines_of rows))) (eliminated n (lines_of rows))
all_shaped n w rows h =
    let ls = eliminated n (lines_of rows) in
    All-from_recursion (Shaped w n ls) ls (shaped w n rows (recursion_from_All (λ r. length r ≡ w) rows h))

kills-lines : (v : List ℚ) (rows : List (List ℚ)) → AllByRecursion (λ row. dot row v ≡ zero_ℚ) rows → Kills v (lines_of rows)
kills-lines v [] h = tt
kills-lines v (row ∷ rows) h = (h.0, kills-lines v rows h.1)

killed-lines : (v : List ℚ) (rows : List (List ℚ)) → Kills v (lines_of rows) → AllByRecursion (λ row. dot row v ≡ zero_ℚ) rows
killed-lines v [] h = tt
killed-lines v (row ∷ rows) h = (h.0, killed-lines v rows h.1)

pub same_products : (n w : ℕ) (rows : List (List ℚ)) (v : List ℚ) → HasColumns w rows
    → All (λ row. dot row v ≡ zero_ℚ) rows ↔ All (λ l. dot l.entries v ≡ zero_ℚ) (eliminated n (lines_of rows))
same_products n w rows v h =
    let ls = eliminated n (lines_of rows) in
    let s = same_kernel w v n (lines_of rows) (width-lines_of w rows h) in (
      λ k. All-from_recursion (λ l. dot l.entries v ≡ zero_ℚ) ls (s.there (kills-lines v rows (recursion_from_All (λ row. dot row v ≡ zero_ℚ) rows k))),
      λ k. All-from_recursion (λ row. dot row v ≡ zero_ℚ) rows (killed-lines v rows (s.back (recursion_from_All (λ l. dot l.entries v ≡ zero_ℚ) ls k))),
    )

-- z gives v under M exactly where each row at the end gives of z what its part under the unit matrix gives of v
pub same_solutions : (n : ℕ) (M : List (List ℚ)) (r z v : List ℚ) → HasColumns n M → length r ≡ length M → length z ≡ n → length v ≡ length M
    → (rows_dot M z ≡ v) ↔ All (λ l. dot (take n l.entries) z ≡ dot (drop (suc n) l.entries) v) (eliminated n (lines_of (solve_rows M r)))
same_solutions n M r z v h e f g =
    let ls = eliminated n (lines_of (solve_rows M r)) in (
      λ k. subst (λ u. All (λ l. dot (take n l.entries) z ≡ dot (drop (suc n) l.entries) u) ls) k
          (All-from_recursion (λ l. dot (take n l.entries) z ≡ dot (drop (suc n) l.entries) (rows_dot M z)) ls (front_is n M r h e z f)),
      λ k. rows_give n M r h e z v f g (recursion_from_All (λ l. dot (take n l.entries) z ≡ dot (drop (suc n) l.entries) v) ls k),
    )
