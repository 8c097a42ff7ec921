-- The answers on systems and inverses are those of the elimination, and right.
use Rattle.std.proofs.Common.{◌≡◌, ℕ, ◌*◌, List, length, map, replicate, Option, Some, None, sym, ap, ◌∙◌, subst, refl}
use Rattle.std.specs.Prelude.{Result, Ok, Err}
use Rattle.std.specs.List.{All}
use Rattle.std.specs.Option.{option_map}
use Rattle.rational.specs.Rational.{ℚ}
use Rattle.rational.specs.Vectors.{HasColumns}
use Rattle.frac_core.specs.Operations.{IsWithin}
use Rattle.frac_core.specs.declared.fractions.Refused.{Refused}
use Rattle.exact_matrix.specs.declared.systems.Stop.{Stop}
use Rattle.exact_matrix.specs.declared.systems.Stop.TheVariants.{Memory, Past}
use Rattle.elimination_law.specs.Elimination.{Line, eliminated}
use Rattle.elimination_law.specs.Answers.{Answer, answer_of, solved, inverse, inverse_from, lines_of, solve_rows, invert_rows}
use Rattle.elimination_law.specs.Calculation.{eliminated_in}
use Rattle.elimination_law.specs.Meaning.{IsRight, IsInverseOrDepends}
use Rattle.elimination_law.specs.Operations.{elimination_ops}
use Rattle.exact_matrix.specs.Grid.{Grid, IsGrid, rows_of}
use Rattle.exact_matrix.specs.State.{state, values}
use Rattle.exact_matrix.specs.Stops.{IsFirstStop, Stops}
use Rattle.exact_matrix.specs.Systems.{joined}
use Rattle.elimination_law.proofs.Calculated.{eliminated_in-exact, eliminated_in-first, eliminated_in-within}
use Rattle.elimination_law.proofs.Inverted.{inverse_or_depends}
use Rattle.elimination_law.proofs.Solved.{answer_is_right}
use Rattle.elimination_law.proofs.Without.{solve_rows_width}
use Rattle.exact_matrix.proofs.Assembled.{assembled, assembled_length, state_fresh, invert_rows_width, values_width, values_length}
use Rattle.std.proofs.lemmas.List.{length-map}

-- the same rows are eliminated, of which there may be two names
module _ (top k n w : ℕ) (rows given : List (List ℚ)) (wide : HasColumns w rows) (same : given ≡ rows) (columns : k ≡ n) where
  as_named : (r : Result (List Line) Refused) → eliminated_in top k (lines_of given) ≡ r → eliminated_in top n (lines_of rows) ≡ r
  as_named r e = ap (λ n. eliminated_in top n (lines_of rows)) (sym columns) ∙ ap (λ g. eliminated_in top k (lines_of g)) (sym same) ∙ e

  -- the lines are exact
  exact : (ls : List Line) → eliminated_in top k (lines_of given) ≡ Ok ls → ls ≡ eliminated n (lines_of rows)
  exact ls e = eliminated_in-exact top n w rows ls wide (as_named (Ok ls) e)

  within : (ls : List Line) → eliminated_in top k (lines_of given) ≡ Ok ls → All (IsWithin top) (elimination_ops n (lines_of rows))
  within ls e = eliminated_in-within top n w rows ls wide (as_named (Ok ls) e)

  stopped : (stop : Stop) → Stops stop (eliminated_in top k (lines_of given)) → IsFirstStop top (elimination_ops n (lines_of rows)) stop
  stopped Memory e = tt
  stopped (Past r) e = eliminated_in-first top n w rows r wide (as_named (Err r) e)

module _ {F : Type 0} (v : F → ℚ) (m s : Grid F) (r : List F) (top n : ℕ) (shape : IsGrid m) (columns : n ≡ m.columns) (same : values v s ≡ solve_rows (values v m) (map v r)) where
  abbrev solve_list : List Refused
  solve_list = elimination_ops m.columns (lines_of (solve_rows (values v m) (map v r)))

  pub solve_within : (ls : List Line) → eliminated_in top n (lines_of (values v s)) ≡ Ok ls → All (IsWithin top) solve_list
  solve_within ls e =
      within top n m.columns _ (solve_rows (values v m) (map v r)) (values v s) (solve_rows_width m.columns (values v m) (map v r) (values_width v m shape)) same columns ls e

  pub solve_stopped : (stop : Stop) → Stops stop (eliminated_in top n (lines_of (values v s))) → IsFirstStop top solve_list stop
  solve_stopped stop e =
      stopped top n m.columns _ (solve_rows (values v m) (map v r)) (values v s) (solve_rows_width m.columns (values v m) (map v r) (values_width v m shape)) same columns stop e

module _ {F : Type 0} (v : F → ℚ) (m s : Grid F) (top n : ℕ) (shape : IsGrid m) (columns : n ≡ m.columns) (same : values v s ≡ invert_rows (values v m)) where
  abbrev invert_list : List Refused
  invert_list = elimination_ops m.columns (lines_of (invert_rows (values v m)))

  pub invert_within : (ls : List Line) → eliminated_in top n (lines_of (values v s)) ≡ Ok ls → All (IsWithin top) invert_list
  invert_within ls e =
      within top n m.columns _ (invert_rows (values v m)) (values v s) (invert_rows_width m.columns (values v m) (values_width v m shape)) same columns ls e

  pub invert_stopped : (stop : Stop) → Stops stop (eliminated_in top n (lines_of (values v s))) → IsFirstStop top invert_list stop
  invert_stopped stop e =
      stopped top n m.columns _ (invert_rows (values v m)) (values v s) (invert_rows_width m.columns (values v m) (values_width v m shape)) same columns stop e

pub solve_answered : {F : Type 0} (v : F → ℚ) (m s : Grid F) (r : List F) (top n : ℕ) (ls : List Line) (a : Answer) → IsGrid m → n ≡ m.columns → values v s ≡ solve_rows (values v m) (map v r) →
    eliminated_in top n (lines_of (values v s)) ≡ Ok ls → a ≡ answer_of n ls → a ≡ solved m.columns (values v m) (map v r)
solve_answered v m s r top n ls a h f e k l =
    l ∙ ap (λ n. answer_of n ls) f
    ∙ ap (answer_of m.columns) (exact top n m.columns _ (solve_rows (values v m) (map v r)) (values v s) (solve_rows_width m.columns (values v m) (map v r) (values_width v m h)) e f ls k)

pub solve_right : {F : Type 0} (v : F → ℚ) (m : Grid F) (r : List F) (a : Answer) → IsGrid m → length r ≡ length m.rows → a ≡ solved m.columns (values v m) (map v r) →
    IsRight m.columns (values v m) (map v r) a
solve_right v m r a h l e =
    subst (λ (a : Answer). IsRight m.columns (values v m) (map v r) a) (sym e)
    (answer_is_right m.columns (values v m) (map v r) (values_width v m h) (length-map r v ∙ l ∙ sym (values_length v m)))

by_inverse : {F : Type 0} (v : F → ℚ) (n : ℕ) (M : List (List ℚ)) (xs : List F) (o : Option (List (List ℚ))) → IsInverseOrDepends n M o → Some (map v xs) ≡ option_map joined o →
    (length xs ≡ n * n) × (Some (map (map v) (rows_of n n xs)) ≡ o)
by_inverse v n M xs None h e = absurd cc
by_inverse v n M xs (Some N) h e =
    let s : map v xs ≡ joined N = cc in
    (assembled_length v n n xs N h.columns h.rows s, ap Some (assembled v n n xs N h.columns h.rows s))

none_by : (o : Option (List (List ℚ))) → None ≡ option_map joined o → None ≡ o
none_by None e = refl
none_by (Some N) e = absurd cc

inverse_is : {F : Type 0} (v : F → ℚ) (m s : Grid F) (top n : ℕ) (ls : List Line) → IsGrid m → n ≡ m.columns → values v s ≡ invert_rows (values v m) →
    eliminated_in top n (lines_of (values v s)) ≡ Ok ls → inverse_from n 0 n ls ≡ inverse m.columns (values v m)
inverse_is v m s top n ls h f e k =
    ap (λ n. inverse_from n 0 n ls) f
    ∙ ap (inverse_from m.columns 0 m.columns) (exact top n m.columns _ (invert_rows (values v m)) (values v s) (invert_rows_width m.columns (values v m) (values_width v m h)) e f ls k)

pub invert_right : {F : Type 0} (v : F → ℚ) (m : Grid F) (o : Option (List (List ℚ))) → IsGrid m → length m.rows ≡ m.columns → o ≡ inverse m.columns (values v m) →
    IsInverseOrDepends m.columns (values v m) o
invert_right v m o h l e =
    subst (λ (o : Option (List (List ℚ))). IsInverseOrDepends m.columns (values v m) o) (sym e) (inverse_or_depends m.columns (values v m) (values_width v m h) (values_length v m ∙ l))

pub invert_found : {F : Type 0} (v : F → ℚ) (m s : Grid F) (top n : ℕ) (ls : List Line) (xs : List F) → IsGrid m → length m.rows ≡ m.columns → n ≡ m.columns → values v s ≡ invert_rows (values v m) →
    eliminated_in top n (lines_of (values v s)) ≡ Ok ls → Some (map v xs) ≡ option_map joined (inverse_from n 0 n ls) →
    (length xs ≡ n * n) × (Some (map (map v) (rows_of n n xs)) ≡ inverse m.columns (values v m))
invert_found v m s top n ls xs h l f e k x =
    let i = inverse_is v m s top n ls h f e k in
    let all = by_inverse v m.columns (values v m) xs (inverse m.columns (values v m)) (inverse_or_depends m.columns (values v m) (values_width v m h) (values_length v m ∙ l)) (x ∙ ap (option_map joined) i) in
    (all.0 ∙ ap (λ n. n * n) (sym f), ap (λ n. Some (map (map v) (rows_of n n xs))) f ∙ all.1)

pub invert_missing : {F : Type 0} (v : F → ℚ) (m s : Grid F) (top n : ℕ) (ls : List Line) → IsGrid m → n ≡ m.columns → values v s ≡ invert_rows (values v m) →
    eliminated_in top n (lines_of (values v s)) ≡ Ok ls → None ≡ option_map joined (inverse_from n 0 n ls) → None ≡ inverse m.columns (values v m)
invert_missing v m s top n ls h f e k x = none_by _ x ∙ inverse_is v m s top n ls h f e k

-- of rows that aren't used yet, as the program holds them
pub stops_fresh : {F : Type 0} (v : F → ℚ) (ps : List (Option ℕ)) (k : ℕ) (m : Grid F) (top n : ℕ) (stop : Stop) → k ≡ length m.rows → ps ≡ replicate k None →
    Stops stop (eliminated_in top n (state v ps m)) → Stops stop (eliminated_in top n (lines_of (values v m)))
stops_fresh v ps k m top n stop e h s = subst (λ (ls : List Line). Stops stop (eliminated_in top n ls)) (state_fresh v ps k m e h) s
