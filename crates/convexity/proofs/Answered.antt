-- What a call answers.
use Rattle.std.specs.Prelude.{◌≡◌, ℕ, List, length, Option, Some, None, Result, Ok, Err, IfOk}
use Rattle.std.proofs.Common.{subst, sym, ◌∙◌, ap}
use Rattle.rational.specs.Rational.{ℚ}
use Rattle.frac_core.specs.declared.fractions.Refused.{Refused}
use Rattle.program_law.specs.declared.Square.{Square}
use Rattle.program_law.specs.Program.{Program, IsProgram}
use Rattle.exact_matrix.specs.declared.systems.Stop.{Stop}
use Rattle.exact_matrix.specs.declared.systems.Stop.TheVariants.{Memory, Past}
use Rattle.convexity.specs.declared.Curvature.{Curvature}
use Rattle.convexity.specs.declared.Curvature.TheVariants.{Squares, Negative}
use Rattle.symmetric_half.specs.Half.{upper_half}
use Rattle.exact_matrix.specs.Stops.{Answers, IsAnswerOf}
use Rattle.convexity.specs.Meaning.{AreFew, HasWidth, IsCurvatureOf}
use Rattle.convexity.specs.Places.{answer_at, answer_found, squares_of_rows, IsReduced}
use Rattle.convexity.specs.Reduction.{curvature_of}
use Rattle.convexity.specs.ReductionCalculation.{squares_from, squares_of}
use Rattle.convexity.specs.ReductionOperations.{squares_ops}
use Rattle.symmetric_half.proofs.Halves.{program_symmetric}
use Rattle.convexity.proofs.Curved.{curved, curved_width}
use Rattle.convexity.proofs.Steps.{squares_done, at_start}
use Rattle.symmetric_half.proofs.Triangles.{length-upper}
use Rattle.convexity.proofs.Few.{few_of}
use Rattle.convexity.proofs.Ended.{answer_is_exact, answer_is_within, refusal_is_first}

-- the whole calculation is the reduction from the first place on
whole : (q half : List (List ℚ)) → half ≡ upper_half q → squares_of q ≡ answer_at 0 half
whole q half e =
    ap (λ (n : ℕ). squares_from n (upper_half q)) (sym (length-upper 0 q)) ∙ sym (at_start (upper_half q)) ∙ ap (answer_at 0) (sym e)

pub answer_negative : (q half new : List (List ℚ)) (z w : List ℚ) (o : Option ℕ) (j : ℕ) → half ≡ upper_half q → IsReduced half new z (Ok o) → o ≡ Some j
    → answer_found j new z ≡ Ok (Negative w) → squares_of q ≡ Ok (Negative w)
answer_negative q half new z w o j e h is f =
    let r : IsReduced half new z (Ok (Some j)) = subst (λ (o : Option ℕ). IsReduced half new z (Ok o)) is h in
    whole q half e ∙ sym r.1 ∙ f

pub answer_carried_past : (q half new : List (List ℚ)) (z : List ℚ) (o : Option ℕ) (j : ℕ) (r : Refused) → half ≡ upper_half q → IsReduced half new z (Ok o) → o ≡ Some j
    → answer_found j new z ≡ Err r → squares_of q ≡ Err r
answer_carried_past q half new z o j r e h is f =
    let k : IsReduced half new z (Ok (Some j)) = subst (λ (o : Option ℕ). IsReduced half new z (Ok o)) is h in
    whole q half e ∙ sym k.1 ∙ f

pub answer_squares : (q half new : List (List ℚ)) (z : List ℚ) (o : Option ℕ) (ss : List Square) → half ≡ upper_half q → IsReduced half new z (Ok o) → o ≡ None
    → ss ≡ squares_of_rows 0 new → squares_of q ≡ Ok (Squares ss)
answer_squares q half new z o ss e h is f =
    let r : IsReduced half new z (Ok None) = subst (λ (o : Option ℕ). IsReduced half new z (Ok o)) is h in
    whole q half e ∙ sym r ∙ squares_done new ∙ ap (λ (ss : List Square). Ok (Squares ss)) (sym f)

pub answer_past : (q half new : List (List ℚ)) (z : List ℚ) (r : Refused) → half ≡ upper_half q → IsReduced half new z (Err r) → squares_of q ≡ Err r
answer_past q half new z r e h = whole q half e ∙ h

module _ (p : Program) (program : IsProgram p) where
  pub operations_are : (result : Result Curvature Stop) → Answers (λ (c : Curvature). c) result (squares_of p.pairs) → IsAnswerOf (squares_ops p.pairs) result
  operations_are (Ok c) h = answer_is_within p.pairs c (program_symmetric p program) h
  operations_are (Err (Past r)) h = refusal_is_first p.pairs r (program_symmetric p program) h
  operations_are (Err Memory) h = tt

  pub exact_is : (result : Result Curvature Stop) → Answers (λ (c : Curvature). c) result (squares_of p.pairs) → IfOk result (λ c. c ≡ curvature_of p.pairs)
  exact_is (Ok c) h = answer_is_exact p.pairs c (program_symmetric p program) h
  exact_is (Err e) h = tt

  pub right_is : (result : Result Curvature Stop) → Answers (λ (c : Curvature). c) result (squares_of p.pairs) → IfOk result (λ c. IsCurvatureOf p.pairs c)
  right_is (Ok c) h = subst (λ (c : Curvature). IsCurvatureOf p.pairs c) (sym (answer_is_exact p.pairs c (program_symmetric p program) h)) (curved p.pairs (program_symmetric p program))
  right_is (Err e) h = tt

  pub width_is : (result : Result Curvature Stop) → Answers (λ (c : Curvature). c) result (squares_of p.pairs) → IfOk result (λ c. HasWidth (length p.columns) c)
  width_is (Ok c) h =
      subst (λ (n : ℕ). HasWidth n c) program.pairs_height
      (subst (λ (c : Curvature). HasWidth (length p.pairs) c) (sym (answer_is_exact p.pairs c (program_symmetric p program) h)) (curved_width p.pairs (program_symmetric p program)))
  width_is (Err e) h = tt

  pub few_is : (result : Result Curvature Stop) → Answers (λ (c : Curvature). c) result (squares_of p.pairs) → IfOk result (AreFew (length p.columns))
  few_is (Ok c) h = subst (λ (n : ℕ). AreFew n c) program.pairs_height (subst (AreFew (length p.pairs)) (sym (answer_is_exact p.pairs c (program_symmetric p program) h)) (few_of p.pairs))
  few_is (Err e) h = tt
