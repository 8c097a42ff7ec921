-- Squares of Q that may stand in a certificate.
use Rattle.std.specs.Prelude.{◌≡◌, ℕ, List, [], ◌∷◌, length, All}
use Rattle.std.specs.List.{AllByRecursion}
use Rattle.std.proofs.Common.{arith, subst}
use Rattle.std.proofs.lemmas.List.Elements.{All-head, All-tail}
use Rattle.program_law.specs.declared.Square.{Square}
use Rattle.program_law.specs.Program.{Program, IsProgram}
use Rattle.convexity.specs.declared.Curvature.{Curvature}
use Rattle.convexity.specs.declared.Curvature.TheVariants.{Squares}
use Rattle.convexity.specs.Meaning.{AreFew, HasWidth, IsCurvatureOf}
use Rattle.branching.specs.Decided.{AreSquaresFor}

widths : (n : ℕ) (ss : List Square) → All (λ s. length s.coef ≡ n) ss → AllByRecursion (λ s. length s.coef ≡ n) ss
widths n [] h = tt
widths n (s ∷ ss) h = (All-head (λ s. length s.coef ≡ n) s ss h, widths n ss (All-tail (λ s. length s.coef ≡ n) s ss h))

-- the answer of a program's reduction
known : (p : Program) (squares : List Square) → IsProgram p → IsCurvatureOf p.pairs (Squares squares) → HasWidth (length p.columns) (Squares squares)
    → AreFew (length p.columns) (Squares squares) → AreSquaresFor p squares
known p squares is sum width few = record {
  sum = sum;
  fitting = record { positive = sum.positive; widths = widths (length p.columns) squares width };
  few = (let a = is.few_columns in omega (arith, few, a));
}

pub squares_for : (p : Program) (answer : Curvature) (squares : List Square) → IsProgram p → answer ≡ Squares squares → IsCurvatureOf p.pairs answer → HasWidth (length p.columns) answer
    → AreFew (length p.columns) answer → AreSquaresFor p squares
squares_for p answer squares is e sum width few =
    known p squares is (subst (λ (a : Curvature). IsCurvatureOf p.pairs a) e sum) (subst (λ (a : Curvature). HasWidth (length p.columns) a) e width)
    (subst (λ (a : Curvature). AreFew (length p.columns) a) e few)
