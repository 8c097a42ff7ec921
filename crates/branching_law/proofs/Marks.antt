-- Points that keep the marks, and branches.
use Rattle.std.specs.Prelude.{◌≡◌, ℕ, zero, suc, List, [], ◌∷◌, Bool, true, false, nat_eq}
use Rattle.std.proofs.Common.{refl, arith}
use Rattle.std.proofs.lemmas.Bool.Decides.{nat_tests}
use Rattle.rational.specs.Rational.{ℚ}
use Rattle.rational.proofs.Wholes.{den-whole}
use Rattle.rational.specs.Sums.{entry}
use Rattle.program_law.specs.Program.{Program, marks, is_marked}
use Rattle.program_law.specs.Columns.{IsWhole, AreWholeOn}
use Rattle.branching_law.specs.Rounding.{IsMarked}
use Rattle.branching_law.specs.Nodes.{IsFractionalAt}

-- it is decided whether a number is whole
pub whole_unless : (q : ℚ) → ¬ (¬ (IsWhole q)) → IsWhole q
whole_unless q h = by q.den (nat_eq q.den 1) refl h
  where
    by : (d : ℕ) (b : Bool) → nat_eq d 1 ≡ b → ¬ (¬ (d ≡ 1)) → d ≡ 1
    by d true e h = grind (arith, nat_tests)
    by d false e h = absurd (h (λ k. differ d e k))
      where
        differ : (d : ℕ) → nat_eq d 1 ≡ false → d ≡ 1 → ⊥
        differ d e k = grind (arith, nat_tests)

unmarked_past : {P : Type 0} (j : ℕ) → is_marked [] j ≡ true → P
unmarked_past j e = absurd (bad e)
  where
    bad : false ≡ true → ⊥
    bad e = cc

all_whole : (ms : List Bool) (x : List ℚ) → ((j : ℕ) → is_marked ms j ≡ true → IsWhole (entry x j)) → AreWholeOn ms x
all_whole [] x h = tt
all_whole (m ∷ ms) [] h = tt
all_whole (m ∷ ms) (q ∷ x) h = (h zero, all_whole ms x (λ j. h (suc j)))

whole_where : (ms : List Bool) (x : List ℚ) (j : ℕ) → AreWholeOn ms x → is_marked ms j ≡ true → IsWhole (entry x j)
whole_where [] x j h m = unmarked_past j m
whole_where (b ∷ ms) [] j h m = den-whole _
whole_where (b ∷ ms) (q ∷ x) zero h m = h.0 m
whole_where (b ∷ ms) (q ∷ x) (suc j) h m = whole_where ms x j h.1 m

pub kept_by_none : (p : Program) (x : List ℚ) → ((j : ℕ) → ¬ (IsFractionalAt p x j)) → AreWholeOn (marks p) x
kept_by_none p x h = all_whole (marks p) x (λ j m. whole_unless (entry x j) (λ n. h j (record { marked = m; fractional = n })))

pub branch_is_not_kept : (p : Program) (x : List ℚ) (j : ℕ) → IsFractionalAt p x j → ¬ (AreWholeOn (marks p) x)
branch_is_not_kept p x j f w = f.fractional (whole_where (marks p) x j w f.marked)

pub kept_unmarked : (p : Program) (x : List ℚ) → ¬ (IsMarked p) → AreWholeOn (marks p) x
kept_unmarked p x n = all_whole (marks p) x (λ j m. absurd (n (j, m)))
