-- Leaves and certificates of worked programs, by computing.
use Rattle.std.specs.Prelude.{◌≡◌, ℕ, zero, suc, pos, List, [], ◌∷◌, true, false}
use Rattle.std.proofs.Common.{refl}
use Rattle.rational.specs.Divisors.{gcd_of}
use Rattle.rational.specs.Rational.{whole, fraction, ratio, neg_ℚ, same_ℚ, zero_ℚ, ◌+ℚ◌, ◌*ℚ◌}
use Rattle.program_law.proofs.Numbers.{le_tested, lt_tested}
use Rattle.program_law.specs.declared.Square.{Square}
use Rattle.rational.specs.Sums.{entry}
use Rattle.rational.specs.Vectors.{row_at}
use Rattle.program_law.specs.Region.{left_of, right_of}
use Rattle.program_law.specs.Program.{bounds}
use Rattle.program_law.proofs.Worked.{n, minus, first, apart, between}
use Rattle.certificate_law.specs.declared.Node.TheVariants.{Branch, Bound, Farkas}
use Rattle.certificate_law.specs.declared.Certificate.TheVariants.{Optimal, Infeasible}
use Rattle.certificate_law.specs.Leaf.{no_gradient, total, lower_bound}
use Rattle.program_law.specs.Squares.{squares_sum}
use Rattle.certificate_law.specs.Good.{IsGood}

-- ---- x ≤ 1 and x ≥ 2: the multipliers -1 and 1 give 1, and -1 alone gives -1
apart_total : total apart no_gradient (bounds apart) (minus 1 ∷ n 1 ∷ []) ≡ n 1
unfolding ◌+ℚ◌ ◌*ℚ◌ neg_ℚ ratio gcd_of whole
apart_total = same_ℚ _ _ refl refl

apart_less : total apart no_gradient (bounds apart) (minus 1 ∷ n 0 ∷ []) ≡ minus 1
unfolding ◌+ℚ◌ ◌*ℚ◌ neg_ℚ ratio gcd_of whole
apart_less = same_ℚ _ _ refl refl

apart_is_good : IsGood apart (Infeasible (Farkas (minus 1 ∷ n 1 ∷ []) ∷ []))
unfolding ◌+ℚ◌ ◌*ℚ◌ neg_ℚ ratio gcd_of whole
apart_is_good = (
  record {
    has_sides = record {
      rows = (record { low = λ e. e; high = λ e. refl }, (record { low = λ e. refl; high = λ e. e }, tt));
      columns = (record { low = λ e. refl; high = λ e. e }, tt);
    };
    above = lt_tested (total apart no_gradient (bounds apart) (minus 1 ∷ n 1 ∷ [])) zero_ℚ refl;
  },
  tt,
)

-- ---- the first program: the leaf at (2, 3) with the multiplier -4 on the second row is 8, with -3 it is 4
first_bound : lower_bound first (bounds first) (n 2 ∷ n 3 ∷ []) (n 0 ∷ minus 4 ∷ []) ≡ n 8
unfolding ◌+ℚ◌ ◌*ℚ◌ neg_ℚ ratio gcd_of whole
first_bound = same_ℚ _ _ refl refl

first_less : lower_bound first (bounds first) (n 2 ∷ n 3 ∷ []) (n 0 ∷ minus 3 ∷ []) ≡ n 4
unfolding ◌+ℚ◌ ◌*ℚ◌ neg_ℚ ratio gcd_of whole
first_less = same_ℚ _ _ refl refl

abbrev first_squares : List Square
first_squares = record { weight = n 2; coef = n 1 ∷ n 0 ∷ [] } ∷ record { weight = n 8; coef = n 0 ∷ n 1 ∷ [] } ∷ []

first_sum : (j k : ℕ) → entry (row_at first.pairs j) k ≡ squares_sum first_squares j k
unfolding ◌+ℚ◌ ◌*ℚ◌ neg_ℚ ratio gcd_of whole
first_sum zero zero = same_ℚ _ _ refl refl
first_sum zero (suc zero) = same_ℚ _ _ refl refl
first_sum zero (suc (suc k)) = same_ℚ _ _ refl refl
first_sum (suc zero) zero = same_ℚ _ _ refl refl
first_sum (suc zero) (suc zero) = same_ℚ _ _ refl refl
first_sum (suc zero) (suc (suc k)) = same_ℚ _ _ refl refl
first_sum (suc (suc j)) zero = same_ℚ _ _ refl refl
first_sum (suc (suc j)) (suc zero) = same_ℚ _ _ refl refl
first_sum (suc (suc j)) (suc (suc k)) = same_ℚ _ _ refl refl

no : {A : Type 0} → false ≡ true → A
no e = absurd (clash e)
  where
    clash : false ≡ true → ⊥
    clash e = cc

first_is_good : IsGood first (Optimal (n 2 ∷ n 3 ∷ []) (n 8) first_squares (Bound (n 2 ∷ n 3 ∷ []) (n 0 ∷ minus 4 ∷ []) ∷ []))
unfolding ◌+ℚ◌ ◌*ℚ◌ neg_ℚ ratio gcd_of whole
first_is_good =
    record {
      point = record {
        relaxed = record {
          rows = (record { low = tt; high = le_tested _ _ refl }, (record { low = tt; high = le_tested _ _ refl }, tt));
          columns = (record { low = le_tested _ _ refl; high = tt }, (record { low = le_tested _ _ refl; high = le_tested _ _ refl }, tt));
        };
        whole = (λ e. no e, (λ e. no e, tt));
      };
      has_value = same_ℚ _ _ refl refl;
      has_squares = record { positive = (lt_tested (n 2) zero_ℚ refl, (lt_tested (n 8) zero_ℚ refl, tt)); sum = first_sum };
      bounded = (
        record {
          has_sides = record {
            rows = (record { low = λ e. e; high = λ e. refl }, (record { low = λ e. e; high = λ e. refl }, tt));
            columns = (record { low = λ e. refl; high = λ e. e }, (record { low = λ e. refl; high = λ e. refl }, tt));
          };
          enough = le_tested (n 8) (lower_bound first (bounds first) (n 2 ∷ n 3 ∷ []) (n 0 ∷ minus 4 ∷ [])) refl;
        },
        tt,
      );
    }

-- ---- x^2 - x + 1/4 with x whole: both leaves of the branch at 0 are 1/4
between_left_bound : lower_bound between (left_of (bounds between) 0 (pos 0)) (n 0 ∷ []) [] ≡ fraction (pos 1) 4
unfolding ◌+ℚ◌ ◌*ℚ◌ neg_ℚ ratio gcd_of whole
between_left_bound = same_ℚ _ _ refl refl

between_right_bound : lower_bound between (right_of (bounds between) 0 (pos 0)) (n 1 ∷ []) [] ≡ fraction (pos 1) 4
unfolding ◌+ℚ◌ ◌*ℚ◌ neg_ℚ ratio gcd_of whole
between_right_bound = same_ℚ _ _ refl refl

abbrev between_squares : List Square
between_squares = record { weight = n 2; coef = n 1 ∷ [] } ∷ []

between_sum : (j k : ℕ) → entry (row_at between.pairs j) k ≡ squares_sum between_squares j k
unfolding ◌+ℚ◌ ◌*ℚ◌ neg_ℚ ratio gcd_of whole
between_sum zero zero = same_ℚ _ _ refl refl
between_sum zero (suc k) = same_ℚ _ _ refl refl
between_sum (suc j) zero = same_ℚ _ _ refl refl
between_sum (suc j) (suc k) = same_ℚ _ _ refl refl

between_is_good : IsGood between (Optimal (n 0 ∷ []) (fraction (pos 1) 4) between_squares (Branch 0 (pos 0) ∷ Bound (n 0 ∷ []) [] ∷ Bound (n 1 ∷ []) [] ∷ []))
unfolding ◌+ℚ◌ ◌*ℚ◌ neg_ℚ ratio gcd_of whole
between_is_good =
    record {
      point = record {
        relaxed = record { rows = tt; columns = (record { low = le_tested _ _ refl; high = tt }, tt) };
        whole = (λ e. refl, tt);
      };
      has_value = same_ℚ _ _ refl refl;
      has_squares = record { positive = (lt_tested (n 2) zero_ℚ refl, tt); sum = between_sum };
      bounded = (
        refl,
        (
          record {
            has_sides = record { rows = tt; columns = (record { low = λ e. refl; high = λ e. refl }, tt) };
            enough = le_tested (fraction (pos 1) 4) (lower_bound between (left_of (bounds between) 0 (pos 0)) (n 0 ∷ []) []) refl;
          },
          (
            record {
              has_sides = record { rows = tt; columns = (record { low = λ e. refl; high = λ e. no e }, tt) };
              enough = le_tested (fraction (pos 1) 4) (lower_bound between (right_of (bounds between) 0 (pos 0)) (n 1 ∷ []) []) refl;
            },
            tt,
          ),
        ),
      );
    }
