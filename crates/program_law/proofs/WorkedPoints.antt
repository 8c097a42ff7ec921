-- Points, values and regions of worked programs, by computing.
use Rattle.std.proofs.lemmas.List.Elements.{All-nil, All-cons}
use Rattle.std.proofs.lemmas.List.Kept.{AllPairs-cons}
use Rattle.std.specs.Prelude.{◌≢◌, ◌≤◌, All, AllPairs, IsTrue, length, ◌≡◌, ℕ, zero, suc, ℤ, pos, List, [], ◌∷◌, Some, None, true, false}
use Rattle.std.proofs.Common.{subst, suc-le-suc, zero-le, refl, arith, inl}
use Rattle.rational.specs.Divisors.{gcd_of}
use Rattle.rational.specs.Rational.{◌-ℚ◌, fits, ℚ, whole, ratio, neg_ℚ, same_ℚ, ◌+ℚ◌, ◌*ℚ◌}
use Rattle.rational.specs.Order.{◌≤ℚ◌}
use Rattle.program_law.proofs.Numbers.{le_tested}
use Rattle.frac_core.specs.Parts.{max_part}
use Rattle.rational.specs.Sums.{entry}
use Rattle.rational.specs.Vectors.{row_at}
use Rattle.program_law.specs.Region.{left_of, right_of}
use Rattle.program_law.specs.Program.{bounds, IsName, IsRow, marker, IsProgram}
use Rattle.program_law.specs.Point.{Point, IsFeasible}
use Rattle.program_law.specs.Value.{value_of}
use Rattle.program_law.proofs.Worked.{n, minus, first, between, ranged}

abbrev over : ℕ → List ℤ → Point
over k ps = record { p = ps; q = record { size = suc k; some = suc-le-suc zero-le } }

-- the first program has the value 8 at (2, 3), written as (4, 6) over 2
first_value : value_of first (over 1 (pos 4 ∷ pos 6 ∷ [])) ≡ n 8
unfolding ◌+ℚ◌ ◌*ℚ◌ neg_ℚ ratio gcd_of whole
first_value = same_ℚ _ _ refl refl

-- and (4, 6) over 2 is feasible
first_feasible : IsFeasible first (over 1 (pos 4 ∷ pos 6 ∷ []))
unfolding ◌+ℚ◌ ◌*ℚ◌ neg_ℚ ratio gcd_of whole
first_feasible =
    record {
      relaxed = record {
        rows = (record { low = tt; high = le_tested _ _ refl }, (record { low = tt; high = le_tested _ _ refl }, tt));
        columns = (record { low = le_tested _ _ refl; high = tt }, (record { low = le_tested _ _ refl; high = le_tested _ _ refl }, tt));
      };
      whole = (λ e. absurd (no e), (λ e. absurd (no e), tt));
    }
  where
    no : false ≡ true → ⊥
    no e = cc

-- the halves of the program with a whole column, at 0: at most 0, and at least 1
between_left : left_of (bounds between) 0 (pos 0) ≡ record { low = Some (n 0); high = Some (n 0) } ∷ []
between_left = refl

between_right : right_of (bounds between) 0 (pos 0) ≡ record { low = Some (n 1); high = None } ∷ []
unfolding ratio gcd_of whole
between_right = refl

-- a negative high bound without a low bound
ranged_bounds : bounds ranged ≡ record { low = Some (n 0); high = None } ∷ record { low = None; high = Some (minus 1) } ∷ []
ranged_bounds = refl

-- the ranged program keeps the invariant
one : {X : Type 0} (P : X → Type 0) (x : X) → P x → All P (x ∷ [])
one P x h = All-cons P x [] h (All-nil P)

two : {X : Type 0} (P : X → Type 0) (x y : X) → P x → P y → All P (x ∷ y ∷ [])
two P x y h k = All-cons P x (y ∷ []) h (one P y k)

none : {X : Type 0} (R : X → X → Type 0) → AllPairs R []
none R i j d h k = absurd (omega arith)

apart_two : {X : Type 0} (R : X → X → Type 0) (x y : X) → R x y → AllPairs R (x ∷ y ∷ [])
apart_two R x y h = AllPairs-cons R x (y ∷ []) (one (R x) y h) (AllPairs-cons R y [] (All-nil (R y)) (none R))

letter : (b : ℕ) → 33 ≤ b → b ≤ 126 → IsName (b ∷ [])
letter b h k = record { some = omega arith; short = omega arith; printable = one (λ byte. (33 ≤ byte) × (byte ≤ 126)) b (h, k) }

symmetric : (j k : ℕ) → entry (row_at ranged.pairs j) k ≡ entry (row_at ranged.pairs k) j
symmetric zero zero = refl
symmetric zero (suc zero) = refl
symmetric zero (suc (suc k)) = refl
symmetric (suc zero) zero = refl
symmetric (suc zero) (suc zero) = refl
symmetric (suc zero) (suc (suc k)) = refl
symmetric (suc (suc j)) zero = refl
symmetric (suc (suc j)) (suc zero) = refl
symmetric (suc (suc j)) (suc (suc k)) = refl

same_some : (a b : ℚ) → Some a ≡ Some b → a ≡ b
same_some a b e = cc

row_is : IsRow (record { low = Some (n 3); high = Some (n 5) })
unfolding ◌+ℚ◌ ◌*ℚ◌ neg_ℚ ratio gcd_of whole
row_is =
    record {
      some = inl refl;
      ordered = λ low high e f. subst (λ l. l ≤ℚ high) (same_some (n 3) low e) (subst (λ h. n 3 ≤ℚ h) (same_some (n 5) high f) (le_tested (n 3) (n 5) refl));
      difference = λ low high e f. subst (λ l. IsTrue (fits max_part (high -ℚ l))) (same_some (n 3) low e) (subst (λ h. IsTrue (fits max_part (h -ℚ n 3))) (same_some (n 5) high f) refl);
    }

differ : (a b : ℕ) → a ≢ b → (a ∷ []) ≢ (b ∷ [])
differ a b h e = h (heads a b e)
  where
    heads : (a b : ℕ) → a ∷ [] ≡ b ∷ [] → a ≡ b
    heads a b e = cc

ranged_is : IsProgram ranged
ranged_is =
    record {
      few_rows = omega arith;
      few_columns = omega arith;
      named_rows = two IsName (111 ∷ []) (97 ∷ []) (letter 111 (omega arith) (omega arith)) (letter 97 (omega arith) (omega arith));
      named_columns = two IsName (120 ∷ []) (121 ∷ []) (letter 120 (omega arith) (omega arith)) (letter 121 (omega arith) (omega arith));
      rows_differ = apart_two (λ a b. a ≢ b) (111 ∷ []) (97 ∷ []) (differ 111 97 (λ e. omega arith));
      columns_differ = apart_two (λ a b. a ≢ b) (120 ∷ []) (121 ∷ []) (differ 120 121 (λ e. omega arith));
      no_marker = two (λ name. name ≢ marker) (111 ∷ []) (97 ∷ []) (λ e. cc) (λ e. cc);
      good_rows = one IsRow (record { low = Some (n 3); high = Some (n 5) }) row_is;
      height = refl;
      width = one (λ row. length row ≡ 2) (n 1 ∷ n 1 ∷ []) refl;
      costs_width = refl;
      pairs_height = refl;
      pairs_width = two (λ row. length row ≡ 2) (n 2 ∷ n 1 ∷ []) (n 1 ∷ n 2 ∷ []) refl refl;
      symmetric = symmetric;
    }
