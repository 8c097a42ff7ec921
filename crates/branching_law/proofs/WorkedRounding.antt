-- A worked program whose rounding comes to a crossed region.
use Rattle.std.specs.Prelude.{◌≡◌, ℕ, zero, suc, ◌<◌, pos, ◌≤ℤ◌, ◌<ℤ◌, List, [], ◌∷◌, length, Some, None}
use Rattle.std.proofs.Common.{refl, sym, subst, arith, inl, inr}
use Rattle.std.proofs.lemmas.Int.{ints}
use Rattle.algebra.proofs.Polynomial.{◌⊕◌, ◌⊗◌, ◌≼◌, lit}
use Rattle.algebra.proofs.Certificate.{prove, weight, ◌⇐◌}
use Rattle.rational.specs.Divisors.{gcd_of}
use Rattle.rational.specs.Rational.{ℚ, whole, ratio, zero_ℚ}
use Rattle.rational.specs.Order.{◌≤ℚ◌, ◌<ℚ◌}
use Rattle.rational.specs.Vectors.{dot, rows_dot, IsSymmetric}
use Rattle.rational.proofs.Order.{ordered_rationals}
use Rattle.rational.proofs.OrderLaws.{not-le_of_lt}
use Rattle.program_law.proofs.Numbers.{le_tested, lt_tested}
use Rattle.program_law.specs.Region.{larger, IsCrossedAt, bounds_at}
use Rattle.program_law.specs.Program.{bounds}
use Rattle.certificate_law.specs.declared.Node.TheVariants.{Branch, Cross}
use Rattle.certificate_law.specs.declared.Certificate.TheVariants.{Infeasible}
use Rattle.quad_solve_law.specs.Worked.{n, over}
use Rattle.quad_solve_law.proofs.Tested.{symmetric}
use Rattle.branching_law.specs.Paths.{region_of, above}
use Rattle.branching_law.specs.Rounding.{IsBroken, IsRoundingTurn, IsRounding}
use Rattle.branching_law.specs.Nodes.{ForBest}
use Rattle.branching_law.specs.Found.{Convex, IsFoundOf}
use Rattle.branching_law.specs.Worked.{narrow}
use Rattle.branching_law.proofs.Incumbents.{no_incumbent}
use Rattle.branching_law.proofs.RoundingTurns.{broken_is_fractional}

five_is_not_one : (d : ℕ) → d ≡ 5 → ¬ (d ≡ 1)
five_is_not_one d h e = omega arith

zero_most : pos 0 ≤ℤ pos 1
zero_most = omega (arith, ints)

one_less : pos 1 <ℤ pos 5
one_less = omega (arith, ints)

broken : IsBroken (bounds_at (bounds narrow) 0).low (pos 0)
unfolding ratio gcd_of whole
broken = record { value = over 1 5; there = refl; fractional = five_is_not_one 5 refl; floor = record { below = zero_most; next_above = one_less } }

nothing_before : (i : ℕ) → i < 0 → ⊥
nothing_before i h = omega arith

ordered : over 1 5 ≤ℚ over 4 5
unfolding ratio gcd_of whole
ordered = le_tested (over 1 5) (over 4 5) refl

same_some : (a b : ℚ) → Some a ≡ Some b → a ≡ b
same_some a b e = cc

uncrossed_at : (j : ℕ) → IsCrossedAt (bounds narrow) j → ⊥
uncrossed_at zero c =
    not-le_of_lt (subst (λ (l : ℚ). over 4 5 <ℚ l) (sym (same_some (over 1 5) c.low c.has_low)) (subst (λ (h : ℚ). h <ℚ c.low) (sym (same_some (over 4 5) c.high c.has_high)) c.above)) ordered
uncrossed_at (suc j) c = c

turn_due : IsRoundingTurn narrow (bounds narrow) (above 0 (pos 0))
turn_due = record {
  uncrossed = λ c. uncrossed_at c.column c.crossed;
  first = record { holds = record { marked = refl; fractional = inl (broken_is_fractional (bounds_at (bounds narrow) 0).low (pos 0) broken) }; not_before = λ i h k. nothing_before i h };
  rounds = broken;
}

above_high : over 4 5 <ℚ n 1
unfolding ratio gcd_of whole
above_high = lt_tested (n 1) (over 4 5) refl

raised : larger (Some (over 1 5)) (n 1) ≡ Some (n 1)
unfolding ratio gcd_of whole
raised = refl

crossed : IsCrossedAt (region_of narrow (above 0 (pos 0) ∷ [])) 0
crossed = record { low = n 1; high = over 4 5; has_low = raised; has_high = refl; above = above_high }

pub rounding : IsRounding narrow (above 0 (pos 0) ∷ [])
rounding = record { turns_due = (turn_due, tt); ends = inl (record { column = 0; crossed = crossed }) }

nonneg : (v : List ℚ) → length v ≡ 1 → zero_ℚ ≤ℚ dot v (rows_dot narrow.pairs v)
nonneg [] h = absurd (omega arith)
nonneg (a ∷ []) h = prove ordered_rationals (a ∷ []) (λ a. lit 0 ≼ a ⊗ (lit 0 ⊗ a ⊕ lit 0) ⊕ lit 0 ⇐ weight 0) refl
nonneg (a ∷ b ∷ v) h = absurd (omega arith)

symmetric_pairs : IsSymmetric 1 narrow.pairs
unfolding ratio gcd_of whole
symmetric_pairs = symmetric 1 narrow.pairs refl

pub found : (bases boxes : ℕ) → IsFoundOf narrow (Convex []) bases boxes (Infeasible (Branch 0 (pos 0) ∷ Cross 0 ∷ Cross 0 ∷ []))
found bases boxes =
    inr (inr (record {
      aim = ForBest;
      turns = above 0 (pos 0) ∷ [];
      nodes = Cross 0 ∷ [];
      earned = record {
        convex = record { symmetric = symmetric_pairs; nonneg = nonneg };
        rounding = rounding;
        root = tt;
        taken = (record { holds = crossed; not_before = λ i h k. nothing_before i h }, refl);
      };
      count = omega arith;
      incumbent = None;
      best = no_incumbent narrow;
      certificate = refl;
    }))
