-- What a search decides at a node by tests: crossed or not, fractional or not.
use Rattle.std.specs.Prelude.{◌≡◌, ◌⊎◌, ℕ, zero, suc, ◌+◌, ◌<◌, ℤ, List, [], ◌∷◌, ◌++◌, length, Option, Some, None, Bool, true, false, nat_eq, position}
use Rattle.std.proofs.Common.{refl, sym, ◌∙◌, subst, arith, inl, inr}
use Rattle.std.proofs.lemmas.Bool.{cases_lt}
use Rattle.std.proofs.lemmas.Bool.Decides.{nat_tests}
use Rattle.rational.specs.Rational.{ℚ}
use Rattle.rational.specs.Rounding.{floor_of}
use Rattle.rational.proofs.Rounding.{IsFloor-floor_of}
use Rattle.rational.specs.Sums.{entry}
use Rattle.program_law.specs.Region.{Region, IsCrossedAt, IsCrossedRegion, is_above, bounds_at}
use Rattle.program_law.specs.Program.{Program, marks, is_marked}
use Rattle.program_law.specs.Columns.{IsWhole, AreWholeOn}
use Rattle.branching_law.specs.declared.Turn.{Turn}
use Rattle.branching_law.specs.Paths.{region_of, below, above, IsFirst}
use Rattle.branching_law.specs.Rounding.{IsMarkedAt, IsMarked, IsFractional, IsBroken, IsRounding, IsRoundingTo}
use Rattle.branching_law.specs.Nodes.{IsFractionalAt, IsBranch}
use Rattle.branching_law.proofs.Marks.{kept_by_none}
use Rattle.branching_law.proofs.NodeSizes.{marked_column}
use Rattle.branching_law.proofs.FirstCrossed.{first_tested, none_tested}
use Rattle.branching_law.proofs.RoundingLoop.{starts, raise_low, lower_high, next_column, all_columns}

-- ---- crossed or not

pub first_crossed_or : (region : Region) → ((j : ℕ) × IsFirst (IsCrossedAt region) j) ⊎ (IsCrossedRegion region → ⊥)
first_crossed_or region = by (position (λ b. is_above b.low b.high) region) refl
  where
    by : (o : Option ℕ) → position (λ b. is_above b.low b.high) region ≡ o → ((j : ℕ) × IsFirst (IsCrossedAt region) j) ⊎ (IsCrossedRegion region → ⊥)
    by None e = inr (none_tested region e)
    by (Some j) e = inl (j, first_tested region j e)

pub crossed_or : (region : Region) → IsCrossedRegion region ⊎ (IsCrossedRegion region → ⊥)
crossed_or region =
    elim (first_crossed_or region) [ inl c ↦ inl (record { column = c.0; crossed = c.1.holds }) | inr n ↦ inr n ]

-- ---- whole or not

pub whole_or : (q : ℚ) → IsWhole q ⊎ (¬ (IsWhole q))
whole_or q = by q.den (nat_eq q.den 1) refl
  where
    same : (d : ℕ) → nat_eq d 1 ≡ true → d ≡ 1
    same d e = grind (arith, nat_tests)

    differ : (d : ℕ) → nat_eq d 1 ≡ false → d ≡ 1 → ⊥
    differ d e k = grind (arith, nat_tests)

    by : (d : ℕ) (b : Bool) → nat_eq d 1 ≡ b → (d ≡ 1) ⊎ (¬ (d ≡ 1))
    by d true e = inl (same d e)
    by d false e = inr (differ d e)

pub broken_or : (o : Option ℚ) → ((k : ℤ) × IsBroken o k) ⊎ (¬ (IsFractional o))
broken_or None = inr (λ f. f)
broken_or (Some q) =
    elim (whole_or q) [
      | inl w ↦ inr (λ f. f w)
      | inr n ↦ inl (floor_of q, record { value = q; there = refl; fractional = n; floor = IsFloor-floor_of q })
    ]

pub marked_or : (p : Program) (j : ℕ) → IsMarkedAt p j ⊎ (¬ (IsMarkedAt p j))
marked_or p j = by (is_marked (marks p) j) refl
  where
    by : (b : Bool) → is_marked (marks p) j ≡ b → IsMarkedAt p j ⊎ (¬ (IsMarkedAt p j))
    by true e = inl e
    by false e = inr (λ m. bad (sym e ∙ m))
      where
        bad : false ≡ true → ⊥
        bad e = cc

pub fractional_or : (p : Program) (x : List ℚ) (j : ℕ) → IsFractionalAt p x j ⊎ (¬ (IsFractionalAt p x j))
fractional_or p x j =
    elim (marked_or p j) [
      | inr n ↦ inr (λ f. n f.marked)
      | inl m ↦ elim (whole_or (entry x j)) [ inl w ↦ inr (λ f. f.fractional w) | inr n ↦ inl (record { marked = m; fractional = n }) ]
    ]

-- the first place below n, or none
pub first_or : (P : ℕ → Type 0) → ((j : ℕ) → P j ⊎ (¬ (P j))) → (n : ℕ) → ((j : ℕ) × IsFirst P j) ⊎ ((j : ℕ) → j < n → ¬ (P j))
first_or P decide zero = inr (λ j l. absurd (none j l))
  where
    none : (j : ℕ) → j < 0 → ⊥
    none j l = omega arith
first_or P decide (suc n) =
    elim (first_or P decide n) [
      | inl found ↦ inl found
      | inr below ↦ elim (decide n) [
        | inl here ↦ inl (n, record { holds = here; not_before = below })
        | inr not_here ↦ inr (λ j l. elim (cases_lt j n) [
          | inl less ↦ below j less
          | inr more ↦ let e : n ≡ j = omega (arith, l, more) in subst (λ (i : ℕ). ¬ (P i)) e not_here
        ])
      ]
    ]

-- the branch at a point, unless it keeps the marks
pub branch_or : (p : Program) (x : List ℚ) → ((j : ℕ) × (k : ℤ) × IsBranch p x j k) ⊎ AreWholeOn (marks p) x
branch_or p x =
    elim (first_or (IsFractionalAt p x) (fractional_or p x) (length p.columns)) [
      | inl f ↦ inl (f.0, floor_of (entry x f.0), record { first = f.1; floor = IsFloor-floor_of (entry x f.0) })
      | inr none ↦ inr (kept_by_none p x (λ j f. none j (marked_column p j f.marked) f))
    ]

-- some column is marked, or none
pub some_marked_or : (p : Program) → IsMarked p ⊎ (¬ (IsMarked p))
some_marked_or p =
    elim (first_or (IsMarkedAt p) (marked_or p) (length p.columns)) [
      | inl f ↦ inl (f.0, f.1.holds)
      | inr none ↦ inr (λ m. none m.0 (marked_column p m.0 m.1) m.1)
    ]

-- ---- rounding ends

high_of : (p : Program) (turns : List Turn) (j : ℕ) → IsRoundingTo p turns j → IsMarkedAt p j → ¬ (IsFractional (bounds_at (region_of p turns) j).low)
    → ((more : List Turn) × IsRounding p more) ⊎ ((more : List Turn) × IsRoundingTo p more (j + 1))
high_of p turns j h m whole_low =
    elim (crossed_or (region_of p turns)) [
      | inl c ↦ inl (turns, record { turns_due = h.turns_due; ends = inl c })
      | inr uncrossed ↦ elim (broken_or (bounds_at (region_of p turns) j).high) [
        | inl b ↦ inr (turns ++ below j b.0 ∷ [], lower_high p turns j b.0 h m uncrossed whole_low b.1)
        | inr whole_high ↦ inr (turns, next_column p turns j h (λ f. elim f.fractional [ inl a ↦ whole_low a | inr b ↦ whole_high b ]))
      ]
    ]

column_of : (p : Program) (turns : List Turn) (j : ℕ) → IsRoundingTo p turns j → ((more : List Turn) × IsRounding p more) ⊎ ((more : List Turn) × IsRoundingTo p more (j + 1))
column_of p turns j h =
    elim (marked_or p j) [
      | inr n ↦ inr (turns, next_column p turns j h (λ f. n f.marked))
      | inl m ↦ elim (crossed_or (region_of p turns)) [
        | inl c ↦ inl (turns, record { turns_due = h.turns_due; ends = inl c })
        | inr uncrossed ↦ elim (broken_or (bounds_at (region_of p turns) j).low) [
          | inl b ↦ let r = raise_low p turns j b.0 h m uncrossed b.1 in high_of p (turns ++ above j b.0 ∷ []) j r.0 m r.1
          | inr whole_low ↦ high_of p turns j h m whole_low
        ]
      ]
    ]

round_from : (p : Program) (left : ℕ) (turns : List Turn) (j : ℕ) → left + j ≡ length p.columns → IsRoundingTo p turns j → (all : List Turn) × IsRounding p all
round_from p zero turns j e h = (turns, all_columns p turns (subst (IsRoundingTo p turns) (let k : j ≡ length p.columns = omega (arith, e) in k) h))
round_from p (suc left) turns j e h =
    elim (column_of p turns j h) [
      | inl done ↦ done
      | inr more ↦ round_from p left more.0 (j + 1) (omega (arith, e)) more.1
    ]

pub some_rounding : (p : Program) → (turns : List Turn) × IsRounding p turns
some_rounding p = round_from p (length p.columns) [] 0 (omega arith) (starts p)
