-- The first crossed column, as a test finds it.
use Rattle.std.specs.Prelude.{◌≡◌, ℕ, zero, suc, ◌+◌, ◌<◌, ◌≤◌, [], ◌∷◌, length, Option, Some, None, Bool, true, false, not, position, nat_lt}
use Rattle.std.specs.List.{prefix_len}
use Rattle.std.proofs.Common.{refl, sym, ◌∙◌, ap, subst, cond, arith}
use Rattle.std.proofs.lemmas.Bool.Decides.{nat_tests}
use Rattle.rational.specs.Rational.{ℚ}
use Rattle.rational.specs.Tests.{is_le}
use Rattle.program_law.proofs.Numbers.{lt_test, lt_tested}
use Rattle.program_law.specs.declared.Row.{Row}
use Rattle.program_law.specs.Region.{Region, IsCrossed, IsCrossedAt, IsCrossedRegion, is_above}
use Rattle.branching_law.specs.Paths.{IsFirst}

abbrev test : Row → Bool
test b = is_above b.low b.high

crossed_if : (b : Row) → test b ≡ true → IsCrossed b
crossed_if b e = by b.low b.high refl refl e
  where
    turned : (t : Bool) → not t ≡ true → t ≡ false
    turned true e = sym e
    turned false e = refl

    no : {P : Type 0} → false ≡ true → P
    no e = absurd (bad e)
      where
        bad : false ≡ true → ⊥
        bad e = cc

    by : (l h : Option ℚ) → b.low ≡ l → b.high ≡ h → is_above l h ≡ true → IsCrossed b
    by None h p q e = no e
    by (Some l) None p q e = no e
    by (Some l) (Some h) p q e = record { low = l; high = h; has_low = p; has_high = q; above = lt_tested l h (turned (is_le l h) e) }

if_crossed : (b : Row) → IsCrossed b → test b ≡ true
if_crossed b c = ap (λ (o : Option ℚ). is_above o b.high) c.has_low ∙ ap (is_above (Some c.low)) c.has_high ∙ ap not (lt_test c.low c.high c.above)

not_both : (b : Row) → test b ≡ false → ¬ (IsCrossed b)
not_both b e c = bad (sym e ∙ if_crossed b c)
  where
    bad : false ≡ true → ⊥
    bad e = cc

-- how many columns from the front on aren't crossed
abbrev passed : Region → ℕ
passed bs = prefix_len (λ b. not (test b)) bs

first_at : (bs : Region) → passed bs < length bs → IsFirst (IsCrossedAt bs) (passed bs)
first_at [] h = absurd (omega arith)
first_at (b ∷ bs) h = by (first_at bs) (test b) refl h
  where
    by : (passed bs < length bs → IsFirst (IsCrossedAt bs) (passed bs)) → (t : Bool) → test b ≡ t → cond (not t) (1 + passed bs) 0 < length (b ∷ bs) → IsFirst (IsCrossedAt (b ∷ bs)) (cond (not t) (1 + passed bs) 0)
    by rest true e h = record { holds = crossed_if b e; not_before = λ i l. absurd (none i l) }
      where
        none : (i : ℕ) → i < 0 → ⊥
        none i l = omega arith
    by rest false e h =
        let below = rest (omega (arith, h)) in
        subst (IsFirst (IsCrossedAt (b ∷ bs))) (one_more (passed bs)) (record { holds = below.holds; not_before = before below })
      where
        one_more : (n : ℕ) → suc n ≡ 1 + n
        one_more n = omega arith

        before : IsFirst (IsCrossedAt bs) (passed bs) → (i : ℕ) → i < suc (passed bs) → ¬ (IsCrossedAt (b ∷ bs) i)
        before below zero l c = not_both b e c
        before below (suc i) l c = below.not_before i (omega (arith, l)) c

none_at : (bs : Region) → length bs ≤ passed bs → (j : ℕ) → IsCrossedAt bs j → ⊥
none_at [] h j c = c
none_at (b ∷ bs) h j c = by (none_at bs) (test b) refl h j c
  where
    by : (length bs ≤ passed bs → (j : ℕ) → IsCrossedAt bs j → ⊥) → (t : Bool) → test b ≡ t → length (b ∷ bs) ≤ cond (not t) (1 + passed bs) 0 → (j : ℕ) → IsCrossedAt (b ∷ bs) j → ⊥
    by rest true e h j c = none (length bs) h
      where
        none : (n : ℕ) → suc n ≤ 0 → ⊥
        none n l = omega arith
    by rest false e h zero c = not_both b e c
    by rest false e h (suc j) c = rest (omega (arith, h)) j c

pub first_tested : (bs : Region) (j : ℕ) → position (λ b. is_above b.low b.high) bs ≡ Some j → IsFirst (IsCrossedAt bs) j
first_tested bs j e = by (nat_lt (passed bs) (length bs)) refl e
  where
    less : (m n : ℕ) → nat_lt m n ≡ true → m < n
    less m n e = grind (arith, nat_tests)

    same : (a b : ℕ) → Some a ≡ Some b → a ≡ b
    same a b e = cc

    by : (t : Bool) → nat_lt (passed bs) (length bs) ≡ t → cond t (Some (passed bs)) None ≡ Some j → IsFirst (IsCrossedAt bs) j
    by true l e = subst (IsFirst (IsCrossedAt bs)) (same (passed bs) j e) (first_at bs (less (passed bs) (length bs) l))
    by false l e = absurd (bad e)
      where
        bad : None ≡ Some j → ⊥
        bad e = cc

pub none_tested : (bs : Region) → position (λ b. is_above b.low b.high) bs ≡ None → IsCrossedRegion bs → ⊥
none_tested bs e c = by (nat_lt (passed bs) (length bs)) refl e
  where
    more : (m n : ℕ) → nat_lt m n ≡ false → n ≤ m
    more m n e = grind (arith, nat_tests)

    by : (t : Bool) → nat_lt (passed bs) (length bs) ≡ t → cond t (Some (passed bs)) None ≡ None → ⊥
    by true l e = bad (passed bs) e
      where
        bad : (n : ℕ) → Some n ≡ None → ⊥
        bad n e = cc
    by false l e = none_at bs (more (passed bs) (length bs) l) c.column c.crossed
