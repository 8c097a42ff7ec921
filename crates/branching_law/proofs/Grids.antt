-- Regions whose marked columns have whole bounds that don't cross, and what a branch makes of them.
use Rattle.std.specs.Prelude.{◌≡◌, ℕ, zero, suc, ℤ, pos, ◌+ℤ◌, List, [], ◌∷◌, Option, Some, None, IfSome, Bool, true, false}
use Rattle.std.proofs.Common.{refl, sym, ◌∙◌, ap, subst, cond, inl, inr}
use Rattle.rational.specs.Rational.{ℚ, whole}
use Rattle.rational.specs.Order.{◌≤ℚ◌, ◌<ℚ◌}
use Rattle.rational.specs.Rounding.{IsFloor}
use Rattle.rational.proofs.Floors.{lt-floor}
use Rattle.rational.proofs.Order.{le_or_lt, lt_le}
use Rattle.rational.proofs.OrderLaws.{le_of_eq, le_trans, lt-le_trans, not-le_of_lt}
use Rattle.rational.proofs.Wholes.{den-whole, as_whole}
use Rattle.program_law.proofs.Numbers.{le_test, lt_test}
use Rattle.program_law.specs.declared.Row.{Row}
use Rattle.rational.specs.Sums.{entry}
use Rattle.program_law.specs.Region.{Region, smaller, larger, left_of, right_of, IsCrossed, IsCrossedAt, IsCrossedRegion, bounds_at}
use Rattle.program_law.specs.Point.{IsWithin}
use Rattle.program_law.specs.Columns.{AllWithin, IsWhole}
use Rattle.program_law.specs.Program.{is_marked}
use Rattle.branching_law.specs.Rounding.{IsFractional}
use Rattle.branching_law.proofs.Floors.{above_floor, next_whole, whole_below, whole_above}
use Rattle.branching_law.proofs.Marks.{whole_unless}
use Rattle.branching_law.proofs.RoundedTrees.{no_bound}

-- whole bounds, each where it is there, that don't cross
pub record IsGridRow (b : Row) : Type 0 where
  pub low : IfSome b.low IsWhole
  pub high : IfSome b.high IsWhole
  pub ordered : IsCrossed b → ⊥

abbrev pub AreGrid : List Bool → Region → Type 0
AreGrid [] bs = Unit {0}
AreGrid (m ∷ ms) [] = Unit {0}
AreGrid (m ∷ ms) (b ∷ bs) = (m ≡ true → IsGridRow b) × AreGrid ms bs

abbrev no_bounds : Row
no_bounds = record { low = None; high = None }

no_bounds_grid : IsGridRow no_bounds
no_bounds_grid = record { low = tt; high = tt; ordered = λ c. no_bound c.low c.has_low }

pub grid_by : (ms : List Bool) (bs : Region) → ((j : ℕ) → is_marked ms j ≡ true → IsGridRow (bounds_at bs j)) → AreGrid ms bs
grid_by [] bs h = tt
grid_by (m ∷ ms) [] h = tt
grid_by (m ∷ ms) (b ∷ bs) h = (h zero, grid_by ms bs (λ j. h (suc j)))

unmarked_past : {P : Type 0} (j : ℕ) → is_marked [] j ≡ true → P
unmarked_past j e = absurd (bad e)
  where
    bad : false ≡ true → ⊥
    bad e = cc

pub grid_at : (ms : List Bool) (bs : Region) (j : ℕ) → AreGrid ms bs → is_marked ms j ≡ true → IsGridRow (bounds_at bs j)
grid_at [] bs j g m = unmarked_past j m
grid_at (b ∷ ms) [] j g m = no_bounds_grid
grid_at (b ∷ ms) (r ∷ bs) zero g m = g.0 m
grid_at (b ∷ ms) (r ∷ bs) (suc j) g m = grid_at ms bs j g.1 m

-- ---- a rounded region that isn't crossed

crossed_at : (bs : Region) (j : ℕ) → IsCrossed (bounds_at bs j) → IsCrossedAt bs j
crossed_at [] j c = no_bound c.low c.has_low
crossed_at (b ∷ bs) zero c = c
crossed_at (b ∷ bs) (suc j) c = crossed_at bs j c

whole_bound : (o : Option ℚ) → ¬ (IsFractional o) → IfSome o IsWhole
whole_bound None n = tt
whole_bound (Some q) n = whole_unless q n

pub rounded_grid : (ms : List Bool) (bs : Region) → (IsCrossedRegion bs → ⊥)
    → ((j : ℕ) → is_marked ms j ≡ true → (¬ (IsFractional (bounds_at bs j).low)) × (¬ (IsFractional (bounds_at bs j).high))) → AreGrid ms bs
rounded_grid ms bs uncrossed h =
    grid_by ms bs (λ j m.
    record {
      low = whole_bound (bounds_at bs j).low (h j m).0;
      high = whole_bound (bounds_at bs j).high (h j m).1;
      ordered = λ c. uncrossed (record { column = j; crossed = crossed_at bs j c });
    })

-- ---- a branch

-- the low bound is at most k and the high one at least k + 1
pub record IsSplit (k : ℤ) (b : Row) : Type 0 where
  pub low : IfSome b.low (λ l. l ≤ℚ whole k)
  pub high : IfSome b.high (λ u. whole (k +ℤ pos 1) ≤ℚ u)

pub smaller_split : (o : Option ℚ) (k : ℤ) → IfSome o (λ u. whole (k +ℤ pos 1) ≤ℚ u) → smaller o (whole k) ≡ Some (whole k)
smaller_split None k h = refl
smaller_split (Some u) k h = ap (λ b. Some (cond b u (whole k))) (lt_test u (whole k) (lt-le_trans (next_whole k) h))

pub larger_split : (o : Option ℚ) (k : ℤ) → IfSome o (λ l. l ≤ℚ whole k) → larger o (whole (k +ℤ pos 1)) ≡ Some (whole (k +ℤ pos 1))
larger_split None k h = refl
larger_split (Some l) k h =
    ap (λ b. Some (cond b (whole (k +ℤ pos 1)) l)) (le_test l (whole (k +ℤ pos 1)) (le_trans h (lt_le (whole k) (whole (k +ℤ pos 1)) (next_whole k))))

same_some : (a b : ℚ) → Some a ≡ Some b → a ≡ b
same_some a b e = cc

below_grid : (b : Row) (k : ℤ) → IsGridRow b → IsSplit k b → IsGridRow (record { low = b.low; high = smaller b.high (whole k) })
below_grid b k g s = record {
  low = g.low;
  high = subst (λ (o : Option ℚ). IfSome o IsWhole) (sym (smaller_split b.high k s.high)) (den-whole k);
  ordered = λ c.
      let e : c.high ≡ whole k = same_some c.high (whole k) (sym c.has_high ∙ smaller_split b.high k s.high) in
      let l : c.low ≤ℚ whole k = subst (λ (o : Option ℚ). IfSome o (λ l. l ≤ℚ whole k)) c.has_low s.low in
      not-le_of_lt (subst (λ (u : ℚ). u <ℚ c.low) e c.above) l;
}

above_grid : (b : Row) (k : ℤ) → IsGridRow b → IsSplit k b → IsGridRow (record { low = larger b.low (whole (k +ℤ pos 1)); high = b.high })
above_grid b k g s = record {
  low = subst (λ (o : Option ℚ). IfSome o IsWhole) (sym (larger_split b.low k s.low)) (den-whole (k +ℤ pos 1));
  high = g.high;
  ordered = λ c.
      let e : c.low ≡ whole (k +ℤ pos 1) = same_some c.low (whole (k +ℤ pos 1)) (sym c.has_low ∙ larger_split b.low k s.low) in
      let u : whole (k +ℤ pos 1) ≤ℚ c.high = subst (λ (o : Option ℚ). IfSome o (λ u. whole (k +ℤ pos 1) ≤ℚ u)) c.has_high s.high in
      not-le_of_lt (subst (λ (l : ℚ). c.high <ℚ l) e c.above) u;
}

pub left_grid : (ms : List Bool) (bs : Region) (j : ℕ) (k : ℤ) → AreGrid ms bs → IsSplit k (bounds_at bs j) → AreGrid ms (left_of bs j k)
left_grid [] bs j k g s = tt
left_grid (m ∷ ms) [] j k g s = tt
left_grid (m ∷ ms) (b ∷ bs) zero k g s = ((λ e. below_grid b k (g.0 e) s), g.1)
left_grid (m ∷ ms) (b ∷ bs) (suc j) k g s = (g.0, left_grid ms bs j k g.1 s)

pub right_grid : (ms : List Bool) (bs : Region) (j : ℕ) (k : ℤ) → AreGrid ms bs → IsSplit k (bounds_at bs j) → AreGrid ms (right_of bs j k)
right_grid [] bs j k g s = tt
right_grid (m ∷ ms) [] j k g s = tt
right_grid (m ∷ ms) (b ∷ bs) zero k g s = ((λ e. above_grid b k (g.0 e) s), g.1)
right_grid (m ∷ ms) (b ∷ bs) (suc j) k g s = (g.0, right_grid ms bs j k g.1 s)

-- ---- a point inside

pub within_at : (bs : Region) (x : List ℚ) (j : ℕ) → AllWithin bs x → IsWithin (bounds_at bs j) (entry x j)
within_at [] x j w = record { low = tt; high = tt }
within_at (b ∷ bs) [] j w = absurd w
within_at (b ∷ bs) (q ∷ x) zero w = w.0
within_at (b ∷ bs) (q ∷ x) (suc j) w = within_at bs x j w.1

-- a number within whole bounds that isn't whole has its floor within them, and the next whole number
pub split_by : (b : Row) (q : ℚ) (k : ℤ) → IsGridRow b → IsWithin b q → IsFloor k q → ¬ (IsWhole q) → IsSplit k b
split_by b q k g w f n = record { low = low_of b.low g.low w.low; high = high_of b.high g.high w.high }
  where
    low_of : (o : Option ℚ) → IfSome o IsWhole → IfSome o (λ l. l ≤ℚ q) → IfSome o (λ l. l ≤ℚ whole k)
    low_of None a c = tt
    low_of (Some l) a c = whole_below l q k a c (lt-floor k q f)

    high_of : (o : Option ℚ) → IfSome o IsWhole → IfSome o (λ u. q ≤ℚ u) → IfSome o (λ u. whole (k +ℤ pos 1) ≤ℚ u)
    high_of None a c = tt
    high_of (Some u) a c = whole_above u q k a c (above_floor k q f n)

-- ---- whole values

-- a whole number within the bounds
abbrev pub pick : Option ℚ → Option ℚ → ℤ
pick (Some l) h = l.num
pick None (Some h) = h.num
pick None None = pos 0

pub pick_within : (b : Row) → IsGridRow b → IsWithin b (whole (pick b.low b.high))
pick_within b g = by b.low b.high refl refl
  where
    by : (l h : Option ℚ) → b.low ≡ l → b.high ≡ h → IsWithin b (whole (pick b.low b.high))
    by None None e f = record {
      low = subst (λ (o : Option ℚ). IfSome o (λ l. l ≤ℚ whole (pick b.low b.high))) (sym e) tt;
      high = subst (λ (o : Option ℚ). IfSome o (λ h. whole (pick b.low b.high) ≤ℚ h)) (sym f) tt;
    }
    by None (Some u) e f =
        let is : whole (pick b.low b.high) ≡ u =
        ap (λ (o : Option ℚ). whole (pick o b.high)) e ∙ ap (λ (o : Option ℚ). whole (pick None o)) f ∙ sym (as_whole u (subst (λ (o : Option ℚ). IfSome o IsWhole) f g.high)) in
        record {
          low = subst (λ (o : Option ℚ). IfSome o (λ l. l ≤ℚ whole (pick b.low b.high))) (sym e) tt;
          high = subst (λ (o : Option ℚ). IfSome o (λ h. whole (pick b.low b.high) ≤ℚ h)) (sym f) (le_of_eq is);
        }
    by (Some l) h e f =
        let is : whole (pick b.low b.high) ≡ l = ap (λ (o : Option ℚ). whole (pick o b.high)) e ∙ sym (as_whole l (subst (λ (o : Option ℚ). IfSome o IsWhole) e g.low)) in
        record {
          low = subst (λ (o : Option ℚ). IfSome o (λ l. l ≤ℚ whole (pick b.low b.high))) (sym e) (le_of_eq (sym is));
          high = subst (λ (o : Option ℚ). IfSome o (λ h. whole (pick b.low b.high) ≤ℚ h)) (sym f) (upper h f is);
        }
      where
        upper : (h : Option ℚ) → b.high ≡ h → whole (pick b.low b.high) ≡ l → IfSome h (λ h. whole (pick b.low b.high) ≤ℚ h)
        upper None f is = tt
        upper (Some u) f is =
            elim (le_or_lt l u) [
              | inl a ↦ le_trans (le_of_eq is) a
              | inr c ↦ absurd (g.ordered (record { low = l; high = u; has_low = e; has_high = f; above = c }))
            ]
