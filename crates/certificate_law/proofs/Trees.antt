-- Good trees bound all points that keep the marks, or leave none.
use Rattle.std.specs.Prelude.{◌≡◌, ◌⊎◌, ℕ, zero, suc, ℤ, pos, ◌+ℤ◌, Bool, true, false, List, [], ◌∷◌, Option, Some, None, IfSome}
use Rattle.std.specs.List.{AllByRecursion}
use Rattle.std.proofs.Common.{arith, sym, subst, inl, inr, cond}
use Rattle.std.proofs.lemmas.Int.{ints, by_lt_z}
use Rattle.rational.specs.Rational.{ℚ, whole}
use Rattle.rational.specs.Order.{◌≤ℚ◌}
use Rattle.rational.specs.Tests.{is_le}
use Rattle.rational.proofs.OrderLaws.{le_trans, not-le_of_lt}
use Rattle.program_law.proofs.Numbers.{whole_le}
use Rattle.rational.proofs.Wholes.{as_whole}
use Rattle.program_law.specs.declared.Square.{Square}
use Rattle.program_law.specs.Region.{Region, smaller, larger, left_of, right_of, IsCrossedAt}
use Rattle.program_law.specs.Program.{Program, marks, is_marked}
use Rattle.program_law.specs.Columns.{AllWithin, IsWhole, AreWholeOn, IsPoint, value}
use Rattle.certificate_law.specs.declared.Node.{Node}
use Rattle.certificate_law.specs.declared.Node.TheVariants.{Branch, Bound, Farkas, Cross}
use Rattle.certificate_law.specs.Tree.{AreGood}
use Rattle.program_law.specs.Squares.{AreSquaresOf}
use Rattle.certificate_law.proofs.Leaves.{farkas}
use Rattle.certificate_law.proofs.Convex.{bounded}

smaller_keeps : (o : Option ℚ) (k x : ℚ) → IfSome o (λ h. x ≤ℚ h) → x ≤ℚ k → IfSome (smaller o k) (λ h. x ≤ℚ h)
smaller_keeps None k x old new = new
smaller_keeps (Some h) k x old new = elim (is_le h k) as (λ b. x ≤ℚ cond b h k) [ true ↦ old | false ↦ new ]

larger_keeps : (o : Option ℚ) (k x : ℚ) → IfSome o (λ l. l ≤ℚ x) → k ≤ℚ x → IfSome (larger o k) (λ l. l ≤ℚ x)
larger_keeps None k x old new = new
larger_keeps (Some l) k x old new = elim (is_le l k) as (λ b. cond b k l ≤ℚ x) [ true ↦ new | false ↦ old ]

-- a whole number is at most k, or at least k + 1
halves : (x : ℚ) (k : ℤ) → IsWhole x → (x ≤ℚ whole k) ⊎ (whole (k +ℤ pos 1) ≤ℚ x)
halves x k w =
    by_lt_z {P = (x ≤ℚ whole k) ⊎ (whole (k +ℤ pos 1) ≤ℚ x)} k x.num
    (λ h. inr (subst (λ z. whole (k +ℤ pos 1) ≤ℚ z) (sym (as_whole x w)) (whole_le (k +ℤ pos 1) x.num (omega (arith, ints)))))
    (λ h. inl (subst (λ z. z ≤ℚ whole k) (sym (as_whole x w)) (whole_le x.num k h)))

no : false ≡ true → ⊥
no e = cc

pub split : (ms : List Bool) (bs : Region) (xs : List ℚ) (j : ℕ) (k : ℤ) → is_marked ms j ≡ true → AllWithin bs xs → AreWholeOn ms xs → AllWithin (left_of bs j k) xs ⊎ AllWithin (right_of bs j k) xs
split [] bs xs j k m w keeps = absurd (no m)
split (m ∷ ms) [] xs j k marked w keeps = inl w
split (m ∷ ms) (b ∷ bs) [] j k marked w keeps = absurd w
split (m ∷ ms) (b ∷ bs) (x ∷ xs) zero k marked w keeps =
    elim (halves x k (keeps.0 marked)) [
      | inl h ↦ inl (record { low = w.0.low; high = smaller_keeps b.high (whole k) x w.0.high h }, w.1)
      | inr h ↦ inr (record { low = larger_keeps b.low (whole (k +ℤ pos 1)) x w.0.low h; high = w.0.high }, w.1)
    ]
split (m ∷ ms) (b ∷ bs) (x ∷ xs) (suc j) k marked w keeps =
    elim (split ms bs xs j k marked w.1 keeps.1) [ inl h ↦ inl (w.0, h) | inr h ↦ inr (w.0, h) ]

pub crossed : (bs : Region) (xs : List ℚ) (j : ℕ) → IsCrossedAt bs j → AllWithin bs xs → ⊥
crossed [] xs j c w = c
crossed (b ∷ bs) [] j c w = w
crossed (b ∷ bs) (x ∷ xs) zero c w =
    not-le_of_lt c.above (le_trans (subst (λ o. IfSome o (λ l. l ≤ℚ x)) c.has_low w.0.low) (subst (λ o. IfSome o (λ h. x ≤ℚ h)) c.has_high w.0.high))
crossed (b ∷ bs) (x ∷ xs) (suc j) c w = crossed bs xs j c w.1

-- the point in one of the two halves
in_region : (p : Program) (region other : Region) (x : List ℚ) → IsPoint p region x → AllWithin other x → IsPoint p other x
in_region p region other x point w =
    record { relaxed = record { rows = point.relaxed.rows; columns = w }; whole = point.whole }

halved : {P : Type 0} (p : Program) (region : Region) (j : ℕ) (k : ℤ) (x : List ℚ) → is_marked (marks p) j ≡ true → (IsPoint p (left_of region j k) x → P) → (IsPoint p (right_of region j k) x → P) → IsPoint p region x → P
halved p region j k x marked left right point =
    elim (split (marks p) region x j k marked point.relaxed.columns point.whole) [
      | inl w ↦ left (in_region p region (left_of region j k) x point w)
      | inr w ↦ right (in_region p region (right_of region j k) x point w)
    ]

-- each region that waits has no point
pub no_points : (p : Program) (nodes : List Node) (regions : List Region) (x : List ℚ) → AreGood p None regions nodes → AllByRecursion (λ region. IsPoint p region x → ⊥) regions
no_points p [] [] x good = tt
no_points p [] (region ∷ waiting) x good = absurd good
no_points p (n ∷ ns) [] x good = tt
no_points p (Branch j k ∷ ns) (region ∷ waiting) x good =
    let below = no_points p ns (left_of region j k ∷ right_of region j k ∷ waiting) x good.1 in
    (halved p region j k x good.0 below.0 below.1.0, below.1.1)
no_points p (Bound w y ∷ ns) (region ∷ waiting) x good = absurd good.0
no_points p (Farkas y ∷ ns) (region ∷ waiting) x good =
    (λ point. farkas p region y good.0 x point.relaxed, no_points p ns waiting x good.1)
no_points p (Cross j ∷ ns) (region ∷ waiting) x good =
    (λ point. crossed region x j good.0 point.relaxed.columns, no_points p ns waiting x good.1)

-- on each region that waits no point has a value below v
pub at_least : (p : Program) (qs : List Square) (v : ℚ) (nodes : List Node) (regions : List Region) (x : List ℚ) → AreSquaresOf p.pairs qs → AreGood p (Some v) regions nodes → AllByRecursion (λ region. IsPoint p region x → v ≤ℚ value p x) regions
at_least p qs v [] [] x squares good = tt
at_least p qs v [] (region ∷ waiting) x squares good = absurd good
at_least p qs v (n ∷ ns) [] x squares good = tt
at_least p qs v (Branch j k ∷ ns) (region ∷ waiting) x squares good =
    let below = at_least p qs v ns (left_of region j k ∷ right_of region j k ∷ waiting) x squares good.1 in
    (halved p region j k x good.0 below.0 below.1.0, below.1.1)
at_least p qs v (Bound w y ∷ ns) (region ∷ waiting) x squares good =
    (λ point. bounded p qs v region w y squares good.0 x point.relaxed, at_least p qs v ns waiting x squares good.1)
at_least p qs v (Farkas y ∷ ns) (region ∷ waiting) x squares good =
    (λ point. absurd (farkas p region y good.0 x point.relaxed), at_least p qs v ns waiting x squares good.1)
at_least p qs v (Cross j ∷ ns) (region ∷ waiting) x squares good =
    (λ point. absurd (crossed region x j good.0 point.relaxed.columns), at_least p qs v ns waiting x squares good.1)
