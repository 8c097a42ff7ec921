-- A ray leads below every number, also where marks are to be kept.
use Rattle.std.specs.Prelude.{◌≡◌, ℕ, ◌+◌, ◌*◌, ◌≤◌, ◌<◌, ℤ, pos, ◌+ℤ◌, ◌*ℤ◌, Bool, List, [], ◌∷◌, Option, Some, None, IfSome, OnSome, unsigned_abs}
use Rattle.std.proofs.Common.{arith, sym, subst, ◌∙◌, ap, refl, lit<}
use Rattle.std.proofs.lemmas.Int.{ints}
use Rattle.std.proofs.Math.Nat.{mul-pos, mul-le-mul_left}
use Rattle.rational.specs.Whole.{as_diff, diffs, same_diff}
use Rattle.rational.specs.Rational.{ℚ, zero_ℚ, whole, bottom, ratio_same, ratio_parts, ◌+ℚ◌, ◌-ℚ◌, ◌*ℚ◌, ◌*⁺◌}
use Rattle.rational.proofs.Ratios.{ratio_mul}
use Rattle.rational.specs.Order.{◌≤ℚ◌, ◌<ℚ◌}
use Rattle.rational.proofs.Field.{*ℚ_comm, whole-+ℤ}
use Rattle.program_law.proofs.Ring.{ring_by, x0, x1, x2, x3, x4, x5}
use Rattle.algebra.proofs.Polynomial.{◌⊕◌, ◌⊗◌, num}
use Rattle.rational.proofs.OrderLaws.{le_trans}
use Rattle.program_law.proofs.Numbers.{le_more, le_less, whole_le, falls}
use Rattle.rational.proofs.Wholes.{den-whole, as_whole}
use Rattle.program_law.specs.declared.Row.{Row}
use Rattle.program_law.specs.declared.Square.{Square}
use Rattle.rational.specs.Vectors.{dot, rows_dot, form}
use Rattle.program_law.specs.Program.{Program, sides, bounds, marks}
use Rattle.program_law.specs.Point.{IsWithin}
use Rattle.program_law.specs.Value.{half}
use Rattle.program_law.specs.Columns.{AllWithin, IsWhole, AreWholeOn, IsPoint, value}
use Rattle.program_law.specs.Squares.{AreSquaresOf}
use Rattle.certificate_law.specs.Ray.{KeepsSides, AllKeepSides, AreZero, IsRay}
use Rattle.program_law.proofs.Squared.{weighed, form_is}

-- the point k times the direction further on
pub moved : ℚ → List ℚ → List ℚ → List ℚ
moved k [] ds = []
moved k (x ∷ xs) [] = x ∷ xs
moved k (x ∷ xs) (d ∷ ds) = (x +ℚ k *ℚ d) ∷ moved k xs ds

-- as many numbers as a region has columns
unfoldable pub AsLong : List ℚ → List ℚ → Type 0
AsLong [] [] = Unit {0}
AsLong [] (d ∷ ds) = ⊥
AsLong (x ∷ xs) [] = ⊥
AsLong (x ∷ xs) (d ∷ ds) = AsLong xs ds

as_long : (ss : List Row) (xs ds : List ℚ) → AllWithin ss xs → AllKeepSides ss ds → AsLong xs ds
unfolding AsLong
as_long [] [] [] w a = tt
as_long [] [] (d ∷ ds) w a = a
as_long [] (x ∷ xs) ds w a = absurd w
as_long (s ∷ ss) [] ds w a = absurd w
as_long (s ∷ ss) (x ∷ xs) [] w a = absurd a
as_long (s ∷ ss) (x ∷ xs) (d ∷ ds) w a = as_long ss xs ds w.1 a.1

pub dot_moved : (k : ℚ) (row x d : List ℚ) → AsLong x d → dot row (moved k x d) ≡ dot row x +ℚ k *ℚ dot row d
unfolding moved AsLong
dot_moved k [] [] [] h = ring_by (k ∷ []) (num (pos 0)) (num (pos 0) ⊕ x0 ⊗ num (pos 0)) refl
dot_moved k [] [] (d ∷ ds) h = absurd h
dot_moved k [] (x ∷ xs) [] h = absurd h
dot_moved k [] (x ∷ xs) (d ∷ ds) h = ring_by (k ∷ []) (num (pos 0)) (num (pos 0) ⊕ x0 ⊗ num (pos 0)) refl
dot_moved k (a ∷ row) [] [] h = ring_by (k ∷ []) (num (pos 0)) (num (pos 0) ⊕ x0 ⊗ num (pos 0)) refl
dot_moved k (a ∷ row) [] (d ∷ ds) h = absurd h
dot_moved k (a ∷ row) (x ∷ xs) [] h = absurd h
dot_moved k (a ∷ row) (x ∷ xs) (d ∷ ds) h =
    ap (λ z. a *ℚ (x +ℚ k *ℚ d) +ℚ z) (dot_moved k row xs ds h)
    ∙ ring_by (a ∷ x ∷ k ∷ d ∷ dot row xs ∷ dot row ds ∷ [])
    (x0 ⊗ (x1 ⊕ x2 ⊗ x3) ⊕ (x4 ⊕ x2 ⊗ x5)) ((x0 ⊗ x1 ⊕ x4) ⊕ x2 ⊗ (x0 ⊗ x3 ⊕ x5)) refl

low_moved : (k u d : ℚ) (o : Option ℚ) → zero_ℚ ≤ℚ k → IfSome o (λ l. l ≤ℚ u) → OnSome o (zero_ℚ ≤ℚ d) → IfSome o (λ l. l ≤ℚ (u +ℚ k *ℚ d))
low_moved k u d None z h a = tt
low_moved k u d (Some l) z h a = le_trans h (le_more u z a)

high_moved : (k u d : ℚ) (o : Option ℚ) → zero_ℚ ≤ℚ k → IfSome o (λ h. u ≤ℚ h) → OnSome o (d ≤ℚ zero_ℚ) → IfSome o (λ h. (u +ℚ k *ℚ d) ≤ℚ h)
high_moved k u d None z h a = tt
high_moved k u d (Some l) z h a = le_trans (le_less u z a) h

keeps_moved : (s : Row) (k u d : ℚ) → zero_ℚ ≤ℚ k → IsWithin s u → KeepsSides s d → IsWithin s (u +ℚ k *ℚ d)
keeps_moved s k u d z h a = record { low = low_moved k u d s.low z h.low a.low; high = high_moved k u d s.high z h.high a.high }

rows_moved : (ss : List Row) (rows : List (List ℚ)) (k : ℚ) (x d : List ℚ) → zero_ℚ ≤ℚ k → AsLong x d → AllWithin ss (rows_dot rows x) → AllKeepSides ss (rows_dot rows d) → AllWithin ss (rows_dot rows (moved k x d))
rows_moved [] [] k x d z l w a = tt
rows_moved [] (row ∷ rows) k x d z l w a = w
rows_moved (s ∷ ss) [] k x d z l w a = w
rows_moved (s ∷ ss) (row ∷ rows) k x d z l w a =
    (subst (IsWithin s) (sym (dot_moved k row x d l)) (keeps_moved s k (dot row x) (dot row d) z w.0 a.0), rows_moved ss rows k x d z l w.1 a.1)

columns_moved : (ss : List Row) (k : ℚ) (xs ds : List ℚ) → zero_ℚ ≤ℚ k → AllWithin ss xs → AllKeepSides ss ds → AllWithin ss (moved k xs ds)
unfolding moved
columns_moved [] k [] [] z w a = tt
columns_moved [] k [] (d ∷ ds) z w a = absurd a
columns_moved [] k (x ∷ xs) ds z w a = absurd w
columns_moved (s ∷ ss) k [] ds z w a = absurd w
columns_moved (s ∷ ss) k (x ∷ xs) [] z w a = absurd a
columns_moved (s ∷ ss) k (x ∷ xs) (d ∷ ds) z w a = (keeps_moved s k x d z w.0 a.0, columns_moved ss k xs ds z w.1 a.1)

-- ---- the marks

-- k times a number whose denominator divides k is whole
whole_product : (d : ℚ) (q : ℕ) → whole (pos (q * d.den)) *ℚ d ≡ whole (pos q *ℤ d.num)
unfolding whole
whole_product d q =
    ap (λ z. whole (pos (q * d.den)) *ℚ z) (sym (ratio_parts d)) ∙ ratio_mul (pos (q * d.den)) (record { size = 1; some = lit< tt }) d.num (bottom d)
    ∙ ratio_same (pos (q * d.den) *ℤ d.num) (record { size = 1; some = lit< tt } *⁺ bottom d) (pos q *ℤ d.num) (record { size = 1; some = lit< tt }) (by d.num d.den)
  where
    by : (n : ℤ) (e : ℕ) → (pos (q * e) *ℤ n) *ℤ pos 1 ≡ (pos q *ℤ n) *ℤ pos (1 * e)
    by n e = rw (as_diff n) (simp diffs (same_diff _ _ _ _ (omega arith)))

-- the denominator of each divides k
AllDivide : ℕ → List ℚ → Type 0
AllDivide k [] = Unit {0}
AllDivide k (d ∷ ds) = ((q : ℕ) × (k ≡ q * d.den)) × AllDivide k ds

whole_sum : (x d : ℚ) (k q : ℕ) → k ≡ q * d.den → IsWhole x → IsWhole (x +ℚ whole (pos k) *ℚ d)
whole_sum x d k q e h =
    let same : x +ℚ whole (pos k) *ℚ d ≡ whole (x.num +ℤ pos q *ℤ d.num) =
    ap (λ z. z +ℚ whole (pos k) *ℚ d) (as_whole x h) ∙ ap (λ (n : ℕ). whole x.num +ℚ whole (pos n) *ℚ d) e
    ∙ ap (λ z. whole x.num +ℚ z) (whole_product d q) ∙ sym (whole-+ℤ x.num (pos q *ℤ d.num)) in
    ap (λ (z : ℚ). z.den) same ∙ den-whole (x.num +ℤ pos q *ℤ d.num)

marks_moved : (ms : List Bool) (xs ds : List ℚ) (k : ℕ) → AsLong xs ds → AllDivide k ds → AreWholeOn ms xs → AreWholeOn ms (moved (whole (pos k)) xs ds)
unfolding moved AsLong AllDivide
marks_moved [] xs ds k l w keeps = tt
marks_moved (m ∷ ms) [] ds k l w keeps = tt
marks_moved (m ∷ ms) (x ∷ xs) [] k l w keeps = absurd l
marks_moved (m ∷ ms) (x ∷ xs) (d ∷ ds) k l w keeps = (λ e. whole_sum x d k w.0.0 w.0.1 (keeps.0 e), marks_moved ms xs ds k l w.1 keeps.1)

-- a number that every denominator divides
all_denominators : List ℚ → ℕ
all_denominators [] = 1
all_denominators (d ∷ ds) = d.den * all_denominators ds

more_divide : (k m : ℕ) (ds : List ℚ) → AllDivide k ds → AllDivide (m * k) ds
unfolding AllDivide
more_divide k m [] w = tt
more_divide k m (d ∷ ds) w = ((m * w.0.0, omega (arith, ap (λ t. m * t) w.0.1)), more_divide k m ds w.1)

all_divide : (ds : List ℚ) → AllDivide (all_denominators ds) ds
unfolding all_denominators AllDivide
all_divide [] = tt
all_divide (d ∷ ds) = ((all_denominators ds, omega arith), more_divide (all_denominators ds) d.den ds (all_divide ds))

denominators_positive : (ds : List ℚ) → 0 < all_denominators ds
unfolding all_denominators
denominators_positive [] = omega arith
denominators_positive (d ∷ ds) = mul-pos d.lowest.positive (denominators_positive ds)

-- ---- the value
flat_dot : (xs ys : List ℚ) → AreZero xs → dot xs ys ≡ zero_ℚ
flat_dot [] ys a = refl
flat_dot (x ∷ xs) [] a = refl
flat_dot (x ∷ xs) (y ∷ ys) a =
    ap (λ z. z *ℚ y +ℚ dot xs ys) a.0 ∙ ap (λ z. zero_ℚ *ℚ y +ℚ z) (flat_dot xs ys a.1) ∙ ring_by (y ∷ []) (num (pos 0) ⊗ x0 ⊕ num (pos 0)) (num (pos 0)) refl

weighed_comm : (qs : List Square) (w x : List ℚ) → weighed qs w x ≡ weighed qs x w
unfolding weighed
weighed_comm [] w x = refl
weighed_comm (q ∷ qs) w x =
    ap (λ z. q.weight *ℚ z +ℚ weighed qs w x) (*ℚ_comm (dot q.coef w) (dot q.coef x)) ∙ ap (λ z. q.weight *ℚ (dot q.coef x *ℚ dot q.coef w) +ℚ z) (weighed_comm qs w x)

pub form_comm : (q : List (List ℚ)) (qs : List Square) (w x : List ℚ) → AreSquaresOf q qs → form q w x ≡ form q x w
form_comm q qs w x s = form_is q qs w x s ∙ weighed_comm qs w x ∙ sym (form_is q qs x w s)

form_moved : (q : List (List ℚ)) (qs : List Square) (k : ℚ) (x d : List ℚ) → AsLong x d → AreSquaresOf q qs → AreZero (rows_dot q d) → form q (moved k x d) (moved k x d) ≡ form q x x
form_moved q qs k x d l s flat =
    let step : (b : List ℚ) → form q b (moved k x d) ≡ form q b x = λ b.
    dot_moved k (rows_dot q b) x d l
    ∙ ap (λ z. form q b x +ℚ k *ℚ z) (form_comm q qs b d s ∙ flat_dot (rows_dot q d) b flat)
    ∙ ring_by (form q b x ∷ k ∷ []) (x0 ⊕ x1 ⊗ num (pos 0)) x0 refl in
    step (moved k x d) ∙ form_comm q qs (moved k x d) x s ∙ step x

value_moved : (p : Program) (qs : List Square) (k : ℚ) (x d : List ℚ) → AsLong x d → AreSquaresOf p.pairs qs → AreZero (rows_dot p.pairs d) → value p (moved k x d) ≡ value p x +ℚ k *ℚ dot p.costs d
value_moved p qs k x d l s flat =
    ap (λ z. half *ℚ z +ℚ dot p.costs (moved k x d) +ℚ p.constant) (form_moved p.pairs qs k x d l s flat)
    ∙ ap (λ z. half *ℚ form p.pairs x x +ℚ z +ℚ p.constant) (dot_moved k p.costs x d l)
    ∙ ring_by ((half *ℚ form p.pairs x x) ∷ dot p.costs x ∷ (k *ℚ dot p.costs d) ∷ p.constant ∷ []) (x0 ⊕ (x1 ⊕ x2) ⊕ x3) (x0 ⊕ x1 ⊕ x3 ⊕ x2) refl

-- the whole number of times that the direction is gone along, so that the value is below t and marked columns stay whole
pub times_along : ℚ → ℚ → ℚ → List ℚ → ℕ
times_along u e t d = ((unsigned_abs (u -ℚ t).num + 1) * e.den) * all_denominators d

pub falls_below : (p : Program) (qs : List Square) (x d : List ℚ) → IsPoint p (bounds p) x → AreSquaresOf p.pairs qs → IsRay p d → (t : ℚ) → (z : List ℚ) × IsPoint p (bounds p) z × (value p z <ℚ t)
unfolding times_along
falls_below p qs x d point squares ray t =
    let e = dot p.costs d in let u = value p x in
    let m = (unsigned_abs (u -ℚ t).num + 1) * e.den in
    let k = times_along u e t d in
    let l = as_long (bounds p) x d point.relaxed.columns ray.columns in
    let up : zero_ℚ ≤ℚ whole (pos k) = whole_le (pos 0) (pos k) (omega (arith, ints)) in
    let enough : m * 1 ≤ m * all_denominators d = mul-le-mul_left m (denominators_positive d) in (
      moved (whole (pos k)) x d,
      record {
        relaxed = record {
          rows = rows_moved (sides p) p.entries (whole (pos k)) x d up l point.relaxed.rows ray.rows;
          columns = columns_moved (bounds p) (whole (pos k)) x d up point.relaxed.columns ray.columns;
        };
        whole = marks_moved (marks p) x d k l (more_divide (all_denominators d) m d (all_divide d)) point.whole;
      },
      subst (λ z. z <ℚ t) (sym (value_moved p qs (whole (pos k)) x d l squares ray.flat)) (falls u e t k ray.falls (omega arith)),
    )
