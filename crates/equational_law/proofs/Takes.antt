-- All rows and all columns: where nothing stands above the gradient, each multiplier has its side, and the sides come to
-- at least what the equations' right sides come to.
use Rattle.std.specs.Prelude.{◌≡◌, ◌⊎◌, ℕ, suc, List, [], ◌∷◌, ◌++◌, length, drop, Some, All}
use Rattle.std.proofs.Common.{arith, sym, ◌∙◌, refl, inl, inr}
use Rattle.std.proofs.lemmas.List.Elements.{All-head, All-tail}
use Rattle.algebra.proofs.Polynomial.{◌⊕◌, ◌≐◌, ◌≼◌, lit}
use Rattle.algebra.proofs.Certificate.{prove, given, ◌⇐◌}
use Rattle.rational.specs.Rational.{ℚ, zero_ℚ, one_ℚ, neg_ℚ, ◌+ℚ◌, ◌*ℚ◌}
use Rattle.rational.specs.Order.{◌≤ℚ◌, ◌<ℚ◌}
use Rattle.rational.specs.Sums.{entry}
use Rattle.rational.specs.Vectors.{dot, add_each, scale}
use Rattle.rational.proofs.Order.{ordered_rationals, le_refl, le_or_lt}
use Rattle.rational.proofs.OrderLaws.{le_of_eq, le_trans, add-le-add}
use Rattle.rational.proofs.Field.{rationals}
use Rattle.algebra.proofs.Solver.{ring}
use Rattle.program_law.specs.declared.Row.{Row}
use Rattle.program_law.specs.Program.{IsRow}
use Rattle.program_law.specs.Region.{Region, IsCrossed, IsCrossedAt}
use Rattle.certificate_law.specs.Leaf.{HaveSides, sides_sum}
use Rattle.equational_law.specs.Standing.{standing, shift, shift_at, spread_at, spread}
use Rattle.equational_law.specs.Equations.{count_by, bound_slacks_by}
use Rattle.equational_law.specs.Form.{firsts}
use Rattle.equational_law.proofs.Adjoint.{length-spread_at}
use Rattle.equational_law.proofs.Between.{AllAtMost, NonePositive, at_most_left, at_most_right, none_left, none_right}
use Rattle.equational_law.proofs.Taken.{Takes, signs_by, sides_by, row_takes, part_by, bound_signs_by, bound_sides_by, share, column_takes}

-- each multiplier has its side, and the sides come to at least t
pub record AllTake (ys : List ℚ) (t : ℚ) (ss : List Row) : Type 0 where
  pub sides : HaveSides ys ss
  pub least : t ≤ℚ sides_sum ys ss

take_more : (y : ℚ) (ys : List ℚ) (t r : ℚ) (s : Row) (ss : List Row) → Takes y t s → AllTake ys r ss → AllTake (y ∷ ys) (t +ℚ r) (s ∷ ss)
take_more y ys t r s ss h k = record { sides = (h.side, k.sides); least = add-le-add h.least k.least }

-- ---- rows

-- what the multipliers y of the rows' equations make on the rows' slacks
abbrev pub row_signs : List Row → List ℚ → List ℚ
row_signs [] y = []
row_signs (s ∷ ss) y = signs_by s.low s.high (entry y 0) (entry y 1) ++ row_signs ss (drop (count_by s.low s.high).0 y)

-- and of the rows' sides
abbrev pub row_sides : List Row → List ℚ → ℚ
row_sides [] y = zero_ℚ
row_sides (s ∷ ss) y = sides_by s.low s.high (entry y 0) (entry y 1) +ℚ row_sides ss (drop (count_by s.low s.high).0 y)

pub rows_take : (ss : List Row) (y : List ℚ) → All IsRow ss → NonePositive (row_signs ss y) → AllTake (firsts ss y) (row_sides ss y) ss
rows_take [] y good h = record { sides = tt; least = le_refl zero_ℚ }
rows_take (s ∷ ss) y good h =
    let row : IsRow s = All-head IsRow s ss good in
    let u = signs_by s.low s.high (entry y 0) (entry y 1) in
    let rest = drop (count_by s.low s.high).0 y in
    take_more _ _ _ _ s ss (row_takes s (entry y 0) (entry y 1) row.some row.ordered (none_left u (row_signs ss rest) h))
    (rows_take ss rest (All-tail IsRow s ss good) (none_right u (row_signs ss rest) h))

-- ---- columns

-- the multipliers of the columns' own equations, column by column
abbrev pub bound_parts : Region → List ℚ → List ℚ
bound_parts [] y = []
bound_parts (b ∷ bs) y = part_by b.low b.high (entry y 0) ∷ bound_parts bs (drop (bound_slacks_by b.low b.high) y)

-- what they make on the columns' slacks
abbrev pub bound_signs : Region → List ℚ → List ℚ
bound_signs [] y = []
bound_signs (b ∷ bs) y = bound_signs_by b.low b.high (entry y 0) ++ bound_signs bs (drop (bound_slacks_by b.low b.high) y)

-- and of the right sides
abbrev pub bound_sides : Region → List ℚ → ℚ
bound_sides [] y = zero_ℚ
bound_sides (b ∷ bs) y = bound_sides_by b.low b.high (entry y 0) +ℚ bound_sides bs (drop (bound_slacks_by b.low b.high) y)

-- the gradient less the residual, and the columns' own multipliers
abbrev pub shares : Region → List ℚ → List ℚ → List ℚ → List ℚ
shares region g s y = add_each (add_each g (scale (neg_ℚ one_ℚ) s)) (bound_parts region y)

not_crossed : (b : Row) → (IsCrossed b → ⊥) → (l u : ℚ) → b.low ≡ Some l → b.high ≡ Some u → l ≤ℚ u
not_crossed b uncrossed l u e f = by (le_or_lt l u)
  where
    by : ((l ≤ℚ u) ⊎ (u <ℚ l)) → l ≤ℚ u
    by (inl h) = h
    by (inr h) = absurd (uncrossed (record { low = l; high = u; has_low = e; has_high = f; above = h }))

pub columns_take : (bs : Region) (g s y : List ℚ) → length g ≡ length bs → length s ≡ length bs → ((j : ℕ) → IsCrossedAt bs j → ⊥)
    → AllAtMost (spread bs (shares bs g s y)) (spread bs g) → NonePositive (bound_signs bs y) → AllTake s (dot s (shift bs) +ℚ bound_sides bs y) bs
columns_take [] g [] y e f uncrossed le h = record { sides = tt; least = le_by }
  where
    le_by : (zero_ℚ +ℚ zero_ℚ) ≤ℚ zero_ℚ
    le_by = prove ordered_rationals [] (lit 0 ⊕ lit 0 ≼ lit 0 ⇐ given (lit 0 ≼ lit 0)) refl (le_refl zero_ℚ)
columns_take [] g (x ∷ s) y e f uncrossed le h = absurd (omega arith)
columns_take (b ∷ bs) [] s y e f uncrossed le h = absurd (omega arith)
columns_take (b ∷ bs) (g ∷ gs) [] y e f uncrossed le h = absurd (omega arith)
columns_take (b ∷ bs) (g ∷ gs) (x ∷ s) y e f uncrossed le h =
    let st = standing b in
    let v = share g x (part_by b.low b.high (entry y 0)) in
    let rest = drop (bound_slacks_by b.low b.high) y in
    let same : length (spread_at st v) ≡ length (spread_at st g) = length-spread_at st v ∙ sym (length-spread_at st g) in
    let here : Takes x (x *ℚ shift_at st +ℚ bound_sides_by b.low b.high (entry y 0)) b =
    column_takes b g x (entry y 0) (not_crossed b (uncrossed 0)) (at_most_left (spread_at st v) (spread bs (shares bs gs s rest)) (spread_at st g) (spread bs gs) same le)
    (none_left (bound_signs_by b.low b.high (entry y 0)) (bound_signs bs rest) h) in
    let more : AllTake s (dot s (shift bs) +ℚ bound_sides bs rest) bs =
    columns_take bs gs s rest (omega arith) (omega arith) (λ j. uncrossed (suc j)) (at_most_right (spread_at st v) (spread bs (shares bs gs s rest)) (spread_at st g) (spread bs gs) same le)
    (none_right (bound_signs_by b.low b.high (entry y 0)) (bound_signs bs rest) h) in
    let all = take_more x s _ _ b bs here more in
    record {
      sides = all.sides;
      least = le_trans (le_of_eq (ring rationals ((x *ℚ shift_at st) ∷ bound_sides_by b.low b.high (entry y 0) ∷ dot s (shift bs) ∷ bound_sides bs rest ∷ [])
          (λ a b c d. (a ⊕ c) ⊕ (b ⊕ d) ≐ (a ⊕ b) ⊕ (c ⊕ d)) refl)) all.least;
    }
