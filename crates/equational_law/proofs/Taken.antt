-- One row and one column of the file: what the multipliers of its equations say of the side that a leaf takes.
use Rattle.std.specs.Prelude.{◌≡◌, ◌⊎◌, ℕ, List, [], ◌∷◌, Option, Some, None, IsSome, unwrap_or, Bool, true, false, if◌then◌else◌}
use Rattle.std.proofs.Common.{sym, ◌∙◌, ap, refl, cond, inl, inr}
use Rattle.algebra.proofs.Polynomial.{minus, ◌⊕◌, ◌⊝◌, ◌⊗◌, ◌≼◌, ◌≺◌, lit}
use Rattle.algebra.proofs.Certificate.{prove, given, scaled, ◌⊞◌, ◌⊠◌, ◌⇐◌}
use Rattle.rational.specs.Rational.{ℚ, zero_ℚ, one_ℚ, neg_ℚ, ◌+ℚ◌, ◌-ℚ◌, ◌*ℚ◌}
use Rattle.rational.specs.Order.{◌≤ℚ◌, ◌<ℚ◌, same_fields, same_fields_lem}
use Rattle.rational.specs.Sums.{entry}
use Rattle.rational.proofs.Order.{ordered_rationals, le_refl, le_or_lt, le_antisymm, lt_irrefl}
use Rattle.rational.proofs.OrderLaws.{le_of_eq, not-le_of_lt}
use Rattle.program_law.proofs.Numbers.{positive_above, negative_below, above_positive}
use Rattle.rational.specs.Tests.{is_positive}
use Rattle.program_law.specs.declared.Row.{Row}
use Rattle.certificate_law.specs.Leaf.{side_for, HasSide}
use Rattle.equational_law.specs.Standing.{shift_at, spread_at, standing_by}

-- the multiplier y has its side, and y times it is at least t
pub record Takes (y t : ℚ) (s : Row) : Type 0 where
  pub side : HasSide y s
  pub least : t ≤ℚ (y *ℚ unwrap_or (side_for y s) zero_ℚ)

not_positive : (y : ℚ) → is_positive y ≡ false → y ≤ℚ zero_ℚ
not_positive y e = by (le_or_lt y zero_ℚ)
  where
    by : ((y ≤ℚ zero_ℚ) ⊎ (zero_ℚ <ℚ y)) → y ≤ℚ zero_ℚ
    by (inl h) = h
    by (inr h) = absurd (let bad : true ≡ false = sym (above_positive y h) ∙ e in cc)

both_signs : (y : ℚ) → zero_ℚ <ℚ y → y <ℚ zero_ℚ → ⊥
both_signs y h k = lt_irrefl zero_ℚ (prove ordered_rationals (y ∷ []) (λ y. lit 0 ≺ lit 0 ⇐ given (lit 0 ≺ y) ⊞ given (y ≺ lit 0)) refl h k)

-- by the two sides that a multiplier may take
takes_by : (y t : ℚ) (low high : Option ℚ) → (zero_ℚ <ℚ y → IsSome low × (t ≤ℚ (y *ℚ unwrap_or low zero_ℚ)))
    → (y ≤ℚ zero_ℚ → (y <ℚ zero_ℚ → IsSome high) × (t ≤ℚ (y *ℚ unwrap_or high zero_ℚ))) → Takes y t (record { low = low; high = high })
takes_by y t low high up down = by (is_positive y) refl
  where
    by : (a : Bool) → is_positive y ≡ a → Takes y t (record { low = low; high = high })
    by true e = record {
      side = record { low = λ _. (up (positive_above y e)).0; high = λ n. absurd (both_signs y (positive_above y e) (negative_below y n)) };
      least = rw e ((up (positive_above y e)).1);
    }
    by false e = record {
      side = record { low = λ p. absurd (let bad : true ≡ false = sym p ∙ e in cc); high = λ n. (down (not_positive y e)).0 (negative_below y n) };
      least = rw e ((down (not_positive y e)).1);
    }

-- ---- a row

-- what stands on a row's own slacks: a is the multiplier of its first equation, b that of its second
abbrev pub signs_by : Option ℚ → Option ℚ → ℚ → ℚ → List ℚ
signs_by (Some l) (Some u) a b = if same_fields l u then [] else (a +ℚ b) ∷ b ∷ []
signs_by (Some l) None a b = neg_ℚ a ∷ []
signs_by None (Some u) a b = a ∷ []
signs_by None None a b = []

-- the multipliers times the sides
abbrev pub sides_by : Option ℚ → Option ℚ → ℚ → ℚ → ℚ
sides_by (Some l) (Some u) a b = if same_fields l u then a *ℚ l else a *ℚ u +ℚ b *ℚ (u -ℚ l)
sides_by (Some l) None a b = a *ℚ l
sides_by None (Some u) a b = a *ℚ u
sides_by None None a b = zero_ℚ

pub row_takes_by : (low high : Option ℚ) (a b : ℚ) → (IsSome low ⊎ IsSome high) → ((l u : ℚ) → low ≡ Some l → high ≡ Some u → l ≤ℚ u)
    → ((j : ℕ) → entry (signs_by low high a b) j ≤ℚ zero_ℚ) → Takes a (sides_by low high a b) (record { low = low; high = high })
row_takes_by (Some l) (Some u) a b some ordered h = by (same_fields l u) refl h
  where
    by : (t : Bool) → same_fields l u ≡ t → ((j : ℕ) → entry (cond t [] ((a +ℚ b) ∷ b ∷ [])) j ≤ℚ zero_ℚ)
        → Takes a (cond t (a *ℚ l) (a *ℚ u +ℚ b *ℚ (u -ℚ l))) (record { low = Some l; high = Some u })
    by true e h =
        takes_by a (a *ℚ l) (Some l) (Some u) (λ p. (refl, le_refl (a *ℚ l))) (λ n. ((λ m. refl), le_of_eq (ap (λ z. a *ℚ z) (same_fields_lem l u e))))
    by false e h =
        let k : l ≤ℚ u = ordered l u refl refl in
        takes_by a (a *ℚ u +ℚ b *ℚ (u -ℚ l)) (Some l) (Some u)
        (λ p. (refl, prove ordered_rationals (a ∷ b ∷ l ∷ u ∷ []) (λ a b l u. a ⊗ u ⊕ b ⊗ (u ⊝ l) ≼ a ⊗ l ⇐ given (a ⊕ b ≼ lit 0) ⊠ given (l ≼ u)) refl (h 0) k))
        (λ n. ((λ m. refl), prove ordered_rationals (a ∷ b ∷ l ∷ u ∷ []) (λ a b l u. a ⊗ u ⊕ b ⊗ (u ⊝ l) ≼ a ⊗ u ⇐ given (b ≼ lit 0) ⊠ given (l ≼ u)) refl (h 1) k))
row_takes_by (Some l) None a b some ordered h =
    let up : zero_ℚ ≤ℚ a = prove ordered_rationals (a ∷ []) (λ a. lit 0 ≼ a ⇐ given (minus a ≼ lit 0)) refl (h 0) in
    takes_by a (a *ℚ l) (Some l) None (λ p. (refl, le_refl (a *ℚ l)))
    (λ n. ((λ m. absurd (not-le_of_lt m up)), prove ordered_rationals (a ∷ l ∷ []) (λ a l. a ⊗ l ≼ a ⊗ lit 0 ⇐ scaled l a (lit 0)) refl (le_antisymm _ _ n up)))
row_takes_by None (Some u) a b some ordered h =
    takes_by a (a *ℚ u) None (Some u) (λ p. absurd (not-le_of_lt p (h 0))) (λ n. ((λ m. refl), le_refl (a *ℚ u)))
row_takes_by None None a b (inl none) ordered h = cc
row_takes_by None None a b (inr none) ordered h = cc

pub row_takes : (s : Row) (a b : ℚ) → (IsSome s.low ⊎ IsSome s.high) → ((l u : ℚ) → s.low ≡ Some l → s.high ≡ Some u → l ≤ℚ u)
    → ((j : ℕ) → entry (signs_by s.low s.high a b) j ≤ℚ zero_ℚ) → Takes a (sides_by s.low s.high a b) s
row_takes s a b some ordered h = row_takes_by s.low s.high a b some ordered h

-- ---- a column

-- the multiplier b of a column's own equation, and 0 where it has none
abbrev pub part_by : Option ℚ → Option ℚ → ℚ → ℚ
part_by (Some l) (Some u) b = b
part_by low high b = zero_ℚ

-- what stands on its slack
abbrev pub bound_signs_by : Option ℚ → Option ℚ → ℚ → List ℚ
bound_signs_by (Some l) (Some u) b = b ∷ []
bound_signs_by low high b = []

-- the multiplier times the equation's right side
abbrev pub bound_sides_by : Option ℚ → Option ℚ → ℚ → ℚ
bound_sides_by (Some l) (Some u) b = b *ℚ (u -ℚ l)
bound_sides_by low high b = zero_ℚ

-- what stands on the form's columns of a column: its gradient g, less its residual s, and the multiplier of its own equation
abbrev pub share : ℚ → ℚ → ℚ → ℚ
share g s b = (g +ℚ neg_ℚ one_ℚ *ℚ s) +ℚ b

pub column_takes_by : (low high : Option ℚ) (g s b : ℚ) → ((l u : ℚ) → low ≡ Some l → high ≡ Some u → l ≤ℚ u)
    → ((j : ℕ) → entry (spread_at (standing_by low high) (share g s (part_by low high b))) j ≤ℚ entry (spread_at (standing_by low high) g) j)
    → ((j : ℕ) → entry (bound_signs_by low high b) j ≤ℚ zero_ℚ)
    → Takes s (s *ℚ shift_at (standing_by low high) +ℚ bound_sides_by low high b) (record { low = low; high = high })
column_takes_by (Some l) (Some u) g s b ordered le h =
    let k : l ≤ℚ u = ordered l u refl refl in
    takes_by s _ (Some l) (Some u)
    (λ p. (refl, prove ordered_rationals (s ∷ b ∷ l ∷ u ∷ []) (λ s b l u. s ⊗ l ⊕ b ⊗ (u ⊝ l) ≼ s ⊗ l ⇐ given (b ≼ lit 0) ⊠ given (l ≼ u)) refl (h 0) k))
    (λ n. (
      (λ m. refl),
      prove ordered_rationals (g ∷ s ∷ b ∷ l ∷ u ∷ [])
          (λ g s b l u. s ⊗ l ⊕ b ⊗ (u ⊝ l) ≼ s ⊗ u ⇐ given (g ⊕ minus (lit 1) ⊗ s ⊕ b ≼ g) ⊠ given (l ≼ u)) refl (le 0) k,
    ))
column_takes_by (Some l) None g s b ordered le h =
    let up : zero_ℚ ≤ℚ s = prove ordered_rationals (g ∷ s ∷ []) (λ g s. lit 0 ≼ s ⇐ given (g ⊕ minus (lit 1) ⊗ s ⊕ lit 0 ≼ g)) refl (le 0) in
    takes_by s _ (Some l) None (λ p. (refl, prove ordered_rationals (s ∷ l ∷ []) (λ s l. s ⊗ l ⊕ lit 0 ≼ s ⊗ l ⇐ given (lit 0 ≼ lit 0)) refl (le_refl zero_ℚ)))
    (λ n. ((λ m. absurd (not-le_of_lt m up)), prove ordered_rationals (s ∷ l ∷ []) (λ s l. s ⊗ l ⊕ lit 0 ≼ s ⊗ lit 0 ⇐ scaled l s (lit 0)) refl (le_antisymm _ _ n up)))
column_takes_by None (Some u) g s b ordered le h =
    let down : s ≤ℚ zero_ℚ = prove ordered_rationals (g ∷ s ∷ []) (λ g s. s ≼ lit 0 ⇐ given (minus (g ⊕ minus (lit 1) ⊗ s ⊕ lit 0) ≼ minus g)) refl (le 0) in
    takes_by s _ None (Some u) (λ p. absurd (not-le_of_lt p down))
    (λ n. ((λ m. refl), prove ordered_rationals (s ∷ u ∷ []) (λ s u. s ⊗ u ⊕ lit 0 ≼ s ⊗ u ⇐ given (lit 0 ≼ lit 0)) refl (le_refl zero_ℚ)))
column_takes_by None None g s b ordered le h =
    let up : zero_ℚ ≤ℚ s = prove ordered_rationals (g ∷ s ∷ []) (λ g s. lit 0 ≼ s ⇐ given (g ⊕ minus (lit 1) ⊗ s ⊕ lit 0 ≼ g)) refl (le 0) in
    let down : s ≤ℚ zero_ℚ = prove ordered_rationals (g ∷ s ∷ []) (λ g s. s ≼ lit 0 ⇐ given (minus (g ⊕ minus (lit 1) ⊗ s ⊕ lit 0) ≼ minus g)) refl (le 1) in
    takes_by s _ None None (λ p. absurd (not-le_of_lt p down))
    (λ n. ((λ m. absurd (not-le_of_lt m up)), prove ordered_rationals (s ∷ []) (λ s. s ⊗ lit 0 ⊕ lit 0 ≼ s ⊗ lit 0 ⇐ given (lit 0 ≼ lit 0)) refl (le_refl zero_ℚ)))

pub column_takes : (c : Row) (g s b : ℚ) → ((l u : ℚ) → c.low ≡ Some l → c.high ≡ Some u → l ≤ℚ u)
    → ((j : ℕ) → entry (spread_at (standing_by c.low c.high) (share g s (part_by c.low c.high b))) j ≤ℚ entry (spread_at (standing_by c.low c.high) g) j)
    → ((j : ℕ) → entry (bound_signs_by c.low c.high b) j ≤ℚ zero_ℚ)
    → Takes s (s *ℚ shift_at (standing_by c.low c.high) +ℚ bound_sides_by c.low c.high b) c
column_takes c g s b ordered le h = column_takes_by c.low c.high g s b ordered le h
