-- Each direction that leads down comes from a solution of the price problem.
use Rattle.std.proofs.Common.{◌≡◌, ◌≢◌, refl, ◌∙◌, ap, subst, ℕ, zero, suc, ◌+◌, ◌⊎◌, inl, inr, ⊎_elim, Bool, true, false, List, [], ◌∷◌, ◌++◌, length, map, if◌then◌else◌, arith}
use Rattle.std.specs.Prelude.{take, drop, All}
use Rattle.std.specs.List.{AllPairs}
use Rattle.std.proofs.lemmas.List.{length-append}
use Rattle.std.proofs.lemmas.List.Elements.{All-nil, All-cons, All-append}
use Rattle.std.proofs.lemmas.List.Kept.{AllPairs-cons}
use Rattle.algebra.proofs.Polynomial.{minus, ◌⊕◌, ◌≼◌, ◌≐◌, lit}
use Rattle.algebra.proofs.Certificate.{prove, given, ◌⇐◌}
use Rattle.algebra.proofs.Solver.{ring}
use Rattle.rational.specs.Rational.{ℚ, zero_ℚ, one_ℚ, neg_ℚ, ◌+ℚ◌}
use Rattle.rational.specs.Order.{◌≤ℚ◌, ◌<ℚ◌, same_fields}
use Rattle.rational.specs.Sums.{entry}
use Rattle.rational.specs.Vectors.{dot, add_each, zeros, pick, put_at, rows_dot}
use Rattle.rational.proofs.Field.{rationals}
use Rattle.rational.proofs.Order.{ordered_rationals, le_refl, le_or_lt, lt_le, lt_irrefl}
use Rattle.rational.proofs.Vectors.{rows_dot-append}
use Rattle.rational.proofs.Supports.{length-pick, put_at-pick}
use Rattle.linear_basis_law.specs.Problem as linear
use Rattle.equational_law.specs.Form.{Form}
use Rattle.equational_law.specs.Solutions.{IsForm, IsSolution}
use Rattle.face_descent_law.specs.Small.{slope, support, support_from}
use Rattle.face_descent_law.proofs.Supports.{off_support, support_below}
use Rattle.quad_solve_law.specs.Problems.{price_problem, price_rows, doubled, direction, difference}
use Rattle.quad_solve_law.specs.Steps.{LeadsDown}
use Rattle.quad_solve_law.proofs.Lists.{dot-negated}
use Rattle.quad_solve_law.proofs.Doubled.{rows_dot-doubled, from_first}
use Rattle.quad_solve_law.proofs.Descents.{entry_nonneg, wide_prices}
use Rattle.quad_solve_law.proofs.Refuted.{not_both_prices}

-- a number as the difference of two that are not below 0, of which the second is 0 unless the number is below 0
record Split (x : ℚ) : Type 0 where
  up : ℚ
  down : ℚ
  up_nonneg : zero_ℚ ≤ℚ up
  down_nonneg : zero_ℚ ≤ℚ down
  same : up +ℚ neg_ℚ down ≡ x
  none : zero_ℚ ≤ℚ x → down ≡ zero_ℚ

split : (x : ℚ) → Split x
split x = by (le_or_lt zero_ℚ x)
  where
    by : (zero_ℚ ≤ℚ x) ⊎ (x <ℚ zero_ℚ) → Split x
    by (inl h) = record {
      up = x;
      down = zero_ℚ;
      up_nonneg = h;
      down_nonneg = le_refl zero_ℚ;
      same = ring rationals (x ∷ []) (λ x. x ⊕ minus (lit 0) ≐ x) refl;
      none = λ k. refl;
    }
    by (inr h) = record {
      up = zero_ℚ;
      down = neg_ℚ x;
      up_nonneg = le_refl zero_ℚ;
      down_nonneg = prove ordered_rationals (x ∷ []) (λ x. lit 0 ≼ minus x ⇐ given (x ≼ lit 0)) refl (lt_le x zero_ℚ h);
      same = ring rationals (x ∷ []) (λ x. lit 0 ⊕ minus (minus x) ≐ x) refl;
      none = λ k. absurd (Rattle.rational.proofs.OrderLaws.not-le_of_lt h k);
    }

-- the same, of a list
record Splits (d : List ℚ) : Type 0 where
  ups : List ℚ
  downs : List ℚ
  ups_size : length ups ≡ length d
  downs_size : length downs ≡ length d
  ups_nonneg : All (λ x. zero_ℚ ≤ℚ x) ups
  downs_nonneg : All (λ x. zero_ℚ ≤ℚ x) downs
  same : add_each ups (map neg_ℚ downs) ≡ d
  none : (j : ℕ) → zero_ℚ ≤ℚ entry d j → entry downs j ≡ zero_ℚ

splits : (d : List ℚ) → Splits d
splits [] = record {
  ups = [];
  downs = [];
  ups_size = refl;
  downs_size = refl;
  ups_nonneg = All-nil (λ x. zero_ℚ ≤ℚ x);
  downs_nonneg = All-nil (λ x. zero_ℚ ≤ℚ x);
  same = refl;
  none = λ j h. refl;
}
splits (x ∷ d) = by (split x) (splits d)
  where
    by : Split x → Splits d → Splits (x ∷ d)
    by s m = record {
      ups = s.up ∷ m.ups;
      downs = s.down ∷ m.downs;
      ups_size = ap suc m.ups_size;
      downs_size = ap suc m.downs_size;
      ups_nonneg = All-cons (λ x. zero_ℚ ≤ℚ x) s.up m.ups s.up_nonneg m.ups_nonneg;
      downs_nonneg = All-cons (λ x. zero_ℚ ≤ℚ x) s.down m.downs s.down_nonneg m.downs_nonneg;
      same = ap (λ t. t ∷ add_each m.ups (map neg_ℚ m.downs)) s.same ∙ ap (λ l. x ∷ l) m.same;
      none = none;
    }
      where
        none : (j : ℕ) → zero_ℚ ≤ℚ entry (x ∷ d) j → entry (s.down ∷ m.downs) j ≡ zero_ℚ
        none zero h = s.none h
        none (suc j) h = m.none j h

all_pick : (s : List ℕ) (u : List ℚ) → All (λ x. zero_ℚ ≤ℚ x) u → All (λ x. zero_ℚ ≤ℚ x) (pick s u)
all_pick [] u h = All-nil (λ x. zero_ℚ ≤ℚ x)
all_pick (j ∷ s) u h = All-cons (λ x. zero_ℚ ≤ℚ x) (entry u j) (pick s u) (entry_nonneg u h j) (all_pick s u h)

taken_front : (u v : List ℚ) (n : ℕ) → length u ≡ n → take n (u ++ v) ≡ u
taken_front [] v zero e = refl
taken_front [] v (suc n) e = absurd (omega arith)
taken_front (x ∷ u) v zero e = absurd (omega arith)
taken_front (x ∷ u) v (suc n) e = ap (λ l. x ∷ l) (taken_front u v n (omega arith))

dropped_front : (u v : List ℚ) (n : ℕ) → length u ≡ n → drop n (u ++ v) ≡ v
dropped_front [] v zero e = refl
dropped_front [] v (suc n) e = absurd (omega arith)
dropped_front (x ∷ u) v zero e = absurd (omega arith)
dropped_front (x ∷ u) v (suc n) e = dropped_front u v n (omega arith)

-- the places of a support differ
differ : (k : ℕ) (z : List ℚ) → AllPairs (λ a b. a ≢ b) (support_from k z)
differ k [] = λ i j d l m. absurd (omega (arith, m))
differ k (x ∷ z) = by (same_fields x zero_ℚ) (λ i d l. omega (arith, from_first (suc k) z i d l)) (differ (suc k) z)
  where
    by : (b : Bool) → All (λ j. k ≢ j) (support_from (suc k) z) → AllPairs (λ a b. a ≢ b) (support_from (suc k) z) → AllPairs (λ a b. a ≢ b) (if b then support_from (suc k) z else k ∷ support_from (suc k) z)
    by true h r = r
    by false h r = AllPairs-cons (λ a b. a ≢ b) k (support_from (suc k) z) h r

module _ (n : ℕ) (f : Form) (z d : List ℚ) (form : IsForm n f) (at : IsSolution f z) (lead : LeadsDown f z d) (m : Splits d) where
  off : (j : ℕ) → All (λ k. k ≢ j) (support z) → entry m.downs j ≡ zero_ℚ
  off j h = m.none j (⊎_elim (λ l. l) (λ b. absurd (lt_irrefl zero_ℚ (subst (λ t. zero_ℚ <ℚ t) (off_support z j h) (lead.lessens j b)))) (le_or_lt zero_ℚ (entry d j)))

  put : put_at (length f.cost) (support z) (pick (support z) m.downs) ≡ m.downs
  put = put_at-pick (length f.cost) (support z) m.downs (differ 0 z) (support_below (length f.cost) z at.width) (m.downs_size ∙ lead.size) off

  back : difference (length f.cost) (support z) (m.ups ++ pick (support z) m.downs) ≡ d
  back =
      ap (λ u. add_each u (map neg_ℚ (put_at (length f.cost) (support z) (drop (length f.cost) (m.ups ++ pick (support z) m.downs))))) (taken_front m.ups (pick (support z) m.downs) (length f.cost) (m.ups_size ∙ lead.size))
      ∙ ap (λ u. add_each m.ups (map neg_ℚ (put_at (length f.cost) (support z) u))) (dropped_front m.ups (pick (support z) m.downs) (length f.cost) (m.ups_size ∙ lead.size))
      ∙ ap (λ u. add_each m.ups (map neg_ℚ u)) put ∙ m.same

  size : length (m.ups ++ pick (support z) m.downs) ≡ length f.cost + length (support z)
  size = length-append m.ups (pick (support z) m.downs) ∙ ap (λ k. k + length (pick (support z) m.downs)) (m.ups_size ∙ lead.size) ∙ ap (λ k. length f.cost + k) (length-pick (support z) m.downs)

  same : rows_dot (map (doubled (support z)) (price_rows f (slope f z))) (m.ups ++ pick (support z) m.downs) ≡ zeros (length f.matrix) ++ one_ℚ ∷ []
  same = rows_dot-doubled (length f.cost) (support z) (price_rows f (slope f z)) (m.ups ++ pick (support z) m.downs) (wide_prices n f z form) (omega (arith, size))
      ∙ ap (rows_dot (price_rows f (slope f z))) back ∙ rows_dot-append f.matrix (map neg_ℚ (slope f z) ∷ []) d
      ∙ ap (λ u. u ++ dot (map neg_ℚ (slope f z)) d ∷ []) lead.equal
      ∙ ap (λ t. zeros (length f.matrix) ++ t ∷ []) (dot-negated (slope f z) d ∙ ap neg_ℚ lead.falls ∙ ring rationals [] (minus (minus (lit 1)) ≐ lit 1) refl)

  nonneg : All (λ x. zero_ℚ ≤ℚ x) (m.ups ++ pick (support z) m.downs)
  nonneg = All-append (λ x. zero_ℚ ≤ℚ x) m.ups (pick (support z) m.downs) m.ups_nonneg (all_pick (support z) m.downs m.downs_nonneg)

  gives : (x : List ℚ) × linear.IsSolution (price_problem f z) x × (direction f z x ≡ d)
  gives = (m.ups ++ pick (support z) m.downs, record { size = size; same = same; nonneg = nonneg }, back)

pub comes_from_a_solution : (n : ℕ) (f : Form) (z d : List ℚ) → IsForm n f → IsSolution f z → LeadsDown f z d
    → (x : List ℚ) × linear.IsSolution (price_problem f z) x × (direction f z x ≡ d)
comes_from_a_solution n f z d form at lead = gives n f z d form at lead (splits d)

-- so where the price problem is refuted, none leads down
pub none_leads_down : (n : ℕ) (f : Form) (z d w : List ℚ) → IsForm n f → IsSolution f z → linear.IsFarkas (price_problem f z) w → LeadsDown f z d → ⊥
none_leads_down n f z d w form at farkas lead = let e = comes_from_a_solution n f z d form at lead in not_both_prices n f z e.0 w form e.1 farkas
