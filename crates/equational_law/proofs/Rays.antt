-- The form's rays are the region's directions with Q d = 0 and c · d = -1.
use Rattle.std.specs.Prelude.{◌≡◌, ℕ, zero, suc, ◌+◌, List, [], ◌∷◌, ◌++◌, length, Option, Some, None, OnSome, IsSome}
use Rattle.std.specs.List.{All}
use Rattle.std.proofs.Common.{arith, sym, subst, ◌∙◌, ap, refl}
use Rattle.std.proofs.lemmas.List.Elements.{All-weaker}
use Rattle.algebra.proofs.Polynomial.{◌⊕◌, ◌⊗◌, ◌≐◌, lit, minus, ◌≺◌}
use Rattle.algebra.proofs.Solver.{ring}
use Rattle.rational.specs.Rational.{ℚ, zero_ℚ, ◌+ℚ◌, ◌*ℚ◌, one_ℚ, neg_ℚ}
use Rattle.rational.specs.Order.{◌≤ℚ◌, ◌<ℚ◌}
use Rattle.rational.specs.Sums.{entry}
use Rattle.rational.specs.Vectors.{dot, zeros, rows_dot}
use Rattle.rational.proofs.Field.{rationals}
use Rattle.rational.proofs.Vectors.{dot_comm, dot-zeros_right, length-zeros, length-rows_dot}
use Rattle.rational.proofs.Forms.{form_comm}
use Rattle.program_law.specs.declared.Row.{Row}
use Rattle.program_law.specs.Region.{Region}
use Rattle.program_law.specs.Program.{Program, IsProgram, sides, bounds}
use Rattle.certificate_law.specs.Ray.{AllKeepSides, AreZero, IsRay}
use Rattle.algebra.proofs.Certificate.{prove, weight, ◌⇐◌}
use Rattle.rational.proofs.Order.{ordered_rationals}
use Rattle.equational_law.specs.Standing.{Standing, Above, Below, Free, standing, shift, parts_at, parts, change, spread_at, spread}
use Rattle.equational_law.specs.Equations.{row_equations, bound_equations, row_slacks}
use Rattle.equational_law.specs.Form.{equations, slacks, width, form_of, padded, direction_of}
use Rattle.equational_law.specs.Solutions.{IsFormRay, IsRegionRay, HasItsBounds}
use Rattle.equational_law.proofs.Adjoint.{spread_zero}
use Rattle.equational_law.proofs.Forms.{products, costing, symmetric_pairs}
use Rattle.equational_law.proofs.Equations.{All-front, All-back, IsFlat, all_flat, flat_all}
use Rattle.equational_law.proofs.Points.{long_rows}
use Rattle.equational_law.proofs.Scaled.{IsScaled, zero_times, scaled_keep, keep_scaled, rows_back, placed_zero, columns_back}
use Rattle.equational_law.proofs.Gaps.{row_gaps, bound_gaps, change-parts_of, less_zero}
use Rattle.equational_law.proofs.Solving.{solution_by, length-cost, length-solution, nonneg_solution, scaled_solution}

-- ---- zeros

first_zero : {x y : ℚ} {u v : List ℚ} → x ∷ u ≡ y ∷ v → x ≡ y
first_zero h = cc

rest_zero : {x y : ℚ} {u v : List ℚ} → x ∷ u ≡ y ∷ v → u ≡ v
rest_zero h = cc

front_zeros : (u w : List ℚ) (n : ℕ) → u ++ w ≡ zeros n → u ≡ zeros (length u)
front_zeros [] w n h = refl
front_zeros (x ∷ u) w zero h = absurd (let bad : x ∷ (u ++ w) ≡ [] = h in cc)
front_zeros (x ∷ u) w (suc n) h = ap (λ y. y ∷ u) (first_zero h) ∙ ap (λ v. zero_ℚ ∷ v) (front_zeros u w n (rest_zero h))

are_zero : (n : ℕ) → AreZero (zeros n)
are_zero zero = tt
are_zero (suc n) = (refl, are_zero n)

zeros_are : (xs : List ℚ) → AreZero xs → xs ≡ zeros (length xs)
zeros_are [] h = refl
zeros_are (x ∷ xs) h = ap (λ y. y ∷ xs) h.0 ∙ ap (λ v. zero_ℚ ∷ v) (zeros_are xs h.1)

zeros_append : (m n : ℕ) → zeros m ++ zeros n ≡ zeros (m + n)
zeros_append zero n = let e : n ≡ zero + n = omega arith in ap zeros e
zeros_append (suc m) n = let e : suc (m + n) ≡ suc m + n = omega arith in ap (λ v. zero_ℚ ∷ v) (zeros_append m n) ∙ ap zeros e

spread-at_zero : (s : Standing) → spread_at s zero_ℚ ≡ zeros (parts_at s)
spread-at_zero (Above l) = refl
spread-at_zero (Below u) = ap (λ x. x ∷ []) (ring rationals [] (minus (lit 0) ≐ lit 0) refl)
spread-at_zero Free = ap (λ x. zero_ℚ ∷ x ∷ []) (ring rationals [] (minus (lit 0) ≐ lit 0) refl)

spread-zeros : (region : Region) (n : ℕ) → spread region (zeros n) ≡ zeros (parts region)
spread-zeros [] n = refl
spread-zeros (b ∷ bs) zero =
    let s = standing b in
    ap (λ u. u ++ spread bs []) (spread-at_zero s) ∙ ap (λ u. zeros (parts_at s) ++ u) (spread-zeros bs zero) ∙ zeros_append (parts_at s) (parts bs)
spread-zeros (b ∷ bs) (suc n) =
    let s = standing b in
    ap (λ u. u ++ spread bs (zeros n)) (spread-at_zero s) ∙ ap (λ u. zeros (parts_at s) ++ u) (spread-zeros bs n) ∙ zeros_append (parts_at s) (parts bs)

-- Q h · d is 0 where Q d is
crossed_zero : (p : Program) (h d : List ℚ) → IsProgram p → (n : ℕ) → rows_dot p.pairs d ≡ zeros n → dot (rows_dot p.pairs h) d ≡ zero_ℚ
crossed_zero p h d is n e =
    dot_comm (rows_dot p.pairs h) d ∙ form_comm (length p.columns) p.pairs (symmetric_pairs p is) d h ∙ ap (dot h) e ∙ dot-zeros_right h n

-- ---- a ray of the form gives a direction

pub ray_back : (p : Program) (region : Region) (d : List ℚ) → IsProgram p → length region ≡ length p.columns → IsFormRay (form_of p region) d → IsRegionRay p region (direction_of region d)
ray_back p region d is e r =
    let h = shift region in
    let t = change region d in
    let f = form_of p region in
    let long : length p.pairs ≡ length region = is.pairs_height ∙ sym e in
    let ours = row_equations region h 0 (sides p) p.entries in
    let others = bound_equations region (row_slacks (sides p)) 0 region in
    let m = row_slacks (sides p) in
    let sum : (row : List ℚ) → zero_ℚ *ℚ dot row h +ℚ dot row t ≡ dot row t =
    λ row. ring rationals (dot row h ∷ dot row t ∷ []) (λ a b. lit 0 ⊗ a ⊕ b ≐ b) refl in
    let flat : All (IsScaled zero_ℚ d) (equations p region) =
    All-weaker (IsFlat d) (IsScaled zero_ℚ d) (λ e h. h ∙ sym (zero_times e.right)) (equations p region) (all_flat (slacks p region) (equations p region) d (length f.matrix) r.equal) in
    let g = rows_dot p.pairs t in
    let none : g ≡ zeros (length region) =
    spread_zero region g (length (spread region g)) (length-rows_dot p.pairs t ∙ long)
    (front_zeros (spread region g) (zeros (slacks p region)) (length f.quadratic) (sym (products p region d long) ∙ r.flat)) in
    record {
      rows = keep_scaled (sides p) (rows_dot p.entries t) (rows_back zero_ℚ region t d 0 (sides p) p.entries (long_rows p is) sum r.not_negative (All-front (IsScaled zero_ℚ d) ours others flat));
      columns = subst (AllKeepSides region) (placed_zero region d) (keep_scaled region _
          (columns_back zero_ℚ region d m 0 region d (λ i. ap (entry t) (omega arith)) r.not_negative r.not_negative (All-back (IsScaled zero_ℚ d) ours others flat)));
      flat = subst AreZero (sym none) (are_zero (length region));
      falls = sym (rationals.add_zero (dot p.costs t)) ∙ ap (λ x. dot p.costs t +ℚ x) (sym (crossed_zero p h t is (length region) none))
          ∙ sym (costing p region d (is.costs_width ∙ sym e) long) ∙ r.falls;
    }

-- ---- a direction gives a ray of the form

keep_length : (ss : List Row) (vs : List ℚ) → AllKeepSides ss vs → length vs ≡ length ss
keep_length [] [] w = refl
keep_length [] (v ∷ vs) w = absurd w
keep_length (s ∷ ss) [] w = absurd w
keep_length (s ∷ ss) (v ∷ vs) w = ap suc (keep_length ss vs w.1)

pub ray_of : Program → Region → List ℚ → List ℚ
ray_of p region d = solution_by zero_ℚ p region d

pub ray_from : (p : Program) (region : Region) (d : List ℚ) → IsProgram p → length region ≡ length p.columns → IsRegionRay p region d
    → IsFormRay (form_of p region) (ray_of p region d) × (direction_of region (ray_of p region d) ≡ d)
unfolding ray_of
ray_from p region d is g r =
    let e = keep_length region d r.columns in
    let z = solution_by zero_ℚ p region d in
    let f = form_of p region in
    let long : length p.pairs ≡ length region = is.pairs_height ∙ sym g in
    let v = scaled_keep (sides p) (rows_dot p.entries d) r.rows in
    let back : change region z ≡ d = change-parts_of zero_ℚ region d (row_gaps zero_ℚ (sides p) (rows_dot p.entries d) (bound_gaps zero_ℚ region d)) e ∙ less_zero region d e in
    let none : rows_dot p.pairs d ≡ zeros (length (rows_dot p.pairs d)) = zeros_are (rows_dot p.pairs d) r.flat in
    let flat : All (IsFlat z) (equations p region) =
    All-weaker (IsScaled zero_ℚ z) (IsFlat z) (λ e h. h ∙ zero_times e.right) (equations p region) (scaled_solution zero_ℚ p region d is e v) in
    let products_zero : rows_dot f.quadratic z ≡ zeros (width p region) =
    products p region z long ∙ ap (λ t. padded (slacks p region) (spread region t)) (ap (rows_dot p.pairs) back ∙ none)
    ∙ ap (padded (slacks p region)) (spread-zeros region (length (rows_dot p.pairs d))) ∙ zeros_append (parts region) (slacks p region) in (
      record {
        width = length-solution zero_ℚ p region d is e ∙ sym (length-cost p region);
        equal = flat_all (slacks p region) (equations p region) z flat;
        flat = products_zero ∙ ap zeros (sym (length-zeros (width p region)) ∙ ap length (sym products_zero) ∙ length-rows_dot f.quadratic z);
        falls = costing p region z (is.costs_width ∙ sym g) long ∙ ap (λ t. dot p.costs t +ℚ dot (rows_dot p.pairs (shift region)) t) back
            ∙ ap (λ x. dot p.costs d +ℚ x) (crossed_zero p (shift region) d is (length (rows_dot p.pairs d)) none) ∙ rationals.add_zero (dot p.costs d) ∙ r.falls;
        not_negative = nonneg_solution zero_ℚ p region d v (scaled_keep region d r.columns);
      },
      back,
    )

-- ---- fewer bounds keep a direction

not_some : (o : Option ℚ) → o ≡ None → IsSome o → ⊥
not_some None e h = cc
not_some (Some l) e h = cc

still : (o q : Option ℚ) (A : Type 0) → (IsSome o → IsSome q) → OnSome q A → OnSome o A
still None q A f h = tt
still (Some l) None A f h = absurd (not_some None refl (f refl))
still (Some l) (Some m) A f h = h

columns_still : (more bs : Region) (d : List ℚ) → HasItsBounds more bs → AllKeepSides bs d → AllKeepSides more d
columns_still [] [] d h w = w
columns_still [] (b ∷ bs) d h w = absurd h
columns_still (a ∷ more) [] d h w = absurd h
columns_still (a ∷ more) (b ∷ bs) [] h w = w
columns_still (a ∷ more) (b ∷ bs) (x ∷ d) h w =
    (record { low = still a.low b.low (zero_ℚ ≤ℚ x) h.0 w.0.low; high = still a.high b.high (x ≤ℚ zero_ℚ) h.1 w.0.high }, columns_still more bs d h.2 w.1)

pub fewer_bounds : (p : Program) (region other : Region) (d : List ℚ) → HasItsBounds region other → IsRegionRay p other d → IsRegionRay p region d
fewer_bounds p region other d h r = record { rows = r.rows; columns = columns_still region other d h r.columns; flat = r.flat; falls = r.falls }

minus_one : neg_ℚ one_ℚ <ℚ zero_ℚ
minus_one = prove ordered_rationals [] (minus (lit 1) ≺ lit 0 ⇐ weight 1) refl

pub is_ray : (p : Program) (region : Region) (d : List ℚ) → HasItsBounds (bounds p) region → IsRegionRay p region d → IsRay p d
is_ray p region d h r =
    let s = fewer_bounds p (bounds p) region d h r in
    record { rows = s.rows; columns = s.columns; flat = s.flat; falls = subst (λ x. x <ℚ zero_ℚ) (sym s.falls) minus_one }
