-- The objective of the form at z is the program's at h + T z.
use Rattle.std.specs.Prelude.{◌≡◌, ℕ, zero, suc, pos, List, [], ◌∷◌, ◌++◌, map, length, drop, replicate}
use Rattle.std.proofs.Common.{arith, sym, ◌∙◌, ap, refl}
use Rattle.algebra.proofs.Polynomial.{◌⊕◌, ◌⊗◌, ◌≐◌, lit, minus}
use Rattle.algebra.proofs.Solver.{ring}
use Rattle.algebra.proofs.Certificate.{prove, scaled, ◌⇐◌}
use Rattle.rational.specs.Rational.{ℚ, whole, fraction, zero_ℚ, neg_ℚ, ◌+ℚ◌, ◌*ℚ◌}
use Rattle.rational.specs.Sums.{half, entry}
use Rattle.rational.specs.Vectors.{dot, add_each, zeros, rows_dot, quadratic, row_at, IsSymmetric}
use Rattle.rational.proofs.Field.{rationals}
use Rattle.rational.proofs.Order.{ordered_rationals}
use Rattle.rational.proofs.Bounds.{half-two}
use Rattle.rational.proofs.Vectors.{dot_comm, dot-zeros_left, dot-add_left, dot-add_right, rows_dot-append, rows_dot-add, length-rows_dot}
use Rattle.rational.proofs.Forms.{form_comm}
use Rattle.program_law.specs.Region.{Region}
use Rattle.program_law.specs.Program.{Program, IsProgram}
use Rattle.program_law.specs.Columns.{value}
use Rattle.equational_law.specs.Standing.{Standing, Above, Below, Free, standing, shift, change, spread_at, spread, spread_rows_at, spread_rows}
use Rattle.equational_law.specs.Form.{form_of, slacks, width, padded, point_of}
use Rattle.equational_law.proofs.Adjoint.{dot-append_left, adjoint, length-change, length-shift}

-- ---- M z, for the parts of the quadratic matrix

pub dot-map_neg : (u v : List ℚ) → dot (map neg_ℚ u) v ≡ neg_ℚ (dot u v)
dot-map_neg [] v = ring rationals [] (lit 0 ≐ minus (lit 0)) refl
dot-map_neg (x ∷ u) [] = ring rationals [] (lit 0 ≐ minus (lit 0)) refl
dot-map_neg (x ∷ u) (y ∷ v) =
    ap (λ s. neg_ℚ x *ℚ y +ℚ s) (dot-map_neg u v) ∙ ring rationals (x ∷ y ∷ dot u v ∷ []) (λ x y s. minus x ⊗ y ⊕ minus s ≐ minus (x ⊗ y ⊕ s)) refl

pub dot-padded : (n : ℕ) (u z : List ℚ) → dot (padded n u) z ≡ dot u z
dot-padded n u z = dot-append_left u (zeros n) z ∙ ap (λ s. dot u z +ℚ s) (dot-zeros_left n (drop (length u) z)) ∙ rationals.add_zero (dot u z)

rows_dot-padded : (n : ℕ) (rows : List (List ℚ)) (z : List ℚ) → rows_dot (map (padded n) rows) z ≡ rows_dot rows z
rows_dot-padded n [] z = refl
rows_dot-padded n (r ∷ rows) z = ap (λ x. x ∷ rows_dot (map (padded n) rows) z) (dot-padded n r z) ∙ ap (λ xs. dot r z ∷ xs) (rows_dot-padded n rows z)

rows_dot-spread : (region : Region) (rows : List (List ℚ)) (z : List ℚ) → rows_dot (map (spread region) rows) z ≡ rows_dot rows (change region z)
rows_dot-spread region [] z = refl
rows_dot-spread region (r ∷ rows) z =
    ap (λ x. x ∷ rows_dot (map (spread region) rows) z) (adjoint region r z) ∙ ap (λ xs. dot r (change region z) ∷ xs) (rows_dot-spread region rows z)

rows_dot-spread_rows_at : (s : Standing) (row z : List ℚ) → rows_dot (spread_rows_at s row) z ≡ spread_at s (dot row z)
rows_dot-spread_rows_at (Above l) row z = refl
rows_dot-spread_rows_at (Below u) row z = ap (λ x. x ∷ []) (dot-map_neg row z)
rows_dot-spread_rows_at Free row z = ap (λ x. dot row z ∷ x ∷ []) (dot-map_neg row z)

rows_dot-spread_rows : (region : Region) (rows : List (List ℚ)) (z : List ℚ) → length rows ≡ length region → rows_dot (spread_rows region rows) z ≡ spread region (rows_dot rows z)
rows_dot-spread_rows [] [] z h = refl
rows_dot-spread_rows [] (r ∷ rows) z h = absurd (omega arith)
rows_dot-spread_rows (b ∷ bs) [] z h = absurd (omega arith)
rows_dot-spread_rows (b ∷ bs) (r ∷ rows) z h =
    let s = standing b in
    rows_dot-append (spread_rows_at s r) (spread_rows bs rows) z
    ∙ ap (λ u. u ++ rows_dot (spread_rows bs rows) z) (rows_dot-spread_rows_at s r z)
    ∙ ap (λ u. spread_at s (dot r z) ++ u) (rows_dot-spread_rows bs rows z (omega arith))

rows_dot-replicate : (k n : ℕ) (z : List ℚ) → rows_dot (replicate k (zeros n)) z ≡ zeros k
rows_dot-replicate zero n z = refl
rows_dot-replicate (suc k) n z = ap (λ x. x ∷ rows_dot (replicate k (zeros n)) z) (dot-zeros_left n z) ∙ ap (λ xs. zero_ℚ ∷ xs) (rows_dot-replicate k n z)

length-map : {A B : Type 0} (f : A → B) (xs : List A) → length (map f xs) ≡ length xs
length-map f [] = refl
length-map f (x ∷ xs) = ap suc (length-map f xs)

-- Q' z: Q T z spread, and 0 on the slacks
pub products : (p : Program) (region : Region) (z : List ℚ) → length p.pairs ≡ length region
    → rows_dot (form_of p region).quadratic z ≡ padded (slacks p region) (spread region (rows_dot p.pairs (change region z)))
products p region z h =
    let rows = map (spread region) p.pairs in
    let n = slacks p region in
    rows_dot-append (map (padded n) (spread_rows region rows)) (replicate n (zeros (width p region))) z
    ∙ ap (λ u. u ++ rows_dot (replicate n (zeros (width p region))) z)
    (rows_dot-padded n (spread_rows region rows) z ∙ rows_dot-spread_rows region rows z (length-map (spread region) p.pairs ∙ h)
    ∙ ap (spread region) (rows_dot-spread region p.pairs z))
    ∙ ap (λ u. spread region (rows_dot p.pairs (change region z)) ++ u) (rows_dot-replicate n (width p region) z)

-- w Q' z is T w Q T z
pub pairing : (p : Program) (region : Region) (w z : List ℚ) → length p.pairs ≡ length region
    → dot w (rows_dot (form_of p region).quadratic z) ≡ dot (change region w) (rows_dot p.pairs (change region z))
pairing p region w z h =
    let g = rows_dot p.pairs (change region z) in
    ap (dot w) (products p region z h) ∙ dot_comm w (padded (slacks p region) (spread region g)) ∙ dot-padded (slacks p region) (spread region g) w
    ∙ adjoint region g w ∙ dot_comm g (change region w)

pub costing : (p : Program) (region : Region) (z : List ℚ) → length p.costs ≡ length region → length p.pairs ≡ length region
    → dot (form_of p region).cost z ≡ dot p.costs (change region z) +ℚ dot (rows_dot p.pairs (shift region)) (change region z)
costing p region z h k =
    let g = rows_dot p.pairs (shift region) in
    dot-padded (slacks p region) (spread region (add_each p.costs g)) z ∙ adjoint region (add_each p.costs g) z
    ∙ dot-add_left p.costs g (change region z) (h ∙ sym k ∙ sym (length-rows_dot p.pairs (shift region)))

-- ---- the value

pub symmetric_pairs : (p : Program) → IsProgram p → IsSymmetric (length p.columns) p.pairs
symmetric_pairs p is = record { rows = is.pairs_height; columns = is.pairs_width; same = λ i j _ _. is.symmetric i j }

half_is : half ≡ fraction (pos 1) 2
unfolding half
half_is = refl

-- in numbers: a is h Q h, b is h Q d, e is d Q d
completed : (s a b e ch cd c0 : ℚ) → s *ℚ whole (pos 2) ≡ whole (pos 1) → s *ℚ e +ℚ (cd +ℚ b) +ℚ (c0 +ℚ ch +ℚ s *ℚ a) ≡ s *ℚ ((a +ℚ b) +ℚ (b +ℚ e)) +ℚ (ch +ℚ cd) +ℚ c0
completed s a b e ch cd c0 h =
    prove ordered_rationals (s ∷ a ∷ b ∷ e ∷ ch ∷ cd ∷ c0 ∷ [])
    (λ s a b e ch cd c0. s ⊗ e ⊕ (cd ⊕ b) ⊕ (c0 ⊕ ch ⊕ s ⊗ a) ≐ s ⊗ ((a ⊕ b) ⊕ (b ⊕ e)) ⊕ (ch ⊕ cd) ⊕ c0 ⇐ scaled (minus b) (s ⊗ lit 2) (lit 1)) refl h

-- the value at h + d
value_at : (p : Program) (n : ℕ) (h d : List ℚ) → IsSymmetric n p.pairs → length h ≡ length d
    → half *ℚ dot d (rows_dot p.pairs d) +ℚ (dot p.costs d +ℚ dot (rows_dot p.pairs h) d)
    +ℚ (p.constant +ℚ dot p.costs h +ℚ half *ℚ dot h (rows_dot p.pairs h)) ≡ value p (add_each h d)
value_at p n h d is e =
    let q = p.pairs in
    let qh = rows_dot q h in
    let qd = rows_dot q d in
    let x = add_each h d in
    let form : dot (rows_dot q x) x ≡ (dot h qh +ℚ dot qh d) +ℚ (dot qh d +ℚ dot d qd) =
    ap (λ u. dot u x) (rows_dot-add q h d e) ∙ dot-add_left qh qd x (length-rows_dot q h ∙ sym (length-rows_dot q d))
    ∙ ap (λ s. s +ℚ dot qd x) (dot-add_right qh h d e) ∙ ap (λ s. (dot qh h +ℚ dot qh d) +ℚ s) (dot-add_right qd h d e)
    ∙ ap (λ s. (s +ℚ dot qh d) +ℚ (dot qd h +ℚ dot qd d)) (dot_comm qh h)
    ∙ ap (λ s. (dot h qh +ℚ dot qh d) +ℚ (s +ℚ dot qd d)) (dot_comm qd h ∙ form_comm n q is h d ∙ dot_comm d qh)
    ∙ ap (λ s. (dot h qh +ℚ dot qh d) +ℚ (dot qh d +ℚ s)) (dot_comm qd d) in
    completed half (dot h qh) (dot qh d) (dot d qd) (dot p.costs h) (dot p.costs d) p.constant half-two
    ∙ ap (λ s. half *ℚ s +ℚ (dot p.costs h +ℚ dot p.costs d) +ℚ p.constant) (sym form)
    ∙ ap (λ s. half *ℚ dot (rows_dot q x) x +ℚ s +ℚ p.constant) (sym (dot-add_right p.costs h d e))
    ∙ ap (λ s. s *ℚ dot (rows_dot q x) x +ℚ dot p.costs x +ℚ p.constant) half_is

pub value_back : (p : Program) (region : Region) (z : List ℚ) → IsProgram p → length region ≡ length p.columns
    → quadratic (form_of p region).quadratic (form_of p region).cost (form_of p region).constant z ≡ value p (point_of region z)
value_back p region z is e =
    let d = change region z in
    let f = form_of p region in
    ap (λ s. half *ℚ s +ℚ dot f.cost z +ℚ f.constant) (pairing p region z z (is.pairs_height ∙ sym e))
    ∙ ap (λ s. half *ℚ dot d (rows_dot p.pairs d) +ℚ s +ℚ f.constant) (costing p region z (is.costs_width ∙ sym e) (is.pairs_height ∙ sym e))
    ∙ value_at p (length p.columns) (shift region) d (symmetric_pairs p is) (length-shift region ∙ sym (length-change region z))
