-- The directions of a solution and of a refutation of the small system.
use Rattle.std.proofs.Common.{◌≡◌, ◌≢◌, refl, sym, ◌∙◌, ap, subst, ℕ, zero, suc, List, [], ◌∷◌, ◌++◌, length, take, drop, arith, ⊎_elim, inl, inr, ◌⊎◌}
use Rattle.std.specs.List.{All}
use Rattle.std.proofs.lemmas.List.{take-append-drop}
use Rattle.std.proofs.lemmas.List.Elements.{All-weaker}
use Rattle.rational.proofs.OrderLaws.{lt-le_trans}
use Rattle.algebra.proofs.Polynomial.{minus, ◌⊕◌, ◌⊗◌, ◌≐◌, ◌≼◌, ◌≺◌, lit}
use Rattle.algebra.proofs.Certificate.{prove, given, scaled, square, weight, ◌⊞◌, ◌⊠◌, ◌⇐◌}
use Rattle.algebra.proofs.Solver.{ring}
use Rattle.rational.specs.Rational.{ℚ, zero_ℚ, one_ℚ, ◌+ℚ◌, ◌*ℚ◌, neg_ℚ}
use Rattle.rational.specs.Order.{◌≤ℚ◌, ◌<ℚ◌}
use Rattle.rational.specs.Sums.{entry, half}
use Rattle.rational.specs.Vectors.{dot, add_each, scale, zeros, rows_dot, combine, gradient, quadratic, pick, IsSemidefinite}
use Rattle.rational.proofs.Field.{rationals}
use Rattle.rational.proofs.Order.{ordered_rationals, le_or_lt, le_antisymm, lt_irrefl}
use Rattle.rational.proofs.Bounds.{half-two}
use Rattle.rational.proofs.Vectors.{length-zeros, length-scale, length-add_each, length-rows_dot, dot_comm, dot-zeros_left, dot-zeros_right, dot-add_left, dot-append, dot-scale_left, dot-scale_right, entry-add_each, entry-scale, rows_dot-add, rows_dot-scale, combine-scale}
use Rattle.rational.proofs.Forms.{null_of_form, expansion, combine_is_rows_dot, form_comm}
use Rattle.rational.proofs.Supports.{dot-pick, length-pick, length-put_at, put_at_off}
use Rattle.elimination_law.specs.Answers.{Solution, Refutation}
use Rattle.elimination_law.specs.Meaning.{IsRight, Solves, Refutes}
use Rattle.elimination_law.proofs.Vectors.{length-front}
use Rattle.equational_law.specs.Form.{Form}
use Rattle.equational_law.specs.Solutions.{IsForm}
use Rattle.face_descent_law.specs.Small.{support, small_rows, small_right, small_width, small_answer, IsStationary, HasMultipliers}
use Rattle.face_descent_law.specs.Step.{on_support, moved, IsTurned}
use Rattle.face_descent_law.proofs.Supports.{at_place, same_of_picked, off_support, support_nonzero}
use Rattle.face_descent_law.proofs.Small.{sum_of, length-sum_parts, at_equations, form_is, small_symmetric, small_height}
use Rattle.face_descent_law.proofs.Stationary.{less, below, length-g, right_is, answer_right, keeps, sums, form_falls, length-l, stationary_of, zeros_append}

one_times : (u : List ℚ) → scale one_ℚ u ≡ u
one_times [] = refl
one_times (x ∷ u) = ap (λ t. t ∷ scale one_ℚ u) (ring rationals (x ∷ []) (λ x. lit 1 ⊗ x ≐ x) refl) ∙ ap (λ v. x ∷ v) (one_times u)

pub scale-zeros : (t : ℚ) (m : ℕ) → scale t (zeros m) ≡ zeros m
scale-zeros t zero = refl
scale-zeros t (suc m) = ap (λ x. x ∷ scale t (zeros m)) (ring rationals (t ∷ []) (λ t. t ⊗ lit 0 ≐ lit 0) refl) ∙ ap (λ v. zero_ℚ ∷ v) (scale-zeros t m)

pub half_nonneg : zero_ℚ ≤ℚ half
half_nonneg = prove ordered_rationals (half ∷ []) (λ h. lit 0 ≼ h ⇐ scaled h (h ⊗ lit 2) (lit 1) ⊞ (weight 2 ⊠ square h)) refl half-two

-- d is 0 wherever z is, so its length is that of z's form
pub direction_off : (n : ℕ) (z x : List ℚ) (j : ℕ) → entry z j ≡ zero_ℚ → entry (on_support n z x) j ≡ zero_ℚ
direction_off n z x j e = put_at_off n (support z) (take (length (support z)) x) j
    (All-weaker (λ k. entry z k ≢ zero_ℚ) (λ k. k ≢ j) (λ k d s. d (ap (entry z) s ∙ e)) (support z) (support_nonzero z))

pub length-moved : (n : ℕ) (z d : List ℚ) (s : ℚ) → length z ≡ n → length d ≡ n → length (moved z d s) ≡ n
length-moved n z d s a b = length-add_each z (scale s d) (a ∙ sym (length-scale s d ∙ b)) ∙ a

pub entry-moved : (n : ℕ) (z d : List ℚ) (s : ℚ) (j : ℕ) → length z ≡ n → length d ≡ n → entry (moved z d s) j ≡ entry z j +ℚ s *ℚ entry d j
entry-moved n z d s j a b = entry-add_each z (scale s d) j (a ∙ sym (length-scale s d ∙ b)) ∙ ap (λ t. entry z j +ℚ t) (entry-scale s d j)

-- the value along a direction whose form is the slope down
falls_within_one : (fx fz gd dd s : ℚ) → fx ≡ fz +ℚ s *ℚ gd +ℚ half *ℚ (s *ℚ s) *ℚ dd → dd ≡ neg_ℚ gd → zero_ℚ ≤ℚ dd → zero_ℚ ≤ℚ s → s ≤ℚ one_ℚ → fx ≤ℚ fz
falls_within_one fx fz gd dd s e f p q r =
    prove ordered_rationals (fx ∷ fz ∷ gd ∷ dd ∷ s ∷ half ∷ [])
    (λ fx fz gd dd s h. fx ≼ fz
    ⇐ given (fx ≐ fz ⊕ s ⊗ gd ⊕ h ⊗ (s ⊗ s) ⊗ dd) ⊞ scaled s dd (minus gd) ⊞ scaled (s ⊗ dd) (h ⊗ lit 2) (lit 1)
    ⊞ (given (lit 0 ≼ h) ⊠ given (lit 0 ≼ s) ⊠ given (lit 0 ≼ dd) ⊠ given (s ≼ lit 1)) ⊞ (given (lit 0 ≼ h) ⊠ given (lit 0 ≼ s) ⊠ given (lit 0 ≼ dd)))
    refl e f half-two half_nonneg q p r half_nonneg q p

-- the value along a direction without a form
pub flat_value : (fx fz gd dd s : ℚ) → fx ≡ fz +ℚ s *ℚ gd +ℚ half *ℚ (s *ℚ s) *ℚ dd → dd ≡ zero_ℚ → fx ≡ fz +ℚ s *ℚ gd
flat_value fx fz gd dd s e f =
    prove ordered_rationals (fx ∷ fz ∷ gd ∷ dd ∷ s ∷ half ∷ []) (λ fx fz gd dd s h. fx ≐ fz ⊕ s ⊗ gd ⇐ given (fx ≐ fz ⊕ s ⊗ gd ⊕ h ⊗ (s ⊗ s) ⊗ dd) ⊞ scaled (h ⊗ (s ⊗ s)) dd (lit 0)) refl e f

pub falls_below : (fx fz gd s : ℚ) → fx ≡ fz +ℚ s *ℚ gd → zero_ℚ <ℚ s → gd <ℚ zero_ℚ → fx <ℚ fz
falls_below fx fz gd s e p q =
    prove ordered_rationals (fx ∷ fz ∷ gd ∷ s ∷ []) (λ fx fz gd s. fx ≺ fz ⇐ given (fx ≐ fz ⊕ s ⊗ gd) ⊞ (given (lit 0 ≺ s) ⊠ given (gd ≺ lit 0))) refl e p q

module _ (n : ℕ) (f : Form) (z : List ℚ) (is : IsForm n f) (wide : length z ≡ n) (definite : IsSemidefinite n f.quadratic) where
  abbrev Q : List (List ℚ)
  Q = f.quadratic

  abbrev g : List ℚ
  g = gradient f.quadratic f.cost z

  abbrev value : List ℚ → ℚ
  value y = quadratic f.quadratic f.cost f.constant y

  pub expanded : (d : List ℚ) (s : ℚ) → length d ≡ n → value (moved z d s) ≡ value z +ℚ s *ℚ dot g d +ℚ half *ℚ (s *ℚ s) *ℚ dot d (rows_dot Q d)
  expanded d s h = expansion n Q definite.symmetric f.cost f.constant z s d is.cost (wide ∙ sym h)

  -- ---- along a solution

  module _ (x : List ℚ) (answered : small_answer f z ≡ Solution x) where
    abbrev pub way : List ℚ
    way = on_support n z x

    pub length-way : length way ≡ n
    length-way = length-put_at n (support z) (take (length (support z)) x)

    pub way_solves : Solves (small_width f (support z)) (small_rows f (support z)) (small_right f (support z) g) x
    way_solves = subst (IsRight (small_width f (support z)) (small_rows f (support z)) (small_right f (support z) g)) answered (answer_right n f z is wide)

    pub way_keeps : rows_dot f.matrix way ≡ zeros (length f.matrix)
    way_keeps = keeps n f z is wide x way_solves

    pub way_falls : dot way (rows_dot Q way) ≡ neg_ℚ (dot g way)
    way_falls = form_falls n f z is wide x way_solves

    pub value_within_one : (s : ℚ) → zero_ℚ ≤ℚ s → s ≤ℚ one_ℚ → value (moved z way s) ≤ℚ value z
    value_within_one s p q =
        falls_within_one (value (moved z way s)) (value z) (dot g way) (dot way (rows_dot Q way)) s (expanded way s length-way) way_falls (definite.nonneg way length-way) p q

    abbrev rest : List ℚ
    rest = drop (length (support z)) x

    turned_sum : (gy gz qd lm : ℚ) → gy ≡ gz +ℚ qd → qd +ℚ lm ≡ neg_ℚ one_ℚ *ℚ gz → neg_ℚ one_ℚ *ℚ lm ≡ gy
    turned_sum gy gz qd lm e k =
        prove ordered_rationals (gy ∷ gz ∷ qd ∷ lm ∷ []) (λ gy gz qd lm. minus (lit 1) ⊗ lm ≐ gy ⇐ scaled (minus (lit 1)) gy (gz ⊕ qd) ⊞ scaled (minus (lit 1)) (qd ⊕ lm) (minus (lit 1) ⊗ gz)) refl e k

    one_step : scale one_ℚ way ≡ way
    one_step = one_times way

    gradient_there : (j : ℕ) → entry (gradient Q f.cost (moved z way one_ℚ)) j ≡ entry g j +ℚ entry (rows_dot Q way) j
    gradient_there j =
        ap (λ v. entry (gradient Q f.cost (add_each z v)) j) one_step
        ∙ ap (λ v. entry (add_each v f.cost) j) (rows_dot-add Q z way (wide ∙ sym length-way))
        ∙ entry-add_each (add_each (rows_dot Q z) (rows_dot Q way)) f.cost j (length-add_each (rows_dot Q z) (rows_dot Q way) both ∙ height z ∙ sym is.cost)
        ∙ ap (λ t. t +ℚ entry f.cost j) (entry-add_each (rows_dot Q z) (rows_dot Q way) j both)
        ∙ ring rationals (entry (rows_dot Q z) j ∷ entry (rows_dot Q way) j ∷ entry f.cost j ∷ []) (λ a b c. a ⊕ b ⊕ c ≐ a ⊕ c ⊕ b) refl
        ∙ ap (λ t. t +ℚ entry (rows_dot Q way) j) (sym (entry-add_each (rows_dot Q z) f.cost j (height z ∙ sym is.cost)))
      where
        height : (v : List ℚ) → length (rows_dot Q v) ≡ n
        height v = length-rows_dot Q v ∙ is.pairs_height

        both : length (rows_dot Q z) ≡ length (rows_dot Q way)
        both = height z ∙ sym (height way)

    -- a place of the support there is one of z's
    place_of : (j : ℕ) → entry (moved z way one_ℚ) j ≢ zero_ℚ → ¬ (All (λ k. k ≢ j) (support z))
    place_of j there off =
        let e = off_support z j off in
        there (entry-moved n z way one_ℚ j wide length-way ∙ ap (λ t. t +ℚ one_ℚ *ℚ entry way j) e ∙ ap (λ t. zero_ℚ +ℚ one_ℚ *ℚ t) (direction_off n z x j e)
        ∙ ring rationals [] (lit 0 ⊕ lit 1 ⊗ lit 0 ≐ lit 0) refl)

    pub multipliers_there : HasMultipliers n f (moved z way one_ℚ)
    multipliers_there = record {
      multipliers = less rest;
      size = length-scale (neg_ℚ one_ℚ) rest ∙ length-l n f z is wide x way_solves;
      same = λ j there.
          let a = at_place (λ i. entry (sum_of n f is way rest) i ≡ entry (less g) i) (support z) j
          (same_of_picked (support z) (sum_of n f is way rest) (less g) (sums n f z is wide x way_solves)) (place_of j there) in
          ap (λ v. entry v j) (combine-scale n (neg_ℚ one_ℚ) rest f.matrix is.columns) ∙ entry-scale (neg_ℚ one_ℚ) (combine n rest f.matrix) j
          ∙ turned_sum _ _ _ _ (gradient_there j) (sym (entry-add_each (rows_dot Q way) (combine n rest f.matrix) j (length-sum_parts n f is way rest)) ∙ a ∙ entry-scale (neg_ℚ one_ℚ) g j);
    }

    pub full_stationary : IsStationary f (moved z way one_ℚ)
    full_stationary = stationary_of n f (moved z way one_ℚ) is (length-moved n z way one_ℚ wide length-way) definite multipliers_there

  -- ---- along a refutation

  module _ (w : List ℚ) (v : ℚ) (answered : small_answer f z ≡ Refutation w v) where
    abbrev S : List ℕ
    S = support z

    abbrev K : List (List ℚ)
    K = small_rows f S

    abbrev part : List ℚ
    part = on_support n z w

    abbrev e : List ℚ
    e = take (length S) w

    abbrev l : List ℚ
    l = drop (length S) w

    refutes : Refutes (small_width f S) K (small_right f S g) w v
    refutes = subst (IsRight (small_width f S) K (small_right f S g)) answered (answer_right n f z is wide)

    length-w : length w ≡ small_width f S
    length-w = refutes.size ∙ small_height n f is S

    length-e : length e ≡ length S
    length-e = let a = length-w in length-front (length S) w (omega arith)

    length-zeros_S : length (zeros (length S)) ≡ length S
    length-zeros_S = length-zeros (length S)

    gives : rows_dot K (e ++ l) ≡ zeros (length S) ++ zeros (length f.matrix)
    gives =
        ap (rows_dot K) (take-append-drop (length S) w)
        ∙ sym (combine_is_rows_dot (small_width f S) K (small_symmetric n f is definite.symmetric S (below n f z is wide)) w)
        ∙ refutes.nothing ∙ sym (zeros_append (length S) (length f.matrix))

    length-part : length part ≡ n
    length-part = length-put_at n S e

    part_keeps : rows_dot f.matrix part ≡ zeros (length f.matrix)
    part_keeps = at_equations n f is S (below n f z is wide) e l (zeros (length S)) length-e length-zeros_S gives

    part_flat : rows_dot Q part ≡ zeros n
    part_flat = null_of_form n Q definite part length-part
        (form_is n f is S (below n f z is wide) e l (zeros (length S)) length-e length-zeros_S gives ∙ dot-zeros_left (length S) e)

    number_is : v ≡ neg_ℚ one_ℚ *ℚ dot g part
    number_is =
        sym refutes.number ∙ ap (λ t. dot t (small_right f S g)) (sym (take-append-drop (length S) w)) ∙ ap (dot (e ++ l)) (right_is n f z is wide)
        ∙ dot-append e l (pick S (less g)) (zeros (length f.matrix)) (length-e ∙ sym (length-pick S (less g)))
        ∙ ap (λ t. dot e (pick S (less g)) +ℚ t) (dot-zeros_right l (length f.matrix)) ∙ rationals.add_zero (dot e (pick S (less g)))
        ∙ dot_comm e (pick S (less g)) ∙ dot-pick n S (less g) e (length-scale (neg_ℚ one_ℚ) g ∙ length-g n f z is wide) ∙ dot-scale_left (neg_ℚ one_ℚ) g part

    below_of : (a : ℚ) → a ≤ℚ zero_ℚ → ¬ (a ≡ zero_ℚ) → a <ℚ zero_ℚ
    below_of a h ne = ⊎_elim (λ k. absurd (ne (le_antisymm a zero_ℚ h k))) (λ k. k) (le_or_lt zero_ℚ a)

    -- the two ways that it is turned
    module _ (d : List ℚ) (turned : IsTurned v part d) where
      turns : ((zero_ℚ <ℚ v) × (d ≡ part)) ⊎ ((v <ℚ zero_ℚ) × (d ≡ less part))
      turns = ⊎_elim
          (λ h. inr (below_of v h refutes.nonzero, turned.changed (λ k. lt_irrefl zero_ℚ (lt-le_trans k h))))
          (λ h. inl (h, turned.as_it_is h)) (le_or_lt v zero_ℚ)

      pub length-turned : length d ≡ n
      length-turned = ⊎_elim (λ h. ap length (h.1) ∙ length-part) (λ h. ap length (h.1) ∙ length-scale (neg_ℚ one_ℚ) part ∙ length-part) turns

      scaled_zeros : (m : ℕ) → scale (neg_ℚ one_ℚ) (zeros m) ≡ zeros m
      scaled_zeros m = scale-zeros (neg_ℚ one_ℚ) m

      pub turned_keeps : rows_dot f.matrix d ≡ zeros (length f.matrix)
      turned_keeps = ⊎_elim (λ h. ap (rows_dot f.matrix) (h.1) ∙ part_keeps)
          (λ h. ap (rows_dot f.matrix) (h.1) ∙ rows_dot-scale f.matrix (neg_ℚ one_ℚ) part ∙ ap less part_keeps ∙ scaled_zeros (length f.matrix)) turns

      pub turned_flat : rows_dot Q d ≡ zeros n
      turned_flat = ⊎_elim (λ h. ap (rows_dot Q) (h.1) ∙ part_flat)
          (λ h. ap (rows_dot Q) (h.1) ∙ rows_dot-scale Q (neg_ℚ one_ℚ) part ∙ ap less part_flat ∙ scaled_zeros n) turns

      slope_up : (a b c : ℚ) → b ≡ neg_ℚ one_ℚ *ℚ a → zero_ℚ <ℚ b → c ≡ a → c <ℚ zero_ℚ
      slope_up a b c e h k = prove ordered_rationals (a ∷ b ∷ c ∷ []) (λ a b c. c ≺ lit 0 ⇐ scaled (lit 1) b (minus (lit 1) ⊗ a) ⊞ given (lit 0 ≺ b) ⊞ given (c ≐ a)) refl e h k

      slope_down : (a b c : ℚ) → b ≡ neg_ℚ one_ℚ *ℚ a → b <ℚ zero_ℚ → c ≡ neg_ℚ one_ℚ *ℚ a → c <ℚ zero_ℚ
      slope_down a b c e h k = prove ordered_rationals (a ∷ b ∷ c ∷ []) (λ a b c. c ≺ lit 0 ⇐ scaled (minus (lit 1)) b (minus (lit 1) ⊗ a) ⊞ given (b ≺ lit 0) ⊞ given (c ≐ minus (lit 1) ⊗ a)) refl e h k

      pub turned_slope : dot g d <ℚ zero_ℚ
      turned_slope = ⊎_elim (λ h. slope_up (dot g part) v (dot g d) number_is (h.0) (ap (dot g) (h.1)))
          (λ h. slope_down (dot g part) v (dot g d) number_is (h.0) (ap (dot g) (h.1) ∙ dot-scale_right g (neg_ℚ one_ℚ) part)) turns

      pub turned_off : (j : ℕ) → entry z j ≡ zero_ℚ → entry d j ≡ zero_ℚ
      turned_off j h = ⊎_elim (λ k. ap (λ t. entry t j) (k.1) ∙ direction_off n z w j h)
          (λ k. ap (λ t. entry t j) (k.1) ∙ entry-scale (neg_ℚ one_ℚ) part j ∙ ap (λ t. neg_ℚ one_ℚ *ℚ t) (direction_off n z w j h) ∙ ring rationals [] (minus (lit 1) ⊗ lit 0 ≐ lit 0) refl) turns

      pub turned_value : (s : ℚ) → value (moved z d s) ≡ value z +ℚ s *ℚ dot g d
      turned_value s = flat_value (value (moved z d s)) (value z) (dot g d) (dot d (rows_dot Q d)) s (expanded d s length-turned) (ap (dot d) turned_flat ∙ dot-zeros_right d n)

      pub turned_falls : (s : ℚ) → zero_ℚ <ℚ s → value (moved z d s) <ℚ value z
      turned_falls s h = falls_below (value (moved z d s)) (value z) (dot g d) s (turned_value s) h turned_slope

      -- the costs fall along it as the value does
      pub turned_cost : dot f.cost d ≡ dot g d
      turned_cost = sym (
          dot-add_left (rows_dot Q z) f.cost d (length-rows_dot Q z ∙ is.pairs_height ∙ sym is.cost)
          ∙ ap (λ t. t +ℚ dot f.cost d) (dot_comm (rows_dot Q z) d ∙ form_comm n Q definite.symmetric d z ∙ ap (dot z) turned_flat ∙ dot-zeros_right z n)
          ∙ rationals.add_comm zero_ℚ (dot f.cost d) ∙ rationals.add_zero (dot f.cost d))
