-- The answer of a symmetric matrix is right: squares sum to it, and a vector has a negative form.
use Rattle.std.specs.Prelude.{◌≡◌, ℕ, zero, suc, ◌<◌, pos, ◌*ℤ◌, List, [], ◌∷◌, length, map, slice_set, Option, Some, None, Bool, true, false}
use Rattle.std.specs.declared.cmp.Ordering.{Ordering}
use Rattle.std.specs.declared.cmp.Ordering.TheVariants.{Less, Equal, Greater}
use Rattle.std.proofs.Common.{refl, sym, ◌∙◌, ap, subst, arith, ⊎_elim}
use Rattle.std.specs.List.{AllByRecursion}
use Rattle.std.proofs.lemmas.Cmp.{int_ranked}
use Rattle.std.proofs.lemmas.List.Elements.{All-from_recursion}
use Rattle.algebra.proofs.Polynomial.{minus, ◌⊕◌, ◌⊝◌, ◌⊗◌, ◌≐◌, ◌≺◌, ◌≼◌, lit}
use Rattle.algebra.proofs.Solver.{ring}
use Rattle.algebra.proofs.Certificate.{prove, given, scaled, square, weight, ◌⊞◌, ◌⊠◌, ◌⇐◌}
use Rattle.rational.specs.Rational.{ℚ, zero_ℚ, one_ℚ, neg_ℚ, reciprocal, ◌+ℚ◌, ◌-ℚ◌, ◌*ℚ◌, ◌/ℚ◌, same_cross}
use Rattle.rational.specs.Order.{rational_cmp, ◌<ℚ◌, ◌≤ℚ◌}
use Rattle.rational.specs.Vectors.{zeros, row_at, dot, form}
use Rattle.rational.proofs.Field.{rationals, mul-reciprocal}
use Rattle.rational.proofs.Order.{ordered_rationals, le_or_lt, le_antisymm, square_nonneg, mul_positive}
use Rattle.rational.proofs.OrderLaws.{ne_of_lt, not-le_of_lt, reciprocal_positive}
use Rattle.rational.proofs.Division.{mul-ne-zero}
use Rattle.rational.proofs.Vectors.{length-zeros, dot-zeros_right}
use Rattle.program_law.specs.declared.Square.{Square}
use Rattle.rational.specs.Tests.{is_positive}
use Rattle.rational.specs.Sums.{entry}
use Rattle.program_law.proofs.Numbers.{positive_above, above_positive}
use Rattle.program_law.specs.Squares.{squares_sum, ArePositive}
use Rattle.program_law.proofs.Squared.{squares_semidefinite}
use Rattle.elimination_law.specs.Elimination.{divided}
use Rattle.convexity.specs.declared.Curvature.{Curvature}
use Rattle.convexity.specs.declared.Curvature.TheVariants.{Squares, Negative}
use Rattle.symmetric_half.specs.Half.{upper_half, IsHalf, half_at, IsSymmetric}
use Rattle.convexity.specs.Meaning.{HasWidth, IsCurvatureOf}
use Rattle.convexity.specs.Reduction.{first_place, tilt, tilted, less_products, with_zero, after_zero, after_square, flat, by_sign, curvature_from, curvature_of}
use Rattle.symmetric_half.proofs.Halves.{is_half, half-at}
use Rattle.convexity.proofs.Entries.{at-divided, length-divided, is_half_less, less_at, no_place, place_found}
use Rattle.convexity.proofs.Forms.{half_form, form_is_half, bordered, half_form_zeros, dot_one, half_form_one, dot_times, half_form_less}

-- what the answer of the upper half of a matrix of n places says
abbrev pub IsRight : ℕ → List (List ℚ) → Curvature → Type 0
IsRight n rows (Squares ss) = ArePositive ss × ((j k : ℕ) → half_at rows j k ≡ squares_sum ss j k) × AllByRecursion (λ s. length s.coef ≡ n) ss
IsRight n rows (Negative z) = (length z ≡ n) × (half_form rows z <ℚ zero_ℚ)

-- ---- squares with a place before them

sum_before : (ss : List Square) (k : ℕ) → squares_sum (map with_zero ss) zero k ≡ zero_ℚ
sum_before [] k = refl
sum_before (s ∷ ss) k =
    ap (λ (t : ℚ). s.weight *ℚ zero_ℚ *ℚ entry (zero_ℚ ∷ s.coef) k +ℚ t) (sum_before ss k)
    ∙ ring rationals (s.weight ∷ entry (zero_ℚ ∷ s.coef) k ∷ []) (λ w a. w ⊗ lit 0 ⊗ a ⊕ lit 0 ≐ lit 0) refl

sum_beside : (ss : List Square) (j : ℕ) → squares_sum (map with_zero ss) j zero ≡ zero_ℚ
sum_beside [] j = refl
sum_beside (s ∷ ss) j =
    ap (λ (t : ℚ). s.weight *ℚ entry (zero_ℚ ∷ s.coef) j *ℚ zero_ℚ +ℚ t) (sum_beside ss j)
    ∙ ring rationals (s.weight ∷ entry (zero_ℚ ∷ s.coef) j ∷ []) (λ w a. w ⊗ a ⊗ lit 0 ⊕ lit 0 ≐ lit 0) refl

sum_later : (ss : List Square) (j k : ℕ) → squares_sum (map with_zero ss) (suc j) (suc k) ≡ squares_sum ss j k
sum_later [] j k = refl
sum_later (s ∷ ss) j k = ap (λ (t : ℚ). s.weight *ℚ entry s.coef j *ℚ entry s.coef k +ℚ t) (sum_later ss j k)

still_positive : (ss : List Square) → ArePositive ss → ArePositive (map with_zero ss)
still_positive [] h = tt
still_positive (s ∷ ss) h = (h.0, still_positive ss h.1)

longer : (n : ℕ) (ss : List Square) → AllByRecursion (λ s. length s.coef ≡ n) ss → AllByRecursion (λ s. length s.coef ≡ suc n) (map with_zero ss)
longer n [] h = h
longer n (s ∷ ss) h = (ap suc h.0, longer n ss h.1)

-- ---- carried back over a place

right_after_zero : (n : ℕ) (d : ℚ) (r : List ℚ) (rows : List (List ℚ)) (c : Curvature) → ((k : ℕ) → entry (d ∷ r) k ≡ zero_ℚ)
    → IsRight n rows c → IsRight (suc n) ((d ∷ r) ∷ rows) (after_zero c)
right_after_zero n d r rows (Squares ss) e h = (still_positive ss h.0, entries, longer n ss h.2)
  where
    entries : (j k : ℕ) → half_at ((d ∷ r) ∷ rows) j k ≡ squares_sum (map with_zero ss) j k
    entries zero k = e k ∙ sym (sum_before ss k)
    entries (suc j) zero = e (suc j) ∙ sym (sum_beside ss (suc j))
    entries (suc j) (suc k) = h.1 j k ∙ sym (sum_later ss j k)
right_after_zero n d r rows (Negative z) e h = (
  ap suc h.0,
  subst (λ (t : ℚ). t <ℚ zero_ℚ)
      (sym (bordered d r rows zero_ℚ z
      ∙ ring rationals (d ∷ dot r z ∷ half_form rows z ∷ []) (λ d a f. (d ⊗ lit 0 ⊕ a) ⊗ lit 0 ⊕ (lit 0 ⊗ a ⊕ f) ≐ f) refl))
      h.1,
)

right_after_square : (n : ℕ) (d : ℚ) (r : List ℚ) (rows : List (List ℚ)) (c : Curvature) → zero_ℚ <ℚ d → length r ≡ n → IsHalf n rows
    → IsRight n (less_products r (divided d r) rows) c → IsRight (suc n) ((d ∷ r) ∷ rows) (after_square d (divided d r) c)
right_after_square n d r rows (Squares ss) above l s h = ((above, still_positive ss h.0), entries, (ap suc (length-divided d r ∙ l), longer n ss h.2))
  where
    row : (k : ℕ) → entry r k ≡ d *ℚ entry (divided d r) k
    row k = at-divided d r k (ne_of_lt above)

    entries : (j k : ℕ) → half_at ((d ∷ r) ∷ rows) j k ≡ squares_sum (record { weight = d; coef = one_ℚ ∷ divided d r } ∷ map with_zero ss) j k
    entries zero zero =
        ring rationals (d ∷ []) (λ d. d ≐ d ⊗ lit 1 ⊗ lit 1 ⊕ lit 0) refl ∙ ap (λ (t : ℚ). d *ℚ one_ℚ *ℚ one_ℚ +ℚ t) (sym (sum_before ss zero))
    entries zero (suc k) =
        row k ∙ ring rationals (d ∷ entry (divided d r) k ∷ []) (λ d y. d ⊗ y ≐ d ⊗ lit 1 ⊗ y ⊕ lit 0) refl
        ∙ ap (λ (t : ℚ). d *ℚ one_ℚ *ℚ entry (divided d r) k +ℚ t) (sym (sum_before ss (suc k)))
    entries (suc j) zero =
        row j ∙ ring rationals (d ∷ entry (divided d r) j ∷ []) (λ d y. d ⊗ y ≐ d ⊗ y ⊗ lit 1 ⊕ lit 0) refl
        ∙ ap (λ (t : ℚ). d *ℚ entry (divided d r) j *ℚ one_ℚ +ℚ t) (sym (sum_beside ss (suc j)))
    entries (suc j) (suc k) =
        let a = half_at rows j k in let y = entry (divided d r) j in let z = entry (divided d r) k in
        let less : half_at (less_products r (divided d r) rows) j k ≡ a -ℚ (d *ℚ y) *ℚ z = less_at n d r (divided d r) rows j k l (length-divided d r ∙ l) s row in
        ring rationals (a ∷ d ∷ y ∷ z ∷ []) (λ a d y z. a ≐ d ⊗ y ⊗ z ⊕ (a ⊝ (d ⊗ y) ⊗ z)) refl
        ∙ ap (λ (t : ℚ). d *ℚ y *ℚ z +ℚ t) (sym less ∙ h.1 j k ∙ sym (sum_later ss j k))
right_after_square n d r rows (Negative z) above l s h =
    let b = dot (divided d r) z in
    let row : (k : ℕ) → entry r k ≡ d *ℚ entry (divided d r) k = λ k. at-divided d r k (ne_of_lt above) in
    let same : half_form ((d ∷ r) ∷ rows) (neg_ℚ b ∷ z) ≡ half_form (less_products r (divided d r) rows) z =
    bordered d r rows (neg_ℚ b) z
    ∙ ap (λ (t : ℚ). (d *ℚ neg_ℚ b +ℚ t) *ℚ neg_ℚ b +ℚ (neg_ℚ b *ℚ t +ℚ half_form rows z)) (dot_times d r (divided d r) z row)
    ∙ ring rationals (d ∷ b ∷ half_form rows z ∷ []) (λ d b f. (d ⊗ minus b ⊕ d ⊗ b) ⊗ minus b ⊕ (minus b ⊗ (d ⊗ b) ⊕ f) ≐ f ⊝ (d ⊗ b) ⊗ b) refl
    ∙ sym (half_form_less n d r (divided d r) rows z l (length-divided d r ∙ l) s row) in
    (ap suc h.0, subst (λ (t : ℚ). t <ℚ zero_ℚ) (sym same) h.1)

-- ---- vectors that are found

right_below : (n : ℕ) (d : ℚ) (r : List ℚ) (rows : List (List ℚ)) → d <ℚ zero_ℚ → IsRight (suc n) ((d ∷ r) ∷ rows) (Negative (one_ℚ ∷ zeros n))
right_below n d r rows below =
    let same : half_form ((d ∷ r) ∷ rows) (one_ℚ ∷ zeros n) ≡ d =
    bordered d r rows one_ℚ (zeros n)
    ∙ ap (λ (t : ℚ). (d *ℚ one_ℚ +ℚ t) *ℚ one_ℚ +ℚ (one_ℚ *ℚ t +ℚ half_form rows (zeros n))) (dot-zeros_right r n)
    ∙ ap (λ (t : ℚ). (d *ℚ one_ℚ +ℚ zero_ℚ) *ℚ one_ℚ +ℚ (one_ℚ *ℚ zero_ℚ +ℚ t)) (half_form_zeros rows n)
    ∙ ring rationals (d ∷ []) (λ d. (d ⊗ lit 1 ⊕ lit 0) ⊗ lit 1 ⊕ (lit 1 ⊗ lit 0 ⊕ lit 0) ≐ d) refl in
    (ap suc (length-zeros n), subst (λ (t : ℚ). t <ℚ zero_ℚ) (sym same) below)

square_positive : (b : ℚ) → ¬ (b ≡ zero_ℚ) → zero_ℚ <ℚ (b *ℚ b)
square_positive b ne =
    ⊎_elim (λ le. absurd (mul-ne-zero b b ne ne (le_antisymm (b *ℚ b) zero_ℚ le (square_nonneg b)))) (λ lt. lt) (le_or_lt (b *ℚ b) zero_ℚ)

-- the form at 1 and t
abbrev tilted_form : ℚ → ℚ → ℚ → ℚ
tilted_form b c t = (b *ℚ t +ℚ b *ℚ t) +ℚ (c *ℚ t) *ℚ t

tilt_above : (b c : ℚ) → ¬ (b ≡ zero_ℚ) → zero_ℚ <ℚ c → tilted_form b c (neg_ℚ (b /ℚ c)) <ℚ zero_ℚ
tilt_above b c ne above =
    prove ordered_rationals (b ∷ c ∷ reciprocal c ∷ [])
    (λ b c i. (b ⊗ minus (b ⊗ i) ⊕ b ⊗ minus (b ⊗ i)) ⊕ (c ⊗ minus (b ⊗ i)) ⊗ minus (b ⊗ i) ≺ lit 0
    ⇐ scaled (b ⊗ b ⊗ i) (c ⊗ i) (lit 1) ⊞ given (lit 0 ≺ (b ⊗ b) ⊗ i)) refl
    (mul-reciprocal c (ne_of_lt above)) (mul_positive (b *ℚ b) (reciprocal c) (square_positive b ne) (reciprocal_positive above))

tilt_below : (b c : ℚ) → ¬ (b ≡ zero_ℚ) → c ≤ℚ zero_ℚ → tilted_form b c (neg_ℚ (one_ℚ /ℚ b)) <ℚ zero_ℚ
tilt_below b c ne below =
    prove ordered_rationals (b ∷ c ∷ reciprocal b ∷ [])
    (λ b c i. (b ⊗ minus (lit 1 ⊗ i) ⊕ b ⊗ minus (lit 1 ⊗ i)) ⊕ (c ⊗ minus (lit 1 ⊗ i)) ⊗ minus (lit 1 ⊗ i) ≺ lit 0
    ⇐ scaled (lit 2) (lit 1) (b ⊗ i) ⊞ (weight 2 ⊞ (square i ⊠ given (c ≼ lit 0)))) refl
    (sym (mul-reciprocal b ne)) below

tilt_falls : (b c : ℚ) → ¬ (b ≡ zero_ℚ) → tilted_form b c (tilt b c) <ℚ zero_ℚ
tilt_falls b c ne = by_test (is_positive c) refl
  where
    not_above : is_positive c ≡ false → c ≤ℚ zero_ℚ
    not_above e = ⊎_elim (λ le. le) (λ lt. absurd (let bad : true ≡ false = sym (above_positive c lt) ∙ e in cc)) (le_or_lt c zero_ℚ)

    by_test : (t : Bool) → is_positive c ≡ t → tilted_form b c (tilt b c) <ℚ zero_ℚ
    by_test true e = rw e (tilt_above b c ne (positive_above c e))
    by_test false e = rw e (tilt_below b c ne (not_above e))

right_tilted : (n : ℕ) (d : ℚ) (r : List ℚ) (rows : List (List ℚ)) (k : ℕ) → d ≡ zero_ℚ → length r ≡ n → first_place r ≡ Some k
    → IsRight (suc n) ((d ∷ r) ∷ rows) (Negative (tilted n k (tilt (entry r k) (entry (row_at rows k) 0))))
right_tilted n d r rows k zero_d l e =
    let b = entry r k in let c = entry (row_at rows k) 0 in let t = tilt b c in
    let found = place_found r k e in
    let within : k < n = omega (arith, found.0) in
    let u = slice_set (zeros n) k t in
    let same : half_form ((d ∷ r) ∷ rows) (one_ℚ ∷ u) ≡ tilted_form b c t =
    bordered d r rows one_ℚ u
    ∙ ap (λ (s : ℚ). (d *ℚ one_ℚ +ℚ s) *ℚ one_ℚ +ℚ (one_ℚ *ℚ s +ℚ half_form rows u)) (dot_one r n k t within)
    ∙ ap (λ (s : ℚ). (d *ℚ one_ℚ +ℚ b *ℚ t) *ℚ one_ℚ +ℚ (one_ℚ *ℚ (b *ℚ t) +ℚ s)) (half_form_one rows n k t within)
    ∙ ap (λ (s : ℚ). (s *ℚ one_ℚ +ℚ b *ℚ t) *ℚ one_ℚ +ℚ (one_ℚ *ℚ (b *ℚ t) +ℚ (c *ℚ t) *ℚ t)) zero_d
    ∙ ring rationals (b ∷ c ∷ t ∷ []) (λ b c t. (lit 0 ⊗ lit 1 ⊕ b ⊗ t) ⊗ lit 1 ⊕ (lit 1 ⊗ (b ⊗ t) ⊕ (c ⊗ t) ⊗ t) ≐ (b ⊗ t ⊕ b ⊗ t) ⊕ (c ⊗ t) ⊗ t) refl in
    (ap suc (length-set_zeros n k t), subst (λ (s : ℚ). s <ℚ zero_ℚ) (sym same) (tilt_falls b c found.1))
  where
    length-set_zeros : (n k : ℕ) (t : ℚ) → length (slice_set (zeros n) k t) ≡ n
    length-set_zeros zero k t = refl
    length-set_zeros (suc n) zero t = ap suc (length-zeros n)
    length-set_zeros (suc n) (suc k) t = ap suc (length-set_zeros n k t)

-- ---- all places

right_flat : (n : ℕ) (d : ℚ) (r : List ℚ) (rows : List (List ℚ)) (rest : List (List ℚ) → Curvature) (o : Option ℕ) → d ≡ zero_ℚ → length r ≡ n
    → first_place r ≡ o → IsRight n rows (rest rows) → IsRight (suc n) ((d ∷ r) ∷ rows) (flat n r rows o rest)
right_flat n d r rows rest None zero_d l e h = right_after_zero n d r rows (rest rows) entries h
  where
    entries : (k : ℕ) → entry (d ∷ r) k ≡ zero_ℚ
    entries zero = zero_d
    entries (suc k) = no_place r k e
right_flat n d r rows rest (Some k) zero_d l e h = right_tilted n d r rows k zero_d l e

right_by_sign : (n : ℕ) (d : ℚ) (r : List ℚ) (rows : List (List ℚ)) (rest : List (List ℚ) → Curvature) (o : Ordering) → rational_cmp d zero_ℚ ≡ o
    → length r ≡ n → IsHalf n rows → ((left : List (List ℚ)) → IsHalf n left → IsRight n left (rest left))
    → IsRight (suc n) ((d ∷ r) ∷ rows) (by_sign o n d r rows rest)
right_by_sign n d r rows rest Less e l s h =
    right_below n d r rows (record { lt = int_ranked (d.num *ℤ pos zero_ℚ.den) (zero_ℚ.num *ℤ pos d.den) Less (sym e) })
right_by_sign n d r rows rest Equal e l s h =
    right_flat n d r rows rest (first_place r) (same_cross d zero_ℚ (int_ranked (d.num *ℤ pos zero_ℚ.den) (zero_ℚ.num *ℤ pos d.den) Equal (sym e))) l refl (h rows s)
right_by_sign n d r rows rest Greater e l s h =
    right_after_square n d r rows (rest (less_products r (divided d r) rows))
    (record { lt = int_ranked (d.num *ℤ pos zero_ℚ.den) (zero_ℚ.num *ℤ pos d.den) Greater (sym e) }) l s
    (h (less_products r (divided d r) rows) (is_half_less n r (divided d r) rows l (length-divided d r ∙ l) s))

pub curvature_right : (n : ℕ) (rows : List (List ℚ)) → IsHalf n rows → IsRight n rows (curvature_from n rows)
unfolding curvature_from
curvature_right zero [] h = (tt, λ j k. refl, tt)
curvature_right zero (row ∷ rows) h = absurd h
curvature_right (suc n) [] h = absurd h
curvature_right (suc n) ([] ∷ rows) h = absurd (omega (arith, h.0))
curvature_right (suc n) ((d ∷ r) ∷ rows) h =
    right_by_sign n d r rows (λ left. curvature_from n left) (rational_cmp d zero_ℚ) refl (omega (arith, h.0)) h.1 (λ left s. curvature_right n left s)

right_of_matrix : (q : List (List ℚ)) (c : Curvature) → IsSymmetric q → IsRight (length q) (upper_half q) c → IsCurvatureOf q c
right_of_matrix q (Squares ss) s h = record { positive = h.0; sum = λ j k. sym (half-at q j k s.same) ∙ h.1 j k }
right_of_matrix q (Negative z) s h = subst (λ (t : ℚ). t <ℚ zero_ℚ) (sym (form_is_half q z s.same)) h.1

width_of_matrix : (n : ℕ) (rows : List (List ℚ)) (c : Curvature) → IsRight n rows c → HasWidth n c
width_of_matrix n rows (Squares ss) h = All-from_recursion (λ s. length s.coef ≡ n) ss h.2
width_of_matrix n rows (Negative z) h = h.0

-- the answer of a symmetric matrix
pub curved : (q : List (List ℚ)) → IsSymmetric q → IsCurvatureOf q (curvature_of q)
curved q s = right_of_matrix q (curvature_of q) s (curvature_right (length q) (upper_half q) (is_half q s))

pub curved_width : (q : List (List ℚ)) → IsSymmetric q → HasWidth (length q) (curvature_of q)
curved_width q s = width_of_matrix (length q) (upper_half q) (curvature_of q) (curvature_right (length q) (upper_half q) (is_half q s))

-- where some vector has a negative form, the answer is such a vector
pub negative_found : (q : List (List ℚ)) (u : List ℚ) → IsSymmetric q → form q u u <ℚ zero_ℚ → (v : List ℚ) × (curvature_of q ≡ Negative v)
negative_found q u s below = by_answer (curvature_of q) (curved q s) refl
  where
    by_answer : (c : Curvature) → IsCurvatureOf q c → curvature_of q ≡ c → (v : List ℚ) × (curvature_of q ≡ Negative v)
    by_answer (Squares ss) h e = absurd (not-le_of_lt below ((squares_semidefinite q ss h).not_negative u))
    by_answer (Negative v) h e = (v, e)
