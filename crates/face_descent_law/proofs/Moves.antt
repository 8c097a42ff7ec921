-- Moves along a direction: the nearest zero, and the support at the end.
use Rattle.std.proofs.Common.{◌≡◌, ◌≢◌, refl, sym, ◌∙◌, ap, subst, ℕ, zero, suc, ◌<◌, ◌≤◌, List, [], ◌∷◌, length, arith, ⊎_elim, inl, inr, ◌⊎◌, Bool, true, false, if◌then◌else◌}
use Rattle.std.specs.List.{All}
use Rattle.std.proofs.lemmas.List.{get_or_past}
use Rattle.std.proofs.lemmas.List.Elements.{All-from_get_or, All-get_or}
use Rattle.std.proofs.lemmas.Bool.{cases_eq, cases_lt}
use Rattle.algebra.proofs.Ring as laws
use Rattle.face_descent_law.proofs.Stationary.{add-zeros}
use Rattle.algebra.proofs.Polynomial.{minus, ◌⊕◌, ◌⊗◌, ◌≐◌, ◌≼◌, ◌≺◌, lit}
use Rattle.algebra.proofs.Certificate.{prove, given, scaled, ◌⊞◌, ◌⊠◌, ◌⇐◌}
use Rattle.algebra.proofs.Solver.{ring}
use Rattle.rational.specs.Rational.{ℚ, zero_ℚ, one_ℚ, ◌+ℚ◌, ◌*ℚ◌, neg_ℚ}
use Rattle.rational.specs.Order.{◌≤ℚ◌, ◌<ℚ◌, same_fields, same_fields_lem, differ_of_same_fields}
use Rattle.rational.specs.Sums.{entry}
use Rattle.rational.specs.Vectors.{add_each, scale, zeros, rows_dot}
use Rattle.rational.proofs.Field.{rationals}
use Rattle.rational.proofs.Order.{ordered_rationals, div-mul_cancel, le_or_lt, le_antisymm, lt_irrefl, lt_le, le_refl, whole_nonneg}
use Rattle.rational.proofs.OrderLaws.{ne_of_lt, le-div, le_trans, le-lt_trans}
use Rattle.rational.proofs.Vectors.{length-scale, rows_dot-add, rows_dot-scale}
use Rattle.equational_law.specs.Form.{Form}
use Rattle.equational_law.specs.Solutions.{IsNotNegative, IsSolution}
use Rattle.face_descent_law.specs.Small.{support_from, support}
use Rattle.face_descent_law.specs.Step.{distance, moved, IsWithin, IsNearest, IsCapped}
use Rattle.face_descent_law.proofs.Directions.{length-moved, entry-moved, scale-zeros}

-- ---- a place is reached

size_below : (a : ℚ) → a <ℚ zero_ℚ → zero_ℚ <ℚ neg_ℚ a
size_below a h = prove ordered_rationals (a ∷ []) (λ a. lit 0 ≺ minus a ⇐ given (a ≺ lit 0)) refl h

-- the distance times the size of the fall is the entry
ratio_times : (z d : List ℚ) (j : ℕ) → entry d j <ℚ zero_ℚ → distance z d j *ℚ neg_ℚ (entry d j) ≡ entry z j
ratio_times z d j h = div-mul_cancel (entry z j) (neg_ℚ (entry d j)) (ne_of_lt (size_below (entry d j) h))

pub ratio_nonneg : (z d : List ℚ) (j : ℕ) → entry d j <ℚ zero_ℚ → zero_ℚ ≤ℚ entry z j → zero_ℚ ≤ℚ distance z d j
ratio_nonneg z d j h k = le-div (size_below (entry d j) h) (subst (λ t. t ≤ℚ entry z j) (sym (laws.zero_mul rationals (neg_ℚ (entry d j)))) k)

-- a distance of 0 is only at an entry of 0
pub ratio_positive : (z d : List ℚ) (j : ℕ) → entry d j <ℚ zero_ℚ → zero_ℚ ≤ℚ entry z j → entry z j ≢ zero_ℚ → zero_ℚ <ℚ distance z d j
ratio_positive z d j h k ne = ⊎_elim
    (λ le. absurd (ne (sym (ratio_times z d j h) ∙ ap (λ t. t *ℚ neg_ℚ (entry d j)) (le_antisymm (distance z d j) zero_ℚ le (ratio_nonneg z d j h k)) ∙ laws.zero_mul rationals (neg_ℚ (entry d j)))))
    (λ lt. lt) (le_or_lt (distance z d j) zero_ℚ)

hits : (x y s r : ℚ) → s ≡ r → r *ℚ neg_ℚ y ≡ x → x +ℚ s *ℚ y ≡ zero_ℚ
hits x y s r e f = prove ordered_rationals (x ∷ y ∷ s ∷ r ∷ []) (λ x y s r. x ⊕ s ⊗ y ≐ lit 0 ⇐ scaled y s r ⊞ scaled (minus (lit 1)) (r ⊗ minus y) x) refl e f

module _ (n : ℕ) (z d : List ℚ) (s : ℚ) (wide : length z ≡ n) (long : length d ≡ n) where
  pub zero_there : (h : IsNearest z d s) → entry (moved z d s) h.place ≡ zero_ℚ
  zero_there h = entry-moved n z d s h.place wide long ∙ hits (entry z h.place) (entry d h.place) s (distance z d h.place) h.there (ratio_times z d h.place h.falls)

  pub stays_zero : (j : ℕ) → entry z j ≡ zero_ℚ → entry d j ≡ zero_ℚ → entry (moved z d s) j ≡ zero_ℚ
  stays_zero j e f = entry-moved n z d s j wide long ∙ ap (λ t. t +ℚ s *ℚ entry d j) e ∙ ap (λ t. zero_ℚ +ℚ s *ℚ t) f ∙ ring rationals (s ∷ []) (λ s. lit 0 ⊕ s ⊗ lit 0 ≐ lit 0) refl

  -- within the nearest zero no entry falls below 0
  entry_nonneg : zero_ℚ ≤ℚ s → IsWithin z d s → (j : ℕ) → zero_ℚ ≤ℚ entry z j → zero_ℚ ≤ℚ entry (moved z d s) j
  entry_nonneg p within j k = subst (λ t. zero_ℚ ≤ℚ t) (sym (entry-moved n z d s j wide long)) (⊎_elim rises falls (le_or_lt zero_ℚ (entry d j)))
    where
      rises : zero_ℚ ≤ℚ entry d j → zero_ℚ ≤ℚ (entry z j +ℚ s *ℚ entry d j)
      rises h = prove ordered_rationals (entry z j ∷ entry d j ∷ s ∷ []) (λ x y s. lit 0 ≼ x ⊕ s ⊗ y ⇐ given (lit 0 ≼ x) ⊞ (given (lit 0 ≼ s) ⊠ given (lit 0 ≼ y))) refl k p h

      falls : entry d j <ℚ zero_ℚ → zero_ℚ ≤ℚ (entry z j +ℚ s *ℚ entry d j)
      falls h = prove ordered_rationals (entry z j ∷ entry d j ∷ s ∷ distance z d j ∷ [])
          (λ x y s r. lit 0 ≼ x ⊕ s ⊗ y ⇐ (given (s ≼ r) ⊠ given (lit 0 ≼ minus y)) ⊞ given (r ⊗ minus y ≐ x)) refl (within j h) (lt_le _ _ (size_below (entry d j) h)) (ratio_times z d j h)

  pub solution_there : (f : Form) → length f.cost ≡ n → IsSolution f z → rows_dot f.matrix d ≡ zeros (length f.matrix) → length f.right ≡ length f.matrix → zero_ℚ ≤ℚ s → IsWithin z d s → IsSolution f (moved z d s)
  solution_there f c is keeps h p within = record {
    width = length-moved n z d s wide long ∙ sym c;
    equal = rows_dot-add f.matrix z (scale s d) (wide ∙ sym (length-scale s d ∙ long))
        ∙ ap (λ v. add_each (rows_dot f.matrix z) v) (rows_dot-scale f.matrix s d ∙ ap (scale s) keeps ∙ scale-zeros s (length f.matrix))
        ∙ ap (λ v. add_each v (zeros (length f.matrix))) is.equal ∙ add-zeros f.right (length f.matrix) h;
    not_negative = All-from_get_or IsNotNegative (moved z d s) zero_ℚ
        (λ j b. entry_nonneg p within j (All-get_or IsNotNegative z j zero_ℚ (let a = length-moved n z d s wide long in omega arith) is.not_negative));
  }

-- ---- the nearest zero

-- the nearest zero of the places before k
abbrev Nearest : List ℚ → List ℚ → ℕ → Type 0
Nearest z d k = (p : ℕ) × (entry d p <ℚ zero_ℚ) × ((j : ℕ) → j < k → entry d j <ℚ zero_ℚ → distance z d p ≤ℚ distance z d j)

abbrev NoFall : List ℚ → ℕ → Type 0
NoFall d k = (j : ℕ) → j < k → ¬ (entry d j <ℚ zero_ℚ)

pub nearest_before : (z d : List ℚ) (k : ℕ) → NoFall d k ⊎ Nearest z d k
nearest_before z d zero = inl (λ j b. absurd (omega arith))
nearest_before z d (suc k) = ⊎_elim none some (nearest_before z d k)
  where
    before : (j : ℕ) → j < suc k → j ≢ k → j < k
    before j b ne = omega arith

    none : NoFall d k → NoFall d (suc k) ⊎ Nearest z d (suc k)
    none h = ⊎_elim
        (λ up. inl (λ j b. ⊎_elim (λ e l. lt_irrefl zero_ℚ (le-lt_trans (subst (λ (i : ℕ). zero_ℚ ≤ℚ entry d i) (sym e) up) l)) (λ ne. h j (before j b ne)) (cases_eq j k)))
        (λ l. inr (k, l, (λ j b fall. ⊎_elim (λ e. subst (λ (i : ℕ). distance z d k ≤ℚ distance z d i) (sym e) (le_refl (distance z d k))) (λ ne. absurd (h j (before j b ne) fall)) (cases_eq j k))))
        (le_or_lt zero_ℚ (entry d k))

    some : Nearest z d k → NoFall d (suc k) ⊎ Nearest z d (suc k)
    some h = inr (⊎_elim
        (λ up. (h.0, h.1, (λ j b fall. ⊎_elim (λ e. absurd (lt_irrefl zero_ℚ (le-lt_trans (subst (λ (i : ℕ). zero_ℚ ≤ℚ entry d i) (sym e) up) fall))) (λ ne. h.2 j (before j b ne) fall) (cases_eq j k))))
        (λ l. ⊎_elim
        (λ le. (h.0, h.1, (λ j b fall. ⊎_elim (λ e. subst (λ (i : ℕ). distance z d h.0 ≤ℚ distance z d i) (sym e) le) (λ ne. h.2 j (before j b ne) fall) (cases_eq j k))))
        (λ lt. (k, l, (λ j b fall. ⊎_elim (λ e. subst (λ (i : ℕ). distance z d k ≤ℚ distance z d i) (sym e) (le_refl (distance z d k))) (λ ne. le_trans (lt_le _ _ lt) (h.2 j (before j b ne) fall)) (cases_eq j k))))
        (le_or_lt (distance z d h.0) (distance z d k)))
        (le_or_lt zero_ℚ (entry d k)))

-- an entry below 0 is one of the entries
inside : (d : List ℚ) (j : ℕ) → entry d j <ℚ zero_ℚ → j < length d
inside d j h = ⊎_elim (λ b. b) (λ b. absurd (lt_irrefl zero_ℚ (subst (λ t. t <ℚ zero_ℚ) (get_or_past d j zero_ℚ b) h))) (cases_lt j (length d))

-- a nearest zero, or no entry of d is below 0
pub nearest_or_none : (z d : List ℚ) → ((s : ℚ) × IsNearest z d s) ⊎ ((j : ℕ) → ¬ (entry d j <ℚ zero_ℚ))
nearest_or_none z d = ⊎_elim (λ h. inr (λ j l. h j (inside d j l) l))
    (λ h. inl (distance z d h.0, record { place = h.0; falls = h.1; there = refl; within = λ j l. h.2 j (inside d j l) l }))
    (nearest_before z d (length d))

pub nearest_there : (z d : List ℚ) (j : ℕ) → entry d j <ℚ zero_ℚ → (s : ℚ) × IsNearest z d s
nearest_there z d j l = ⊎_elim (λ h. h) (λ h. absurd (h j l)) (nearest_or_none z d)

pub capped_there : (z d : List ℚ) → (s : ℚ) × IsCapped z d s
capped_there z d = ⊎_elim
    (λ h. ⊎_elim (λ le. (h.0, inr (h.1, le))) (λ lt. (one_ℚ, inl (refl, (λ j l. le_trans (lt_le _ _ lt) (h.1.within j l))))) (le_or_lt h.0 one_ℚ))
    (λ h. (one_ℚ, inl (refl, (λ j l. absurd (h j l)))))
    (nearest_or_none z d)

-- a capped step is within, not below 0, and at most 1
pub capped_within : (z d : List ℚ) (s : ℚ) → IsCapped z d s → IsWithin z d s
capped_within z d s h = ⊎_elim (λ k. k.1) (λ k. k.0.within) h

pub capped_at_most : (z d : List ℚ) (s : ℚ) → IsCapped z d s → s ≤ℚ one_ℚ
capped_at_most z d s h = ⊎_elim (λ k. subst (λ t. t ≤ℚ one_ℚ) (sym (k.0)) (le_refl one_ℚ)) (λ k. k.1) h

all_nonneg : (z : List ℚ) → All IsNotNegative z → (j : ℕ) → zero_ℚ ≤ℚ entry z j
all_nonneg z h j = ⊎_elim (λ b. All-get_or IsNotNegative z j zero_ℚ b h) (λ b. subst (λ t. zero_ℚ ≤ℚ t) (sym (get_or_past z j zero_ℚ b)) (le_refl zero_ℚ)) (cases_lt j (length z))

pub nearest_nonneg : (z d : List ℚ) (s : ℚ) → All IsNotNegative z → IsNearest z d s → zero_ℚ ≤ℚ s
nearest_nonneg z d s a h = subst (λ t. zero_ℚ ≤ℚ t) (sym h.there) (ratio_nonneg z d h.place h.falls (all_nonneg z a h.place))

pub capped_nonneg : (z d : List ℚ) (s : ℚ) → All IsNotNegative z → IsCapped z d s → zero_ℚ ≤ℚ s
capped_nonneg z d s a h = ⊎_elim (λ k. subst (λ t. zero_ℚ ≤ℚ t) (sym (k.0)) (whole_nonneg 1)) (λ k. nearest_nonneg z d s a (k.0)) h

-- the place of the nearest zero is one of z's support, where d is 0 off it
pub place_nonzero : (z d : List ℚ) (s : ℚ) → ((j : ℕ) → entry z j ≡ zero_ℚ → entry d j ≡ zero_ℚ) → (h : IsNearest z d s) → entry z h.place ≢ zero_ℚ
place_nonzero z d s off h e = lt_irrefl zero_ℚ (subst (λ t. t <ℚ zero_ℚ) (off h.place e) h.falls)

pub nearest_positive : (z d : List ℚ) (s : ℚ) → All IsNotNegative z → ((j : ℕ) → entry z j ≡ zero_ℚ → entry d j ≡ zero_ℚ) → IsNearest z d s → zero_ℚ <ℚ s
nearest_positive z d s a off h = subst (λ t. zero_ℚ <ℚ t) (sym h.there) (ratio_positive z d h.place h.falls (all_nonneg z a h.place) (place_nonzero z d s off h))

-- ---- sizes of supports

pub size_zero : (j : ℕ) (x : ℚ) (z : List ℚ) → x ≡ zero_ℚ → length (support_from j (x ∷ z)) ≡ length (support_from (suc j) z)
size_zero j x z h = by (same_fields x zero_ℚ) refl
  where
    by : (b : Bool) → same_fields x zero_ℚ ≡ b → length (if b then support_from (suc j) z else j ∷ support_from (suc j) z) ≡ length (support_from (suc j) z)
    by true e = refl
    by false e = absurd (differ_of_same_fields x zero_ℚ e h)

size_other : (j : ℕ) (x : ℚ) (z : List ℚ) → x ≢ zero_ℚ → length (support_from j (x ∷ z)) ≡ suc (length (support_from (suc j) z))
size_other j x z h = by (same_fields x zero_ℚ) refl
  where
    by : (b : Bool) → same_fields x zero_ℚ ≡ b → length (if b then support_from (suc j) z else j ∷ support_from (suc j) z) ≡ suc (length (support_from (suc j) z))
    by true e = absurd (h (same_fields_lem x zero_ℚ e))
    by false e = refl

is_zero_or_not : (x : ℚ) → (x ≡ zero_ℚ) ⊎ (x ≢ zero_ℚ)
is_zero_or_not x = by (same_fields x zero_ℚ) refl
  where
    by : (b : Bool) → same_fields x zero_ℚ ≡ b → (x ≡ zero_ℚ) ⊎ (x ≢ zero_ℚ)
    by true e = inl (same_fields_lem x zero_ℚ e)
    by false e = inr (differ_of_same_fields x zero_ℚ e)

-- a vector that is 0 wherever z is has no more places
fewer_from : (i j : ℕ) (z y : List ℚ) → length y ≡ length z → ((q : ℕ) → entry z q ≡ zero_ℚ → entry y q ≡ zero_ℚ) → length (support_from i y) ≤ length (support_from j z)
fewer_from i j [] [] e off = omega arith
fewer_from i j [] (b ∷ y) e off = absurd (omega (arith, e))
fewer_from i j (a ∷ z) [] e off = absurd (omega (arith, e))
fewer_from i j (a ∷ z) (b ∷ y) e off =
    let f : length y ≡ length z = omega (arith, e) in
    let rest = fewer_from (suc i) (suc j) z y f (λ q. off (suc q)) in
    ⊎_elim (λ h. let p = size_zero j a z h in let r = size_zero i b y (off 0 h) in omega arith)
    (λ h. let p = size_other j a z h in ⊎_elim (λ k. let r = size_zero i b y k in omega arith) (λ k. let r = size_other i b y k in omega arith) (is_zero_or_not b))
    (is_zero_or_not a)

-- and fewer where it is 0 at a place where z isn't
less_from : (i j : ℕ) (z y : List ℚ) → length y ≡ length z → ((q : ℕ) → entry z q ≡ zero_ℚ → entry y q ≡ zero_ℚ) → (p : ℕ) → entry z p ≢ zero_ℚ → entry y p ≡ zero_ℚ → length (support_from i y) < length (support_from j z)
less_from i j [] y e off p ne is = absurd (ne refl)
less_from i j (a ∷ z) [] e off p ne is = absurd (omega (arith, e))
less_from i j (a ∷ z) (b ∷ y) e off zero ne is =
    let f : length y ≡ length z = omega (arith, e) in
    let rest = fewer_from (suc i) (suc j) z y f (λ q. off (suc q)) in
    let p = size_other j a z ne in let r = size_zero i b y is in omega arith
less_from i j (a ∷ z) (b ∷ y) e off (suc p) ne is =
    let f : length y ≡ length z = omega (arith, e) in
    let rest = less_from (suc i) (suc j) z y f (λ q. off (suc q)) p ne is in
    ⊎_elim (λ h. let p = size_zero j a z h in let r = size_zero i b y (off 0 h) in omega arith)
    (λ h. let p = size_other j a z h in ⊎_elim (λ k. let r = size_zero i b y k in omega arith) (λ k. let r = size_other i b y k in omega arith) (is_zero_or_not b))
    (is_zero_or_not a)

module _ (n : ℕ) (z d : List ℚ) (s : ℚ) (wide : length z ≡ n) (long : length d ≡ n) (off : (j : ℕ) → entry z j ≡ zero_ℚ → entry d j ≡ zero_ℚ) where
  stays : (q : ℕ) → entry z q ≡ zero_ℚ → entry (moved z d s) q ≡ zero_ℚ
  stays q e = stays_zero n z d s wide long q e (off q e)

  pub no_more_places : length (support (moved z d s)) ≤ length (support z)
  no_more_places = fewer_from 0 0 z (moved z d s) (length-moved n z d s wide long ∙ sym wide) stays

  pub loses_a_place : IsNearest z d s → length (support (moved z d s)) < length (support z)
  loses_a_place h = less_from 0 0 z (moved z d s) (length-moved n z d s wide long ∙ sym wide) stays h.place (place_nonzero z d s off h) (zero_there n z d s wide long h)
