-- The nearest zero as it is computed, and that a point has at most one shrink step.
use Rattle.std.proofs.Common.{◌≡◌, refl, sym, ◌∙◌, ap, subst, ℕ, zero, suc, List, [], ◌∷◌, ◌++◌, length, arith, ⊎_elim, inl, inr, Bool, true, false, if◌then◌else◌}
use Rattle.std.specs.Prelude.{Option, Some, None}
use Rattle.rational.specs.Divisors.{gcd_of}
use Rattle.rational.specs.Rational.{ℚ, zero_ℚ, one_ℚ, neg_ℚ, ◌/ℚ◌, whole, ratio}
use Rattle.rational.specs.Order.{◌≤ℚ◌, ◌<ℚ◌}
use Rattle.rational.specs.Sums.{entry}
use Rattle.rational.specs.Vectors.{scale, zeros}
use Rattle.rational.proofs.Order.{le_refl, lt_le, lt_irrefl, le_antisymm}
use Rattle.rational.proofs.OrderLaws.{le_trans}
use Rattle.rational.specs.Tests.{is_negative, is_positive, is_le}
use Rattle.program_law.proofs.Numbers.{negative_below, below_negative, le_tested, lt_tested}
use Rattle.elimination_law.specs.Answers.{Solution, Refutation}
use Rattle.equational_law.specs.Form.{Form}
use Rattle.face_descent_law.specs.Small.{support, small_answer, IsStationary}
use Rattle.face_descent_law.specs.Step.{on_support, moved, IsWithin, IsNearest, IsCapped, IsTurned, IsSolvedStep, IsRefutedStep, IsShrinkStep}
use Rattle.face_descent_law.specs.Operations.{nearer, nearest_zero, turned, zero_ops, sum_ops, shrink_ops}
use Rattle.face_descent_law.proofs.Supports.{put_at-zeros}

-- ---- the nearest zero

-- what an answer says: there is none, or it is the nearest
abbrev pub IsToldNearest : List ℚ → List ℚ → Option ℚ → Type 0
IsToldNearest z d None = (j : ℕ) → ¬ (entry d j <ℚ zero_ℚ)
IsToldNearest z d (Some s) = IsNearest z d s

not_zero_below : ¬ (zero_ℚ <ℚ zero_ℚ)
not_zero_below = lt_irrefl zero_ℚ

later_nearest : (x y : ℚ) (z d : List ℚ) (s : ℚ) → (y <ℚ zero_ℚ → s ≤ℚ (x /ℚ neg_ℚ y)) → IsNearest z d s → IsNearest (x ∷ z) (y ∷ d) s
later_nearest x y z d s first h = record { place = suc h.place; falls = h.falls; there = h.there; within = within }
  where
    within : IsWithin (x ∷ z) (y ∷ d) s
    within zero b = first b
    within (suc j) b = h.within j b

first_nearest : (x y : ℚ) (z d : List ℚ) → y <ℚ zero_ℚ → IsWithin z d (x /ℚ neg_ℚ y) → IsNearest (x ∷ z) (y ∷ d) (x /ℚ neg_ℚ y)
first_nearest x y z d b h = record { place = 0; falls = b; there = refl; within = within }
  where
    within : IsWithin (x ∷ z) (y ∷ d) (x /ℚ neg_ℚ y)
    within zero c = le_refl (x /ℚ neg_ℚ y)
    within (suc j) c = h j c

pub nearest_told : (z d : List ℚ) → length z ≡ length d → IsToldNearest z d (nearest_zero z d)
nearest_told [] [] e = λ j b. not_zero_below b
nearest_told [] (y ∷ d) e = absurd (omega arith)
nearest_told (x ∷ z) [] e = absurd (omega arith)
nearest_told (x ∷ z) (y ∷ d) e = by (is_negative y) refl (nearest_zero z d) (nearest_told z d (omega arith))
  where
    q : ℚ
    q = x /ℚ neg_ℚ y

    same_or_less : (t : ℚ) → y <ℚ zero_ℚ → IsNearest z d t → (b : Bool) → is_le q t ≡ b → IsNearest (x ∷ z) (y ∷ d) (if b then q else t)
    same_or_less t below h true e = first_nearest x y z d below (λ j c. le_trans (le_tested q t e) (h.within j c))
    same_or_less t below h false e = later_nearest x y z d t (λ c. lt_le t q (lt_tested q t e)) h

    falling : (o : Option ℚ) → y <ℚ zero_ℚ → IsToldNearest z d o → IsNearest (x ∷ z) (y ∷ d) (nearer q o)
    falling None below h = first_nearest x y z d below (λ j c. absurd (h j c))
    falling (Some t) below h = same_or_less t below h (is_le q t) refl

    other : (o : Option ℚ) → ¬ (y <ℚ zero_ℚ) → IsToldNearest z d o → IsToldNearest (x ∷ z) (y ∷ d) o
    other None up h = none
      where
        none : (j : ℕ) → ¬ (entry (y ∷ d) j <ℚ zero_ℚ)
        none zero = up
        none (suc j) = h j
    other (Some t) up h = later_nearest x y z d t (λ c. absurd (up c)) h

    by : (b : Bool) → is_negative y ≡ b → (o : Option ℚ) → IsToldNearest z d o → IsToldNearest (x ∷ z) (y ∷ d) (if b then Some (nearer q o) else o)
    by true t o h = falling o (negative_below y t) h
    by false t o h = other o (λ c. differ (sym (below_negative y c) ∙ t)) h
      where
        differ : true ≡ false → ⊥
        differ e = cc

-- ---- only one

pub one_nearest : (z d : List ℚ) (s t : ℚ) → IsNearest z d s → IsNearest z d t → s ≡ t
one_nearest z d s t h k = le_antisymm s t (subst (λ r. s ≤ℚ r) (sym k.there) (h.within k.place k.falls)) (subst (λ r. t ≤ℚ r) (sym h.there) (k.within h.place h.falls))

pub one_capped : (z d : List ℚ) (s t : ℚ) → IsCapped z d s → IsCapped z d t → s ≡ t
one_capped z d s t h k = ⊎_elim
    (λ a. ⊎_elim (λ b. a.0 ∙ sym b.0) (λ b. mixed s t a.0 a.1 b.0 b.1) k)
    (λ a. ⊎_elim (λ b. sym (mixed t s b.0 b.1 a.0 a.1)) (λ b. one_nearest z d s t a.0 b.0) k) h
  where
    mixed : (s t : ℚ) → s ≡ one_ℚ → IsWithin z d s → IsNearest z d t → t ≤ℚ one_ℚ → s ≡ t
    mixed s t e w n l = le_antisymm s t (subst (λ r. s ≤ℚ r) (sym n.there) (w n.place n.falls)) (subst (λ r. t ≤ℚ r) (sym e) l)

pub nearest_is : (z d : List ℚ) (s : ℚ) → length z ≡ length d → IsNearest z d s → nearest_zero z d ≡ Some s
nearest_is z d s e h = by (nearest_zero z d) (nearest_told z d e)
  where
    by : (o : Option ℚ) → IsToldNearest z d o → o ≡ Some s
    by None k = absurd (k h.place h.falls)
    by (Some t) k = ap Some (one_nearest z d t s k h)

-- the smaller of 1 and the nearest zero
pub capped_is : (z d : List ℚ) → length z ≡ length d → IsCapped z d (nearer one_ℚ (nearest_zero z d))
capped_is z d e = by (nearest_zero z d) (nearest_told z d e)
  where
    cut : (t : ℚ) → IsNearest z d t → (b : Bool) → is_le one_ℚ t ≡ b → IsCapped z d (if b then one_ℚ else t)
    cut t h true e = inl (refl, λ j c. le_trans (le_tested one_ℚ t e) (h.within j c))
    cut t h false e = inr (h, lt_le t one_ℚ (lt_tested one_ℚ t e))

    by : (o : Option ℚ) → IsToldNearest z d o → IsCapped z d (nearer one_ℚ o)
    by None h = inl (refl, λ j c. absurd (h j c))
    by (Some t) h = cut t h (is_le one_ℚ t) refl

-- the direction of a refutation
pub turned_is : (v : ℚ) (part d : List ℚ) → IsTurned v part d → d ≡ turned v part
turned_is v part d h = by (is_positive v) refl
  where
    by : (b : Bool) → is_positive v ≡ b → d ≡ (if b then part else scale (neg_ℚ one_ℚ) part)
    by true e = h.as_it_is (Rattle.program_law.proofs.Numbers.positive_above v e)
    by false e = h.changed (λ c. differ (sym (Rattle.program_law.proofs.Numbers.above_positive v c) ∙ e))
      where
        differ : true ≡ false → ⊥
        differ e = cc

same_solution : {x y : List ℚ} → Solution x ≡ Solution y → x ≡ y
same_solution e = cc

other_answer : {x w : List ℚ} {v : ℚ} → Solution x ≡ Refutation w v → ⊥
other_answer e = cc

same_multipliers : {w u : List ℚ} {v t : ℚ} → Refutation w v ≡ Refutation u t → w ≡ u
same_multipliers e = cc

same_number : {w u : List ℚ} {v t : ℚ} → Refutation w v ≡ Refutation u t → v ≡ t
same_number e = cc

-- a point has at most one shrink step
module _ (n : ℕ) (f : Form) (z : List ℚ) where
  one_solved : (a b : List ℚ) → IsSolvedStep n f z a → IsSolvedStep n f z b → a ≡ b
  one_solved a b h k =
      let x : on_support n z h.unknowns ≡ on_support n z k.unknowns = ap (on_support n z) (same_solution (sym h.solved ∙ k.solved)) in
      let s : h.step ≡ k.step = one_capped z (on_support n z k.unknowns) h.step k.step (subst (λ d. IsCapped z d h.step) x h.capped) k.capped in
      h.end ∙ ap (λ d. moved z d h.step) x ∙ ap (moved z (on_support n z k.unknowns)) s ∙ sym k.end

  one_refuted : (a b : List ℚ) → IsRefutedStep n f z a → IsRefutedStep n f z b → a ≡ b
  one_refuted a b h k =
      let e = sym h.refuted ∙ k.refuted in
      let x : h.direction ≡ k.direction = turned_is h.number (on_support n z h.multipliers) h.direction h.turned
      ∙ ap (λ w. turned h.number (on_support n z w)) (same_multipliers e) ∙ ap (λ v. turned v (on_support n z k.multipliers)) (same_number e)
      ∙ sym (turned_is k.number (on_support n z k.multipliers) k.direction k.turned) in
      let s : h.step ≡ k.step = one_nearest z k.direction h.step k.step (subst (λ d. IsNearest z d h.step) x h.nearest) k.nearest in
      h.end ∙ ap (λ d. moved z d h.step) x ∙ ap (moved z k.direction) s ∙ sym k.end

  pub one_shrink : (a b : List ℚ) → IsShrinkStep n f z a → IsShrinkStep n f z b → a ≡ b
  one_shrink a b h k = ⊎_elim
      (λ s. ⊎_elim (λ t. one_solved a b s t) (λ t. absurd (other_answer (sym s.solved ∙ t.refuted))) k)
      (λ s. ⊎_elim (λ t. absurd (other_answer (sym t.solved ∙ s.refuted))) (λ t. one_refuted a b s t) k) h

-- ---- no operation where nothing moves

no_zero_ops : (z : List ℚ) (m : ℕ) → zero_ops z (zeros m) ≡ []
unfolding ratio gcd_of whole
no_zero_ops [] m = refl
no_zero_ops (x ∷ z) zero = refl
no_zero_ops (x ∷ z) (suc m) = no_zero_ops z m

no_sum_ops : (s : ℚ) (z : List ℚ) (m : ℕ) → sum_ops s z (zeros m) ≡ []
unfolding ratio gcd_of whole
no_sum_ops s [] m = refl
no_sum_ops s (x ∷ z) zero = refl
no_sum_ops s (x ∷ z) (suc m) = no_sum_ops s z m

pub still_ops : (n : ℕ) (f : Form) (z : List ℚ) → IsStationary f z → shrink_ops n z (small_answer f z) ≡ []
still_ops n f z h =
    let d : on_support n z h.unknowns ≡ zeros n = ap (Rattle.rational.specs.Vectors.put_at n (support z)) h.still ∙ put_at-zeros n (support z) (length (support z)) in
    let s = nearer one_ℚ (nearest_zero z (on_support n z h.unknowns)) in
    ap (shrink_ops n z) h.solved ∙ ap (λ d. zero_ops z d ++ sum_ops s z d) d ∙ ap (λ l. l ++ sum_ops s z (zeros n)) (no_zero_ops z n) ∙ no_sum_ops s z n
