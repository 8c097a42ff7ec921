-- Rows divided by a common divisor of their numbers, and rows less a multiple of another.
use Rattle.std.proofs.Common.{◌≡◌, refl, sym, subst, ◌∙◌, ap, ℕ, ◌+◌, ◌<◌, ◌≤◌, ℤ, pos, neg_ℤ, ◌+ℤ◌, ◌*ℤ◌, List, [], ◌∷◌, length, arith, inl, inr}
use Rattle.std.specs.Prelude.{◌<ℤ◌, ◌-ℤ◌, ◌⊎◌, unsigned_abs, int_div, slice_set}
use Rattle.std.specs.Int.{◌∣◌}
use Rattle.std.proofs.lemmas.Int.{ints}
use Rattle.std.proofs.lemmas.List.{get_or-set_same, get_or-set_other}
use Rattle.std.proofs.Math.Nat.{dvd_trans}
use Rattle.algebra.proofs.Polynomial.{minus, ◌⊕◌, ◌⊗◌, ◌⊝◌, ◌≐◌, ◌≺◌, lit}
use Rattle.algebra.proofs.Certificate.{prove, given, scaled, ◌⊞◌, ◌⇐◌}
use Rattle.algebra.proofs.IntegerOrder.{ordered_integers, mul-lt_cancel}
use Rattle.rational.specs.Divisors.{gcd_of, IsGcd-gcd_of}
use Rattle.rational.proofs.Products.{div_exact}
use Rattle.row_arithmetic.specs.Rows.{Row, number}
use Rattle.row_arithmetic.specs.Multiples.{IsQuotientOf, IsLessOf}
use Rattle.row_arithmetic.proofs.Places.{last_or_before}

pub sub_is : (a b : ℤ) → a -ℤ b ≡ a +ℤ neg_ℤ b
sub_is a b = omega (arith, ints)

-- ---- a loop that divides

module _ (old now : List ℤ) (k g : ℕ) (q : ℤ) (place : k < length now) (before : (i : ℕ) → i < k → number now i *ℤ pos g ≡ number old i)
    (after : (i : ℕ) → k ≤ i → number now i ≡ number old i) (divides : g ∣ unsigned_abs (number old k)) (quotient : q ≡ int_div (number now k) (pos g)) where
  pub divided_before : (i : ℕ) → i < k + 1 → number (slice_set now k q) i *ℤ pos g ≡ number old i
  divided_before i h = by (last_or_before i k h)
    where
      by : (i < k) ⊎ (i ≡ k) → number (slice_set now k q) i *ℤ pos g ≡ number old i
      by (inl l) = ap (λ x. x *ℤ pos g) (get_or-set_other now k i q (pos 0) (λ e. absurd (omega arith))) ∙ before i l
      by (inr e) = subst (λ i. number (slice_set now k q) i *ℤ pos g ≡ number old i) (sym e)
          (ap (λ x. x *ℤ pos g) (get_or-set_same now k q (pos 0) place ∙ quotient ∙ ap (λ x. int_div x (pos g)) (after k (omega arith))) ∙ div_exact (number old k) g divides)

  pub divided_after : (i : ℕ) → k + 1 ≤ i → number (slice_set now k q) i ≡ number old i
  divided_after i h = get_or-set_other now k i q (pos 0) (λ e. absurd (omega arith)) ∙ after i (omega arith)

-- ---- a loop that finds a divisor

pub divides_next : (xs : List ℤ) (common k g : ℕ) → ((i : ℕ) → i < k → common ∣ unsigned_abs (number xs i)) → g ∣ unsigned_abs (number xs k) → g ∣ common
    → (i : ℕ) → i < k + 1 → g ∣ unsigned_abs (number xs i)
divides_next xs common k g before here below i h = by (last_or_before i k h)
  where
    by : (i < k) ⊎ (i ≡ k) → g ∣ unsigned_abs (number xs i)
    by (inl l) = dvd_trans g below (before i l)
    by (inr e) = subst (λ i. g ∣ unsigned_abs (number xs i)) (sym e) here

-- what divided the greatest divisor so far, and divides the next number, divides the new one
pub greatest_next : (xs : List ℤ) (bottom common k g a : ℕ) → ((d : ℕ) → d ∣ bottom → ((i : ℕ) → i < k → d ∣ unsigned_abs (number xs i)) → d ∣ common) → a ≡ unsigned_abs (number xs k) → g ≡ gcd_of a common
    → (d : ℕ) → d ∣ bottom → ((i : ℕ) → i < k + 1 → d ∣ unsigned_abs (number xs i)) → d ∣ g
greatest_next xs bottom common k g a before a_is g_is d in_bottom in_numbers =
    subst (λ g. d ∣ g) (sym g_is)
    ((IsGcd-gcd_of a common).2 d (subst (λ n. d ∣ n) (sym a_is) (in_numbers k (omega arith))) (before d in_bottom (λ i l. in_numbers i (omega (arith, l)))))

-- ---- a row divided by a divisor of all its numbers

pub divided_row : (old new : List ℤ) (bottom q : ℤ) (g : ℕ) → 0 < g → pos 0 <ℤ bottom → length new ≡ length old → ((k : ℕ) → k < length old → number new k *ℤ pos g ≡ number old k) → q *ℤ pos g ≡ bottom
    → IsQuotientOf bottom (record { numbers = old; bottom = bottom }) (record { numbers = new; bottom = q })
divided_row old new bottom q g g_pos positive size numbers whole = record {
  size = size;
  positive = mul-lt_cancel (pos 0) q (pos g) (omega (arith, ints)) (
      prove ordered_integers (q ∷ pos g ∷ bottom ∷ []) (λ q g b. lit 0 ⊗ g ≺ q ⊗ g ⇐ given (lit 0 ≺ b) ⊞ given (b ≐ q ⊗ g)) refl positive (sym whole));
  same = λ k l. prove ordered_integers (bottom ∷ number new k ∷ q ∷ number old k ∷ pos g ∷ []) (λ b n q o g. b ⊗ n ≐ q ⊗ o
      ⇐ scaled (minus n) (q ⊗ g) b ⊞ scaled q (n ⊗ g) o) refl whole (numbers k l);
}

-- ---- a row less a multiple of another, whose common factors are out

pub less_row : (t : ℤ) (pivot row new : Row) (mid : List ℤ) (g : ℕ) (p f bottom : ℤ) → p *ℤ pos g ≡ pivot.bottom → f *ℤ pos g ≡ t → length mid ≡ length row.numbers
    → ((k : ℕ) → k < length row.numbers → number mid k ≡ p *ℤ number row.numbers k -ℤ f *ℤ number pivot.numbers k) → bottom ≡ row.bottom *ℤ p
    → IsQuotientOf bottom (record { numbers = mid; bottom = bottom }) new → IsLessOf t pivot row new
less_row t pivot row new mid g p f bottom whole part size numbers product h = record {
  size = h.size ∙ size;
  positive = h.positive;
  same = λ k l. at k l;
}
  where
    at : (k : ℕ) → k < length row.numbers → (row.bottom *ℤ pivot.bottom) *ℤ number new.numbers k ≡ new.bottom *ℤ (pivot.bottom *ℤ number row.numbers k -ℤ t *ℤ number pivot.numbers k)
    at k l =
        let r = number row.numbers k in
        let o = number pivot.numbers k in
        let n = number new.numbers k in
        let m = number mid k in
        let d : m ≡ p *ℤ r +ℤ neg_ℤ (f *ℤ o) = numbers k l ∙ sub_is (p *ℤ r) (f *ℤ o) in
        let s : bottom *ℤ n ≡ new.bottom *ℤ m = h.same k (omega (arith, l, size)) in
        prove ordered_integers (row.bottom ∷ pivot.bottom ∷ new.bottom ∷ t ∷ p ∷ f ∷ pos g ∷ r ∷ o ∷ n ∷ m ∷ bottom ∷ []) (λ D P E t p f g r o n m b. D ⊗ P ⊗ n ≐ E ⊗ (P ⊗ r ⊕ minus (t ⊗ o))
        ⇐ scaled (E ⊗ r ⊝ D ⊗ n) (p ⊗ g) P ⊞ scaled (minus (E ⊗ o)) (f ⊗ g) t ⊞ scaled (E ⊗ g) m (p ⊗ r ⊕ minus (f ⊗ o)) ⊞ scaled (minus (g ⊗ n)) b (D ⊗ p) ⊞ scaled g (b ⊗ n) (E ⊗ m)) refl
        whole part d product s
        ∙ ap (λ x. new.bottom *ℤ x) (sym (sub_is (pivot.bottom *ℤ r) (t *ℤ o)))
