-- The sides that a row of a program file has are sides that a row may have.
use Rattle.std.proofs.Common.{◌≡◌, Bool, true, false, Some, refl, sym, ap, subst, ◌∙◌, inl, inr, [], ◌∷◌, arith, if◌then◌else◌}
use Rattle.std.specs.Prelude.{IsTrue, ℤ, neg_ℤ, unsigned_abs}
use Rattle.std.proofs.lemmas.Int.{ints}
use Rattle.algebra.proofs.Polynomial.{◌⊕◌, ◌⊝◌}
use Rattle.rational.specs.Rational.{ℚ, zero_ℚ, neg_ℚ, ◌+ℚ◌, ◌-ℚ◌, whole, ratio, same_ℚ, fits, Fits}
use Rattle.rational.specs.Order.{◌≤ℚ◌}
use Rattle.rational.specs.Divisors.{gcd_of}
use Rattle.rational.proofs.Order.{le_refl, lt_le, le_or_lt}
use Rattle.rational.proofs.OrderLaws.{le_by, neg-le-neg}
use Rattle.rational.proofs.Field.{+ℚ_neg}
use Rattle.rational.proofs.Fits.{fits_yes}
use Rattle.rational.proofs.Reciprocals.{neg_num, neg_den}
use Rattle.frac_core.specs.Parts.{max_part}
use Rattle.program_law.proofs.Ring.{ring_by, x0, x1}
use Rattle.program_law.proofs.Numbers.{negative_below, below_negative}
use Rattle.rational.specs.Tests.{is_negative}
use Rattle.program_law.specs.Program.{IsRow}
use Rattle.mps_tokens.specs.declared.words.RowKind.{RowKind}
use Rattle.mps_tokens.specs.declared.words.RowKind.TheVariants.{Objective, AtMost, AtLeast, Equal}
use Rattle.mps_grammar.specs.Told.{binds}
use Rattle.mps_grammar.specs.Programs.{size, plain_sides, ranged_sides}

some_is : (a b : ℚ) → Some a ≡ Some b → a ≡ b
some_is a b e = cc

zero_fits : IsTrue (fits max_part zero_ℚ)
unfolding whole ratio gcd_of
zero_fits = refl

neg_zero : neg_ℚ zero_ℚ ≡ zero_ℚ
unfolding neg_ℚ whole ratio gcd_of
neg_zero = same_ℚ _ _ refl refl

-- ---- the size of a number

abs_neg : (n : ℤ) → unsigned_abs (neg_ℤ n) ≡ unsigned_abs n
abs_neg n = omega (arith, ints)

neg_fits : (q : ℚ) → Fits max_part q → Fits max_part (neg_ℚ q)
neg_fits q h =
    let num : unsigned_abs (neg_ℚ q).num ≡ unsigned_abs q.num = ap unsigned_abs (neg_num q) ∙ abs_neg q.num in
    (rw num h.0, rw (neg_den q) h.1)

size_fits : (q : ℚ) → Fits max_part q → IsTrue (fits max_part (size q))
size_fits q h = by_sign (is_negative q)
  where
    by_sign : (b : Bool) → IsTrue (fits max_part (if b then neg_ℚ q else q))
    by_sign true = fits_yes max_part (neg_ℚ q) (neg_fits q h)
    by_sign false = fits_yes max_part q h

size_positive : (q : ℚ) → zero_ℚ ≤ℚ size q
size_positive q = by_sign (is_negative q) refl
  where
    by_sign : (b : Bool) → is_negative q ≡ b → zero_ℚ ≤ℚ (if b then neg_ℚ q else q)
    by_sign true e = subst (λ z. z ≤ℚ neg_ℚ q) neg_zero (neg-le-neg (lt_le q zero_ℚ (negative_below q e)))
    by_sign false e = elim (le_or_lt zero_ℚ q) [
      | inl le ↦ le
      | inr lt ↦ let bad : true ≡ false = sym (below_negative q lt) ∙ e in absurd cc
    ]

-- ---- sides

two_sides : (low high d : ℚ) → zero_ℚ ≤ℚ d → high ≡ low +ℚ d → IsTrue (fits max_part (high -ℚ low)) → IsRow (record { low = Some low; high = Some high })
two_sides low high d h e f = record {
  some = inl refl;
  ordered = λ a b p q. rw (← some_is low a p, ← some_is high b q) (le_by d h e);
  difference = λ a b p q. rw (← some_is low a p, ← some_is high b q) f;
}

-- b - s and b
low_sides : (b s : ℚ) → zero_ℚ ≤ℚ s → IsTrue (fits max_part s) → IsRow (record { low = Some (b -ℚ s); high = Some b })
low_sides b s h f =
    let back : b ≡ (b -ℚ s) +ℚ s = ring_by (b ∷ s ∷ []) x0 ((x0 ⊝ x1) ⊕ x1) refl in
    let difference : b -ℚ (b -ℚ s) ≡ s = ring_by (b ∷ s ∷ []) (x0 ⊝ (x0 ⊝ x1)) x1 refl in
    two_sides (b -ℚ s) b s h back (rw difference f)

-- b and b + s
high_sides : (b s : ℚ) → zero_ℚ ≤ℚ s → IsTrue (fits max_part s) → IsRow (record { low = Some b; high = Some (b +ℚ s) })
high_sides b s h f =
    let difference : (b +ℚ s) -ℚ b ≡ s = ring_by (b ∷ s ∷ []) ((x0 ⊕ x1) ⊝ x0) x1 refl in
    two_sides b (b +ℚ s) s h refl (rw difference f)

pub IsRow-plain : (kind : RowKind) (b : ℚ) → binds kind ≡ true → IsRow (plain_sides kind b)
IsRow-plain Objective b e = absurd cc
IsRow-plain AtMost b e = record { some = inr refl; ordered = λ low high p q. absurd cc; difference = λ low high p q. absurd cc }
IsRow-plain AtLeast b e = record { some = inl refl; ordered = λ low high p q. absurd cc; difference = λ low high p q. absurd cc }
IsRow-plain Equal b e = record {
  some = inl refl;
  ordered = λ low high p q. rw (← some_is b low p, ← some_is b high q) (le_refl b);
  difference = λ low high p q. rw (← some_is b low p, ← some_is b high q, +ℚ_neg b) zero_fits;
}

pub IsRow-ranged : (kind : RowKind) (b r : ℚ) → binds kind ≡ true → Fits max_part r → IsRow (ranged_sides kind b r)
IsRow-ranged Objective b r e h = absurd cc
IsRow-ranged AtMost b r e h = low_sides b (size r) (size_positive r) (size_fits r h)
IsRow-ranged AtLeast b r e h = high_sides b (size r) (size_positive r) (size_fits r h)
IsRow-ranged Equal b r e h = by_sign (is_negative r)
  where
    by_sign : (n : Bool) → IsRow (if n then record { low = Some (if n then b -ℚ size r else b +ℚ size r); high = Some b } else record { low = Some b; high = Some (if n then b -ℚ size r else b +ℚ size r) })
    by_sign true = low_sides b (size r) (size_positive r) (size_fits r h)
    by_sign false = high_sides b (size r) (size_positive r) (size_fits r h)
