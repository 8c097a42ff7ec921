-- The order of products and of quotients, by cross products.
use Rattle.std.specs.Prelude.{◌≡◌, ℕ, ◌+◌, ◌*◌, ◌^◌, ◌<◌, ℤ, pos, negsuc, suc, neg_ℤ, ◌*ℤ◌, ◌<ℤ◌, unsigned_abs}
use Rattle.std.specs.declared.cmp.Ordering.{Ordering}
use Rattle.std.specs.declared.cmp.Ordering.TheVariants.{Less, Equal, Greater}
use Rattle.std.specs.Ordering.{int_cmp, nat_cmp, MatchOrdering}
use Rattle.std.proofs.Common.{arith, sym, ap, ◌∙◌, refl}
use Rattle.std.proofs.Math.Nat.{mul-pos}
use Rattle.std.proofs.lemmas.Int.{ints}
use Rattle.std.proofs.lemmas.Cmp.{ranked, int_ranked}
use Rattle.rational.specs.Whole.{same_diff, diffs, as_diff}
use Rattle.rational.specs.Rational.{ℚ, Positive, ◌*⁺◌, bottom, zero_ℚ, ratio, ratio_parts, same_ratio, same_cross, fraction_is, reciprocal, reciprocal_of, ◌*ℚ◌, ◌/ℚ◌, neg-*ℤ}
use Rattle.rational.specs.Order.{◌<ℚ◌, rational_cmp}
use Rattle.rational.proofs.Pairs.{lt_is_cross}
use Rattle.rational.proofs.Ratios.{ratio_mul}
use Rattle.ratio_test.proofs.Numbers.{num_of_positive}

-- the product of three words and one, from the products of the words
pub four_words : (a b c d l h m g i n j o p k q r : ℕ) → l + h * 2 ^ 128 ≡ a * b + 0 → m + g * 2 ^ 128 ≡ l * c + 0 → i + n * 2 ^ 128 ≡ h * c + g
    → j + o * 2 ^ 128 ≡ m * d + 0 → p + k * 2 ^ 128 ≡ i * d + o → q + r * 2 ^ 128 ≡ n * d + k
    → ((r * 2 ^ 128 + q) * 2 ^ 128 + p) * 2 ^ 128 + j ≡ a * b * c * d
four_words a b c d l h m g i n j o p k q r e f x y z w =
    omega (arith, ap (λ t. t * c * d) e, ap (λ t. t * d) f, ap (λ t. t * d) x)

-- ---- comparisons that agree

int_cmp_is : (x y : ℤ) (o : Ordering) → MatchOrdering o (x <ℤ y) (x ≡ y) (y <ℤ x) → o ≡ int_cmp x y
int_cmp_is x y Less h = less x y h
  where
    less : (x y : ℤ) → x <ℤ y → Less ≡ int_cmp x y
    less x y h = grind (arith, ints)
int_cmp_is x y Equal h = equal x y h
  where
    equal : (x y : ℤ) → x ≡ y → Equal ≡ int_cmp x y
    equal x y h = grind (arith, ints)
int_cmp_is x y Greater h = greater x y h
  where
    greater : (x y : ℤ) → y <ℤ x → Greater ≡ int_cmp x y
    greater x y h = grind (arith, ints)

alike : (u v x y : ℤ) (o : Ordering) → MatchOrdering o (u <ℤ v) (u ≡ v) (v <ℤ u) → (u <ℤ v → x <ℤ y) → (u ≡ v → x ≡ y) → (v <ℤ u → y <ℤ x) → o ≡ int_cmp x y
alike u v x y Less m f g h = int_cmp_is x y Less (f m)
alike u v x y Equal m f g h = int_cmp_is x y Equal (g m)
alike u v x y Greater m f g h = int_cmp_is x y Greater (h m)

-- the order of two fractions, by their cross products
order_of_ratios : (a : ℤ) (b : Positive) (c : ℤ) (d : Positive) → rational_cmp (ratio a b) (ratio c d) ≡ int_cmp (a *ℤ pos d.size) (c *ℤ pos b.size)
order_of_ratios a b c d =
    let p = ratio a b in
    let q = ratio c d in
    alike (p.num *ℤ pos q.den) (q.num *ℤ pos p.den) (a *ℤ pos d.size) (c *ℤ pos b.size) (rational_cmp p q) (int_ranked _ _ (rational_cmp p q) refl)
    (λ h. (lt_is_cross a b c d).0 (record { lt = h })) (λ e. same_ratio a b c d (same_cross p q e)) (λ h. (lt_is_cross c d a b).0 (record { lt = h }))

order_of_pairs : (a : ℤ) (b : Positive) (c : ℤ) (d : Positive) (p q : ℚ) → p ≡ ratio a b → q ≡ ratio c d → rational_cmp p q ≡ int_cmp (a *ℤ pos d.size) (c *ℤ pos b.size)
order_of_pairs a b c d p q e f = rw (e, f) (order_of_ratios a b c d)

-- ---- products and quotients as fractions

product_ratio : (a t : ℚ) → a *ℚ t ≡ ratio (a.num *ℤ t.num) (bottom a *⁺ bottom t)
unfolding ◌*ℚ◌
product_ratio a t = refl

reciprocal_ratio : (s : ℚ) (n : Positive) → s.num ≡ pos n.size → reciprocal s ≡ ratio (pos s.den) n
unfolding reciprocal
reciprocal_ratio s n e = ap (λ m. reciprocal_of m s.den) e ∙ fraction_is (pos s.den) n.size n.some

quotient_ratio : (a s : ℚ) (n : Positive) → s.num ≡ pos n.size → a /ℚ s ≡ ratio (a.num *ℤ pos s.den) (bottom a *⁺ n)
quotient_ratio a s n e =
    ap (λ r. a *ℚ r) (reciprocal_ratio s n e) ∙ ap (λ p. p *ℚ ratio (pos s.den) n) (sym (ratio_parts a)) ∙ ratio_mul a.num (bottom a) (pos s.den) n

-- the numerator of a number above 0
above_pos : (s : ℚ) → zero_ℚ <ℚ s → 0 < unsigned_abs s.num
above_pos s h = let k = num_of_positive s h in omega (arith, ints)

abbrev above : (s : ℚ) → zero_ℚ <ℚ s → Positive
above s h = record { size = unsigned_abs s.num; some = above_pos s h }

above_is : (s : ℚ) (h : zero_ℚ <ℚ s) → s.num ≡ pos (unsigned_abs s.num)
above_is s h = let k = num_of_positive s h in omega (arith, ints)

flat_product : (x y : ℤ) (n d e : ℕ) → y ≡ pos n → (x *ℤ y) *ℤ pos (d * e) ≡ x *ℤ pos (n * (d * e))
flat_product x y n d e h = rw (h, as_diff x) (simp diffs (same_diff _ _ _ _ (omega arith)))

flat_quotient : (x : ℤ) (n d e : ℕ) → (x *ℤ pos e) *ℤ pos (d * n) ≡ x *ℤ pos (n * (d * e))
flat_quotient x n d e = rw (as_diff x) (simp diffs (same_diff _ _ _ _ (omega arith)))

-- ---- sizes and signs

not_below : (x : ℤ) (n : ℕ) → ¬ (x <ℤ pos 0) → x *ℤ pos n ≡ pos (unsigned_abs x * n)
not_below (pos k) n h = refl
not_below (negsuc k) n h = absurd (h (omega (arith, ints)))

below : (x : ℤ) (n : ℕ) → x <ℤ pos 0 → x *ℤ pos n ≡ neg_ℤ (pos (unsigned_abs x * n))
below (pos k) n h = absurd (omega (arith, ints))
below (negsuc k) n h = neg-*ℤ (pos (suc k)) (pos n)

by_sizes : (u v : ℕ) (o : Ordering) → MatchOrdering o (u < v) (u ≡ v) (v < u) → o ≡ int_cmp (pos u) (pos v)
by_sizes u v Less m = int_cmp_is (pos u) (pos v) Less (by u v m)
  where
    by : (u v : ℕ) → u < v → pos u <ℤ pos v
    by u v m = omega (arith, ints)
by_sizes u v Equal m = int_cmp_is (pos u) (pos v) Equal (ap pos m)
by_sizes u v Greater m = int_cmp_is (pos u) (pos v) Greater (by u v m)
  where
    by : (u v : ℕ) → v < u → pos v <ℤ pos u
    by u v m = omega (arith, ints)

by_sizes_below : (u v : ℕ) (o : Ordering) → MatchOrdering o (v < u) (v ≡ u) (u < v) → o ≡ int_cmp (neg_ℤ (pos u)) (neg_ℤ (pos v))
by_sizes_below u v Less m = int_cmp_is (neg_ℤ (pos u)) (neg_ℤ (pos v)) Less (by u v m)
  where
    by : (u v : ℕ) → v < u → neg_ℤ (pos u) <ℤ neg_ℤ (pos v)
    by u v m = omega (arith, ints)
by_sizes_below u v Equal m = int_cmp_is (neg_ℤ (pos u)) (neg_ℤ (pos v)) Equal (ap (λ (n : ℕ). neg_ℤ (pos n)) (sym m))
by_sizes_below u v Greater m = int_cmp_is (neg_ℤ (pos u)) (neg_ℤ (pos v)) Greater (by u v m)
  where
    by : (u v : ℕ) → u < v → neg_ℤ (pos v) <ℤ neg_ℤ (pos u)
    by u v m = omega (arith, ints)

-- the order of a t and b s, for t and s above 0
module _ (a t b s : ℚ) (t_above : zero_ℚ <ℚ t) (s_above : zero_ℚ <ℚ s) where
  -- what a's numerator is multiplied with, and b's
  abbrev left : ℕ
  left = unsigned_abs t.num * (b.den * s.den)

  abbrev right : ℕ
  right = unsigned_abs s.num * (a.den * t.den)

  order_of_products : rational_cmp (a *ℚ t) (b *ℚ s) ≡ int_cmp (a.num *ℤ pos left) (b.num *ℤ pos right)
  order_of_products =
      order_of_pairs (a.num *ℤ t.num) (bottom a *⁺ bottom t) (b.num *ℤ s.num) (bottom b *⁺ bottom s) (a *ℚ t) (b *ℚ s) (product_ratio a t) (product_ratio b s)
      ∙ ap (λ x. int_cmp x ((b.num *ℤ s.num) *ℤ pos (a.den * t.den))) (flat_product a.num t.num (unsigned_abs t.num) b.den s.den (above_is t t_above))
      ∙ ap (λ y. int_cmp (a.num *ℤ pos left) y) (flat_product b.num s.num (unsigned_abs s.num) a.den t.den (above_is s s_above))

  order_of_quotients : rational_cmp (a /ℚ s) (b /ℚ t) ≡ int_cmp (a.num *ℤ pos left) (b.num *ℤ pos right)
  order_of_quotients =
      order_of_pairs (a.num *ℤ pos s.den) (bottom a *⁺ above s s_above) (b.num *ℤ pos t.den) (bottom b *⁺ above t t_above) (a /ℚ s) (b /ℚ t)
      (quotient_ratio a s (above s s_above) (above_is s s_above)) (quotient_ratio b t (above t t_above) (above_is t t_above))
      ∙ ap (λ x. int_cmp x ((b.num *ℤ pos t.den) *ℤ pos (a.den * unsigned_abs s.num))) (flat_quotient a.num (unsigned_abs t.num) b.den s.den)
      ∙ ap (λ y. int_cmp (a.num *ℤ pos left) y) (flat_quotient b.num (unsigned_abs s.num) a.den t.den)

  -- quotients compare as cross products do
  pub quotients_by_products : rational_cmp (a *ℚ t) (b *ℚ s) ≡ rational_cmp (a /ℚ s) (b /ℚ t)
  quotients_by_products = order_of_products ∙ sym order_of_quotients

  left_pos : 0 < left
  left_pos = mul-pos (above_pos t t_above) (mul-pos b.lowest.positive s.lowest.positive)

  right_pos : 0 < right
  right_pos = mul-pos (above_pos s s_above) (mul-pos a.lowest.positive t.lowest.positive)

  abbrev left_cross : ℕ
  left_cross = unsigned_abs a.num * unsigned_abs t.num * b.den * s.den

  abbrev right_cross : ℕ
  right_cross = unsigned_abs b.num * unsigned_abs s.num * a.den * t.den

  left_is : unsigned_abs a.num * left ≡ left_cross
  left_is = omega arith

  right_is : unsigned_abs b.num * right ≡ right_cross
  right_is = omega arith

  pub none_below : (l r : ℕ) → l ≡ left_cross → r ≡ right_cross → ¬ (a.num <ℤ pos 0) → ¬ (b.num <ℤ pos 0) → (o : Ordering) → o ≡ nat_cmp l r → o ≡ rational_cmp (a *ℚ t) (b *ℚ s)
  none_below l r e f h k o g =
      by_sizes left_cross right_cross o (ranked left_cross right_cross o (g ∙ ap (λ l. nat_cmp l r) e ∙ ap (nat_cmp left_cross) f))
      ∙ ap (λ x. int_cmp x (pos right_cross)) (ap pos (sym left_is) ∙ sym (not_below a.num left h))
      ∙ ap (λ y. int_cmp (a.num *ℤ pos left) y) (ap pos (sym right_is) ∙ sym (not_below b.num right k)) ∙ sym order_of_products

  pub both_below : (l r : ℕ) → l ≡ left_cross → r ≡ right_cross → a.num <ℤ pos 0 → b.num <ℤ pos 0 → (o : Ordering) → o ≡ nat_cmp r l → o ≡ rational_cmp (a *ℚ t) (b *ℚ s)
  both_below l r e f h k o g =
      by_sizes_below left_cross right_cross o (ranked right_cross left_cross o (g ∙ ap (λ r. nat_cmp r l) f ∙ ap (nat_cmp right_cross) e))
      ∙ ap (λ x. int_cmp x (neg_ℤ (pos right_cross))) (ap (λ (n : ℕ). neg_ℤ (pos n)) (sym left_is) ∙ sym (below a.num left h))
      ∙ ap (λ y. int_cmp (a.num *ℤ pos left) y) (ap (λ (n : ℕ). neg_ℤ (pos n)) (sym right_is) ∙ sym (below b.num right k)) ∙ sym order_of_products

  pub first_below : a.num <ℤ pos 0 → ¬ (b.num <ℤ pos 0) → Less ≡ rational_cmp (a *ℚ t) (b *ℚ s)
  first_below h k =
      int_cmp_is _ _ Less (apart (a.num) (b.num) h k) ∙ sym order_of_products
    where
      apart : (x y : ℤ) → x <ℤ pos 0 → ¬ (y <ℤ pos 0) → (x *ℤ pos left) <ℤ (y *ℤ pos right)
      apart x y h k = rw (below x left h, not_below y right k) (negative (unsigned_abs x * left) (unsigned_abs y * right) (mul-pos (size x h) left_pos))
        where
          size : (x : ℤ) → x <ℤ pos 0 → 0 < unsigned_abs x
          size x h = omega (arith, ints)

          negative : (u v : ℕ) → 0 < u → neg_ℤ (pos u) <ℤ pos v
          negative u v h = omega (arith, ints)

  pub second_below : ¬ (a.num <ℤ pos 0) → b.num <ℤ pos 0 → Greater ≡ rational_cmp (a *ℚ t) (b *ℚ s)
  second_below h k =
      int_cmp_is _ _ Greater (apart (a.num) (b.num) h k) ∙ sym order_of_products
    where
      apart : (x y : ℤ) → ¬ (x <ℤ pos 0) → y <ℤ pos 0 → (y *ℤ pos right) <ℤ (x *ℤ pos left)
      apart x y h k = rw (not_below x left h, below y right k) (negative (unsigned_abs y * right) (unsigned_abs x * left) (mul-pos (size y k) right_pos))
        where
          size : (x : ℤ) → x <ℤ pos 0 → 0 < unsigned_abs x
          size x h = omega (arith, ints)

          negative : (u v : ℕ) → 0 < u → neg_ℤ (pos u) <ℤ pos v
          negative u v h = omega (arith, ints)
