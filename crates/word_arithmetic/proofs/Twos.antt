-- Halves, and powers of two, in greatest common divisors.
use Rattle.std.proofs.Common.{◌≡◌, ◌⊎◌, inl, inr, ℕ, zero, suc, ◌+◌, ◌-◌, ◌*◌, ◌/◌, ◌%◌, ◌^◌, ◌≤◌, ◌<◌, arith, add-one, sym, ap, ◌∙◌, subst}
use Rattle.std.proofs.Common.{◌≢◌, w64}
use Rattle.std.specs.Prelude.{min}
use Rattle.std.specs.Int.{Width, w128, bit_at, trailing_zeros}
use mir.Val.{bits}
use Rattle.std.proofs.lemmas.Bool.{cases_lt}
use Rattle.std.proofs.lemmas.Nat.Bits.{bit_at-trailing_zeros}
use Rattle.std.proofs.Math.Nat.{dvd-mul_left, dvd_trans, mul-dvd-mul_right, div-add-mod, mod-eq_of_lt, pow-succ'}
use Rattle.std.proofs.lemmas.Nat.{shr-shr}
use Rattle.std.proofs.lemmas.Nat.Gcd.{same_from_IsGcd, IsGcd-from_sub}
use Rattle.rational.specs.Divisors.{gcd_of, gcd_step, gcd_pos, gcd_le, gcd_comm, IsGcd-gcd_of, gcd_scaled, coprime_divisor, dvd_from_coprime}

-- the digits of x below the place k are 0
abbrev pub IsEven : ℕ → ℕ → Type 0
IsEven k x = (i : ℕ) → i < k → bit_at x i ≡ 0

pub gcd-one : (a : ℕ) → gcd_of a 1 ≡ 1
gcd-one a = omega (arith, gcd_pos a 1 (omega arith), gcd_le a 1 (omega arith))

odd_coprime : (y : ℕ) → y % 2 ≡ 1 → gcd_of y 2 ≡ 1
odd_coprime y h = sym (gcd_step y 2) ∙ ap (gcd_of 2) h ∙ gcd-one 2

-- a factor 2 is not in common with an odd number
pub gcd_double : (m y : ℕ) → y % 2 ≡ 1 → gcd_of (2 * m) y ≡ gcd_of m y
gcd_double m y h =
    let g = gcd_of (2 * m) y in
    let is_g = IsGcd-gcd_of (2 * m) y in
    let odd : gcd_of g 2 ≡ 1 = coprime_divisor y g 2 is_g.1 (odd_coprime y h) in
    same_from_IsGcd m y g (gcd_of m y) (dvd_from_coprime g 2 m odd is_g.0, is_g.1, λ d p q. is_g.2 d (dvd_trans d p (dvd-mul_left m 2)) q) (IsGcd-gcd_of m y)

half : (x k : ℕ) → bit_at x k ≡ 0 → x / 2 ^ k ≡ 2 * (x / 2 ^ suc k)
half x k h =
    let e : x / 2 ^ k / 2 ^ 1 ≡ x / 2 ^ (k + 1) = shr-shr x k 1 in
    let f : x / 2 ^ k ≡ 2 * (x / 2 ^ (k + 1)) = omega (arith, div-add-mod (x / 2 ^ k) 2) in
    subst (λ n. x / 2 ^ k ≡ 2 * (x / 2 ^ n)) (add-one k) f

pub gcd_halves : (x y : ℕ) → y % 2 ≡ 1 → (k : ℕ) → IsEven k x → gcd_of (x / 2 ^ k) y ≡ gcd_of x y
gcd_halves x y odd zero h = ap (λ t. gcd_of t y) (omega arith)
gcd_halves x y odd (suc k) h =
    let e = half x k (h k (omega arith)) in
    sym (gcd_double (x / 2 ^ suc k) y odd) ∙ ap (λ t. gcd_of t y) (sym e) ∙ gcd_halves x y odd k (λ i l. h i (omega arith))

pub whole_shift : (x k : ℕ) → IsEven k x → x / 2 ^ k * 2 ^ k ≡ x
whole_shift x zero h = omega arith
whole_shift x (suc k) h =
    let e = half x k (h k (omega arith)) in
    let p = pow-succ' 2 k in
    omega (arith, whole_shift x k (λ i l. h i (omega arith)), ap (λ t. t * 2 ^ k) e, ap (λ t. x / 2 ^ suc k * t) p)

gcd_times : (a b c : ℕ) → gcd_of (a * c) (b * c) ≡ gcd_of a b * c
gcd_times a b c =
    let is_g = IsGcd-gcd_of a b in
    same_from_IsGcd (a * c) (b * c) _ _ (IsGcd-gcd_of (a * c) (b * c)) (mul-dvd-mul_right (gcd_of a b) is_g.0 c, mul-dvd-mul_right (gcd_of a b) is_g.1 c, λ d p q. gcd_scaled a b c d p q)

-- the digits above the place k
even_above : (x m k : ℕ) → IsEven (m + k) x → IsEven k (x / 2 ^ m)
even_above x m k h = λ i l. ap (λ t. t % 2) (shr-shr x m i) ∙ h (m + i) (omega arith)

-- with the powers of two out: of the first number the common one, of the second all
pub gcd_by_twos : (a b i j m : ℕ) → IsEven i a → bit_at a i ≡ 1 → IsEven j b → (m ≡ i) ⊎ (m ≡ j) → m ≤ i → m ≤ j → gcd_of (a / 2 ^ m) (b / 2 ^ j) * 2 ^ m ≡ gcd_of a b
gcd_by_twos a b i j m ea odd eb case hi hj =
    ap (λ t. t * 2 ^ m) (odd_part case) ∙ sym (gcd_times (a / 2 ^ m) (b / 2 ^ m) (2 ^ m)) ∙ ap (λ t. gcd_of t (b / 2 ^ m * 2 ^ m)) (whole_shift a m (λ k l. ea k (omega arith)))
    ∙ ap (gcd_of a) (whole_shift b m (λ k l. eb k (omega arith)))
  where
    rest : m + (j - m) ≡ j
    rest = omega arith

    odd_part : (m ≡ i) ⊎ (m ≡ j) → gcd_of (a / 2 ^ m) (b / 2 ^ j) ≡ gcd_of (a / 2 ^ m) (b / 2 ^ m)
    odd_part (inl e) =
        let o : (a / 2 ^ m) % 2 ≡ 1 = ap (λ t. a / 2 ^ t % 2) e ∙ odd in
        ap (λ t. gcd_of (a / 2 ^ m) (b / 2 ^ t)) (sym rest) ∙ ap (gcd_of (a / 2 ^ m)) (sym (shr-shr b m (j - m)))
        ∙ gcd_comm (a / 2 ^ m) (b / 2 ^ m / 2 ^ (j - m))
        ∙ gcd_halves (b / 2 ^ m) (a / 2 ^ m) o (j - m) (even_above b m (j - m) (subst (λ t. IsEven t b) (sym rest) eb)) ∙ gcd_comm (b / 2 ^ m) (a / 2 ^ m)
    odd_part (inr e) = ap (λ t. gcd_of (a / 2 ^ m) (b / 2 ^ t)) (sym e)

-- a difference has the same divisors in common
pub gcd_difference : (a b : ℕ) → b ≤ a → gcd_of (a - b) b ≡ gcd_of a b
gcd_difference a b h = same_from_IsGcd a b _ _ (IsGcd-from_sub a b _ h (IsGcd-gcd_of (a - b) b)) (IsGcd-gcd_of a b)

which_min : (i j : ℕ) → (min i j ≡ i) ⊎ (min i j ≡ j)
which_min i j = by_order (cases_lt i j)
  where
    by_order : (i < j) ⊎ (j ≤ i) → (min i j ≡ i) ⊎ (min i j ≡ j)
    by_order (inl h) = inl (omega arith)
    by_order (inr h) = inr (omega arith)

-- what two numbers have in common, by their odd parts
pub gcd_shifted : (w : Width) (a b m g : ℕ) → a ≢ 0 → b ≢ 0 → a < 2 ^ bits w → b < 2 ^ bits w → m ≡ min (trailing_zeros w a) (trailing_zeros w b) →
    g ≡ gcd_of (a / 2 ^ trailing_zeros w a) (b / 2 ^ trailing_zeros w b) → g * 2 ^ m % 2 ^ bits w ≡ gcd_of a b
gcd_shifted w a b m g some_a some_b fits_a fits_b em eg =
    let ta = bit_at-trailing_zeros w a (omega arith) fits_a in
    let tb = bit_at-trailing_zeros w b (omega arith) fits_b in
    let i = trailing_zeros w a in
    let j = trailing_zeros w b in
    let case = subst (λ n. (n ≡ i) ⊎ (n ≡ j)) (sym em) (which_min i j) in
    let le_i : m ≤ i = omega arith in
    let rest : m + (i - m) ≡ i = omega arith in
    let odd : gcd_of (a / 2 ^ i) (b / 2 ^ j) ≡ gcd_of (a / 2 ^ m) (b / 2 ^ j) = ap (λ t. gcd_of (a / 2 ^ t) (b / 2 ^ j)) (sym rest) ∙ ap (λ t. gcd_of t (b / 2 ^ j)) (sym (shr-shr a m (i - m)))
    ∙ gcd_halves (a / 2 ^ m) (b / 2 ^ j) tb.1 (i - m) (even_above a m (i - m) (subst (λ t. IsEven t a) (sym rest) ta.2)) in
    let e : g * 2 ^ m ≡ gcd_of a b = ap (λ t. t * 2 ^ m) (eg ∙ odd) ∙ gcd_by_twos a b i j m ta.2 ta.1 tb.2 case le_i (omega arith) in
    let small : gcd_of a b < 2 ^ bits w = omega (arith, gcd_le a b (omega arith)) in
    ap (λ t. t % 2 ^ bits w) e ∙ mod-eq_of_lt small

-- the same of a longer number with one of 64 bits, which alone is divided by its factors 2
pub gcd_long : (a b m g : ℕ) → a ≢ 0 → b ≢ 0 → a < 2 ^ 128 → b < 2 ^ 64 → m ≡ min (trailing_zeros w128 a) (trailing_zeros w64 b) →
    g ≡ gcd_of a (b / 2 ^ trailing_zeros w64 b) → g * 2 ^ m % 2 ^ 64 ≡ gcd_of a b
gcd_long a b m g some_a some_b fits_a fits_b em eg =
    let ta = bit_at-trailing_zeros w128 a (omega arith) fits_a in
    let tb = bit_at-trailing_zeros w64 b (omega arith) fits_b in
    let i = trailing_zeros w128 a in
    let j = trailing_zeros w64 b in
    let case = subst (λ n. (n ≡ i) ⊎ (n ≡ j)) (sym em) (which_min i j) in
    let le_i : m ≤ i = omega arith in
    let halves : gcd_of (a / 2 ^ m) (b / 2 ^ j) ≡ gcd_of a (b / 2 ^ j) = gcd_halves a (b / 2 ^ j) tb.1 m (λ k l. ta.2 k (omega arith)) in
    let e : g * 2 ^ m ≡ gcd_of a b = ap (λ t. t * 2 ^ m) (eg ∙ sym halves) ∙ gcd_by_twos a b i j m ta.2 ta.1 tb.2 case le_i (omega arith) in
    let small : gcd_of a b < 2 ^ 64 = omega (arith, gcd_le a b (omega arith)) in
    ap (λ t. t % 2 ^ 64) e ∙ mod-eq_of_lt small
