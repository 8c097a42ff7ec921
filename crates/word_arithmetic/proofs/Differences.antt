-- The difference of odd numbers without its factors 2.
use Rattle.std.proofs.Common.{◌≡◌, ◌≢◌, ◌⊎◌, inl, inr, ℕ, zero, suc, ◌+◌, ◌-◌, ◌*◌, ◌/◌, ◌%◌, ◌^◌, ◌≤◌, ◌<◌, w64, arith, sym, ap, subst, ◌∙◌}
use Rattle.std.specs.Prelude.{min, bit_and}
use Rattle.std.specs.Int.{Width, w128, abs_diff, trailing_zeros}
use mir.Val.{bits}
use Rattle.std.proofs.lemmas.Bool.{cases_lt}
use Rattle.std.proofs.lemmas.Nat.{pow-add, pow_pos, and_mask}
use Rattle.std.proofs.lemmas.Nat.Bits.{bit_at-trailing_zeros}
use Rattle.std.proofs.Math.Nat.{mul-div_cancel_left, pow-succ', le_of_mul-le-mul_left}
use Rattle.rational.specs.Divisors.{gcd_of, gcd_comm, gcd-zero}
use Rattle.word_arithmetic.proofs.Twos.{gcd_double, gcd_difference, whole_shift}

pub gcd_same : (y : ℕ) → gcd_of y y ≡ y
gcd_same y = sym (gcd_difference y y (omega arith)) ∙ ap (λ t. gcd_of t y) (omega arith) ∙ gcd_comm 0 y ∙ gcd-zero y

-- factors 2 are not in common with an odd number
pub gcd_twos : (k m y : ℕ) → y % 2 ≡ 1 → gcd_of (2 ^ k * m) y ≡ gcd_of m y
gcd_twos zero m y h = ap (λ t. gcd_of t y) (omega arith)
gcd_twos (suc k) m y h =
    let e : 2 ^ suc k * m ≡ 2 * (2 ^ k * m) = omega (arith, ap (λ t. t * m) (pow-succ' 2 k)) in
    ap (λ t. gcd_of t y) e ∙ gcd_double (2 ^ k * m) y h ∙ gcd_twos k m y h

gcd_apart : (x y : ℕ) → gcd_of (abs_diff x y) (min x y) ≡ gcd_of x y
gcd_apart x y = by_order (cases_lt x y)
  where
    by_order : (x < y) ⊎ (y ≤ x) → gcd_of (abs_diff x y) (min x y) ≡ gcd_of x y
    by_order (inl h) =
        let e : abs_diff x y ≡ y - x = omega arith in
        let f : min x y ≡ x = omega arith in
        rw (e, f) (gcd_difference y x (omega arith) ∙ gcd_comm y x)
    by_order (inr h) =
        let e : abs_diff x y ≡ x - y = omega arith in
        let f : min x y ≡ y = omega arith in
        rw (e, f) (gcd_difference x y h)

-- d is 2^k times an odd number
pub record IsOddTimes (d k : ℕ) : Type 0 where
  pub odd : (d / 2 ^ k) % 2 ≡ 1
  pub whole : 2 ^ k * (d / 2 ^ k) ≡ d

times_is : (d k m : ℕ) → d ≡ 2 ^ k * m → m % 2 ≡ 1 → IsOddTimes d k
times_is d k m e o =
    let p : 0 < 2 ^ k = pow_pos k in
    let q : d / 2 ^ k ≡ m = ap (λ t. t / 2 ^ k) e ∙ mul-div_cancel_left m p in
    record { odd = ap (λ t. t % 2) q ∙ o; whole = ap (λ t. 2 ^ k * t) q ∙ sym e }

-- by its trailing zeros
pub lowest_times : (w : Width) (z : ℕ) → z ≢ 0 → z < 2 ^ bits w → (trailing_zeros w z < bits w) × IsOddTimes z (trailing_zeros w z)
lowest_times w z some fits =
    let t = bit_at-trailing_zeros w z (omega arith) fits in
    let k = trailing_zeros w z in
    (t.0, record { odd = t.1; whole = omega (arith, whole_shift z k t.2) })

-- a power of two past the place k
even_power : (n k : ℕ) → k < n → 2 ^ n ≡ 2 ^ k * (2 * 2 ^ (n - suc k))
even_power n k h =
    let e : 2 ^ (k + suc (n - suc k)) ≡ 2 ^ k * 2 ^ suc (n - suc k) = pow-add 2 k (suc (n - suc k)) in
    let f : k + suc (n - suc k) ≡ n = omega arith in
    ap (λ t. 2 ^ t) (sym f) ∙ e ∙ ap (λ t. 2 ^ k * t) (omega (arith, pow-succ' 2 (n - suc k)))

above : (n k z d c : ℕ) → k < n → IsOddTimes z k → d ≡ z + 2 ^ n * c → IsOddTimes d k
above n k z d c h t e =
    let q = z / 2 ^ k in
    let r = 2 ^ (n - suc k) in
    let odd = t.odd in
    let p : 2 ^ n * c ≡ 2 ^ k * (2 * (r * c)) = omega (arith, ap (λ t. t * c) (even_power n k h)) in
    times_is d k (q + 2 * (r * c)) (omega (arith, t.whole)) (omega arith)

across : (n k z d c : ℕ) → k < n → IsOddTimes z k → z + d ≡ 2 ^ n * c → IsOddTimes d k
across n k z d c h t e =
    let q = z / 2 ^ k in
    let r = 2 ^ (n - suc k) in
    let odd = t.odd in
    let p : 2 ^ n * c ≡ 2 ^ k * (2 * (r * c)) = omega (arith, ap (λ t. t * c) (even_power n k h)) in
    let less : 2 ^ k * q ≤ 2 ^ k * (2 * (r * c)) = omega (arith, t.whole) in
    let l : q ≤ 2 * (r * c) = le_of_mul-le-mul_left less (pow_pos k) in
    let m = 2 * (r * c) - q in
    let s : m + q ≡ 2 * (r * c) = omega arith in
    times_is d k m (omega (arith, t.whole, ap (λ t. 2 ^ k * t) s)) (omega arith)

-- a number of n digits is another, or its negative, as far as these digits go
abbrev pub IsUpToSign : ℕ → ℕ → ℕ → Type 0
IsUpToSign n z d = ((c : ℕ) × (d ≡ z + 2 ^ n * c)) ⊎ ((c : ℕ) × (z + d ≡ 2 ^ n * c))

pub sign_times : (w : Width) (z d : ℕ) → z ≢ 0 → z < 2 ^ bits w → IsUpToSign (bits w) z d → (trailing_zeros w z < bits w) × IsOddTimes d (trailing_zeros w z)
sign_times w z d some fits (inl e) = let t = lowest_times w z some fits in (t.0, above (bits w) (trailing_zeros w z) z d e.0 t.0 t.1 e.1)
sign_times w z d some fits (inr e) = let t = lowest_times w z some fits in (t.0, across (bits w) (trailing_zeros w z) z d e.0 t.0 t.1 e.1)

-- the wrapped difference of words, and of the low words of longer numbers
pub word_sign : (x y : ℕ) → x < 2 ^ 64 → y < 2 ^ 64 → IsUpToSign 64 ((y + (2 ^ 64 - x)) % 2 ^ 64) (abs_diff x y)
word_sign x y h k = by_order (cases_lt x y)
  where
    by_order : (x < y) ⊎ (y ≤ x) → IsUpToSign 64 ((y + (2 ^ 64 - x)) % 2 ^ 64) (abs_diff x y)
    by_order (inl l) = inl (0, omega arith)
    by_order (inr l) = inr (((y + (2 ^ 64 - x)) % 2 ^ 64 + abs_diff x y) / 2 ^ 64, omega arith)

pub low_sign : (x y : ℕ) → IsUpToSign 64 ((x % 2 ^ 64 + (2 ^ 64 - y % 2 ^ 64)) % 2 ^ 64) (abs_diff x y)
low_sign x y = by_order (cases_lt x y)
  where
    d : ℕ
    d = abs_diff x y

    z : ℕ
    z = (x % 2 ^ 64 + (2 ^ 64 - y % 2 ^ 64)) % 2 ^ 64

    by_order : (x < y) ⊎ (y ≤ x) → IsUpToSign 64 z d
    by_order (inl l) = inr ((z + d) / 2 ^ 64, omega arith)
    by_order (inr l) = inl (d / 2 ^ 64, omega arith)

-- one turn of the loop over differences without their factors 2
pub turn : (x y k : ℕ) → x % 2 ≡ 1 → y % 2 ≡ 1 → IsOddTimes (abs_diff x y) k → gcd_of (abs_diff x y / 2 ^ k) (min x y) ≡ gcd_of x y
turn x y k ox oy t =
    let o : min x y % 2 ≡ 1 = omega arith in
    sym (gcd_twos k (abs_diff x y / 2 ^ k) (min x y) o) ∙ ap (λ t. gcd_of t (min x y)) t.whole ∙ gcd_apart x y

-- what a turn keeps: both numbers odd, and their divisors
abbrev pub Keeps : ℕ → ℕ → ℕ → ℕ → Type 0
Keeps x y d least = (d % 2 ≡ 1) × (least % 2 ≡ 1) × (gcd_of d least ≡ gcd_of x y)

pub keeps : (x y k d least : ℕ) → x % 2 ≡ 1 → y % 2 ≡ 1 → d ≡ abs_diff x y → least ≡ min x y → IsOddTimes (abs_diff x y) k → Keeps x y (d / 2 ^ k) least
keeps x y k d least ox oy e f t = rw (e, f) (t.odd, omega arith, turn x y k ox oy t)

pub word_keeps : (x y d least : ℕ) → x < 2 ^ 64 → y < 2 ^ 64 → x % 2 ≡ 1 → y % 2 ≡ 1 → x ≢ y → d ≡ abs_diff x y → least ≡ min x y →
    Keeps x y (d / 2 ^ trailing_zeros w64 ((y + (2 ^ 64 - x)) % 2 ^ 64)) least
word_keeps x y d least h k ox oy n e f =
    let z = (y + (2 ^ 64 - x)) % 2 ^ 64 in
    let t = sign_times w64 z (abs_diff x y) (omega arith) (omega arith) (word_sign x y h k) in
    keeps x y (trailing_zeros w64 z) d least ox oy e f t.1

-- the wrapped difference of the low words
abbrev pub low_difference : ℕ → ℕ → ℕ
low_difference x y = (bit_and x (2 ^ 64 - 1) + (2 ^ 64 - bit_and y (2 ^ 64 - 1))) % 2 ^ 64

pub low_keeps : (x y d least : ℕ) → low_difference x y ≢ 0 → x % 2 ≡ 1 → y % 2 ≡ 1 → d ≡ abs_diff x y → least ≡ min x y →
    Keeps x y (d / 2 ^ trailing_zeros w64 (low_difference x y)) least
low_keeps x y d least n ox oy e f =
    let z = low_difference x y in
    let sign : IsUpToSign 64 z (abs_diff x y) = rw (and_mask x 64, and_mask y 64) (low_sign x y) in
    let t = sign_times w64 z (abs_diff x y) n (omega arith) sign in
    keeps x y (trailing_zeros w64 z) d least ox oy e f t.1

pub whole_keeps : (x y d least : ℕ) → d < 2 ^ 128 → x % 2 ≡ 1 → y % 2 ≡ 1 → x ≢ y → d ≡ abs_diff x y → least ≡ min x y → Keeps x y (d / 2 ^ trailing_zeros w128 d) least
whole_keeps x y d least h ox oy n e f =
    let t = lowest_times w128 d (omega arith) h in
    keeps x y (trailing_zeros w128 d) d least ox oy e f (subst (λ n. IsOddTimes n (trailing_zeros w128 d)) e t.1)
