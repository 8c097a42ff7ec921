-- Inverses modulo powers of two.
use Rattle.std.proofs.Common.{◌≡◌, ◌⊎◌, inl, inr, ℕ, ◌+◌, ◌*◌, ◌/◌, ◌%◌, ◌^◌, ◌≤◌, ◌<◌, arith, sym, ap, subst, ◌∙◌}
use Rattle.std.specs.Int.{◌∣◌, abs_diff}
use Rattle.std.proofs.lemmas.Bool.{cases_lt}
use Rattle.std.proofs.lemmas.Nat.{pow_pos, pow-add, mul-mod_first, mul-mod_second}
use Rattle.std.proofs.lemmas.Nat.Gcd.{same_from_IsGcd, dvd_of_mod-eq-zero, mod-eq-zero_of_dvd}
use Rattle.std.proofs.Math.Nat.{mul-div_cancel', mul-div_cancel_left, div-mul_cancel, div-le_self, div-add-mod, dvd-mul_right, dvd-mul_left, dvd_trans, mul-dvd-mul, dvd-add_iff_right, add-mul-mod_self_left, add-mul-mod_self_right, mod-eq_of_lt, mod-add-mod}
use Rattle.rational.specs.Divisors.{gcd_of, gcd_step, IsGcd-gcd_of}
use Rattle.word_arithmetic.proofs.Differences.{gcd_twos, IsOddTimes}

-- one of Newton's steps
pub newton : (n o x j k : ℕ) → j + j + k ≡ n → 2 ^ j ∣ o * x + 1 → 2 ^ (j + j) ∣ o * ((x * (((o * x) % 2 ^ n + 2) % 2 ^ n)) % 2 ^ n) + 1
newton n o x j k e h =
    let s = x * (o * x + 2) in
    let word = 2 ^ n in
    let same : (x * (((o * x) % word + 2) % word)) % word ≡ s % word =
    mul-mod_second x ((o * x) % word + 2) word ∙ sym (mul-mod_second x ((o * x) % word + 2) word)
    ∙ ap (λ t. (x * t) % word) (mod-add-mod (o * x) word 2) ∙ mul-mod_second x (o * x + 2) word in
    let square : (o * x + 1) * (o * x + 1) ≡ o * s + 1 = omega arith in
    let divides : 2 ^ (j + j) ∣ o * s + 1 = subst (λ t. 2 ^ (j + j) ∣ t) square (subst (λ t. t ∣ (o * x + 1) * (o * x + 1)) (sym (pow-add 2 j j)) (mul-dvd-mul (2 ^ j) (2 ^ j) h h)) in
    let in_word : 2 ^ (j + j) ∣ word = subst (λ n. 2 ^ (j + j) ∣ 2 ^ n) e (subst (λ t. 2 ^ (j + j) ∣ t) (sym (pow-add 2 (j + j) k)) (dvd-mul_right (2 ^ (j + j)) (2 ^ k))) in
    let split : word * (s / word * o) + (o * (s % word) + 1) ≡ o * s + 1 = omega (arith, ap (λ t. t * o) (div-add-mod s word)) in
    let rest : 2 ^ (j + j) ∣ o * (s % word) + 1 =
    (dvd-add_iff_right (2 ^ (j + j)) (dvd_trans (2 ^ (j + j)) in_word (dvd-mul_right word (s / word * o)))).1 (subst (λ t. 2 ^ (j + j) ∣ t) (sym split) divides) in
    subst (λ t. 2 ^ (j + j) ∣ o * t + 1) (sym same) rest

pub congruent : (a b u v m : ℕ) → a + m * v ≡ b + m * u → a % m ≡ b % m
congruent a b u v m e = sym (add-mul-mod_self_left a m v) ∙ ap (λ t. t % m) e ∙ add-mul-mod_self_left b m u

pub multiple_gcd : (a f o : ℕ) → gcd_of (a + f * o) o ≡ gcd_of a o
multiple_gcd a f o = sym (gcd_step (a + f * o) o) ∙ ap (gcd_of o) (add-mul-mod_self_right a f o) ∙ gcd_step a o

complement_gcd : (a b f o : ℕ) → a + b ≡ f * o → gcd_of a o ≡ gcd_of b o
complement_gcd a b f o e =
    let is_a = IsGcd-gcd_of a o in
    let whole : (d : ℕ) → d ∣ o → d ∣ a + b = λ d h. subst (λ t. d ∣ t) (sym e) (dvd_trans d h (dvd-mul_left o f)) in
    let other : (d : ℕ) → d ∣ o → d ∣ b + a = λ d h. subst (λ t. d ∣ t) (omega arith) (whole d h) in
    same_from_IsGcd b o _ _ ((dvd-add_iff_right _ is_a.0).1 (whole _ is_a.1), is_a.1, λ d p q. is_a.2 d ((dvd-add_iff_right d p).1 (other d q)) q) (IsGcd-gcd_of b o)

-- without a multiple of an odd number that ends in the same 64 digits, and without these digits
pub reduced_gcd : (n taken f o : ℕ) → o % 2 ≡ 1 → taken ≡ f * o → taken % 2 ^ 64 ≡ n % 2 ^ 64 → gcd_of (abs_diff (n / 2 ^ 64) (taken / 2 ^ 64)) o ≡ gcd_of n o
reduced_gcd n taken f o odd e low = sym (gcd_twos 64 d o odd) ∙ by_order (cases_lt (n / 2 ^ 64) (taken / 2 ^ 64))
  where
    d : ℕ
    d = abs_diff (n / 2 ^ 64) (taken / 2 ^ 64)

    by_order : (n / 2 ^ 64 < taken / 2 ^ 64) ⊎ (taken / 2 ^ 64 ≤ n / 2 ^ 64) → gcd_of (2 ^ 64 * d) o ≡ gcd_of n o
    by_order (inl h) = complement_gcd (2 ^ 64 * d) n f o (omega (arith, e))
    by_order (inr h) =
        let s : 2 ^ 64 * d + f * o ≡ n = omega (arith, e) in
        sym (multiple_gcd (2 ^ 64 * d) f o) ∙ ap (λ t. gcd_of t o) s

-- low times the inverse, times the number, ends in low
pub ends_in : (low o n p : ℕ) → low < 2 ^ 64 → 2 ^ 64 ∣ o * n + 1 → (p + n) % 2 ^ 64 ≡ 0 → ((low * p) % 2 ^ 64 * o) % 2 ^ 64 ≡ low
ends_in low o n p small h k =
    let u = (p + n) / 2 ^ 64 in
    let v = (o * n + 1) / 2 ^ 64 in
    let eu : p + n ≡ 2 ^ 64 * u = omega arith in
    let ev : o * n + 1 ≡ 2 ^ 64 * v = omega (arith, mod-eq-zero_of_dvd (2 ^ 64) h) in
    let e : low * p * o + 2 ^ 64 * (low * v) ≡ low + 2 ^ 64 * (low * o * u) = omega (arith, ap (λ t. low * o * t) eu, ap (λ t. low * t) ev) in
    mul-mod_first (low * p) o (2 ^ 64) ∙ congruent (low * p * o) low (low * o * u) (low * v) (2 ^ 64) e ∙ mod-eq_of_lt small

-- an inverse of the low digits is one of the whole, as far as these digits go
pub of_low : (o x : ℕ) → 2 ^ 64 ∣ (o % 2 ^ 64) * x + 1 → 2 ^ 64 ∣ o * x + 1
of_low o x h =
    let e : 2 ^ 64 * (o / 2 ^ 64 * x) + ((o % 2 ^ 64) * x + 1) ≡ o * x + 1 = omega (arith, ap (λ t. t * x) (div-add-mod o (2 ^ 64))) in
    subst (λ t. 2 ^ 64 ∣ t) e ((dvd-add_iff_right (2 ^ 64) (dvd-mul_right (2 ^ 64) (o / 2 ^ 64 * x))).0 h)

-- the product with the inverse is the quotient
by_inverse : (m q o v r : ℕ) → q < m → r < m → m ∣ o * v + 1 → (r + (q * o * v) % m) % m ≡ 0 → r ≡ q
by_inverse m q o v r small fits h e =
    let p = q * o * v in
    let c = (o * v + 1) / m in
    let d = (r + p % m) / m in
    let ec : m * c ≡ o * v + 1 = mul-div_cancel' m h in
    let ed : m * d ≡ r + p % m = mul-div_cancel' m (dvd_of_mod-eq-zero m e) in
    let one : r + p ≡ m * (d + p / m) = omega (arith, div-add-mod p m) in
    let two : q + p ≡ m * (q * c) = omega (arith, ap (λ t. q * t) ec) in
    let same : r + m * (q * c) ≡ q + m * (d + p / m) = omega arith in
    sym (mod-eq_of_lt fits) ∙ congruent r q (d + p / m) (q * c) m same ∙ mod-eq_of_lt small

-- of a multiple of a number that is 2^k times an odd one
pub exact : (m n d k v r : ℕ) → 0 < d → d ∣ n → n < m → r < m → IsOddTimes d k → m ∣ d / 2 ^ k * v + 1 → (r + (n / 2 ^ k * v) % m) % m ≡ 0 → r ≡ n / d
exact m n d k v r some h small fits t i e =
    let o = d / 2 ^ k in
    let q = n / d in
    let en : q * d ≡ n = div-mul_cancel d h in
    let shifted : n / 2 ^ k ≡ q * o = ap (λ t. t / 2 ^ k) (omega (arith, en, ap (λ t. q * t) t.whole)) ∙ mul-div_cancel_left (q * o) (pow_pos k) in
    let less : q ≤ n = div-le_self n d in
    by_inverse m q o v r (omega arith) fits i (subst (λ t. (r + (t * v) % m) % m ≡ 0) shifted e)
