-- Powers of ten, and numbers that end in zeros.
use Rattle.std.proofs.Common.{◌≡◌, ◌≢◌, ℕ, zero, suc, add-one, ◌+◌, ◌*◌, ◌/◌, ◌%◌, ◌^◌, ◌<◌, ◌≤◌, refl, sym, ap, ◌∙◌, subst, arith, lit<, lit≤}
use Rattle.std.proofs.Math.Nat.{one-le-pow, pow-le-pow_right, pow-suc, le_trans, lt_of_lt_of_le, lt_of_le_of_lt, mul-le-mul_right, one-mul, mul-one, mul_assoc, add-zero, mul-mod_left, mul-div_cancel, le-mul_of_pos_right}
use Rattle.std.proofs.lemmas.Nat.{mod-mul-add}
use Rattle.std.proofs.lemmas.Bool.{ne_eqb, eq-eqb}
use Rattle.frac_core.specs.Parts.{max_part}
use Rattle.mps_tokens.specs.declared.natural.Natural.{Natural}
use Rattle.mps_tokens.specs.declared.natural.Natural.TheVariants.{Fits, Past}
use Rattle.mps_tokens.specs.Running.{IsCapped, IsShort}
use Rattle.mps_tokens.specs.Numbers.{shortened, shortened_within}

pub ten_pos : (k : ℕ) → 0 < 10 ^ k
ten_pos k = one-le-pow k 10 (lit< tt)

pub power_fits : (k : ℕ) → k ≤ 38 → 10 ^ k ≤ max_part
power_fits k h = le_trans (pow-le-pow_right {n = 10} (lit< tt) h) (lit≤ tt)

pub power_in_word : (k : ℕ) → k ≤ 38 → 10 ^ k < 2 ^ 128
power_in_word k h = lt_of_le_of_lt (power_fits k h) (lit< tt)

grown : (m p : ℕ) → 0 < p → m ≤ m * p
grown m p h = le-mul_of_pos_right m h

-- times 10 to more than 38 no number but 0 fits
pub past_by_power : (n k : ℕ) → n ≢ 0 → 38 < k → max_part < n * 10 ^ k
past_by_power zero k some h = absurd (some refl)
past_by_power (suc n) k some h =
    let large : 10 ^ 39 ≤ 10 ^ k = pow-le-pow_right {n = 10} (lit< tt) h in
    let one : 1 * 10 ^ k ≤ suc n * 10 ^ k = mul-le-mul_right (10 ^ k) (omega arith) in
    lt_of_lt_of_le (lit< tt) (le_trans large (subst (λ p. p ≤ suc n * 10 ^ k) (one-mul (10 ^ k)) one))

pub raised_past : (size : Natural) (n v k : ℕ) → size ≡ Fits n → n ≢ 0 → 38 < k → IsCapped v size → max_part < v * 10 ^ k
raised_past (Fits m) n v k e some h capped =
    let is_n : m ≡ n = cc in
    past_by_power v k (λ z. some (sym is_n ∙ capped.0 ∙ z)) h
raised_past Past n v k e some h capped = absurd cc

pub raised_more : (size : Natural) (v k : ℕ) → size ≡ Past → IsCapped v size → max_part < v * 10 ^ k
raised_more (Fits m) v k e capped = absurd cc
raised_more Past v k e capped = lt_of_lt_of_le capped (grown v (10 ^ k) (ten_pos k))

-- ---- digits behind those that were read

power_up : (k : ℕ) → 10 ^ (k + 1) ≡ 10 ^ k * 10
power_up k = ap (λ n. 10 ^ n) (add-one k) ∙ pow-suc 10 k

times_ten : (m k : ℕ) → m * 10 ^ k * 10 ≡ m * 10 ^ (k + 1)
times_ten m k = mul_assoc m (10 ^ k) 10 ∙ ap (λ p. m * p) (sym (power_up k))

pub zero_more : (v m k digit : ℕ) → digit ≡ 0 → IsShort v m k → IsShort (v * 10 + digit) m (k + 1)
zero_more v m k digit e h = record {
  whole = ap (λ d. v * 10 + d) e ∙ ap (λ n. n * 10 + 0) h.whole ∙ add-zero (m * 10 ^ k * 10) ∙ times_ten m k;
  ends = λ p. h.ends (omega arith);
}

pub digit_more : (v m k digit : ℕ) → digit ≢ 0 → digit < 10 → IsShort v m k → IsShort (v * 10 + digit) (m * 10 ^ (k + 1) + digit) 0
digit_more v m k digit some lt h =
    let same : v * 10 + digit ≡ m * 10 ^ (k + 1) + digit = ap (λ n. n * 10 + digit) h.whole ∙ ap (λ n. n + digit) (times_ten m k) in
    let last : (m * 10 ^ (k + 1) + digit) % 10 ≡ digit = ap (λ n. n % 10) (sym same) ∙ mod-mul-add v 10 digit lt in
    record {
      whole = same ∙ sym (mul-one (m * 10 ^ (k + 1) + digit));
      ends = λ p. subst (λ n. 0 < n) (sym last) (omega arith);
    }

-- ---- a number without the zeros at its end

strip_one : (n k m : ℕ) → n % 10 ≡ 0 → shortened_within (suc k) n ≡ shortened_within k (n / 10)
strip_one n k m e = rw (eq-eqb (n % 10) 0 e) refl

strip_none : (n k : ℕ) → 0 < n % 10 → shortened_within k n ≡ n
strip_none n zero h = refl
strip_none n (suc k) h = rw (ne_eqb (n % 10) 0 (λ e. omega arith)) refl

pub strip_all : (k run m : ℕ) → run ≤ k → 0 < m % 10 → shortened_within k (m * 10 ^ run) ≡ m
strip_all k zero m le h = ap (shortened_within k) (mul-one m) ∙ strip_none m k h
strip_all zero (suc run) m le h = absurd (omega arith)
strip_all (suc k) (suc run) m le h =
    let n = m * 10 ^ suc run in
    let e : n ≡ m * 10 ^ run * 10 = ap (λ p. m * p) (pow-suc 10 run) ∙ sym (mul_assoc m (10 ^ run) 10) in
    let ends : n % 10 ≡ 0 = ap (λ t. t % 10) e ∙ mul-mod_left (m * 10 ^ run) 10 in
    let rest : n / 10 ≡ m * 10 ^ run = ap (λ t. t / 10) e ∙ mul-div_cancel (m * 10 ^ run) {n = 10} (lit< tt) in
    strip_one n k m ends ∙ ap (shortened_within k) rest ∙ strip_all k run m (omega arith) h

-- 10 to a power is larger than the power
below_power : (k : ℕ) → k < 10 ^ k
below_power zero = lit< tt
below_power (suc k) = subst (λ p. suc k < p) (sym (pow-suc 10 k)) (omega (arith, below_power k))

pub shortened_is : (v m zeros : ℕ) → 0 < v → IsShort v m zeros → shortened v ≡ m
unfolding shortened
shortened_is v m zeros some h =
    let ends = h.ends some in
    let m_pos : 0 < m = m_some m ends in
    let one : 1 * 10 ^ zeros ≤ m * 10 ^ zeros = mul-le-mul_right (10 ^ zeros) m_pos in
    let enough : zeros ≤ v = omega (arith, below_power zeros, one, h.whole, one-mul (10 ^ zeros)) in
    ap (shortened_within v) h.whole ∙ strip_all v zeros m enough ends
  where
    m_some : (m : ℕ) → 0 < m % 10 → 0 < m
    m_some zero h = absurd (omega arith)
    m_some (suc m) h = omega arith
