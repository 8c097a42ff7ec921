-- What a mantissa and an exponent stand for.
use Rattle.std.proofs.Common.{◌≡◌, ◌≢◌, ℕ, zero, suc, ◌+◌, ◌-◌, ◌*◌, ◌^◌, ◌<◌, ◌≤◌, Bool, true, false, Ok, Err, refl, sym, ap, ◌∙◌, subst, arith, mul-pos}
use Rattle.std.specs.Prelude.{nat_lt, ◌==◌}
use Rattle.std.proofs.lemmas.Nat.{pow-add}
use Rattle.std.proofs.lemmas.Bool.{ne_eqb, eq-eqb}
use Rattle.std.proofs.lemmas.Bool.Decides.{nat_tests}
use Rattle.std.proofs.Math.Nat.{mul_assoc}
use Rattle.rational.specs.Rational.{zero_ℚ, fraction}
use Rattle.frac_core.specs.Parts.{max_part}
use Rattle.word_arithmetic.specs.Signed.{signed}
use Rattle.mps_tokens.specs.declared.natural.Natural.{Natural}
use Rattle.mps_tokens.specs.declared.natural.Natural.TheVariants.{Fits}
use Rattle.mps_tokens.specs.declared.natural.Natural.TheVariants as natural
use Rattle.mps_tokens.specs.declared.fault.NumberFault.TheVariants.{Past}
use Rattle.mps_tokens.specs.Numbers.{fitted, shortened, decimal_value, up_of, down_of}
use Rattle.mps_tokens.specs.Running.{IsCapped, IsShort}
use Rattle.mps_tokens.proofs.Tens.{ten_pos, shortened_is, past_by_power}
use Rattle.mps_tokens.proofs.PowerValues.{shift_up, shift_down, whole_past, too_fine}

pub capped_is : (size : Natural) (n v : ℕ) → size ≡ Fits n → IsCapped v size → (n ≡ v) × (n ≤ max_part)
capped_is (Fits m) n v e h = let same : m ≡ n = cc in (sym same ∙ h.0, subst (λ (k : ℕ). k ≤ max_part) same h.1)
capped_is natural.Past n v e h = absurd cc

pub capped_past : (size : Natural) (v : ℕ) → ((n : ℕ) → size ≡ Fits n → ⊥) → IsCapped v size → max_part < v
capped_past (Fits m) v not h = absurd (not m refl)
capped_past natural.Past v not h = h

some_value : (v m run : ℕ) → 0 < m → v ≡ m * 10 ^ run → 0 < v
some_value v m run h e = subst (λ (n : ℕ). 0 < n) (sym e) (mul-pos h (ten_pos run))

not_zero : (v : ℕ) → 0 < v → (v == 0) ≡ false
not_zero v h = ne_eqb v 0 (λ e. omega arith)

not_less : (a b : ℕ) → b ≤ a → nat_lt a b ≡ false
not_less a b h = grind (arith, nat_tests)

is_less : (a b : ℕ) → a < b → nat_lt a b ≡ true
is_less a b h = grind (arith, nat_tests)

some_part : (m : ℕ) → m ≢ 0 → 0 < m
some_part zero h = absurd (h refl)
some_part (suc m) h = omega arith

pub short_value : (negative : Bool) (v m run up down : ℕ) → m ≢ 0 → m ≤ max_part → IsShort v m run
    → decimal_value negative v up down ≡ fitted (fraction (signed negative (m * 10 ^ (run + up))) (10 ^ down))
unfolding decimal_value
short_value negative v m run up down some h short =
    let v_pos = some_value v m run (some_part m some) short.whole in
    let is_m : shortened v ≡ m = shortened_is v m run v_pos short in
    let small : nat_lt max_part (shortened v) ≡ false = ap (nat_lt max_part) is_m ∙ not_less max_part m h in
    let same : v * 10 ^ up ≡ m * 10 ^ (run + up) = ap (λ n. n * 10 ^ up) short.whole ∙ mul_assoc m (10 ^ run) (10 ^ up) ∙ ap (λ p. m * p) (sym (pow-add 10 run up)) in
    rw (not_zero v v_pos, small, same) refl

pub past_value : (negative : Bool) (v m run up down : ℕ) → max_part < m → IsShort v m run → decimal_value negative v up down ≡ Err Past
unfolding decimal_value
past_value negative v m run up down h short =
    let m_pos : 0 < m = omega arith in
    let v_pos = some_value v m run m_pos short.whole in
    let is_m : shortened v ≡ m = shortened_is v m run v_pos short in
    let large : nat_lt max_part (shortened v) ≡ true = ap (nat_lt max_part) is_m ∙ is_less max_part m h in
    rw (not_zero v v_pos, large) refl

pub zero_value : (negative : Bool) (v m run up down : ℕ) → m ≡ 0 → IsShort v m run → decimal_value negative v up down ≡ Ok zero_ℚ
unfolding decimal_value
zero_value negative v m run up down e short =
    let none : v ≡ 0 = short.whole ∙ ap (λ n. n * 10 ^ run) e ∙ zero_times (10 ^ run) in
    rw (eq-eqb v 0 none) refl
  where
    zero_times : (p : ℕ) → 0 * p ≡ 0
    zero_times p = omega arith

-- an exponent past the largest part is past either way
pub far : (negative below : Bool) (m run places e : ℕ) → m ≢ 0 → m ≤ max_part → run < 2 ^ 64 → places < 2 ^ 64 → max_part < e
    → fitted (fraction (signed negative (m * 10 ^ (run + up_of below e))) (10 ^ (places + down_of below e))) ≡ Err Past
far negative true m run places e some h run_fits places_fits large =
    let up : run + 0 ≤ places + e = omega arith in
    ap fitted (shift_down negative m (run + 0) (places + e) up) ∙ too_fine negative m (places + e - (run + 0)) (some_part m some) h (omega arith)
far negative false m run places e some h run_fits places_fits large =
    let down : places + 0 ≤ run + e = omega arith in
    ap fitted (shift_up negative m (run + e) (places + 0) down) ∙ whole_past negative (m * 10 ^ (run + e - (places + 0))) (past_by_power m (run + e - (places + 0)) some (omega arith))

-- what the code makes of an exponent with -, and of one without
pub below_value : (negative below : Bool) (v m run places e top size : ℕ) → below ≡ true → top ≡ m → size ≡ e → m ≢ 0 → m ≤ max_part → IsShort v m run
    → fitted (fraction (signed negative (top * 10 ^ run)) (10 ^ (places + size))) ≡ decimal_value negative v (up_of below e) (places + down_of below e)
below_value negative true v m run places e top size is same equal some h short =
    let value = short_value negative v m run 0 (places + e) some h short in
    let run_is : run + 0 ≡ run = omega arith in
    rw (same, equal) (ap (λ (k : ℕ). fitted (fraction (signed negative (m * 10 ^ k)) (10 ^ (places + e)))) (sym run_is) ∙ sym value)
below_value negative false v m run places e top size is same equal some h short = absurd cc

pub above_value : (negative below : Bool) (v m run places e top size : ℕ) → below ≡ false → top ≡ m → size ≡ e → m ≢ 0 → m ≤ max_part → IsShort v m run
    → fitted (fraction (signed negative (top * 10 ^ (run + size))) (10 ^ places)) ≡ decimal_value negative v (up_of below e) (places + down_of below e)
above_value negative false v m run places e top size is same equal some h short =
    let value = short_value negative v m run e (places + 0) some h short in
    let places_is : places + 0 ≡ places = omega arith in
    rw (same, equal) (ap (λ (k : ℕ). fitted (fraction (signed negative (m * 10 ^ (run + e))) (10 ^ k))) (sym places_is) ∙ sym value)
above_value negative true v m run places e top size is same equal some h short = absurd cc
