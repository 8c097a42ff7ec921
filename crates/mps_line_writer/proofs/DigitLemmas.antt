-- Numbers and their digits.
use Rattle.std.specs.Prelude.{◌≡◌, ◌≢◌, ◌==◌, true, false, if◌then◌else◌, length, drop, ℕ, zero, suc, ◌+◌, ◌*◌, ◌/◌, ◌%◌, ◌^◌, ◌<◌, ◌≤◌, List, [], ◌∷◌, ◌++◌}
use Rattle.std.proofs.lemmas.List.{append-nil, drop_all}
use Rattle.std.proofs.lemmas.Bool.{ne_eqb}
use Rattle.std.proofs.lemmas.Bool.Decides.{nat_tests}
use Rattle.std.proofs.Common.{arith, refl, sym, ap, subst, ◌∙◌, append_assoc}
use Rattle.std.specs.Fmt.{decimal}
use Rattle.std.proofs.lemmas.Fmt.{decimal_step_wide, decimal_digit}
use Rattle.std.proofs.Math.Nat.{pow-succ'}

wide : (n : ℕ) → n < 2 ^ 128 → n < 10 ^ 64
wide n h = omega arith

-- a number of two or more digits without its last
fewer : (n k p : ℕ) → p ≡ 10 * 10 ^ k → 10 ≤ n → n < p → n / 10 < 10 ^ k
fewer n k p e some short = omega arith

pub fewer_digits : (n k m : ℕ) → k ≡ m + 1 → 10 ≤ n → n < 10 ^ k → (1 ≤ m) × (n / 10 < 10 ^ m)
fewer_digits n k zero e some short = absurd (let one : k ≡ 1 = omega arith in let small : n < 10 ^ 1 = subst (λ (j : ℕ). n < 10 ^ j) one short in omega arith)
fewer_digits n k (suc m) e some short =
    let next : k ≡ suc (suc m) = omega arith in
    (omega arith, fewer n (suc m) (10 ^ suc (suc m)) (pow-succ' 10 (suc m)) some (subst (λ (j : ℕ). n < 10 ^ j) next short))

-- its last digit behind the others
pub last_digit : (n : ℕ) (new tail whole : List ℕ) → 10 ≤ n → n < 2 ^ 128 → new ≡ (48 + n % 10) ∷ tail → decimal n ++ tail ≡ whole → decimal (n / 10) ++ new ≡ whole
last_digit n new tail whole some small is before =
    let step : decimal n ≡ decimal (n / 10) ++ ((48 + n % 10) ∷ []) = decimal_step_wide n some (wide n small) in
    rw is (sym (append_assoc (decimal (n / 10)) ((48 + n % 10) ∷ []) tail) ∙ ap (λ (digits : List ℕ). digits ++ tail) (sym step) ∙ before)

-- the first digit
pub first_digit : (n : ℕ) (new tail whole : List ℕ) → n < 10 → new ≡ (48 + n) ∷ tail → decimal n ++ tail ≡ whole → new ≡ whole
first_digit n new tail whole small is before = is ∙ ap (λ (digits : List ℕ). digits ++ tail) (sym (decimal_digit n small)) ∙ before

-- a denominator 1 isn't written
pub without_one : (n room : ℕ) (buffer slashed : List ℕ) → n ≡ 1 → length buffer ≡ room → drop room buffer ≡ (if n == 1 then [] else slashed)
without_one n room buffer slashed is long =
    let enough : length buffer ≤ room = omega arith in
    let test : (n == 1) ≡ true = grind (arith, nat_tests) in
    rw test (drop_all room buffer enough)

-- another is written behind a slash
pub behind_slash : (n room : ℕ) (buffer digits new : List ℕ) → n ≢ 1 → length buffer ≡ room → digits ≡ decimal n ++ drop room buffer → new ≡ 47 ∷ digits → new ≡ (if n == 1 then [] else (47 ∷ decimal n))
behind_slash n room buffer digits new other long is e =
    let enough : length buffer ≤ room = omega arith in
    let test : (n == 1) ≡ false = ne_eqb n 1 other in
    rw (test, e, is, drop_all room buffer enough, append-nil) refl
