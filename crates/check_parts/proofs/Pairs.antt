-- One step of the tests of the squares, counted from the end.
use Rattle.std.specs.Prelude.{◌≡◌, ℕ, suc, ◌+◌, ◌-◌, ◌<◌, List}
use Rattle.std.proofs.Common.{refl, arith, add-one}
use Rattle.rational.specs.Rational.{ℚ}
use Rattle.program_law.specs.declared.Square.{Square}
use Rattle.cert_check_law.specs.Chain.{◌>>=◌}
use Rattle.cert_check_law.specs.Squares.{pair_test, pairs_in_row, pairs_from}

pub row_step : (q : List (List ℚ)) (squares : List Square) (j k n : ℕ) → k < n → pairs_in_row q squares j k (n - k) ≡ (pair_test q squares j k >>= λ _. pairs_in_row q squares j (k + 1) (n - (k + 1)))
row_step q squares j k n h =
    let e : n - k ≡ suc (n - (k + 1)) = omega (arith, h) in
    rw (e, add-one) refl

pub all_step : (q : List (List ℚ)) (squares : List Square) (j n : ℕ) → j < n → pairs_from q squares j (n - j) ≡ (pairs_in_row q squares j j (n - j) >>= λ _. pairs_from q squares (j + 1) (n - (j + 1)))
all_step q squares j n h =
    let e : n - j ≡ suc (n - (j + 1)) = omega (arith, h) in
    rw (e, add-one) refl
