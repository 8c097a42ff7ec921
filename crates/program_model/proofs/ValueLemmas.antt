-- The form of a vector, row by row.
use Rattle.std.specs.Prelude.{◌≡◌, List, [], ◌∷◌, Result, Ok, Err}
use Rattle.std.proofs.Common.{refl}
use Rattle.rational.specs.Rational.{ℚ}
use Rattle.cert_check_law.specs.declared.Event.{Event}
use Rattle.cert_check_law.specs.Chain.{◌>>=◌}
use Rattle.cert_check_law.specs.Dot.{with_product, dot_from}
use Rattle.cert_check_law.specs.Value.{row_product, row_products}
use Rattle.program_model.specs.Totals.{total_with}

-- the products of these rows, and then the sum so far with them
abbrev pub form_from : Result ℚ Event → List (List ℚ) → List ℚ → List ℚ → Result ℚ Event
form_from total rows xs x = row_products rows xs x >>= λ ts. total >>= λ s. dot_from s xs ts

-- a row with its product: the sum so far waits while the other rows are calculated
pub form_step : (total : Result ℚ Event) (row : List ℚ) (rows : List (List ℚ)) (xj : ℚ) (xs x : List ℚ) → form_from total (row ∷ rows) (xj ∷ xs) x ≡ (row_product row xj x >>= λ t. form_from (total_with total xj t) rows xs x)
form_step total row rows xj xs x = by (row_product row xj x) (row_products rows xs x)
  where
    sums : (total : Result ℚ Event) (t : ℚ) (ts : List ℚ) → (total >>= λ s. with_product s xj t >>= λ u. dot_from u xs ts) ≡ ((total >>= λ s. with_product s xj t) >>= λ u. dot_from u xs ts)
    sums (Ok s) t ts = refl
    sums (Err e) t ts = refl

    rest : (t : ℚ) (r : Result (List ℚ) Event) → ((r >>= λ ts. Ok (t ∷ ts)) >>= λ ts. total >>= λ s. dot_from s (xj ∷ xs) ts) ≡ (r >>= λ ts. (total >>= λ s. with_product s xj t) >>= λ u. dot_from u xs ts)
    rest t (Ok ts) = sums total t ts
    rest t (Err e) = refl

    by : (r : Result ℚ Event) (rs : Result (List ℚ) Event) → ((r >>= λ t. rs >>= λ ts. Ok (t ∷ ts)) >>= λ ts. total >>= λ s. dot_from s (xj ∷ xs) ts) ≡ (r >>= λ t. rs >>= λ ts. (total >>= λ s. with_product s xj t) >>= λ u. dot_from u xs ts)
    by (Ok t) rs = rest t rs
    by (Err e) rs = refl

pub form_end : (total : Result ℚ Event) (x : List ℚ) → form_from total [] [] x ≡ total
form_end (Ok s) x = refl
form_end (Err e) x = refl
