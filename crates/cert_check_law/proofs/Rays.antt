-- The list of a ray's check, and that its tests hold where it is a ray.
use Rattle.std.specs.Prelude.{◌≡◌, ℕ, suc, List, [], ◌∷◌, ◌++◌, length, Option, Some, None, OnSome, is_none, Bool, true, false, not, ◌||◌}
use Rattle.std.proofs.Common.{sym, ◌∙◌, ap, refl}
use Rattle.rational.specs.Rational.{ℚ, zero_ℚ}
use Rattle.rational.specs.Order.{◌≤ℚ◌}
use Rattle.rational.specs.Tests.{is_zero, is_positive, is_negative, is_le}
use Rattle.program_law.proofs.Numbers.{positive_above, negative_below, above_positive, below_negative, le_tested, lt_tested, zero_is, is_zero_zero}
use Rattle.rational.proofs.OrderLaws.{not-le_of_lt}
use Rattle.program_law.specs.declared.Row.{Row}
use Rattle.rational.specs.Vectors.{dot, rows_dot}
use Rattle.program_law.specs.Program.{Program, sides, bounds}
use Rattle.certificate_law.specs.Ray.{KeepsSides, AllKeepSides, AreZero, IsRay}
use Rattle.cert_check_law.specs.Chain.{◌>>=◌, test}
use Rattle.cert_check_law.specs.Dot.{dot_of}
use Rattle.cert_check_law.specs.Ray.{keeps_sides, row_keeps, rows_keep, columns_keep, row_flat, rows_flat, ray_test}
use Rattle.cert_check_law.specs.Entries.{operations, Test}
use Rattle.frac_core.specs.Dot.{dot_ops}
use Rattle.cert_check_law.specs.RayList.{rows_keep_list, columns_keep_list, rows_flat_list, ray_list}
use Rattle.cert_check_law.proofs.Listed.{Listed, done, vacuous, joined, after, converted, tested}
use Rattle.cert_check_law.proofs.Dots.{dot_listed}
use Rattle.cert_check_law.proofs.Points.{longer, shorter, and_parts, and_both}

clash : false ≡ true → ⊥
clash e = cc

-- not below 0 is at least 0
at_least_zero : (d : ℚ) → not (is_negative d) ≡ true → zero_ℚ ≤ℚ d
at_least_zero d e = by (is_le zero_ℚ d) refl
  where
    no : (b : Bool) → is_negative d ≡ b → not b ≡ true → is_negative d ≡ true → ⊥
    no true e f g = clash f
    no false e f g = clash (sym e ∙ g)

    by : (b : Bool) → is_le zero_ℚ d ≡ b → zero_ℚ ≤ℚ d
    by true f = le_tested zero_ℚ d f
    by false f = absurd (no (is_negative d) refl e (below_negative d (lt_tested zero_ℚ d f)))

at_most_zero : (d : ℚ) → not (is_positive d) ≡ true → d ≤ℚ zero_ℚ
at_most_zero d e = by (is_le d zero_ℚ) refl
  where
    no : (b : Bool) → is_positive d ≡ b → not b ≡ true → is_positive d ≡ true → ⊥
    no true e f g = clash f
    no false e f g = clash (sym e ∙ g)

    by : (b : Bool) → is_le d zero_ℚ ≡ b → d ≤ℚ zero_ℚ
    by true f = le_tested d zero_ℚ f
    by false f = absurd (no (is_positive d) refl e (above_positive d (lt_tested d zero_ℚ f)))

not_negative : (d : ℚ) → zero_ℚ ≤ℚ d → not (is_negative d) ≡ true
not_negative d h = by (is_negative d) refl
  where
    by : (b : Bool) → is_negative d ≡ b → not b ≡ true
    by true e = absurd (not-le_of_lt (negative_below d e) h)
    by false e = refl

not_positive : (d : ℚ) → d ≤ℚ zero_ℚ → not (is_positive d) ≡ true
not_positive d h = by (is_positive d) refl
  where
    by : (b : Bool) → is_positive d ≡ b → not b ≡ true
    by true e = absurd (not-le_of_lt (positive_above d e) h)
    by false e = refl

low_tells : (o : Option ℚ) (d : ℚ) → ((is_none o || not (is_negative d)) ≡ true → OnSome o (zero_ℚ ≤ℚ d)) × (OnSome o (zero_ℚ ≤ℚ d) → (is_none o || not (is_negative d)) ≡ true)
low_tells None d = (λ e. tt, λ h. refl)
low_tells (Some l) d = (at_least_zero d, not_negative d)

high_tells : (o : Option ℚ) (d : ℚ) → ((is_none o || not (is_positive d)) ≡ true → OnSome o (d ≤ℚ zero_ℚ)) × (OnSome o (d ≤ℚ zero_ℚ) → (is_none o || not (is_positive d)) ≡ true)
high_tells None d = (λ e. tt, λ h. refl)
high_tells (Some l) d = (at_most_zero d, not_positive d)

keeps_tells : (s : Row) (d : ℚ) → (keeps_sides s d ≡ true → KeepsSides s d) × (KeepsSides s d → keeps_sides s d ≡ true)
keeps_tells s d =
    let low = low_tells s.low d in let high = high_tells s.high d in
    let a = is_none s.low || not (is_negative d) in let b = is_none s.high || not (is_positive d) in
    (λ e. record { low = low.0 (and_parts a b e).0; high = high.0 (and_parts a b e).1 }, λ h. and_both a b (low.1 h.low) (high.1 h.high))

row_listed : {C : Type 0} (place : ℕ) (s : Row) (row d : List ℚ) → Listed C (row_keeps place s row d) (operations (dot_ops row d) ++ Test (keeps_sides s (dot row d)) 11 place ∷ []) tt (KeepsSides s (dot row d))
unfolding row_keeps
row_listed place s row d =
    let tells = keeps_tells s (dot row d) in
    after (dot_of row d) (λ t. test (keeps_sides s t) 11 place) (dot_listed row d) (tested (keeps_sides s (dot row d)) 11 place tells.0 tells.1)

rows_listed : {C : Type 0} (place : ℕ) (ss : List Row) (rows : List (List ℚ)) (d : List ℚ) → (C → length ss ≡ length rows) → Listed C (rows_keep place ss rows d) (rows_keep_list place ss rows d) tt (AllKeepSides ss (rows_dot rows d))
rows_listed place [] [] d n = done tt tt
rows_listed place [] (row ∷ rows) d n = vacuous tt (λ c. longer row rows (sym (n c)))
rows_listed place (s ∷ ss) [] d n = vacuous tt (λ c. longer s ss (n c))
rows_listed place (s ∷ ss) (row ∷ rows) d n =
    joined (row_keeps place s row d) (λ _. rows_keep (suc place) ss rows d) (row_listed place s row d)
    (rows_listed (suc place) ss rows d (λ c. shorter s ss row rows (n c)))

columns_listed : {C : Type 0} (place : ℕ) (bs : List Row) (ds : List ℚ) → (C → length bs ≡ length ds) → Listed C (columns_keep place bs ds) (columns_keep_list place bs ds) tt (AllKeepSides bs ds)
columns_listed place [] [] n = done tt tt
columns_listed place [] (d ∷ ds) n = vacuous tt (λ c. longer d ds (sym (n c)))
columns_listed place (b ∷ bs) [] n = vacuous tt (λ c. longer b bs (n c))
columns_listed place (b ∷ bs) (d ∷ ds) n =
    let tells = keeps_tells b d in
    joined (test (keeps_sides b d) 12 place) (λ _. columns_keep (suc place) bs ds) (tested (keeps_sides b d) 12 place tells.0 tells.1)
    (columns_listed (suc place) bs ds (λ c. shorter b bs d ds (n c)))

zero_listed : {C : Type 0} (place : ℕ) (row d : List ℚ) → Listed C (row_flat place row d) (operations (dot_ops row d) ++ Test (is_zero (dot row d)) 13 place ∷ []) tt (dot row d ≡ zero_ℚ)
unfolding row_flat
zero_listed place row d =
    after (dot_of row d) (λ t. test (is_zero t) 13 place) (dot_listed row d)
    (tested (is_zero (dot row d)) 13 place (zero_is (dot row d)) (λ e. ap is_zero e ∙ is_zero_zero))

flat_listed : {C : Type 0} (place : ℕ) (rows : List (List ℚ)) (d : List ℚ) → Listed C (rows_flat place rows d) (rows_flat_list place rows d) tt (AreZero (rows_dot rows d))
flat_listed place [] d = done tt tt
flat_listed place (row ∷ rows) d =
    joined (row_flat place row d) (λ _. rows_flat (suc place) rows d) (zero_listed place row d) (flat_listed (suc place) rows d)

pub ray_listed : {C : Type 0} (p : Program) (d : List ℚ) → (C → length (sides p) ≡ length p.entries) → (C → length (bounds p) ≡ length d) → Listed C (ray_test p d) (ray_list p d) tt (IsRay p d)
unfolding ray_test
ray_listed p d n m =
    let c = dot p.costs d in
    converted (rows_keep 1 (sides p) p.entries d >>= λ _. columns_keep 1 (bounds p) d >>= λ _. rows_flat 1 p.pairs d >>= λ _. dot_of p.costs d >>= λ t. test (is_negative t) 14 0)
    (λ _ h. record { rows = h.0; columns = h.1.0; flat = h.1.1.0; falls = h.1.1.1 }) (λ _ h. (h.rows, (h.columns, (h.flat, h.falls))))
    (joined (rows_keep 1 (sides p) p.entries d) (λ _. columns_keep 1 (bounds p) d >>= λ _. rows_flat 1 p.pairs d >>= λ _. dot_of p.costs d >>= λ t. test (is_negative t) 14 0) (rows_listed 1 (sides p) p.entries d n)
    (joined (columns_keep 1 (bounds p) d) (λ _. rows_flat 1 p.pairs d >>= λ _. dot_of p.costs d >>= λ t. test (is_negative t) 14 0) (columns_listed 1 (bounds p) d m)
    (joined (rows_flat 1 p.pairs d) (λ _. dot_of p.costs d >>= λ t. test (is_negative t) 14 0) (flat_listed 1 p.pairs d)
    (after (dot_of p.costs d) (λ t. test (is_negative t) 14 0) (dot_listed p.costs d) (tested (is_negative c) 14 0 (negative_below c) (below_negative c))))))
