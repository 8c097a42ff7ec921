-- The list of a point's check, and that its tests hold where it is a point.
use Rattle.std.specs.Prelude.{◌≡◌, ℕ, suc, List, [], ◌∷◌, length, Option, Some, None, IfSome, Bool, true, false, ◌&&◌, ◌==◌}
use Rattle.std.proofs.Common.{arith, sym, refl}
use Rattle.std.proofs.lemmas.Bool.Decides.{nat_tests}
use Rattle.rational.specs.Rational.{ℚ}
use Rattle.rational.specs.Order.{◌≤ℚ◌}
use Rattle.program_law.proofs.Numbers.{le_tested, le_test}
use Rattle.program_law.specs.declared.Row.{Row}
use Rattle.rational.specs.Vectors.{dot, rows_dot}
use Rattle.program_law.specs.Region.{Region}
use Rattle.program_law.specs.Program.{Program, sides, marks}
use Rattle.program_law.specs.Point.{IsWithin}
use Rattle.program_law.specs.Columns.{AllWithin, IsWhole, AreWholeOn, IsPoint}
use Rattle.cert_check_law.specs.Chain.{◌>>=◌, test}
use Rattle.cert_check_law.specs.Dot.{dot_of}
use Rattle.cert_check_law.specs.Point.{is_above_low, is_below_high, is_within, keeps_mark, row_within, rows_within, column_within, columns_within, point_test}
use Rattle.cert_check_law.specs.PointList.{row_within_list, rows_within_list, column_within_list, columns_within_list, point_list}
use Rattle.cert_check_law.proofs.Settled.{Settles}
use Rattle.cert_check_law.proofs.Listed.{Listed, done, vacuous, joined, after, converted, tested, settled}
use Rattle.cert_check_law.proofs.Dots.{dot_listed}

pub longer : {A : Type 0} (x : A) (xs : List A) → length (x ∷ xs) ≡ 0 → ⊥
longer x xs e = omega (arith, e)

pub shorter : {A B : Type 0} (x : A) (xs : List A) (y : B) (ys : List B) → length (x ∷ xs) ≡ length (y ∷ ys) → length xs ≡ length ys
shorter x xs y ys e = omega (arith, e)

pub and_parts : (a b : Bool) → (a && b) ≡ true → (a ≡ true) × (b ≡ true)
and_parts true b e = (refl, e)
and_parts false b e = absurd (no e)
  where
    no : false ≡ true → ⊥
    no e = cc

pub and_both : (a b : Bool) → a ≡ true → b ≡ true → (a && b) ≡ true
and_both true b e f = f
and_both false b e f = e

low_tells : (o : Option ℚ) (x : ℚ) → (is_above_low o x ≡ true → IfSome o (λ l. l ≤ℚ x)) × (IfSome o (λ l. l ≤ℚ x) → is_above_low o x ≡ true)
low_tells None x = (λ e. tt, λ h. refl)
low_tells (Some l) x = (le_tested l x, le_test l x)

high_tells : (o : Option ℚ) (x : ℚ) → (is_below_high o x ≡ true → IfSome o (λ h. x ≤ℚ h)) × (IfSome o (λ h. x ≤ℚ h) → is_below_high o x ≡ true)
high_tells None x = (λ e. tt, λ h. refl)
high_tells (Some h) x = (le_tested x h, le_test x h)

within_tells : (s : Row) (x : ℚ) → (is_within s x ≡ true → IsWithin s x) × (IsWithin s x → is_within s x ≡ true)
within_tells s x =
    let low = low_tells s.low x in let high = high_tells s.high x in (
      λ e. let both = and_parts (is_above_low s.low x) (is_below_high s.high x) e in record { low = low.0 both.0; high = high.0 both.1 },
      λ w. and_both (is_above_low s.low x) (is_below_high s.high x) (low.1 w.low) (high.1 w.high),
    )

mark_tells : (m : Bool) (x : ℚ) → (keeps_mark m x ≡ true → m ≡ true → IsWhole x) × ((m ≡ true → IsWhole x) → keeps_mark m x ≡ true)
mark_tells true x = (λ e f. one x.den e, λ h. test_one x.den (h refl))
  where
    one : (d : ℕ) → (d == 1) ≡ true → d ≡ 1
    one d e = grind (arith, nat_tests)

    test_one : (d : ℕ) → d ≡ 1 → (d == 1) ≡ true
    test_one d e = grind (arith, nat_tests)
mark_tells false x = (λ e f. absurd (no f), λ h. refl)
  where
    no : false ≡ true → ⊥
    no e = cc

row_listed : {C : Type 0} (place : ℕ) (s : Row) (row x : List ℚ) → Listed C (row_within place s row x) (row_within_list place s row x) tt (IsWithin s (dot row x))
unfolding row_within
row_listed place s row x =
    let tells = within_tells s (dot row x) in
    after (dot_of row x) (λ t. test (is_within s t) 1 place) (dot_listed row x) (tested (is_within s (dot row x)) 1 place tells.0 tells.1)

rows_listed : {C : Type 0} (place : ℕ) (ss : List Row) (rows : List (List ℚ)) (x : List ℚ) → (C → length ss ≡ length rows) → Listed C (rows_within place ss rows x) (rows_within_list place ss rows x) tt (AllWithin ss (rows_dot rows x))
rows_listed place [] [] x n = done tt tt
rows_listed place [] (row ∷ rows) x n = vacuous tt (λ c. longer row rows (sym (n c)))
rows_listed place (s ∷ ss) [] x n = vacuous tt (λ c. longer s ss (n c))
rows_listed place (s ∷ ss) (row ∷ rows) x n =
    joined (row_within place s row x) (λ _. rows_within (suc place) ss rows x) (row_listed place s row x)
    (rows_listed (suc place) ss rows x (λ c. shorter s ss row rows (n c)))

column_listed : {C : Type 0} (place : ℕ) (b : Row) (m : Bool) (x : ℚ) → Listed C (column_within place b m x) (column_within_list place b m x) tt (IsWithin b x × (m ≡ true → IsWhole x))
unfolding column_within
column_listed place b m x =
    let within = within_tells b x in let mark = mark_tells m x in
    joined (test (is_within b x) 2 place) (λ _. test (keeps_mark m x) 3 place) (tested (is_within b x) 2 place within.0 within.1)
    (tested (keeps_mark m x) 3 place mark.0 mark.1)

columns_listed : {C : Type 0} (place : ℕ) (bs : Region) (ms : List Bool) (xs : List ℚ) → (C → length bs ≡ length xs) → (C → length ms ≡ length xs) → Listed C (columns_within place bs ms xs) (columns_within_list place bs ms xs) tt (AllWithin bs xs × AreWholeOn ms xs)
columns_listed place [] [] [] n m = done tt (tt, tt)
columns_listed place [] (mark ∷ ms) [] n m = vacuous tt (λ c. longer mark ms (m c))
columns_listed place [] ms (x ∷ xs) n m = vacuous tt (λ c. longer x xs (sym (n c)))
columns_listed place (b ∷ bs) [] [] n m = vacuous tt (λ c. longer b bs (n c))
columns_listed place (b ∷ bs) (mark ∷ ms) [] n m = vacuous tt (λ c. longer b bs (n c))
columns_listed place (b ∷ bs) [] (x ∷ xs) n m = vacuous tt (λ c. longer x xs (sym (m c)))
columns_listed place (b ∷ bs) (mark ∷ ms) (x ∷ xs) n m =
    converted (columns_within place (b ∷ bs) (mark ∷ ms) (x ∷ xs)) (λ c p. ((p.0.0, p.1.0), (p.0.1, p.1.1))) (λ c p. ((p.0.0, p.1.0), (p.0.1, p.1.1)))
    (joined (column_within place b mark x) (λ _. columns_within (suc place) bs ms xs) (column_listed place b mark x)
    (columns_listed (suc place) bs ms xs (λ c. shorter b bs x xs (n c)) (λ c. shorter mark ms x xs (m c))))

pub point_listed : {C : Type 0} (p : Program) (region : Region) (x : List ℚ) → (C → length (sides p) ≡ length p.entries) → (C → length region ≡ length x) → (C → length (marks p) ≡ length x) → Listed C (point_test p region x) (point_list p region x) tt (IsPoint p region x)
unfolding point_test
point_listed p region x n m k =
    converted (rows_within 1 (sides p) p.entries x >>= λ _. columns_within 1 region (marks p) x)
    (λ c h. record { relaxed = record { rows = h.0; columns = h.1.0 }; whole = h.1.1 }) (λ c h. (h.relaxed.rows, (h.relaxed.columns, h.whole)))
    (joined (rows_within 1 (sides p) p.entries x) (λ _. columns_within 1 region (marks p) x) (rows_listed 1 (sides p) p.entries x n)
    (columns_listed 1 region (marks p) x m k))

pub point_settles : (p : Program) (region : Region) (x : List ℚ) → length (sides p) ≡ length p.entries → length region ≡ length x → length (marks p) ≡ length x → Settles (point_test p region x) tt (IsPoint p region x)
point_settles p region x n m k = settled {C = Unit {0}} (point_test p region x) tt (point_listed p region x (λ _. n) (λ _. m) (λ _. k))
