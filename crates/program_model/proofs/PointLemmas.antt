-- What the events of a point can be, and what an answer without one says.
use Rattle.std.specs.Prelude.{◌≡◌, ℕ, suc, ◌≤◌, List, [], ◌∷◌, Bool, true, false, Result, Ok, Err, length}
use Rattle.std.proofs.Common.{arith, sym, ap, subst, ◌∙◌}
use Rattle.std.proofs.lemmas.List.{length-map}
use Rattle.rational.specs.Rational.{ℚ}
use Rattle.program_law.specs.declared.Row.{Row}
use Rattle.program_law.specs.Region.{Region}
use Rattle.program_law.specs.Program.{Program, IsProgram, sides, marks}
use Rattle.program_law.specs.Point.{Point, IsFeasibleIn}
use Rattle.program_law.specs.Columns.{IsPoint, value}
use Rattle.program_law.specs.Verdict.{columns_of}
use Rattle.program_law.specs.Value.{value_of}
use Rattle.program_law.proofs.Bridge.{feasible_back, value_is}
use Rattle.cert_check_law.specs.declared.Event.{Event}
use Rattle.cert_check_law.specs.declared.Event.TheVariants.{Past, Failed}
use Rattle.cert_check_law.specs.Chain.{◌>>=◌, test, NoTestFails}
use Rattle.cert_check_law.specs.Dot.{dot_of}
use Rattle.cert_check_law.specs.Point.{is_within, keeps_mark, row_within, rows_within, column_within, columns_within, point_test}
use Rattle.cert_check_law.specs.Value as checked
use Rattle.cert_check_law.proofs.Settled.{Settles, shown, passes}
use Rattle.cert_check_law.proofs.Points.{point_settles}
use Rattle.cert_check_law.proofs.Products.{dot_is, value_settles}
use Rattle.program_model.specs.Tested.{IsPointEvent}

-- ---- events

abbrev TellsPoint : {A : Type 0} → Result A Event → Type 0
TellsPoint (Ok x) = Unit {0}
TellsPoint (Err e) = IsPointEvent e

chained : {A B : Type 0} (r : Result A Event) (f : A → Result B Event) → TellsPoint r → ((x : A) → TellsPoint (f x)) → TellsPoint (r >>= f)
chained (Ok x) f t g = g x
chained (Err e) f t g = t

of_operations : {A : Type 0} (r : Result A Event) → NoTestFails r → TellsPoint r
of_operations (Ok x) n = tt
of_operations (Err (Past r)) n = tt
of_operations (Err (Failed rule place)) n = absurd n

of_test : (holds : Bool) (rule place : ℕ) → 1 ≤ rule → rule ≤ 3 → 1 ≤ place → TellsPoint (test holds rule place)
of_test true rule place a b h = tt
of_test false rule place a b h = (a, b, h)

row_tells : (place : ℕ) (s : Row) (row x : List ℚ) → 1 ≤ place → TellsPoint (row_within place s row x)
unfolding row_within
row_tells place s row x h = chained (dot_of row x) (λ t. test (is_within s t) 1 place) (of_operations (dot_of row x) (passes (dot_of row x) _ (dot_is row x) tt)) (λ t. of_test (is_within s t) 1 place (omega arith) (omega arith) h)

rows_tell : (place : ℕ) (ss : List Row) (rows : List (List ℚ)) (x : List ℚ) → 1 ≤ place → TellsPoint (rows_within place ss rows x)
rows_tell place [] rows x h = tt
rows_tell place (s ∷ ss) [] x h = tt
rows_tell place (s ∷ ss) (row ∷ rows) x h = chained (row_within place s row x) (λ _. rows_within (suc place) ss rows x) (row_tells place s row x h) (λ _. rows_tell (suc place) ss rows x (omega arith))

column_tells : (place : ℕ) (b : Row) (m : Bool) (x : ℚ) → 1 ≤ place → TellsPoint (column_within place b m x)
unfolding column_within
column_tells place b m x h = chained (test (is_within b x) 2 place) (λ _. test (keeps_mark m x) 3 place) (of_test (is_within b x) 2 place (omega arith) (omega arith) h) (λ _. of_test (keeps_mark m x) 3 place (omega arith) (omega arith) h)

columns_tell : (place : ℕ) (bs : Region) (ms : List Bool) (xs : List ℚ) → 1 ≤ place → TellsPoint (columns_within place bs ms xs)
columns_tell place [] ms xs h = tt
columns_tell place (b ∷ bs) [] xs h = tt
columns_tell place (b ∷ bs) (m ∷ ms) [] h = tt
columns_tell place (b ∷ bs) (m ∷ ms) (x ∷ xs) h = chained (column_within place b m x) (λ _. columns_within (suc place) bs ms xs) (column_tells place b m x h) (λ _. columns_tell (suc place) bs ms xs (omega arith))

point_tells : (p : Program) (region : Region) (x : List ℚ) → TellsPoint (point_test p region x)
unfolding point_test
point_tells p region x = chained (rows_within 1 (sides p) p.entries x) (λ _. columns_within 1 region (marks p) x) (rows_tell 1 (sides p) p.entries x (omega arith)) (λ _. columns_tell 1 region (marks p) x (omega arith))

pub point_event : (p : Program) (region : Region) (x : List ℚ) (e : Event) → Err e ≡ point_test p region x → IsPointEvent e
point_event p region x e is = subst TellsPoint (sym is) (point_tells p region x)

-- ---- points

pub inside : (p : Program) (region : Region) (x : List ℚ) → IsProgram p → length region ≡ length p.columns → length x ≡ length p.columns → Ok tt ≡ point_test p region x → (point : Point) → columns_of point ≡ x → IsFeasibleIn p region point
inside p region x g bounds wide ok point is =
    let settles = point_settles p region x (length-map p.rows (λ r. r.1) ∙ sym g.height) (bounds ∙ sym wide) (length-map p.columns (λ c. c.1.whole) ∙ sym wide) in
    let there = shown (point_test p region x) tt tt settles (sym ok) in
    feasible_back p region point (subst (IsPoint p region) (sym is) there)

pub value_passes : (p : Program) (x : List ℚ) → NoTestFails (checked.value_of p x)
value_passes p x = passes (checked.value_of p x) _ (value_settles p x) tt

abbrev ok_of : ℚ → Result ℚ Event
ok_of v = Ok v

same_value : (v u : ℚ) → ok_of v ≡ ok_of u → v ≡ u
same_value v u e = cc

ended : (r : Result ℚ Event) (v w : ℚ) → ok_of v ≡ r → Settles r w (Unit {0}) → v ≡ w
ended (Ok u) v w e s = same_value v u e ∙ s.ends.0
ended (Err d) v w e s = absurd (cc)

pub value_ends : (p : Program) (x : List ℚ) (v : ℚ) → Ok v ≡ checked.value_of p x → (point : Point) → columns_of point ≡ x → value_of p point ≡ v
value_ends p x v ok point is = value_is p point ∙ ap (value p) is ∙ sym (ended (checked.value_of p x) v (value p x) ok (value_settles p x))
