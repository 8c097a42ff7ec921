-- The equations that a calculation appends, row by row and column by column.
use Rattle.std.specs.Prelude.{◌≡◌, ◌≤◌, ◌⊎◌, ℕ, ◌+◌, List, [], ◌∷◌, ◌++◌, map, drop, length, replicate, Bool, true, false, Option, Some, None, IsSome, Result, Ok, Err}
use Rattle.std.proofs.Common.{refl, inl, inr, sym, ap, ◌∙◌, append_assoc, cond}
use Rattle.std.proofs.lemmas.List.{drop_all, length-append, length-map}
use Rattle.rational.specs.Rational.{ℚ, one_ℚ, neg_ℚ, ◌-ℚ◌}
use Rattle.rational.specs.Order.{same_fields}
use Rattle.rational.specs.Vectors.{dot, zeros}
use Rattle.frac_core.specs.Parts.{max_part}
use Rattle.frac_core.specs.Calculated.{tried_in, ◌>>=◌, answered, operated}
use Rattle.frac_core.specs.Dot.{dot_of}
use Rattle.frac_core.specs.declared.fractions.Op.TheVariants.{Sub}
use Rattle.frac_core.specs.declared.fractions.Refused.{Refused}
use Rattle.frac_core.specs.declared.fractions.Tried.{Tried}
use Rattle.frac_core.specs.declared.fractions.Tried.TheVariants.{Is, Past as PastTried}
use Rattle.frac_core.proofs.Values.{tried-value, dot_of-value}
use Rattle.exact_matrix.specs.declared.systems.Stop.{Stop}
use Rattle.exact_matrix.specs.declared.systems.Stop.TheVariants.{Memory, Past}
use Rattle.program_law.specs.declared.Row.{Row}
use Rattle.program_law.specs.Region.{Region}
use Rattle.equational_law.specs.Standing.{spread}
use Rattle.equational_law.specs.Equations.{Equation, row_equations_by, slacks_at, row_equations, is_negated, right_of}
use Rattle.equational_law.specs.Calculation.{row_equations_by_in, row_equations_in}
use Rattle.equational_rows.specs.Firsts.{begins_negated, firsts_from}
use Rattle.equational_rows.specs.declared.equations.First.{First}
use Rattle.equational_rows.specs.declared.rows.Slacks.{Slacks}
use Rattle.exact_matrix.specs.Stops.{Stops, Answers}
use Rattle.equational_rows.specs.Built.{Built, with_equation, with_equations, appended, taken, side_in, two_sides_in}
use Rattle.equational_rows.proofs.Chains.{stops_then, stops_as}
use Rattle.equational_rows.proofs.Appended.{no_equations, one_equation, equations_after}

both_of : (x a : Built) (y b : Bool) (t u : Result (Built × Bool) Refused) → t ≡ Ok (x, y) → u ≡ Ok (a, b) → t ≡ u → (x ≡ a) × (y ≡ b)
both_of x a y b t u e f g = let q : (x, y) ≡ (a, b) = cc in (ap (λ (p : Built × Bool). p.0) q, ap (λ (p : Built × Bool). p.1) q)

pub answers_as : {T A : Type 0} (view : T → A) (r : Result T Stop) (t u : Result A Refused) → t ≡ u → Answers view r t → Answers view r u
answers_as view r t u e h = rw (sym e) h

-- ---- the equations of one row

pub side_taken : (slacks : ℕ) (b new : Built) (t : Result ℚ Refused) (r : ℚ) (e : ℚ → Equation) (n : Bool) → t ≡ Ok r → new ≡ with_equation slacks b (e r) → n ≡ is_negated (e r)
    → taken slacks b (t >>= λ r. Ok (e r ∷ [])) ≡ Ok (new, n)
side_taken slacks b new t r e n h k m =
    ap (λ (t : Result ℚ Refused). taken slacks b (t >>= λ r. Ok (e r ∷ []))) h
    ∙ ap (λ (a : Built). Ok (a, is_negated (e r))) (one_equation slacks b (e r) ∙ sym k) ∙ ap (λ (n : Bool). Ok (new, n)) (sym m)

pub stops_taken : {A : Type 0} (e : Stop) (slacks : ℕ) (b : Built) (t : Result A Refused) (f : A → Result (List Equation) Refused) → Stops e t → Stops e (taken slacks b (t >>= f))
stops_taken e slacks b t f s = stops_then e (t >>= f) (λ es. Ok (with_equations slacks b es, begins_negated es)) (stops_then e t f s)

-- the second of two equations
pub second_on : (slacks : ℕ) (b middle new : Built) (t u : Result ℚ Refused) (gap : ℚ) (e d : ℚ → Equation) (n : Bool) → taken slacks b (t >>= λ r. Ok (e r ∷ [])) ≡ Ok (middle, n) → u ≡ Ok gap
    → new ≡ with_equation slacks middle (d gap) → taken slacks b (t >>= λ r. u >>= λ gap. Ok (e r ∷ d gap ∷ [])) ≡ Ok (new, n)
second_on slacks b middle new (Err q) u gap e d n h k m = absurd cc
second_on slacks b middle new (Ok r) u gap e d n h k m =
    let p = both_of (with_equations slacks b (e r ∷ [])) middle (is_negated (e r)) n _ _ refl h refl in
    ap (λ (u : Result ℚ Refused). taken slacks b (u >>= λ gap. Ok (e r ∷ d gap ∷ []))) k
    ∙ ap (λ (a : Built). Ok (a, is_negated (e r))) (sym (equations_after slacks b (e r ∷ []) (d gap ∷ [])) ∙ ap (λ (a : Built). with_equations slacks a (d gap ∷ [])) p.0 ∙ one_equation slacks middle (d gap) ∙ sym m)
    ∙ ap (λ (n : Bool). Ok (new, n)) p.1

pub second_stops : (s : Stop) (slacks : ℕ) (b middle : Built) (t u : Result ℚ Refused) (e d : ℚ → Equation) (n : Bool) → taken slacks b (t >>= λ r. Ok (e r ∷ [])) ≡ Ok (middle, n) → Stops s u
    → Stops s (taken slacks b (t >>= λ r. u >>= λ gap. Ok (e r ∷ d gap ∷ [])))
second_stops s slacks b middle (Err q) u e d n h k = absurd cc
second_stops s slacks b middle (Ok r) u e d n h k = stops_taken s slacks b u (λ gap. Ok (e r ∷ d gap ∷ [])) k

pub first_stops : (s : Stop) (slacks : ℕ) (b : Built) (t u : Result ℚ Refused) (e d : ℚ → Equation) → Stops s (taken slacks b (t >>= λ r. Ok (e r ∷ [])))
    → Stops s (taken slacks b (t >>= λ r. u >>= λ gap. Ok (e r ∷ d gap ∷ [])))
first_stops Memory slacks b t u e d h = tt
first_stops (Past q) slacks b (Ok r) u e d h = absurd cc
first_stops (Past q) slacks b (Err p) u e d h = let f : p ≡ q = cc in rw f refl

abbrev pub equation : List ℚ → ℕ → List ℚ → ℚ → Equation
equation entries before own right = record { entries = entries; before = before; own = own; right = right }

abbrev pub slack : ℕ → ℕ → ℚ → Slacks
slack before own entry = record { before = before; own = own; entry = entry }

one_slack : (slacks : ℕ) (b : Built) (row : List ℚ) (k : ℕ) (x u a : ℚ) → x ≡ one_ℚ → taken slacks b (side_in row (slack k 1 x) u a) ≡ taken slacks b (side_in row (slack k 1 one_ℚ) u a)
one_slack slacks b row k x u a h = ap (λ (x : ℚ). taken slacks b (side_in row (slack k 1 x) u a)) h

pub two_first : (e : Stop) (slacks : ℕ) (b : Built) (row : List ℚ) (k : ℕ) (x l u a : ℚ) → x ≡ one_ℚ → Stops e (taken slacks b (side_in row (slack k 1 x) u a)) → Stops e (taken slacks b (two_sides_in l u k row a))
two_first e slacks b row k x l u a h s =
    first_stops e slacks b (operated max_part Sub u a) (operated max_part Sub u l) (equation row k (one_ℚ ∷ [])) (equation (zeros (length row)) k (one_ℚ ∷ one_ℚ ∷ [])) (stops_as e _ _ (one_slack slacks b row k x u a h) s)

pub two_gap : (e : Stop) (slacks : ℕ) (b middle : Built) (row : List ℚ) (k : ℕ) (x l u a : ℚ) (n : Bool) → x ≡ one_ℚ → taken slacks b (side_in row (slack k 1 x) u a) ≡ Ok (middle, n)
    → Stops e (operated max_part Sub u l) → Stops e (taken slacks b (two_sides_in l u k row a))
two_gap e slacks b middle row k x l u a n h t s =
    second_stops e slacks b middle (operated max_part Sub u a) (operated max_part Sub u l) (equation row k (one_ℚ ∷ [])) (equation (zeros (length row)) k (one_ℚ ∷ one_ℚ ∷ [])) n
    (sym (one_slack slacks b row k x u a h) ∙ t) s

pub two_done : (slacks : ℕ) (b middle new : Built) (row : List ℚ) (k m : ℕ) (x l u a gap : ℚ) (n : Bool) → x ≡ one_ℚ → m ≡ length row → taken slacks b (side_in row (slack k 1 x) u a) ≡ Ok (middle, n)
    → operated max_part Sub u l ≡ Ok gap → new ≡ with_equation slacks middle (equation (zeros m) k (replicate 2 x) gap) → taken slacks b (two_sides_in l u k row a) ≡ Ok (new, n)
two_done slacks b middle new row k m x l u a gap n h w t s d =
    second_on slacks b middle new (operated max_part Sub u a) (operated max_part Sub u l) gap (equation row k (one_ℚ ∷ [])) (equation (zeros (length row)) k (one_ℚ ∷ one_ℚ ∷ [])) n
    (sym (one_slack slacks b row k x u a h) ∙ t) s
    (d ∙ ap (λ (m : ℕ). with_equation slacks middle (equation (zeros m) k (replicate 2 x) gap)) w ∙ ap (λ (x : ℚ). with_equation slacks middle (equation (zeros (length row)) k (x ∷ x ∷ []) gap)) h)

-- which equations a row's sides give
same_sides : (l u : ℚ) (k : ℕ) (row : List ℚ) (a x : ℚ) → same_fields l u ≡ true → side_in row (slack k 0 x) l a ≡ row_equations_by_in max_part (Some l) (Some u) k row a
unfolding row_equations_by_in
same_sides l u k row a x s = rw s refl

other_sides : (l u : ℚ) (k : ℕ) (row : List ℚ) (a : ℚ) → same_fields l u ≡ false → two_sides_in l u k row a ≡ row_equations_by_in max_part (Some l) (Some u) k row a
unfolding row_equations_by_in
other_sides l u k row a s = rw s refl

low_side : (l : ℚ) (k : ℕ) (row : List ℚ) (a : ℚ) → side_in row (slack k 1 (neg_ℚ one_ℚ)) l a ≡ row_equations_by_in max_part (Some l) None k row a
unfolding row_equations_by_in
low_side l k row a = refl

high_side : (u : ℚ) (k : ℕ) (row : List ℚ) (a : ℚ) → side_in row (slack k 1 one_ℚ) u a ≡ row_equations_by_in max_part None (Some u) k row a
unfolding row_equations_by_in
high_side u k row a = refl

no_side : (k : ℕ) (row : List ℚ) (a : ℚ) → row_equations_by_in max_part None None k row a ≡ Ok []
unfolding row_equations_by_in
no_side k row a = refl

by_sides : {A : Type 0} (f : Option ℚ → Option ℚ → A) (low high l h : Option ℚ) → low ≡ l → high ≡ h → f l h ≡ f low high
by_sides f low high l h e k = rw (e, k) refl

pub by_same : (low high : Option ℚ) (l u : ℚ) (k : ℕ) (row : List ℚ) (a x : ℚ) → low ≡ Some l → high ≡ Some u → same_fields l u ≡ true → side_in row (slack k 0 x) l a ≡ row_equations_by_in max_part low high k row a
by_same low high l u k row a x e f s = same_sides l u k row a x s ∙ by_sides (λ low high. row_equations_by_in max_part low high k row a) low high (Some l) (Some u) e f

pub by_others : (low high : Option ℚ) (l u : ℚ) (k : ℕ) (row : List ℚ) (a : ℚ) → low ≡ Some l → high ≡ Some u → same_fields l u ≡ false → two_sides_in l u k row a ≡ row_equations_by_in max_part low high k row a
by_others low high l u k row a e f s = other_sides l u k row a s ∙ by_sides (λ low high. row_equations_by_in max_part low high k row a) low high (Some l) (Some u) e f

pub by_low : (low high : Option ℚ) (l : ℚ) (k : ℕ) (row : List ℚ) (a y : ℚ) → low ≡ Some l → high ≡ None → y ≡ neg_ℚ one_ℚ → side_in row (slack k 1 y) l a ≡ row_equations_by_in max_part low high k row a
by_low low high l k row a y e f h =
    ap (λ (y : ℚ). side_in row (slack k 1 y) l a) h ∙ low_side l k row a ∙ by_sides (λ low high. row_equations_by_in max_part low high k row a) low high (Some l) None e f

pub by_high : (low high : Option ℚ) (u : ℚ) (k : ℕ) (row : List ℚ) (a x : ℚ) → low ≡ None → high ≡ Some u → x ≡ one_ℚ → side_in row (slack k 1 x) u a ≡ row_equations_by_in max_part low high k row a
by_high low high u k row a x e f h =
    ap (λ (x : ℚ). side_in row (slack k 1 x) u a) h ∙ high_side u k row a ∙ by_sides (λ low high. row_equations_by_in max_part low high k row a) low high None (Some u) e f

pub by_none : (slacks : ℕ) (b : Built) (low high : Option ℚ) (k : ℕ) (row : List ℚ) (a : ℚ) → low ≡ None → high ≡ None → taken slacks b (row_equations_by_in max_part low high k row a) ≡ Ok (b, false)
by_none slacks b low high k row a e f =
    ap (taken slacks b) (sym (by_sides (λ low high. row_equations_by_in max_part low high k row a) low high None None e f) ∙ no_side k row a) ∙ ap (λ (c : Built). Ok (c, false)) (no_equations slacks b)

-- ---- more and more equations

pub more_on : (slacks : ℕ) (b new : Built) (left u rest : Result (List Equation) Refused) (whole : Result Built Refused) → left ≡ (u >>= λ es. rest >>= λ others. Ok (es ++ others))
    → appended slacks b u ≡ Ok new → appended slacks b left ≡ whole → appended slacks new rest ≡ whole
more_on slacks b new left (Err r) rest whole e h k = absurd cc
more_on slacks b new left (Ok es) rest whole e h k =
    let f : with_equations slacks b es ≡ new = cc in
    by f rest ∙ ap (λ (v : Result (List Equation) Refused). appended slacks b v) (sym e) ∙ k
  where
    by : with_equations slacks b es ≡ new → (rest : Result (List Equation) Refused) → appended slacks new rest ≡ appended slacks b (rest >>= λ others. Ok (es ++ others))
    by f (Err r) = refl
    by f (Ok others) = ap (λ (a : Built). Ok a) (ap (λ (a : Built). with_equations slacks a others) (sym f) ∙ equations_after slacks b es others)

pub more_stops : (e : Stop) (slacks : ℕ) (b : Built) (left u rest : Result (List Equation) Refused) (whole : Result Built Refused) → left ≡ (u >>= λ es. rest >>= λ others. Ok (es ++ others))
    → Stops e (appended slacks b u) → appended slacks b left ≡ whole → Stops e whole
more_stops Memory slacks b left u rest whole e h k = tt
more_stops (Past q) slacks b left (Ok es) rest whole e h k = absurd cc
more_stops (Past q) slacks b left (Err r) rest whole e h k = let f : r ≡ q = cc in sym k ∙ ap (λ (v : Result (List Equation) Refused). appended slacks b v) e ∙ ap (λ (x : Refused). Err x) f

pub all_appended : (slacks : ℕ) (b : Built) (left : Result (List Equation) Refused) (whole : Result Built Refused) → left ≡ Ok [] → appended slacks b left ≡ whole → whole ≡ Ok b
all_appended slacks b left whole e k = sym k ∙ ap (λ (v : Result (List Equation) Refused). appended slacks b v) e ∙ ap (λ (a : Built). Ok a) (no_equations slacks b)

-- the equations of a row that was taken
pub taken_appended : (slacks : ℕ) (b new : Built) (u : Result (List Equation) Refused) (n : Bool) → taken slacks b u ≡ Ok (new, n) → (appended slacks b u ≡ Ok new) × ((es : List Equation) × (u ≡ Ok es) × (n ≡ begins_negated es) × (new ≡ with_equations slacks b es))
taken_appended slacks b new (Err r) n h = absurd cc
taken_appended slacks b new (Ok es) n h =
    let p = both_of (with_equations slacks b es) new (begins_negated es) n _ _ refl h refl in
    (ap (λ (a : Built). Ok a) p.0, (es, refl, sym p.1, sym p.0))

pub taken_stops : (e : Stop) (slacks : ℕ) (b : Built) (u : Result (List Equation) Refused) → Stops e (taken slacks b u) → Stops e (appended slacks b u)
taken_stops Memory slacks b u h = tt
taken_stops (Past q) slacks b (Ok es) h = absurd cc
taken_stops (Past q) slacks b (Err r) h = let f : r ≡ q = cc in ap (λ (x : Refused). Err x) f

-- ---- the rows, one after another

-- what is left of the rows
abbrev pub rows_left : Region → List ℚ → ℕ → ℕ → List Row → List (List ℚ) → Result (List Equation) Refused
rows_left region h k i ss rows = row_equations_in max_part region h k (drop i ss) (drop i rows)

row_equations_on : (region : Region) (h : List ℚ) (k : ℕ) (s : Row) (ss : List Row) (row : List ℚ) (rows : List (List ℚ)) → row_equations_in max_part region h k (s ∷ ss) (row ∷ rows)
    ≡ (answered (dot_of max_part row h) >>= λ a. row_equations_by_in max_part s.low s.high k (spread region row) a >>= λ es. row_equations_in max_part region h (k + slacks_at s) ss rows >>= λ others. Ok (es ++ others))
unfolding row_equations_in
row_equations_on region h k s ss row rows = refl

rows_next : (region : Region) (h : List ℚ) (k i : ℕ) (ss : List Row) (rows : List (List ℚ)) (s : Row) (row : List ℚ) → drop i ss ≡ s ∷ drop (i + 1) ss → drop i rows ≡ row ∷ drop (i + 1) rows → rows_left region h k i ss rows
    ≡ (answered (dot_of max_part row h) >>= λ a. row_equations_by_in max_part s.low s.high k (spread region row) a >>= λ es. rows_left region h (k + slacks_at s) (i + 1) ss rows >>= λ others. Ok (es ++ others))
rows_next region h k i ss rows s row e f =
    ap (λ (ss : List Row). row_equations_in max_part region h k ss (drop i rows)) e
    ∙ ap (λ (m : List (List ℚ)). row_equations_in max_part region h k (s ∷ drop (i + 1) ss) m) f ∙ row_equations_on region h k s (drop (i + 1) ss) row (drop (i + 1) rows)

pub row_stops : (e : Stop) (slacks : ℕ) (b : Built) (region : Region) (h : List ℚ) (k i : ℕ) (ss : List Row) (rows : List (List ℚ)) (s : Row) (row : List ℚ) (whole : Result Built Refused)
    → drop i ss ≡ s ∷ drop (i + 1) ss → drop i rows ≡ row ∷ drop (i + 1) rows
    → Stops e (answered (dot_of max_part row h)) → appended slacks b (rows_left region h k i ss rows) ≡ whole → Stops e whole
row_stops e slacks b region h k i ss rows s row whole f g d w =
    stops_as e (appended slacks b (rows_left region h k i ss rows)) whole w
    (stops_then e (rows_left region h k i ss rows) (λ es. Ok (with_equations slacks b es))
    (stops_as e _ (rows_left region h k i ss rows) (sym (rows_next region h k i ss rows s row f g))
    (stops_then e (answered (dot_of max_part row h)) (λ a. row_equations_by_in max_part s.low s.high k (spread region row) a >>= λ es. rows_left region h (k + slacks_at s) (i + 1) ss rows >>= λ others. Ok (es ++ others)) d)))

-- with the row's product known
known_next : (region : Region) (h : List ℚ) (k i : ℕ) (ss : List Row) (rows : List (List ℚ)) (s : Row) (row : List ℚ) (a : ℚ) → drop i ss ≡ s ∷ drop (i + 1) ss → drop i rows ≡ row ∷ drop (i + 1) rows
    → answered (dot_of max_part row h) ≡ Ok a
    → rows_left region h k i ss rows ≡ (row_equations_by_in max_part s.low s.high k (spread region row) a >>= λ es. rows_left region h (k + slacks_at s) (i + 1) ss rows >>= λ others. Ok (es ++ others))
known_next region h k i ss rows s row a e f d =
    rows_next region h k i ss rows s row e f
    ∙ ap (λ (t : Result ℚ Refused). t >>= λ a. row_equations_by_in max_part s.low s.high k (spread region row) a >>= λ es. rows_left region h (k + slacks_at s) (i + 1) ss rows >>= λ others. Ok (es ++ others)) d

pub sides_stop : (e : Stop) (slacks : ℕ) (b : Built) (region : Region) (h : List ℚ) (k i : ℕ) (ss : List Row) (rows : List (List ℚ)) (s : Row) (row : List ℚ) (a : ℚ) (whole : Result Built Refused)
    → drop i ss ≡ s ∷ drop (i + 1) ss → drop i rows ≡ row ∷ drop (i + 1) rows → answered (dot_of max_part row h) ≡ Ok a
    → Stops e (taken slacks b (row_equations_by_in max_part s.low s.high k (spread region row) a)) → appended slacks b (rows_left region h k i ss rows) ≡ whole → Stops e whole
sides_stop e slacks b region h k i ss rows s row a whole f g d t w =
    more_stops e slacks b (rows_left region h k i ss rows) (row_equations_by_in max_part s.low s.high k (spread region row) a) (rows_left region h (k + slacks_at s) (i + 1) ss rows) whole
    (known_next region h k i ss rows s row a f g d) (taken_stops e slacks b _ t) w

pub row_on : (slacks : ℕ) (b new : Built) (region : Region) (h : List ℚ) (k i m : ℕ) (ss : List Row) (rows : List (List ℚ)) (s : Row) (row : List ℚ) (a : ℚ) (n : Bool) (whole : Result Built Refused)
    → drop i ss ≡ s ∷ drop (i + 1) ss → drop i rows ≡ row ∷ drop (i + 1) rows → m ≡ slacks_at s → answered (dot_of max_part row h) ≡ Ok a
    → taken slacks b (row_equations_by_in max_part s.low s.high k (spread region row) a) ≡ Ok (new, n) → appended slacks b (rows_left region h k i ss rows) ≡ whole
    → appended slacks new (rows_left region h (k + m) (i + 1) ss rows) ≡ whole
row_on slacks b new region h k i m ss rows s row a n whole f g l d t w =
    ap (λ (m : ℕ). appended slacks new (rows_left region h (k + m) (i + 1) ss rows)) l
    ∙ more_on slacks b new (rows_left region h k i ss rows) (row_equations_by_in max_part s.low s.high k (spread region row) a) (rows_left region h (k + slacks_at s) (i + 1) ss rows) whole
    (known_next region h k i ss rows s row a f g d) (taken_appended slacks b new _ n t).0 w

no_rows : (region : Region) (h : List ℚ) (k : ℕ) (rows : List (List ℚ)) → row_equations_in max_part region h k [] rows ≡ Ok []
unfolding row_equations_in
no_rows region h k rows = refl

pub rows_end : (slacks : ℕ) (b : Built) (region : Region) (h : List ℚ) (k i : ℕ) (ss : List Row) (rows : List (List ℚ)) (whole : Result Built Refused) → length ss ≤ i
    → appended slacks b (rows_left region h k i ss rows) ≡ whole → whole ≡ Ok b
rows_end slacks b region h k i ss rows whole l w =
    all_appended slacks b (rows_left region h k i ss rows) whole (ap (λ (ss : List Row). row_equations_in max_part region h k ss (drop i rows)) (drop_all i ss l) ∙ no_rows region h k (drop i rows)) w

-- ---- the first equation of each row

number_is : (t : Tried) (v : ℚ) → answered t ≡ Ok v → t ≡ Is v
number_is (Is q) v h = let e : q ≡ v = cc in ap (λ (q : ℚ). Is q) e
number_is (PastTried r) v h = absurd cc

difference_is : (p q v : ℚ) → operated max_part Sub p q ≡ Ok v → v ≡ p -ℚ q
difference_is p q v h = tried-value max_part Sub p q v (number_is (tried_in max_part Sub p q) v h)

dot_is : (row h : List ℚ) (a : ℚ) → answered (dot_of max_part row h) ≡ Ok a → a ≡ dot row h
dot_is row h a e = dot_of-value max_part row h a (number_is (dot_of max_part row h) a e)

one_exact : (t : Result ℚ Refused) (f : ℚ → List Equation) (v : ℚ) (es : List Equation) → ((q : ℚ) → t ≡ Ok q → q ≡ v) → (t >>= λ r. Ok (f r)) ≡ Ok es → es ≡ f v
one_exact (Ok r) f v es h e = let g : f r ≡ es = cc in sym g ∙ ap f (h r refl)
one_exact (Err r) f v es h e = absurd cc

two_exact : (t u : Result ℚ Refused) (f : ℚ → ℚ → List Equation) (v w : ℚ) (es : List Equation) → ((q : ℚ) → t ≡ Ok q → q ≡ v) → ((q : ℚ) → u ≡ Ok q → q ≡ w)
    → (t >>= λ r. u >>= λ gap. Ok (f r gap)) ≡ Ok es → es ≡ f v w
two_exact (Ok r) u f v w es h k e = one_exact u (f r) w es k e ∙ ap (λ (r : ℚ). f r w) (h r refl)
two_exact (Err r) u f v w es h k e = absurd cc

by_exact : (low high : Option ℚ) (k : ℕ) (row : List ℚ) (a : ℚ) (es : List Equation) → row_equations_by_in max_part low high k row a ≡ Ok es → es ≡ row_equations_by low high k row a
unfolding row_equations_by_in
by_exact None None k row a es e = let g : [] ≡ es = cc in sym g
by_exact None (Some u) k row a es e = one_exact (operated max_part Sub u a) (λ r. equation row k (one_ℚ ∷ []) r ∷ []) (u -ℚ a) es (difference_is u a) e
by_exact (Some l) None k row a es e = one_exact (operated max_part Sub l a) (λ r. equation row k (neg_ℚ one_ℚ ∷ []) r ∷ []) (l -ℚ a) es (difference_is l a) e
by_exact (Some l) (Some u) k row a es e = by (same_fields l u) e
  where
    alone : ℚ → List Equation
    alone r = equation row k [] r ∷ []

    both : ℚ → ℚ → List Equation
    both r gap = equation row k (one_ℚ ∷ []) r ∷ equation (zeros (length row)) k (one_ℚ ∷ one_ℚ ∷ []) gap ∷ []

    by : (t : Bool) → cond t (operated max_part Sub l a >>= λ r. Ok (alone r)) (operated max_part Sub u a >>= λ r. operated max_part Sub u l >>= λ gap. Ok (both r gap)) ≡ Ok es → es ≡ cond t (alone (l -ℚ a)) (both (u -ℚ a) (u -ℚ l))
    by true e = one_exact (operated max_part Sub l a) alone (l -ℚ a) es (difference_is l a) e
    by false e = two_exact (operated max_part Sub u a) (operated max_part Sub u l) both (u -ℚ a) (u -ℚ l) es (difference_is u a) (difference_is u l) e

abbrev pub first : ℕ → Bool → First
first n b = record { equation = n; negated = b }

pub first_of : (low high : Option ℚ) (n : ℕ) (ss : List Row) (k : ℕ) (row : List ℚ) (a : ℚ) (others : List Equation) → IsSome low ⊎ IsSome high
    → firsts_from n (record { low = low; high = high } ∷ ss) (row_equations_by low high k row a ++ others)
    ≡ record { equation = n; negated = begins_negated (row_equations_by low high k row a) } ∷ firsts_from (n + length (row_equations_by low high k row a)) ss others
first_of None None n ss k row a others h = elim h [ inl w ↦ absurd cc | inr w ↦ absurd cc ]
first_of None (Some u) n ss k row a others h = refl
first_of (Some l) None n ss k row a others h = refl
first_of (Some l) (Some u) n ss k row a others h = by (same_fields l u)
  where
    es : Bool → List Equation
    es t = cond t (equation row k [] (l -ℚ a) ∷ []) (equation row k (one_ℚ ∷ []) (u -ℚ a) ∷ equation (zeros (length row)) k (one_ℚ ∷ one_ℚ ∷ []) (u -ℚ l) ∷ [])

    count : Bool → ℕ
    count t = (cond {A = ℕ × ℕ} t (1, 0) (2, 2)).0

    by : (t : Bool) → first n (begins_negated (es t ++ others)) ∷ firsts_from (n + count t) ss (drop (count t) (es t ++ others)) ≡ first n (begins_negated (es t)) ∷ firsts_from (n + length (es t)) ss others
    by true = refl
    by false = refl

pub first_on : (slacks : ℕ) (old new : Built) (region : Region) (h : List ℚ) (k i m count : ℕ) (ss : List Row) (rows : List (List ℚ)) (s : Row) (row : List ℚ) (a : ℚ) (n : Bool) (was now : List First) (more : List Equation) (whole : List First)
    → drop i ss ≡ s ∷ drop (i + 1) ss → drop i rows ≡ row ∷ drop (i + 1) rows → IsSome s.low ⊎ IsSome s.high → m ≡ slacks_at s → answered (dot_of max_part row h) ≡ Ok a
    → taken slacks old (row_equations_by_in max_part s.low s.high k (spread region row) a) ≡ Ok (new, n) → count ≡ length old.right → now ≡ was ++ record { equation = count; negated = n } ∷ []
    → was ++ firsts_from (length old.right) (drop i ss) (row_equations region h k (drop i ss) (drop i rows) ++ more) ≡ whole
    → now ++ firsts_from (length new.right) (drop (i + 1) ss) (row_equations region h (k + m) (drop (i + 1) ss) (drop (i + 1) rows) ++ more) ≡ whole
first_on slacks old new region h k i m count ss rows s row a n was now more whole f g some l d t c w k2 =
    let found = (taken_appended slacks old new (row_equations_by_in max_part s.low s.high k (spread region row) a) n t).1 in
    let es = row_equations_by s.low s.high k (spread region row) (dot row h) in
    let exact : found.0 ≡ es = by_exact s.low s.high k (spread region row) a found.0 found.1 ∙ ap (row_equations_by s.low s.high k (spread region row)) (dot_is row h a d) in
    let others = row_equations region h (k + slacks_at s) (drop (i + 1) ss) (drop (i + 1) rows) in
    let start = length old.right in
    let after : length new.right ≡ start + length es =
    ap (λ (b : Built). length b.right) (found.3 ∙ ap (with_equations slacks old) exact) ∙ length-append old.right (map right_of es) ∙ ap (λ (n : ℕ). start + n) (length-map es right_of) in
    let same : record { equation = count; negated = n } ≡ first start (begins_negated es) = ap (λ (c : ℕ). first c n) c ∙ ap (first start) (found.2 ∙ ap begins_negated exact) in
    ap (λ (m : ℕ). now ++ firsts_from (length new.right) (drop (i + 1) ss) (row_equations region h (k + m) (drop (i + 1) ss) (drop (i + 1) rows) ++ more)) l
    ∙ ap (λ (n : ℕ). now ++ firsts_from n (drop (i + 1) ss) (others ++ more)) after
    ∙ ap (λ (fs : List First). fs ++ firsts_from (start + length es) (drop (i + 1) ss) (others ++ more)) (w ∙ ap (λ (x : First). was ++ x ∷ []) same)
    ∙ append_assoc was (first start (begins_negated es) ∷ []) (firsts_from (start + length es) (drop (i + 1) ss) (others ++ more))
    ∙ ap (λ (fs : List First). was ++ fs) (sym (first_of s.low s.high start (drop (i + 1) ss) k (spread region row) (dot row h) (others ++ more) some))
    ∙ ap (λ (qs : List Equation). was ++ firsts_from start (s ∷ drop (i + 1) ss) qs) (sym (append_assoc es others more))
    ∙ ap (λ (rs : List (List ℚ)). was ++ firsts_from start (s ∷ drop (i + 1) ss) (row_equations region h k (s ∷ drop (i + 1) ss) rs ++ more)) (sym g)
    ∙ ap (λ (us : List Row). was ++ firsts_from start us (row_equations region h k us (drop i rows) ++ more)) (sym f)
    ∙ k2
