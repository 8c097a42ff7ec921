-- The multipliers of the first equations are those of the rows.
use Rattle.std.specs.Prelude.{◌≡◌, ℕ, zero, suc, ◌+◌, ◌≤◌, ◌<◌, List, [], ◌∷◌, map, length, drop, Option, Some, None, Bool, true, false, IsSome, ◌⊎◌, Result, Ok, Err, IfOk}
use Rattle.std.specs.List.{All}
use Rattle.std.proofs.Common.{inl, inr, refl, sym, ap, ◌∙◌, arith, cond, length-append}
use Rattle.std.proofs.lemmas.List.{drop-drop, get_or-drop, length-drop, length-map}
use Rattle.std.proofs.lemmas.List.Elements.{All-head, All-tail}
use Rattle.rational.specs.Rational.{ℚ, zero_ℚ, neg_ℚ}
use Rattle.rational.specs.Order.{same_fields}
use Rattle.rational.specs.Sums.{entry}
use Rattle.rational.specs.Vectors.{dot}
use Rattle.frac_core.specs.declared.vectors.Memory.{Memory}
use Rattle.program_law.specs.declared.Row.{Row}
use Rattle.program_law.specs.Region.{Region}
use Rattle.program_law.specs.Program.{Program, IsProgram, IsRow, sides}
use Rattle.equational_law.specs.Standing.{shift, spread}
use Rattle.equational_law.specs.Equations.{Equation, count_by, is_negated, row_equations, row_equations_by, row_slacks, bound_equations, slacks_at}
use Rattle.equational_law.specs.Form.{equations, firsts, multipliers_of, unsigned}
use Rattle.equational.specs.Back.{multiplier_at}
use Rattle.equational.specs.Formed.{formed, Formed}
use Rattle.equational_rows.specs.Firsts.{begins_negated, firsts_from}
use Rattle.equational_rows.specs.declared.equations.First.{First}

-- ---- each row has an equation

-- how many equations the rows have
abbrev count : List Row → ℕ
count [] = 0
count (s ∷ ss) = (count_by s.low s.high).0 + count ss

-- two sides that are equal or not
some_of_two : (t : Bool) (a b : ℕ × ℕ) → 0 < a.0 → 0 < b.0 → 0 < (cond t a b).0
some_of_two true a b h k = h
some_of_two false a b h k = k

length-of_two : (t : Bool) (a b : ℕ × ℕ) (es ds : List Equation) → length es ≡ a.0 → length ds ≡ b.0 → length (cond t es ds) ≡ (cond t a b).0
length-of_two true a b es ds h k = h
length-of_two false a b es ds h k = k

sides_some : (low high : Option ℚ) → IsSome low ⊎ IsSome high → 0 < (count_by low high).0
sides_some (Some l) (Some u) h = some_of_two (same_fields l u) (1, 0) (2, 2) (omega arith) (omega arith)
sides_some (Some l) None h = omega arith
sides_some None (Some u) h = omega arith
sides_some None None (inl h) = absurd (let e : false ≡ true = h in cc)
sides_some None None (inr h) = absurd (let e : false ≡ true = h in cc)

length-row_by : (low high : Option ℚ) (k : ℕ) (row : List ℚ) (a : ℚ) → length (row_equations_by low high k row a) ≡ (count_by low high).0
length-row_by (Some l) (Some u) k row a = length-of_two (same_fields l u) (1, 0) (2, 2) _ _ refl refl
length-row_by (Some l) None k row a = refl
length-row_by None (Some u) k row a = refl
length-row_by None None k row a = refl

length-rows : (region : Region) (h : List ℚ) (k : ℕ) (ss : List Row) (rows : List (List ℚ)) → length rows ≡ length ss
    → length (row_equations region h k ss rows) ≡ count ss
length-rows region h k [] rows e = refl
length-rows region h k (s ∷ ss) [] e = absurd (omega (arith, e))
length-rows region h k (s ∷ ss) (row ∷ rows) e =
    length-append (row_equations_by s.low s.high k (spread region row) (dot row h)) (row_equations region h (k + slacks_at s) ss rows)
    ∙ ap (λ n. n + length (row_equations region h (k + slacks_at s) ss rows)) (length-row_by s.low s.high k (spread region row) (dot row h))
    ∙ ap (λ n. (count_by s.low s.high).0 + n) (length-rows region h (k + slacks_at s) ss rows (omega (arith, e)))

-- ---- lists

first_of_rest : (y : List ℚ) (k : ℕ) → entry (drop k y) 0 ≡ entry y k
first_of_rest y k = get_or-drop k y 0 zero_ℚ ∙ ap (entry y) (omega arith)

one_on : (n : ℕ) → 1 + n ≡ suc n
one_on n = omega arith

unsigned_after : (n : ℕ) (es : List Equation) (y : List ℚ) → drop n (unsigned es y) ≡ unsigned (drop n es) (drop n y)
unsigned_after zero es y = refl
unsigned_after (suc n) [] y = refl
unsigned_after (suc n) (e ∷ es) y = unsigned_after n es (drop 1 y) ∙ ap (unsigned (drop n es)) (drop-drop n 1 y ∙ ap (λ k. drop k y) (one_on n))

-- ---- the first equations

-- the equations from the one at k on begin with this multiplier
first_read : (k : ℕ) (es : List Equation) (y : List ℚ) → 0 < length es
    → multiplier_at y (record { equation = k; negated = begins_negated es }) ≡ entry (unsigned es (drop k y)) 0
first_read k [] y h = absurd (omega (arith, h))
first_read k (e ∷ es) y h = ap (λ (x : ℚ). cond (is_negated e) (neg_ℚ x) x) (sym (first_of_rest y k))

firsts_read : (k : ℕ) (ss : List Row) (es : List Equation) (y : List ℚ) → All IsRow ss → count ss ≤ length es
    → map (multiplier_at y) (firsts_from k ss es) ≡ firsts ss (unsigned es (drop k y))
firsts_read k [] es y good enough = refl
firsts_read k (s ∷ ss) es y good enough =
    let n = (count_by s.low s.high).0 in
    let some : 0 < n = sides_some s.low s.high (All-head IsRow s ss good).some in
    ap (λ (x : ℚ). x ∷ map (multiplier_at y) (firsts_from (k + n) ss (drop n es))) (first_read k es y (omega (arith, some, enough)))
    ∙ ap (λ (xs : List ℚ). entry (unsigned es (drop k y)) 0 ∷ xs)
    (firsts_read (k + n) ss (drop n es) y (All-tail IsRow s ss good) (omega (arith, length-drop n es, enough))
    ∙ ap (λ (u : List ℚ). firsts ss (unsigned (drop n es) u)) (sym (drop-drop n k y))
    ∙ ap (firsts ss) (sym (unsigned_after n es (drop k y))))

enough : (p : Program) (region : Region) → length p.entries ≡ length (sides p) → count (sides p) ≤ length (equations p region)
enough p region high =
    let rows = row_equations region (shift region) 0 (sides p) p.entries in
    let others = bound_equations region (row_slacks (sides p)) 0 region in
    omega (arith, length-append rows others, length-rows region (shift region) 0 (sides p) p.entries high)

pub multipliers_read : (p : Program) (region : Region) (y : List ℚ) → IsProgram p
    → map (multiplier_at y) (firsts_from 0 (sides p) (equations p region)) ≡ multipliers_of p region y
multipliers_read p region y good = firsts_read 0 (sides p) (equations p region) y good.good_rows
    (enough p region (good.height ∙ sym (length-map p.rows (λ (r : List ℕ × Row). r.1))))

pub multipliers_answer : (kept : Formed) (read : List First) (y : List ℚ) (r : Result (List ℚ) Memory) → read ≡ kept.firsts
    → IfOk r (λ ys. ys ≡ map (multiplier_at y) read)
    → IfOk r (λ ys. (p : Program) (region : Region) → IsProgram p → kept ≡ formed p region → ys ≡ multipliers_of p region y)
multipliers_answer kept read y (Ok ys) same is =
    λ p region good e. is ∙ ap (map (multiplier_at y)) (same ∙ ap (λ (f : Formed). f.firsts) e) ∙ multipliers_read p region y good
multipliers_answer kept read y (Err m) same is = tt
