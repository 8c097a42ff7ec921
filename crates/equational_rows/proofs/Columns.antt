-- The equations of the columns, one after another.
use Rattle.std.specs.Prelude.{◌≡◌, ◌<◌, ◌≤◌, ℕ, zero, suc, ◌+◌, ◌-◌, List, [], ◌∷◌, ◌++◌, drop, length, get_or, Option, Some, None, Result, Ok}
use Rattle.std.proofs.Common.{refl, sym, ap, ◌∙◌, arith, add-one}
use Rattle.std.proofs.lemmas.List.{drop_all}
use Rattle.rational.specs.Rational.{ℚ, zero_ℚ, one_ℚ}
use Rattle.rational.specs.Vectors.{zeros, unit_vector}
use Rattle.frac_core.specs.Parts.{max_part}
use Rattle.frac_core.specs.declared.fractions.Op.TheVariants.{Sub}
use Rattle.frac_core.specs.declared.fractions.Refused.{Refused}
use Rattle.exact_matrix.specs.declared.systems.Stop.{Stop}
use Rattle.program_law.specs.declared.Row.{Row}
use Rattle.program_law.specs.Region.{Region}
use Rattle.equational_law.specs.Standing.{Standing, Above, Below, Free, standing, parts_at, parts, spread_at, spread}
use Rattle.equational_law.specs.Equations.{Equation, bound_slacks_by}
use Rattle.frac_core.specs.Calculated.{◌>>=◌, operated}
use Rattle.equational_law.specs.Calculation.{bound_equation_in, bound_equations_in}
use Rattle.exact_matrix.specs.Stops.{Stops}
use Rattle.equational_rows.specs.Built.{Built, with_equation, with_equations, appended}
use Rattle.equational_rows.proofs.Chains.{stops_then}
use Rattle.equational_rows.proofs.Appended.{no_equations, one_equation, neg-zero}
use Rattle.equational_rows.proofs.Gathered.{equation, more_on, more_stops, all_appended}
use Rattle.equational_rows.proofs.Places.{at_place}

-- ---- a unit vector on the form's columns

spread-zeros : (region : Region) → spread region (zeros (length region)) ≡ zeros (parts region)
spread-zeros [] = refl
spread-zeros (b ∷ bs) = by (standing b) (spread bs (zeros (length bs))) (spread-zeros bs)
  where
    by : (s : Standing) (xs : List ℚ) → xs ≡ zeros (parts bs) → spread_at s zero_ℚ ++ xs ≡ zeros (parts_at s + parts bs)
    by (Above l) xs e = ap (λ (ys : List ℚ). zero_ℚ ∷ ys) e ∙ next (parts bs)
      where
        next : (n : ℕ) → zero_ℚ ∷ zeros n ≡ zeros (1 + n)
        next n = let o : 1 + n ≡ suc n = omega arith in rw o refl
    by (Below u) xs e = ap (λ (x : ℚ). x ∷ xs) neg-zero ∙ ap (λ (ys : List ℚ). zero_ℚ ∷ ys) e ∙ next (parts bs)
      where
        next : (n : ℕ) → zero_ℚ ∷ zeros n ≡ zeros (1 + n)
        next n = let o : 1 + n ≡ suc n = omega arith in rw o refl
    by Free xs e = ap (λ (x : ℚ). zero_ℚ ∷ x ∷ xs) neg-zero ∙ ap (λ (ys : List ℚ). zero_ℚ ∷ zero_ℚ ∷ ys) e ∙ next (parts bs)
      where
        next : (n : ℕ) → zero_ℚ ∷ zero_ℚ ∷ zeros n ≡ zeros (2 + n)
        next n = let o : 2 + n ≡ suc (suc n) = omega arith in rw o refl

pub zeros-add : (n m : ℕ) → zeros n ++ zeros m ≡ zeros (n + m)
zeros-add zero m = let o : 0 + m ≡ m = omega arith in rw o refl
zeros-add (suc n) m = let o : suc n + m ≡ suc (n + m) = omega arith in rw o (ap (λ (ys : List ℚ). zero_ℚ ∷ ys) (zeros-add n m))

-- a zero before
unit_after : (s : Standing) (n m : ℕ) (xs rest : List ℚ) → xs ≡ zeros n ++ rest → spread_at s zero_ℚ ++ xs ≡ zeros (parts_at s + n) ++ rest
unit_after (Above l) n m xs rest e = ap (λ (ys : List ℚ). zero_ℚ ∷ ys) e ∙ (let o : 1 + n ≡ suc n = omega arith in rw o refl)
unit_after (Below u) n m xs rest e = ap (λ (x : ℚ). x ∷ xs) neg-zero ∙ ap (λ (ys : List ℚ). zero_ℚ ∷ ys) e ∙ (let o : 1 + n ≡ suc n = omega arith in rw o refl)
unit_after Free n m xs rest e = ap (λ (x : ℚ). zero_ℚ ∷ x ∷ xs) neg-zero ∙ ap (λ (ys : List ℚ). zero_ℚ ∷ zero_ℚ ∷ ys) e ∙ (let o : 2 + n ≡ suc (suc n) = omega arith in rw o refl)

spread-unit : (region : Region) (j : ℕ) (b : Row) (at : ℕ) → j < length region → b ≡ get_or region j b → at + parts (drop j region) ≡ parts region
    → spread region (unit_vector (length region) j) ≡ zeros at ++ (spread_at (standing b) one_ℚ ++ zeros (parts region - (at + parts_at (standing b))))
spread-unit [] j b at h e f = absurd (omega arith)
spread-unit (c ∷ cs) zero b at h e f =
    let g : b ≡ c = e in
    let o : at ≡ 0 = omega (arith, f) in
    let w : parts cs ≡ (parts_at (standing c) + parts cs) - (0 + parts_at (standing c)) = omega arith in
    rw (g, o) (ap (λ (ys : List ℚ). spread_at (standing c) one_ℚ ++ ys) (spread-zeros cs ∙ ap zeros w))
spread-unit (c ∷ cs) (suc j) b at h e f =
    let n = at - parts_at (standing c) in
    let within = parts-drop cs j in
    let o : at ≡ parts_at (standing c) + n = omega (arith, f, within) in
    let w : n + parts (drop j cs) ≡ parts cs = omega (arith, f, within) in
    let tail = spread_at (standing b) one_ℚ ++ zeros (parts cs - (n + parts_at (standing b))) in
    let same : parts cs - (n + parts_at (standing b)) ≡ (parts_at (standing c) + parts cs) - (at + parts_at (standing b)) = omega (arith, o) in
    unit_after (standing c) n 0 (spread cs (unit_vector (length cs) j)) tail (spread-unit cs j b n (omega arith) e w)
    ∙ ap (λ (k : ℕ). zeros k ++ tail) (sym o) ∙ ap (λ (k : ℕ). zeros at ++ (spread_at (standing b) one_ℚ ++ zeros k)) same
  where
    parts-drop : (cs : Region) (j : ℕ) → parts (drop j cs) ≤ parts cs
    parts-drop [] zero = omega arith
    parts-drop [] (suc j) = omega arith
    parts-drop (c ∷ cs) zero = omega arith
    parts-drop (c ∷ cs) (suc j) = omega (arith, parts-drop cs j)

-- ---- one column

bound_equation_as : (low high : Option ℚ) (k at n : ℕ) (unit : List ℚ) → ((l : ℚ) → low ≡ Some l → unit ≡ zeros at ++ one_ℚ ∷ zeros (n - (at + 1)))
    → bound_equation_in max_part low high k unit ≡ bound_equation_in max_part low high k (zeros at ++ one_ℚ ∷ zeros (n - (at + 1)))
unfolding bound_equation_in
bound_equation_as None high k at n unit h = refl
bound_equation_as (Some l) None k at n unit h = refl
bound_equation_as (Some l) (Some u) k at n unit h = ap (λ (unit : List ℚ). operated max_part Sub u l >>= λ gap. Ok (equation unit k (one_ℚ ∷ []) gap ∷ [])) (h l refl)

-- what is left of the columns
abbrev pub columns_left : Region → ℕ → ℕ → Result (List Equation) Refused
columns_left region k j = bound_equations_in max_part region k j (drop j region)

columns_on : (region : Region) (k j : ℕ) (b : Row) (bs : Region) → bound_equations_in max_part region k j (b ∷ bs)
    ≡ (bound_equation_in max_part b.low b.high k (spread region (unit_vector (length region) j)) >>= λ es. bound_equations_in max_part region (k + bound_slacks_by b.low b.high) (suc j) bs >>= λ others. Ok (es ++ others))
unfolding bound_equations_in
columns_on region k j b bs = refl

unit_of : (region : Region) (j at : ℕ) (b : Row) → j < length region → b ≡ get_or region j b → at + parts (drop j region) ≡ parts region → (l : ℚ) → b.low ≡ Some l
    → spread region (unit_vector (length region) j) ≡ zeros at ++ one_ℚ ∷ zeros (parts region - (at + 1))
unit_of region j at b h e f l g = let s : standing b ≡ Above l = rw g refl in spread-unit region j b at h e f ∙ ap (λ (s : Standing). zeros at ++ (spread_at s one_ℚ ++ zeros (parts region - (at + parts_at s)))) s

columns_next : (region : Region) (k j at : ℕ) (b : Row) → j < length region → b ≡ get_or region j b → at + parts (drop j region) ≡ parts region
    → columns_left region k j
    ≡ (bound_equation_in max_part b.low b.high k (zeros at ++ one_ℚ ∷ zeros (parts region - (at + 1))) >>= λ es. columns_left region (k + bound_slacks_by b.low b.high) (j + 1) >>= λ others. Ok (es ++ others))
columns_next region k j at b h e f =
    ap (bound_equations_in max_part region k j) (at_place region j b h e) ∙ columns_on region k j b (drop (j + 1) region)
    ∙ ap (λ (i : ℕ). bound_equation_in max_part b.low b.high k (spread region (unit_vector (length region) j)) >>= λ es. bound_equations_in max_part region (k + bound_slacks_by b.low b.high) i (drop (j + 1) region) >>= λ others. Ok (es ++ others)) (sym (add-one j))
    ∙ ap (λ (u : Result (List Equation) Refused). u >>= λ es. columns_left region (k + bound_slacks_by b.low b.high) (j + 1) >>= λ others. Ok (es ++ others))
    (bound_equation_as b.low b.high k at (parts region) (spread region (unit_vector (length region) j)) (unit_of region j at b h e f))

pub column_stops : (e : Stop) (slacks : ℕ) (built : Built) (region : Region) (k j at : ℕ) (b : Row) (whole : Result Built Refused) → j < length region → b ≡ get_or region j b → at + parts (drop j region) ≡ parts region
    → Stops e (appended slacks built (bound_equation_in max_part b.low b.high k (zeros at ++ one_ℚ ∷ zeros (parts region - (at + 1))))) → appended slacks built (columns_left region k j) ≡ whole → Stops e whole
column_stops e slacks built region k j at b whole h f g s w =
    more_stops e slacks built (columns_left region k j) _ (columns_left region (k + bound_slacks_by b.low b.high) (j + 1)) whole (columns_next region k j at b h f g) s w

pub column_on : (slacks : ℕ) (built new : Built) (region : Region) (k j at m : ℕ) (b : Row) (whole : Result Built Refused) → j < length region → b ≡ get_or region j b → at + parts (drop j region) ≡ parts region
    → m ≡ bound_slacks_by b.low b.high → appended slacks built (bound_equation_in max_part b.low b.high k (zeros at ++ one_ℚ ∷ zeros (parts region - (at + 1)))) ≡ Ok new
    → appended slacks built (columns_left region k j) ≡ whole → appended slacks new (columns_left region (k + m) (j + 1)) ≡ whole
column_on slacks built new region k j at m b whole h f g l s w =
    ap (λ (m : ℕ). appended slacks new (columns_left region (k + m) (j + 1))) l
    ∙ more_on slacks built new (columns_left region k j) _ (columns_left region (k + bound_slacks_by b.low b.high) (j + 1)) whole (columns_next region k j at b h f g) s w

no_columns : (region : Region) (k j : ℕ) → bound_equations_in max_part region k j [] ≡ Ok []
unfolding bound_equations_in
no_columns region k j = refl

pub columns_end : (slacks : ℕ) (b : Built) (region : Region) (k j : ℕ) (whole : Result Built Refused) → length region ≤ j → appended slacks b (columns_left region k j) ≡ whole → whole ≡ Ok b
columns_end slacks b region k j whole l w =
    all_appended slacks b (columns_left region k j) whole (ap (bound_equations_in max_part region k j) (drop_all j region l) ∙ no_columns region k j) w

pub column_taken : (slacks : ℕ) (b new : Built) (low high : Option ℚ) (l u : ℚ) (k : ℕ) (unit : List ℚ) (x gap : ℚ) → low ≡ Some l → high ≡ Some u → x ≡ one_ℚ → operated max_part Sub u l ≡ Ok gap
    → new ≡ with_equation slacks b (equation unit k (x ∷ []) gap) → appended slacks b (bound_equation_in max_part low high k unit) ≡ Ok new
unfolding bound_equation_in
column_taken slacks b new low high l u k unit x gap e f o d n =
    rw (e, f)
    (ap (λ (t : Result ℚ Refused). appended slacks b (t >>= λ gap. Ok (equation unit k (one_ℚ ∷ []) gap ∷ []))) d
    ∙ ap (λ (a : Built). Ok a) (one_equation slacks b (equation unit k (one_ℚ ∷ []) gap) ∙ ap (λ (x : ℚ). with_equation slacks b (equation unit k (x ∷ []) gap)) (sym o) ∙ sym n))

pub column_refused : (s : Stop) (slacks : ℕ) (b : Built) (low high : Option ℚ) (l u : ℚ) (k : ℕ) (unit : List ℚ) → low ≡ Some l → high ≡ Some u → Stops s (operated max_part Sub u l)
    → Stops s (appended slacks b (bound_equation_in max_part low high k unit))
unfolding bound_equation_in
column_refused s slacks b low high l u k unit e f d =
    rw (e, f) (stops_then s (operated max_part Sub u l >>= λ gap. Ok (equation unit k (one_ℚ ∷ []) gap ∷ [])) (λ es. Ok (with_equations slacks b es)) (stops_then s (operated max_part Sub u l) (λ gap. Ok (equation unit k (one_ℚ ∷ []) gap ∷ [])) d))

pub column_without : (slacks : ℕ) (b : Built) (low high : Option ℚ) (k : ℕ) (unit : List ℚ) → low ≡ None → appended slacks b (bound_equation_in max_part low high k unit) ≡ Ok b
unfolding bound_equation_in
column_without slacks b low high k unit e = rw e (ap (λ (a : Built). Ok a) (no_equations slacks b))

pub column_half : (slacks : ℕ) (b : Built) (low high : Option ℚ) (l : ℚ) (k : ℕ) (unit : List ℚ) → low ≡ Some l → high ≡ None → appended slacks b (bound_equation_in max_part low high k unit) ≡ Ok b
unfolding bound_equation_in
column_half slacks b low high l k unit e f = rw (e, f) (ap (λ (a : Built). Ok a) (no_equations slacks b))
