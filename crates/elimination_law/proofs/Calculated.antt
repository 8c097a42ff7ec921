-- The calculation of an elimination ends with the first operation that is past, and else with the exact lines.
use Rattle.std.proofs.Common.{◌≡◌, ℕ, zero, suc, List, [], ◌∷◌, ◌++◌, map, length, Option, Some, None, Bool, true, false, ◌||◌, sym, ap, ◌∙◌, subst, refl, arith}
use Rattle.std.specs.Prelude.{Result, Ok, Err}
use Rattle.std.specs.List.{AllByRecursion, All, Contains}
use Rattle.std.proofs.lemmas.List.Elements.{All-head, All-nil, All-cons, All-contains_itself, Contains-append_right}
use Rattle.rational.specs.Rational.{Fits, ℚ, zero_ℚ, ◌+ℚ◌, ◌-ℚ◌, ◌*ℚ◌, ◌/ℚ◌, neg_ℚ, reciprocal, fits}
use Rattle.rational.specs.Vectors.{HasColumns, add_each, scale}
use Rattle.rational.proofs.Fits.{fits_yes}
use Rattle.std.proofs.lemmas.Bool.Decides.{nat_tests}
use Rattle.elimination_law.specs.Answers.{lines_of}
use Rattle.elimination_law.specs.Elimination.{eliminated, Line, is_pivot, pivot_row, with_pivot, divided, freed, step, eliminated_from}
use Rattle.elimination_law.specs.Operations.{elimination_ops, first_past, division_ops, less_ops, freed_ops, each_freed_ops, step_ops, ops_from}
use Rattle.elimination_law.specs.Calculation.{eliminated_in, ended, divide_step, divided_in, with_entries, freed_in, line_then, each_freed_in, cleared_by, step_in, eliminated_from_in}
use Rattle.algebra.proofs.Ring as laws
use Rattle.algebra.proofs.Polynomial.{minus, ◌⊕◌, ◌⊝◌, ◌⊗◌, ◌≐◌, lit}
use Rattle.algebra.proofs.Solver.{ring}
use Rattle.rational.specs.Order.{same_fields, same_fields_lem}
use Rattle.rational.specs.Sums.{entry}
use Rattle.rational.proofs.Field.{rationals}
use Rattle.frac_core.specs.declared.fractions.Op.{Op}
use Rattle.frac_core.specs.declared.fractions.Op.TheVariants.{Sub, Mul, Div}
use Rattle.frac_core.specs.declared.fractions.Refused.{Refused}
use Rattle.frac_core.specs.declared.fractions.Tried.{Tried}
use Rattle.frac_core.specs.declared.fractions.Tried.TheVariants.{Is, Past}
use Rattle.frac_core.specs.Calculated.{tried_in, and_then, exact_of, ◌>>=◌}
use Rattle.frac_core.specs.Row.{less_step, Row, Entries, Refusal, entry_then, row_less}
use Rattle.frac_core.proofs.RowLemmas.{less_zero, less_more}
use Rattle.frac_core.specs.Operations.{operation, IsFirstPast, IsWithin}
use Rattle.elimination_law.proofs.Lines.{bool_cases, by_pivot_row, step-none, step-some, freed-pivot, freed-other, eliminated-end, eliminated-more, HasWidth, width-step, width-with_pivot, width-lines_of}

-- ---- the first operation that is past

pub first_past-none : (top : ℕ) → first_past top [] ≡ None
unfolding first_past
first_past-none top = refl

pub first_past-fits : (top : ℕ) (r : Refused) (rs : List Refused) → fits top (exact_of r.op r.left r.right) ≡ true → first_past top (r ∷ rs) ≡ first_past top rs
unfolding first_past
first_past-fits top r rs h = rw h

pub first_past-past : (top : ℕ) (r : Refused) (rs : List Refused) → fits top (exact_of r.op r.left r.right) ≡ false → first_past top (r ∷ rs) ≡ Some r
unfolding first_past
first_past-past top r rs h = rw h

-- the first of the two
abbrev either_first : Option Refused → Option Refused → Option Refused
either_first None o = o
either_first (Some r) o = Some r

first_past-append : (top : ℕ) (xs ys : List Refused) → first_past top (xs ++ ys) ≡ either_first (first_past top xs) (first_past top ys)
first_past-append top [] ys = ap (λ o. either_first o (first_past top ys)) (sym (first_past-none top))
first_past-append top (r ∷ xs) ys = bool_cases (fits top (exact_of r.op r.left r.right))
    (λ e. first_past-fits top r (xs ++ ys) e ∙ first_past-append top xs ys ∙ ap (λ o. either_first o (first_past top ys)) (sym (first_past-fits top r xs e)))
    (λ e. first_past-past top r (xs ++ ys) e ∙ ap (λ o. either_first o (first_past top ys)) (sym (first_past-past top r xs e)))

-- ---- one operation, one place

abbrev tried_ended : Option Refused → ℚ → Tried
tried_ended None q = Is q
tried_ended (Some r) q = Past r

tried_is : (top : ℕ) (op : Op) (p q : ℚ) → tried_in top op p q ≡ tried_ended (first_past top (operation op p q ∷ [])) (exact_of op p q)
tried_is top op p q = bool_cases (fits top (exact_of op p q))
    (λ e. fitting e ∙ ap (λ o. tried_ended o (exact_of op p q)) (sym (first_past-fits top (operation op p q) [] e ∙ first_past-none top)))
    (λ e. passing e ∙ ap (λ o. tried_ended o (exact_of op p q)) (sym (first_past-past top (operation op p q) [] e)))
  where
    fitting : fits top (exact_of op p q) ≡ true → tried_in top op p q ≡ Is (exact_of op p q)
    fitting e = rw e

    passing : fits top (exact_of op p q) ≡ false → tried_in top op p q ≡ Past (operation op p q)
    passing e = rw e

-- two operations, the second on the result of the first
tried_after : (o : Option Refused) (q : ℚ) (f : ℚ → Tried) (u : Option Refused) (r : ℚ) → f q ≡ tried_ended u r → and_then (tried_ended o q) f ≡ tried_ended (either_first o u) r
tried_after None q f u r h = h
tried_after (Some x) q f u r h = refl

abbrev row_ended : Option Refused → List ℚ → Row
row_ended None row = Entries row
row_ended (Some r) row = Refusal r

entry_before : (o u : Option Refused) (q : ℚ) (row : List ℚ) → entry_then (tried_ended o q) (row_ended u row) ≡ row_ended (either_first o u) (q ∷ row)
entry_before None None q row = refl
entry_before None (Some r) q row = refl
entry_before (Some r) u q row = refl

-- ---- a row divided

divide_zero : (top : ℕ) (q x : ℚ) → same_fields x zero_ℚ ≡ true → divide_step top q x ≡ Is x
unfolding divide_step
divide_zero top q x h = rw h

divide_more : (top : ℕ) (q x : ℚ) → same_fields x zero_ℚ ≡ false → divide_step top q x ≡ tried_in top Div x q
unfolding divide_step
divide_more top q x h = rw h

pub division_ops-zero : (q x : ℚ) (row : List ℚ) → same_fields x zero_ℚ ≡ true → division_ops q (x ∷ row) ≡ division_ops q row
unfolding division_ops
division_ops-zero q x row h = rw h

pub division_ops-more : (q x : ℚ) (row : List ℚ) → same_fields x zero_ℚ ≡ false → division_ops q (x ∷ row) ≡ (operation Div x q ∷ []) ++ division_ops q row
unfolding division_ops
division_ops-more q x row h = rw h

zero_divided : (q x : ℚ) → same_fields x zero_ℚ ≡ true → x ≡ x /ℚ q
zero_divided q x h =
    let e : x ≡ zero_ℚ = same_fields_lem x zero_ℚ h in
    e ∙ sym (laws.zero_mul rationals (reciprocal q)) ∙ ap (λ t. t *ℚ reciprocal q) (sym e)

-- a place before the places after it
place_then : (top : ℕ) (os rest all : List Refused) (t : Tried) (r : ℚ) (row : Row) (rs : List ℚ) → all ≡ os ++ rest
    → t ≡ tried_ended (first_past top os) r → row ≡ row_ended (first_past top rest) rs → entry_then t row ≡ row_ended (first_past top all) (r ∷ rs)
place_then top os rest all t r row rs a h k =
    ap (λ t. entry_then t row) h ∙ ap (λ w. entry_then (tried_ended (first_past top os) r) w) k
    ∙ entry_before (first_past top os) (first_past top rest) r rs
    ∙ ap (λ o. row_ended o (r ∷ rs)) (sym (first_past-append top os rest)) ∙ ap (λ l. row_ended (first_past top l) (r ∷ rs)) (sym a)

divided_in-end : (top : ℕ) (q : ℚ) → divided_in top q [] ≡ Entries []
unfolding divided_in
divided_in-end top q = refl

divided_in-more : (top : ℕ) (q x : ℚ) (row : List ℚ) → divided_in top q (x ∷ row) ≡ entry_then (divide_step top q x) (divided_in top q row)
unfolding divided_in
divided_in-more top q x row = refl

pub division_ops-end : (q : ℚ) → division_ops q [] ≡ []
unfolding division_ops
division_ops-end q = refl

no_ops_row : (top : ℕ) (os : List Refused) (row : List ℚ) → os ≡ [] → Entries row ≡ row_ended (first_past top os) row
no_ops_row top os row e = ap (λ o. row_ended o row) (sym (first_past-none top)) ∙ ap (λ l. row_ended (first_past top l) row) (sym e)

no_ops_number : (top : ℕ) (x r : ℚ) → x ≡ r → Is x ≡ tried_ended (first_past top []) r
no_ops_number top x r e = ap Is e ∙ ap (λ o. tried_ended o r) (sym (first_past-none top))

pub divided_in-is : (top : ℕ) (q : ℚ) (row : List ℚ) → divided_in top q row ≡ row_ended (first_past top (division_ops q row)) (divided q row)
divided_in-is top q [] = divided_in-end top q ∙ no_ops_row top (division_ops q []) [] (division_ops-end q)
divided_in-is top q (x ∷ row) =
    divided_in-more top q x row
    ∙ (let rest = divided_in-is top q row in
    bool_cases (same_fields x zero_ℚ)
    (λ e. place_then top [] (division_ops q row) _ _ _ _ _ (division_ops-zero q x row e) (divide_zero top q x e ∙ no_ops_number top x (x /ℚ q) (zero_divided q x e)) rest)
    (λ e. place_then top (operation Div x q ∷ []) (division_ops q row) _ _ _ _ _ (division_ops-more q x row e) (divide_more top q x e ∙ tried_is top Div x q) rest))

-- ---- a row less a multiple of another

pub less_ops-end : (f : ℚ) (ps : List ℚ) → less_ops f [] ps ≡ []
unfolding less_ops
less_ops-end f ps = refl

pub less_ops-zero : (f x p : ℚ) (xs ps : List ℚ) → same_fields p zero_ℚ ≡ true → less_ops f (x ∷ xs) (p ∷ ps) ≡ less_ops f xs ps
unfolding less_ops
less_ops-zero f x p xs ps h = rw h

pub less_ops-more : (f x p : ℚ) (xs ps : List ℚ) → same_fields p zero_ℚ ≡ false → less_ops f (x ∷ xs) (p ∷ ps) ≡ (operation Mul f p ∷ operation Sub x (f *ℚ p) ∷ []) ++ less_ops f xs ps
unfolding less_ops
less_ops-more f x p xs ps h = rw h

row_less-end : (top : ℕ) (f : ℚ) (ps : List ℚ) → row_less top f [] ps ≡ Entries []
unfolding row_less
row_less-end top f ps = refl

row_less-more : (top : ℕ) (f x p : ℚ) (xs ps : List ℚ) → row_less top f (x ∷ xs) (p ∷ ps) ≡ entry_then (less_step top f x p) (row_less top f xs ps)
unfolding row_less
row_less-more top f x p xs ps = refl

unchanged : (f x p : ℚ) → same_fields p zero_ℚ ≡ true → x ≡ x +ℚ neg_ℚ f *ℚ p
unchanged f x p e =
    ring rationals (x ∷ f ∷ []) (λ x f. x ≐ x ⊕ minus f ⊗ lit 0) refl ∙ ap (λ t. x +ℚ neg_ℚ f *ℚ t) (sym (same_fields_lem p zero_ℚ e))

changed : (f x p : ℚ) → x -ℚ f *ℚ p ≡ x +ℚ neg_ℚ f *ℚ p
changed f x p = ring rationals (x ∷ f ∷ p ∷ []) (λ x f p. x ⊝ f ⊗ p ≐ x ⊕ minus f ⊗ p) refl

less_step-is : (top : ℕ) (f x p : ℚ) → same_fields p zero_ℚ ≡ false → less_step top f x p ≡ tried_ended (first_past top (operation Mul f p ∷ operation Sub x (f *ℚ p) ∷ [])) (x +ℚ neg_ℚ f *ℚ p)
less_step-is top f x p e =
    less_more top f x p e ∙ ap (λ t. and_then t (λ t. tried_in top Sub x t)) (tried_is top Mul f p)
    ∙ tried_after (first_past top (operation Mul f p ∷ [])) (f *ℚ p) (λ t. tried_in top Sub x t) (first_past top (operation Sub x (f *ℚ p) ∷ [])) (x -ℚ f *ℚ p) (tried_is top Sub x (f *ℚ p))
    ∙ ap (λ o. tried_ended o (x -ℚ f *ℚ p)) (sym (first_past-append top (operation Mul f p ∷ []) (operation Sub x (f *ℚ p) ∷ [])))
    ∙ ap (λ r. tried_ended (first_past top (operation Mul f p ∷ operation Sub x (f *ℚ p) ∷ [])) r) (changed f x p)

row_less-is : (top : ℕ) (f : ℚ) (xs ps : List ℚ) → length xs ≡ length ps → row_less top f xs ps ≡ row_ended (first_past top (less_ops f xs ps)) (add_each xs (scale (neg_ℚ f) ps))
row_less-is top f [] ps h = row_less-end top f ps ∙ no_ops_row top (less_ops f [] ps) [] (less_ops-end f ps)
row_less-is top f (x ∷ xs) [] h = absurd (omega arith)
row_less-is top f (x ∷ xs) (p ∷ ps) h =
    row_less-more top f x p xs ps
    ∙ (let rest = row_less-is top f xs ps (omega arith) in
    bool_cases (same_fields p zero_ℚ)
    (λ e. place_then top [] (less_ops f xs ps) _ _ _ _ _ (less_ops-zero f x p xs ps e) (less_zero top f x p e ∙ no_ops_number top x (x +ℚ neg_ℚ f *ℚ p) (unchanged f x p e)) rest)
    (λ e. place_then top (operation Mul f p ∷ operation Sub x (f *ℚ p) ∷ []) (less_ops f xs ps) _ _ _ _ _ (less_ops-more f x p xs ps e) (less_step-is top f x p e) rest))

-- ---- a line

no_ops : {A : Type 0} (top : ℕ) (os : List Refused) (x : A) → os ≡ [] → Ok x ≡ ended (first_past top os) x
no_ops top os x e = ap (λ o. ended o x) (sym (first_past-none top)) ∙ ap (λ l. ended (first_past top l) x) (sym e)

freed_in-stays : (top j : ℕ) (p : List ℚ) (l : Line) → (is_pivot j l.pivot || same_fields (entry l.entries j) zero_ℚ) ≡ true → freed_in top j p l ≡ Ok l
unfolding freed_in
freed_in-stays top j p l h = rw h

freed_in-changes : (top j : ℕ) (p : List ℚ) (l : Line) → (is_pivot j l.pivot || same_fields (entry l.entries j) zero_ℚ) ≡ false
    → freed_in top j p l ≡ with_entries l.pivot (row_less top (entry l.entries j) l.entries p)
unfolding freed_in
freed_in-changes top j p l h = rw h

pub freed_ops-stays : (j : ℕ) (p : List ℚ) (l : Line) → (is_pivot j l.pivot || same_fields (entry l.entries j) zero_ℚ) ≡ true → freed_ops j p l ≡ []
unfolding freed_ops
freed_ops-stays j p l h = rw h

pub freed_ops-changes : (j : ℕ) (p : List ℚ) (l : Line) → (is_pivot j l.pivot || same_fields (entry l.entries j) zero_ℚ) ≡ false
    → freed_ops j p l ≡ less_ops (entry l.entries j) l.entries p
unfolding freed_ops
freed_ops-changes j p l h = rw h

less_nothing : (f : ℚ) (xs ps : List ℚ) → f ≡ zero_ℚ → length xs ≡ length ps → add_each xs (scale (neg_ℚ f) ps) ≡ xs
less_nothing f [] ps e h = refl
less_nothing f (x ∷ xs) [] e h = absurd (omega arith)
less_nothing f (x ∷ xs) (p ∷ ps) e h =
    ap (λ r. r ∷ add_each xs (scale (neg_ℚ f) ps)) (ap (λ t. x +ℚ neg_ℚ t *ℚ p) e ∙ ring rationals (x ∷ p ∷ []) (λ x p. x ⊕ minus (lit 0) ⊗ p ≐ x) refl)
    ∙ ap (λ r. x ∷ r) (less_nothing f xs ps e (omega arith))

-- a line whose entry is 0 stays
freed-nothing : (j : ℕ) (p : List ℚ) (l : Line) → is_pivot j l.pivot ≡ false → same_fields (entry l.entries j) zero_ℚ ≡ true → length l.entries ≡ length p → freed j p l ≡ l
freed-nothing j p l a b h =
    freed-other j p l a ∙ ap (λ e. record { pivot = l.pivot; entries = e }) (less_nothing (entry l.entries j) l.entries p (same_fields_lem (entry l.entries j) zero_ℚ b) h)

neither : (a b : Bool) → (a || b) ≡ false → (a ≡ false) × (b ≡ false)
neither true b h = absurd cc
neither false b h = (refl, h)

freed-stays : (j : ℕ) (p : List ℚ) (l : Line) → length l.entries ≡ length p → (is_pivot j l.pivot || same_fields (entry l.entries j) zero_ℚ) ≡ true → freed j p l ≡ l
freed-stays j p l h e = bool_cases (is_pivot j l.pivot)
    (λ a. freed-pivot j p l a)
    (λ a. freed-nothing j p l a (later (is_pivot j l.pivot) (same_fields (entry l.entries j) zero_ℚ) e a) h)
  where
    later : (a b : Bool) → (a || b) ≡ true → a ≡ false → b ≡ true
    later true b h k = absurd cc
    later false b h k = h

line_ended : (o : Option Refused) (pivot : Option ℕ) (row : List ℚ) → with_entries pivot (row_ended o row) ≡ ended o (record { pivot = pivot; entries = row })
line_ended None pivot row = refl
line_ended (Some r) pivot row = refl

freed_in-is : (top j : ℕ) (p : List ℚ) (l : Line) → length l.entries ≡ length p → freed_in top j p l ≡ ended (first_past top (freed_ops j p l)) (freed j p l)
freed_in-is top j p l h = bool_cases (is_pivot j l.pivot || same_fields (entry l.entries j) zero_ℚ)
    (λ e. freed_in-stays top j p l e ∙ no_ops top (freed_ops j p l) l (freed_ops-stays j p l e) ∙ ap (ended (first_past top (freed_ops j p l))) (sym (freed-stays j p l h e)))
    (λ e.
    freed_in-changes top j p l e ∙ ap (with_entries l.pivot) (row_less-is top (entry l.entries j) l.entries p h)
    ∙ line_ended (first_past top (less_ops (entry l.entries j) l.entries p)) l.pivot (add_each l.entries (scale (neg_ℚ (entry l.entries j)) p))
    ∙ ap (ended (first_past top (less_ops (entry l.entries j) l.entries p))) (sym (freed-other j p l (neither (is_pivot j l.pivot) (same_fields (entry l.entries j) zero_ℚ) e).0))
    ∙ ap (λ os. ended (first_past top os) (freed j p l)) (sym (freed_ops-changes j p l e)))

-- ---- the lines

line_before : (o u : Option Refused) (l : Line) (ls : List Line) → line_then (ended o l) (ended u ls) ≡ ended (either_first o u) (l ∷ ls)
line_before None None l ls = refl
line_before None (Some r) l ls = refl
line_before (Some r) u l ls = refl

each_freed_in-end : (top j : ℕ) (p : List ℚ) → each_freed_in top j p [] ≡ Ok []
unfolding each_freed_in
each_freed_in-end top j p = refl

each_freed_in-more : (top j : ℕ) (p : List ℚ) (l : Line) (ls : List Line) → each_freed_in top j p (l ∷ ls) ≡ line_then (freed_in top j p l) (each_freed_in top j p ls)
unfolding each_freed_in
each_freed_in-more top j p l ls = refl

pub each_freed_ops-end : (j : ℕ) (p : List ℚ) → each_freed_ops j p [] ≡ []
unfolding each_freed_ops
each_freed_ops-end j p = refl

pub each_freed_ops-more : (j : ℕ) (p : List ℚ) (l : Line) (ls : List Line) → each_freed_ops j p (l ∷ ls) ≡ freed_ops j p l ++ each_freed_ops j p ls
unfolding each_freed_ops
each_freed_ops-more j p l ls = refl

each_freed_in-is : (top j : ℕ) (p : List ℚ) (ls : List Line) → AllByRecursion (λ l. length l.entries ≡ length p) ls
    → each_freed_in top j p ls ≡ ended (first_past top (each_freed_ops j p ls)) (map (freed j p) ls)
each_freed_in-is top j p [] h = each_freed_in-end top j p ∙ no_ops top (each_freed_ops j p []) [] (each_freed_ops-end j p)
each_freed_in-is top j p (l ∷ ls) h =
    each_freed_in-more top j p l ls ∙ ap (λ r. line_then r (each_freed_in top j p ls)) (freed_in-is top j p l h.0)
    ∙ ap (line_then (ended (first_past top (freed_ops j p l)) (freed j p l))) (each_freed_in-is top j p ls h.1)
    ∙ line_before (first_past top (freed_ops j p l)) (first_past top (each_freed_ops j p ls)) (freed j p l) (map (freed j p) ls)
    ∙ ap (λ o. ended o (freed j p l ∷ map (freed j p) ls)) (sym (first_past-append top (freed_ops j p l) (each_freed_ops j p ls)))
    ∙ ap (λ os. ended (first_past top os) (freed j p l ∷ map (freed j p) ls)) (sym (each_freed_ops-more j p l ls))

-- ---- a step

step_in-none : (top j : ℕ) (ls : List Line) → pivot_row j ls ≡ None → step_in top j ls ≡ Ok ls
unfolding step_in
step_in-none top j ls h = rw h

step_in-some : (top j : ℕ) (ls : List Line) (row : List ℚ) → pivot_row j ls ≡ Some row → step_in top j ls ≡ cleared_by top j ls (divided_in top (entry row j) row)
unfolding step_in
step_in-some top j ls row h = rw h

pub step_ops-none : (j : ℕ) (ls : List Line) → pivot_row j ls ≡ None → step_ops j ls ≡ []
unfolding step_ops
step_ops-none j ls h = rw h

pub step_ops-some : (j : ℕ) (ls : List Line) (row : List ℚ) → pivot_row j ls ≡ Some row
    → step_ops j ls ≡ division_ops (entry row j) row ++ each_freed_ops j (divided (entry row j) row) (with_pivot j (divided (entry row j) row) ls)
unfolding step_ops
step_ops-some j ls row h = rw h

cleared : (top j : ℕ) (ls : List Line) (p : List ℚ) (o u : Option Refused) (next : List Line) → each_freed_in top j p (with_pivot j p ls) ≡ ended u next
    → cleared_by top j ls (row_ended o p) ≡ ended (either_first o u) next
cleared top j ls p None u next h = h
cleared top j ls p (Some r) u next h = refl

step_in-is : (top w j : ℕ) (ls : List Line) → HasWidth w ls → step_in top j ls ≡ ended (first_past top (step_ops j ls)) (step j ls)
step_in-is top w j ls h = by_pivot_row j ls none some
  where
    none : pivot_row j ls ≡ None → step_in top j ls ≡ ended (first_past top (step_ops j ls)) (step j ls)
    none e = step_in-none top j ls e ∙ no_ops top (step_ops j ls) ls (step_ops-none j ls e) ∙ ap (ended (first_past top (step_ops j ls))) (sym (step-none j ls e))

    some : (row : List ℚ) → pivot_row j ls ≡ Some row → step_in top j ls ≡ ended (first_past top (step_ops j ls)) (step j ls)
    some row e =
        let q = entry row j in
        let p = divided q row in
        let t = width-with_pivot w j ls row e h in
        let lines = with_pivot j p ls in
        step_in-some top j ls row e ∙ ap (cleared_by top j ls) (divided_in-is top q row)
        ∙ cleared top j ls p (first_past top (division_ops q row)) (first_past top (each_freed_ops j p lines)) (map (freed j p) lines)
        (each_freed_in-is top j p lines (subst (λ n. HasWidth n lines) (sym t.1) t.0))
        ∙ ap (λ o. ended o (map (freed j p) lines)) (sym (first_past-append top (division_ops q row) (each_freed_ops j p lines)))
        ∙ ap (λ os. ended (first_past top os) (map (freed j p) lines)) (sym (step_ops-some j ls row e))
        ∙ ap (ended (first_past top (step_ops j ls))) (sym (step-some j ls row e))

-- ---- the whole calculation

eliminated_in-end : (top j : ℕ) (ls : List Line) → eliminated_from_in top zero j ls ≡ Ok ls
unfolding eliminated_from_in
eliminated_in-end top j ls = refl

eliminated_in-more : (top k j : ℕ) (ls : List Line) → eliminated_from_in top (suc k) j ls ≡ (step_in top j ls >>= λ next. eliminated_from_in top k (suc j) next)
unfolding eliminated_from_in
eliminated_in-more top k j ls = refl

pub ops_from-end : (j : ℕ) (ls : List Line) → ops_from zero j ls ≡ []
unfolding ops_from
ops_from-end j ls = refl

pub ops_from-more : (k j : ℕ) (ls : List Line) → ops_from (suc k) j ls ≡ step_ops j ls ++ ops_from k (suc j) (step j ls)
unfolding ops_from
ops_from-more k j ls = refl

then_ended : {A B : Type 0} (o u : Option Refused) (x : A) (f : A → Result B Refused) (y : B) → f x ≡ ended u y → (ended o x >>= f) ≡ ended (either_first o u) y
then_ended None u x f y h = h
then_ended (Some r) u x f y h = refl

pub eliminated_from_in-is : (top w k j : ℕ) (ls : List Line) → HasWidth w ls → eliminated_from_in top k j ls ≡ ended (first_past top (ops_from k j ls)) (eliminated_from k j ls)
eliminated_from_in-is top w zero j ls h =
    eliminated_in-end top j ls ∙ no_ops top (ops_from zero j ls) ls (ops_from-end j ls) ∙ ap (ended (first_past top (ops_from zero j ls))) (sym (eliminated-end j ls))
eliminated_from_in-is top w (suc k) j ls h =
    eliminated_in-more top k j ls ∙ ap (λ r. r >>= λ next. eliminated_from_in top k (suc j) next) (step_in-is top w j ls h)
    ∙ then_ended (first_past top (step_ops j ls)) (first_past top (ops_from k (suc j) (step j ls))) (step j ls) (λ next. eliminated_from_in top k (suc j) next) (eliminated_from k (suc j) (step j ls))
    (eliminated_from_in-is top w k (suc j) (step j ls) (width-step w j ls h))
    ∙ ap (λ o. ended o (eliminated_from k (suc j) (step j ls))) (sym (first_past-append top (step_ops j ls) (ops_from k (suc j) (step j ls))))
    ∙ ap (λ os. ended (first_past top os) (eliminated_from k (suc j) (step j ls))) (sym (ops_from-more k j ls))
    ∙ ap (ended (first_past top (ops_from (suc k) j ls))) (sym (eliminated-more k j ls))

-- the calculation ends with the first operation that is past, and else with the exact lines
pub eliminated_in-is : (top n w : ℕ) (rows : List (List ℚ)) → HasColumns w rows
    → eliminated_in top n (lines_of rows) ≡ ended (first_past top (elimination_ops n (lines_of rows))) (eliminated n (lines_of rows))
eliminated_in-is top n w rows h = eliminated_from_in-is top w n 0 (lines_of rows) (width-lines_of w rows h)

-- ---- the first operation that is past stands in the list, and does not fit

fits_told : (top : ℕ) (q : ℚ) → fits top q ≡ true → Fits top q
fits_told top q h = grind (arith, nat_tests)

some_refused : (r s : Refused) → Some r ≡ Some s → r ≡ s
some_refused r s e = cc

pub first_past-found : (top : ℕ) (ops : List Refused) (r : Refused) → first_past top ops ≡ Some r → Contains ops r × ¬ (Fits top (exact_of r.op r.left r.right))
first_past-found top [] r h = absurd (let bad : None ≡ Some r = sym (first_past-none top) ∙ h in cc)
first_past-found top (s ∷ ops) r h = bool_cases (fits top (exact_of s.op s.left s.right))
    (λ e. let t = first_past-found top ops r (sym (first_past-fits top s ops e) ∙ h) in (Contains-append_right (s ∷ []) ops r t.0, t.1))
    (λ e.
    let same : s ≡ r = some_refused s r (sym (first_past-past top s ops e) ∙ h) in (
      subst (Contains (s ∷ ops)) same (All-head (Contains (s ∷ ops)) s ops (All-contains_itself (s ∷ ops))),
      subst (λ (r : Refused). ¬ (Fits top (exact_of r.op r.left r.right))) same (λ f. let bad : true ≡ false = sym (fits_yes top (exact_of s.op s.left s.right) f) ∙ e in absurd cc),
    ))

pub first_past-missing : (top : ℕ) (ops : List Refused) → first_past top ops ≡ None → All (λ r. Fits top (exact_of r.op r.left r.right)) ops
first_past-missing top [] h = All-nil (λ r. Fits top (exact_of r.op r.left r.right))
first_past-missing top (s ∷ ops) h = bool_cases (fits top (exact_of s.op s.left s.right))
    (λ e. All-cons (λ r. Fits top (exact_of r.op r.left r.right)) s ops (fits_told top (exact_of s.op s.left s.right) e) (first_past-missing top ops (sym (first_past-fits top s ops e) ∙ h)))
    (λ e. absurd (let bad : Some s ≡ None = sym (first_past-past top s ops e) ∙ h in cc))

-- it is the first
pub first_past-first : (top : ℕ) (ops : List Refused) (r : Refused) → first_past top ops ≡ Some r → IsFirstPast top ops r
first_past-first top [] r h = absurd (let bad : None ≡ Some r = sym (first_past-none top) ∙ h in cc)
first_past-first top (s ∷ ops) r h = bool_cases (fits top (exact_of s.op s.left s.right))
    (λ e.
    let t = first_past-first top ops r (sym (first_past-fits top s ops e) ∙ h) in
    record {
      earlier = s ∷ t.earlier;
      later = t.later;
      place = ap (λ l. s ∷ l) t.place;
      within = All-cons (IsWithin top) s t.earlier (fits_told top (exact_of s.op s.left s.right) e) t.within;
      past = t.past;
    })
    (λ e.
    let same : s ≡ r = some_refused s r (sym (first_past-past top s ops e) ∙ h) in
    record {
      earlier = [];
      later = ops;
      place = ap (λ (r : Refused). r ∷ ops) same;
      within = All-nil (IsWithin top);
      past = (first_past-found top (s ∷ ops) r h).1;
    })

-- ---- what comes of a calculation that ends with lines, and of one that ends with a refusal

ended_ok : {A : Type 0} (o : Option Refused) (x y : A) → ended o x ≡ Ok y → (o ≡ None) × (y ≡ x)
ended_ok None x y h = (refl, cc)
ended_ok (Some r) x y h = absurd cc

ended_err : {A : Type 0} (o : Option Refused) (x : A) (r : Refused) → ended o x ≡ Err r → o ≡ Some r
ended_err None x r h = absurd cc
ended_err (Some s) x r h = cc

pub eliminated_in-exact : (top n w : ℕ) (rows : List (List ℚ)) (ls : List Line) → HasColumns w rows → eliminated_in top n (lines_of rows) ≡ Ok ls → ls ≡ eliminated n (lines_of rows)
eliminated_in-exact top n w rows ls h e =
    (ended_ok (first_past top (elimination_ops n (lines_of rows))) (eliminated n (lines_of rows)) ls (sym (eliminated_in-is top n w rows h) ∙ e)).1

-- no operation is past where there are lines
pub eliminated_in-within : (top n w : ℕ) (rows : List (List ℚ)) (ls : List Line) → HasColumns w rows → eliminated_in top n (lines_of rows) ≡ Ok ls → All (IsWithin top) (elimination_ops n (lines_of rows))
eliminated_in-within top n w rows ls h e =
    first_past-missing top (elimination_ops n (lines_of rows))
    (ended_ok (first_past top (elimination_ops n (lines_of rows))) (eliminated n (lines_of rows)) ls (sym (eliminated_in-is top n w rows h) ∙ e)).0

-- the refusal is the first operation that is past
pub eliminated_in-first : (top n w : ℕ) (rows : List (List ℚ)) (r : Refused) → HasColumns w rows → eliminated_in top n (lines_of rows) ≡ Err r → IsFirstPast top (elimination_ops n (lines_of rows)) r
eliminated_in-first top n w rows r h e =
    first_past-first top (elimination_ops n (lines_of rows)) r
    (ended_err (first_past top (elimination_ops n (lines_of rows))) (eliminated n (lines_of rows)) r (sym (eliminated_in-is top n w rows h) ∙ e))

pub eliminated_in-refused : (top n w : ℕ) (rows : List (List ℚ)) (r : Refused) → HasColumns w rows → eliminated_in top n (lines_of rows) ≡ Err r
    → Contains (elimination_ops n (lines_of rows)) r × ¬ (Fits top (exact_of r.op r.left r.right))
eliminated_in-refused top n w rows r h e =
    first_past-found top (elimination_ops n (lines_of rows)) r
    (ended_err (first_past top (elimination_ops n (lines_of rows))) (eliminated n (lines_of rows)) r (sym (eliminated_in-is top n w rows h) ∙ e))
