-- The shape of the lines of an elimination: 1 at each pivot, 0 in the other rows of its column, and 0 in the rows that are not used.
use Rattle.std.proofs.Common.{◌≡◌, ◌≢◌, ℕ, zero, suc, ◌<◌, ◌==◌, List, [], ◌∷◌, ◌++◌, map, length, Option, Some, None, Bool, true, false, not, ◌&&◌, sym, ap, ◌∙◌, subst, refl, arith, eq-eqb}
use Rattle.std.specs.Prelude.{option_map}
use Rattle.std.specs.List.{AllByRecursion}
use Rattle.std.proofs.lemmas.Bool.Decides.{nat_tests}
use Rattle.algebra.proofs.Ring as laws
use Rattle.algebra.proofs.Polynomial.{minus, ◌⊕◌, ◌⊗◌, ◌≐◌, lit}
use Rattle.algebra.proofs.Solver.{ring}
use Rattle.rational.specs.Rational.{ℚ, zero_ℚ, one_ℚ, ◌+ℚ◌, ◌*ℚ◌, neg_ℚ, reciprocal}
use Rattle.rational.specs.Order.{same_fields, same_fields_lem, differ_of_same_fields}
use Rattle.rational.specs.Sums.{entry}
use Rattle.rational.specs.Vectors.{add_each, scale}
use Rattle.rational.proofs.Field.{rationals, mul-reciprocal}
use Rattle.rational.proofs.Vectors.{entry-add_each, entry-scale, length-scale}
use Rattle.elimination_law.specs.Elimination.{Line, unused, used, is_unused, is_pivot, may_pivot, pivot_row, divided, freed, step, eliminated}
use Rattle.elimination_law.specs.Answers.{row_of_pivot}
use Rattle.elimination_law.specs.Meaning.{Shaped}
use Rattle.elimination_law.proofs.Lines.{bool_cases, each_weaker, each_parts, step_each, found, step-none, stepped, freed-pivot, freed-other, freed-used, eliminated_keeps_all, length-divided, length-freed}

-- ---- tests

pub same_column : (k j : ℕ) → (k == j) ≡ true → k ≡ j
same_column k j h = grind (arith, nat_tests)

pub other_column : (k j : ℕ) → k ≢ j → (k == j) ≡ false
other_column k j h = grind (arith, nat_tests)

pub differs : (k j : ℕ) → (k == j) ≡ false → k ≢ j
differs k j h = grind (arith, nat_tests)

pub column_cases : {R : Type 0} (k j : ℕ) → (k ≡ j → R) → (k ≢ j → R) → R
column_cases k j f g = bool_cases (k == j) (λ e. f (same_column k j e)) (λ e. g (differs k j e))

some_column : (k j : ℕ) → Some k ≡ Some j → k ≡ j
some_column k j e = cc

some_not_none : {A : Type 0} {R : Type 0} (x : A) → Some x ≡ None → R
some_not_none x e = absurd cc

-- ---- the row of a pivot

pub row_of_pivot-none : (c : ℕ) → row_of_pivot c [] ≡ None
unfolding row_of_pivot
row_of_pivot-none c = refl

pub row_of_pivot-here : (c : ℕ) (l : Line) (ls : List Line) → is_pivot c l.pivot ≡ true → row_of_pivot c (l ∷ ls) ≡ Some l.entries
unfolding row_of_pivot
row_of_pivot-here c l ls h = rw h

pub row_of_pivot-later : (c : ℕ) (l : Line) (ls : List Line) → is_pivot c l.pivot ≡ false → row_of_pivot c (l ∷ ls) ≡ row_of_pivot c ls
unfolding row_of_pivot
row_of_pivot-later c l ls h = rw h

-- a line in the middle whose pivot is elsewhere says nothing
row_of_pivot-middle : (c : ℕ) (xs : List Line) (l m : Line) (ys : List Line) → is_pivot c l.pivot ≡ false → is_pivot c m.pivot ≡ false
    → row_of_pivot c (xs ++ l ∷ ys) ≡ row_of_pivot c (xs ++ m ∷ ys)
row_of_pivot-middle c [] l m ys a b = row_of_pivot-later c l ys a ∙ sym (row_of_pivot-later c m ys b)
row_of_pivot-middle c (x ∷ xs) l m ys a b = bool_cases (is_pivot c x.pivot)
    (λ e. row_of_pivot-here c x (xs ++ l ∷ ys) e ∙ sym (row_of_pivot-here c x (xs ++ m ∷ ys) e))
    (λ e. row_of_pivot-later c x (xs ++ l ∷ ys) e ∙ row_of_pivot-middle c xs l m ys a b ∙ sym (row_of_pivot-later c x (xs ++ m ∷ ys) e))

-- a row less that multiple of p that frees it of its entry at column j
abbrev pub less : ℕ → List ℚ → List ℚ → List ℚ
less j p row = add_each row (scale (neg_ℚ (entry row j)) p)

pub pivot-freed : (j : ℕ) (p : List ℚ) (l : Line) → (freed j p l).pivot ≡ l.pivot
pivot-freed j p l = bool_cases (is_pivot j l.pivot)
    (λ e. ap (λ (m : Line). m.pivot) (freed-pivot j p l e))
    (λ e. ap (λ (m : Line). m.pivot) (freed-other j p l e))

is_pivot_apart : (c j : ℕ) (o : Option ℕ) → c ≢ j → is_pivot c o ≡ true → is_pivot j o ≡ false
is_pivot_apart c j None n h = absurd cc
is_pivot_apart c j (Some k) n h = let e : k ≡ c = same_column k c h in other_column k j (λ f. n (sym e ∙ f))

row_of_pivot-freed : (c j : ℕ) (p : List ℚ) (ls : List Line) → c ≢ j → row_of_pivot c (map (freed j p) ls) ≡ option_map (less j p) (row_of_pivot c ls)
row_of_pivot-freed c j p [] n = row_of_pivot-none c ∙ ap (option_map (less j p)) (sym (row_of_pivot-none c))
row_of_pivot-freed c j p (l ∷ ls) n = bool_cases (is_pivot c l.pivot)
    (λ e.
    row_of_pivot-here c (freed j p l) (map (freed j p) ls) (ap (is_pivot c) (pivot-freed j p l) ∙ e)
    ∙ ap (λ (m : Line). Some m.entries) (freed-other j p l (is_pivot_apart c j l.pivot n e)) ∙ ap (option_map (less j p)) (sym (row_of_pivot-here c l ls e)))
    (λ e.
    row_of_pivot-later c (freed j p l) (map (freed j p) ls) (ap (is_pivot c) (pivot-freed j p l) ∙ e) ∙ row_of_pivot-freed c j p ls n
    ∙ ap (option_map (less j p)) (sym (row_of_pivot-later c l ls e)))

row_of_pivot-found : (j : ℕ) (p : List ℚ) (xs ys : List Line) → AllByRecursion (λ l. is_pivot j l.pivot ≡ false) xs → row_of_pivot j (map (freed j p) (xs ++ used j p ∷ ys)) ≡ Some p
row_of_pivot-found j p [] ys h =
    row_of_pivot-here j (freed j p (used j p)) (map (freed j p) ys) (ap (λ (m : Line). is_pivot j m.pivot) (freed-used j p) ∙ eq-eqb j j refl) ∙ ap (λ (m : Line). Some m.entries) (freed-used j p)
row_of_pivot-found j p (x ∷ xs) ys h =
    row_of_pivot-later j (freed j p x) (map (freed j p) (xs ++ used j p ∷ ys)) (ap (is_pivot j) (pivot-freed j p x) ∙ h.0) ∙ row_of_pivot-found j p xs ys h.1

-- after a step, at another column
pub row_of_pivot-step : (c j : ℕ) (ls : List Line) (row : List ℚ) → pivot_row j ls ≡ Some row → c ≢ j
    → row_of_pivot c (step j ls) ≡ option_map (less j (divided (entry row j) row)) (row_of_pivot c ls)
row_of_pivot-step c j ls row e n =
    let f = found j ls row e in
    let p = divided (entry row j) row in
    ap (row_of_pivot c) (stepped j ls row e) ∙ row_of_pivot-freed c j p (f.before ++ used j p ∷ f.after) n
    ∙ ap (option_map (less j p)) (row_of_pivot-middle c f.before (used j p) (unused row) f.after (other_column j c (λ g. n (sym g))) refl ∙ ap (row_of_pivot c) (sym f.is))

-- and at its own
pub row_of_pivot-own : (j : ℕ) (ls : List Line) (row : List ℚ) → pivot_row j ls ≡ Some row → AllByRecursion (λ l. is_pivot j l.pivot ≡ false) ls
    → row_of_pivot j (step j ls) ≡ Some (divided (entry row j) row)
row_of_pivot-own j ls row e h =
    let f = found j ls row e in
    let p = divided (entry row j) row in
    ap (row_of_pivot j) (stepped j ls row e)
    ∙ row_of_pivot-found j p f.before f.after (each_parts (λ l. is_pivot j l.pivot ≡ false) f.before (unused row) f.after (subst (AllByRecursion (λ l. is_pivot j l.pivot ≡ false)) f.is h)).0

pub mapped : {A B : Type 0} (f : A → B) (o : Option A) (y : B) → option_map f o ≡ Some y → (x : A) × (o ≡ Some x)
mapped f None y h = absurd cc
mapped f (Some x) y h = (x, refl)

used_line : (c : ℕ) (l : Line) → is_pivot c l.pivot ≡ true → l ≡ used c l.entries
used_line c l h = ap (λ (o : Option ℕ). record { pivot = o; entries = l.entries }) (by l.pivot h)
  where
    by : (o : Option ℕ) → is_pivot c o ≡ true → o ≡ Some c
    by None h = absurd cc
    by (Some k) h = ap Some (same_column k c h)

some_row : (u v : List ℚ) → Some u ≡ Some v → u ≡ v
some_row u v e = cc

-- the row of a pivot is that of a line
pub line_of_pivot : (P : Line → Type 0) (c : ℕ) (ls : List Line) (row : List ℚ) → row_of_pivot c ls ≡ Some row → AllByRecursion P ls → P (used c row)
line_of_pivot P c [] row e h = absurd (let bad : None ≡ Some row = sym (row_of_pivot-none c) ∙ e in cc)
line_of_pivot P c (l ∷ ls) row e h = bool_cases (is_pivot c l.pivot)
    (λ t. subst P (used_line c l t ∙ ap (used c) (some_row l.entries row (sym (row_of_pivot-here c l ls t) ∙ e))) h.0)
    (λ t. line_of_pivot P c ls row (sym (row_of_pivot-later c l ls t) ∙ e) h.1)

-- ---- the shape of the lines

abbrev pub AreShaped : ℕ → ℕ → List Line → Type 0
AreShaped w j ls = AllByRecursion (Shaped w j ls) ls

nothing_there : (o : Option ℕ) (b : Bool) → o ≡ None → (is_unused o && not b) ≡ false → b ≡ true
nothing_there None true e h = refl
nothing_there None false e h = absurd cc
nothing_there (Some k) b e h = some_not_none k e

up_to : (c j : ℕ) → c < suc j → c ≢ j → c < j
up_to c j h n = omega arith

-- where column j has no pivot row
shaped-stays : (w j : ℕ) (ls : List Line) (l : Line) → may_pivot j l ≡ false → Shaped w j ls l → Shaped w (suc j) ls l
shaped-stays w j ls l m s = record {
  width = s.width;
  below = λ k e. let b = s.below k e in omega arith;
  one = s.one;
  own = s.own;
  cleared = λ e c h. column_cases c j
      (λ same. ap (entry l.entries) same ∙ same_fields_lem (entry l.entries j) zero_ℚ (nothing_there l.pivot (same_fields (entry l.entries j) zero_ℚ) e m))
      (λ n. s.cleared e c (up_to c j h n));
  other = s.other;
}

entry-divided : (q : ℚ) (row : List ℚ) (c : ℕ) → entry (divided q row) c ≡ entry row c *ℚ reciprocal q
entry-divided q [] c = sym (laws.zero_mul rationals (reciprocal q))
entry-divided q (x ∷ row) zero = refl
entry-divided q (x ∷ row) (suc c) = entry-divided q row c

divided_zero : (q : ℚ) (row : List ℚ) (c : ℕ) → entry row c ≡ zero_ℚ → entry (divided q row) c ≡ zero_ℚ
divided_zero q row c e = entry-divided q row c ∙ ap (λ t. t *ℚ reciprocal q) e ∙ laws.zero_mul rationals (reciprocal q)

divided_one : (row : List ℚ) (j : ℕ) → same_fields (entry row j) zero_ℚ ≡ false → entry (divided (entry row j) row) j ≡ one_ℚ
divided_one row j nz = entry-divided (entry row j) row j ∙ mul-reciprocal (entry row j) (differ_of_same_fields (entry row j) zero_ℚ nz)

entry-less : (j : ℕ) (p row : List ℚ) (c : ℕ) → length row ≡ length p → entry (less j p row) c ≡ entry row c +ℚ neg_ℚ (entry row j) *ℚ entry p c
entry-less j p row c h =
    entry-add_each row (scale (neg_ℚ (entry row j)) p) c (h ∙ sym (length-scale (neg_ℚ (entry row j)) p)) ∙ ap (λ t. entry row c +ℚ t) (entry-scale (neg_ℚ (entry row j)) p c)

-- where p is 0
less_keeps : (j : ℕ) (p row : List ℚ) (c : ℕ) → length row ≡ length p → entry p c ≡ zero_ℚ → entry (less j p row) c ≡ entry row c
less_keeps j p row c h e =
    entry-less j p row c h ∙ ap (λ t. entry row c +ℚ neg_ℚ (entry row j) *ℚ t) e ∙ ring rationals (entry row c ∷ entry row j ∷ []) (λ x f. x ⊕ minus f ⊗ lit 0 ≐ x) refl

-- where p is 1
less_clears : (j : ℕ) (p row : List ℚ) → length row ≡ length p → entry p j ≡ one_ℚ → entry (less j p row) j ≡ zero_ℚ
less_clears j p row h e =
    entry-less j p row j h ∙ ap (λ t. entry row j +ℚ neg_ℚ (entry row j) *ℚ t) e ∙ ring rationals (entry row j ∷ []) (λ x. x ⊕ minus x ⊗ lit 1 ≐ lit 0) refl

not_yet : (j : ℕ) (o : Option ℕ) → ((k : ℕ) → o ≡ Some k → k < j) → is_pivot j o ≡ false
not_yet j None b = refl
not_yet j (Some k) b = other_column k j (λ f. let g = b k refl in omega arith)

-- the pivot row
module _ (w j : ℕ) (ls : List Line) (row : List ℚ) (e : pivot_row j ls ≡ Some row) (nz : same_fields (entry row j) zero_ℚ ≡ false)
    (apart : AllByRecursion (λ l. is_pivot j l.pivot ≡ false) ls) (s : Shaped w j ls (unused row)) where
  abbrev p : List ℚ
  p = divided (entry row j) row

  p_at : entry p j ≡ one_ℚ
  p_at = divided_one row j nz

  p_before : (c : ℕ) → c < j → entry p c ≡ zero_ℚ
  p_before c h = divided_zero (entry row j) row c (s.cleared refl c h)

  -- a row with another pivot after the step had it before
  earlier : (c : ℕ) (r : List ℚ) → row_of_pivot c (step j ls) ≡ Some r → c ≢ j → (x : List ℚ) × (row_of_pivot c ls ≡ Some x)
  earlier c r h n = mapped (less j p) (row_of_pivot c ls) r (sym (row_of_pivot-step c j ls row e n) ∙ h)

  p_other : (c : ℕ) (r : List ℚ) → row_of_pivot c (step j ls) ≡ Some r → c ≢ j → entry p c ≡ zero_ℚ
  p_other c r h n = let x = earlier c r h n in divided_zero (entry row j) row c (s.other c x.0 x.1 refl)

  pub shaped-used : Shaped w (suc j) (step j ls) (used j p)
  shaped-used = record {
    width = length-divided (entry row j) row ∙ s.width;
    below = λ k h. let f : j ≡ k = some_column j k h in omega arith;
    one = λ k h. subst (λ c. entry p c ≡ one_ℚ) (some_column j k h) p_at;
    own = λ k h. subst (λ c. row_of_pivot c (step j ls) ≡ Some p) (some_column j k h) (row_of_pivot-own j ls row e apart);
    cleared = λ h. some_not_none j h;
    other = λ c r h n. p_other c r h (λ f. differs j c n (sym f));
  }

  freed_is : (l : Line) → is_pivot j l.pivot ≡ false → freed j p l ≡ record { pivot = l.pivot; entries = less j p l.entries }
  freed_is l h = freed-other j p l h

  pub shaped-less : (l : Line) → Shaped w j ls l → Shaped w (suc j) (step j ls) (record { pivot = l.pivot; entries = less j p l.entries })
  shaped-less l t = record {
    width = ap (λ (m : Line). length m.entries) (sym (freed_is l off)) ∙ length-freed w j p l (length-divided (entry row j) row ∙ s.width) t.width;
    below = λ k h. let b = t.below k h in omega arith;
    one = λ k h. less_keeps j p l.entries k same (p_before k (t.below k h)) ∙ t.one k h;
    own = λ k h. row_of_pivot-step k j ls row e (λ f. let b = t.below k h in omega arith) ∙ ap (option_map (less j p)) (t.own k h);
    cleared = λ h c b. column_cases c j
        (λ f. ap (entry (less j p l.entries)) f ∙ less_clears j p l.entries same p_at)
        (λ n. less_keeps j p l.entries c same (p_before c (up_to c j b n)) ∙ t.cleared h c (up_to c j b n));
    other = λ c r h m. column_cases c j
        (λ f. ap (entry (less j p l.entries)) f ∙ less_clears j p l.entries same p_at)
        (λ n. let x = earlier c r h n in less_keeps j p l.entries c same (p_other c r h n) ∙ t.other c x.0 x.1 m);
  }
    where
      same : length l.entries ≡ length p
      same = t.width ∙ sym (length-divided (entry row j) row ∙ s.width)

      off : is_pivot j l.pivot ≡ false
      off = not_yet j l.pivot t.below

pub none_yet : (w j : ℕ) (ls : List Line) → AreShaped w j ls → AllByRecursion (λ l. is_pivot j l.pivot ≡ false) ls
none_yet w j ls h = each_weaker (Shaped w j ls) (λ l. is_pivot j l.pivot ≡ false) ls (λ l s. not_yet j l.pivot s.below) h

pub shaped-step : (w j : ℕ) (ls : List Line) → AreShaped w j ls → AreShaped w (suc j) (step j ls)
shaped-step w j ls h =
    step_each (Shaped w j ls) (Shaped w (suc j) (step j ls)) j ls
    (λ e l m s. subst (λ now. Shaped w (suc j) now l) (sym (step-none j ls e)) (shaped-stays w j ls l m s))
    (λ row e nz s.
    let apart = none_yet w j ls h in (
      shaped-used w j ls row e nz apart s,
      λ l t. subst (Shaped w (suc j) (step j ls)) (sym (freed-other j (divided (entry row j) row) l (not_yet j l.pivot t.below))) (shaped-less w j ls row e nz apart s l t),
    ))
    h

no_rows : (c : ℕ) (rows : List (List ℚ)) → row_of_pivot c (map unused rows) ≡ None
no_rows c [] = row_of_pivot-none c
no_rows c (row ∷ rows) = row_of_pivot-later c (unused row) (map unused rows) refl ∙ no_rows c rows

pub shaped-first : (w : ℕ) (all rows : List (List ℚ)) → AllByRecursion (λ r. length r ≡ w) rows → AllByRecursion (Shaped w 0 (map unused all)) (map unused rows)
shaped-first w all [] h = tt
shaped-first w all (row ∷ rows) h = (
  record {
    width = h.0;
    below = λ k e. some_not_none k (sym e);
    one = λ k e. some_not_none k (sym e);
    own = λ k e. some_not_none k (sym e);
    cleared = λ e c b. absurd (omega arith);
    other = λ c r e _. some_not_none r (sym e ∙ no_rows c all);
  },
  shaped-first w all rows h.1,
)

pub shaped : (w n : ℕ) (rows : List (List ℚ)) → AllByRecursion (λ r. length r ≡ w) rows → AreShaped w n (eliminated n (map unused rows))
shaped w n rows h = eliminated_keeps_all (AreShaped w) (shaped-step w) n (map unused rows) (shaped-first w rows rows h)
