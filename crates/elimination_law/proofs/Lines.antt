-- Lines of an elimination: what holds of each line, through a step.
use Rattle.std.proofs.Common.{◌≡◌, ℕ, zero, suc, ◌+◌, List, [], ◌∷◌, ◌++◌, map, length, Option, Some, None, Bool, true, false, not, ◌&&◌, sym, ap, ◌∙◌, subst, refl, arith, eq-eqb}
use Rattle.std.specs.List.{AllByRecursion}
use Rattle.std.proofs.lemmas.List.Elements.{All-head, All-tail}
use Rattle.rational.specs.Rational.{ℚ, zero_ℚ, neg_ℚ}
use Rattle.rational.specs.Order.{same_fields}
use Rattle.rational.specs.Sums.{entry}
use Rattle.rational.specs.Vectors.{add_each, scale, HasColumns}
use Rattle.rational.proofs.Vectors.{length-add_each, length-scale}
use Rattle.elimination_law.specs.Elimination.{Line, unused, used, is_unused, is_pivot, may_pivot, pivot_row, with_pivot, divided, freed, step, eliminated_from}

-- ---- what holds of each

module _ {X : Type 0} where
  pub each_parts : (P : X → Type 0) (xs : List X) (x : X) (ys : List X) → AllByRecursion P (xs ++ x ∷ ys) → AllByRecursion P xs × P x × AllByRecursion P ys
  each_parts P [] x ys h = (tt, h.0, h.1)
  each_parts P (y ∷ xs) x ys h = let r = each_parts P xs x ys h.1 in ((h.0, r.0), r.1, r.2)

  pub each_whole : (P : X → Type 0) (xs : List X) (x : X) (ys : List X) → AllByRecursion P xs → P x → AllByRecursion P ys → AllByRecursion P (xs ++ x ∷ ys)
  each_whole P [] x ys a b c = (b, c)
  each_whole P (y ∷ xs) x ys a b c = (a.0, each_whole P xs x ys a.1 b c)

  pub each_weaker : (P Q : X → Type 0) (xs : List X) → ((x : X) → P x → Q x) → AllByRecursion P xs → AllByRecursion Q xs
  each_weaker P Q [] f h = tt
  each_weaker P Q (x ∷ xs) f h = (f x h.0, each_weaker P Q xs f h.1)

  pub each_both : (P Q : X → Type 0) (xs : List X) → AllByRecursion P xs → AllByRecursion Q xs → AllByRecursion (λ x. P x × Q x) xs
  each_both P Q [] h k = tt
  each_both P Q (x ∷ xs) h k = ((h.0, k.0), each_both P Q xs h.1 k.1)

  pub each_map : {Y : Type 0} (P : Y → Type 0) (f : X → Y) (xs : List X) → AllByRecursion (λ x. P (f x)) xs → AllByRecursion P (map f xs)
  each_map P f [] h = tt
  each_map P f (x ∷ xs) h = (h.0, each_map P f xs h.1)

  pub each_unmap : {Y : Type 0} (P : Y → Type 0) (f : X → Y) (xs : List X) → AllByRecursion P (map f xs) → AllByRecursion (λ x. P (f x)) xs
  each_unmap P f [] h = tt
  each_unmap P f (x ∷ xs) h = (h.0, each_unmap P f xs h.1)

pub bool_cases : {R : Type 0} (b : Bool) → (b ≡ true → R) → (b ≡ false → R) → R
bool_cases true f g = f refl
bool_cases false f g = g refl

-- ---- the pivot row of a column

-- where it is among the lines
pub record Found (j : ℕ) (row : List ℚ) (ls : List Line) : Type 0 where
  pub before : List Line
  pub after : List Line
  pub is : ls ≡ before ++ unused row ∷ after
  pub nonzero : same_fields (entry row j) zero_ℚ ≡ false
  pub passed : AllByRecursion (λ l. may_pivot j l ≡ false) before
  pub put : (p : List ℚ) → with_pivot j p ls ≡ before ++ used j p ∷ after

pub pivot_row-here : (j : ℕ) (l : Line) (ls : List Line) → may_pivot j l ≡ true → pivot_row j (l ∷ ls) ≡ Some l.entries
unfolding pivot_row
pivot_row-here j l ls h = rw h

pub pivot_row-later : (j : ℕ) (l : Line) (ls : List Line) → may_pivot j l ≡ false → pivot_row j (l ∷ ls) ≡ pivot_row j ls
unfolding pivot_row
pivot_row-later j l ls h = rw h

pub pivot_row-none : (j : ℕ) → pivot_row j [] ≡ None
unfolding pivot_row
pivot_row-none j = refl

pub with_pivot-here : (j : ℕ) (p : List ℚ) (l : Line) (ls : List Line) → may_pivot j l ≡ true → with_pivot j p (l ∷ ls) ≡ used j p ∷ ls
unfolding with_pivot
with_pivot-here j p l ls h = rw h

pub with_pivot-later : (j : ℕ) (p : List ℚ) (l : Line) (ls : List Line) → may_pivot j l ≡ false → with_pivot j p (l ∷ ls) ≡ l ∷ with_pivot j p ls
unfolding with_pivot
with_pivot-later j p l ls h = rw h

both_true : (a b : Bool) → (a && b) ≡ true → (a ≡ true) × (b ≡ true)
both_true true b h = (refl, h)
both_true false b h = absurd cc

no_pivot : (o : Option ℕ) → is_unused o ≡ true → o ≡ None
no_pivot None h = refl
no_pivot (Some k) h = absurd cc

turned : (b : Bool) → not b ≡ true → b ≡ false
turned true h = absurd cc
turned false h = refl

some_row : (row s : List ℚ) → Some row ≡ Some s → row ≡ s
some_row row s e = cc

pub found : (j : ℕ) (ls : List Line) (row : List ℚ) → pivot_row j ls ≡ Some row → Found j row ls
found j [] row h = absurd (let bad : None ≡ Some row = sym (pivot_row-none j) ∙ h in cc)
found j (l ∷ ls) row h = bool_cases (may_pivot j l) here (λ e. later e (found j ls row (sym (pivot_row-later j l ls e) ∙ h)))
  where
    here : may_pivot j l ≡ true → Found j row (l ∷ ls)
    here e =
        let t = both_true (is_unused l.pivot) (not (same_fields (entry l.entries j) zero_ℚ)) e in
        let same : l.entries ≡ row = some_row l.entries row (sym (pivot_row-here j l ls e) ∙ h) in
        record {
          before = [];
          after = ls;
          is = ap (λ (o : Option ℕ). record { pivot = o; entries = l.entries } ∷ ls) (no_pivot l.pivot t.0) ∙ ap (λ s. unused s ∷ ls) same;
          nonzero = subst (λ s. same_fields (entry s j) zero_ℚ ≡ false) same (turned (same_fields (entry l.entries j) zero_ℚ) t.1);
          passed = tt;
          put = λ p. with_pivot-here j p l ls e;
        }

    later : may_pivot j l ≡ false → Found j row ls → Found j row (l ∷ ls)
    later e f = record {
      before = l ∷ f.before;
      after = f.after;
      is = ap (λ s. l ∷ s) f.is;
      nonzero = f.nonzero;
      passed = (e, f.passed);
      put = λ p. with_pivot-later j p l ls e ∙ ap (λ s. l ∷ s) (f.put p);
    }

pub not_found : (j : ℕ) (ls : List Line) → pivot_row j ls ≡ None → AllByRecursion (λ l. may_pivot j l ≡ false) ls
not_found j [] h = tt
not_found j (l ∷ ls) h = bool_cases (may_pivot j l)
    (λ e. absurd (let bad : Some l.entries ≡ None = sym (pivot_row-here j l ls e) ∙ h in cc))
    (λ e. (e, not_found j ls (sym (pivot_row-later j l ls e) ∙ h)))

-- ---- a step

pub step-none : (j : ℕ) (ls : List Line) → pivot_row j ls ≡ None → step j ls ≡ ls
unfolding step
step-none j ls h = rw h

pub step-some : (j : ℕ) (ls : List Line) (row : List ℚ) → pivot_row j ls ≡ Some row → step j ls ≡ map (freed j (divided (entry row j) row)) (with_pivot j (divided (entry row j) row) ls)
unfolding step
step-some j ls row h = rw h

pub freed-pivot : (j : ℕ) (p : List ℚ) (l : Line) → is_pivot j l.pivot ≡ true → freed j p l ≡ l
unfolding freed
freed-pivot j p l h = rw h

pub freed-used : (j : ℕ) (p : List ℚ) → freed j p (used j p) ≡ used j p
freed-used j p = freed-pivot j p (used j p) (eq-eqb j j refl)

-- the lines after a step that has a pivot row
pub stepped : (j : ℕ) (ls : List Line) (row : List ℚ) (h : pivot_row j ls ≡ Some row) →
    step j ls ≡ map (freed j (divided (entry row j) row)) ((found j ls row h).before ++ used j (divided (entry row j) row) ∷ (found j ls row h).after)
stepped j ls row h = step-some j ls row h ∙ ap (map (freed j (divided (entry row j) row))) ((found j ls row h).put (divided (entry row j) row))

option_cases : {A : Type 0} {R : Type 0} (o : Option A) → (o ≡ None → R) → ((x : A) → o ≡ Some x → R) → R
option_cases None f g = f refl
option_cases (Some x) f g = g x refl

-- by the two cases of a step
pub by_pivot_row : {R : Type 0} (j : ℕ) (ls : List Line) → (pivot_row j ls ≡ None → R) → ((row : List ℚ) → pivot_row j ls ≡ Some row → R) → R
by_pivot_row j ls f g = option_cases (pivot_row j ls) f g

-- what holds of each line through a step
pub step_each : (P Q : Line → Type 0) (j : ℕ) (ls : List Line)
    → (pivot_row j ls ≡ None → (l : Line) → may_pivot j l ≡ false → P l → Q l)
    → ((row : List ℚ) → pivot_row j ls ≡ Some row → same_fields (entry row j) zero_ℚ ≡ false → P (unused row) → Q (used j (divided (entry row j) row)) × ((l : Line) → P l → Q (freed j (divided (entry row j) row) l)))
    → AllByRecursion P ls → AllByRecursion Q (step j ls)
step_each P Q j ls stays changes h = by_pivot_row j ls none some
  where
    none : pivot_row j ls ≡ None → AllByRecursion Q (step j ls)
    none e = subst (AllByRecursion Q) (sym (step-none j ls e)) (each_weaker _ Q ls (λ l t. stays e l t.0 t.1) (each_both (λ l. may_pivot j l ≡ false) P ls (not_found j ls e) h))

    some : (row : List ℚ) → pivot_row j ls ≡ Some row → AllByRecursion Q (step j ls)
    some row e =
        let f = found j ls row e in
        let t = each_parts P f.before (unused row) f.after (subst (AllByRecursion P) f.is h) in
        let c = changes row e f.nonzero t.1 in
        let p = divided (entry row j) row in
        subst (AllByRecursion Q) (sym (stepped j ls row e)) (each_map Q (freed j p) (f.before ++ used j p ∷ f.after)
        (each_whole (λ l. Q (freed j p l)) f.before (used j p) f.after
        (each_weaker P (λ l. Q (freed j p l)) f.before c.1 t.0) (subst Q (sym (freed-used j p)) c.0) (each_weaker P (λ l. Q (freed j p l)) f.after c.1 t.2)))

-- and back
pub step_each_back : (K P : Line → Type 0) (j : ℕ) (ls : List Line)
    → ((row : List ℚ) → same_fields (entry row j) zero_ℚ ≡ false → K (unused row) → P (used j (divided (entry row j) row)) → P (unused row) × ((l : Line) → K l → P (freed j (divided (entry row j) row) l) → P l))
    → AllByRecursion K ls → AllByRecursion P (step j ls) → AllByRecursion P ls
step_each_back K P j ls changes known h = by_pivot_row j ls none some
  where
    none : pivot_row j ls ≡ None → AllByRecursion P ls
    none e = subst (AllByRecursion P) (step-none j ls e) h

    some : (row : List ℚ) → pivot_row j ls ≡ Some row → AllByRecursion P ls
    some row e =
        let f = found j ls row e in
        let p = divided (entry row j) row in
        let g = each_parts K f.before (unused row) f.after (subst (AllByRecursion K) f.is known) in
        let t = each_parts (λ l. P (freed j p l)) f.before (used j p) f.after (each_unmap P (freed j p) (f.before ++ used j p ∷ f.after) (subst (AllByRecursion P) (stepped j ls row e) h)) in
        let c = changes row f.nonzero g.1 (subst P (freed-used j p) t.1) in
        let back = λ (xs : List Line) (a : AllByRecursion K xs) (b : AllByRecursion (λ l. P (freed j p l)) xs).
        each_weaker (λ l. K l × P (freed j p l)) P xs (λ l u. c.1 l u.0 u.1) (each_both K (λ l. P (freed j p l)) xs a b) in
        subst (AllByRecursion P) (sym f.is) (each_whole P f.before (unused row) f.after (back f.before g.0 t.0) c.0 (back f.after g.2 t.2))

-- ---- all steps

pub eliminated-end : (j : ℕ) (ls : List Line) → eliminated_from zero j ls ≡ ls
unfolding eliminated_from
eliminated-end j ls = refl

pub eliminated-more : (k j : ℕ) (ls : List Line) → eliminated_from (suc k) j ls ≡ eliminated_from k (suc j) (step j ls)
unfolding eliminated_from
eliminated-more k j ls = refl

-- what each step keeps
pub eliminated_keeps : (I : ℕ → List Line → Type 0) → ((j : ℕ) (ls : List Line) → I j ls → I (suc j) (step j ls)) → (k j : ℕ) (ls : List Line) → I j ls → I (j + k) (eliminated_from k j ls)
eliminated_keeps I f zero j ls h = subst (λ n. I n (eliminated_from zero j ls)) (at j) (subst (I j) (sym (eliminated-end j ls)) h)
  where
    at : (j : ℕ) → j ≡ j + zero
    at j = omega arith
eliminated_keeps I f (suc k) j ls h =
    subst (λ n. I n (eliminated_from (suc k) j ls)) (at j k) (subst (I (suc j + k)) (sym (eliminated-more k j ls)) (eliminated_keeps I f k (suc j) (step j ls) (f j ls h)))
  where
    at : (j k : ℕ) → suc j + k ≡ j + suc k
    at j k = omega arith

pub eliminated_keeps_all : (I : ℕ → List Line → Type 0) → ((j : ℕ) (ls : List Line) → I j ls → I (suc j) (step j ls)) → (n : ℕ) (ls : List Line) → I 0 ls → I n (eliminated_from n 0 ls)
eliminated_keeps_all I f n ls h = subst (λ k. I k (eliminated_from n 0 ls)) (at n) (eliminated_keeps I f n 0 ls h)
  where
    at : (n : ℕ) → 0 + n ≡ n
    at n = omega arith

-- ---- lengths

-- each line has w entries
abbrev pub HasWidth : ℕ → List Line → Type 0
HasWidth w ls = AllByRecursion (λ l. length l.entries ≡ w) ls

pub length-divided : (q : ℚ) (row : List ℚ) → length (divided q row) ≡ length row
length-divided q [] = refl
length-divided q (x ∷ row) = ap suc (length-divided q row)

pub freed-other : (j : ℕ) (p : List ℚ) (l : Line) → is_pivot j l.pivot ≡ false → freed j p l ≡ record { pivot = l.pivot; entries = add_each l.entries (scale (neg_ℚ (entry l.entries j)) p) }
unfolding freed
freed-other j p l h = rw h

pub length-freed : (w j : ℕ) (p : List ℚ) (l : Line) → length p ≡ w → length l.entries ≡ w → length (freed j p l).entries ≡ w
length-freed w j p l e h = bool_cases (is_pivot j l.pivot)
    (λ a. ap (λ (m : Line). length m.entries) (freed-pivot j p l a) ∙ h)
    (λ a. ap (λ (m : Line). length m.entries) (freed-other j p l a) ∙ length-add_each l.entries (scale (neg_ℚ (entry l.entries j)) p) (h ∙ sym e ∙ sym (length-scale (neg_ℚ (entry l.entries j)) p)) ∙ h)

pub width-step : (w j : ℕ) (ls : List Line) → HasWidth w ls → HasWidth w (step j ls)
width-step w j ls h =
    step_each (λ l. length l.entries ≡ w) (λ l. length l.entries ≡ w) j ls (λ _ l _ e. e)
    (λ row _ _ e. let d = length-divided (entry row j) row ∙ e in (d, λ l k. length-freed w j (divided (entry row j) row) l d k)) h

-- with the pivot row divided
pub width-with_pivot : (w j : ℕ) (ls : List Line) (row : List ℚ) → pivot_row j ls ≡ Some row → HasWidth w ls → HasWidth w (with_pivot j (divided (entry row j) row) ls) × (length (divided (entry row j) row) ≡ w)
width-with_pivot w j ls row e h =
    let f = found j ls row e in
    let p = divided (entry row j) row in
    let t = each_parts (λ l. length l.entries ≡ w) f.before (unused row) f.after (subst (HasWidth w) f.is h) in
    let d : length p ≡ w = length-divided (entry row j) row ∙ t.1 in
    (subst (HasWidth w) (sym (f.put p)) (each_whole (λ l. length l.entries ≡ w) f.before (used j p) f.after t.0 d t.2), d)

pub width-lines_of : (w : ℕ) (rows : List (List ℚ)) → HasColumns w rows → HasWidth w (map unused rows)
width-lines_of w [] h = tt
width-lines_of w (row ∷ rows) h = (All-head (λ r. length r ≡ w) row rows h, width-lines_of w rows (All-tail (λ r. length r ≡ w) row rows h))

-- what holds of each line for each value
pub each_all : {A X : Type 0} (P : A → X → Type 0) (xs : List X) → ((a : A) → AllByRecursion (P a) xs) → AllByRecursion (λ x. (a : A) → P a x) xs
each_all P [] f = tt
each_all P (x ∷ xs) f = (λ a. (f a).0, each_all P xs (λ a. (f a).1))
