-- Rows that are appended one after another.
use Rattle.std.specs.Prelude.{◌≡◌, ℕ, zero, suc, ◌+◌, ◌-◌, ◌*◌, List, [], ◌∷◌, ◌++◌, map, length, replicate, Bool, true, false}
use Rattle.std.proofs.Common.{refl, sym, ap, ◌∙◌, arith, add-one, append_assoc, append-nil}
use Rattle.std.proofs.lemmas.List.{map-append, length-append, length-replicate, take_at, drop_at}
use Rattle.std.proofs.lemmas.List.Elements.{All-head, All-tail}
use Rattle.algebra.proofs.Polynomial.{minus, lit, ◌≐◌}
use Rattle.algebra.proofs.Solver.{ring}
use Rattle.rational.specs.Rational.{ℚ, zero_ℚ, neg_ℚ}
use Rattle.rational.specs.Vectors.{zeros, HasColumns}
use Rattle.rational.proofs.Field.{rationals}
use Rattle.exact_matrix.specs.Grid.{rows_of}
use Rattle.exact_matrix.specs.Systems.{joined}
use Rattle.rational.specs.Tests.{is_negative}
use Rattle.equational_law.specs.Equations.{Equation, matrix_row, right_of}
use Rattle.equational_rows.specs.declared.rows.Slacks.{Slacks}
use Rattle.equational_rows.specs.Built.{Built, signed, signed_by, ended, with_equation, with_equations}

pub replicate-zeros : (n : ℕ) → replicate n zero_ℚ ≡ zeros n
replicate-zeros zero = refl
replicate-zeros (suc n) = ap (λ (l : List ℚ). zero_ℚ ∷ l) (replicate-zeros n)

-- a number appended so many times
pub repeated_none : (x : ℚ) (was : List ℚ) → was ≡ was ++ replicate 0 x
repeated_none x was = sym (append-nil was)

one_more : (k : ℕ) (x : ℚ) → replicate k x ++ x ∷ [] ≡ x ∷ replicate k x
one_more zero x = refl
one_more (suc k) x = ap (λ (l : List ℚ). x ∷ l) (one_more k x)

pub repeated_more : (x : ℚ) (was now next : List ℚ) (k : ℕ) → now ≡ was ++ replicate k x → next ≡ now ++ x ∷ [] → next ≡ was ++ replicate (k + 1) x
repeated_more x was now next k e p =
    p ∙ ap (λ (l : List ℚ). l ++ x ∷ []) e ∙ append_assoc was (replicate k x) (x ∷ [])
    ∙ ap (λ (l : List ℚ). was ++ l) (one_more k x ∙ ap (λ (n : ℕ). replicate n x) (sym (add-one k)))

pub repeated_all : (x : ℚ) (was now : List ℚ) (k count : ℕ) → k ≡ count → now ≡ was ++ replicate k x → now ≡ was ++ replicate count x
repeated_all x was now k count h e = e ∙ ap (λ (n : ℕ). was ++ replicate n x) h

pub zeros_pushed : (was now : List ℚ) (x : ℚ) (n : ℕ) → x ≡ zero_ℚ → now ≡ was ++ replicate n x → now ≡ was ++ zeros n
zeros_pushed was now x n z e = e ∙ ap (λ (x : ℚ). was ++ replicate n x) z ∙ ap (λ (l : List ℚ). was ++ l) (replicate-zeros n)

pub neg-zero : neg_ℚ zero_ℚ ≡ zero_ℚ
neg-zero = ring rationals [] (minus (lit 0) ≐ lit 0) refl

negated-zeros : (n : ℕ) → map neg_ℚ (zeros n) ≡ zeros n
negated-zeros zero = refl
negated-zeros (suc n) = both neg-zero (negated-zeros n)
  where
    both : {x y : ℚ} {xs ys : List ℚ} → x ≡ y → xs ≡ ys → x ∷ xs ≡ y ∷ ys
    both e f = cc

negated-replicate : (n : ℕ) (x : ℚ) → map neg_ℚ (replicate n x) ≡ replicate n (neg_ℚ x)
negated-replicate zero x = refl
negated-replicate (suc n) x = ap (λ (l : List ℚ). neg_ℚ x ∷ l) (negated-replicate n x)

pub signed-zeros : (b : Bool) (n : ℕ) → signed b (zeros n) ≡ zeros n
signed-zeros true n = negated-zeros n
signed-zeros false n = refl

signed-replicate : (b : Bool) (n : ℕ) (x : ℚ) → signed b (replicate n x) ≡ replicate n (signed_by b x)
signed-replicate true n x = negated-replicate n x
signed-replicate false n x = refl

pub signed-append : (b : Bool) (xs ys : List ℚ) → signed b (xs ++ ys) ≡ signed b xs ++ signed b ys
signed-append true xs ys = map-append neg_ℚ xs ys
signed-append false xs ys = refl

pub signed-one : (b : Bool) (x : ℚ) (xs : List ℚ) → signed b (x ∷ xs) ≡ signed_by b x ∷ signed b xs
signed-one true x xs = refl
signed-one false x xs = refl

-- ---- one equation

laid_row : (b : Bool) (left : List ℚ) (k n m : ℕ) (x : ℚ) → signed b left ++ (zeros k ++ (replicate n (signed_by b x) ++ zeros m)) ≡ signed b (left ++ zeros k ++ replicate n x ++ zeros m)
laid_row b left k n m x =
    ap (λ (l : List ℚ). signed b left ++ (zeros k ++ (l ++ zeros m))) (sym (signed-replicate b n x))
    ∙ ap (λ (l : List ℚ). signed b left ++ (zeros k ++ (signed b (replicate n x) ++ l))) (sym (signed-zeros b m))
    ∙ ap (λ (l : List ℚ). signed b left ++ (l ++ (signed b (replicate n x) ++ signed b (zeros m)))) (sym (signed-zeros b k))
    ∙ sym (append_assoc (signed b left) (signed b (zeros k)) (signed b (replicate n x) ++ signed b (zeros m)))
    ∙ ap (λ (l : List ℚ). l ++ (signed b (replicate n x) ++ signed b (zeros m))) (sym (signed-append b left (zeros k)))
    ∙ sym (append_assoc (signed b (left ++ zeros k)) (signed b (replicate n x)) (signed b (zeros m)))
    ∙ ap (λ (l : List ℚ). l ++ signed b (zeros m)) (sym (signed-append b (left ++ zeros k) (replicate n x)))
    ∙ sym (signed-append b (left ++ zeros k ++ replicate n x) (zeros m))

abbrev equation_of : List ℚ → Slacks → ℚ → Equation
equation_of left s r = record { entries = left; before = s.before; own = replicate s.own s.entry; right = r }

row_laid : (all : ℕ) (left : List ℚ) (s : Slacks) (r : ℚ)
    → signed (is_negative r) left ++ (zeros s.before ++ (replicate s.own (signed_by (is_negative r) s.entry) ++ zeros (all - (s.before + s.own)))) ≡ matrix_row all (equation_of left s r)
row_laid all left s r =
    laid_row (is_negative r) left s.before s.own (all - (s.before + s.own)) s.entry
    ∙ ap (λ (n : ℕ). signed (is_negative r) (left ++ zeros s.before ++ replicate s.own s.entry ++ zeros (all - (s.before + n)))) (sym (length-replicate s.own s.entry))

abbrev built : List ℚ → List ℚ → Built
built entries right = record { entries = entries; right = right }

same_built : (a b : List ℚ) (r : List ℚ) → a ≡ b → built a r ≡ built b r
same_built a b r e = ap (λ (l : List ℚ). built l r) e

same_both : (a b r s : List ℚ) → a ≡ b → r ≡ s → built a r ≡ built b s
same_both a b r s e f = same_built a b r e ∙ ap (built b) f

-- the entries on the columns, and then the slacks and the right side
pub equation_pushed : (all count : ℕ) (old new : Built) (entries right middle left : List ℚ) (s : Slacks) (r : ℚ) → record { entries = entries; right = right } ≡ old → count ≡ all
    → middle ≡ entries ++ signed (is_negative r) left → new ≡ ended count (record { entries = middle; right = right }) s r
    → new ≡ with_equation all old (record { entries = left; before = s.before; own = replicate s.own s.entry; right = r })
equation_pushed all count old new entries right middle left s r v k m e =
    let tail = zeros s.before ++ (replicate s.own (signed_by (is_negative r) s.entry) ++ zeros (all - (s.before + s.own))) in
    e ∙ ap (λ (n : ℕ). ended n (built middle right) s r) k
    ∙ same_built (middle ++ tail) (entries ++ matrix_row all (equation_of left s r)) (right ++ signed_by (is_negative r) r ∷ [])
    (ap (λ (l : List ℚ). l ++ tail) m ∙ append_assoc entries (signed (is_negative r) left) tail ∙ ap (λ (l : List ℚ). entries ++ l) (row_laid all left s r))
    ∙ ap (λ (b : Built). with_equation all b (equation_of left s r)) v

pub slacks_left : (was now : List ℚ) (b : Bool) (n : ℕ) → now ≡ was ++ zeros n → now ≡ was ++ signed b (zeros n)
slacks_left was now b n e = e ∙ ap (λ (l : List ℚ). was ++ l) (sym (signed-zeros b n))

pub column_left : (was first second now : List ℚ) (b : Bool) (one x : ℚ) (n m : ℕ) → first ≡ was ++ zeros n → one ≡ signed_by b x → second ≡ first ++ one ∷ [] → now ≡ second ++ zeros m
    → now ≡ was ++ signed b (zeros n ++ x ∷ zeros m)
column_left was first second now b one x n m e o f g =
    g ∙ ap (λ (l : List ℚ). l ++ zeros m) (f ∙ ap (λ (y : ℚ). first ++ y ∷ []) o ∙ ap (λ (l : List ℚ). l ++ signed_by b x ∷ []) e)
    ∙ append_assoc (was ++ zeros n) (signed_by b x ∷ []) (zeros m) ∙ append_assoc was (zeros n) (signed_by b x ∷ zeros m)
    ∙ ap (λ (l : List ℚ). was ++ (l ++ signed_by b x ∷ zeros m)) (sym (signed-zeros b n))
    ∙ ap (λ (l : List ℚ). was ++ (signed b (zeros n) ++ signed_by b x ∷ l)) (sym (signed-zeros b m))
    ∙ ap (λ (l : List ℚ). was ++ (signed b (zeros n) ++ l)) (sym (signed-one b x (zeros m)))
    ∙ ap (λ (l : List ℚ). was ++ l) (sym (signed-append b (zeros n) (x ∷ zeros m)))

-- ---- more equations

pub no_equations : (slacks : ℕ) (b : Built) → with_equations slacks b [] ≡ b
no_equations slacks b = same_both _ _ _ _ (append-nil b.entries) (append-nil b.right)

pub one_equation : (slacks : ℕ) (b : Built) (e : Equation) → with_equations slacks b (e ∷ []) ≡ with_equation slacks b e
one_equation slacks b e = same_built (b.entries ++ (matrix_row slacks e ++ [])) (b.entries ++ matrix_row slacks e) (b.right ++ right_of e ∷ []) (ap (λ (l : List ℚ). b.entries ++ l) (append-nil (matrix_row slacks e)))

pub joined-append : (xs ys : List (List ℚ)) → joined (xs ++ ys) ≡ joined xs ++ joined ys
joined-append [] ys = refl
joined-append (x ∷ xs) ys = ap (λ (l : List ℚ). x ++ l) (joined-append xs ys) ∙ sym (append_assoc x (joined xs) (joined ys))

pub equations_after : (slacks : ℕ) (b : Built) (es others : List Equation) → with_equations slacks (with_equations slacks b es) others ≡ with_equations slacks b (es ++ others)
equations_after slacks b es others =
    same_both _ _ _ _
    (append_assoc b.entries (joined (map (matrix_row slacks) es)) (joined (map (matrix_row slacks) others))
    ∙ ap (λ (l : List ℚ). b.entries ++ l) (sym (joined-append (map (matrix_row slacks) es) (map (matrix_row slacks) others)) ∙ ap joined (sym (map-append (matrix_row slacks) es others))))
    (append_assoc b.right (map right_of es) (map right_of others) ∙ ap (λ (l : List ℚ). b.right ++ l) (sym (map-append right_of es others)))

-- ---- rows cut apart again

pub length-joined : (w : ℕ) (rows : List (List ℚ)) → HasColumns w rows → length (joined rows) ≡ length rows * w
length-joined w [] h = omega arith
length-joined w (r ∷ rows) h =
    let e = length-joined w rows (All-tail (λ r. length r ≡ w) r rows h) in
    let f : length r ≡ w = All-head (λ r. length r ≡ w) r rows h in
    omega (arith, length-append r (joined rows), f, e)

pub rows_of-joined : (w : ℕ) (rows : List (List ℚ)) → HasColumns w rows → rows_of w (length rows) (joined rows) ≡ rows
rows_of-joined w [] h = refl
rows_of-joined w (r ∷ rows) h =
    let f : length r ≡ w = All-head (λ r. length r ≡ w) r rows h in
    both (take_at r (joined rows) w f) (ap (rows_of w (length rows)) (drop_at r (joined rows) w f) ∙ rows_of-joined w rows (All-tail (λ r. length r ≡ w) r rows h))
  where
    both : {x y : List ℚ} {xs ys : List (List ℚ)} → x ≡ y → xs ≡ ys → x ∷ xs ≡ y ∷ ys
    both e f = cc
