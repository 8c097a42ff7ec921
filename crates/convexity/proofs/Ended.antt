-- The calculation ends with the exact answer, where all its operations are within the bound, and else with the first that is past.
use Rattle.std.specs.Prelude.{◌≡◌, ℕ, zero, suc, List, [], ◌∷◌, ◌++◌, length, Option, Some, None, Bool, true, false, if◌then◌else◌, Result, Ok, Err}
use Rattle.std.specs.declared.cmp.Ordering.{Ordering}
use Rattle.std.specs.declared.cmp.Ordering.TheVariants.{Less, Equal, Greater}
use Rattle.std.specs.List.{All}
use Rattle.std.proofs.Common.{refl, sym, ◌∙◌, ap, subst, arith, append_assoc}
use Rattle.std.proofs.lemmas.List.Elements.{All-nil, All-append}
use Rattle.algebra.proofs.Polynomial.{minus, ◌⊕◌, ◌⊝◌, ◌⊗◌, ◌≐◌, lit}
use Rattle.algebra.proofs.Solver.{ring}
use Rattle.algebra.proofs.Ring as laws
use Rattle.rational.specs.Rational.{ℚ, zero_ℚ, one_ℚ, neg_ℚ, reciprocal, ◌+ℚ◌, ◌*ℚ◌, ◌/ℚ◌}
use Rattle.rational.specs.Order.{rational_cmp, same_fields, same_fields_lem}
use Rattle.rational.specs.Vectors.{add_each, scale, zeros, row_at, dot}
use Rattle.rational.proofs.Field.{rationals}
use Rattle.frac_core.specs.Parts.{max_part}
use Rattle.frac_core.specs.Calculated.{tried_in, and_then, exact_of, ◌>>=◌, answered, operated}
use Rattle.frac_core.specs.Dot.{dot_of, dot_ops}
use Rattle.frac_core.specs.Operations.{operation, IsWithin, IsFirstPast, Tries}
use Rattle.frac_core.specs.Row.{Row, Entries, Refusal, entry_then, less_step, row_less}
use Rattle.frac_core.specs.declared.fractions.Op.{Op}
use Rattle.frac_core.specs.declared.fractions.Op.TheVariants.{Sub, Mul, Div}
use Rattle.frac_core.specs.declared.fractions.Refused.{Refused}
use Rattle.frac_core.specs.declared.fractions.Tried.{Tried}
use Rattle.frac_core.specs.declared.fractions.Tried.TheVariants.{Is, Past}
use Rattle.frac_core.proofs.Operations.{tries_none, tries_one, tries_then, dot_tries}
use Rattle.frac_core.proofs.Values.{tried-value, dot_of-value}
use Rattle.frac_core.proofs.RowLemmas.{less_step-value}
use Rattle.rational.specs.Tests.{is_positive}
use Rattle.rational.specs.Sums.{entry}
use Rattle.elimination_law.specs.Elimination.{divided}
use Rattle.elimination_law.specs.Calculation.{divide_step, divided_in}
use Rattle.elimination_law.specs.Operations.{division_ops, less_ops}
use Rattle.convexity.specs.declared.Curvature.{Curvature}
use Rattle.convexity.specs.declared.Curvature.TheVariants.{Squares, Negative}
use Rattle.symmetric_half.specs.Chain.{row_answered}
use Rattle.symmetric_half.specs.Half.{upper_half, IsHalf, IsSymmetric}
use Rattle.convexity.specs.Reduction.{first_place, tilt, tilted, less_products, after_zero, after_square, flat, by_sign, curvature_from, curvature_of}
use Rattle.convexity.specs.ReductionCalculation.{tilt_in, less_product, less_products_in, after_square_in, flat_in, by_sign_in, squares_from, squares_of}
use Rattle.convexity.specs.ReductionOperations.{tilt_ops, less_product_ops, less_products_ops, after_square_ops, flat_ops, by_sign_ops, squares_ops_from, squares_ops}
use Rattle.symmetric_half.proofs.Halves.{is_half}
use Rattle.convexity.proofs.Entries.{length-divided, is_half_less}

-- these operations in order end with this value, or with the first of them that is past
abbrev pub Ends : {A : Type 0} → List Refused → A → Result A Refused → Type 0
Ends ops x (Ok y) = (y ≡ x) × All (IsWithin max_part) ops
Ends ops x (Err r) = IsFirstPast max_part ops r

ends_none : {A : Type 0} (x : A) → Ends [] x (Ok x)
ends_none x = (refl, All-nil (IsWithin max_part))

-- nothing is done where the value is there already
ends_at_once : {A : Type 0} (x y : A) → y ≡ x → Ends [] x (Ok y)
ends_at_once x y e = (e, All-nil (IsWithin max_part))

after_all : {A : Type 0} (xs ys : List Refused) (y : A) (t : Result A Refused) → All (IsWithin max_part) xs → Ends ys y t → Ends (xs ++ ys) y t
after_all xs ys y (Ok z) h k = (k.0, All-append (IsWithin max_part) xs ys h k.1)
after_all xs ys y (Err r) h k = record {
  earlier = xs ++ k.earlier;
  later = k.later;
  place = ap (λ l. xs ++ l) k.place ∙ sym (append_assoc xs k.earlier (r ∷ k.later));
  within = All-append (IsWithin max_part) xs k.earlier h k.within;
  past = k.past;
}

-- operations, and then those that come of their value
ends_then : {A B : Type 0} (xs ys : List Refused) (x : A) (y : B) (t : Result A Refused) (f : A → Result B Refused) → Ends xs x t → Ends ys y (f x)
    → Ends (xs ++ ys) y (t >>= f)
ends_then xs ys x y (Ok z) f h k = after_all xs ys y (f z) h.1 (subst (λ w. Ends ys y (f w)) (sym h.0) k)
ends_then xs ys x y (Err r) f h k = record {
  earlier = h.earlier;
  later = h.later ++ ys;
  place = ap (λ l. l ++ ys) h.place ∙ append_assoc h.earlier (r ∷ h.later) ys;
  within = h.within;
  past = h.past;
}

-- operations, and then a last part without any
ends_with : {A B : Type 0} (xs : List Refused) (x : A) (t : Result A Refused) (f : A → B) → Ends xs x t → Ends xs (f x) (t >>= λ y. Ok (f y))
ends_with xs x (Ok z) f h = (ap f h.0, h.1)
ends_with xs x (Err r) f h = h

of_tries : (ops : List Refused) (x : ℚ) (t : Tried) → Tries max_part ops t → ((q : ℚ) → t ≡ Is q → q ≡ x) → Ends ops x (answered t)
of_tries ops x (Is q) h e = (e q refl, h)
of_tries ops x (Past r) h e = h

ends_one : (o : Op) (p q : ℚ) → Ends (operation o p q ∷ []) (exact_of o p q) (operated max_part o p q)
ends_one o p q = of_tries (operation o p q ∷ []) (exact_of o p q) (tried_in max_part o p q) (tries_one max_part o p q) (tried-value max_part o p q)

ends_dot : (v z : List ℚ) → Ends (dot_ops v z) (dot v z) (answered (dot_of max_part v z))
ends_dot v z = of_tries (dot_ops v z) (dot v z) (dot_of max_part v z) (dot_tries max_part v z) (dot_of-value max_part v z)

-- ---- rows

entry_before : (t : Tried) (row : Row) → row_answered (entry_then t row) ≡ (answered t >>= λ q. row_answered row >>= λ qs. Ok (q ∷ qs))
entry_before (Past r) row = refl
entry_before (Is q) (Entries qs) = refl
entry_before (Is q) (Refusal r) = refl

ends_entry : (xs ys : List Refused) (q : ℚ) (qs : List ℚ) (t : Tried) (row : Row) → Ends xs q (answered t) → Ends ys qs (row_answered row)
    → Ends (xs ++ ys) (q ∷ qs) (row_answered (entry_then t row))
ends_entry xs ys q qs t row h k =
    subst (λ s. Ends (xs ++ ys) (q ∷ qs) s) (sym (entry_before t row))
    (ends_then xs ys q (q ∷ qs) (answered t) (λ p. row_answered row >>= λ ps. Ok (p ∷ ps)) h (ends_with ys qs (row_answered row) (λ ps. q ∷ ps) k))

zero_divided : (d x : ℚ) → same_fields x zero_ℚ ≡ true → x ≡ x /ℚ d
zero_divided d x h =
    let e : x ≡ zero_ℚ = same_fields_lem x zero_ℚ h in
    e ∙ sym (laws.zero_mul rationals (reciprocal d)) ∙ ap (λ (t : ℚ). t *ℚ reciprocal d) (sym e)

ends_divided : (d : ℚ) (r : List ℚ) → Ends (division_ops d r) (divided d r) (row_answered (divided_in max_part d r))
unfolding division_ops divided_in divide_step
ends_divided d [] = ends_none []
ends_divided d (x ∷ r) = by_test (same_fields x zero_ℚ) refl (ends_divided d r)
  where
    by_test : (b : Bool) → same_fields x zero_ℚ ≡ b → Ends (division_ops d r) (divided d r) (row_answered (divided_in max_part d r))
        → Ends (if b then division_ops d r else operation Div x d ∷ division_ops d r) ((x /ℚ d) ∷ divided d r)
        (row_answered (entry_then (if b then Is x else tried_in max_part Div x d) (divided_in max_part d r)))
    by_test true e rest = ends_entry [] (division_ops d r) (x /ℚ d) (divided d r) (Is x) (divided_in max_part d r) (ends_at_once (x /ℚ d) x (zero_divided d x e)) rest
    by_test false e rest = ends_entry (operation Div x d ∷ []) (division_ops d r) (x /ℚ d) (divided d r) (tried_in max_part Div x d) (divided_in max_part d r) (ends_one Div x d) rest

-- one place of a row less f times another
place_ops : ℚ → ℚ → ℚ → List Refused
place_ops f x p = if same_fields p zero_ℚ then [] else operation Mul f p ∷ operation Sub x (f *ℚ p) ∷ []

place_tries : (f x p : ℚ) → Tries max_part (place_ops f x p) (less_step max_part f x p)
unfolding place_ops less_step
place_tries f x p = by_test (same_fields p zero_ℚ)
  where
    by_test : (b : Bool) → Tries max_part (if b then [] else operation Mul f p ∷ operation Sub x (f *ℚ p) ∷ []) (if b then Is x else and_then (tried_in max_part Mul f p) (λ t. tried_in max_part Sub x t))
    by_test true = tries_none max_part x
    by_test false =
        tries_then max_part (operation Mul f p ∷ []) (operation Sub x (f *ℚ p) ∷ []) (tried_in max_part Mul f p) (λ t. tried_in max_part Sub x t) (tries_one max_part Mul f p)
        (λ q e. subst (λ (v : ℚ). Tries max_part (operation Sub x v ∷ []) (tried_in max_part Sub x q)) (tried-value max_part Mul f p q e) (tries_one max_part Sub x q))

ends_place : (f x p : ℚ) → Ends (place_ops f x p) (x +ℚ neg_ℚ f *ℚ p) (answered (less_step max_part f x p))
ends_place f x p =
    of_tries (place_ops f x p) (x +ℚ neg_ℚ f *ℚ p) (less_step max_part f x p) (place_tries f x p)
    (λ q e. less_step-value max_part f x p q e ∙ ring rationals (x ∷ f ∷ p ∷ []) (λ x f p. x ⊝ f ⊗ p ≐ x ⊕ minus f ⊗ p) refl)

less_ops_more : (f x p : ℚ) (xs ps : List ℚ) → less_ops f (x ∷ xs) (p ∷ ps) ≡ place_ops f x p ++ less_ops f xs ps
unfolding less_ops place_ops
less_ops_more f x p xs ps = by_test (same_fields p zero_ℚ)
  where
    by_test : (b : Bool) → (if b then less_ops f xs ps else operation Mul f p ∷ operation Sub x (f *ℚ p) ∷ less_ops f xs ps) ≡ (if b then [] else operation Mul f p ∷ operation Sub x (f *ℚ p) ∷ []) ++ less_ops f xs ps
    by_test true = refl
    by_test false = refl

ends_row_less : (f : ℚ) (xs ps : List ℚ) → length xs ≡ length ps → Ends (less_ops f xs ps) (add_each xs (scale (neg_ℚ f) ps)) (row_answered (row_less max_part f xs ps))
unfolding less_ops row_less
ends_row_less f [] ps h = ends_none []
ends_row_less f (x ∷ xs) [] h = absurd (omega arith)
ends_row_less f (x ∷ xs) (p ∷ ps) h =
    subst (λ l. Ends l (add_each (x ∷ xs) (scale (neg_ℚ f) (p ∷ ps))) (row_answered (entry_then (less_step max_part f x p) (row_less max_part f xs ps))))
    (sym (less_ops_more f x p xs ps))
    (ends_entry (place_ops f x p) (less_ops f xs ps) (x +ℚ neg_ℚ f *ℚ p) (add_each xs (scale (neg_ℚ f) ps)) (less_step max_part f x p) (row_less max_part f xs ps)
    (ends_place f x p) (ends_row_less f xs ps (omega arith)))

less_nothing : (f : ℚ) (xs ps : List ℚ) → f ≡ zero_ℚ → length xs ≡ length ps → xs ≡ add_each xs (scale (neg_ℚ f) ps)
less_nothing f [] ps e h = refl
less_nothing f (x ∷ xs) [] e h = absurd (omega arith)
less_nothing f (x ∷ xs) (p ∷ ps) e h =
    ap (λ (l : List ℚ). x ∷ l) (less_nothing f xs ps e (omega arith))
    ∙ ap (λ (t : ℚ). t ∷ add_each xs (scale (neg_ℚ f) ps)) (ring rationals (x ∷ p ∷ []) (λ x p. x ≐ x ⊕ minus (lit 0) ⊗ p) refl ∙ ap (λ (t : ℚ). x +ℚ neg_ℚ t *ℚ p) (sym e))

ends_less_product : (f : ℚ) (v row : List ℚ) → length row ≡ length v → Ends (less_product_ops f v row) (add_each row (scale (neg_ℚ f) v)) (row_answered (less_product f v row))
unfolding less_product
ends_less_product f v row h = by_test (same_fields f zero_ℚ) refl
  where
    by_test : (b : Bool) → same_fields f zero_ℚ ≡ b
        → Ends (if b then [] else less_ops f row v) (add_each row (scale (neg_ℚ f) v)) (row_answered (if b then Entries row else row_less max_part f row v))
    by_test true e = ends_at_once (add_each row (scale (neg_ℚ f) v)) row (less_nothing f row v (same_fields_lem f zero_ℚ e) h)
    by_test false e = ends_row_less f row v h

ends_less_products : (n : ℕ) (r v : List ℚ) (rows : List (List ℚ)) → length v ≡ n → IsHalf n rows
    → Ends (less_products_ops r v rows) (less_products r v rows) (less_products_in r v rows)
ends_less_products n [] v rows l s = ends_none []
ends_less_products n (f ∷ r) [] rows l s = ends_none []
ends_less_products n (f ∷ r) (y ∷ v) [] l s = ends_none []
ends_less_products zero (f ∷ r) (y ∷ v) (row ∷ rows) l s = absurd s
ends_less_products (suc n) (f ∷ r) (y ∷ v) (row ∷ rows) l s =
    let first = add_each row (scale (neg_ℚ f) (y ∷ v)) in
    ends_then (less_product_ops f (y ∷ v) row) (less_products_ops r v rows) first (first ∷ less_products r v rows)
    (row_answered (less_product f (y ∷ v) row)) (λ one. less_products_in r v rows >>= λ others. Ok (one ∷ others))
    (ends_less_product f (y ∷ v) row (s.0 ∙ sym l))
    (ends_with (less_products_ops r v rows) (less_products r v rows) (less_products_in r v rows) (λ others. first ∷ others) (ends_less_products n r v rows (omega arith) s.1))

-- ---- one place

ends_after_square : (d : ℚ) (v : List ℚ) (c : Curvature) → Ends (after_square_ops v c) (after_square d v c) (after_square_in d v c)
ends_after_square d v (Squares ss) = ends_none (after_square d v (Squares ss))
ends_after_square d v (Negative z) = ends_with (dot_ops v z) (dot v z) (answered (dot_of max_part v z)) (λ q. Negative (neg_ℚ q ∷ z)) (ends_dot v z)

ends_tilt : (b c : ℚ) → Ends (tilt_ops b c) (tilt b c) (tilt_in b c)
ends_tilt b c = by_test (is_positive c)
  where
    by_test : (t : Bool) → Ends (if t then operation Div b c ∷ [] else operation Div one_ℚ b ∷ []) (if t then neg_ℚ (b /ℚ c) else neg_ℚ (one_ℚ /ℚ b))
        (if t then (operated max_part Div b c >>= λ q. Ok (neg_ℚ q)) else (operated max_part Div one_ℚ b >>= λ q. Ok (neg_ℚ q)))
    by_test true = ends_with (operation Div b c ∷ []) (b /ℚ c) (operated max_part Div b c) (λ q. neg_ℚ q) (ends_one Div b c)
    by_test false = ends_with (operation Div one_ℚ b ∷ []) (one_ℚ /ℚ b) (operated max_part Div one_ℚ b) (λ q. neg_ℚ q) (ends_one Div one_ℚ b)

module _ (n : ℕ) (d : ℚ) (r : List ℚ) (rows : List (List ℚ)) (ops : List (List ℚ) → List Refused) (exact : List (List ℚ) → Curvature)
    (calculated : List (List ℚ) → Result Curvature Refused) where
  ends_flat : (o : Option ℕ) → Ends (ops rows) (exact rows) (calculated rows) → Ends (flat_ops r rows o ops) (flat n r rows o exact) (flat_in n r rows o calculated)
  ends_flat None h = ends_with (ops rows) (exact rows) (calculated rows) after_zero h
  ends_flat (Some k) h =
      let b = entry r k in let c = entry (row_at rows k) 0 in
      ends_with (tilt_ops b c) (tilt b c) (tilt_in b c) (λ t. Negative (tilted n k t)) (ends_tilt b c)

ends_by_sign : (n : ℕ) (d : ℚ) (r : List ℚ) (rows : List (List ℚ)) (o : Ordering) → length r ≡ n → IsHalf n rows
    → ((left : List (List ℚ)) → IsHalf n left → Ends (squares_ops_from n left) (curvature_from n left) (squares_from n left))
    → Ends (by_sign_ops o n d r rows (λ left. squares_ops_from n left)) (by_sign o n d r rows (λ left. curvature_from n left)) (by_sign_in o n d r rows (λ left. squares_from n left))
ends_by_sign n d r rows Less l s h = ends_none (Negative (one_ℚ ∷ zeros n))
ends_by_sign n d r rows Equal l s h =
    ends_flat n d r rows (λ left. squares_ops_from n left) (λ left. curvature_from n left) (λ left. squares_from n left) (first_place r) (h rows s)
ends_by_sign n d r rows Greater l s h =
    let left = less_products r (divided d r) rows in
    let k : length (divided d r) ≡ n = length-divided d r ∙ l in
    ends_then (division_ops d r) _ (divided d r) _ (row_answered (divided_in max_part d r))
    (λ v. less_products_in r v rows >>= λ left. squares_from n left >>= λ c. after_square_in d v c) (ends_divided d r)
    (ends_then (less_products_ops r (divided d r) rows) _ (less_products r (divided d r) rows) _ (less_products_in r (divided d r) rows)
    (λ left. squares_from n left >>= λ c. after_square_in d (divided d r) c) (ends_less_products n r (divided d r) rows k s)
    (ends_then (squares_ops_from n left) (after_square_ops (divided d r) (curvature_from n left)) (curvature_from n left) (after_square d (divided d r) (curvature_from n left))
    (squares_from n left) (λ c. after_square_in d (divided d r) c) (h left (is_half_less n r (divided d r) rows l k s))
    (ends_after_square d (divided d r) (curvature_from n left))))

-- ---- all places

pub ends_from : (n : ℕ) (rows : List (List ℚ)) → IsHalf n rows → Ends (squares_ops_from n rows) (curvature_from n rows) (squares_from n rows)
unfolding squares_ops_from curvature_from squares_from
ends_from zero rows h = ends_none (Squares [])
ends_from (suc n) [] h = ends_none (Squares [])
ends_from (suc n) ([] ∷ rows) h = ends_none (Squares [])
ends_from (suc n) ((d ∷ r) ∷ rows) h = ends_by_sign n d r rows (rational_cmp d zero_ℚ) (omega (arith, h.0)) h.1 (λ left s. ends_from n left s)

-- the calculation of a matrix
pub ends_of : (q : List (List ℚ)) → IsSymmetric q → Ends (squares_ops q) (curvature_of q) (squares_of q)
ends_of q s = ends_from (length q) (upper_half q) (is_half q s)

pub answer_is_exact : (q : List (List ℚ)) (c : Curvature) → IsSymmetric q → squares_of q ≡ Ok c → c ≡ curvature_of q
answer_is_exact q c s e = (let h : Ends (squares_ops q) (curvature_of q) (Ok c) = subst (λ (a : Result Curvature Refused). Ends (squares_ops q) (curvature_of q) a) e (ends_of q s) in h.0)

pub answer_is_within : (q : List (List ℚ)) (c : Curvature) → IsSymmetric q → squares_of q ≡ Ok c → All (IsWithin max_part) (squares_ops q)
answer_is_within q c s e = (let h : Ends (squares_ops q) (curvature_of q) (Ok c) = subst (λ (a : Result Curvature Refused). Ends (squares_ops q) (curvature_of q) a) e (ends_of q s) in h.1)

pub refusal_is_first : (q : List (List ℚ)) (r : Refused) → IsSymmetric q → squares_of q ≡ Err r → IsFirstPast max_part (squares_ops q) r
refusal_is_first q r s e = subst (λ (a : Result Curvature Refused). Ends (squares_ops q) (curvature_of q) a) e (ends_of q s)
