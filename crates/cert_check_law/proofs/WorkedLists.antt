-- The lists of worked certificates, by computing.
use Rattle.std.specs.Prelude.{◌≡◌, ◌⊎◌, ℕ, ◌^◌, ◌-◌, ℤ, List, [], ◌∷◌, ◌++◌, map, Bool, true, false}
use Rattle.std.proofs.Common.{◌∙◌, ap, refl, inl, inr}
use Rattle.rational.specs.Divisors.{gcd_of}
use Rattle.rational.specs.Rational.{ℚ, whole, ratio, neg_ℚ, reciprocal, same_ℚ, ◌+ℚ◌, ◌*ℚ◌}
use Rattle.frac_core.specs.declared.fractions.Op.{Op}
use Rattle.frac_core.specs.declared.fractions.Op.TheVariants.{Add, Sub, Mul, Div}
use Rattle.frac_core.specs.declared.fractions.Refused.{Refused}
use Rattle.frac_core.specs.Operations.{operation}
use Rattle.frac_core.specs.Dot.{place_ops, dot_ops_from}
use Rattle.program_law.proofs.Worked.{n, minus, first, apart}
use Rattle.program_law.specs.declared.Square.{Square}
use Rattle.certificate_law.specs.declared.Node.TheVariants.{Bound, Farkas}
use Rattle.certificate_law.specs.declared.Certificate.TheVariants.{Optimal, Infeasible}
use Rattle.cert_check_law.specs.Entries.{Entry, Operation, Test}
use Rattle.cert_check_law.specs.CheckList.{check_list}

-- ---- lists are the same where their parts are

abbrev Worked : Type 0
Worked = Op × ℤ × ℕ × ℤ × ℕ

abbrev Tested : Type 0
Tested = Bool × ℕ × ℕ

abbrev worked : Refused → Worked
worked o = (o.op, o.left.num, o.left.den, o.right.num, o.right.den)

abbrev tested : Bool → ℕ → ℕ → Tested
tested holds rule place = (holds, rule, place)

abbrev parts_left : Worked → Worked ⊎ Tested
parts_left s = inl s

abbrev parts_right : Tested → Worked ⊎ Tested
parts_right s = inr s

abbrev parts : Entry → Worked ⊎ Tested
parts (Operation o) = parts_left (worked o)
parts (Test holds rule place) = parts_right (tested holds rule place)

left_same : (s t : Worked) → parts_left s ≡ parts_left t → s ≡ t
left_same s t e = cc

right_same : (s t : Tested) → parts_right s ≡ parts_right t → s ≡ t
right_same s t e = cc

same_entry : (a b : Entry) → parts a ≡ parts b → a ≡ b
same_entry (Operation o) (Operation p) e =
    let h = left_same (worked o) (worked p) e in
    ap (λ z. Operation (operation z o.left o.right)) (ap (λ t. t.0) h)
    ∙ ap (λ z. Operation (operation p.op z o.right)) (same_ℚ o.left p.left (ap (λ t. t.1) h) (ap (λ t. t.2) h))
    ∙ ap (λ z. Operation (operation p.op p.left z)) (same_ℚ o.right p.right (ap (λ t. t.3) h) (ap (λ t. t.4) h))
same_entry (Operation o) (Test b r q) e = absurd cc
same_entry (Test b r q) (Operation o) e = absurd cc
same_entry (Test b r q) (Test c s t) e =
    let h = right_same (tested b r q) (tested c s t) e in
    ap (λ z. Test z r q) (ap (λ u. u.0) h) ∙ ap (λ z. Test c z q) (ap (λ u. u.1) h) ∙ ap (λ z. Test c s z) (ap (λ u. u.2) h)

same_list : (xs ys : List Entry) → map parts xs ≡ map parts ys → xs ≡ ys
same_list [] [] e = refl
same_list [] (y ∷ ys) e = absurd cc
same_list (x ∷ xs) [] e = absurd cc
same_list (x ∷ xs) (y ∷ ys) e =
    ap (λ z. z ∷ xs) (same_entry x y (let h : parts x ≡ parts y = cc in h)) ∙ ap (λ zs. y ∷ zs) (same_list xs ys (let h : map parts xs ≡ map parts ys = cc in h))

abbrev does : Op → ℚ → ℚ → Entry
does o p q = Operation (operation o p q)

-- ---- the leaf that leaves no point: rows x ≤ 1 and x ≥ 2 with the multipliers -1 and 1

apart_list : check_list apart (Infeasible (Farkas (minus 1 ∷ n 1 ∷ []) ∷ []))
    ≡ Test true 7 1 ∷ does Mul (minus 1) (n 1) ∷ does Add (n 0) (minus 1) ∷ Test true 7 1 ∷ does Mul (n 1) (n 2) ∷ does Add (minus 1) (n 2)
    ∷ does Mul (n 1) (minus 1) ∷ does Add (n 0) (minus 1) ∷ does Mul (n 1) (n 1) ∷ does Add (minus 1) (n 1) ∷ does Sub (n 0) (n 0)
    ∷ Test true 9 1 ∷ []
unfolding ◌+ℚ◌ ◌*ℚ◌ neg_ℚ ratio gcd_of whole reciprocal place_ops dot_ops_from
apart_list = same_list _ _ refl

-- ---- with 2^127 - 1 for the second multiplier the list goes on behind the product that is past, to a side that isn't there

abbrev top : ℚ
top = n (2 ^ 127 - 1)

past_list : check_list apart (Infeasible (Farkas (minus 1 ∷ top ∷ []) ∷ []))
    ≡ Test true 7 1 ∷ does Mul (minus 1) (n 1) ∷ does Add (n 0) (minus 1) ∷ Test true 7 1 ∷ does Mul top (n 2) ∷ does Add (minus 1) (n (2 ^ 128 - 2))
    ∷ does Mul (n 1) (minus 1) ∷ does Add (n 0) (minus 1) ∷ does Mul (n 1) top ∷ does Add (minus 1) top ∷ does Sub (n 0) (n (2 ^ 127 - 2))
    ∷ Test false 7 1 ∷ Test true 9 1 ∷ []
unfolding ◌+ℚ◌ ◌*ℚ◌ neg_ℚ ratio gcd_of whole reciprocal place_ops dot_ops_from
past_list = same_list _ _ refl

-- ---- the first program, least at (2, 3) with 8 there: x^2 + 4y^2 - 32y + 64, and -4 on the row -x + 2y ≤ 4

-- the point in both rows, and in its columns
abbrev first_point : List Entry
first_point =
    does Mul (n 1) (n 2) ∷ does Add (n 0) (n 2) ∷ does Mul (n 1) (n 3) ∷ does Add (n 2) (n 3) ∷ Test true 1 1
    ∷ does Mul (minus 1) (n 2) ∷ does Add (n 0) (minus 2) ∷ does Mul (n 2) (n 3) ∷ does Add (minus 2) (n 6) ∷ Test true 1 2
    ∷ Test true 2 1 ∷ Test true 3 1 ∷ Test true 2 2 ∷ Test true 3 2 ∷ []

-- half the form at (2, 3), that is 40
abbrev first_half : List Entry
first_half =
    does Mul (n 2) (n 2) ∷ does Add (n 0) (n 4) ∷ does Mul (n 8) (n 3) ∷ does Add (n 0) (n 24)
    ∷ does Mul (n 2) (n 4) ∷ does Add (n 0) (n 8) ∷ does Mul (n 3) (n 24) ∷ does Add (n 8) (n 72) ∷ does Div (n 80) (n 2) ∷ []

-- the linear part, the sum, the constant, and the value
abbrev first_value : List Entry
first_value = does Mul (minus 32) (n 3) ∷ does Add (n 0) (minus 96) ∷ does Add (n 40) (minus 96) ∷ does Add (minus 56) (n 64) ∷ Test true 4 0 ∷ []

-- 2 x^2 and 8 y^2, and nothing at x y
abbrev first_squares : List Entry
first_squares =
    does Mul (n 2) (n 1) ∷ does Mul (n 2) (n 1) ∷ does Add (n 0) (n 2) ∷ Test true 5 1 ∷ Test true 5 1
    ∷ does Mul (n 8) (n 1) ∷ does Mul (n 8) (n 1) ∷ does Add (n 0) (n 8) ∷ Test true 5 2 ∷ []

-- the row's multiplier and high side, and the gradient (4, -8) of which the row takes all
abbrev first_sum : List Entry
first_sum =
    Test true 7 1 ∷ does Mul (minus 4) (n 4) ∷ does Add (n 0) (minus 16)
    ∷ does Mul (n 2) (n 2) ∷ does Add (n 0) (n 4) ∷ does Add (n 4) (n 0) ∷ does Mul (minus 1) (minus 4) ∷ does Add (n 0) (n 4) ∷ does Sub (n 4) (n 4)
    ∷ does Mul (n 8) (n 3) ∷ does Add (n 0) (n 24) ∷ does Add (n 24) (minus 32) ∷ does Mul (n 2) (minus 4) ∷ does Add (n 0) (minus 8) ∷ does Sub (minus 8) (minus 8) ∷ []

-- 64 - 40 - 16
abbrev first_leaf : List Entry
first_leaf = does Sub (n 64) (n 40) ∷ does Add (n 24) (minus 16) ∷ Test true 8 1 ∷ []

abbrev squares : List Square
squares = record { weight = n 2; coef = n 1 ∷ n 0 ∷ [] } ∷ record { weight = n 8; coef = n 0 ∷ n 1 ∷ [] } ∷ []

first_list : check_list first (Optimal (n 2 ∷ n 3 ∷ []) (n 8) squares (Bound (n 2 ∷ n 3 ∷ []) (n 0 ∷ minus 4 ∷ []) ∷ []))
    ≡ first_point ++ (first_half ++ (first_value ++ (first_squares ++ (first_sum ++ (first_half ++ first_leaf)))))
unfolding ◌+ℚ◌ ◌*ℚ◌ neg_ℚ ratio gcd_of whole reciprocal place_ops dot_ops_from
first_list = same_list _ _ refl
