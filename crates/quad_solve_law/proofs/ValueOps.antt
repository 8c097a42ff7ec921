-- The calculation of a value ends with the first of its operations that is past.
use Rattle.std.proofs.Common.{◌≡◌, refl, sym, ◌∙◌, ap, subst, ◌⊎◌, inl, inr, ⊎_elim, Bool, true, false, List, [], ◌∷◌, ◌++◌, ◌||◌, if◌then◌else◌}
use Rattle.std.specs.Prelude.{Result, Ok, Err}
use Rattle.std.specs.List.{All}
use Rattle.std.proofs.lemmas.List.{append_assoc, append-nil}
use Rattle.std.proofs.lemmas.List.Elements.{All-nil, All-append}
use Rattle.algebra.proofs.Polynomial.{◌⊕◌, ◌⊗◌, ◌≐◌, lit}
use Rattle.algebra.proofs.Solver.{ring}
use Rattle.rational.specs.Rational.{ℚ, zero_ℚ, ◌+ℚ◌, ◌*ℚ◌, ◌/ℚ◌}
use Rattle.rational.specs.Order.{same_fields, same_fields_lem, same_fields_self}
use Rattle.rational.specs.Vectors.{dot, rows_dot}
use Rattle.rational.proofs.Field.{rationals}
use Rattle.frac_core.specs.Parts.{max_part}
use Rattle.frac_core.specs.declared.fractions.Op.{Op}
use Rattle.frac_core.specs.declared.fractions.Op.TheVariants.{Add, Mul, Div}
use Rattle.frac_core.specs.declared.fractions.Refused.{Refused}
use Rattle.frac_core.specs.declared.fractions.Tried.{Tried}
use Rattle.frac_core.specs.declared.fractions.Tried.TheVariants.{Is, Past as PastTried}
use Rattle.frac_core.specs.Calculated.{tried, exact_of}
use Rattle.frac_core.specs.Operations.{operation, IsWithin, IsFirstPast, Tries}
use Rattle.frac_core.specs.Dot.{place_ops, dot_ops_from, dot_ops}
use Rattle.frac_core.proofs.Operations.{tries_one}
use Rattle.frac_core.proofs.Values.{tried-value}
use Rattle.rational.specs.Tests.{is_zero}
use Rattle.program_law.specs.Program.{Program}
use Rattle.program_law.proofs.Numbers.{zero_is, is_zero_zero}
use Rattle.cert_check_law.specs.declared.Event.{Event}
use Rattle.cert_check_law.specs.declared.Event.TheVariants.{Past, Failed}
use Rattle.cert_check_law.specs.Chain.{◌>>=◌, op, answered}
use Rattle.cert_check_law.specs.Dot.{with_product, dot_from, dot_of}
use Rattle.cert_check_law.specs.Value.{row_product, row_products, form_of, half_form, value_of, two}
use Rattle.quad_solve_law.specs.Operations.{product_ops, square_ops, value_ops}

-- what is said of an answer: it is the value, and no operation is past; or it is the first operation that is past; no test fails
abbrev pub Answers : {A : Type 0} → List Refused → A → Result A Event → Type 0
Answers ops v (Ok x) = All (IsWithin max_part) ops × (x ≡ v)
Answers ops v (Err (Past r)) = IsFirstPast max_part ops r
Answers ops v (Err (Failed rule place)) = ⊥

done : {A : Type 0} (v : A) → Answers [] v (Ok v)
done v = (All-nil (IsWithin max_part), refl)

after : {A : Type 0} (xs ys : List Refused) (v : A) (t : Result A Event) → All (IsWithin max_part) xs → Answers ys v t → Answers (xs ++ ys) v t
after xs ys v (Ok x) h k = (All-append (IsWithin max_part) xs ys h k.0, k.1)
after xs ys v (Err (Past r)) h k = record {
  earlier = xs ++ k.earlier;
  later = k.later;
  place = ap (λ l. xs ++ l) k.place ∙ sym (append_assoc xs k.earlier (r ∷ k.later));
  within = All-append (IsWithin max_part) xs k.earlier h k.within;
  past = k.past;
}
after xs ys v (Err (Failed rule place)) h k = k

in_turn : {A B : Type 0} (xs ys : List Refused) (v : A) (w : B) (t : Result A Event) (f : A → Result B Event) → Answers xs v t → Answers ys w (f v) → Answers (xs ++ ys) w (t >>= f)
in_turn xs ys v w (Ok x) f h k = after xs ys w (f x) h.0 (subst (λ u. Answers ys w (f u)) (sym h.1) k)
in_turn xs ys v w (Err (Past r)) f h k = record {
  earlier = h.earlier;
  later = h.later ++ ys;
  place = ap (λ l. l ++ ys) h.place ∙ append_assoc h.earlier (r ∷ h.later) ys;
  within = h.within;
  past = h.past;
}
in_turn xs ys v w (Err (Failed rule place)) f h k = h

one : (o : Op) (p q : ℚ) → Answers (operation o p q ∷ []) (exact_of o p q) (op o p q)
one o p q = by (tried o p q) (tries_one max_part o p q) (tried-value max_part o p q)
  where
    by : (t : Tried) → Tries max_part (operation o p q ∷ []) t → ((r : ℚ) → t ≡ Is r → r ≡ exact_of o p q) → Answers (operation o p q ∷ []) (exact_of o p q) (answered t)
    by (Is x) h v = (h, v x refl)
    by (PastTried r) h v = h

-- ---- products of vectors

same_test : (q : ℚ) → is_zero q ≡ same_fields q zero_ℚ
same_test q = by (is_zero q) (same_fields q zero_ℚ) (λ e. same_fields_self q zero_ℚ (zero_is q e)) (λ e. ap is_zero (same_fields_lem q zero_ℚ e) ∙ is_zero_zero)
  where
    by : (a b : Bool) → (a ≡ true → b ≡ true) → (b ≡ true → a ≡ true) → a ≡ b
    by true b f g = sym (f refl)
    by false true f g = g refl
    by false false f g = refl

unfolding_product : (s x y : ℚ) → with_product s x y ≡ (if same_fields x zero_ℚ || same_fields y zero_ℚ then Ok s else (op Mul x y >>= λ t. op Add s t))
unfolding with_product
unfolding_product s x y = ap (λ b. if b then Ok s else (op Mul x y >>= λ t. op Add s t)) (ap (λ a. a || is_zero y) (same_test x) ∙ ap (λ a. same_fields x zero_ℚ || a) (same_test y))

or_parts : (a b : Bool) → (a || b) ≡ true → (a ≡ true) ⊎ (b ≡ true)
or_parts true b e = inl refl
or_parts false b e = inr e

nothing_added : (s x y : ℚ) → (same_fields x zero_ℚ || same_fields y zero_ℚ) ≡ true → s ≡ s +ℚ x *ℚ y
nothing_added s x y e = ⊎_elim
    (λ h. ring rationals (s ∷ y ∷ []) (λ s y. s ≐ s ⊕ lit 0 ⊗ y) refl ∙ ap (λ t. s +ℚ t *ℚ y) (sym (same_fields_lem x zero_ℚ h)))
    (λ h. ring rationals (s ∷ x ∷ []) (λ s x. s ≐ s ⊕ x ⊗ lit 0) refl ∙ ap (λ t. s +ℚ x *ℚ t) (sym (same_fields_lem y zero_ℚ h)))
    (or_parts (same_fields x zero_ℚ) (same_fields y zero_ℚ) e)

place_answers : (s x y : ℚ) → Answers (place_ops s x y) (s +ℚ x *ℚ y) (with_product s x y)
unfolding place_ops
place_answers s x y = subst (Answers (place_ops s x y) (s +ℚ x *ℚ y)) (sym (unfolding_product s x y)) (by (same_fields x zero_ℚ || same_fields y zero_ℚ) refl)
  where
    by : (b : Bool) → (same_fields x zero_ℚ || same_fields y zero_ℚ) ≡ b
        → Answers (if b then [] else operation Mul x y ∷ operation Add s (x *ℚ y) ∷ []) (s +ℚ x *ℚ y) (if b then Ok s else (op Mul x y >>= λ t. op Add s t))
    by true e = (All-nil (IsWithin max_part), nothing_added s x y e)
    by false e = in_turn (operation Mul x y ∷ []) (operation Add s (x *ℚ y) ∷ []) (x *ℚ y) (s +ℚ x *ℚ y) (op Mul x y) (λ t. op Add s t) (one Mul x y) (one Add s (x *ℚ y))

moved_sum : (s p d : ℚ) → (s +ℚ p) +ℚ d ≡ s +ℚ (p +ℚ d)
moved_sum s p d = ring rationals (s ∷ p ∷ d ∷ []) (λ s p d. (s ⊕ p) ⊕ d ≐ s ⊕ (p ⊕ d)) refl

dot_answers_from : (s : ℚ) (xs ys : List ℚ) → Answers (dot_ops_from s xs ys) (s +ℚ dot xs ys) (dot_from s xs ys)
unfolding dot_ops_from
dot_answers_from s [] ys = (All-nil (IsWithin max_part), ring rationals (s ∷ []) (λ s. s ≐ s ⊕ lit 0) refl)
dot_answers_from s (x ∷ xs) [] = (All-nil (IsWithin max_part), ring rationals (s ∷ []) (λ s. s ≐ s ⊕ lit 0) refl)
dot_answers_from s (x ∷ xs) (y ∷ ys) =
    in_turn (place_ops s x y) (dot_ops_from (s +ℚ x *ℚ y) xs ys) (s +ℚ x *ℚ y) (s +ℚ dot (x ∷ xs) (y ∷ ys)) (with_product s x y) (λ t. dot_from t xs ys) (place_answers s x y)
    (subst (λ v. Answers (dot_ops_from (s +ℚ x *ℚ y) xs ys) v (dot_from (s +ℚ x *ℚ y) xs ys)) (moved_sum s (x *ℚ y) (dot xs ys)) (dot_answers_from (s +ℚ x *ℚ y) xs ys))

dot_answers : (xs ys : List ℚ) → Answers (dot_ops xs ys) (dot xs ys) (dot_of xs ys)
dot_answers xs ys = subst (λ v. Answers (dot_ops xs ys) v (dot_of xs ys)) (ring rationals (dot xs ys ∷ []) (λ d. lit 0 ⊕ d ≐ d) refl) (dot_answers_from zero_ℚ xs ys)

-- ---- the products of the rows

-- the product of each row, and 0 where the entry at its place is 0
abbrev masked : List (List ℚ) → List ℚ → List ℚ → List ℚ
masked [] xs x = []
masked (row ∷ rows) [] x = []
masked (row ∷ rows) (xj ∷ xs) x = (if same_fields xj zero_ℚ then zero_ℚ else dot row x) ∷ masked rows xs x

unfolded : (row : List ℚ) (xj : ℚ) (x : List ℚ) → row_product row xj x ≡ (if same_fields xj zero_ℚ then Ok zero_ℚ else dot_of row x)
unfolding row_product
unfolded row xj x = ap (λ b. if b then Ok zero_ℚ else dot_of row x) (same_test xj)

products_answer : (rows : List (List ℚ)) (xs x : List ℚ) → Answers (product_ops rows xs x) (masked rows xs x) (row_products rows xs x)
products_answer [] xs x = done []
products_answer (row ∷ rows) [] x = done []
products_answer (row ∷ rows) (xj ∷ xs) x =
    subst (Answers (product_ops (row ∷ rows) (xj ∷ xs) x) (masked (row ∷ rows) (xj ∷ xs) x)) (sym (ap (λ r. r >>= λ t. row_products rows xs x >>= λ ts. Ok (t ∷ ts)) (unfolded row xj x))) (by (same_fields xj zero_ℚ) (products_answer rows xs x))
  where
    rest : (t : ℚ) → Answers (product_ops rows xs x) (masked rows xs x) (row_products rows xs x) → Answers (product_ops rows xs x) (t ∷ masked rows xs x) (row_products rows xs x >>= λ ts. Ok (t ∷ ts))
    rest t h = subst (λ l. Answers l (t ∷ masked rows xs x) (row_products rows xs x >>= λ ts. Ok (t ∷ ts))) (append-nil (product_ops rows xs x))
        (in_turn (product_ops rows xs x) [] (masked rows xs x) (t ∷ masked rows xs x) (row_products rows xs x) (λ ts. Ok (t ∷ ts)) h (done (t ∷ masked rows xs x)))

    by : (b : Bool) → Answers (product_ops rows xs x) (masked rows xs x) (row_products rows xs x)
        → Answers (if b then product_ops rows xs x else dot_ops row x ++ product_ops rows xs x) ((if b then zero_ℚ else dot row x) ∷ masked rows xs x)
        ((if b then Ok zero_ℚ else dot_of row x) >>= λ t. row_products rows xs x >>= λ ts. Ok (t ∷ ts))
    by true h = rest zero_ℚ h
    by false h = in_turn (dot_ops row x) (product_ops rows xs x) (dot row x) (dot row x ∷ masked rows xs x) (dot_of row x) (λ t. row_products rows xs x >>= λ ts. Ok (t ∷ ts)) (dot_answers row x) (rest (dot row x) h)

-- where an entry is 0 it doesn't matter what stands there
same_place : (s x y : ℚ) → place_ops s x (if same_fields x zero_ℚ then zero_ℚ else y) ≡ place_ops s x y
unfolding place_ops
same_place s x y = by (same_fields x zero_ℚ)
  where
    by : (b : Bool) → (if b || same_fields (if b then zero_ℚ else y) zero_ℚ then [] else operation Mul x (if b then zero_ℚ else y) ∷ operation Add s (x *ℚ (if b then zero_ℚ else y)) ∷ [])
        ≡ (if b || same_fields y zero_ℚ then [] else operation Mul x y ∷ operation Add s (x *ℚ y) ∷ [])
    by true = refl
    by false = refl

same_product : (x y : ℚ) → x *ℚ (if same_fields x zero_ℚ then zero_ℚ else y) ≡ x *ℚ y
same_product x y = by (same_fields x zero_ℚ) refl
  where
    by : (b : Bool) → same_fields x zero_ℚ ≡ b → x *ℚ (if b then zero_ℚ else y) ≡ x *ℚ y
    by true e = ap (λ t. t *ℚ zero_ℚ) (same_fields_lem x zero_ℚ e) ∙ ring rationals (y ∷ []) (λ y. lit 0 ⊗ lit 0 ≐ lit 0 ⊗ y) refl ∙ ap (λ t. t *ℚ y) (sym (same_fields_lem x zero_ℚ e))
    by false e = refl

masked_ops : (s : ℚ) (rows : List (List ℚ)) (xs x : List ℚ) → dot_ops_from s xs (masked rows xs x) ≡ dot_ops_from s xs (rows_dot rows x)
unfolding dot_ops_from
masked_ops s [] xs x = refl
masked_ops s (row ∷ rows) [] x = refl
masked_ops s (row ∷ rows) (xj ∷ xs) x =
    ap (λ l. l ++ dot_ops_from (s +ℚ xj *ℚ (if same_fields xj zero_ℚ then zero_ℚ else dot row x)) xs (masked rows xs x)) (same_place s xj (dot row x))
    ∙ ap (λ t. place_ops s xj (dot row x) ++ dot_ops_from (s +ℚ t) xs (masked rows xs x)) (same_product xj (dot row x))
    ∙ ap (λ l. place_ops s xj (dot row x) ++ l) (masked_ops (s +ℚ xj *ℚ dot row x) rows xs x)

masked_dot : (rows : List (List ℚ)) (xs x : List ℚ) → dot xs (masked rows xs x) ≡ dot xs (rows_dot rows x)
masked_dot [] xs x = refl
masked_dot (row ∷ rows) [] x = refl
masked_dot (row ∷ rows) (xj ∷ xs) x = ap (λ t. t +ℚ dot xs (masked rows xs x)) (same_product xj (dot row x)) ∙ ap (λ t. xj *ℚ dot row x +ℚ t) (masked_dot rows xs x)

pub square_answers : (Q : List (List ℚ)) (x : List ℚ) → Answers (square_ops Q x) (dot x (rows_dot Q x)) (form_of Q x)
unfolding form_of
square_answers Q x =
    in_turn (product_ops Q x x) (dot_ops x (rows_dot Q x)) (masked Q x x) (dot x (rows_dot Q x)) (row_products Q x x) (λ t. dot_of x t) (products_answer Q x x)
    (subst (λ v. Answers (dot_ops x (rows_dot Q x)) v (dot_of x (masked Q x x))) (masked_dot Q x x)
    (subst (λ l. Answers l (dot x (masked Q x x)) (dot_of x (masked Q x x))) (masked_ops zero_ℚ Q x x) (dot_answers x (masked Q x x))))

-- ---- the value

pub value_answers : (p : Program) (x : List ℚ) → Answers (value_ops p x) ((dot x (rows_dot p.pairs x) /ℚ two +ℚ dot p.costs x) +ℚ p.constant) (value_of p x)
unfolding value_of half_form
value_answers p x =
    let h = dot x (rows_dot p.pairs x) in
    let half = h /ℚ two in
    let linear = dot p.costs x in
    let last = operation Add half linear ∷ operation Add (half +ℚ linear) p.constant ∷ [] in
    subst (λ l. Answers l ((half +ℚ linear) +ℚ p.constant) (value_of p x)) (append_assoc (square_ops p.pairs x) (operation Div h two ∷ []) (dot_ops p.costs x ++ last))
    (in_turn (square_ops p.pairs x ++ operation Div h two ∷ []) (dot_ops p.costs x ++ last) half ((half +ℚ linear) +ℚ p.constant) (half_form p.pairs x)
    (λ half. dot_of p.costs x >>= λ linear. op Add half linear >>= λ s. op Add s p.constant)
    (in_turn (square_ops p.pairs x) (operation Div h two ∷ []) h half (form_of p.pairs x) (λ h. op Div h two) (square_answers p.pairs x) (one Div h two))
    (in_turn (dot_ops p.costs x) last linear ((half +ℚ linear) +ℚ p.constant) (dot_of p.costs x) (λ linear. op Add half linear >>= λ s. op Add s p.constant) (dot_answers p.costs x)
    (in_turn (operation Add half linear ∷ []) (operation Add (half +ℚ linear) p.constant ∷ []) (half +ℚ linear) ((half +ℚ linear) +ℚ p.constant) (op Add half linear) (λ s. op Add s p.constant)
    (one Add half linear) (one Add (half +ℚ linear) p.constant))))

pub all_within : (p : Program) (x : List ℚ) (v : ℚ) → value_of p x ≡ Ok v → All (IsWithin max_part) (value_ops p x)
all_within p x v e = (subst (Answers (value_ops p x) ((dot x (rows_dot p.pairs x) /ℚ two +ℚ dot p.costs x) +ℚ p.constant)) e (value_answers p x)).0

pub first_refusal : (p : Program) (x : List ℚ) (e : Event) → value_of p x ≡ Err e → (r : Refused) × (e ≡ Past r) × IsFirstPast max_part (value_ops p x) r
first_refusal p x e s = by e (subst (Answers (value_ops p x) ((dot x (rows_dot p.pairs x) /ℚ two +ℚ dot p.costs x) +ℚ p.constant)) s (value_answers p x))
  where
    by : (e : Event) → Answers (value_ops p x) ((dot x (rows_dot p.pairs x) /ℚ two +ℚ dot p.costs x) +ℚ p.constant) (Err e) → (r : Refused) × (e ≡ Past r) × IsFirstPast max_part (value_ops p x) r
    by (Past r) h = (r, refl, h)
    by (Failed rule place) h = absurd h
