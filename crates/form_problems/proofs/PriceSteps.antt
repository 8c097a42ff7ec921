-- The direction of a price step, its curvature and its length, place after place; and the multipliers.
use Rattle.std.proofs.Common.{◌≡◌, refl, sym, subst, ap, ◌∙◌, ℕ, zero, suc, ◌+◌, ◌<◌, ◌≤◌, ◌⊎◌, inl, inr, Bool, true, false, Option, Some, None, List, [], ◌∷◌, ◌++◌, length, map, take, drop, slice_get, arith, add-one, append_assoc}
use Rattle.std.specs.Prelude.{if◌then◌else◌, pos, replicate, slice_index_or, Result, Ok, Err, IfOk, IfErr}
use Rattle.std.specs.Option.{option_map}
use Rattle.std.proofs.lemmas.List.{drop-drop, length-drop, length-map, length-replicate, take_all}
use Rattle.std.proofs.lemmas.Option.{get_or_from_slice_get, slice_get-map}
use Rattle.algebra.proofs.Polynomial.{◌⊕◌, ◌⊗◌, ◌≐◌, minus, lit}
use Rattle.algebra.proofs.Certificate.{prove, scaled, ◌⇐◌}
use Rattle.rational.specs.Rational.{ℚ, zero_ℚ, one_ℚ, neg_ℚ, reciprocal, ◌-ℚ◌, ◌/ℚ◌}
use Rattle.rational.specs.Order.{◌<ℚ◌, same_fields, same_fields_lem}
use Rattle.rational.specs.Sums.{entry}
use Rattle.rational.specs.Vectors.{dot, put_at, rows_dot, IsSemidefinite}
use Rattle.rational.proofs.Order.{ordered_rationals, lt_irrefl}
use Rattle.rational.proofs.Wholes.{num-ne_of_ne}
use Rattle.frac_core.specs.declared.fractions.Op.TheVariants.{Div, Sub}
use Rattle.frac_core.specs.declared.fractions.Refused.{Refused}
use Rattle.frac_core.specs.declared.fractions.Tried.TheVariants.{Is, Past}
use Rattle.frac_core.specs.Calculated.{tried_in}
use Rattle.frac_core.specs.Dot.{dot_step, dot_from, dot_of, dot_ops, IsAnswer}
use Rattle.frac_core.specs.Operations.{operation}
use Rattle.frac_core.specs.Parts.{max_part}
use Rattle.frac_core.proofs.Dots.{dot_done, dot_goes, dot_past, dot_stops}
use Rattle.frac_core.proofs.Operations.{one_past, past_left, past_right}
use Rattle.frac_core.proofs.Values.{dot_of-value, tried-value}
use Rattle.exact_matrix.specs.declared.systems.Stop.{Stop}
use Rattle.exact_matrix.specs.declared.systems.Stop.TheVariants as stops
use Rattle.linear_basis_law.specs.Problem as linear
use Rattle.equational_law.specs.Form.{Form}
use Rattle.equational_law.specs.Solutions.{IsForm, IsFormRay, IsSolution}
use Rattle.face_descent_law.specs.Small.{support, support_from, IsStationary}
use Rattle.face_descent_law.specs.Step.{moved}
use Rattle.face_descent_law.specs.Operations.{capped_ops, move_ops, nearer, nearest_zero, sum_ops, sum_ops_to, zero_ops}
use Rattle.frac_core.specs.Operations.{IsPastOf}
use Rattle.exact_matrix.specs.Stops.{IsStopIn}
use Rattle.face_descent.specs.Parts.{spread}
use Rattle.face_descent.proofs.Directions.{spread_is, spread_split, support_split}
use Rattle.face_descent.proofs.Lists.{add_get, drop_next, rows_dot_get, set_end}
use Rattle.quad_solve_law.specs.Operations.{direction_ops, less_ops, multiplier_ops, price_length, price_move_ops, price_ops, product_ops, square_ops}
use Rattle.quad_solve_law.specs.Problems.{difference, direction, last_number, price_multipliers, price_problem}
use Rattle.quad_solve_law.specs.Steps.{curvature, LeadsDown, IsPriceStep}
use Rattle.quad_solve_law.specs.Walk.{IsPriced, IsSolved}
use Rattle.quad_solve_law.proofs.Counts.{price_height}
use Rattle.quad_solve_law.proofs.Descents.{solution_leads_down}
use Rattle.quad_solve_law.proofs.Doubled.{length-difference}
use Rattle.quad_solve_law.proofs.Lengths.{length_is, some_step}
use Rattle.quad_solve_law.proofs.Moves.{step_solves}
use Rattle.quad_solve_law.proofs.Refuted.{last_below, multipliers_optimal}

-- ---- one difference

pub nothing_less : (p n : ℚ) → same_fields n zero_ℚ ≡ true → p ≡ p -ℚ n
nothing_less p n h = prove ordered_rationals (p ∷ n ∷ []) (λ p n. p ≐ p ⊕ minus n ⇐ scaled (lit 1) n (lit 0)) refl (same_fields_lem n zero_ℚ h)

pub less_is : (p n : ℚ) (answer : Result ℚ Refused) → IsAnswer (λ q. q) answer (tried_in max_part Sub p n) → IfOk answer (λ q. q ≡ p -ℚ n)
less_is p n (Ok q) h = tried-value max_part Sub p n q h
less_is p n (Err r) h = tt

pub less_stops : (p n : ℚ) (answer : Result ℚ Refused) → IsAnswer (λ q. q) answer (tried_in max_part Sub p n) → IfErr answer (IsPastOf (operation Sub p n ∷ []))
less_stops p n (Ok q) h = tt
less_stops p n (Err r) h = one_past Sub p n r h

-- ---- the part of a place

pub no_part : (y : ℚ) (x : List ℚ) (k : ℕ) (q : ℚ) → same_fields y zero_ℚ ≡ true → q ≡ zero_ℚ → q ≡ entry (spread (y ∷ []) (drop k x)) 0
no_part y x k q h e = rw h e

pub part_room : (y : ℚ) (k m : ℕ) → same_fields y zero_ℚ ≡ false → k + length (support (y ∷ [])) ≤ m → k < m
part_room y k m h e = let one : length (support (y ∷ [])) ≡ 1 = rw h refl in omega (arith, one, e)

pub some_part : (y : ℚ) (x : List ℚ) (k : ℕ) (q : ℚ) → same_fields y zero_ℚ ≡ false → slice_get x k ≡ Some q → q ≡ entry (spread (y ∷ []) (drop k x)) 0
some_part y x k q h e = rw h (sym (ap (λ u. entry u 0) (drop_next x k q e)))

pub no_parts : (y : ℚ) → same_fields y zero_ℚ ≡ true → 0 ≡ length (support (y ∷ []))
no_parts y h = rw h refl

pub one_part : (y : ℚ) → same_fields y zero_ℚ ≡ false → 1 ≡ length (support (y ∷ []))
one_part y h = rw h refl

-- ---- the direction

-- the numbers of the second kind of columns, each at its place
abbrev pub negative : List ℚ → List ℚ → List ℚ
negative z x = put_at (length z) (support z) (drop (length z) x)

pub put_is : (z x : List ℚ) → length x ≡ length z + length (support z) → negative z x ≡ spread z (drop (length z) x)
put_is z x h =
    let size : length (drop (length z) x) ≡ length (support z) = omega (arith, h, length-drop (length z) x) in
    ap (put_at (length z) (support z)) (sym (take_all (length (support z)) (drop (length z) x) (omega (arith, size))))
    ∙ sym (spread_is z (drop (length z) x) (omega (arith, size)))

pub rest_first : (z x : List ℚ) (k : ℕ) → k ≡ length z → length x ≡ length z + length (support z) → negative z x ≡ spread z (drop k x)
rest_first z x k e h = put_is z x h ∙ ap (λ k. spread z (drop k x)) (sym e)

pub room_first : (z x : List ℚ) (k : ℕ) → k ≡ length z → length x ≡ length z + length (support z) → k + length (support z) ≡ length x
room_first z x k e h = omega (arith, e, h)

one_number : (y : ℚ) (u : List ℚ) → spread (y ∷ []) u ≡ entry (spread (y ∷ []) u) 0 ∷ []
one_number y u = by (same_fields y zero_ℚ)
  where
    by : (b : Bool) → (if b then zero_ℚ ∷ [] else entry u 0 ∷ []) ≡ entry (if b then zero_ℚ ∷ [] else entry u 0 ∷ []) 0 ∷ []
    by true = refl
    by false = refl

get_of_drop : {X : Type 0} (xs : List X) (j : ℕ) (x : X) (rest : List X) → drop j xs ≡ x ∷ rest → slice_get xs j ≡ Some x
get_of_drop [] zero x rest e = absurd cc
get_of_drop [] (suc j) x rest e = absurd cc
get_of_drop (y ∷ xs) zero x rest e = let f : y ≡ x = cc in ap Some f
get_of_drop (y ∷ xs) (suc j) x rest e = get_of_drop xs j x rest e

rest_of_drop : {X : Type 0} (xs : List X) (j : ℕ) (x : X) (rest : List X) → drop j xs ≡ x ∷ rest → drop (j + 1) xs ≡ rest
rest_of_drop {X} xs j x rest e = rw add-one (by xs j e)
  where
    by : (xs : List X) (j : ℕ) → drop j xs ≡ x ∷ rest → drop (suc j) xs ≡ rest
    by [] zero e = absurd cc
    by [] (suc j) e = absurd cc
    by (y ∷ xs) zero e = cc
    by (y ∷ xs) (suc j) e = by xs j e

take_get : (n : ℕ) (u : List ℚ) (j : ℕ) (x : ℚ) → j < n → slice_get u j ≡ Some x → slice_get (take n u) j ≡ Some x
take_get zero u j x h e = absurd (omega arith)
take_get (suc n) [] j x h e = absurd cc
take_get (suc n) (y ∷ u) zero x h e = e
take_get (suc n) (y ∷ u) (suc j) x h e = take_get n u j x (omega arith) e

less_past : (u v : List ℚ) (j : ℕ) (p n : ℚ) (r : Refused) → slice_get u j ≡ Some p → slice_get v j ≡ Some n → IsPastOf (operation Sub p n ∷ []) r → IsPastOf (less_ops u v) r
less_past [] v j p n r h k e = absurd cc
less_past (a ∷ u) [] j p n r h k e = absurd cc
less_past (a ∷ u) (b ∷ v) zero p n r h k e =
    let f : a ≡ p = cc in let g : b ≡ n = cc in
    past_left (operation Sub a b ∷ []) (less_ops u v) r (subst (λ b. IsPastOf (operation Sub a b ∷ []) r) (sym g) (subst (λ a. IsPastOf (operation Sub a n ∷ []) r) (sym f) e))
less_past (a ∷ u) (b ∷ v) (suc j) p n r h k e = past_right (operation Sub a b ∷ []) (less_ops u v) r (less_past u v j p n r h k e)

module _ (z x : List ℚ) (j k : ℕ) (y : ℚ) (here : slice_get z j ≡ Some y) (room : k + length (support_from j (drop j z)) ≡ length x) where
  counted : length (support_from j (drop j z)) ≡ length (support (y ∷ [])) + length (support_from (j + 1) (drop (j + 1) z))
  counted = ap (λ u. length (support_from j u)) (drop_next z j y here) ∙ support_split j y (drop (j + 1) z)

  pub part_fits : k + length (support (y ∷ [])) ≤ length x
  part_fits = omega (arith, room, counted)

  pub next_fits : (c m : ℕ) → c ≡ length (support (y ∷ [])) → m ≡ length x → k + c ≤ m
  next_fits c m e size = omega (arith, room, counted, e, size)

  pub room_next : (c : ℕ) → c ≡ length (support (y ∷ [])) → (k + c) + length (support_from (j + 1) (drop (j + 1) z)) ≡ length x
  room_next c e = omega (arith, room, counted, e)

  module _ (rest : drop j (negative z x) ≡ spread (drop j z) (drop k x)) where
    rest_is : drop j (negative z x) ≡ entry (spread (y ∷ []) (drop k x)) 0 ∷ spread (drop (j + 1) z) (drop (k + length (support (y ∷ []))) x)
    rest_is =
        rest ∙ ap (λ u. spread u (drop k x)) (drop_next z j y here) ∙ spread_split y (drop (j + 1) z) (drop k x)
        ∙ ap (λ u. u ++ spread (drop (j + 1) z) (drop (length (support (y ∷ []))) (drop k x))) (one_number y (drop k x))
        ∙ ap (λ u. entry (spread (y ∷ []) (drop k x)) 0 ∷ spread (drop (j + 1) z) u) (drop-drop (length (support (y ∷ []))) k x)

    part_get : slice_get (negative z x) j ≡ Some (entry (spread (y ∷ []) (drop k x)) 0)
    part_get = get_of_drop (negative z x) j _ _ rest_is

    pub rest_next : (c : ℕ) → c ≡ length (support (y ∷ [])) → drop (j + 1) (negative z x) ≡ spread (drop (j + 1) z) (drop (k + c) x)
    rest_next c e = rest_of_drop (negative z x) j _ _ rest_is ∙ ap (λ c. spread (drop (j + 1) z) (drop (k + c) x)) (sym e)

    module _ (p n : ℚ) (there : slice_get x j ≡ Some p) (part : n ≡ entry (spread (y ∷ []) (drop k x)) 0) (within : j < length z) where
      pub difference_get : (q : ℚ) → q ≡ p -ℚ n → slice_get (difference (length z) (support z) x) j ≡ Some q
      difference_get q e =
          add_get (take (length z) x) (map neg_ℚ (negative z x)) j p (neg_ℚ (entry (spread (y ∷ []) (drop k x)) 0)) (take_get (length z) x j p within there)
          (slice_get-map neg_ℚ (negative z x) j ∙ ap (option_map neg_ℚ) part_get)
          ∙ ap (λ (q : ℚ). Some q) (sym (e ∙ ap (λ n. p -ℚ n) part))

      pub difference_past : (r : Refused) → IsPastOf (operation Sub p n ∷ []) r → IsPastOf (less_ops (take (length z) x) (negative z x)) r
      difference_past r h =
          less_past (take (length z) x) (negative z x) j p (entry (spread (y ∷ []) (drop k x)) 0) r (take_get (length z) x j p within there) part_get
          (subst (λ n. IsPastOf (operation Sub p n ∷ []) r) part h)

pub difference_end : (z x d : List ℚ) (j : ℕ) → length x ≡ length z + length (support z) → length d ≡ length z → length z ≤ j → take j d ≡ take j (difference (length z) (support z) x) → d ≡ difference (length z) (support z) x
difference_end z x d j h e l s =
    let size = length-difference (length z) (support z) x (omega (arith, h)) in
    set_end (difference (length z) (support z) x) d j (e ∙ sym size) (omega (arith, size, l)) s

-- ---- the curvature

pub row_past : (row d : List ℚ) (own : ℚ) (r : Refused) → same_fields own zero_ℚ ≡ false → dot_of max_part row d ≡ Past r → IsPastOf (product_ops (row ∷ []) (own ∷ []) d) r
row_past row d own r h e = rw h (past_left (dot_ops row d) [] r (dot_past row d r e))

pub row_value : (row d : List ℚ) (total own q : ℚ) (answer : Result ℚ Refused) → dot_of max_part row d ≡ Is q → IsAnswer (λ q. q) answer (dot_step max_part total own q) →
    IfOk answer (λ t. dot_step max_part total own (dot row d) ≡ Is t)
row_value row d total own q (Ok t) e h = ap (dot_step max_part total own) (sym (dot_of-value max_part row d q e)) ∙ h
row_value row d total own q (Err r) e h = tt

pub row_stops : (row d : List ℚ) (total own q : ℚ) (answer : Result ℚ Refused) → dot_of max_part row d ≡ Is q → IsAnswer (λ q. q) answer (dot_step max_part total own q) →
    IfErr answer (λ r. IsPastOf (product_ops (row ∷ []) (own ∷ []) d) r ⊎ (dot_step max_part total own (dot row d) ≡ Past r))
row_stops row d total own q (Ok t) e h = tt
row_stops row d total own q (Err r) e h = inr (ap (dot_step max_part total own) (sym (dot_of-value max_part row d q e)) ∙ h)

products_past : (Q : List (List ℚ)) (xs x row : List ℚ) (j : ℕ) (own : ℚ) (r : Refused) → j < length Q → row ≡ slice_index_or Q j [] → slice_get xs j ≡ Some own → IsPastOf (product_ops (row ∷ []) (own ∷ []) x) r →
    IsPastOf (product_ops Q xs x) r
products_past [] xs x row j own r h e g p = absurd (omega arith)
products_past (u ∷ Q) [] x row j own r h e g p = absurd cc
products_past (u ∷ Q) (a ∷ xs) x row j own r h e g p = subst (λ l. IsPastOf l r) (sym (split (same_fields a zero_ℚ))) (by j h e g (λ i l f k. products_past Q xs x row i own r l f k p))
  where
    split : (b : Bool) → (if b then product_ops Q xs x else dot_ops u x ++ product_ops Q xs x) ≡ (if b then [] else dot_ops u x ++ []) ++ product_ops Q xs x
    split true = refl
    split false = sym (append_assoc (dot_ops u x) [] (product_ops Q xs x))

    by : (j : ℕ) → j < suc (length Q) → row ≡ slice_index_or (u ∷ Q) j [] → slice_get (a ∷ xs) j ≡ Some own →
        ((i : ℕ) → i < length Q → row ≡ slice_index_or Q i [] → slice_get xs i ≡ Some own → IsPastOf (product_ops Q xs x) r) → IsPastOf (product_ops (u ∷ []) (a ∷ []) x ++ product_ops Q xs x) r
    by zero h e g later =
        let f : a ≡ own = cc in
        past_left (product_ops (u ∷ []) (a ∷ []) x) (product_ops Q xs x) r
        (subst (λ a. IsPastOf (product_ops (u ∷ []) (a ∷ []) x) r) (sym f) (subst (λ row. IsPastOf (product_ops (row ∷ []) (own ∷ []) x) r) e p))
    by (suc j) h e g later = past_right (product_ops (u ∷ []) (a ∷ []) x) (product_ops Q xs x) r (later j (omega arith) e g)

module _ (Q rows : List (List ℚ)) (d : List ℚ) (j : ℕ) (total : ℚ) (same : rows ≡ Q) (high : length Q ≡ length d)
    (goes : dot_from max_part total (drop j d) (drop j (rows_dot Q d)) ≡ dot_of max_part d (rows_dot Q d)) where
  module _ (row : List ℚ) (own : ℚ) (within : j < length d) (there : row ≡ slice_index_or rows j []) (here : slice_get d j ≡ Some own) where
    row_there : row ≡ slice_index_or Q j []
    row_there = there ∙ ap (λ rows. slice_index_or rows j []) same

    product_there : slice_get (rows_dot Q d) j ≡ Some (dot row d)
    product_there = rows_dot_get Q d j (omega (arith, within, high)) ∙ ap (λ row. Some (dot row d)) (sym row_there)

    pub curvature_next : (t : ℚ) → dot_step max_part total own (dot row d) ≡ Is t → dot_from max_part t (drop (j + 1) d) (drop (j + 1) (rows_dot Q d)) ≡ dot_of max_part d (rows_dot Q d)
    curvature_next t e = dot_goes max_part d (rows_dot Q d) j total goes own (dot row d) t here product_there e

    pub curvature_past : (r : Refused) → IsPastOf (product_ops (row ∷ []) (own ∷ []) d) r ⊎ (dot_step max_part total own (dot row d) ≡ Past r) → IsPastOf (square_ops Q d) r
    curvature_past r (inl p) = past_left (product_ops Q d d) (dot_ops d (rows_dot Q d)) r (products_past Q d d row j own r (omega (arith, within, high)) row_there here p)
    curvature_past r (inr e) =
        past_right (product_ops Q d d) (dot_ops d (rows_dot Q d)) r (dot_past d (rows_dot Q d) r (dot_stops max_part d (rows_dot Q d) j total goes own (dot row d) r here product_there e))

  pub curvature_end : length d ≤ j → total ≡ dot d (rows_dot Q d)
  curvature_end h = dot_of-value max_part d (rows_dot Q d) total (dot_done max_part d (rows_dot Q d) j total goes h)

-- ---- how far

pub zero_missing : (h : ℚ) (z d : List ℚ) (o : Option ℚ) → (s : ℚ) × (price_length h z d ≡ Some s) → same_fields h zero_ℚ ≡ true → o ≡ nearest_zero z d → o ≡ None → ⊥
zero_missing h z d o some flat e n =
    let there : nearest_zero z d ≡ Some some.0 = by (same_fields h zero_ℚ) flat some.1 in
    absurd (let bad : None ≡ Some some.0 = sym n ∙ e ∙ there in cc)
  where
    by : (b : Bool) → b ≡ true → (if b then nearest_zero z d else Some (nearer (one_ℚ /ℚ h) (nearest_zero z d))) ≡ Some some.0 → nearest_zero z d ≡ Some some.0
    by true f k = k
    by false f k = absurd cc

pub flat_length : (h s : ℚ) (z d : List ℚ) (o : Option ℚ) → same_fields h zero_ℚ ≡ true → o ≡ nearest_zero z d → o ≡ Some s → price_length h z d ≡ Some s
flat_length h s z d o flat e k = rw flat (sym e ∙ k)

pub bent_length : (h one m s : ℚ) (z d : List ℚ) (o : Option ℚ) → same_fields h zero_ℚ ≡ false → one ≡ one_ℚ → tried_in max_part Div one h ≡ Is m → o ≡ nearest_zero z d → s ≡ nearer m o → price_length h z d ≡ Some s
bent_length h one m s z d o bent u t e k =
    let minimum : m ≡ one_ℚ /ℚ h = tried-value max_part Div one h m t ∙ ap (λ one. one /ℚ h) u in
    rw bent (ap (λ (s : ℚ). Some s) (sym (k ∙ ap (λ m. nearer m o) minimum ∙ ap (nearer (one_ℚ /ℚ h)) e)))

bent_ops : (h : ℚ) (z d : List ℚ) → same_fields h zero_ℚ ≡ false → price_move_ops h z d ≡ operation Div one_ℚ h ∷ capped_ops (one_ℚ /ℚ h) z d
bent_ops h z d bent = rw bent refl

flat_ops : (h : ℚ) (z d : List ℚ) → same_fields h zero_ℚ ≡ true → price_move_ops h z d ≡ move_ops z d
flat_ops h z d flat = rw flat refl

pub zero_past : (h : ℚ) (z d : List ℚ) (r : Refused) → IsPastOf (zero_ops z d) r → IsPastOf (price_move_ops h z d) r
zero_past h z d r p = by (same_fields h zero_ℚ) refl
  where
    by : (b : Bool) → same_fields h zero_ℚ ≡ b → IsPastOf (price_move_ops h z d) r
    by true flat = subst (λ l. IsPastOf l r) (sym (flat_ops h z d flat)) (past_left (zero_ops z d) (sum_ops_to (nearest_zero z d) z d) r p)
    by false bent = subst (λ l. IsPastOf l r) (sym (bent_ops h z d bent))
        (past_right (operation Div one_ℚ h ∷ []) (capped_ops (one_ℚ /ℚ h) z d) r (past_left (zero_ops z d) (sum_ops (nearer (one_ℚ /ℚ h) (nearest_zero z d)) z d) r p))

pub minimum_past : (h one : ℚ) (z d : List ℚ) (r : Refused) → same_fields h zero_ℚ ≡ false → one ≡ one_ℚ → tried_in max_part Div one h ≡ Past r → IsPastOf (price_move_ops h z d) r
minimum_past h one z d r bent u e =
    subst (λ l. IsPastOf l r) (sym (bent_ops h z d bent))
    (past_left (operation Div one_ℚ h ∷ []) (capped_ops (one_ℚ /ℚ h) z d) r (one_past Div one_ℚ h r (ap (λ one. tried_in max_part Div one h) (sym u) ∙ e)))

some_same : (s t : ℚ) → Some s ≡ Some t → s ≡ t
some_same s t e = cc

sums_past : (h s : ℚ) (z d : List ℚ) (r : Refused) → price_length h z d ≡ Some s → IsPastOf (sum_ops s z d) r → IsPastOf (price_move_ops h z d) r
sums_past h s z d r e p = by (same_fields h zero_ℚ) refl e
  where
    by : (b : Bool) → same_fields h zero_ℚ ≡ b → (if b then nearest_zero z d else Some (nearer (one_ℚ /ℚ h) (nearest_zero z d))) ≡ Some s → IsPastOf (price_move_ops h z d) r
    by true flat e = subst (λ l. IsPastOf l r) (sym (flat_ops h z d flat))
        (past_right (zero_ops z d) (sum_ops_to (nearest_zero z d) z d) r (subst (λ o. IsPastOf (sum_ops_to o z d) r) (sym e) p))
    by false bent e = subst (λ l. IsPastOf l r) (sym (bent_ops h z d bent))
        (past_right (operation Div one_ℚ h ∷ []) (capped_ops (one_ℚ /ℚ h) z d) r
        (past_right (zero_ops z d) (sum_ops (nearer (one_ℚ /ℚ h) (nearest_zero z d)) z d) r (subst (λ s. IsPastOf (sum_ops s z d) r) (sym (some_same (nearer (one_ℚ /ℚ h) (nearest_zero z d)) s e)) p)))

-- ---- along a direction

abbrev along_ops : Form → List ℚ → List ℚ → List Refused
along_ops f z d = square_ops f.quadratic d ++ price_move_ops (curvature f d) z d

-- the point to which d leads from z
abbrev Leads : Form → List ℚ → List ℚ → List ℚ → Type 0
Leads f z d next = (s : ℚ) × (price_length (curvature f d) z d ≡ Some s) × (next ≡ moved z d s)

module _ (f : Form) (z d : List ℚ) where
  pub curvature_stops : (r : Refused) → IsPastOf (square_ops f.quadratic d) r → IsPastOf (along_ops f z d) r
  curvature_stops r p = past_left (square_ops f.quadratic d) (price_move_ops (curvature f d) z d) r p

  pub length_known : (h : ℚ) → h ≡ curvature f d → (s : ℚ) × (price_length (curvature f d) z d ≡ Some s) → (s : ℚ) × (price_length h z d ≡ Some s)
  length_known h e some = (some.0, ap (λ h. price_length h z d) e ∙ some.1)

  pub move_stops : (h : ℚ) (r : Refused) → h ≡ curvature f d → IsPastOf (price_move_ops h z d) r → IsPastOf (along_ops f z d) r
  move_stops h r e p =
      past_right (square_ops f.quadratic d) (price_move_ops (curvature f d) z d) r (subst (λ h. IsPastOf (price_move_ops h z d) r) e p)

  pub sums_stop : {A : Type 0} (h s : ℚ) (answer : Result A Stop) → h ≡ curvature f d → price_length h z d ≡ Some s → IfErr answer (IsStopIn (sum_ops s z d)) → IfErr answer (IsStopIn (along_ops f z d))
  sums_stop h s (Ok next) e k p = tt
  sums_stop h s (Err stops.Memory) e k p = tt
  sums_stop h s (Err (stops.Past r)) e k p = move_stops h r e (sums_past h s z d r k p)

  pub leads : {E : Type 0} (h s : ℚ) (answer : Result (List ℚ) E) → h ≡ curvature f d → price_length h z d ≡ Some s → IfOk answer (λ next. next ≡ moved z d s) → IfOk answer (Leads f z d)
  leads h s (Ok next) e k m = (s, ap (λ h. price_length h z d) (sym e) ∙ k, m)
  leads h s (Err stop) e k m = tt

-- ---- the step

pub parts_count : (f : Form) (z x : List ℚ) → length z ≡ length f.cost → linear.IsSolution (price_problem f z) x → length x ≡ length z + length (support z)
parts_count f z x wide h = h.size ∙ ap (λ n. n + length (support z)) (sym wide)

module _ (f : Form) (z x d : List ℚ) (is : IsForm (length f.cost) f) (at : IsSolution f z) (made : d ≡ difference (length z) (support z) x) where
  way : d ≡ direction f z x
  way = made ∙ ap (λ n. difference n (support z) x) at.width

  pub way_size : linear.IsSolution (price_problem f z) x → length d ≡ length f.cost
  way_size h = ap length way ∙ (solution_leads_down (length f.cost) f z x is at h).size

  pub along_stops : {A : Type 0} (answer : Result A Stop) → IfErr answer (IsStopIn (along_ops f z d)) → IfErr answer (IsStopIn (price_ops f z x))
  along_stops (Ok next) p = tt
  along_stops (Err stops.Memory) p = tt
  along_stops (Err (stops.Past r)) p = past_right (direction_ops f z x) (along_ops f z (direction f z x)) r (subst (λ d. IsPastOf (along_ops f z d) r) way p)

  module _ (semi : IsSemidefinite (length f.cost) f.quadratic) (solves : linear.IsSolution (price_problem f z) x) where
    down : LeadsDown f z d
    down = subst (LeadsDown f z) (sym way) (solution_leads_down (length f.cost) f z x is at solves)

    pub some_length : ((d : List ℚ) → ¬ (IsFormRay f d)) → (s : ℚ) × (price_length (curvature f d) z d ≡ Some s)
    some_length none =
        let there = some_step (length f.cost) f z d is semi at down (none d) in
        (there.0, (length_is (length f.cost) f z d is semi at down there.0).0 there.1)

    goes : (s : ℚ) → price_length (curvature f d) z d ≡ Some s → IsPriceStep f z d s
    goes s far = (length_is (length f.cost) f z d is semi at down s).1 far

    pub step_is_solution : {E : Type 0} (answer : Result (List ℚ) E) → IfOk answer (Leads f z d) → IfOk answer (IsSolution f)
    step_is_solution (Ok next) e = subst (IsSolution f) (sym e.2) (step_solves (length f.cost) f z d is semi down e.0 (goes e.0 e.1) at)
    step_is_solution (Err stop) e = tt

    pub step_is_priced : {E : Type 0} (answer : Result (List ℚ) E) → IsStationary f z → IsSolved (price_problem f z) x → IfOk answer (Leads f z d) → IfOk answer (IsPriced f z)
    step_is_priced (Ok next) still solved e = record {
      stationary = still;
      solution = x;
      solved = solved;
      step = e.0;
      goes = subst (λ d. IsPriceStep f z d e.0) way (goes e.0 e.1);
      end = e.2 ∙ ap (λ d. moved z d e.0) way;
    }
    step_is_priced (Err stop) still solved e = tt

pub direction_stops : (f : Form) (z x : List ℚ) (stop : Stop) → length z ≡ length f.cost → IsStopIn (less_ops (take (length z) x) (negative z x)) stop → IsStopIn (price_ops f z x) stop
direction_stops f z x stops.Memory wide p = tt
direction_stops f z x (stops.Past r) wide p =
    past_left (direction_ops f z x) (square_ops f.quadratic (direction f z x) ++ price_move_ops (curvature f (direction f z x)) z (direction f z x)) r
    (subst (λ n. IsPastOf (less_ops (take n x) (put_at n (support z) (drop n x))) r) wide p)

-- ---- multipliers

pub no_quotient : (x q : ℚ) → same_fields x zero_ℚ ≡ true → x ≡ x /ℚ q
no_quotient x q h = prove ordered_rationals (x ∷ reciprocal q ∷ []) (λ x i. x ≐ x ⊗ i ⇐ scaled (i ⊕ minus (lit 1)) (lit 0) x) refl (sym (same_fields_lem x zero_ℚ h))

pub quotient_is : (x q : ℚ) (answer : Result ℚ Refused) → IsAnswer (λ q. q) answer (tried_in max_part Div x q) → IfOk answer (λ y. y ≡ x /ℚ q)
quotient_is x q (Ok y) h = tried-value max_part Div x q y h
quotient_is x q (Err r) h = tt

pub quotient_stops : (x q : ℚ) (answer : Result ℚ Refused) → IsAnswer (λ q. q) answer (tried_in max_part Div x q) → IfErr answer (IsPastOf (operation Div x q ∷ []))
quotient_stops x q (Ok y) h = tt
quotient_stops x q (Err r) h = one_past Div x q r h

pub quotient_get : (w : List ℚ) (q : ℚ) (n i : ℕ) (x y : ℚ) → i < n → slice_get w i ≡ Some x → y ≡ x /ℚ q → slice_get (map (λ x. x /ℚ q) (take n w)) i ≡ Some y
quotient_get w q n i x y h e k =
    slice_get-map (λ x. x /ℚ q) (take n w) i ∙ ap (option_map (λ x. x /ℚ q)) (take_get n w i x h e) ∙ ap (λ (y : ℚ). Some y) (sym k)

pub quotient_past : (w : List ℚ) (q : ℚ) (n i : ℕ) (x : ℚ) (r : Refused) → i < n → slice_get w i ≡ Some x → IsPastOf (operation Div x q ∷ []) r → IsPastOf (map (λ x. operation Div x q) (take n w)) r
quotient_past w q n i x r h e p = by (take n w) i (take_get n w i x h e)
  where
    by : (u : List ℚ) (i : ℕ) → slice_get u i ≡ Some x → IsPastOf (map (λ x. operation Div x q) u) r
    by [] i e = absurd cc
    by (a ∷ u) zero e = let f : a ≡ x = cc in past_left (operation Div a q ∷ []) (map (λ x. operation Div x q) u) r (subst (λ a. IsPastOf (operation Div a q ∷ []) r) (sym f) p)
    by (a ∷ u) (suc i) e = past_right (operation Div a q ∷ []) (map (λ x. operation Div x q) u) r (by u i e)

pub quotients_end : (w y : List ℚ) (q : ℚ) (n i : ℕ) → length y ≡ n → n ≤ length w → n ≤ i → take i y ≡ take i (map (λ x. x /ℚ q) (take n w)) → y ≡ map (λ x. x /ℚ q) (take n w)
quotients_end w y q n i e h l s =
    let size : length (map (λ x. x /ℚ q) (take n w)) ≡ n = length-map (take n w) (λ x. x /ℚ q) ∙ Rattle.quad_solve_law.proofs.Lists.length-taken n w h in
    set_end (map (λ x. x /ℚ q) (take n w)) y i (e ∙ sym size) (omega (arith, size, l)) s

module _ (f : Form) (w : List ℚ) (is : IsForm (length f.cost) f) (refuted : (z : List ℚ) × linear.IsFarkas (price_problem f z) w) (count : ℕ) (counted : count ≡ length f.matrix) where
  pub last_there : count < length w
  last_there = omega (arith, counted, refuted.1.size, price_height f refuted.0)

  filled : (y : List ℚ) (x : ℚ) → y ≡ replicate count x → length y ≡ count
  filled y x e = ap length e ∙ length-replicate count x

  pub room_there : (y : List ℚ) (x : ℚ) → y ≡ replicate count x → length y ≤ length w
  room_there y x e = omega (arith, filled y x e, last_there)

  module _ (q : ℚ) (last : slice_get w count ≡ Some q) where
    last_is : q ≡ last_number f w
    last_is = sym (get_or_from_slice_get w count q zero_ℚ last) ∙ ap (entry w) counted

    pub last_not_zero : q.num ≡ pos 0 → ⊥
    last_not_zero = num-ne_of_ne q (λ e. lt_irrefl zero_ℚ (subst (λ q. q <ℚ zero_ℚ) (sym last_is ∙ e) (last_below (length f.cost) f refuted.0 w is refuted.1)))

    pub multipliers_are : (y : List ℚ) (x : ℚ) → y ≡ replicate count x → map (λ x. x /ℚ q) (take (length y) w) ≡ price_multipliers f w
    multipliers_are y x e = ap (λ q. map (λ x. x /ℚ q) (take (length y) w)) last_is ∙ ap (λ n. map (λ x. x /ℚ last_number f w) (take n w)) (filled y x e ∙ counted)

    pub multipliers_stop : (y : List ℚ) (x : ℚ) (r : Refused) → y ≡ replicate count x → IsPastOf (map (λ x. operation Div x q) (take (length y) w)) r → IsPastOf (multiplier_ops f w) r
    multipliers_stop y x r e p =
        subst (λ n. IsPastOf (map (λ x. operation Div x (last_number f w)) (take n w)) r) (filled y x e ∙ counted)
        (subst (λ q. IsPastOf (map (λ x. operation Div x q) (take (length y) w)) r) last_is p)

  pub multipliers_size : (y : List ℚ) → y ≡ price_multipliers f w → length y ≡ length f.right
  multipliers_size y e = ap length e ∙ (multipliers_optimal (length f.cost) f refuted.0 w is refuted.1).size
