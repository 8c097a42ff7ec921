-- The calculation of the form gives the form, or the first of its operations that is past.
use Rattle.std.specs.Prelude.{◌≡◌, ℕ, suc, pos, ◌+◌, List, [], ◌∷◌, ◌++◌, length, drop, Option, Some, None, Bool, true, false, Result, Ok, Err}
use Rattle.std.specs.List.{All}
use Rattle.std.proofs.Common.{sym, subst, ◌∙◌, ap, refl, cond}
use Rattle.std.proofs.lemmas.List.{append_assoc}
use Rattle.std.proofs.lemmas.List.Elements.{All-nil, All-append}
use Rattle.algebra.proofs.Polynomial.{◌⊕◌, ◌⊝◌, ◌≐◌, lit}
use Rattle.algebra.proofs.Solver.{ring}
use Rattle.rational.specs.Rational.{ℚ, zero_ℚ, one_ℚ, neg_ℚ, ◌+ℚ◌, ◌-ℚ◌, ◌*ℚ◌, ◌/ℚ◌}
use Rattle.rational.specs.Order.{same_fields}
use Rattle.rational.specs.Sums.{half, entry}
use Rattle.rational.specs.Vectors.{dot, add_each, zeros, unit_vector, rows_dot}
use Rattle.rational.proofs.Field.{rationals}
use Rattle.rational.proofs.Fraction.{whole_injective}
use Rattle.rational.proofs.Bounds.{half-two}
use Rattle.rational.proofs.Division.{reciprocal_unique}
use Rattle.frac_core.specs.declared.fractions.Op.{Op}
use Rattle.frac_core.specs.declared.fractions.Op.TheVariants.{Add, Sub, Div}
use Rattle.frac_core.specs.declared.fractions.Refused.{Refused}
use Rattle.frac_core.specs.declared.fractions.Tried.{Tried}
use Rattle.frac_core.specs.declared.fractions.Tried.TheVariants.{Is, Past}
use Rattle.frac_core.specs.Calculated.{answered, exact_of, operated, tried_in, ◌>>=◌}
use Rattle.frac_core.specs.Operations.{operation, IsWithin, IsFirstPast, Tries}
use Rattle.frac_core.specs.Dot.{dot_of, dot_ops}
use Rattle.frac_core.proofs.Values.{tried-value, dot_of-value}
use Rattle.frac_core.proofs.Operations.{tries_one, dot_tries}
use Rattle.program_law.specs.declared.Row.{Row}
use Rattle.program_law.specs.Region.{Region}
use Rattle.program_law.specs.Program.{Program, sides}
use Rattle.equational_law.specs.Standing.{Standing, Above, Below, Free, standing, shift_at, shift, parts_at, change_at, spread}
use Rattle.equational_law.specs.Equations.{Equation, row_equations_by, row_equations, slacks_at, bound_equation_by, bound_slacks_by, bound_equations, row_slacks}
use Rattle.equational_law.specs.Form.{equations, form_by, form_of, point_of, direction_of}
use Rattle.equational_law.specs.Calculation.{Gives, products_in, products_ops, sums_in, sums_ops, two, constant_in, constant_ops, row_equations_by_in, row_ops_by, row_equations_in, row_ops, bound_equation_in, bound_ops_by, bound_equations_in, bound_ops, equations_in, form_in, form_ops, point_entry_in, point_entry_ops, point_in, point_ops, ray_entry_in, ray_entry_ops, ray_in, ray_ops}
use Rattle.equational_law.proofs.Equations.{equation}

-- ---- one part after another

gives_nothing : {A : Type 0} (top : ℕ) (v : A) → Gives top [] v (Ok v)
gives_nothing top v = (All-nil (IsWithin top), refl)

gives_after : {A : Type 0} (top : ℕ) (xs ys : List Refused) (v : A) (t : Result A Refused) → All (IsWithin top) xs → Gives top ys v t → Gives top (xs ++ ys) v t
gives_after top xs ys v (Ok x) h k = (All-append (IsWithin top) xs ys h k.0, k.1)
gives_after top xs ys v (Err r) h k = record {
  earlier = xs ++ k.earlier;
  later = k.later;
  place = ap (λ l. xs ++ l) k.place ∙ sym (append_assoc xs k.earlier (r ∷ k.later));
  within = All-append (IsWithin top) xs k.earlier h k.within;
  past = k.past;
}

gives_then : {A B : Type 0} (top : ℕ) (xs ys : List Refused) (v : A) (w : B) (t : Result A Refused) (f : A → Result B Refused)
    → Gives top xs v t → Gives top ys w (f v) → Gives top (xs ++ ys) w (t >>= f)
gives_then top xs ys v w (Ok x) f h k = gives_after top xs ys w (f x) h.0 (subst (λ y. Gives top ys w (f y)) (sym h.1) k)
gives_then top xs ys v w (Err r) f h k = record {
  earlier = h.earlier;
  later = h.later ++ ys;
  place = ap (λ l. l ++ ys) h.place ∙ append_assoc h.earlier (r ∷ h.later) ys;
  within = h.within;
  past = h.past;
}

gives_made : {A B : Type 0} (top : ℕ) (xs : List Refused) (v : A) (t : Result A Refused) (g : A → B) → Gives top xs v t → Gives top xs (g v) (t >>= λ x. Ok (g x))
gives_made top xs v (Ok x) g h = (h.0, ap g h.1)
gives_made top xs v (Err r) g h = h

gives_number : (top : ℕ) (xs : List Refused) (v : ℚ) (t : Tried) → Tries top xs t → ((q : ℚ) → t ≡ Is q → q ≡ v) → Gives top xs v (answered t)
gives_number top xs v (Is q) h e = (h, e q refl)
gives_number top xs v (Past r) h e = h

gives_one : (top : ℕ) (op : Op) (p q : ℚ) → Gives top (operation op p q ∷ []) (exact_of op p q) (operated top op p q)
gives_one top op p q = gives_number top (operation op p q ∷ []) (exact_of op p q) (tried_in top op p q) (tries_one top op p q) (tried-value top op p q)

gives_dot : (top : ℕ) (xs ys : List ℚ) → Gives top (dot_ops xs ys) (dot xs ys) (answered (dot_of top xs ys))
gives_dot top xs ys = gives_number top (dot_ops xs ys) (dot xs ys) (dot_of top xs ys) (dot_tries top xs ys) (dot_of-value top xs ys)

-- ---- the objective

products_give : (top : ℕ) (rows : List (List ℚ)) (h : List ℚ) → Gives top (products_ops rows h) (rows_dot rows h) (products_in top rows h)
unfolding products_in products_ops
products_give top [] h = gives_nothing top []
products_give top (row ∷ rows) h =
    gives_then top (dot_ops row h) (products_ops rows h) (dot row h) (rows_dot (row ∷ rows) h) (answered (dot_of top row h)) (λ q. products_in top rows h >>= λ qs. Ok (q ∷ qs))
    (gives_dot top row h) (gives_made top (products_ops rows h) (rows_dot rows h) (products_in top rows h) (λ qs. dot row h ∷ qs) (products_give top rows h))

sums_give : (top : ℕ) (cs qs : List ℚ) → Gives top (sums_ops cs qs) (add_each cs qs) (sums_in top cs qs)
unfolding sums_in sums_ops
sums_give top [] qs = gives_nothing top []
sums_give top (c ∷ cs) [] = gives_nothing top []
sums_give top (c ∷ cs) (q ∷ qs) =
    gives_then top (operation Add c q ∷ []) (sums_ops cs qs) (c +ℚ q) (add_each (c ∷ cs) (q ∷ qs)) (operated top Add c q) (λ s. sums_in top cs qs >>= λ ss. Ok (s ∷ ss))
    (gives_one top Add c q) (gives_made top (sums_ops cs qs) (add_each cs qs) (sums_in top cs qs) (λ ss. (c +ℚ q) ∷ ss) (sums_give top cs qs))

two_not_zero : ¬ (two ≡ zero_ℚ)
two_not_zero h = absurd (let bad : pos 2 ≡ pos 0 = whole_injective (pos 2) (pos 0) h in cc)

halved : (x : ℚ) → x /ℚ two ≡ half *ℚ x
halved x = ap (λ r. x *ℚ r) (sym (reciprocal_unique two half (rationals.mul_comm two half ∙ half-two) two_not_zero)) ∙ rationals.mul_comm x half

constant_gives : (top : ℕ) (p : Program) (h qh : List ℚ) → Gives top (constant_ops p h qh) (p.constant +ℚ dot p.costs h +ℚ half *ℚ dot h qh) (constant_in top p h qh)
unfolding constant_in constant_ops
constant_gives top p h qh =
    let d = dot h qh in
    let e = d /ℚ two in
    let ch = dot p.costs h in
    let sum = p.constant +ℚ ch in
    let last = operation Add sum e ∷ [] in
    let fourth = operation Add p.constant ch ∷ last in
    let third = dot_ops p.costs h ++ fourth in
    let second = operation Div d two ∷ third in
    subst (λ v. Gives top (dot_ops h qh ++ second) v (constant_in top p h qh)) (ap (λ x. sum +ℚ x) (halved d))
    (gives_then top (dot_ops h qh) second d (sum +ℚ e) (answered (dot_of top h qh))
    (λ d. operated top Div d two >>= λ half. answered (dot_of top p.costs h) >>= λ ch. operated top Add p.constant ch >>= λ sum. operated top Add sum half)
    (gives_dot top h qh)
    (gives_then top (operation Div d two ∷ []) third e (sum +ℚ e) (operated top Div d two)
    (λ half. answered (dot_of top p.costs h) >>= λ ch. operated top Add p.constant ch >>= λ sum. operated top Add sum half)
    (gives_one top Div d two)
    (gives_then top (dot_ops p.costs h) fourth ch (sum +ℚ e) (answered (dot_of top p.costs h))
    (λ ch. operated top Add p.constant ch >>= λ sum. operated top Add sum e)
    (gives_dot top p.costs h)
    (gives_then top (operation Add p.constant ch ∷ []) last sum (sum +ℚ e) (operated top Add p.constant ch)
    (λ sum. operated top Add sum e) (gives_one top Add p.constant ch) (gives_one top Add sum e)))))

-- ---- the equations

row_by_gives : (top : ℕ) (low high : Option ℚ) (k : ℕ) (row : List ℚ) (a : ℚ) → Gives top (row_ops_by low high a) (row_equations_by low high k row a) (row_equations_by_in top low high k row a)
unfolding row_equations_by_in row_ops_by
row_by_gives top None None k row a = gives_nothing top []
row_by_gives top None (Some u) k row a =
    gives_made top (operation Sub u a ∷ []) (u -ℚ a) (operated top Sub u a) (λ r. equation row k (one_ℚ ∷ []) r ∷ []) (gives_one top Sub u a)
row_by_gives top (Some l) None k row a =
    gives_made top (operation Sub l a ∷ []) (l -ℚ a) (operated top Sub l a) (λ r. equation row k (neg_ℚ one_ℚ ∷ []) r ∷ []) (gives_one top Sub l a)
row_by_gives top (Some l) (Some u) k row a = by (same_fields l u)
  where
    alone : ℚ → List Equation
    alone r = equation row k [] r ∷ []

    both : ℚ → ℚ → List Equation
    both r gap = equation row k (one_ℚ ∷ []) r ∷ equation (zeros (length row)) k (one_ℚ ∷ one_ℚ ∷ []) gap ∷ []

    by : (t : Bool) → Gives top (cond t (operation Sub l a ∷ []) (operation Sub u a ∷ operation Sub u l ∷ [])) (cond t (alone (l -ℚ a)) (both (u -ℚ a) (u -ℚ l)))
        (cond t (operated top Sub l a >>= λ r. Ok (alone r)) (operated top Sub u a >>= λ r. operated top Sub u l >>= λ gap. Ok (both r gap)))
    by true = gives_made top (operation Sub l a ∷ []) (l -ℚ a) (operated top Sub l a) alone (gives_one top Sub l a)
    by false =
        gives_then top (operation Sub u a ∷ []) (operation Sub u l ∷ []) (u -ℚ a) (both (u -ℚ a) (u -ℚ l)) (operated top Sub u a)
        (λ r. operated top Sub u l >>= λ gap. Ok (both r gap)) (gives_one top Sub u a)
        (gives_made top (operation Sub u l ∷ []) (u -ℚ l) (operated top Sub u l) (both (u -ℚ a)) (gives_one top Sub u l))

rows_give : (top : ℕ) (region : Region) (h : List ℚ) (k : ℕ) (ss : List Row) (rows : List (List ℚ)) → Gives top (row_ops h ss rows) (row_equations region h k ss rows) (row_equations_in top region h k ss rows)
unfolding row_equations_in row_ops
rows_give top region h k [] rows = gives_nothing top []
rows_give top region h k (s ∷ ss) [] = gives_nothing top []
rows_give top region h k (s ∷ ss) (row ∷ rows) =
    let a = dot row h in
    let t = spread region row in
    let es = row_equations_by s.low s.high k t a in
    let m = k + slacks_at s in
    let others = row_equations region h m ss rows in
    gives_then top (dot_ops row h) (row_ops_by s.low s.high a ++ row_ops h ss rows) a (es ++ others) (answered (dot_of top row h))
    (λ a. row_equations_by_in top s.low s.high k t a >>= λ es. row_equations_in top region h m ss rows >>= λ others. Ok (es ++ others))
    (gives_dot top row h)
    (gives_then top (row_ops_by s.low s.high a) (row_ops h ss rows) es (es ++ others) (row_equations_by_in top s.low s.high k t a)
    (λ es. row_equations_in top region h m ss rows >>= λ others. Ok (es ++ others))
    (row_by_gives top s.low s.high k t a)
    (gives_made top (row_ops h ss rows) others (row_equations_in top region h m ss rows) (λ others. es ++ others) (rows_give top region h m ss rows)))

bound_gives : (top : ℕ) (low high : Option ℚ) (k : ℕ) (unit : List ℚ) → Gives top (bound_ops_by low high) (bound_equation_by low high k unit) (bound_equation_in top low high k unit)
unfolding bound_equation_in bound_ops_by
bound_gives top None None k unit = gives_nothing top []
bound_gives top None (Some u) k unit = gives_nothing top []
bound_gives top (Some l) None k unit = gives_nothing top []
bound_gives top (Some l) (Some u) k unit =
    gives_made top (operation Sub u l ∷ []) (u -ℚ l) (operated top Sub u l) (λ gap. equation unit k (one_ℚ ∷ []) gap ∷ []) (gives_one top Sub u l)

bounds_give : (top : ℕ) (region : Region) (k j : ℕ) (bs : Region) → Gives top (bound_ops bs) (bound_equations region k j bs) (bound_equations_in top region k j bs)
unfolding bound_equations_in bound_ops
bounds_give top region k j [] = gives_nothing top []
bounds_give top region k j (b ∷ bs) =
    let unit = spread region (unit_vector (length region) j) in
    let es = bound_equation_by b.low b.high k unit in
    let m = k + bound_slacks_by b.low b.high in
    let others = bound_equations region m (suc j) bs in
    gives_then top (bound_ops_by b.low b.high) (bound_ops bs) es (es ++ others) (bound_equation_in top b.low b.high k unit)
    (λ es. bound_equations_in top region m (suc j) bs >>= λ others. Ok (es ++ others))
    (bound_gives top b.low b.high k unit)
    (gives_made top (bound_ops bs) others (bound_equations_in top region m (suc j) bs) (λ others. es ++ others) (bounds_give top region m (suc j) bs))

equations_give : (top : ℕ) (p : Program) (region : Region) → Gives top (row_ops (shift region) (sides p) p.entries ++ bound_ops region) (equations p region) (equations_in top p region)
unfolding equations_in
equations_give top p region =
    let h = shift region in
    let es = row_equations region h 0 (sides p) p.entries in
    let m = row_slacks (sides p) in
    let others = bound_equations region m 0 region in
    gives_then top (row_ops h (sides p) p.entries) (bound_ops region) es (es ++ others) (row_equations_in top region h 0 (sides p) p.entries)
    (λ es. bound_equations_in top region m 0 region >>= λ others. Ok (es ++ others))
    (rows_give top region h 0 (sides p) p.entries)
    (gives_made top (bound_ops region) others (bound_equations_in top region m 0 region) (λ others. es ++ others) (bounds_give top region m 0 region))

pub form_gives : (top : ℕ) (p : Program) (region : Region) → Gives top (form_ops p region) (form_of p region) (form_in top p region)
unfolding form_in form_ops
form_gives top p region =
    let h = shift region in
    let qh = rows_dot p.pairs h in
    let costs = add_each p.costs qh in
    let constant = p.constant +ℚ dot p.costs h +ℚ half *ℚ dot h qh in
    let es = equations p region in
    let fourth = row_ops h (sides p) p.entries ++ bound_ops region in
    let third = constant_ops p h qh ++ fourth in
    let second = sums_ops p.costs qh ++ third in
    let all = form_of p region in
    gives_then top (products_ops p.pairs h) second qh all (products_in top p.pairs h)
    (λ qh. sums_in top p.costs qh >>= λ costs. constant_in top p h qh >>= λ constant. equations_in top p region >>= λ es. Ok (form_by p region es costs constant))
    (products_give top p.pairs h)
    (gives_then top (sums_ops p.costs qh) third costs all (sums_in top p.costs qh)
    (λ costs. constant_in top p h qh >>= λ constant. equations_in top p region >>= λ es. Ok (form_by p region es costs constant))
    (sums_give top p.costs qh)
    (gives_then top (constant_ops p h qh) fourth constant all (constant_in top p h qh)
    (λ constant. equations_in top p region >>= λ es. Ok (form_by p region es costs constant))
    (constant_gives top p h qh)
    (gives_made top fourth es (equations_in top p region) (λ es. form_by p region es costs constant) (equations_give top p region))))

-- ---- back

point_entry_gives : (top : ℕ) (s : Standing) (z : List ℚ) → Gives top (point_entry_ops s z) (shift_at s +ℚ change_at s z) (point_entry_in top s z)
unfolding point_entry_in point_entry_ops
point_entry_gives top (Above l) z = gives_one top Add l (entry z 0)
point_entry_gives top (Below u) z = gives_one top Sub u (entry z 0)
point_entry_gives top Free z =
    let x = entry z 0 in
    let y = entry z 1 in
    subst (λ v. Gives top (operation Sub x y ∷ []) v (operated top Sub x y)) (ring rationals (x ∷ y ∷ []) (λ x y. x ⊝ y ≐ lit 0 ⊕ (x ⊝ y)) refl) (gives_one top Sub x y)

pub point_gives : (top : ℕ) (region : Region) (z : List ℚ) → Gives top (point_ops region z) (point_of region z) (point_in top region z)
unfolding point_in point_ops
point_gives top [] z = gives_nothing top []
point_gives top (b ∷ bs) z =
    let s = standing b in
    let x = shift_at s +ℚ change_at s z in
    let rest = drop (parts_at s) z in
    gives_then top (point_entry_ops s z) (point_ops bs rest) x (x ∷ point_of bs rest) (point_entry_in top s z) (λ x. point_in top bs rest >>= λ xs. Ok (x ∷ xs))
    (point_entry_gives top s z) (gives_made top (point_ops bs rest) (point_of bs rest) (point_in top bs rest) (λ xs. x ∷ xs) (point_gives top bs rest))

ray_entry_gives : (top : ℕ) (s : Standing) (d : List ℚ) → Gives top (ray_entry_ops s d) (change_at s d) (ray_entry_in top s d)
unfolding ray_entry_in ray_entry_ops
ray_entry_gives top (Above l) d = gives_nothing top (entry d 0)
ray_entry_gives top (Below u) d = gives_nothing top (neg_ℚ (entry d 0))
ray_entry_gives top Free d = gives_one top Sub (entry d 0) (entry d 1)

pub ray_gives : (top : ℕ) (region : Region) (d : List ℚ) → Gives top (ray_ops region d) (direction_of region d) (ray_in top region d)
unfolding ray_in ray_ops
ray_gives top [] d = gives_nothing top []
ray_gives top (b ∷ bs) d =
    let s = standing b in
    let x = change_at s d in
    let rest = drop (parts_at s) d in
    gives_then top (ray_entry_ops s d) (ray_ops bs rest) x (x ∷ direction_of bs rest) (ray_entry_in top s d) (λ x. ray_in top bs rest >>= λ xs. Ok (x ∷ xs))
    (ray_entry_gives top s d) (gives_made top (ray_ops bs rest) (direction_of bs rest) (ray_in top bs rest) (λ xs. x ∷ xs) (ray_gives top bs rest))

-- ---- what an answer says

pub given_value : {A : Type 0} (top : ℕ) (ops : List Refused) (v : A) (t : Result A Refused) (x : A) → Gives top ops v t → t ≡ Ok x → x ≡ v
given_value top ops v t x h e = (subst (λ u. Gives top ops v u) e h).1

pub given_within : {A : Type 0} (top : ℕ) (ops : List Refused) (v : A) (t : Result A Refused) (x : A) → Gives top ops v t → t ≡ Ok x → All (IsWithin top) ops
given_within top ops v t x h e = (subst (λ u. Gives top ops v u) e h).0

pub given_past : {A : Type 0} (top : ℕ) (ops : List Refused) (v : A) (t : Result A Refused) (r : Refused) → Gives top ops v t → t ≡ Err r → IsFirstPast top ops r
given_past top ops v t r h e = subst (λ u. Gives top ops v u) e h
