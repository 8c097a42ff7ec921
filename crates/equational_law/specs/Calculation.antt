-- The calculation of the form, and those of a point and of a ray back: operations in order, up to the first that is past.
-- Signs are changed without operations.
use Rattle.std.specs.Prelude.{◌≡◌, ℕ, suc, pos, ◌+◌, List, [], ◌∷◌, ◌++◌, length, drop, Option, Some, None, Result, Ok, Err, if◌then◌else◌}
use Rattle.std.specs.List.{All}
use Rattle.rational.specs.Rational.{ℚ, whole, one_ℚ, neg_ℚ, ◌+ℚ◌, ◌/ℚ◌}
use Rattle.rational.specs.Order.{same_fields}
use Rattle.rational.specs.Sums.{entry}
use Rattle.rational.specs.Vectors.{dot, zeros, unit_vector, rows_dot}
use Rattle.frac_core.specs.declared.fractions.Op.TheVariants.{Add, Sub, Div}
use Rattle.frac_core.specs.declared.fractions.Refused.{Refused}
use Rattle.frac_core.specs.Calculated.{answered, operated, ◌>>=◌}
use Rattle.frac_core.specs.Operations.{operation, IsWithin, IsFirstPast}
use Rattle.frac_core.specs.Dot.{dot_of, dot_ops}
use Rattle.program_law.specs.declared.Row.{Row}
use Rattle.program_law.specs.Region.{Region}
use Rattle.program_law.specs.Program.{Program, sides}
use Rattle.equational_law.specs.Standing.{Standing, Above, Below, Free, standing, shift, parts_at, spread}
use Rattle.equational_law.specs.Equations.{Equation, slacks_at, bound_slacks_by, row_slacks}
use Rattle.equational_law.specs.Form.{Form, form_by}

-- what is said of an answer: it is the value, and no operation is past; or it is the first operation that is past
abbrev pub Gives : {A : Type 0} → ℕ → List Refused → A → Result A Refused → Type 0
Gives top ops v (Ok x) = All (IsWithin top) ops × (x ≡ v)
Gives top ops v (Err r) = IsFirstPast top ops r

-- ---- the objective

-- the product of each row with h
unfoldable pub products_in : ℕ → List (List ℚ) → List ℚ → Result (List ℚ) Refused
products_in top [] h = Ok []
products_in top (row ∷ rows) h = answered (dot_of top row h) >>= λ q. products_in top rows h >>= λ qs. Ok (q ∷ qs)

unfoldable pub products_ops : List (List ℚ) → List ℚ → List Refused
products_ops [] h = []
products_ops (row ∷ rows) h = dot_ops row h ++ products_ops rows h

-- the sum at each place
unfoldable pub sums_in : ℕ → List ℚ → List ℚ → Result (List ℚ) Refused
sums_in top [] qs = Ok []
sums_in top (c ∷ cs) [] = Ok []
sums_in top (c ∷ cs) (q ∷ qs) = operated top Add c q >>= λ s. sums_in top cs qs >>= λ ss. Ok (s ∷ ss)

unfoldable pub sums_ops : List ℚ → List ℚ → List Refused
sums_ops [] qs = []
sums_ops (c ∷ cs) [] = []
sums_ops (c ∷ cs) (q ∷ qs) = operation Add c q ∷ sums_ops cs qs

abbrev pub two : ℚ
two = whole (pos 2)

-- h · q h / 2, and then c0 + c · h and that
unfoldable pub constant_in : ℕ → Program → List ℚ → List ℚ → Result ℚ Refused
constant_in top p h qh =
    answered (dot_of top h qh) >>= λ d. operated top Div d two >>= λ half. answered (dot_of top p.costs h) >>= λ ch. operated top Add p.constant ch >>= λ sum. operated top Add sum half

unfoldable pub constant_ops : Program → List ℚ → List ℚ → List Refused
constant_ops p h qh =
    dot_ops h qh
    ++ (operation Div (dot h qh) two
    ∷ (dot_ops p.costs h ++ (operation Add p.constant (dot p.costs h) ∷ operation Add (p.constant +ℚ dot p.costs h) (dot h qh /ℚ two) ∷ [])))

-- ---- the equations

-- a is A_i h
unfoldable pub row_equations_by_in : ℕ → Option ℚ → Option ℚ → ℕ → List ℚ → ℚ → Result (List Equation) Refused
row_equations_by_in top (Some l) (Some u) k row a =
    if same_fields l u then (operated top Sub l a >>= λ r. Ok (record { entries = row; before = k; own = []; right = r } ∷ []))
    else (operated top Sub u a >>= λ r. operated top Sub u l >>= λ gap. Ok (record { entries = row; before = k; own = one_ℚ ∷ []; right = r }
    ∷ record { entries = zeros (length row); before = k; own = one_ℚ ∷ one_ℚ ∷ []; right = gap } ∷ []))
row_equations_by_in top (Some l) None k row a = operated top Sub l a >>= λ r. Ok (record { entries = row; before = k; own = neg_ℚ one_ℚ ∷ []; right = r } ∷ [])
row_equations_by_in top None (Some u) k row a = operated top Sub u a >>= λ r. Ok (record { entries = row; before = k; own = one_ℚ ∷ []; right = r } ∷ [])
row_equations_by_in top None None k row a = Ok []

unfoldable pub row_ops_by : Option ℚ → Option ℚ → ℚ → List Refused
row_ops_by (Some l) (Some u) a = if same_fields l u then operation Sub l a ∷ [] else operation Sub u a ∷ operation Sub u l ∷ []
row_ops_by (Some l) None a = operation Sub l a ∷ []
row_ops_by None (Some u) a = operation Sub u a ∷ []
row_ops_by None None a = []

unfoldable pub row_equations_in : ℕ → Region → List ℚ → ℕ → List Row → List (List ℚ) → Result (List Equation) Refused
row_equations_in top region h k [] rows = Ok []
row_equations_in top region h k (s ∷ ss) [] = Ok []
row_equations_in top region h k (s ∷ ss) (row ∷ rows) =
    answered (dot_of top row h) >>= λ a. row_equations_by_in top s.low s.high k (spread region row) a >>= λ es. row_equations_in top region h (k + slacks_at s) ss rows >>= λ others. Ok (es ++ others)

unfoldable pub row_ops : List ℚ → List Row → List (List ℚ) → List Refused
row_ops h [] rows = []
row_ops h (s ∷ ss) [] = []
row_ops h (s ∷ ss) (row ∷ rows) = dot_ops row h ++ (row_ops_by s.low s.high (dot row h) ++ row_ops h ss rows)

unfoldable pub bound_equation_in : ℕ → Option ℚ → Option ℚ → ℕ → List ℚ → Result (List Equation) Refused
bound_equation_in top (Some l) (Some u) k unit = operated top Sub u l >>= λ gap. Ok (record { entries = unit; before = k; own = one_ℚ ∷ []; right = gap } ∷ [])
bound_equation_in top (Some l) None k unit = Ok []
bound_equation_in top None high k unit = Ok []

unfoldable pub bound_ops_by : Option ℚ → Option ℚ → List Refused
bound_ops_by (Some l) (Some u) = operation Sub u l ∷ []
bound_ops_by (Some l) None = []
bound_ops_by None high = []

unfoldable pub bound_equations_in : ℕ → Region → ℕ → ℕ → Region → Result (List Equation) Refused
bound_equations_in top region k j [] = Ok []
bound_equations_in top region k j (b ∷ bs) =
    bound_equation_in top b.low b.high k (spread region (unit_vector (length region) j)) >>= λ es. bound_equations_in top region (k + bound_slacks_by b.low b.high) (suc j) bs >>= λ others. Ok (es ++ others)

unfoldable pub bound_ops : Region → List Refused
bound_ops [] = []
bound_ops (b ∷ bs) = bound_ops_by b.low b.high ++ bound_ops bs

unfoldable pub equations_in : ℕ → Program → Region → Result (List Equation) Refused
equations_in top p region =
    row_equations_in top region (shift region) 0 (sides p) p.entries >>= λ es. bound_equations_in top region (row_slacks (sides p)) 0 region >>= λ others. Ok (es ++ others)

-- ---- the form: Q h, c + Q h, the constant, the rows' equations, and the columns'

unfoldable pub form_in : ℕ → Program → Region → Result Form Refused
form_in top p region =
    products_in top p.pairs (shift region) >>= λ qh. sums_in top p.costs qh >>= λ costs. constant_in top p (shift region) qh >>= λ constant. equations_in top p region >>= λ es. Ok (form_by p region es costs constant)

-- its operations, over exact values
unfoldable pub form_ops : Program → Region → List Refused
form_ops p region =
    products_ops p.pairs (shift region)
    ++ (sums_ops p.costs (rows_dot p.pairs (shift region))
    ++ (constant_ops p (shift region) (rows_dot p.pairs (shift region)) ++ (row_ops (shift region) (sides p) p.entries ++ bound_ops region)))

-- ---- back

-- a column of a point: h + z, h - z, or z - z'
unfoldable pub point_entry_in : ℕ → Standing → List ℚ → Result ℚ Refused
point_entry_in top (Above l) z = operated top Add l (entry z 0)
point_entry_in top (Below u) z = operated top Sub u (entry z 0)
point_entry_in top Free z = operated top Sub (entry z 0) (entry z 1)

unfoldable pub point_entry_ops : Standing → List ℚ → List Refused
point_entry_ops (Above l) z = operation Add l (entry z 0) ∷ []
point_entry_ops (Below u) z = operation Sub u (entry z 0) ∷ []
point_entry_ops Free z = operation Sub (entry z 0) (entry z 1) ∷ []

unfoldable pub point_in : ℕ → Region → List ℚ → Result (List ℚ) Refused
point_in top [] z = Ok []
point_in top (b ∷ bs) z = point_entry_in top (standing b) z >>= λ x. point_in top bs (drop (parts_at (standing b)) z) >>= λ xs. Ok (x ∷ xs)

unfoldable pub point_ops : Region → List ℚ → List Refused
point_ops [] z = []
point_ops (b ∷ bs) z = point_entry_ops (standing b) z ++ point_ops bs (drop (parts_at (standing b)) z)

-- a column of a direction: d, -d, or d - d'
unfoldable pub ray_entry_in : ℕ → Standing → List ℚ → Result ℚ Refused
ray_entry_in top (Above l) d = Ok (entry d 0)
ray_entry_in top (Below u) d = Ok (neg_ℚ (entry d 0))
ray_entry_in top Free d = operated top Sub (entry d 0) (entry d 1)

unfoldable pub ray_entry_ops : Standing → List ℚ → List Refused
ray_entry_ops (Above l) d = []
ray_entry_ops (Below u) d = []
ray_entry_ops Free d = operation Sub (entry d 0) (entry d 1) ∷ []

unfoldable pub ray_in : ℕ → Region → List ℚ → Result (List ℚ) Refused
ray_in top [] d = Ok []
ray_in top (b ∷ bs) d = ray_entry_in top (standing b) d >>= λ x. ray_in top bs (drop (parts_at (standing b)) d) >>= λ xs. Ok (x ∷ xs)

unfoldable pub ray_ops : Region → List ℚ → List Refused
ray_ops [] d = []
ray_ops (b ∷ bs) d = ray_entry_ops (standing b) d ++ ray_ops bs (drop (parts_at (standing b)) d)
