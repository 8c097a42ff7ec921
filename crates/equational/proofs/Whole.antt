-- The whole calculation, and the form that it makes.
use Rattle.std.specs.Prelude.{◌≡◌, ◌<◌, ◌≤◌, ◌⊎◌, ℕ, ◌+◌, ◌*◌, List, [], ◌∷◌, ◌++◌, map, length, Bool, true, false, Option, Some, None, IsSome, Result, Ok, Err}
use Rattle.std.specs.List.{All}
use Rattle.std.proofs.Common.{refl, inl, inr, sym, subst, ap, ◌∙◌, arith, append_assoc, cond}
use Rattle.std.proofs.lemmas.List.{length-append, length-map}
use Rattle.std.proofs.lemmas.List.Elements.{All-nil, All-cons, All-head, All-tail}
use Rattle.rational.specs.Rational.{ℚ, one_ℚ, ◌-ℚ◌}
use Rattle.rational.specs.Order.{same_fields}
use Rattle.rational.specs.Vectors.{dot, zeros, IsSymmetric}
use Rattle.frac_core.specs.Parts.{max_part}
use Rattle.frac_core.specs.Operations.{IsWithin, IsFirstPast}
use Rattle.frac_core.specs.declared.fractions.Refused.{Refused}
use Rattle.exact_matrix.specs.declared.systems.Stop.{Stop}
use Rattle.exact_matrix.specs.declared.systems.Stop.TheVariants.{Memory, Past}
use Rattle.exact_matrix.specs.Grid.{rows_of}
use Rattle.exact_matrix.specs.Systems.{joined}
use Rattle.program_law.specs.declared.Row.{Row}
use Rattle.program_law.specs.Region.{Region}
use Rattle.program_law.specs.Program.{Program, IsProgram, IsRow, sides}
use Rattle.equational_law.specs.Standing.{parts, shift, spread}
use Rattle.equational_law.specs.Equations.{Equation, row_equations_by, row_equations, slacks_at, row_slacks, bound_equations, matrix_row, right_of}
use Rattle.equational_law.specs.Form.{Form, equations, slacks, width, padded, form_by, form_of}
use Rattle.equational_law.specs.Solutions.{IsForm}
use Rattle.frac_core.specs.Calculated.{◌>>=◌}
use Rattle.equational_law.specs.Calculation.{Gives, products_in, sums_in, constant_in, equations_in, form_in, form_ops}
use Rattle.equational_law.proofs.Calculated.{form_gives}
use Rattle.equational_law.proofs.Shapes.{shape, symmetric}
use Rattle.equational_law.proofs.Solving.{length-cost}
use Rattle.equational_rows.specs.Firsts.{begins_negated, firsts_from}
use Rattle.equational_rows.specs.declared.equations.First.{First}
use Rattle.exact_matrix.specs.Stops.{Answers, IsAnswerOf, Stops}
use Rattle.equational.specs.Formed.{Formed, formed, IsKept}
use Rattle.equational_rows.specs.Built.{Laid, laid, all_slacks, Built, no_rows, with_equations, appended}
use Rattle.equational.specs.Made.{objective_in, objective_on, quadratic_rows, IsMade}
use Rattle.equational_rows.proofs.Chains.{stops_then, stops_as}
use Rattle.equational_rows.proofs.Appended.{length-joined, rows_of-joined}
use Rattle.equational_rows.proofs.Gathered.{equation, first, first_of}

-- ---- the calculation in two parts

halves : {B C D : Type 0} (u : Result B Refused) (v : Result C Refused) (g : B → C → Result D Refused) → (u >>= λ y. v >>= λ z. g y z) ≡ ((u >>= λ y. v >>= λ z. Ok (y, z)) >>= λ (o : B × C). g o.0 o.1)
halves (Err r) v g = refl
halves (Ok y) (Err r) g = refl
halves (Ok y) (Ok z) g = refl

thirds : {A B C D : Type 0} (t : Result A Refused) (u : A → Result B Refused) (v : A → Result C Refused) (g : B → C → Result D Refused)
    → (t >>= λ x. u x >>= λ y. v x >>= λ z. g y z) ≡ ((t >>= λ x. u x >>= λ y. v x >>= λ z. Ok (y, z)) >>= λ (o : B × C). g o.0 o.1)
thirds (Err r) u v g = refl
thirds (Ok x) u v g = halves (u x) (v x) g

form_parts : (p : Program) (region : Region) → form_in max_part p region
    ≡ (objective_in max_part p (shift region) >>= λ (o : List ℚ × ℚ). equations_in max_part p region >>= λ es. Ok (form_by p region es o.0 o.1))
unfolding form_in objective_in
form_parts p region =
    thirds (products_in max_part p.pairs (shift region)) (λ qh. sums_in max_part p.costs qh) (λ qh. constant_in max_part p (shift region) qh) (λ costs constant. equations_in max_part p region >>= λ es. Ok (form_by p region es costs constant))

-- ---- what the calls answered

-- a calculation whose value goes through a function
stops_of : {A B : Type 0} (e : Stop) (t : Result A Refused) (f : A → B) → Stops e (t >>= λ x. Ok (f x)) → Stops e t
stops_of Memory t f h = tt
stops_of (Past q) (Ok x) f h = absurd cc
stops_of (Past q) (Err r) f h = let e : r ≡ q = cc in ap (λ (r : Refused). Err r) e

found_of : {A B : Type 0} (t : Result A Refused) (f : A → B) (y : B) → (t >>= λ x. Ok (f x)) ≡ Ok y → (x : A) × (t ≡ Ok x) × (y ≡ f x)
found_of (Err r) f y h = absurd cc
found_of (Ok x) f y h = (x, refl, cc)

-- costs of the file's columns on the form's, and the constant
abbrev on_columns : Laid → List ℚ × ℚ → List ℚ × ℚ
on_columns l o = (padded (all_slacks l) (spread l.region o.0), o.1)

pub objective_stops : (e : Stop) (p : Program) (region : Region) (h : List ℚ) (l : Laid) → h ≡ shift region → Stops e (objective_on l p h) → Stops e (form_in max_part p region)
objective_stops e p region h l k s =
    stops_as e _ (form_in max_part p region) (sym (form_parts p region))
    (stops_then e (objective_in max_part p (shift region)) (λ (o : List ℚ × ℚ). equations_in max_part p region >>= λ es. Ok (form_by p region es o.0 o.1))
    (stops_as e _ _ (ap (objective_in max_part p) k) (stops_of e (objective_in max_part p h) (on_columns l) s)))

-- with the objective known
objective_known : (p : Program) (region : Region) (h : List ℚ) (o : List ℚ × ℚ) → h ≡ shift region → objective_in max_part p h ≡ Ok o
    → form_in max_part p region ≡ (equations_in max_part p region >>= λ es. Ok (form_by p region es o.0 o.1))
objective_known p region h o k d =
    form_parts p region
    ∙ ap (λ (t : Result (List ℚ × ℚ) Refused). t >>= λ (o : List ℚ × ℚ). equations_in max_part p region >>= λ es. Ok (form_by p region es o.0 o.1)) (sym (ap (objective_in max_part p) k) ∙ d)

pub equations_stop : (e : Stop) (p : Program) (region : Region) (h : List ℚ) (l : Laid) (o : List ℚ × ℚ) (n : ℕ) (b : Built) → h ≡ shift region → l ≡ laid p region → objective_on l p h ≡ Ok o
    → Stops e (appended n b (equations_in max_part p l.region)) → Stops e (form_in max_part p region)
equations_stop e p region h l o n b k m d s =
    let found = found_of (objective_in max_part p h) (on_columns l) o d in
    stops_as e _ (form_in max_part p region) (sym (objective_known p region h found.0 k found.1))
    (stops_then e (equations_in max_part p region) (λ es. Ok (form_by p region es found.0.0 found.0.1))
    (stops_as e _ _ (ap (λ (l : Laid). equations_in max_part p l.region) m) (stops_of e (equations_in max_part p l.region) (with_equations n b) s)))

-- ---- the form

gives_exact : {A : Type 0} (top : ℕ) (ops : List Refused) (v f : A) (t : Result A Refused) → Gives top ops v t → t ≡ Ok f → f ≡ v
gives_exact top ops v f (Ok x) g e = let h : x ≡ f = cc in sym h ∙ g.1
gives_exact top ops v f (Err r) g e = absurd cc

pub made : (p : Program) (region : Region) (h : List ℚ) (l : Laid) (b : Built) (firsts : List First) (quadratic cost : List ℚ) (constant : ℚ) → IsProgram p → length region ≡ length p.columns
    → h ≡ shift region → l ≡ laid p region → objective_on l p h ≡ Ok (cost, constant) → quadratic ≡ joined (quadratic_rows l p.pairs)
    → appended (all_slacks l) no_rows (equations_in max_part p l.region) ≡ Ok b → firsts ≡ firsts_from 0 (sides p) (equations p l.region)
    → (form_in max_part p region ≡ Ok (form_of p region)) × IsMade p region l b firsts quadratic cost constant
made p region h l b firsts quadratic cost constant good w k m d q r f =
    let n = all_slacks l in
    let o = found_of (objective_in max_part p h) (on_columns l) (cost, constant) d in
    let rows = found_of (equations_in max_part p l.region) (with_equations n no_rows) b r in
    let costs = o.0.0 in
    let es = rows.0 in
    let known : equations_in max_part p region ≡ Ok es = ap (λ (l : Laid). equations_in max_part p l.region) (sym m) ∙ rows.1 in
    let ended : form_in max_part p region ≡ Ok (form_by p region es costs o.0.1) =
    objective_known p region h o.0 k o.1 ∙ ap (λ (t : Result (List Equation) Refused). t >>= λ es. Ok (form_by p region es costs o.0.1)) known in
    let same : form_by p region es costs o.0.1 ≡ form_of p region = gives_exact max_part (form_ops p region) (form_of p region) _ (form_in max_part p region) (form_gives max_part p region) ended in
    let count : n ≡ slacks p region = ap all_slacks m in (
      ended ∙ ap (λ (f : Form). Ok f) same,
      record {
        program = good;
        columns = w;
        layout = m;
        entries = ap (λ (b : Built). b.entries) rows.2 ∙ ap (λ (n : ℕ). joined (map (matrix_row n) es)) count ∙ ap (λ (f : Form). joined f.matrix) same;
        right = ap (λ (b : Built). b.right) rows.2 ∙ ap (λ (f : Form). f.right) same;
        quadratic = q ∙ ap (λ (l : Laid). joined (quadratic_rows l p.pairs)) m ∙ ap (λ (f : Form). joined f.quadratic) same;
        cost = ap (λ (o : List ℚ × ℚ). o.0) o.2 ∙ ap (λ (l : Laid). padded (all_slacks l) (spread l.region costs)) m ∙ ap (λ (f : Form). f.cost) same;
        constant = ap (λ (o : List ℚ × ℚ). o.1) o.2 ∙ ap (λ (f : Form). f.constant) same;
        firsts = f ∙ ap (λ (l : Laid). firsts_from 0 (sides p) (equations p l.region)) m;
      },
    )

-- ---- the form as it is kept

abbrev form_with : List (List ℚ) → List ℚ → List (List ℚ) → List ℚ → ℚ → Form
form_with matrix right quadratic cost constant = record { matrix = matrix; right = right; quadratic = quadratic; cost = cost; constant = constant }

some_equation : (low high : Option ℚ) (k : ℕ) (row : List ℚ) (a : ℚ) → IsSome low ⊎ IsSome high → 1 ≤ length (row_equations_by low high k row a)
some_equation None None k row a h = elim h [ inl w ↦ absurd cc | inr w ↦ absurd cc ]
some_equation None (Some u) k row a h = omega arith
some_equation (Some l) None k row a h = omega arith
some_equation (Some l) (Some u) k row a h = by (same_fields l u)
  where
    by : (t : Bool) → 1 ≤ length (cond t (equation row k [] (l -ℚ a) ∷ []) (equation row k (one_ℚ ∷ []) (u -ℚ a) ∷ equation (zeros (length row)) k (one_ℚ ∷ one_ℚ ∷ []) (u -ℚ l) ∷ []))
    by true = omega arith
    by false = omega arith

firsts_within : (region : Region) (h : List ℚ) (k n total : ℕ) (ss : List Row) (rows : List (List ℚ)) (more : List Equation) → All IsRow ss → length rows ≡ length ss
    → n + length (row_equations region h k ss rows ++ more) ≡ total → All (λ (s : First). s.equation < total) (firsts_from n ss (row_equations region h k ss rows ++ more))
firsts_within region h k n total [] rows more good e t = All-nil (λ (s : First). s.equation < total)
firsts_within region h k n total (s ∷ ss) [] more good e t = absurd (omega (arith, e))
firsts_within region h k n total (s ∷ ss) (row ∷ rows) more good e t =
    let es = row_equations_by s.low s.high k (spread region row) (dot row h) in
    let others = row_equations region h (k + slacks_at s) ss rows in
    let some = (All-head IsRow s ss good).some in
    let count = some_equation s.low s.high k (spread region row) (dot row h) some in
    let joint : (es ++ others) ++ more ≡ es ++ (others ++ more) = append_assoc es others more in
    let total_is : n + (length es + length (others ++ more)) ≡ total = ap (λ (m : ℕ). n + m) (sym (length-append es (others ++ more)) ∙ ap (λ (l : List Equation). length l) (sym joint)) ∙ t in
    subst (All (λ (s : First). s.equation < total))
    (sym (ap (firsts_from n (s ∷ ss)) joint ∙ first_of s.low s.high n ss k (spread region row) (dot row h) (others ++ more) some))
    (All-cons (λ (s : First). s.equation < total) (first n (begins_negated es)) (firsts_from (n + length es) ss (others ++ more)) (omega (arith, count, total_is))
    (firsts_within region h (k + slacks_at s) (n + length es) total ss rows more (All-tail IsRow s ss good) (omega (arith, e)) (omega (arith, total_is))))

keeps : (p : Program) (region : Region) → IsProgram p → length region ≡ length p.columns
    → IsKept (width p region) (width p region) region (firsts_from 0 (sides p) (equations p region)) (form_of p region)
keeps p region good w =
    let f = form_of p region in
    let n = length-cost p region in
    record {
      width = sym n;
      square = sym n;
      form = subst (λ (m : ℕ). IsForm m f) (sym n) (shape p region good w);
      symmetric = subst (λ (m : ℕ). IsSymmetric m f.quadratic) (sym n) (symmetric p region good w);
      parts = omega (arith, n);
      firsts =
          firsts_within region (shift region) 0 0 (length f.right) (sides p) p.entries (bound_equations region (row_slacks (sides p)) 0 region) good.good_rows
          (good.height ∙ sym (length-map p.rows (λ r. r.1))) (let e : length (equations p region) ≡ length f.right = sym (length-map (equations p region) right_of) in omega (arith, e));
    }

-- rows that stand one after another, cut apart
matrix_cut : (rows : List (List ℚ)) (w n height wide : ℕ) (es : List ℚ) → All (λ r. length r ≡ w) rows → length rows ≡ n → height ≡ n → wide ≡ w → es ≡ joined rows
    → (length es ≡ height * wide) × (rows_of wide height es ≡ rows)
matrix_cut rows w n height wide es all l h k e = (
  ap (λ (l : List ℚ). length l) e ∙ length-joined w rows all ∙ ap (λ (i : ℕ). i * w) (l ∙ sym h) ∙ ap (λ (i : ℕ). height * i) (sym k),
  ap (λ (i : ℕ). rows_of i height es) k ∙ ap (λ (i : ℕ). rows_of w i es) (h ∙ sym l) ∙ ap (rows_of w (length rows)) e ∙ rows_of-joined w rows all,
)

pub equations_cut : (p : Program) (region : Region) (l : Laid) (b : Built) (fs : List First) (q c : List ℚ) (c0 : ℚ) (height wide : ℕ) (es : List ℚ) → IsMade p region l b fs q c c0
    → height ≡ length b.right → wide ≡ parts l.region + all_slacks l → es ≡ b.entries → (length es ≡ height * wide) × (rows_of wide height es ≡ (form_of p region).matrix)
equations_cut p region l b fs q c c0 height wide es made h k e =
    let good = shape p region made.program made.columns in
    matrix_cut (form_of p region).matrix (width p region) (length (form_of p region).right) height wide es good.columns (sym good.right)
    (h ∙ ap (λ (l : List ℚ). length l) made.right) (k ∙ ap (λ (l : Laid). parts l.region + all_slacks l) made.layout) (e ∙ made.entries)

pub pairs_cut : (p : Program) (region : Region) (l : Laid) (b : Built) (fs : List First) (q c : List ℚ) (c0 : ℚ) (wide : ℕ) → IsMade p region l b fs q c c0
    → wide ≡ parts l.region + all_slacks l → (length q ≡ wide * wide) × (rows_of wide wide q ≡ (form_of p region).quadratic)
pairs_cut p region l b fs q c c0 wide made k =
    let good = shape p region made.program made.columns in
    let same : wide ≡ width p region = k ∙ ap (λ (l : Laid). parts l.region + all_slacks l) made.layout in
    matrix_cut (form_of p region).quadratic (width p region) (width p region) wide wide q good.pairs_width good.pairs_height same same made.quadratic

same_form : (m n : List (List ℚ)) (r c : List ℚ) (c0 : ℚ) (f : Form) → m ≡ f.matrix → r ≡ f.right → n ≡ f.quadratic → c ≡ f.cost → c0 ≡ f.constant → form_with m r n c c0 ≡ f
same_form m n r c c0 f e g h k l =
    ap (λ (m : List (List ℚ)). form_with m r n c c0) e ∙ ap (λ (r : List ℚ). form_with f.matrix r n c c0) g ∙ ap (λ (n : List (List ℚ)). form_with f.matrix f.right n c c0) h
    ∙ ap (λ (c : List ℚ). form_with f.matrix f.right f.quadratic c c0) k ∙ ap (form_with f.matrix f.right f.quadratic f.cost) l

pub form_is : (p : Program) (region : Region) (l : Laid) (b : Built) (fs : List First) (q c : List ℚ) (c0 : ℚ) (m n : List (List ℚ)) (r : List ℚ) → IsMade p region l b fs q c c0
    → m ≡ (form_of p region).matrix → n ≡ (form_of p region).quadratic → r ≡ b.right → record { matrix = m; right = r; quadratic = n; cost = c; constant = c0 } ≡ form_of p region
form_is p region l b fs q c c0 m n r made e f g = same_form m n r c c0 (form_of p region) e (g ∙ made.right) f made.cost made.constant

pub is_kept : (p : Program) (region bounds : Region) (l : Laid) (b : Built) (fs : List First) (q c : List ℚ) (c0 : ℚ) (w v : ℕ) (f : Form) → IsMade p region l b fs q c c0
    → w ≡ parts l.region + all_slacks l → v ≡ parts l.region + all_slacks l → bounds ≡ l.region → f ≡ form_of p region → IsKept w v bounds fs f
is_kept p region bounds l b fs q c c0 w v f made h k e g =
    let wide : w ≡ width p region = h ∙ ap (λ (l : Laid). parts l.region + all_slacks l) made.layout in
    let high : v ≡ width p region = k ∙ ap (λ (l : Laid). parts l.region + all_slacks l) made.layout in
    let same : bounds ≡ region = e ∙ ap (λ (l : Laid). l.region) made.layout in
    rw (wide, high, same, made.firsts, g) (keeps p region made.program made.columns)

pub formed_is : (p : Program) (region bounds : Region) (l : Laid) (b : Built) (fs : List First) (q c : List ℚ) (c0 : ℚ) (f : Form) → IsMade p region l b fs q c c0 → bounds ≡ l.region → f ≡ form_of p region
    → record { form = f; region = bounds; firsts = fs } ≡ formed p region
formed_is p region bounds l b fs q c c0 f made e g =
    let same : bounds ≡ region = e ∙ ap (λ (l : Laid). l.region) made.layout in
    ap (λ (f : Form). kept f bounds fs) g ∙ ap (λ (bs : Region). kept (form_of p region) bs fs) same ∙ ap (kept (form_of p region) region) made.firsts
  where
    kept : Form → Region → List First → Formed
    kept f bs fs = record { form = f; region = bs; firsts = fs }

-- ---- what the law says of the answer

gives_operations : {A : Type 0} (ops : List Refused) (v f : A) (t : Result A Refused) → Gives max_part ops v t → t ≡ Ok f → All (IsWithin max_part) ops
gives_operations ops v f (Ok x) g e = g.0
gives_operations ops v f (Err r) g e = absurd cc

gives_refusal : {A : Type 0} (ops : List Refused) (v : A) (r : Refused) (t : Result A Refused) → Gives max_part ops v t → t ≡ Err r → IsFirstPast max_part ops r
gives_refusal ops v r (Ok x) g e = absurd cc
gives_refusal ops v r (Err q) g e = let h : q ≡ r = cc in rw (sym h) g

pub operations_are : (p : Program) (region : Region) (answer : Result Formed Stop) → Answers (λ (f : Formed). f.form) answer (form_in max_part p region) → IsAnswerOf (form_ops p region) answer
operations_are p region (Ok f) h = gives_operations (form_ops p region) (form_of p region) f.form (form_in max_part p region) (form_gives max_part p region) h
operations_are p region (Err (Past r)) h = gives_refusal (form_ops p region) (form_of p region) r (form_in max_part p region) (form_gives max_part p region) h
operations_are p region (Err Memory) h = tt

pub is_stopped : (e : Stop) (t : Result Form Refused) → Stops e t → Answers (λ (f : Formed). f.form) (Err e) t
is_stopped Memory t h = tt
is_stopped (Past r) t h = h
