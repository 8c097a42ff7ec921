-- An earned tree has no more leaves than there are choices of whole values for the marked columns.
use Rattle.std.specs.Prelude.{◌≡◌, ℕ, zero, suc, ◌+◌, ◌*◌, ◌≤◌, ℤ, pos, negsuc, ◌+ℤ◌, ◌-ℤ◌, ◌≤ℤ◌, List, [], ◌∷◌, ◌++◌, length, All, Option, Some, None, IfSome, IsSome, Bool, true, false}
use Rattle.std.proofs.Common.{refl, sym, ◌∙◌, ap, subst, cond, arith, inl, inr}
use Rattle.std.proofs.lemmas.Int.{ints}
use Rattle.std.proofs.lemmas.List.{length-map}
use Rattle.std.proofs.lemmas.List.Elements.{All-nil, All-cons, All-head, All-tail}
use Rattle.std.proofs.Math.Nat.{mul-le-mul_left, mul-le-mul_right}
use Rattle.rational.specs.Rational.{ℚ, whole}
use Rattle.rational.specs.Order.{◌≤ℚ◌}
use Rattle.rational.specs.Rounding.{floor_of, ceiling_of}
use Rattle.rational.specs.Vectors.{IsSemidefinite}
use Rattle.rational.proofs.Order.{lt_le, le_refl, le_or_lt}
use Rattle.rational.proofs.OrderLaws.{le_of_eq, le_trans}
use Rattle.rational.proofs.Wholes.{as_whole}
use Rattle.rational.specs.Tests.{is_le}
use Rattle.program_law.proofs.Numbers.{le_tested, lt_tested}
use Rattle.program_law.specs.declared.Row.{Row}
use Rattle.program_law.specs.Region.{Region, smaller, larger, left_of, right_of, IsCrossedRegion, bounds_at}
use Rattle.program_law.specs.Program.{Program, IsProgram, bounds, marks, is_marked}
use Rattle.program_law.specs.Columns.{IsWhole}
use Rattle.certificate_law.specs.declared.Node.{Node}
use Rattle.certificate_law.specs.declared.Node.TheVariants.{Branch, Bound, Farkas, Cross}
use Rattle.branching_law.specs.declared.Cut.{Cut}
use Rattle.branching_law.specs.declared.Cut.TheVariants.{Below, Above}
use Rattle.branching_law.specs.declared.Turn.{Turn}
use Rattle.branching_law.specs.Paths.{half_of, behind, region_behind, region_of, below, above}
use Rattle.branching_law.specs.Nodes.{Search}
use Rattle.branching_law.specs.Search.{after, AreTaken, IsEarned, branches}
use Rattle.branching_law.specs.Wholes.{AreBounded, leaf_paths, count_to, wholes_between, choices}
use Rattle.branching_law.proofs.PathRegions.{behind_last}
use Rattle.branching_law.proofs.Floors.{floor_rises, ceiling_rises, floor_whole, ceiling_whole, ceiling_at_most, floor_at_least}
use Rattle.branching_law.proofs.Trees.{wide}
use Rattle.branching_law.proofs.Grids.{IsGridRow, AreGrid, IsSplit, smaller_split, larger_split}
use Rattle.branching_law.proofs.ApartLeaves.{split_at, below_grid_of, above_grid_of, root_grid}

-- ---- counts of whole numbers

count_is : (d : ℤ) → pos 0 ≤ℤ d → pos (count_to d) ≡ d +ℤ pos 1
count_is (pos n) h = omega (arith, ints)
count_is (negsuc n) h = absurd (bad n h)
  where
    bad : (n : ℕ) → pos 0 ≤ℤ negsuc n → ⊥
    bad n h = omega (arith, ints)

count_rises : (c d : ℤ) → c ≤ℤ d → count_to c ≤ count_to d
count_rises (pos m) (pos n) h = omega (arith, ints)
count_rises (pos m) (negsuc n) h = absurd (bad m n h)
  where
    bad : (m n : ℕ) → pos m ≤ℤ negsuc n → ⊥
    bad m n h = omega (arith, ints)
count_rises (negsuc m) d h = omega arith

count_split : (a k c : ℤ) → a ≤ℤ k → (k +ℤ pos 1) ≤ℤ c → count_to (k -ℤ a) + count_to (c -ℤ (k +ℤ pos 1)) ≡ count_to (c -ℤ a)
count_split a k c h l =
    let e = count_is (k -ℤ a) (omega (arith, ints)) in
    let f = count_is (c -ℤ (k +ℤ pos 1)) (omega (arith, ints)) in
    let g = count_is (c -ℤ a) (omega (arith, ints)) in
    by (count_to (k -ℤ a)) (count_to (c -ℤ (k +ℤ pos 1))) (count_to (c -ℤ a)) e f g
  where
    by : (x y z : ℕ) → pos x ≡ (k -ℤ a) +ℤ pos 1 → pos y ≡ (c -ℤ (k +ℤ pos 1)) +ℤ pos 1 → pos z ≡ (c -ℤ a) +ℤ pos 1 → x + y ≡ z
    by x y z e f g = omega (arith, ints)

-- both bounds are there
abbrev pub IsBoundedRow : Row → Type 0
IsBoundedRow b = IsSome b.low × IsSome b.high

abbrev nothing : Option ℚ
nothing = None

not_there : {P : Type 0} → IsSome nothing → P
not_there e = absurd (bad e)
  where
    bad : IsSome nothing → ⊥
    bad e = cc

split_counts : (l u : Option ℚ) (k : ℤ) → IsSome l → IsSome u → IfSome l (λ l. l ≤ℚ whole k) → IfSome u (λ u. whole (k +ℤ pos 1) ≤ℚ u)
    → wholes_between l (Some (whole k)) + wholes_between (Some (whole (k +ℤ pos 1))) u ≡ wholes_between l u
split_counts None u k a b h i = not_there a
split_counts (Some l) None k a b h i = not_there b
split_counts (Some l) (Some u) k a b h i =
    ap (λ t. count_to (t -ℤ ceiling_of l) + count_to (floor_of u -ℤ ceiling_of (whole (k +ℤ pos 1)))) (floor_whole k)
    ∙ ap (λ t. count_to (k -ℤ ceiling_of l) + count_to (floor_of u -ℤ t)) (ceiling_whole (k +ℤ pos 1))
    ∙ count_split (ceiling_of l) k (floor_of u) (ceiling_at_most k l h) (floor_at_least (k +ℤ pos 1) u i)

row_split : (b : Row) (k : ℤ) → IsBoundedRow b → IsSplit k b
    → wholes_between b.low (smaller b.high (whole k)) + wholes_between (larger b.low (whole (k +ℤ pos 1))) b.high ≡ wholes_between b.low b.high
row_split b k s h =
    ap (λ t. wholes_between b.low t + wholes_between (larger b.low (whole (k +ℤ pos 1))) b.high) (smaller_split b.high k h.high)
    ∙ ap (λ t. wholes_between b.low (Some (whole k)) + wholes_between t b.high) (larger_split b.low k h.low)
    ∙ split_counts b.low b.high k s.0 s.1 h.low h.high

least : (d : ℤ) (n : ℕ) → pos 0 ≤ℤ d → pos n ≡ d +ℤ pos 1 → 1 ≤ n
least d n h e = omega (arith, ints)

one_at_least : (d : ℤ) → pos 0 ≤ℤ d → 1 ≤ count_to d
one_at_least d h = least d (count_to d) h (count_is d h)

row_some : (b : Row) → IsGridRow b → IsBoundedRow b → 1 ≤ wholes_between b.low b.high
row_some b g s = by b.low b.high refl refl s.0 s.1
  where
    by : (l u : Option ℚ) → b.low ≡ l → b.high ≡ u → IsSome l → IsSome u → 1 ≤ wholes_between l u
    by None u e f a c = not_there a
    by (Some l) None e f a c = not_there c
    by (Some l) (Some u) e f a c =
        let is : l ≡ whole l.num = as_whole l (subst (λ (o : Option ℚ). IfSome o IsWhole) e g.low) in
        let ordered : l ≤ℚ u =
        elim (le_or_lt l u) [ inl h ↦ h | inr h ↦ absurd (g.ordered (record { low = l; high = u; has_low = e; has_high = f; above = h })) ] in
        let low : ceiling_of l ≤ℤ l.num = ceiling_at_most l.num l (le_of_eq is) in
        let high : l.num ≤ℤ floor_of u = floor_at_least l.num u (le_trans (le_of_eq (sym is)) ordered) in
        one_at_least (floor_of u -ℤ ceiling_of l) (omega (arith, ints))

-- ---- choices

abbrev pub AreBoundedRows : List Bool → Region → Type 0
AreBoundedRows [] bs = Unit {0}
AreBoundedRows (m ∷ ms) [] = Unit {0}
AreBoundedRows (m ∷ ms) (b ∷ bs) = (m ≡ true → IsBoundedRow b) × AreBoundedRows ms bs

bounded_by : (ms : List Bool) (bs : Region) → ((j : ℕ) → is_marked ms j ≡ true → IsBoundedRow (bounds_at bs j)) → AreBoundedRows ms bs
bounded_by [] bs h = tt
bounded_by (m ∷ ms) [] h = tt
bounded_by (m ∷ ms) (b ∷ bs) h = (h zero, bounded_by ms bs (λ j. h (suc j)))

smaller_there : (o : Option ℚ) (k : ℚ) → IsSome (smaller o k)
smaller_there None k = refl
smaller_there (Some h) k = refl

larger_there : (o : Option ℚ) (k : ℚ) → IsSome (larger o k)
larger_there None k = refl
larger_there (Some h) k = refl

bounded_half : (c : Cut) (ms : List Bool) (bs : Region) (j : ℕ) (k : ℤ) → AreBoundedRows ms bs → AreBoundedRows ms (half_of c bs j k)
bounded_half Below [] bs j k h = tt
bounded_half Above [] bs j k h = tt
bounded_half Below (m ∷ ms) [] j k h = tt
bounded_half Above (m ∷ ms) [] j k h = tt
bounded_half Below (m ∷ ms) (b ∷ bs) zero k h = ((λ e. ((h.0 e).0, smaller_there b.high _)), h.1)
bounded_half Above (m ∷ ms) (b ∷ bs) zero k h = ((λ e. (larger_there b.low _, (h.0 e).1)), h.1)
bounded_half Below (m ∷ ms) (b ∷ bs) (suc j) k h = (h.0, bounded_half Below ms bs j k h.1)
bounded_half Above (m ∷ ms) (b ∷ bs) (suc j) k h = (h.0, bounded_half Above ms bs j k h.1)

one_product : (a b : ℕ) → 1 ≤ a → 1 ≤ b → 1 ≤ a * b
one_product a b h k = omega (arith, mul-le-mul_left a k)

choices_some : (ms : List Bool) (bs : Region) → AreGrid ms bs → AreBoundedRows ms bs → 1 ≤ choices ms bs
choices_some [] bs g h = omega arith
choices_some (m ∷ ms) [] g h = omega arith
choices_some (true ∷ ms) (b ∷ bs) g h = one_product (wholes_between b.low b.high) (choices ms bs) (row_some b (g.0 refl) (h.0 refl)) (choices_some ms bs g.1 h.1)
choices_some (false ∷ ms) (b ∷ bs) g h = choices_some ms bs g.1 h.1

product_left : (a b c t : ℕ) → a + b ≡ c → a * t + b * t ≡ c * t
product_left a b c t e = subst (λ n. a * t + b * t ≡ n * t) e (omega arith)

product_right : (w a b c : ℕ) → a + b ≡ c → w * a + w * b ≡ w * c
product_right w a b c e = subst (λ n. w * a + w * b ≡ w * n) e (omega arith)

not_marked : {P : Type 0} → false ≡ true → P
not_marked e = absurd (bad e)
  where
    bad : false ≡ true → ⊥
    bad e = cc

past_marks : {P : Type 0} (j : ℕ) → is_marked [] j ≡ true → P
past_marks j e = not_marked e

shorter : (n : ℕ) → 0 ≡ suc n → ⊥
shorter n e = omega arith

less_one : (a b : ℕ) → suc a ≡ suc b → a ≡ b
less_one a b e = omega arith

choices_split : (ms : List Bool) (bs : Region) (j : ℕ) (k : ℤ) → length bs ≡ length ms → is_marked ms j ≡ true → AreBoundedRows ms bs → IsSplit k (bounds_at bs j)
    → choices ms (left_of bs j k) + choices ms (right_of bs j k) ≡ choices ms bs
choices_split [] bs j k e m h s = past_marks j m
choices_split (b ∷ ms) [] j k e m h s = absurd (shorter (length ms) e)
choices_split (true ∷ ms) (b ∷ bs) zero k e m h s =
    product_left (wholes_between b.low (smaller b.high (whole k))) (wholes_between (larger b.low (whole (k +ℤ pos 1))) b.high) (wholes_between b.low b.high) (choices ms bs) (row_split b k (h.0 refl) s)
choices_split (false ∷ ms) (b ∷ bs) zero k e m h s = not_marked m
choices_split (true ∷ ms) (b ∷ bs) (suc j) k e m h s =
    product_right (wholes_between b.low b.high) (choices ms (left_of bs j k)) (choices ms (right_of bs j k)) (choices ms bs) (choices_split ms bs j k (less_one (length bs) (length ms) e) m h.1 s)
choices_split (false ∷ ms) (b ∷ bs) (suc j) k e m h s = choices_split ms bs j k (less_one (length bs) (length ms) e) m h.1 s

-- ---- rounding adds no choice

smaller_falls : (u : ℚ) (k : ℚ) → (h : ℚ) × (smaller (Some u) k ≡ Some h) × (h ≤ℚ u)
smaller_falls u k = by (is_le u k) refl
  where
    by : (b : Bool) → is_le u k ≡ b → (h : ℚ) × (Some (cond b u k) ≡ Some h) × (h ≤ℚ u)
    by true e = (u, refl, le_refl u)
    by false e = (k, refl, lt_le k u (lt_tested u k e))

larger_rises : (l : ℚ) (k : ℚ) → (h : ℚ) × (larger (Some l) k ≡ Some h) × (l ≤ℚ h)
larger_rises l k = by (is_le l k) refl
  where
    by : (b : Bool) → is_le l k ≡ b → (h : ℚ) × (Some (cond b k l) ≡ Some h) × (l ≤ℚ h)
    by true e = (k, refl, le_tested l k e)
    by false e = (l, refl, le_refl l)

fewer_below : (l u : Option ℚ) (k : ℚ) → IsSome u → wholes_between l (smaller u k) ≤ wholes_between l u
fewer_below l None k s = not_there s
fewer_below None (Some u) k s = omega arith
fewer_below (Some l) (Some u) k s =
    let h = smaller_falls u k in
    let r = floor_rises h.0 u h.2 in
    subst (λ t. wholes_between (Some l) t ≤ wholes_between (Some l) (Some u)) (sym h.1) (count_rises (floor_of h.0 -ℤ ceiling_of l) (floor_of u -ℤ ceiling_of l) (omega (arith, ints)))

fewer_above : (l u : Option ℚ) (k : ℚ) → IsSome l → IsSome u → wholes_between (larger l k) u ≤ wholes_between l u
fewer_above None u k a s = not_there a
fewer_above (Some l) None k a s = not_there s
fewer_above (Some l) (Some u) k a s =
    let h = larger_rises l k in
    let r = ceiling_rises l h.0 h.2 in
    subst (λ t. wholes_between t (Some u) ≤ wholes_between (Some l) (Some u)) (sym h.1) (count_rises (floor_of u -ℤ ceiling_of h.0) (floor_of u -ℤ ceiling_of l) (omega (arith, ints)))

fewer_choices : (c : Cut) (ms : List Bool) (bs : Region) (j : ℕ) (k : ℤ) → AreBoundedRows ms bs → choices ms (half_of c bs j k) ≤ choices ms bs
fewer_choices Below [] bs j k h = omega arith
fewer_choices Above [] bs j k h = omega arith
fewer_choices Below (m ∷ ms) [] j k h = omega arith
fewer_choices Above (m ∷ ms) [] j k h = omega arith
fewer_choices Below (true ∷ ms) (b ∷ bs) zero k h = mul-le-mul_right (choices ms bs) (fewer_below b.low b.high _ (h.0 refl).1)
fewer_choices Above (true ∷ ms) (b ∷ bs) zero k h = mul-le-mul_right (choices ms bs) (fewer_above b.low b.high _ (h.0 refl).0 (h.0 refl).1)
fewer_choices Below (false ∷ ms) (b ∷ bs) zero k h = omega arith
fewer_choices Above (false ∷ ms) (b ∷ bs) zero k h = omega arith
fewer_choices Below (true ∷ ms) (b ∷ bs) (suc j) k h = mul-le-mul_left (wholes_between b.low b.high) (fewer_choices Below ms bs j k h.1)
fewer_choices Above (true ∷ ms) (b ∷ bs) (suc j) k h = mul-le-mul_left (wholes_between b.low b.high) (fewer_choices Above ms bs j k h.1)
fewer_choices Below (false ∷ ms) (b ∷ bs) (suc j) k h = fewer_choices Below ms bs j k h.1
fewer_choices Above (false ∷ ms) (b ∷ bs) (suc j) k h = fewer_choices Above ms bs j k h.1

bounded_behind : (ms : List Bool) (bs : Region) (path : List Turn) → AreBoundedRows ms bs → AreBoundedRows ms (region_behind bs path)
bounded_behind ms bs [] h = h
bounded_behind ms bs (t ∷ path) h = bounded_behind ms (behind bs t) path (bounded_half t.cut ms bs t.column t.k h)

choices_behind : (ms : List Bool) (bs : Region) (path : List Turn) → AreBoundedRows ms bs → choices ms (region_behind bs path) ≤ choices ms bs
choices_behind ms bs [] h = omega arith
choices_behind ms bs (t ∷ path) h =
    let a = choices_behind ms (behind bs t) path (bounded_half t.cut ms bs t.column t.k h) in
    let b = fewer_choices t.cut ms bs t.column t.k h in
    omega (arith, a, b)

-- ---- the leaves of a tree

pub leaves_count : (aim : Search) (p : Program) (bases : ℕ) (points : List (List ℚ)) (waiting left : List (List Turn)) (nodes : List Node) → AreTaken aim p bases points waiting nodes left
    → length (leaf_paths waiting nodes) ≡ length waiting + branches nodes
leaves_count aim p bases points waiting left [] taken = omega arith
leaves_count aim p bases points [] left (n ∷ ns) taken = absurd taken
leaves_count aim p bases points (path ∷ waiting) left (Branch j k ∷ ns) taken = let e = leaves_count aim p bases points (after (Branch j k) path waiting) left ns taken.1 in omega (arith, e)
leaves_count aim p bases points (path ∷ waiting) left (Bound x y ∷ ns) taken = let e = leaves_count aim p bases (points ++ x ∷ []) waiting left ns taken.1 in omega (arith, e)
leaves_count aim p bases points (path ∷ waiting) left (Farkas y ∷ ns) taken = let e = leaves_count aim p bases points waiting left ns taken.1 in omega (arith, e)
leaves_count aim p bases points (path ∷ waiting) left (Cross j ∷ ns) taken = let e = leaves_count aim p bases points waiting left ns taken.1 in omega (arith, e)

module _ (p : Program) (is : IsProgram p) (aim : Search) (bases : ℕ) (convex : IsSemidefinite (length p.columns) p.pairs) (bounded : AreBoundedRows (marks p) (bounds p)) where
  abbrev size : List Turn → ℕ
  size path = choices (marks p) (region_of p path)

  abbrev total : List (List Turn) → ℕ
  total [] = 0
  total (path ∷ waiting) = size path + total waiting

  abbrev Grid : List Turn → Type 0
  Grid path = AreGrid (marks p) (region_of p path)

  bounded_at : (path : List Turn) → AreBoundedRows (marks p) (region_of p path)
  bounded_at path = bounded_behind (marks p) (bounds p) path bounded

  size_some : (path : List Turn) → Grid path → 1 ≤ size path
  size_some path g = choices_some (marks p) (region_of p path) g (bounded_at path)

  total_some : (waiting : List (List Turn)) → All Grid waiting → length waiting ≤ total waiting
  total_some [] h = omega arith
  total_some (path ∷ waiting) h =
      let a = size_some path (All-head Grid path waiting h) in
      let b = total_some waiting (All-tail Grid path waiting h) in
      omega (arith, a, b)

  size_split : (path : List Turn) (j : ℕ) (k : ℤ) → is_marked (marks p) j ≡ true → IsSplit k (bounds_at (region_of p path) j)
      → size (path ++ below j k ∷ []) + size (path ++ above j k ∷ []) ≡ size path
  size_split path j k m s =
      ap (λ r. choices (marks p) r + size (path ++ above j k ∷ [])) (behind_last (bounds p) path (below j k))
      ∙ ap (λ r. choices (marks p) (left_of (region_of p path) j k) + choices (marks p) r) (behind_last (bounds p) path (above j k))
      ∙ choices_split (marks p) (region_of p path) j k (wide p path ∙ sym (length-map p.columns _)) m (bounded_at path) s

  counted : (points : List (List ℚ)) (waiting left : List (List Turn)) (nodes : List Node) → AreTaken aim p bases points waiting nodes left → All Grid waiting
      → length waiting + branches nodes ≤ total waiting
  counted points waiting left [] taken h = let a = total_some waiting h in omega (arith, a)
  counted points [] left (n ∷ ns) taken h = absurd taken
  counted points (path ∷ waiting) left (Branch j k ∷ ns) taken h =
      let g = All-head Grid path waiting h in
      let s = split_at p is aim bases convex points path j k g taken.0 in
      let e = size_split path j k taken.0.branch.first.holds.marked s in
      let i = counted points (after (Branch j k) path waiting) left ns taken.1
      (All-cons Grid (path ++ below j k ∷ []) ((path ++ above j k ∷ []) ∷ waiting) (below_grid_of p is aim bases path j k g s)
      (All-cons Grid (path ++ above j k ∷ []) waiting (above_grid_of p is aim bases path j k g s) (All-tail Grid path waiting h))) in
      omega (arith, e, i)
  counted points (path ∷ waiting) left (Bound x y ∷ ns) taken h =
      let a = size_some path (All-head Grid path waiting h) in
      let i = counted (points ++ x ∷ []) waiting left ns taken.1 (All-tail Grid path waiting h) in
      omega (arith, a, i)
  counted points (path ∷ waiting) left (Farkas y ∷ ns) taken h =
      let a = size_some path (All-head Grid path waiting h) in
      let i = counted points waiting left ns taken.1 (All-tail Grid path waiting h) in
      omega (arith, a, i)
  counted points (path ∷ waiting) left (Cross j ∷ ns) taken h =
      let a = size_some path (All-head Grid path waiting h) in
      let i = counted points waiting left ns taken.1 (All-tail Grid path waiting h) in
      omega (arith, a, i)

pub few_leaves : (aim : Search) (p : Program) (bases : ℕ) (turns : List Turn) (nodes : List Node) (left : List (List Turn)) → IsProgram p → IsEarned aim p bases turns nodes left
    → (IsCrossedRegion (region_of p turns) → ⊥) → AreBounded p (bounds p) → branches nodes + 1 ≤ choices (marks p) (bounds p)
few_leaves aim p bases turns nodes left is earned uncrossed bounded =
    let rows = bounded_by (marks p) (bounds p) bounded in
    let c = counted p is aim bases earned.convex rows [] (turns ∷ []) left nodes earned.taken
    (All-cons (λ path. AreGrid (marks p) (region_of p path)) turns [] (root_grid p is aim bases turns earned.rounding uncrossed) (All-nil (λ path. AreGrid (marks p) (region_of p path)))) in
    let d = choices_behind (marks p) (bounds p) turns rows in
    omega (arith, c, d)
