-- The sizes of an earned tree's nodes.
use Rattle.std.specs.Prelude.{◌≡◌, ℕ, zero, suc, ◌+◌, ◌<◌, ℤ, List, [], ◌∷◌, ◌++◌, length, None, Bool, true, false}
use Rattle.std.specs.List.{AllByRecursion}
use Rattle.std.proofs.Common.{refl, ◌∙◌, ap, subst, arith, inl, inr}
use Rattle.std.proofs.lemmas.List.{length-map}
use Rattle.std.proofs.lemmas.List.Elements.{Contains-append_left, Contains-append_right}
use Rattle.rational.specs.Rational.{ℚ}
use Rattle.rational.specs.Vectors.{IsSemidefinite}
use Rattle.program_law.specs.declared.Row.{Row}
use Rattle.program_law.specs.Region.{Region, IsCrossedAt}
use Rattle.program_law.specs.Program.{Program, IsProgram, bounds, marks, sides, is_marked}
use Rattle.program_law.specs.Columns.{AllWithin, value}
use Rattle.certificate_law.specs.declared.Node.{Node}
use Rattle.certificate_law.specs.declared.Node.TheVariants.{Branch, Bound, Farkas, Cross}
use Rattle.certificate_law.specs.Nodes.{AreTrees, IsOneTree}
use Rattle.certificate_law.specs.Fits.{FitsNode, HasNoBound}
use Rattle.equational_law.specs.Form.{equations, multipliers_of, firsts, unsigned}
use Rattle.quad_solve_law.specs.Answer.{IsEmpty, IsBest}
use Rattle.quad_solve_law.proofs.RegionAnswers.{best_is_point}
use Rattle.branching_law.specs.declared.Cut.{Cut}
use Rattle.branching_law.specs.declared.Cut.TheVariants.{Below, Above}
use Rattle.branching_law.specs.declared.Turn.{Turn}
use Rattle.branching_law.specs.Paths.{behind, region_of}
use Rattle.branching_law.specs.Rounding.{IsMarkedAt, AreRoundingTurns, under_turn, under_rounding}
use Rattle.branching_law.specs.Nodes.{Search, ForBest, ForPoint}
use Rattle.branching_law.specs.Search.{after, AreTaken, IsEarned, branches, points_of}
use Rattle.branching_law.specs.Found.{IsIncumbent}
use Rattle.branching_law.specs.Sizes.{HasNodeSizes, HasNumber, IsBranchNumber}
use Rattle.branching_law.proofs.Trees.{wide, first_of}

-- ---- columns and lengths

length-firsts : (ss : List Row) (ys : List ℚ) → length (firsts ss ys) ≡ length ss
length-firsts [] ys = refl
length-firsts (s ∷ ss) ys = ap suc (length-firsts ss _)

multipliers_size : (p : Program) (region : Region) (ys : List ℚ) → length (multipliers_of p region ys) ≡ length p.rows
multipliers_size p region ys = length-firsts (sides p) (unsigned (equations p region) ys) ∙ length-map p.rows _

within_size : (region : Region) (x : List ℚ) → AllWithin region x → length x ≡ length region
within_size [] [] h = refl
within_size [] (x ∷ xs) h = absurd h
within_size (b ∷ bs) [] h = absurd h
within_size (b ∷ bs) (x ∷ xs) h = ap suc (within_size bs xs h.1)

crossed_within : (region : Region) (j : ℕ) → IsCrossedAt region j → j < length region
crossed_within [] j h = absurd h
crossed_within (b ∷ bs) zero h = omega arith
crossed_within (b ∷ bs) (suc j) h = omega (arith, crossed_within bs j h)

marked_below : (ms : List Bool) (j : ℕ) → is_marked ms j ≡ true → j < length ms
marked_below [] j e = absurd (bad e)
  where
    bad : false ≡ true → ⊥
    bad e = cc
marked_below (m ∷ ms) zero e = omega arith
marked_below (m ∷ ms) (suc j) e = omega (arith, marked_below ms j e)

pub marked_column : (p : Program) (j : ℕ) → IsMarkedAt p j → j < length p.columns
marked_column p j m = subst (λ (n : ℕ). j < n) (length-map p.columns _) (marked_below (marks p) j m)

module _ (p : Program) (is : IsProgram p) (convex : IsSemidefinite (length p.columns) p.pairs) (bases : ℕ) where
  best_sizes : (path : List Turn) (x y : List ℚ) → IsBest p (region_of p path) bases x (value p x) y → HasNodeSizes p (Bound x y)
  best_sizes path x y h = (
    within_size (region_of p path) x (best_is_point p (region_of p path) is (wide p path) convex bases x (value p x) y h).columns ∙ wide p path,
    ap (λ (l : List ℚ). length l) h.multipliers ∙ multipliers_size p (region_of p path) _,
  )

  empty_sizes : (path : List Turn) (y : List ℚ) → IsEmpty p (region_of p path) bases y → HasNodeSizes p (Farkas y)
  empty_sizes path y h = ap (λ (l : List ℚ). length l) h.multipliers ∙ multipliers_size p (region_of p path) _

  pub node_sizes : (aim : Search) (points : List (List ℚ)) (waiting left : List (List Turn)) (nodes : List Node) → AreTaken aim p bases points waiting nodes left → AllByRecursion (HasNodeSizes p) nodes
  node_sizes aim points waiting left [] taken = tt
  node_sizes aim points [] left (n ∷ ns) taken = absurd taken
  node_sizes aim points (path ∷ waiting) left (Branch j k ∷ ns) taken =
      (marked_column p j taken.0.branch.first.holds.marked, node_sizes aim points (after (Branch j k) path waiting) left ns taken.1)
  node_sizes ForBest points (path ∷ waiting) left (Bound x y ∷ ns) taken = (best_sizes path x y taken.0.best, node_sizes ForBest (points ++ x ∷ []) waiting left ns taken.1)
  node_sizes ForPoint points (path ∷ waiting) left (Bound x y ∷ ns) taken = absurd taken.0
  node_sizes aim points (path ∷ waiting) left (Farkas y ∷ ns) taken = (empty_sizes path y taken.0.empty, node_sizes aim points waiting left ns taken.1)
  node_sizes aim points (path ∷ waiting) left (Cross j ∷ ns) taken =
      (subst (λ (n : ℕ). j < n) (wide p path) (crossed_within (region_of p path) j taken.0.holds), node_sizes aim points waiting left ns taken.1)

-- ---- below rounding

all_after : {A : Type 0} (P : A → Type 0) (xs ys : List A) → AllByRecursion P xs → AllByRecursion P ys → AllByRecursion P (xs ++ ys)
all_after P [] ys h k = k
all_after P (x ∷ xs) ys h k = (h.0, all_after P xs ys h.1 k)

under_sizes : (p : Program) (c : Cut) (j : ℕ) (k : ℤ) (nodes : List Node) → j < length p.columns → AllByRecursion (HasNodeSizes p) nodes → AllByRecursion (HasNodeSizes p) (under_turn c j k nodes)
under_sizes p Above j k nodes l h = (l, (l, h))
under_sizes p Below j k nodes l h = (l, all_after (HasNodeSizes p) nodes (Cross j ∷ []) h (l, tt))

rounded_sizes : (p : Program) (region : Region) (turns : List Turn) (nodes : List Node) → AreRoundingTurns p region turns → AllByRecursion (HasNodeSizes p) nodes
    → AllByRecursion (HasNodeSizes p) (under_rounding turns nodes)
rounded_sizes p region [] nodes r h = h
rounded_sizes p region (t ∷ turns) nodes r h =
    under_sizes p t.cut t.column t.k (under_rounding turns nodes) (marked_column p t.column r.0.first.holds.marked) (rounded_sizes p (behind region t) turns nodes r.1 h)

pub rounding_sizes : (p : Program) (turns : List Turn) (nodes : List Node) → AreRoundingTurns p (bounds p) turns → AllByRecursion (HasNodeSizes p) nodes → AllByRecursion (HasNodeSizes p) (under_rounding turns nodes)
rounding_sizes p turns nodes r h = rounded_sizes p (bounds p) turns nodes r h

under_numbers : (c : Cut) (j : ℕ) (k : ℤ) (nodes : List Node) → IsBranchNumber k → AllByRecursion HasNumber nodes → AllByRecursion HasNumber (under_turn c j k nodes)
under_numbers Above j k nodes l h = (l, (tt, h))
under_numbers Below j k nodes l h = (l, all_after HasNumber nodes (Cross j ∷ []) h (tt, tt))

pub rounding_numbers : (turns : List Turn) (nodes : List Node) → AllByRecursion (λ t. IsBranchNumber t.k) turns → AllByRecursion HasNumber nodes → AllByRecursion HasNumber (under_rounding turns nodes)
rounding_numbers [] nodes r h = h
rounding_numbers (t ∷ turns) nodes r h = under_numbers t.cut t.column t.k (under_rounding turns nodes) r.0 (rounding_numbers turns nodes r.1 h)

pub both_fit : (p : Program) (nodes : List Node) → AllByRecursion (HasNodeSizes p) nodes → AllByRecursion HasNumber nodes → AllByRecursion (FitsNode p) nodes
both_fit p [] h k = tt
both_fit p (Branch j i ∷ ns) h k = ((h.0, k.0), both_fit p ns h.1 k.1)
both_fit p (Bound x y ∷ ns) h k = (h.0, both_fit p ns h.1 k.1)
both_fit p (Farkas y ∷ ns) h k = (h.0, both_fit p ns h.1 k.1)
both_fit p (Cross j ∷ ns) h k = (h.0, both_fit p ns h.1 k.1)

-- ---- counts

nodes_count : (w : ℕ) (nodes : List Node) → AreTrees w nodes → length nodes ≡ branches nodes + branches nodes + w
nodes_count zero [] t = omega arith
nodes_count zero (n ∷ ns) t = absurd t
nodes_count (suc w) [] t = absurd t
nodes_count (suc w) (Branch j k ∷ ns) t = let e = nodes_count (suc (suc w)) ns t in omega (arith, e)
nodes_count (suc w) (Bound x y ∷ ns) t = let e = nodes_count w ns t in omega (arith, e)
nodes_count (suc w) (Farkas y ∷ ns) t = let e = nodes_count w ns t in omega (arith, e)
nodes_count (suc w) (Cross j ∷ ns) t = let e = nodes_count w ns t in omega (arith, e)

pub one_tree_count : (nodes : List Node) → IsOneTree nodes → length nodes ≡ branches nodes + branches nodes + 1
one_tree_count nodes t = nodes_count 1 nodes t

-- ---- no BOUND leaf

no_bounds : (aim : Search) (p : Program) (bases : ℕ) (points : List (List ℚ)) (waiting left : List (List Turn)) (nodes : List Node) → AreTaken aim p bases points waiting nodes left
    → IsIncumbent p (points ++ points_of nodes) None → HasNoBound nodes
no_bounds aim p bases points waiting left [] taken none = tt
no_bounds aim p bases points [] left (n ∷ ns) taken none = absurd taken
no_bounds aim p bases points (path ∷ waiting) left (Branch j k ∷ ns) taken none = no_bounds aim p bases points (after (Branch j k) path waiting) left ns taken.1 none
no_bounds ForBest p bases points (path ∷ waiting) left (Bound x y ∷ ns) taken none =
    elim taken.0.closed [
      | inl w ↦ none x (record { among = Contains-append_right points (x ∷ points_of ns) x (first_of x (points_of ns)); whole = w })
      | inr k ↦ none k.0 (record { among = Contains-append_left points (x ∷ points_of ns) k.0 k.1.among; whole = k.1.whole })
    ]
no_bounds ForPoint p bases points (path ∷ waiting) left (Bound x y ∷ ns) taken none = absurd taken.0
no_bounds aim p bases points (path ∷ waiting) left (Farkas y ∷ ns) taken none = no_bounds aim p bases points waiting left ns taken.1 none
no_bounds aim p bases points (path ∷ waiting) left (Cross j ∷ ns) taken none = no_bounds aim p bases points waiting left ns taken.1 none

no_bound_then : (ns : List Node) (j : ℕ) → HasNoBound ns → HasNoBound (ns ++ Cross j ∷ [])
no_bound_then [] j h = tt
no_bound_then (Branch i k ∷ ns) j h = no_bound_then ns j h
no_bound_then (Bound x y ∷ ns) j h = absurd h
no_bound_then (Farkas y ∷ ns) j h = no_bound_then ns j h
no_bound_then (Cross i ∷ ns) j h = no_bound_then ns j h

no_bound_under : (c : Cut) (j : ℕ) (k : ℤ) (nodes : List Node) → HasNoBound nodes → HasNoBound (under_turn c j k nodes)
no_bound_under Above j k nodes h = h
no_bound_under Below j k nodes h = no_bound_then nodes j h

no_bound_rounding : (turns : List Turn) (nodes : List Node) → HasNoBound nodes → HasNoBound (under_rounding turns nodes)
no_bound_rounding [] nodes h = h
no_bound_rounding (t ∷ turns) nodes h = no_bound_under t.cut t.column t.k (under_rounding turns nodes) (no_bound_rounding turns nodes h)

pub earned_no_bound : (aim : Search) (p : Program) (bases : ℕ) (turns : List Turn) (nodes : List Node) (left : List (List Turn)) → IsEarned aim p bases turns nodes left
    → IsIncumbent p (points_of nodes) None → HasNoBound (under_rounding turns nodes)
earned_no_bound aim p bases turns nodes left earned none = no_bound_rounding turns nodes (no_bounds aim p bases [] (turns ∷ []) left nodes earned.taken none)
