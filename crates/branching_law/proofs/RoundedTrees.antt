-- Trees below rounding branches: the side that rounding leaves is crossed.
use Rattle.std.specs.Prelude.{◌≡◌, ℕ, zero, suc, ◌+◌, ℤ, pos, ◌+ℤ◌, List, [], ◌∷◌, ◌++◌, length, Option, Some, None, Bool, true, false}
use Rattle.std.proofs.Common.{refl, cond, arith}
use Rattle.rational.specs.Rational.{ℚ, whole}
use Rattle.rational.specs.Order.{◌≤ℚ◌}
use Rattle.rational.proofs.Order.{lt_le, le_refl}
use Rattle.rational.proofs.OrderLaws.{le-lt_trans, lt-le_trans}
use Rattle.rational.specs.Tests.{is_le}
use Rattle.program_law.proofs.Numbers.{le_tested, lt_tested}
use Rattle.program_law.specs.Region.{Region, smaller, larger, left_of, right_of, IsCrossedAt, bounds_at}
use Rattle.program_law.specs.Program.{Program}
use Rattle.certificate_law.specs.declared.Node.{Node}
use Rattle.certificate_law.specs.declared.Node.TheVariants.{Branch, Bound, Farkas, Cross}
use Rattle.certificate_law.specs.Nodes.{AreTrees}
use Rattle.certificate_law.specs.Tree.{AreGood}
use Rattle.branching_law.specs.declared.Cut.{Cut}
use Rattle.branching_law.specs.declared.Cut.TheVariants.{Below, Above}
use Rattle.branching_law.specs.declared.Turn.{Turn}
use Rattle.branching_law.specs.Paths.{half_of, behind, region_behind}
use Rattle.branching_law.specs.Rounding.{IsMarkedAt, IsBroken, Rounds, AreRoundingTurns, under_turn, under_rounding}
use Rattle.branching_law.specs.Search.{branches}
use Rattle.rational.proofs.Floors.{lt-floor}
use Rattle.branching_law.proofs.Floors.{above_floor}

-- ---- the other side is crossed

pub no_bound : {P : Type 0} (v : ℚ) → None ≡ Some v → P
no_bound v e = absurd (bad e)
  where
    bad : None ≡ Some v → ⊥
    bad e = cc

pub smaller_is : (o : Option ℚ) (k : ℚ) → (h : ℚ) × (smaller o k ≡ Some h) × (h ≤ℚ k)
smaller_is None k = (k, refl, le_refl k)
smaller_is (Some h) k = by (is_le h k) refl
  where
    by : (b : Bool) → is_le h k ≡ b → (u : ℚ) × (Some (cond b h k) ≡ Some u) × (u ≤ℚ k)
    by true e = (h, refl, le_tested h k e)
    by false e = (k, refl, le_refl k)

pub larger_is : (o : Option ℚ) (k : ℚ) → (l : ℚ) × (larger o k ≡ Some l) × (k ≤ℚ l)
larger_is None k = (k, refl, le_refl k)
larger_is (Some l) k = by (is_le l k) refl
  where
    by : (b : Bool) → is_le l k ≡ b → (u : ℚ) × (Some (cond b k l) ≡ Some u) × (k ≤ℚ u)
    by true e = (k, refl, le_refl k)
    by false e = (l, refl, lt_le k l (lt_tested l k e))

crossed_below : (region : Region) (j : ℕ) (k : ℤ) → IsBroken (bounds_at region j).low k → IsCrossedAt (left_of region j k) j
crossed_below [] j k h = no_bound h.value h.there
crossed_below (b ∷ bs) zero k h =
    let s = smaller_is b.high (whole k) in
    record { low = h.value; high = s.0; has_low = h.there; has_high = s.1; above = le-lt_trans s.2 (above_floor k h.value h.floor h.fractional) }
crossed_below (b ∷ bs) (suc j) k h = crossed_below bs j k h

crossed_above : (region : Region) (j : ℕ) (k : ℤ) → IsBroken (bounds_at region j).high k → IsCrossedAt (right_of region j k) j
crossed_above [] j k h = no_bound h.value h.there
crossed_above (b ∷ bs) zero k h =
    let s = larger_is b.low (whole (k +ℤ pos 1)) in
    record { low = s.0; high = h.value; has_low = s.1; has_high = h.there; above = lt-le_trans (lt-floor k h.value h.floor) s.2 }
crossed_above (b ∷ bs) (suc j) k h = crossed_above bs j k h

-- ---- good trees

pub good_after : (p : Program) (v : Option ℚ) (ws us : List Region) (ns ms : List Node) → AreGood p v ws ns → AreGood p v us ms → AreGood p v (ws ++ us) (ns ++ ms)
good_after p v [] us [] ms g k = k
good_after p v [] us (n ∷ ns) ms g k = absurd g
good_after p v (w ∷ ws) us [] ms g k = absurd g
good_after p v (w ∷ ws) us (Branch j i ∷ ns) ms g k = (g.0, good_after p v (left_of w j i ∷ right_of w j i ∷ ws) us ns ms g.1 k)
good_after p v (w ∷ ws) us (Bound x y ∷ ns) ms g k = (g.0, good_after p v ws us ns ms g.1 k)
good_after p v (w ∷ ws) us (Farkas y ∷ ns) ms g k = (g.0, good_after p v ws us ns ms g.1 k)
good_after p v (w ∷ ws) us (Cross j ∷ ns) ms g k = (g.0, good_after p v ws us ns ms g.1 k)

good_under_turn : (p : Program) (v : Option ℚ) (c : Cut) (j : ℕ) (k : ℤ) (region : Region) (nodes : List Node) → IsMarkedAt p j → Rounds c k (bounds_at region j)
    → AreGood p v (half_of c region j k ∷ []) nodes → AreGood p v (region ∷ []) (under_turn c j k nodes)
good_under_turn p v Above j k region nodes m r g = (m, (crossed_below region j k r, g))
good_under_turn p v Below j k region nodes m r g =
    (m, good_after p v (left_of region j k ∷ []) (right_of region j k ∷ []) nodes (Cross j ∷ []) g (crossed_above region j k r.1, tt))

pub good_under_rounding : (p : Program) (v : Option ℚ) (region : Region) (turns : List Turn) (nodes : List Node) → AreRoundingTurns p region turns
    → AreGood p v (region_behind region turns ∷ []) nodes → AreGood p v (region ∷ []) (under_rounding turns nodes)
good_under_rounding p v region [] nodes r g = g
good_under_rounding p v region (t ∷ turns) nodes r g =
    good_under_turn p v t.cut t.column t.k region (under_rounding turns nodes) r.0.first.holds.marked r.0.rounds (good_under_rounding p v (behind region t) turns nodes r.1 g)

-- ---- whole trees

trees_then : (w : ℕ) (ns : List Node) (j : ℕ) → AreTrees w ns → AreTrees (suc w) (ns ++ Cross j ∷ [])
trees_then zero [] j t = tt
trees_then zero (n ∷ ns) j t = absurd t
trees_then (suc w) [] j t = absurd t
trees_then (suc w) (Branch i k ∷ ns) j t = trees_then (suc (suc w)) ns j t
trees_then (suc w) (Bound x y ∷ ns) j t = trees_then w ns j t
trees_then (suc w) (Farkas y ∷ ns) j t = trees_then w ns j t
trees_then (suc w) (Cross i ∷ ns) j t = trees_then w ns j t

trees_under_turn : (c : Cut) (j : ℕ) (k : ℤ) (nodes : List Node) → AreTrees 1 nodes → AreTrees 1 (under_turn c j k nodes)
trees_under_turn Above j k nodes t = t
trees_under_turn Below j k nodes t = trees_then 1 nodes j t

pub trees_under_rounding : (turns : List Turn) (nodes : List Node) → AreTrees 1 nodes → AreTrees 1 (under_rounding turns nodes)
trees_under_rounding [] nodes t = t
trees_under_rounding (u ∷ turns) nodes t = trees_under_turn u.cut u.column u.k (under_rounding turns nodes) (trees_under_rounding turns nodes t)

-- ---- counts

pub branches-append : (ns ms : List Node) → branches (ns ++ ms) ≡ branches ns + branches ms
branches-append [] ms = omega arith
branches-append (Branch j k ∷ ns) ms = let e = branches-append ns ms in omega (arith, e)
branches-append (Bound x y ∷ ns) ms = branches-append ns ms
branches-append (Farkas y ∷ ns) ms = branches-append ns ms
branches-append (Cross j ∷ ns) ms = branches-append ns ms

branches-under_turn : (c : Cut) (j : ℕ) (k : ℤ) (nodes : List Node) → branches (under_turn c j k nodes) ≡ suc (branches nodes)
branches-under_turn Above j k nodes = refl
branches-under_turn Below j k nodes = let e = branches-append nodes (Cross j ∷ []) in omega (arith, e)

pub branches-under_rounding : (turns : List Turn) (nodes : List Node) → branches (under_rounding turns nodes) ≡ length turns + branches nodes
branches-under_rounding [] nodes = omega arith
branches-under_rounding (t ∷ turns) nodes =
    let e = branches-under_turn t.cut t.column t.k (under_rounding turns nodes) in
    let i = branches-under_rounding turns nodes in
    omega (arith, e, i)
