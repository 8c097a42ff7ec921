-- The list of a tree's check, and that its tests hold where it is good.
use Rattle.std.specs.Prelude.{◌≡◌, ℕ, zero, suc, ℤ, pos, List, [], ◌∷◌, length, Option, Some, None, Bool, true, false, not, Ok}
use Rattle.std.specs.List.{AllByRecursion}
use Rattle.std.proofs.Common.{sym, ◌∙◌, ap, refl}
use Rattle.rational.specs.Rational.{ℚ, whole, one_ℚ}
use Rattle.rational.proofs.Field.{whole-+ℤ}
use Rattle.rational.specs.Tests.{is_le}
use Rattle.program_law.proofs.Numbers.{lt_tested, lt_test}
use Rattle.frac_core.specs.declared.fractions.Op.TheVariants.{Add}
use Rattle.frac_core.specs.Operations.{operation}
use Rattle.program_law.specs.declared.Row.{Row}
use Rattle.program_law.specs.Region.{Region, cut_high, cut_low, left_of, right_of, IsCrossed, IsCrossedAt, bounds_at, is_above}
use Rattle.program_law.specs.Program.{Program, sides, marks, is_marked}
use Rattle.certificate_law.specs.declared.Node.{Node}
use Rattle.certificate_law.specs.declared.Node.TheVariants.{Branch, Bound, Farkas, Cross}
use Rattle.certificate_law.specs.Nodes.{AreTrees}
use Rattle.certificate_law.specs.Tree.{AreGood}
use Rattle.cert_check_law.specs.Chain.{◌>>=◌, op, test}
use Rattle.cert_check_law.specs.Leaf.{farkas_test, bound_test}
use Rattle.cert_check_law.specs.Tree.{branch_step, cross_test, nodes_from}
use Rattle.certificate_law.specs.Fits.{FitsNode}
use Rattle.cert_check_law.specs.Entries.{Operation, Test}
use Rattle.cert_check_law.specs.TreeList.{nodes_list}
use Rattle.cert_check_law.proofs.Listed.{Listed, done, vacuous, joined, before, turned, of_value, tested, operated}
use Rattle.cert_check_law.proofs.Leaves.{farkas_listed, bound_listed}

branch_listed : {C : Type 0} (ms : List Bool) (node : ℕ) (region : Region) (j : ℕ) (k : ℤ) (waiting : List Region) → Listed C (branch_step ms node region j k waiting) (Test (is_marked ms j) 6 node ∷ Operation (operation Add (whole k) one_ℚ) ∷ []) (left_of region j k ∷ right_of region j k ∷ waiting) (is_marked ms j ≡ true)
unfolding branch_step
branch_listed ms node region j k waiting =
    before (test (is_marked ms j) 6 node) (λ _. op Add (whole k) one_ℚ >>= λ above. Ok (cut_high region j (whole k) ∷ cut_low region j above ∷ waiting))
    (tested (is_marked ms j) 6 node (λ e. e) (λ e. e))
    (of_value (op Add (whole k) one_ℚ >>= λ above. Ok (cut_high region j (whole k) ∷ cut_low region j above ∷ waiting)) (ap (λ z. left_of region j k ∷ cut_low region j z ∷ waiting) (sym (whole-+ℤ k (pos 1))))
    (turned (op Add (whole k) one_ℚ) (λ above. cut_high region j (whole k) ∷ cut_low region j above ∷ waiting) (operated Add (whole k) one_ℚ)))

above_if : (s : Row) → is_above s.low s.high ≡ true → IsCrossed s
above_if s e = by s.low s.high refl refl e
  where
    no : false ≡ true → IsCrossed s
    no e = absurd (clash e)
      where
        clash : false ≡ true → ⊥
        clash e = cc

    told : (b : Bool) → not b ≡ true → b ≡ false
    told true e = sym e
    told false e = refl

    by : (l h : Option ℚ) → s.low ≡ l → s.high ≡ h → is_above l h ≡ true → IsCrossed s
    by None h a b e = no e
    by (Some l) None a b e = no e
    by (Some l) (Some h) a b e = record { low = l; high = h; has_low = a; has_high = b; above = lt_tested l h (told (is_le l h) e) }

if_above : (s : Row) → IsCrossed s → is_above s.low s.high ≡ true
if_above s c = ap (λ o. is_above o s.high) c.has_low ∙ ap (is_above (Some c.low)) c.has_high ∙ ap not (lt_test c.low c.high c.above)

crossed_if : (bs : Region) (j : ℕ) → is_above (bounds_at bs j).low (bounds_at bs j).high ≡ true → IsCrossedAt bs j
crossed_if [] j e = absurd (clash e)
  where
    clash : false ≡ true → ⊥
    clash e = cc
crossed_if (b ∷ bs) zero e = above_if b e
crossed_if (b ∷ bs) (suc j) e = crossed_if bs j e

if_crossed : (bs : Region) (j : ℕ) → IsCrossedAt bs j → is_above (bounds_at bs j).low (bounds_at bs j).high ≡ true
if_crossed [] j c = absurd c
if_crossed (b ∷ bs) zero c = if_above b c
if_crossed (b ∷ bs) (suc j) c = if_crossed bs j c

cross_listed : {C : Type 0} (node : ℕ) (region : Region) (j : ℕ) → Listed C (cross_test node region j) (Test (is_above (bounds_at region j).low (bounds_at region j).high) 10 node ∷ []) tt (IsCrossedAt region j)
unfolding cross_test
cross_listed node region j = tested (is_above (bounds_at region j).low (bounds_at region j).high) 10 node (crossed_if region j) (if_crossed region j)

pub nodes_listed : {C : Type 0} (p : Program) (v : Option ℚ) (nodes : List Node) (node : ℕ) (regions : List Region) → length p.rows ≡ length (sides p) → (C → AreTrees (length regions) nodes) → (C → AllByRecursion (FitsNode p) nodes) → Listed C (nodes_from p v node regions nodes) (nodes_list p v node regions nodes) tt (AreGood p v regions nodes)
nodes_listed p v [] node [] r trees fit = done tt tt
nodes_listed p v [] node (region ∷ waiting) r trees fit = vacuous tt trees
nodes_listed p v (n ∷ ns) node [] r trees fit = vacuous tt trees
nodes_listed p v (Branch j k ∷ ns) node (region ∷ waiting) r trees fit =
    joined (branch_step (marks p) node region j k waiting) (λ after. nodes_from p v (suc node) after ns) (branch_listed (marks p) node region j k waiting)
    (nodes_listed p v ns (suc node) (left_of region j k ∷ right_of region j k ∷ waiting) r trees (λ c. (fit c).1))
nodes_listed p v (Bound w y ∷ ns) node (region ∷ waiting) r trees fit =
    joined (bound_test p v node region w y >>= λ _. Ok waiting) (λ after. nodes_from p v (suc node) after ns)
    (turned (bound_test p v node region w y) (λ _. waiting) (bound_listed p v node region w y (λ c. (fit c).0.1 ∙ r)))
    (nodes_listed p v ns (suc node) waiting r trees (λ c. (fit c).1))
nodes_listed p v (Farkas y ∷ ns) node (region ∷ waiting) r trees fit =
    joined (farkas_test p node region y >>= λ _. Ok waiting) (λ after. nodes_from p v (suc node) after ns)
    (turned (farkas_test p node region y) (λ _. waiting) (farkas_listed p node region y (λ c. (fit c).0 ∙ r)))
    (nodes_listed p v ns (suc node) waiting r trees (λ c. (fit c).1))
nodes_listed p v (Cross j ∷ ns) node (region ∷ waiting) r trees fit =
    joined (cross_test node region j >>= λ _. Ok waiting) (λ after. nodes_from p v (suc node) after ns)
    (turned (cross_test node region j) (λ _. waiting) (cross_listed node region j))
    (nodes_listed p v ns (suc node) waiting r trees (λ c. (fit c).1))
