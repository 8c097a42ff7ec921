-- What is wanted after nodes, and when they are whole trees.
use Rattle.std.specs.Prelude.{◌≡◌, ℕ, zero, suc, ◌≤◌, ◌+◌, List, [], ◌∷◌, ◌++◌, length, Option, Some, None, IfSome}
use Rattle.std.proofs.Common.{refl, sym, arith, subst}
use Rattle.certificate_law.specs.declared.Node.{Node}
use Rattle.certificate_law.specs.declared.Node.TheVariants.{Branch, Bound, Farkas, Cross}
use Rattle.certificate_law.specs.Nodes.{AreTrees, IsOneTree}
use Rattle.certificate_law.specs.Wanted.{with_node, wanted_after}

pub after_last : (wanted : Option ℕ) (ns : List Node) (n : Node) → wanted_after wanted (ns ++ n ∷ []) ≡ with_node n (wanted_after wanted ns)
after_last wanted [] n = refl
after_last wanted (m ∷ ns) n = after_last (with_node m wanted) ns n

pub grows : (wanted : Option ℕ) (n : Node) (k : ℕ) → IfSome wanted (λ w. w ≤ k) → IfSome (with_node n wanted) (λ w. w ≤ k + 1)
grows None n k h = tt
grows (Some zero) n k h = tt
grows (Some (suc w)) (Branch j l) k h = omega (arith, h)
grows (Some (suc w)) (Bound x y) k h = omega (arith, h)
grows (Some (suc w)) (Farkas y) k h = omega (arith, h)
grows (Some (suc w)) (Cross j) k h = omega (arith, h)

past : (ns : List Node) → wanted_after None ns ≡ None
past [] = refl
past (n ∷ ns) = past ns

too_many : (ns : List Node) → wanted_after None ns ≡ Some zero → ⊥
too_many ns e = clash (subst (λ (o : Option ℕ). o ≡ Some zero) (past ns) e)
  where
    clash : None ≡ Some zero → ⊥
    clash e = cc

trees : (w : ℕ) (ns : List Node) → wanted_after (Some w) ns ≡ Some 0 → AreTrees w ns
trees zero [] e = tt
trees (suc w) [] e = cc
trees zero (n ∷ ns) e = too_many ns e
trees (suc w) (Branch j k ∷ ns) e = trees (suc (suc w)) ns e
trees (suc w) (Bound x y ∷ ns) e = trees w ns e
trees (suc w) (Farkas y ∷ ns) e = trees w ns e
trees (suc w) (Cross j ∷ ns) e = trees w ns e

none_left : (w : ℕ) (ns : List Node) → AreTrees w ns → wanted_after (Some w) ns ≡ Some 0
none_left zero [] h = refl
none_left (suc w) [] h = absurd h
none_left zero (n ∷ ns) h = absurd h
none_left (suc w) (Branch j k ∷ ns) h = none_left (suc (suc w)) ns h
none_left (suc w) (Bound x y ∷ ns) h = none_left w ns h
none_left (suc w) (Farkas y ∷ ns) h = none_left w ns h
none_left (suc w) (Cross j ∷ ns) h = none_left w ns h

pub whole : (ns : List Node) → wanted_after (Some 1) ns ≡ Some 0 → IsOneTree ns
whole ns e = trees 1 ns e

pub not_whole : (ns : List Node) → IsOneTree ns → wanted_after (Some 1) ns ≡ Some 0
not_whole ns h = none_left 1 ns h
