-- The nodes of rounding, put one after another.
use Rattle.std.specs.Prelude.{◌≡◌, ℕ, zero, suc, ◌+◌, ◌-◌, ◌<◌, ℤ, List, [], ◌∷◌, ◌++◌, take, drop, Some, None, slice_get}
use Rattle.std.proofs.Common.{sym, ◌∙◌, ap, arith, append_assoc, append-nil}
use Rattle.certificate_law.specs.declared.Node.{Node}
use Rattle.certificate_law.specs.declared.Node.TheVariants.{Branch, Cross}
use Rattle.branching_law.specs.declared.Cut.{Cut}
use Rattle.branching_law.specs.declared.Cut.TheVariants.{Below, Above}
use Rattle.branching_law.specs.declared.Turn.{Turn}
use Rattle.branching_law.specs.Rounding.{under_turn, under_rounding}
use Rattle.search_steps.specs.Trees.{left_before, left_behind, nodes_before, nodes_behind}

some_is : (t u : Turn) → Some t ≡ Some u → t ≡ u
some_is t u e = cc

drop_at : (turns : List Turn) (i : ℕ) (t : Turn) → slice_get turns i ≡ Some t → drop i turns ≡ t ∷ drop (i + 1) turns
drop_at [] i t e = bad t e
  where
    bad : (t : Turn) → None ≡ Some t → drop i [] ≡ t ∷ drop (i + 1) []
    bad t e = cc
drop_at (u ∷ turns) zero t e = ap (λ (v : Turn). v ∷ turns) (some_is u t e)
drop_at (u ∷ turns) (suc i) t e = drop_at turns i t e ∙ ap (λ (n : ℕ). t ∷ drop n (u ∷ turns)) (one i)
  where
    one : (i : ℕ) → suc (i + 1) ≡ suc i + 1
    one i = omega arith

take_at : (turns : List Turn) (i : ℕ) (t : Turn) → slice_get turns i ≡ Some t → take (suc i) turns ≡ take i turns ++ t ∷ []
take_at [] i t e = bad t e
  where
    bad : (t : Turn) → None ≡ Some t → take (suc i) [] ≡ take i [] ++ t ∷ []
    bad t e = cc
take_at (u ∷ turns) zero t e = ap (λ (v : Turn). v ∷ []) (some_is u t e)
take_at (u ∷ turns) (suc i) t e = ap (λ (vs : List Turn). u ∷ vs) (take_at turns i t e)

-- ---- before

one_before : (t : Turn) (turns : List Turn) → nodes_before (t ∷ []) ++ nodes_before turns ≡ nodes_before (t ∷ turns)
one_before t turns = ap (λ (ns : List Node). Branch t.column t.k ∷ (ns ++ nodes_before turns)) (append-nil (left_before t.cut t.column))

pub before_less : (turns : List Turn) (i : ℕ) (t : Turn) (nodes new all : List Node) → slice_get turns i ≡ Some t → new ≡ nodes ++ nodes_before (t ∷ [])
    → nodes ++ nodes_before (drop i turns) ≡ all → new ++ nodes_before (drop (i + 1) turns) ≡ all
before_less turns i t nodes new all there is e =
    ap (λ (ns : List Node). ns ++ nodes_before (drop (i + 1) turns)) is
    ∙ append_assoc nodes (nodes_before (t ∷ [])) (nodes_before (drop (i + 1) turns))
    ∙ ap (λ (ns : List Node). nodes ++ ns) (one_before t (drop (i + 1) turns))
    ∙ ap (λ (ts : List Turn). nodes ++ nodes_before ts) (sym (drop_at turns i t there))
    ∙ e

-- ---- behind

last_behind : (turns : List Turn) (t : Turn) → nodes_behind (turns ++ t ∷ []) ≡ nodes_behind (t ∷ []) ++ nodes_behind turns
last_behind [] t = sym (append-nil (nodes_behind (t ∷ [])))
last_behind (u ∷ turns) t =
    ap (λ (ns : List Node). ns ++ left_behind u.cut u.column) (last_behind turns t)
    ∙ append_assoc (nodes_behind (t ∷ [])) (nodes_behind turns) (left_behind u.cut u.column)

behind_from : (turns : List Turn) (k : ℕ) (t : Turn) (nodes new all : List Node) → slice_get turns k ≡ Some t → new ≡ nodes ++ nodes_behind (t ∷ [])
    → nodes ++ nodes_behind (take (suc k) turns) ≡ all → new ++ nodes_behind (take k turns) ≡ all
behind_from turns k t nodes new all there is e =
    ap (λ (ns : List Node). ns ++ nodes_behind (take k turns)) is
    ∙ append_assoc nodes (nodes_behind (t ∷ [])) (nodes_behind (take k turns))
    ∙ ap (λ (ns : List Node). nodes ++ ns) (sym (last_behind (take k turns) t))
    ∙ ap (λ (ts : List Turn). nodes ++ nodes_behind ts) (sym (take_at turns k t there))
    ∙ e

pub behind_less : (turns : List Turn) (i : ℕ) (t : Turn) (nodes new all : List Node) → 0 < i → slice_get turns (i - 1) ≡ Some t → new ≡ nodes ++ nodes_behind (t ∷ [])
    → nodes ++ nodes_behind (take i turns) ≡ all → new ++ nodes_behind (take (i - 1) turns) ≡ all
behind_less turns i t nodes new all some there is e =
    behind_from turns (i - 1) t nodes new all there is (ap (λ (n : ℕ). nodes ++ nodes_behind (take n turns)) (back i some) ∙ e)
  where
    back : (i : ℕ) → 0 < i → suc (i - 1) ≡ i
    back i h = omega (arith, h)

-- ---- around the nodes of a search

around_turn : (c : Cut) (j : ℕ) (k : ℤ) (a nodes b inner : List Node) → a ++ nodes ++ b ≡ inner → (Branch j k ∷ (left_before c j ++ a)) ++ nodes ++ (b ++ left_behind c j) ≡ under_turn c j k inner
around_turn Above j k a nodes b inner e = ap (λ (ns : List Node). Branch j k ∷ Cross j ∷ ns) (ap (λ (ns : List Node). a ++ nodes ++ ns) (append-nil b) ∙ e)
around_turn Below j k a nodes b inner e =
    ap (λ (ns : List Node). Branch j k ∷ ns) (sym (append_assoc (a ++ nodes) b (Cross j ∷ [])) ∙ ap (λ (ns : List Node). ns ++ Cross j ∷ []) e)

pub around : (turns : List Turn) (nodes : List Node) → nodes_before turns ++ nodes ++ nodes_behind turns ≡ under_rounding turns nodes
around [] nodes = append-nil nodes
around (t ∷ turns) nodes =
    around_turn t.cut t.column t.k (nodes_before turns) nodes (nodes_behind turns) (under_rounding turns nodes) (around turns nodes)
