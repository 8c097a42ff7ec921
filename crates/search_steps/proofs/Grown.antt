-- A leaf more, or a branch more.
use Rattle.std.specs.Prelude.{◌≡◌, ℕ, suc, ◌+◌, ◌*◌, ◌-◌, ◌<◌, ℤ, List, [], ◌∷◌, ◌++◌, length, Option, Some, None, Bool, true, false, not}
use Rattle.std.specs.List.{AllByRecursion}
use Rattle.std.proofs.Common.{refl, sym, ◌∙◌, ap, ap₂, subst, arith, append_assoc}
use Rattle.rational.specs.Rational.{ℚ}
use Rattle.rational.specs.Order.{◌≤ℚ◌, ◌<ℚ◌}
use Rattle.rational.specs.Tests.{is_le}
use Rattle.program_law.specs.Program.{Program}
use Rattle.program_law.specs.Columns.{value}
use Rattle.program_law.proofs.Numbers.{le_tested, lt_tested}
use Rattle.certificate_law.specs.declared.Node.{Node}
use Rattle.certificate_law.specs.declared.Node.TheVariants.{Branch}
use Rattle.branching_law.specs.declared.Turn.{Turn}
use Rattle.branching_law.specs.Paths.{below, above}
use Rattle.branching_law.specs.Nodes.{Search}
use Rattle.branching_law.specs.Search.{branches}
use Rattle.branching_law.specs.Searching.{IsSearching, IsBelowIncumbent}
use Rattle.branching_law.specs.Sizes.{HasNumber, IsBranchNumber}
use Rattle.branching_law.proofs.RoundedTrees.{branches-append}
use Rattle.search_steps.specs.declared.progress.Incumbent.{Incumbent}
use Rattle.search_steps.specs.declared.progress.Progress.{Progress}
use Rattle.search_steps.specs.Incumbents.{point_of, HasValue, is_below}
use Rattle.search_steps.specs.Trails.{path_of, waiting_of, paths_left, IsTrail}
use Rattle.search_steps.specs.Trees.{nodes_before}
use Rattle.search_steps.specs.Progressing.{IsOnWay, IsClosed, IsBranched, work_left}

-- ---- lists

numbers_more : (ns : List Node) (n : Node) → AllByRecursion HasNumber ns → HasNumber n → AllByRecursion HasNumber (ns ++ n ∷ [])
numbers_more [] n h k = (k, tt)
numbers_more (m ∷ ns) n h k = (h.0, numbers_more ns n h.1 k)

pub first_and_others : (ns : List Node) (n : Node) → (first : Node) × (others : List Node) × (ns ++ n ∷ [] ≡ first ∷ others)
first_and_others [] n = (n, [], refl)
first_and_others (m ∷ ns) n = (m, ns ++ n ∷ [], refl)

put_more : (turns others : List Turn) (put new nodes : List Node) (n : Node) → put ≡ nodes_before turns ++ nodes → others ≡ turns → new ≡ put ++ n ∷ [] → new ≡ nodes_before others ++ (nodes ++ n ∷ [])
put_more turns others put new nodes n h same is =
    is ∙ ap (λ (ns : List Node). ns ++ n ∷ []) h ∙ append_assoc (nodes_before turns) nodes (n ∷ [])
    ∙ sym (ap (λ (ts : List Turn). nodes_before ts ++ (nodes ++ n ∷ [])) same)

-- ---- a leaf

module _ (aim : Search) (p : Program) (bases boxes : ℕ) (old new : Progress) (h : IsOnWay aim p bases boxes true old) where
  pub closed_way : (o : Option Incumbent) (leaf : Node) (more : Bool) → IsClosed (record old { incumbent = o }) leaf more new → (more ≡ true → IsTrail p new.trail)
      → HasValue p o → HasNumber leaf → branches (leaf ∷ []) ≡ 0
      → IsSearching aim p bases boxes old.trail.turns (h.nodes ++ leaf ∷ []) (waiting_of old.trail) (point_of o)
      → (way : IsOnWay aim p bases boxes more new) × (way.nodes ≡ h.nodes ++ leaf ∷ [])
  closed_way o leaf more c trail value number none searching = (
    record {
      nodes = h.nodes ++ leaf ∷ [];
      put = put_more old.trail.turns new.trail.turns old.nodes new.nodes h.nodes leaf h.put c.turns c.nodes;
      searching = subst (λ (ts : List Turn). IsSearching aim p bases boxes ts (h.nodes ++ leaf ∷ []) (paths_left more new.trail) (point_of new.incumbent)) (sym c.turns)
          (subst (λ (ws : List (List Turn)). IsSearching aim p bases boxes old.trail.turns (h.nodes ++ leaf ∷ []) ws (point_of new.incumbent)) (sym c.paths)
          (subst (λ (i : Option Incumbent). IsSearching aim p bases boxes old.trail.turns (h.nodes ++ leaf ∷ []) (waiting_of old.trail) (point_of i)) (sym c.incumbent) searching));
      trail = trail;
      count = (let a = branches-append h.nodes (leaf ∷ []) in let b = h.count in let d = c.branches in omega (arith, a, b, d, none));
      value = subst (λ (i : Option Incumbent). HasValue p i) (sym c.incumbent) value;
      numbers = numbers_more h.nodes leaf h.numbers number;
      rounding_numbers = subst (λ (ts : List Turn). AllByRecursion (λ (t : Turn). IsBranchNumber t.k) ts) (sym c.turns) h.rounding_numbers;
    },
    refl,
  )

  pub branched_way : (j : ℕ) (k : ℤ) → IsBranched old j k new → IsTrail p new.trail → IsBranchNumber k
      → IsSearching aim p bases boxes old.trail.turns (h.nodes ++ Branch j k ∷ [])
      ((path_of old.trail ++ below j k ∷ []) ∷ (path_of old.trail ++ above j k ∷ []) ∷ waiting_of old.trail) (point_of old.incumbent)
      → (way : IsOnWay aim p bases boxes true new) × (way.nodes ≡ h.nodes ++ Branch j k ∷ [])
  branched_way j k c trail number searching = (
    record {
      nodes = h.nodes ++ Branch j k ∷ [];
      put = put_more old.trail.turns new.trail.turns old.nodes new.nodes h.nodes (Branch j k) h.put c.trail.turns c.nodes;
      searching = subst (λ (ts : List Turn). IsSearching aim p bases boxes ts (h.nodes ++ Branch j k ∷ []) (paths_left true new.trail) (point_of new.incumbent)) (sym c.trail.turns)
          (subst (λ (ws : List (List Turn)). IsSearching aim p bases boxes old.trail.turns (h.nodes ++ Branch j k ∷ []) ws (point_of new.incumbent))
          (sym (ap₂ (λ (w : List Turn) (ws : List (List Turn)). w ∷ ws) c.trail.path c.trail.waiting))
          (subst (λ (i : Option Incumbent). IsSearching aim p bases boxes old.trail.turns (h.nodes ++ Branch j k ∷ [])
          ((path_of old.trail ++ below j k ∷ []) ∷ (path_of old.trail ++ above j k ∷ []) ∷ waiting_of old.trail) (point_of i)) (sym c.incumbent) searching));
      trail = λ _. trail;
      count = (let a = branches-append h.nodes (Branch j k ∷ []) in let b = h.count in let d = c.branches in omega (arith, a, b, d));
      value = subst (λ (i : Option Incumbent). HasValue p i) (sym c.incumbent) h.value;
      numbers = numbers_more h.nodes (Branch j k) h.numbers number;
      rounding_numbers = subst (λ (ts : List Turn). AllByRecursion (λ (t : Turn). IsBranchNumber t.k) ts) (sym c.trail.turns) h.rounding_numbers;
    },
    refl,
  )

-- ---- how much is left

closed_less : (boxes b c : ℕ) (path : List Turn) (ws waiting : List (List Turn)) → path ∷ ws ≡ waiting → c ≡ b → 2 * (boxes - c) + length ws < 2 * (boxes - b) + length waiting
closed_less boxes b c path ws waiting e same =
    let l : suc (length ws) ≡ length waiting = ap (λ (xs : List (List Turn)). length xs) e in
    subst (λ (n : ℕ). 2 * (boxes - n) + length ws < 2 * (boxes - b) + length waiting) (sym same) (omega (arith, l))

pub closed_work : (boxes : ℕ) (old new : Progress) (leaf : Node) (more : Bool) → IsClosed old leaf more new → more ≡ true → work_left boxes new < work_left boxes old
closed_work boxes old new leaf more c e =
    closed_less boxes old.branches new.branches (path_of new.trail) (waiting_of new.trail) (waiting_of old.trail)
    (sym (ap (λ (m : Bool). paths_left m new.trail) e) ∙ c.paths) c.branches

branched_less : (boxes b c w u : ℕ) → b < boxes → c ≡ b + 1 → u ≡ suc w → 2 * (boxes - c) + u < 2 * (boxes - b) + w
branched_less boxes b c w u less more one = omega (arith, less, more, one)

pub branched_work : (boxes : ℕ) (old new : Progress) (j : ℕ) (k : ℤ) → IsBranched old j k new → old.branches < boxes → work_left boxes new < work_left boxes old
branched_work boxes old new j k c less =
    branched_less boxes old.branches new.branches (length (waiting_of old.trail)) (length (waiting_of new.trail)) less c.branches (ap (λ (ws : List (List Turn)). length ws) c.trail.waiting)

-- ---- the incumbent

turned : (b : Bool) → not b ≡ true → b ≡ false
turned true e = sym e
turned false e = refl

straight : (b : Bool) → not b ≡ false → b ≡ true
straight true e = refl
straight false e = sym e

pub below_incumbent : (p : Program) (v : ℚ) (o : Option Incumbent) → HasValue p o → is_below v o ≡ true → IsBelowIncumbent p v (point_of o)
below_incumbent p v None has e = tt
below_incumbent p v (Some i) has e = subst (λ (w : ℚ). v <ℚ w) has (lt_tested i.value v (turned (is_le i.value v) e))

-- an incumbent that a value isn't below
pub record IsAbove (p : Program) (v : ℚ) (o : Option Incumbent) : Type 0 where
  pub incumbent : Incumbent
  pub is : o ≡ Some incumbent
  pub least : value p incumbent.point ≤ℚ v

pub above_incumbent : (p : Program) (v : ℚ) (o : Option Incumbent) → HasValue p o → is_below v o ≡ false → IsAbove p v o
above_incumbent p v None has e = absurd (bad e)
  where
    bad : true ≡ false → ⊥
    bad e = cc
above_incumbent p v (Some i) has e = record { incumbent = i; is = refl; least = subst (λ (w : ℚ). w ≤ℚ v) has (le_tested i.value v (straight (is_le i.value v) e)) }
