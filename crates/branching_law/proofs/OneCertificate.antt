-- Only one certificate is found of a program.
use Rattle.std.specs.Prelude.{◌≡◌, ℕ, List, [], ◌∷◌, ◌++◌, length, Contains, Option, Some, None}
use Rattle.std.proofs.Common.{refl, sym, ◌∙◌, ap, subst, inl, inr}
use Rattle.std.proofs.lemmas.List.Elements.{Contains-append_right}
use Rattle.rational.specs.Rational.{ℚ}
use Rattle.rational.specs.Vectors.{IsSemidefinite}
use Rattle.rational.proofs.OrderLaws.{not-le_of_lt}
use Rattle.program_law.specs.declared.Square.{Square}
use Rattle.program_law.specs.Program.{Program, IsProgram}
use Rattle.certificate_law.specs.declared.Node.{Node}
use Rattle.certificate_law.specs.declared.Certificate.{Certificate}
use Rattle.certificate_law.specs.declared.Certificate.TheVariants.{Unbounded}
use Rattle.program_law.specs.Squares.{AreSquaresOf}
use Rattle.quad_solve_law.specs.Answer.{Ray, IsFound, IsFalling}
use Rattle.quad_solve_law.proofs.OneAnswer.{one_answer, one_found}
use Rattle.quad_solve_law.proofs.RegionAnswers.{found_is_point, falling_is_ray}
use Rattle.branching_law.specs.declared.Turn.{Turn}
use Rattle.branching_law.specs.Paths.{region_of}
use Rattle.branching_law.specs.Rounding.{IsMarked, IsRounding, under_rounding}
use Rattle.branching_law.specs.Nodes.{Search, ForBest, ForPoint}
use Rattle.branching_law.specs.Search.{AreTaken, IsEarned, points_of}
use Rattle.branching_law.specs.Found.{IsFirstLeast, IsIncumbent, Reduced, Convex, Curved, IsReductionOf, IsFallingProgram, IsFallingAt, decided, IsDecided, IsFoundOf}
use Rattle.branching_law.proofs.Trees.{wide, first_of}
use Rattle.branching_law.proofs.Convex.{convex_by_squares}
use Rattle.branching_law.proofs.Incumbents.{first_is_kept, first_is_least}
use Rattle.branching_law.proofs.RoundingTurns.{rounding_is_one}
use Rattle.branching_law.proofs.BelowRoots.{best_root}
use Rattle.branching_law.proofs.OneSearch.{IsStuck, stuck_at_kept, nodes_are_one}

-- ---- one incumbent

split_is_one : (x y : List ℚ) (before other later more : List (List ℚ)) → before ++ x ∷ later ≡ other ++ y ∷ more → (Contains other x → ⊥) → (Contains before y → ⊥) → x ≡ y
split_is_one x y [] [] later more e n m = cc
split_is_one x y [] (c ∷ other) later more e n m = absurd (n (subst (λ (z : List ℚ). Contains (c ∷ other) z) (sym (head x c later (other ++ y ∷ more) e)) (first_of c other)))
  where
    head : (x c : List ℚ) (xs cs : List (List ℚ)) → x ∷ xs ≡ c ∷ cs → x ≡ c
    head x c xs cs e = cc
split_is_one x y (c ∷ before) [] later more e n m = absurd (m (subst (λ (z : List ℚ). Contains (c ∷ before) z) (head c y (before ++ x ∷ later) more e) (first_of c before)))
  where
    head : (x c : List ℚ) (xs cs : List (List ℚ)) → x ∷ xs ≡ c ∷ cs → x ≡ c
    head x c xs cs e = cc
split_is_one x y (c ∷ before) (d ∷ other) later more e n m =
    split_is_one x y before other later more (tail c d (before ++ x ∷ later) (other ++ y ∷ more) e) (λ k. n (Contains-append_right (d ∷ []) other x k)) (λ k. m (Contains-append_right (c ∷ []) before y k))
  where
    tail : (x c : List ℚ) (xs cs : List (List ℚ)) → x ∷ xs ≡ c ∷ cs → xs ≡ cs
    tail x c xs cs e = cc

first_least_is_one : (p : Program) (points : List (List ℚ)) (x y : List ℚ) → IsFirstLeast p points x → IsFirstLeast p points y → x ≡ y
first_least_is_one p points x y h g =
    split_is_one x y h.before g.before h.later g.later (sym h.among ∙ g.among)
    (λ c. not-le_of_lt (g.below_before x (record { among = c; whole = h.whole })) (first_is_least p points x h y (first_is_kept p points y g)))
    (λ c. not-le_of_lt (h.below_before y (record { among = c; whole = g.whole })) (first_is_least p points y g x (first_is_kept p points x h)))

pub incumbent_is_one : (p : Program) (points : List (List ℚ)) (o other : Option (List ℚ)) → IsIncumbent p points o → IsIncumbent p points other → o ≡ other
incumbent_is_one p points None None h g = refl
incumbent_is_one p points None (Some y) h g = absurd (h y (first_is_kept p points y g))
incumbent_is_one p points (Some x) None h g = absurd (g x (first_is_kept p points x h))
incumbent_is_one p points (Some x) (Some y) h g = ap Some (first_least_is_one p points x y h g)

-- ---- one certificate

same_ray : (x z d e : List ℚ) → Ray x d ≡ Ray z e → (x ≡ z) × (d ≡ e)
same_ray x z d e h = (cc, cc)

module _ (p : Program) (is : IsProgram p) (squares : List Square) (sum : AreSquaresOf p.pairs squares) where
  convex : IsSemidefinite (length p.columns) p.pairs
  convex = convex_by_squares p squares is sum

  -- no search for the best has nodes where the root's answer is a ray
  not_best : (a b : ℕ) (turns : List Turn) (nodes : List Node) (left : List (List Turn)) (x d : List ℚ) → IsEarned ForBest p a turns nodes left → (left ≡ []) → IsFalling p (region_of p turns) b x d → ⊥
  not_best a b turns [] left x d e none f = bad turns (e.taken ∙ none)
    where
      bad : (t : List Turn) → t ∷ [] ≡ [] → ⊥
      bad t e = cc
  not_best a b turns (n ∷ ns) left x d e none f =
      best_root p is a turns left n ns e x d (found_is_point p (region_of p turns) is (wide p turns) b x f.found) (falling_is_ray p (region_of p turns) is (wide p turns) b x d f)

  falling_is_one : (a b : ℕ) (path : List Turn) (x z d e : List ℚ) → IsFalling p (region_of p path) a x d → IsFalling p (region_of p path) b z e → (x ≡ z) × (d ≡ e)
  falling_is_one a b path x z d e h g = same_ray x z d e (one_answer p (region_of p path) is (wide p path) convex a b (Ray x d) (Ray z e) h g)

  same_unbounded : (x z d e : List ℚ) → x ≡ z → d ≡ e → Unbounded x d squares ≡ Unbounded z e squares
  same_unbounded x z d e h g = ap (λ w. Unbounded w d squares) h ∙ ap (λ w. Unbounded z w squares) g

  rooted : (a b : ℕ) (turns others : List Turn) (x d : List ℚ) → IsRounding p turns → IsRounding p others → IsFalling p (region_of p turns) b x d → IsFalling p (region_of p others) b x d
  rooted a b turns others x d r s f = subst (λ (t : List Turn). IsFalling p (region_of p t) b x d) (rounding_is_one p turns others r s) f

  at_once_is_one : (a b : ℕ) (c d : Certificate) → IsFallingProgram p a squares c → IsFallingProgram p b squares d → c ≡ d
  at_once_is_one a b c d h g =
      let e = falling_is_one a b [] h.point g.point h.ray g.ray h.falling g.falling in
      h.certificate ∙ same_unbounded h.point g.point h.ray g.ray e.0 e.1 ∙ sym g.certificate

  not_at_once : (a b s : ℕ) (c d : Certificate) → IsFallingProgram p a squares c → IsFallingAt p b s squares d → ⊥
  not_at_once a b s c d h g = h.unmarked g.earned.root.0

  unmarked_root : (turns : List Turn) → IsRounding p turns → ¬ (IsMarked p) → [] ≡ turns
  unmarked_root [] r none = refl
  unmarked_root (t ∷ turns) r none = absurd (none (t.column, r.turns_due.0.first.holds.marked))

  not_decided_at_once : (a b s : ℕ) (c d : Certificate) → IsFallingProgram p a squares c → IsDecided p b s squares d → ⊥
  not_decided_at_once a b s c d h g = by g.aim g.earned
    where
      by : (aim : Search) → IsEarned aim p b g.turns g.nodes [] → ⊥
      by ForBest e = not_best b a g.turns g.nodes [] h.point h.ray e refl (subst (λ (t : List Turn). IsFalling p (region_of p t) a h.point h.ray) (unmarked_root g.turns e.rounding h.unmarked) h.falling)
      by ForPoint e = h.unmarked e.root.0

  stuck_at : (a b s : ℕ) (d : Certificate) (g : IsFallingAt p b s squares d) → IsStuck p is convex ForPoint a (g.path ∷ g.open_paths)
  stuck_at a b s d g = stuck_at_kept p is convex b a g.path g.open_paths g.point g.uncrossed g.found g.whole

  at_same_root : (b : ℕ) (aim : Search) (turns others : List Turn) (nodes : List Node) (left : List (List Turn)) → IsRounding p others → IsEarned aim p b turns nodes left
      → AreTaken aim p b [] (others ∷ []) nodes left
  at_same_root b aim turns others nodes left r e = subst (λ (t : List Turn). AreTaken aim p b [] (t ∷ []) nodes left) (rounding_is_one p turns others e.rounding r) e.taken

  at_is_one : (a b s t : ℕ) (c d : Certificate) → IsFallingAt p a s squares c → IsFallingAt p b t squares d → c ≡ d
  at_is_one a b s t c d h g =
      let same = nodes_are_one p is convex ForPoint a b [] (g.turns ∷ []) (h.path ∷ h.open_paths) (g.path ∷ g.open_paths) h.nodes g.nodes
      (at_same_root a ForPoint h.turns g.turns h.nodes (h.path ∷ h.open_paths) g.earned.rounding h.earned) g.earned.taken (stuck_at b a s c h) (stuck_at a b t d g) in
      let path : h.path ≡ g.path = head h.path g.path h.open_paths g.open_paths same.1 in
      let point = one_found p (region_of p g.path) is (wide p g.path) a b h.point g.point (subst (λ (w : List Turn). IsFound p (region_of p w) a h.point) path h.found) g.found in
      let ray = falling_is_one a b g.turns h.start g.start h.ray g.ray (rooted a a h.turns g.turns h.start h.ray h.earned.rounding g.earned.rounding h.falling) g.falling in
      h.certificate ∙ same_unbounded h.point g.point h.ray g.ray point ray.1 ∙ sym g.certificate
    where
      head : (x c : List Turn) (xs cs : List (List Turn)) → x ∷ xs ≡ c ∷ cs → x ≡ c
      head x c xs cs e = cc

  not_decided_at : (a b s t : ℕ) (c d : Certificate) → IsFallingAt p a s squares c → IsDecided p b t squares d → ⊥
  not_decided_at a b s t c d h g = by g.aim g.earned
    where
      bad : (x : List Turn) (xs : List (List Turn)) → x ∷ xs ≡ [] → ⊥
      bad x xs e = cc

      by : (aim : Search) → IsEarned aim p b g.turns g.nodes [] → ⊥
      by ForBest e = not_best b a g.turns g.nodes [] h.start h.ray e refl (rooted a a h.turns g.turns h.start h.ray h.earned.rounding e.rounding h.falling)
      by ForPoint e =
          let same = nodes_are_one p is convex ForPoint a b [] (g.turns ∷ []) (h.path ∷ h.open_paths) [] h.nodes g.nodes
          (at_same_root a ForPoint h.turns g.turns h.nodes (h.path ∷ h.open_paths) e.rounding h.earned) e.taken (stuck_at b a s c h) tt in
          bad h.path h.open_paths same.1

  aims_are_one : (a b : ℕ) (aim other : Search) (turns others : List Turn) (nodes more : List Node) → IsEarned aim p a turns nodes [] → IsEarned other p b others more [] → aim ≡ other
  aims_are_one a b ForBest ForBest turns others nodes more h g = refl
  aims_are_one a b ForPoint ForPoint turns others nodes more h g = refl
  aims_are_one a b ForBest ForPoint turns others nodes more h g =
      let f = g.root.2 in absurd (not_best a b turns nodes [] f.0 f.1 h refl (rooted b b others turns f.0 f.1 g.rounding h.rounding f.2))
  aims_are_one a b ForPoint ForBest turns others nodes more h g =
      let f = h.root.2 in absurd (not_best b a others more [] f.0 f.1 g refl (rooted a a turns others f.0 f.1 h.rounding g.rounding f.2))

  decided_is_one : (a b s t : ℕ) (c d : Certificate) → IsDecided p a s squares c → IsDecided p b t squares d → c ≡ d
  decided_is_one a b s t c d h g =
      let aim = aims_are_one a b h.aim g.aim h.turns g.turns h.nodes g.nodes h.earned g.earned in
      let turns = rounding_is_one p h.turns g.turns h.earned.rounding g.earned.rounding in
      let earned : IsEarned g.aim p a h.turns h.nodes [] = subst (λ (k : Search). IsEarned k p a h.turns h.nodes []) aim h.earned in
      let nodes = (nodes_are_one p is convex g.aim a b [] (g.turns ∷ []) [] [] h.nodes g.nodes (at_same_root a g.aim h.turns g.turns h.nodes [] g.earned.rounding earned) g.earned.taken tt tt).0 in
      let o = incumbent_is_one p (points_of g.nodes) h.incumbent g.incumbent (subst (λ (ns : List Node). IsIncumbent p (points_of ns) h.incumbent) nodes h.best) g.best in
      h.certificate ∙ ap (λ o. decided p squares o (under_rounding h.turns h.nodes)) o ∙ ap (λ ts. decided p squares g.incumbent (under_rounding ts h.nodes)) turns
      ∙ ap (λ ns. decided p squares g.incumbent (under_rounding g.turns ns)) nodes ∙ sym g.certificate

  pub found_is_one : (a b s t : ℕ) (c d : Certificate) → IsFoundOf p (Convex squares) a s c → IsFoundOf p (Convex squares) b t d → c ≡ d
  found_is_one a b s t c d (inl h) (inl g) = at_once_is_one a b c d h g
  found_is_one a b s t c d (inl h) (inr (inl g)) = absurd (not_at_once a b t c d h g)
  found_is_one a b s t c d (inl h) (inr (inr g)) = absurd (not_decided_at_once a b t c d h g)
  found_is_one a b s t c d (inr (inl h)) (inl g) = absurd (not_at_once b a s d c g h)
  found_is_one a b s t c d (inr (inl h)) (inr (inl g)) = at_is_one a b s t c d h g
  found_is_one a b s t c d (inr (inl h)) (inr (inr g)) = absurd (not_decided_at a b s t c d h g)
  found_is_one a b s t c d (inr (inr h)) (inl g) = absurd (not_decided_at_once b a s d c g h)
  found_is_one a b s t c d (inr (inr h)) (inr (inl g)) = absurd (not_decided_at b a t s d c g h)
  found_is_one a b s t c d (inr (inr h)) (inr (inr g)) = decided_is_one a b s t c d h g

pub certificate_is_one : (p : Program) (r : Reduced) (a b s t : ℕ) (c d : Certificate) → IsProgram p → IsReductionOf p.pairs r → IsFoundOf p r a s c → IsFoundOf p r b t d → c ≡ d
certificate_is_one p (Curved v) a b s t c d is reduces h g = h ∙ sym g
certificate_is_one p (Convex squares) a b s t c d is sum h g = found_is_one p is squares sum a b s t c d h g
