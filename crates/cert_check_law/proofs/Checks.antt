-- The checking calculation ends as its list does, and the list's tests hold where the certificate is good.
use Rattle.std.specs.Prelude.{◌≡◌, ℕ, suc, List, [], ◌∷◌, length, map, Option, Some, None, Result, Ok, Err}
use Rattle.std.specs.List.{All}
use Rattle.std.proofs.Common.{sym, ◌∙◌, ap, refl}
use Rattle.rational.specs.Rational.{ℚ, zero_ℚ}
use Rattle.rational.specs.Order.{◌<ℚ◌, same_fields, same_fields_lem, same_fields_self}
use Rattle.rational.specs.Tests.{is_negative}
use Rattle.program_law.proofs.Numbers.{negative_below, below_negative}
use Rattle.rational.specs.Vectors.{form}
use Rattle.program_law.specs.Program.{Program, bounds, bounds_of, IsProgram}
use Rattle.program_law.specs.Columns.{IsPoint, value}
use Rattle.certificate_law.specs.declared.Node.{Node}
use Rattle.certificate_law.specs.declared.Certificate.{Certificate}
use Rattle.certificate_law.specs.declared.Certificate.TheVariants.{Optimal, Infeasible, Unbounded, NotConvex}
use Rattle.program_law.specs.declared.Square.{Square}
use Rattle.program_law.specs.Squares.{AreSquaresOf}
use Rattle.certificate_law.specs.Ray.{IsRay}
use Rattle.certificate_law.specs.Tree.{IsGoodTree}
use Rattle.program_law.specs.Verdict.{IsTrueOf}
use Rattle.certificate_law.specs.Good.{IsGood, verdict_of}
use Rattle.certificate_law.proofs.Verdicts.{good_is_true}
use Rattle.cert_check_law.specs.declared.Event.{Event}
use Rattle.cert_check_law.specs.Chain.{◌>>=◌, test, NoTestFails}
use Rattle.cert_check_law.specs.Point.{point_test}
use Rattle.cert_check_law.specs.Value.{value_of, form_of}
use Rattle.cert_check_law.specs.Squares.{squares_test}
use Rattle.cert_check_law.specs.Tree.{tree_test}
use Rattle.cert_check_law.specs.Ray.{ray_test}
use Rattle.cert_check_law.specs.Heads.{best_test, unbounded_test, vector_test}
use Rattle.cert_check_law.specs.Check.{checked}
use Rattle.certificate_law.specs.Fits.{FitsTree, FitsSquares, Fits, IsColumnVector}
use Rattle.cert_check_law.specs.Entries.{Holds, EndsAs}
use Rattle.cert_check_law.specs.PointList.{point_list}
use Rattle.cert_check_law.specs.TreeList.{tree_list}
use Rattle.cert_check_law.specs.CheckList.{best_list, check_list}
use Rattle.cert_check_law.proofs.Settled.{shown, passes}
use Rattle.cert_check_law.proofs.Listed.{Listed, EndsWith, joined, after, converted, tested, settled}
use Rattle.cert_check_law.proofs.Products.{form_listed, value_listed}
use Rattle.cert_check_law.proofs.Points.{point_listed}
use Rattle.cert_check_law.proofs.Pairs.{squares_listed}
use Rattle.cert_check_law.proofs.Trees.{nodes_listed}
use Rattle.cert_check_law.proofs.Rays.{ray_listed}

mapped : {A B : Type 0} (f : A → B) (xs : List A) → length (map f xs) ≡ length xs
mapped f [] = refl
mapped f (x ∷ xs) = ap (λ (n : ℕ). suc n) (mapped f xs)

tree_listed : {C : Type 0} (p : Program) (v : Option ℚ) (tree : List Node) → (C → FitsTree p tree) → Listed C (tree_test p v (bounds p) tree) (tree_list p v (bounds p) tree) tt (IsGoodTree p v (bounds p) tree)
tree_listed p v tree fit = nodes_listed p v tree 1 (bounds p ∷ []) (sym (mapped (λ r. r.1) p.rows)) (λ c. (fit c).tree) (λ c. (fit c).nodes_fit)

in_place : {C : Type 0} (p : Program) (x : List ℚ) → (C → IsProgram p) → (C → length x ≡ length p.columns) → Listed C (point_test p (bounds p) x) (point_list p (bounds p) x) tt (IsPoint p (bounds p) x)
in_place p x is n =
    point_listed p (bounds p) x (λ k. mapped (λ r. r.1) p.rows ∙ sym (is k).height) (λ k. mapped (λ c. bounds_of c.1) p.columns ∙ sym (n k)) (λ k. mapped (λ c. c.1.whole) p.columns ∙ sym (n k))

record AreFit (p : Program) (c : Certificate) : Type 0 where
  program : IsProgram p
  certificate : Fits p c

fit_both : (p : Program) (c : Certificate) → IsProgram p → Fits p c → AreFit p c
fit_both p c is fit = record { program = is; certificate = fit }

best_listed : {C : Type 0} (p : Program) (x : List ℚ) (v : ℚ) (squares : List Square) → (C → IsProgram p) → (C → IsColumnVector p x) → (C → FitsSquares p squares)
    → Listed C (best_test p x v squares) (best_list p x v squares) tt (IsPoint p (bounds p) x × ((value p x ≡ v) × AreSquaresOf p.pairs squares))
unfolding best_test
best_listed p x v squares is fit fits =
    let t = value p x in
    joined (point_test p (bounds p) x) (λ _. value_of p x >>= λ t. test (same_fields t v) 4 0 >>= λ _. squares_test p squares) (in_place p x is fit)
    (after (value_of p x) (λ t. test (same_fields t v) 4 0 >>= λ _. squares_test p squares) (value_listed p x)
    (joined (test (same_fields t v) 4 0) (λ _. squares_test p squares)
    (tested (same_fields t v) 4 0 (same_fields_lem t v) (λ e. same_fields_self t v e))
    (squares_listed p squares is fits)))

unbounded_listed : {C : Type 0} (p : Program) (x d : List ℚ) (squares : List Square) → (C → IsProgram p) → (C → IsColumnVector p x) → (C → IsColumnVector p d) → (C → FitsSquares p squares)
    → Listed C (unbounded_test p x d squares) (check_list p (Unbounded x d squares)) tt (IsPoint p (bounds p) x × (IsRay p d × AreSquaresOf p.pairs squares))
unfolding unbounded_test
unbounded_listed p x d squares is fit ray fits =
    joined (point_test p (bounds p) x) (λ _. ray_test p d >>= λ _. squares_test p squares) (in_place p x is fit)
    (joined (ray_test p d) (λ _. squares_test p squares)
    (ray_listed p d (λ k. mapped (λ r. r.1) p.rows ∙ sym (is k).height) (λ k. mapped (λ c. bounds_of c.1) p.columns ∙ sym (ray k)))
    (squares_listed p squares is fits))

vector_listed : {C : Type 0} (p : Program) (v : List ℚ) → Listed C (vector_test p v) (check_list p (NotConvex v)) tt (form p.pairs v v <ℚ zero_ℚ)
unfolding vector_test
vector_listed p v =
    let h = form p.pairs v v in
    after (form_of p.pairs v) (λ h. test (is_negative h) 15 0) (form_listed p.pairs v)
    (tested (is_negative h) 15 0 (negative_below h) (below_negative h))

certificate_listed : (p : Program) (c : Certificate) → Listed (AreFit p c) (checked p c) (check_list p c) tt (IsGood p c)
certificate_listed p (Optimal x v squares tree) =
    converted (checked p (Optimal x v squares tree))
    (λ _ h. record { point = h.0.0; has_value = h.0.1.0; has_squares = h.0.1.1; bounded = h.1 })
    (λ _ h. ((h.point, (h.has_value, h.has_squares)), h.bounded))
    (joined (best_test p x v squares) (λ _. tree_test p (Some v) (bounds p) tree)
    (best_listed p x v squares (λ k. k.program) (λ k. k.certificate.0) (λ k. k.certificate.1))
    (tree_listed p (Some v) tree (λ k. k.certificate.2)))
certificate_listed p (Infeasible tree) = tree_listed p None tree (λ k. k.certificate.0)
certificate_listed p (Unbounded x d squares) =
    converted (checked p (Unbounded x d squares))
    (λ _ h. record { point = h.0; ray = h.1.0; has_squares = h.1.1 })
    (λ _ h. (h.point, (h.ray, h.has_squares)))
    (unbounded_listed p x d squares (λ k. k.program) (λ k. k.certificate.0) (λ k. k.certificate.1) (λ k. k.certificate.2))
certificate_listed p (NotConvex v) = vector_listed p v

pub no_event_is_good : (p : Program) (c : Certificate) → IsProgram p → Fits p c → checked p c ≡ Ok tt → IsGood p c
no_event_is_good p c is fit e = shown (checked p c) tt tt (settled (checked p c) (fit_both p c is fit) (certificate_listed p c)) e

pub good_passes : (p : Program) (c : Certificate) → IsProgram p → Fits p c → IsGood p c → NoTestFails (checked p c)
good_passes p c is fit good = passes (checked p c) tt (settled (checked p c) (fit_both p c is fit) (certificate_listed p c)) good

pub no_event_is_true : (p : Program) (c : Certificate) → IsProgram p → Fits p c → checked p c ≡ Ok tt → IsTrueOf p (verdict_of c)
no_event_is_true p c is fit e = good_is_true p c (no_event_is_good p c is fit e)

pub ends_as_listed : (p : Program) (c : Certificate) → EndsAs (check_list p c) (checked p c)
ends_as_listed p c = by (checked p c) (certificate_listed p c).ends
  where
    by : (r : Result (Unit {0}) Event) → EndsWith (check_list p c) tt r → EndsAs (check_list p c) r
    by (Ok x) h = h.1
    by (Err e) h = h

pub good_holds : (p : Program) (c : Certificate) → IsProgram p → Fits p c → IsGood p c → All Holds (check_list p c)
good_holds p c is fit good = (certificate_listed p c).needs (fit_both p c is fit) good

pub held_is_good : (p : Program) (c : Certificate) → IsProgram p → Fits p c → All Holds (check_list p c) → IsGood p c
held_is_good p c is fit h = (certificate_listed p c).tells (fit_both p c is fit) h
