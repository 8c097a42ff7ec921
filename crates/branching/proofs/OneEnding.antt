-- A search within two budgets has one ending.
use Rattle.std.specs.Prelude.{◌≡◌, ◌⊎◌, ℕ, List, [], length, Result, Ok}
use Rattle.std.proofs.Common.{refl, sym, ◌∙◌, ap, subst, inl, inr}
use Rattle.rational.specs.Rational.{ℚ, zero_ℚ}
use Rattle.rational.specs.Order.{◌≤ℚ◌}
use Rattle.rational.specs.Vectors.{rows_dot, IsSemidefinite}
use Rattle.rational.proofs.OrderLaws.{not-le_of_lt}
use Rattle.rational.proofs.Vectors.{dot_comm}
use Rattle.frac_core.specs.declared.fractions.Refused.{Refused}
use Rattle.program_law.specs.declared.Square.{Square}
use Rattle.program_law.specs.Program.{Program, IsProgram}
use Rattle.certificate_law.specs.declared.Certificate.{Certificate}
use Rattle.certificate_law.specs.declared.Certificate.TheVariants.{NotConvex}
use Rattle.convexity.specs.declared.Curvature.{Curvature}
use Rattle.convexity.specs.declared.Curvature.TheVariants.{Squares, Negative}
use Rattle.convexity.specs.ReductionCalculation.{squares_of}
use Rattle.convexity.proofs.Answered.{right_is, width_is}
use Rattle.quad_solve_law.specs.Sites.{RegionSite, AtForm, AtFeasible, AtRay, AtFace, AtPrice}
use Rattle.quad_solve.specs.declared.sites.Site.{Site}
use Rattle.quad_solve.specs.declared.sites.Site.TheVariants.{Form, Chain, Face}
use Rattle.quad_solve.specs.declared.sites.Task.TheVariants.{Feasible, Ray, Price}
use Rattle.quad_solve.specs.Answers.{IsNamed}
use Rattle.branching_law.specs.declared.Turn.{Turn}
use Rattle.branching_law.specs.Found.{Reduced, Convex, Curved, IsReductionOf, IsFoundOf}
use Rattle.branching_law.proofs.Decisions.{some_rounding}
use Rattle.branching_law.proofs.SearchEnds.{some_outcome}
use Rattle.branching_law.proofs.OneCertificate.{certificate_is_one}
use Rattle.branching_law.proofs.OneStop.{one_spent_site, no_tree_beside, no_certificate_at_site, no_certificate_beside_tree}
use Rattle.branching.specs.declared.stops.DecideStop.{DecideStop}
use Rattle.branching.specs.declared.stops.DecideStop.TheVariants.{Memory, Bases, Boxes, Past}
use Rattle.branching.specs.Decided.{IsReducedBy, IsFound}
use Rattle.branching.specs.Stops.{IsSpentAt, IsDecideStopOf, IsOfBudget}

-- ---- names of sites

some_name : (place : RegionSite) → (site : Site) × IsNamed place site
some_name AtForm = (Form, refl)
some_name (AtFeasible b) = (Chain Feasible [] b.columns, refl)
some_name (AtRay b) = (Chain Ray [] b.columns, refl)
some_name (AtFace z) = (Face z, refl)
some_name (AtPrice z b) = (Chain Price z b.columns, refl)

one_name : (place : RegionSite) (site other : Site) → IsNamed place site → IsNamed place other → site ≡ other
one_name AtForm site other h k = h ∙ sym k
one_name (AtFeasible b) site other h k = h ∙ sym k
one_name (AtRay b) site other h k = h ∙ sym k
one_name (AtFace z) site other h k = h ∙ sym k
one_name (AtPrice z b) site other h k = h ∙ sym k

module _ (p : Program) (is : IsProgram p) (bases boxes : ℕ) where
  -- ---- the reduction of Q

  same_squares : (a : Result Curvature Refused) (s t : List Square) → a ≡ Ok (Squares s) → a ≡ Ok (Squares t) → s ≡ t
  same_squares a s t h k = cc

  same_vector : (a : Result Curvature Refused) (v w : List ℚ) → a ≡ Ok (Negative v) → a ≡ Ok (Negative w) → v ≡ w
  same_vector a v w h k = cc

  not_both_reductions : (a : Result Curvature Refused) (s : List Square) (v : List ℚ) → a ≡ Ok (Squares s) → a ≡ Ok (Negative v) → ⊥
  not_both_reductions a s v h k = cc

  one_reduction : (a b : Reduced) → IsReducedBy p a → IsReducedBy p b → a ≡ b
  one_reduction (Convex s) (Convex t) h k = ap Convex (same_squares (squares_of p.pairs) s t h k)
  one_reduction (Convex s) (Curved v) h k = absurd (not_both_reductions (squares_of p.pairs) s v h k)
  one_reduction (Curved v) (Convex s) h k = absurd (not_both_reductions (squares_of p.pairs) s v k h)
  one_reduction (Curved v) (Curved w) h k = ap Curved (same_vector (squares_of p.pairs) v w h k)

  right : (r : Reduced) → IsReducedBy p r → IsReductionOf p.pairs r
  right (Convex s) h = right_is p is (Ok (Squares s)) h
  right (Curved v) h = right_is p is (Ok (Negative v)) h

  -- a vector with a negative form leaves no search
  not_curved : (v : List ℚ) → IsReducedBy p (Curved v) → IsSemidefinite (length p.columns) p.pairs → ⊥
  not_curved v h semi =
      not-le_of_lt (right (Curved v) h) (subst (λ (t : ℚ). zero_ℚ ≤ℚ t) (dot_comm v (rows_dot p.pairs v)) (semi.nonneg v (width_is p is (Ok (Negative v)) h)))

  -- ---- one ending

  pub some_ending : (r : Reduced) → IsReducedBy p r → ((c : Certificate) × IsFound p bases boxes c) ⊎ ((stop : DecideStop) × IsOfBudget stop × IsDecideStopOf p bases boxes stop)
  some_ending (Curved v) h = inl (NotConvex v, record { reduced = Curved v; reduction = h; found = refl })
  some_ending (Convex squares) h =
      let r = some_rounding p in
      elim (some_outcome p squares bases boxes is (right (Convex squares) h) r.0 r.1) [
        | inl c ↦ inl (c.0, record { reduced = Convex squares; reduction = h; found = c.1 })
        | inr s ↦ elim s [
          | inl site ↦ let n = some_name site.1 in inr (Bases site.0 n.0, tt, record { place = site.1; named = n.1; spent = site.2 })
          | inr tree ↦ inr (Boxes boxes, tt, (refl, tree))
        ]
      ]

  pub one_certificate : (c d : Certificate) → IsFound p bases boxes c → IsFound p bases boxes d → c ≡ d
  one_certificate c d h k =
      certificate_is_one p k.reduced bases bases boxes boxes c d is (right k.reduced k.reduction)
      (subst (λ (r : Reduced). IsFoundOf p r bases boxes c) (one_reduction h.reduced k.reduced h.reduction k.reduction) h.found) k.found

  site_or_tree : (path : List Turn) (site : Site) (n : ℕ) → IsSpentAt p bases boxes path site → IsDecideStopOf p bases boxes (Boxes n) → ⊥
  site_or_tree path site n h k = no_tree_beside p is h.spent.reached.comes.earned.convex bases boxes path h.place h.spent k.1

  pub one_stop : (one other : DecideStop) → IsOfBudget one → IsOfBudget other → IsDecideStopOf p bases boxes one → IsDecideStopOf p bases boxes other → one ≡ other
  one_stop Memory other b c h k = absurd b
  one_stop (Past path site r) other b c h k = absurd b
  one_stop (Bases path site) Memory b c h k = absurd c
  one_stop (Bases path site) (Past way place r) b c h k = absurd c
  one_stop (Bases path site) (Bases way place) b c h k =
      let e = one_spent_site p is h.spent.reached.comes.earned.convex bases boxes path way h.place k.place h.spent k.spent in
      let n : site ≡ place = one_name k.place site place (subst (λ (s : RegionSite). IsNamed s site) e.1 h.named) k.named in
      ap (λ (w : List Turn). Bases w site) e.0 ∙ ap (Bases way) n
  one_stop (Bases path site) (Boxes n) b c h k = absurd (site_or_tree path site n h k)
  one_stop (Boxes n) Memory b c h k = absurd c
  one_stop (Boxes n) (Past way place r) b c h k = absurd c
  one_stop (Boxes n) (Bases way place) b c h k = absurd (site_or_tree way place n k h)
  one_stop (Boxes n) (Boxes m) b c h k = ap Boxes (h.0 ∙ sym k.0)

  beside : (r : Reduced) → IsReducedBy p r → (c : Certificate) → IsFoundOf p r bases boxes c → (stop : DecideStop) → IsOfBudget stop → IsDecideStopOf p bases boxes stop → ⊥
  beside r e c h Memory b k = b
  beside r e c h (Past path site q) b k = b
  beside (Convex squares) e c h (Bases path site) b k = no_certificate_at_site p is k.spent.reached.comes.earned.convex bases squares boxes c path k.place k.spent h
  beside (Convex squares) e c h (Boxes n) b k = no_certificate_beside_tree p is k.1.earned.convex bases squares boxes c k.1 h
  beside (Curved v) e c h (Bases path site) b k = not_curved v e k.spent.reached.comes.earned.convex
  beside (Curved v) e c h (Boxes n) b k = not_curved v e k.1.earned.convex

  pub not_both : (c : Certificate) (stop : DecideStop) → IsFound p bases boxes c → IsOfBudget stop → IsDecideStopOf p bases boxes stop → ⊥
  not_both c stop h b k = beside h.reduced h.reduction c h.found stop b k
