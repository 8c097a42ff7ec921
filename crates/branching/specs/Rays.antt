-- Answers without a ray: a search for the best meets no others.
use Rattle.quad_solve.specs.declared.relaxation.Relaxed.{Relaxed}
use Rattle.quad_solve.specs.declared.relaxation.Relaxed.TheVariants.{Crossed, Empty, Ray, Best}

-- the answer of a region is no ray
abbrev pub IsNoRay : Relaxed → Type 0
IsNoRay (Crossed j) = Unit {0}
IsNoRay (Empty y) = Unit {0}
IsNoRay (Ray x d) = ⊥
IsNoRay (Best x v y) = Unit {0}
