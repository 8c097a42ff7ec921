-- An elimination keeps the vectors whose product with each row is 0.
use Rattle.std.proofs.Common.{◌≡◌, ℕ, List, [], ◌∷◌, length, false, sym, ap, ◌∙◌, refl}
use Rattle.std.specs.List.{AllByRecursion}
use Rattle.algebra.proofs.Ring as laws
use Rattle.algebra.proofs.Polynomial.{minus, ◌⊕◌, ◌⊗◌, ◌≐◌, lit}
use Rattle.algebra.proofs.Solver.{ring}
use Rattle.algebra.proofs.Certificate.{prove, scaled, ◌⊞◌, ◌⇐◌}
use Rattle.rational.specs.Rational.{ℚ, zero_ℚ, ◌+ℚ◌, ◌*ℚ◌, neg_ℚ, reciprocal}
use Rattle.rational.specs.Order.{same_fields, differ_of_same_fields}
use Rattle.rational.specs.Sums.{entry}
use Rattle.rational.specs.Vectors.{dot, scale}
use Rattle.rational.proofs.Field.{rationals, mul-reciprocal}
use Rattle.rational.proofs.Order.{ordered_rationals}
use Rattle.rational.proofs.Vectors.{dot-scale_left, dot-add_scale_left}
use Rattle.elimination_law.specs.Elimination.{Line, is_pivot, divided, freed, step, eliminated}
use Rattle.elimination_law.proofs.Lines.{bool_cases, each_both, step_each, step_each_back, freed-pivot, freed-other, eliminated_keeps_all, HasWidth, length-divided, width-step}

-- each row gives 0 of v
abbrev pub Kills : List ℚ → List Line → Type 0
Kills v ls = AllByRecursion (λ l. dot l.entries v ≡ zero_ℚ) ls

pub divided-scale : (q : ℚ) (row : List ℚ) → divided q row ≡ scale (reciprocal q) row
divided-scale q [] = refl
divided-scale q (x ∷ row) = ap (λ t. t ∷ divided q row) (rationals.mul_comm x (reciprocal q)) ∙ ap (λ s. (reciprocal q *ℚ x) ∷ s) (divided-scale q row)

dot-divided : (q : ℚ) (row v : List ℚ) → dot (divided q row) v ≡ reciprocal q *ℚ dot row v
dot-divided q row v = ap (λ s. dot s v) (divided-scale q row) ∙ dot-scale_left (reciprocal q) row v

killed_back : (q d : ℚ) → same_fields q zero_ℚ ≡ false → reciprocal q *ℚ d ≡ zero_ℚ → d ≡ zero_ℚ
killed_back q d nz e =
    prove ordered_rationals (q ∷ reciprocal q ∷ d ∷ []) (λ q i d. d ≐ lit 0 ⇐ scaled (minus d) (q ⊗ i) (lit 1) ⊞ scaled q (i ⊗ d) (lit 0)) refl
    (mul-reciprocal q (differ_of_same_fields q zero_ℚ nz)) e

-- the product of a freed line
dot-freed : (j : ℕ) (p : List ℚ) (l : Line) (v : List ℚ) → length l.entries ≡ length p → dot p v ≡ zero_ℚ → dot (freed j p l).entries v ≡ dot l.entries v
dot-freed j p l v h e = bool_cases (is_pivot j l.pivot)
    (λ a. ap (λ (m : Line). dot m.entries v) (freed-pivot j p l a))
    (λ a.
    ap (λ (m : Line). dot m.entries v) (freed-other j p l a) ∙ dot-add_scale_left l.entries (neg_ℚ (entry l.entries j)) p v h
    ∙ ap (λ t. dot l.entries v +ℚ neg_ℚ (entry l.entries j) *ℚ t) e
    ∙ ring rationals (dot l.entries v ∷ entry l.entries j ∷ []) (λ d f. d ⊕ minus f ⊗ lit 0 ≐ d) refl)

kills-step : (w : ℕ) (v : List ℚ) (j : ℕ) (ls : List Line) → HasWidth w ls → Kills v ls → Kills v (step j ls)
kills-step w v j ls h k =
    step_each (λ l. (length l.entries ≡ w) × (dot l.entries v ≡ zero_ℚ)) (λ l. dot l.entries v ≡ zero_ℚ) j ls (λ _ l _ t. t.1)
    (λ row _ nz t.
    let p = divided (entry row j) row in
    let e : dot p v ≡ zero_ℚ = dot-divided (entry row j) row v ∙ ap (λ d. reciprocal (entry row j) *ℚ d) t.1 ∙ laws.mul_zero rationals (reciprocal (entry row j)) in
    (e, λ l u. dot-freed j p l v (u.0 ∙ sym (length-divided (entry row j) row ∙ t.0)) e ∙ u.1))
    (each_both (λ l. length l.entries ≡ w) (λ l. dot l.entries v ≡ zero_ℚ) ls h k)

kills-step_back : (w : ℕ) (v : List ℚ) (j : ℕ) (ls : List Line) → HasWidth w ls → Kills v (step j ls) → Kills v ls
kills-step_back w v j ls h k =
    step_each_back (λ l. length l.entries ≡ w) (λ l. dot l.entries v ≡ zero_ℚ) j ls
    (λ row nz a e.
    let p = divided (entry row j) row in (
      killed_back (entry row j) (dot row v) nz (sym (dot-divided (entry row j) row v) ∙ e),
      λ l b u. sym (dot-freed j p l v (b ∙ sym (length-divided (entry row j) row ∙ a)) e) ∙ u,
    ))
    h k

-- what the rows at the beginning have in common with the rows at the end
pub record SameKernel (w : ℕ) (v : List ℚ) (first ls : List Line) : Type 0 where
  pub width : HasWidth w ls
  pub there : Kills v first → Kills v ls
  pub back : Kills v ls → Kills v first

pub same_kernel : (w : ℕ) (v : List ℚ) (n : ℕ) (ls : List Line) → HasWidth w ls → SameKernel w v ls (eliminated n ls)
same_kernel w v n ls h =
    eliminated_keeps_all (λ _ now. SameKernel w v ls now)
    (λ j now s. record { width = width-step w j now s.width; there = λ k. kills-step w v j now s.width (s.there k); back = λ k. s.back (kills-step_back w v j now s.width k) })
    n ls (record { width = h; there = λ k. k; back = λ k. k })
