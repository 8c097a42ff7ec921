-- The two ways between the form's columns and the file's are transposes of each other.
use Rattle.std.specs.Prelude.{◌≡◌, ℕ, zero, suc, ◌+◌, List, [], ◌∷◌, ◌++◌, length, drop}
use Rattle.std.proofs.Common.{arith, sym, ◌∙◌, ap, refl, length-append}
use Rattle.algebra.proofs.Polynomial.{◌⊕◌, ◌⊝◌, ◌⊗◌, ◌≐◌, lit, minus}
use Rattle.algebra.proofs.Solver.{ring}
use Rattle.rational.specs.Rational.{ℚ, zero_ℚ, neg_ℚ, ◌+ℚ◌, ◌*ℚ◌}
use Rattle.rational.specs.Sums.{entry}
use Rattle.rational.specs.Vectors.{dot, zeros}
use Rattle.rational.proofs.Field.{rationals}
use Rattle.rational.proofs.Vectors.{dot-nil_right}
use Rattle.program_law.specs.Region.{Region}
use Rattle.equational_law.specs.Standing.{Standing, Above, Below, Free, standing, parts_at, parts, shift, change_at, change, spread_at, spread}

-- of two parts, the second takes what stands after the first
pub dot-append_left : (u w z : List ℚ) → dot (u ++ w) z ≡ dot u z +ℚ dot w (drop (length u) z)
dot-append_left [] w z = ring rationals (dot w z ∷ []) (λ a. a ≐ lit 0 ⊕ a) refl
dot-append_left (x ∷ u) w [] = dot-nil_back w
  where
    dot-nil_back : (w : List ℚ) → zero_ℚ ≡ zero_ℚ +ℚ dot w []
    dot-nil_back w = ring rationals (zero_ℚ ∷ []) (λ a. a ≐ a ⊕ lit 0) refl ∙ ap (λ t. zero_ℚ +ℚ t) (sym (dot-nil_right w))
dot-append_left (x ∷ u) w (y ∷ z) =
    ap (λ s. x *ℚ y +ℚ s) (dot-append_left u w z)
    ∙ ring rationals (x ∷ y ∷ dot u z ∷ dot w (drop (length u) z) ∷ []) (λ x y s t. x ⊗ y ⊕ (s ⊕ t) ≐ (x ⊗ y ⊕ s) ⊕ t) refl

-- one column of the file
at_column : (s : Standing) (v : ℚ) (z : List ℚ) → dot (spread_at s v) z ≡ v *ℚ change_at s z
at_column (Above l) v [] = ring rationals (v ∷ []) (λ v. lit 0 ≐ v ⊗ lit 0) refl
at_column (Above l) v (x ∷ z) = ring rationals (v ∷ x ∷ []) (λ v x. v ⊗ x ⊕ lit 0 ≐ v ⊗ x) refl
at_column (Below u) v [] = ring rationals (v ∷ []) (λ v. lit 0 ≐ v ⊗ minus (lit 0)) refl
at_column (Below u) v (x ∷ z) = ring rationals (v ∷ x ∷ []) (λ v x. minus v ⊗ x ⊕ lit 0 ≐ v ⊗ minus x) refl
at_column Free v [] = ring rationals (v ∷ []) (λ v. lit 0 ≐ v ⊗ (lit 0 ⊝ lit 0)) refl
at_column Free v (x ∷ []) = ring rationals (v ∷ x ∷ []) (λ v x. v ⊗ x ⊕ lit 0 ≐ v ⊗ (x ⊝ lit 0)) refl
at_column Free v (x ∷ y ∷ z) = ring rationals (v ∷ x ∷ y ∷ []) (λ v x y. v ⊗ x ⊕ (minus v ⊗ y ⊕ lit 0) ≐ v ⊗ (x ⊝ y)) refl

pub length-spread_at : (s : Standing) (v : ℚ) → length (spread_at s v) ≡ parts_at s
length-spread_at (Above l) v = refl
length-spread_at (Below u) v = refl
length-spread_at Free v = refl

dot-first : (v : List ℚ) (c : ℚ) (cs : List ℚ) → entry v 0 *ℚ c +ℚ dot (drop 1 v) cs ≡ dot v (c ∷ cs)
dot-first [] c cs = ring rationals (c ∷ []) (λ c. lit 0 ⊗ c ⊕ lit 0 ≐ lit 0) refl
dot-first (x ∷ v) c cs = refl

pub adjoint : (region : Region) (v z : List ℚ) → dot (spread region v) z ≡ dot v (change region z)
adjoint [] v z = sym (dot-nil_right v)
adjoint (b ∷ bs) v z =
    let s = standing b in
    let x = entry v 0 in
    dot-append_left (spread_at s x) (spread bs (drop 1 v)) z
    ∙ ap (λ k. dot (spread_at s x) z +ℚ dot (spread bs (drop 1 v)) (drop k z)) (length-spread_at s x)
    ∙ ap (λ t. t +ℚ dot (spread bs (drop 1 v)) (drop (parts_at s) z)) (at_column s x z)
    ∙ ap (λ t. x *ℚ change_at s z +ℚ t) (adjoint bs (drop 1 v) (drop (parts_at s) z))
    ∙ dot-first v (change_at s z) (change bs (drop (parts_at s) z))

pub length-spread : (region : Region) (v : List ℚ) → length (spread region v) ≡ parts region
length-spread [] v = refl
length-spread (b ∷ bs) v =
    length-append (spread_at (standing b) (entry v 0)) (spread bs (drop 1 v))
    ∙ ap (λ k. k + length (spread bs (drop 1 v))) (length-spread_at (standing b) (entry v 0))
    ∙ ap (λ k. parts_at (standing b) + k) (length-spread bs (drop 1 v))

pub length-change : (region : Region) (z : List ℚ) → length (change region z) ≡ length region
length-change [] z = refl
length-change (b ∷ bs) z = ap suc (length-change bs (drop (parts_at (standing b)) z))

pub length-shift : (region : Region) → length (shift region) ≡ length region
length-shift [] = refl
length-shift (b ∷ bs) = ap suc (length-shift bs)

head_same : {x y : ℚ} {u v : List ℚ} → x ∷ u ≡ y ∷ v → x ≡ y
head_same h = cc

tail_same : {x y : ℚ} {u v : List ℚ} → x ∷ u ≡ y ∷ v → u ≡ v
tail_same h = cc

from_cons : {x : ℚ} {u : List ℚ} → x ∷ u ≡ [] → ⊥
from_cons h = cc

negated : (v : ℚ) → neg_ℚ v ≡ zero_ℚ → v ≡ zero_ℚ
negated v h = ring rationals (v ∷ []) (λ v. v ≐ minus (minus v)) refl ∙ ap neg_ℚ h ∙ ring rationals [] (minus (lit 0) ≐ lit 0) refl

-- a column's number is 0 where what it spreads to is
zero_at : (s : Standing) (v : ℚ) (ws : List ℚ) (n : ℕ) → spread_at s v ++ ws ≡ zeros n → (m : ℕ) × (v ≡ zero_ℚ) × (ws ≡ zeros m)
zero_at (Above l) v ws zero h = absurd (from_cons h)
zero_at (Above l) v ws (suc n) h = (n, head_same h, tail_same h)
zero_at (Below u) v ws zero h = absurd (from_cons h)
zero_at (Below u) v ws (suc n) h = (n, negated v (head_same h), tail_same h)
zero_at Free v ws zero h = absurd (from_cons h)
zero_at Free v ws (suc zero) h = absurd (from_cons (tail_same h))
zero_at Free v ws (suc (suc n)) h = (n, head_same h, tail_same (tail_same h))

-- each column of the file stands somewhere, so that only zeros spread to zeros
pub spread_zero : (region : Region) (v : List ℚ) (n : ℕ) → length v ≡ length region → spread region v ≡ zeros n → v ≡ zeros (length region)
spread_zero [] [] n h e = refl
spread_zero [] (x ∷ v) n h e = absurd (omega arith)
spread_zero (b ∷ bs) [] n h e = absurd (omega arith)
spread_zero (b ∷ bs) (x ∷ v) n h e =
    let d = zero_at (standing b) x (spread bs v) n e in
    ap (λ y. y ∷ v) d.1 ∙ ap (λ w. zero_ℚ ∷ w) (spread_zero bs v d.0 (omega arith) d.2)
