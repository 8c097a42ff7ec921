-- Lists: what follows a first part, entries that are at most others, and products with lists that are taken apart.
use Rattle.std.specs.Prelude.{◌≡◌, ℕ, zero, suc, ◌+◌, List, [], ◌∷◌, ◌++◌, length, drop, map}
use Rattle.std.proofs.Common.{arith, sym, ◌∙◌, ap, refl}
use Rattle.algebra.proofs.Polynomial.{◌⊕◌, ◌⊗◌, ◌≐◌, lit, minus}
use Rattle.algebra.proofs.Solver.{ring}
use Rattle.rational.specs.Rational.{ℚ, zero_ℚ, one_ℚ, neg_ℚ, ◌+ℚ◌, ◌*ℚ◌}
use Rattle.rational.specs.Order.{◌≤ℚ◌}
use Rattle.rational.specs.Sums.{entry}
use Rattle.rational.specs.Vectors.{dot, scale}
use Rattle.rational.proofs.Field.{rationals}
use Rattle.rational.proofs.Order.{le_refl}
use Rattle.rational.proofs.Vectors.{dot-nil_right}

-- each entry of u is at most that of v
abbrev pub AllAtMost : List ℚ → List ℚ → Type 0
AllAtMost u v = (j : ℕ) → entry u j ≤ℚ entry v j

-- each entry is at most 0
abbrev pub NonePositive : List ℚ → Type 0
NonePositive u = (j : ℕ) → entry u j ≤ℚ zero_ℚ

drop_nil : (n : ℕ) → [] ≡ drop {A = ℚ} n []
drop_nil zero = refl
drop_nil (suc n) = refl

pub drop-drop : (n m : ℕ) (xs : List ℚ) → drop m (drop n xs) ≡ drop (n + m) xs
drop-drop zero m xs = ap (λ (k : ℕ). drop k xs) (omega arith)
drop-drop (suc n) m [] = sym (drop_nil m) ∙ drop_nil (suc n + m)
drop-drop (suc n) m (x ∷ xs) = drop-drop n m xs ∙ ap (λ (k : ℕ). drop k (x ∷ xs)) (by n m)
  where
    by : (n m : ℕ) → suc (n + m) ≡ suc n + m
    by n m = omega arith

pub entry-drop : (n : ℕ) (xs : List ℚ) → entry (drop n xs) 0 ≡ entry xs n
entry-drop zero xs = refl
entry-drop (suc n) [] = refl
entry-drop (suc n) (x ∷ xs) = entry-drop n xs

-- the two parts of a list
pub at_most_left : (u w v z : List ℚ) → length u ≡ length v → AllAtMost (u ++ w) (v ++ z) → AllAtMost u v
at_most_left [] w [] z e h j = at_most_nil j
  where
    at_most_nil : (j : ℕ) → entry [] j ≤ℚ entry [] j
    at_most_nil j = le_refl zero_ℚ
at_most_left [] w (y ∷ v) z e h j = absurd (omega arith)
at_most_left (x ∷ u) w [] z e h j = absurd (omega arith)
at_most_left (x ∷ u) w (y ∷ v) z e h zero = h 0
at_most_left (x ∷ u) w (y ∷ v) z e h (suc j) = at_most_left u w v z (omega arith) (λ i. h (suc i)) j

pub at_most_right : (u w v z : List ℚ) → length u ≡ length v → AllAtMost (u ++ w) (v ++ z) → AllAtMost w z
at_most_right [] w [] z e h = h
at_most_right [] w (y ∷ v) z e h = absurd (omega arith)
at_most_right (x ∷ u) w [] z e h = absurd (omega arith)
at_most_right (x ∷ u) w (y ∷ v) z e h = at_most_right u w v z (omega arith) (λ i. h (suc i))

pub none_left : (u w : List ℚ) → NonePositive (u ++ w) → NonePositive u
none_left [] w h j = le_refl zero_ℚ
none_left (x ∷ u) w h zero = h 0
none_left (x ∷ u) w h (suc j) = none_left u w (λ i. h (suc i)) j

pub none_right : (u w : List ℚ) → NonePositive (u ++ w) → NonePositive w
none_right [] w h = h
none_right (x ∷ u) w h = none_right u w (λ i. h (suc i))

-- the product, from its first place
pub dot-first_back : (v : List ℚ) (c : ℚ) (cs : List ℚ) → dot v (c ∷ cs) ≡ entry v 0 *ℚ c +ℚ dot (drop 1 v) cs
dot-first_back [] c cs = ring rationals (c ∷ []) (λ c. lit 0 ≐ lit 0 ⊗ c ⊕ lit 0) refl
dot-first_back (x ∷ v) c cs = refl

-- from its first two
pub dot-two : (v : List ℚ) (c d : ℚ) (cs : List ℚ) → dot v (c ∷ d ∷ cs) ≡ entry v 0 *ℚ c +ℚ (entry v 1 *ℚ d +ℚ dot (drop 2 v) cs)
dot-two [] c d cs = ring rationals (c ∷ d ∷ []) (λ c d. lit 0 ≐ lit 0 ⊗ c ⊕ (lit 0 ⊗ d ⊕ lit 0)) refl
dot-two (x ∷ v) c d cs = ap (λ t. x *ℚ c +ℚ t) (dot-first_back v d cs)

-- with a part of x from place j on
pub dot-from : (p : ℚ) (ps : List ℚ) (j : ℕ) (x : List ℚ) → dot (p ∷ ps) (drop j x) ≡ p *ℚ entry x j +ℚ dot ps (drop (suc j) x)
dot-from p ps zero [] = ring rationals (p ∷ []) (λ p. lit 0 ≐ p ⊗ lit 0 ⊕ lit 0) refl ∙ ap (λ t. p *ℚ zero_ℚ +ℚ t) (sym (dot-nil_right ps))
dot-from p ps zero (y ∷ x) = refl
dot-from p ps (suc j) [] = ring rationals (p ∷ []) (λ p. lit 0 ≐ p ⊗ lit 0 ⊕ lit 0) refl ∙ ap (λ t. p *ℚ zero_ℚ +ℚ t) (sym (dot-nil_right ps))
dot-from p ps (suc j) (y ∷ x) = dot-from p ps j x

pub negated_is_scaled : (u : List ℚ) → map neg_ℚ u ≡ scale (neg_ℚ one_ℚ) u
negated_is_scaled [] = refl
negated_is_scaled (x ∷ u) =
    ap (λ t. t ∷ map neg_ℚ u) (ring rationals (x ∷ []) (λ x. minus x ≐ minus (lit 1) ⊗ x) refl) ∙ ap (λ t. (neg_ℚ one_ℚ *ℚ x) ∷ t) (negated_is_scaled u)

pub length-negated : (u : List ℚ) → length (map neg_ℚ u) ≡ length u
length-negated [] = refl
length-negated (x ∷ u) = ap suc (length-negated u)

-- ---- slacks

pub one_slack : (a : ℚ) (w : List ℚ) → a *ℚ dot (one_ℚ ∷ []) w ≡ dot (a ∷ []) w
one_slack a [] = ring rationals (a ∷ []) (λ a. a ⊗ lit 0 ≐ lit 0) refl
one_slack a (x ∷ w) = ring rationals (a ∷ x ∷ []) (λ a x. a ⊗ (lit 1 ⊗ x ⊕ lit 0) ≐ a ⊗ x ⊕ lit 0) refl

pub negated_slack : (a : ℚ) (w : List ℚ) → a *ℚ dot (neg_ℚ one_ℚ ∷ []) w ≡ dot (neg_ℚ a ∷ []) w
negated_slack a [] = ring rationals (a ∷ []) (λ a. a ⊗ lit 0 ≐ lit 0) refl
negated_slack a (x ∷ w) = ring rationals (a ∷ x ∷ []) (λ a x. a ⊗ (minus (lit 1) ⊗ x ⊕ lit 0) ≐ minus a ⊗ x ⊕ lit 0) refl

pub two_slacks : (a b : ℚ) (w : List ℚ) → a *ℚ dot (one_ℚ ∷ []) w +ℚ b *ℚ dot (one_ℚ ∷ one_ℚ ∷ []) w ≡ dot ((a +ℚ b) ∷ b ∷ []) w
two_slacks a b [] = ring rationals (a ∷ b ∷ []) (λ a b. a ⊗ lit 0 ⊕ b ⊗ lit 0 ≐ lit 0) refl
two_slacks a b (x ∷ []) = ring rationals (a ∷ b ∷ x ∷ []) (λ a b x. a ⊗ (lit 1 ⊗ x ⊕ lit 0) ⊕ b ⊗ (lit 1 ⊗ x ⊕ lit 0) ≐ (a ⊕ b) ⊗ x ⊕ lit 0) refl
two_slacks a b (x ∷ y ∷ w) =
    ring rationals (a ∷ b ∷ x ∷ y ∷ []) (λ a b x y. a ⊗ (lit 1 ⊗ x ⊕ lit 0) ⊕ b ⊗ (lit 1 ⊗ x ⊕ (lit 1 ⊗ y ⊕ lit 0)) ≐ (a ⊕ b) ⊗ x ⊕ (b ⊗ y ⊕ lit 0)) refl
