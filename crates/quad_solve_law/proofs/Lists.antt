-- Lists put together, and their parts again.
use Rattle.std.proofs.Common.{◌≡◌, refl, ◌∙◌, ap, ℕ, zero, suc, ◌<◌, ◌≤◌, ◌⊎◌, inl, inr, List, [], ◌∷◌, ◌++◌, length, map, arith}
use Rattle.std.specs.Prelude.{take, drop, All}
use Rattle.std.proofs.lemmas.List.Elements.{All-nil, All-cons, All-head, All-tail}
use Rattle.algebra.proofs.Polynomial.{minus, ◌⊕◌, ◌⊗◌, ◌≐◌, lit}
use Rattle.algebra.proofs.Solver.{ring}
use Rattle.rational.specs.Rational.{ℚ, zero_ℚ, one_ℚ, ◌+ℚ◌, ◌*ℚ◌, neg_ℚ, ◌/ℚ◌, reciprocal}
use Rattle.rational.specs.Order.{◌≤ℚ◌, ◌<ℚ◌}
use Rattle.rational.specs.Sums.{entry}
use Rattle.rational.specs.Vectors.{dot, scale}
use Rattle.rational.proofs.Field.{rationals}
use Rattle.rational.proofs.Order.{le_or_lt}

head_same : {x y : ℚ} {u v : List ℚ} → x ∷ u ≡ y ∷ v → x ≡ y
head_same {x} e = ap (λ l. entry l 0) e

tail_same : {x y : ℚ} {u v : List ℚ} → x ∷ u ≡ y ∷ v → u ≡ v
tail_same e = ap (drop 1) e

-- two lists of lists of one length are the same part by part
pub parts_same : (a b c d : List ℚ) → length a ≡ length b → a ++ c ≡ b ++ d → (a ≡ b) × (c ≡ d)
parts_same [] [] c d l e = (refl, e)
parts_same [] (y ∷ b) c d l e = absurd (omega arith)
parts_same (x ∷ a) [] c d l e = absurd (omega arith)
parts_same (x ∷ a) (y ∷ b) c d l e =
    let h = parts_same a b c d (omega arith) (tail_same e) in
    (ap (λ x. x ∷ a) (head_same e) ∙ ap (λ a. y ∷ a) h.0, h.1)

pub only_same : (x y : ℚ) → x ∷ [] ≡ y ∷ [] → x ≡ y
only_same x y e = head_same e

-- ---- negated lists

pub negated : (u : List ℚ) → map neg_ℚ u ≡ scale (neg_ℚ one_ℚ) u
negated [] = refl
negated (x ∷ u) = ap (λ t. neg_ℚ x ∷ t) (negated u) ∙ ap (λ y. y ∷ scale (neg_ℚ one_ℚ) u) (ring rationals (x ∷ []) (λ x. minus x ≐ minus (lit 1) ⊗ x) refl)

pub dot-negated : (u v : List ℚ) → dot (map neg_ℚ u) v ≡ neg_ℚ (dot u v)
dot-negated [] v = ring rationals [] (lit 0 ≐ minus (lit 0)) refl
dot-negated (x ∷ u) [] = ring rationals [] (lit 0 ≐ minus (lit 0)) refl
dot-negated (x ∷ u) (y ∷ v) = ap (λ t. neg_ℚ x *ℚ y +ℚ t) (dot-negated u v) ∙ ring rationals (x ∷ y ∷ dot u v ∷ []) (λ x y t. minus x ⊗ y ⊕ minus t ≐ minus (x ⊗ y ⊕ t)) refl

pub length-negated : (u : List ℚ) → length (map neg_ℚ u) ≡ length u
length-negated [] = refl
length-negated (x ∷ u) = ap suc (length-negated u)

pub entry-negated : (u : List ℚ) (j : ℕ) → entry (map neg_ℚ u) j ≡ neg_ℚ (entry u j)
entry-negated [] j = ring rationals [] (lit 0 ≐ minus (lit 0)) refl
entry-negated (x ∷ u) zero = refl
entry-negated (x ∷ u) (suc j) = entry-negated u j

pub over_is_scale : (t : ℚ) (u : List ℚ) → map (λ y. y /ℚ t) u ≡ scale (reciprocal t) u
over_is_scale t [] = refl
over_is_scale t (x ∷ u) = ap (λ l. (x /ℚ t) ∷ l) (over_is_scale t u) ∙ ap (λ y. y ∷ scale (reciprocal t) u) (rationals.mul_comm x (reciprocal t))

-- ---- ends

pub length-with_last : (u : List ℚ) (x : ℚ) → length (u ++ x ∷ []) ≡ suc (length u)
length-with_last [] x = refl
length-with_last (y ∷ u) x = ap suc (length-with_last u x)

pub with_last : (m : ℕ) (w : List ℚ) → length w ≡ suc m → w ≡ take m w ++ entry w m ∷ []
with_last zero [] e = absurd (omega arith)
with_last zero (x ∷ []) e = refl
with_last zero (x ∷ y ∷ w) e = absurd (omega arith)
with_last (suc m) [] e = absurd (omega arith)
with_last (suc m) (x ∷ w) e = ap (λ l. x ∷ l) (with_last m w (omega arith))

pub length-taken : (m : ℕ) (w : List ℚ) → m ≤ length w → length (take m w) ≡ m
length-taken zero w h = refl
length-taken (suc m) [] h = absurd (omega arith)
length-taken (suc m) (x ∷ w) h = ap suc (length-taken m w (omega arith))

pub entry-taken : (m : ℕ) (w : List ℚ) (j : ℕ) → j < m → entry (take m w) j ≡ entry w j
entry-taken zero w j l = absurd (omega arith)
entry-taken (suc m) [] j l = refl
entry-taken (suc m) (x ∷ w) zero l = refl
entry-taken (suc m) (x ∷ w) (suc j) l = entry-taken m w j (omega arith)

-- past its end a list has the entry 0
pub entry-past : (u : List ℚ) (j : ℕ) → length u ≤ j → entry u j ≡ zero_ℚ
entry-past [] j l = refl
entry-past (x ∷ u) zero l = absurd (omega arith)
entry-past (x ∷ u) (suc j) l = entry-past u j (omega arith)

pub entry-front : (u v : List ℚ) (j : ℕ) → j < length u → entry (u ++ v) j ≡ entry u j
entry-front [] v j l = absurd (omega arith)
entry-front (x ∷ u) v zero l = refl
entry-front (x ∷ u) v (suc j) l = entry-front u v j (omega arith)

-- ---- signs

pub front_all : (P : ℚ → Type 0) (u v : List ℚ) → All P (u ++ v) → All P u
front_all P [] v h = All-nil P
front_all P (x ∷ u) v h = All-cons P x u (All-head P x (u ++ v) h) (front_all P u v (All-tail P x (u ++ v) h))

pub back_all : (P : ℚ → Type 0) (u v : List ℚ) → All P (u ++ v) → All P v
back_all P [] v h = h
back_all P (x ∷ u) v h = back_all P u v (All-tail P x (u ++ v) h)

pub some_below : (d : List ℚ) → (All (λ x. zero_ℚ ≤ℚ x) d) ⊎ ((j : ℕ) × (entry d j <ℚ zero_ℚ))
some_below [] = inl (All-nil (λ x. zero_ℚ ≤ℚ x))
some_below (x ∷ d) = by (le_or_lt zero_ℚ x) (some_below d)
  where
    by : (zero_ℚ ≤ℚ x) ⊎ (x <ℚ zero_ℚ) → (All (λ x. zero_ℚ ≤ℚ x) d) ⊎ ((j : ℕ) × (entry d j <ℚ zero_ℚ)) → (All (λ x. zero_ℚ ≤ℚ x) (x ∷ d)) ⊎ ((j : ℕ) × (entry (x ∷ d) j <ℚ zero_ℚ))
    by (inl h) (inl k) = inl (All-cons (λ x. zero_ℚ ≤ℚ x) x d h k)
    by (inl h) (inr k) = inr (suc k.0, k.1)
    by (inr h) k = inr (0, h)
