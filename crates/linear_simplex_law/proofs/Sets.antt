-- Sets of columns as numbers, and how many different numbers there are below a bound.
use Rattle.std.proofs.Common.{inl, inr, ◌≡◌, ◌≢◌, sym, subst, ℕ, zero, suc, ◌+◌, ◌<◌, ◌≤◌, ◌⊎◌, List, [], ◌∷◌, length, arith}
use Rattle.std.specs.Prelude.{◌^◌, Contains, All, slice_index_or, ◌↔◌}
use Rattle.std.specs.List.{AllByRecursion}
use Rattle.std.proofs.lemmas.List.Elements.{All-contains}
use Rattle.linear_basis_law.proofs.Places.{same_or_other}

-- ---- different numbers below a bound

abbrev Avoids : ℕ → List ℕ → Type 0
Avoids k xs = AllByRecursion (λ x. x ≢ k) xs

abbrev pub AreDistinct : List ℕ → Type 0
AreDistinct [] = Unit {0}
AreDistinct (x ∷ xs) = Avoids x xs × AreDistinct xs

abbrev pub AreBelow : ℕ → List ℕ → Type 0
AreBelow k xs = AllByRecursion (λ x. x < k) xs

record Without (k : ℕ) (xs : List ℕ) : Type 0 where
  left : List ℕ
  distinct : AreDistinct left
  below : AreBelow k left
  count : length xs ≤ suc (length left)
  kept : (z : ℕ) → Avoids z xs → Avoids z left

lower : (k : ℕ) (xs : List ℕ) → AreBelow (suc k) xs → Avoids k xs → AreBelow k xs
lower k [] h n = tt
lower k (x ∷ xs) h n = (at x k h.0 n.0, lower k xs h.1 n.1)
  where
    at : (x k : ℕ) → x < suc k → x ≢ k → x < k
    at x k l m = grind arith

without : (k : ℕ) (xs : List ℕ) → AreDistinct xs → AreBelow (suc k) xs → Without k xs
without k [] d h = record { left = []; distinct = tt; below = tt; count = omega arith; kept = λ z a. tt }
without k (x ∷ xs) d h = by (same_or_other x k) (without k xs d.1 h.1)
  where
    at : (x k : ℕ) → x < suc k → x ≢ k → x < k
    at x k l m = grind arith

    by : (x ≡ k) ⊎ (x ≢ k) → Without k xs → Without k (x ∷ xs)
    by (inl e) r = record {
      left = xs;
      distinct = d.1;
      below = lower k xs h.1 (subst (λ x. Avoids x xs) e d.0);
      count = omega arith;
      kept = λ z a. a.1;
    }
    by (inr n) r =
        let c = r.count in
        record {
          left = x ∷ r.left;
          distinct = (r.kept x d.0, r.distinct);
          below = (at x k h.0 n, r.below);
          count = omega arith;
          kept = λ z a. (a.0, r.kept z a.1);
        }

pub few : (k : ℕ) (xs : List ℕ) → AreDistinct xs → AreBelow k xs → length xs ≤ k
few zero [] d h = omega arith
few zero (x ∷ xs) d h = let l = h.0 in absurd (omega arith)
few (suc k) xs d h =
    let r = without k xs d h in
    let c = r.count in
    let i = few k r.left r.distinct r.below in
    omega arith

-- ---- sets as numbers

pub contains_or : (xs : List ℕ) (j : ℕ) → Contains xs j ⊎ ¬ (Contains xs j)
contains_or [] j = inr (λ c. let l = c.1 in absurd (omega arith))
contains_or (x ∷ xs) j = by (same_or_other x j) (contains_or xs j)
  where
    none : x ≢ j → ¬ (Contains xs j) → (k : ℕ) → k < length (x ∷ xs) → slice_index_or (x ∷ xs) k j ≡ j → ⊥
    none n m zero l e = n e
    none n m (suc k) l e = m (k, omega arith, e)

    by : (x ≡ j) ⊎ (x ≢ j) → Contains xs j ⊎ ¬ (Contains xs j) → Contains (x ∷ xs) j ⊎ ¬ (Contains (x ∷ xs) j)
    by (inl e) s = inl (0, omega arith, e)
    by (inr n) (inl c) = let l = c.1 in inl (suc c.0, omega arith, c.2)
    by (inr n) (inr m) = inr (λ c. none n m c.0 c.1 c.2)

abbrev bit : {A : Type 0} → A ⊎ ¬ A → ℕ
bit (inl a) = 1
bit (inr n) = 0

-- the columns below k of a list, as the digits of a number
abbrev pub code : ℕ → List ℕ → ℕ
code zero xs = 0
code (suc k) xs = code k xs + code k xs + bit (contains_or xs k)

bit_below : {A : Type 0} (s : A ⊎ ¬ A) → bit s ≤ 1
bit_below (inl a) = omega arith
bit_below (inr n) = omega arith

power : (k : ℕ) → 2 ^ suc k ≡ 2 ^ k + 2 ^ k
power k = omega arith

pub code_below : (k : ℕ) (xs : List ℕ) → code k xs < 2 ^ k
code_below zero xs = omega arith
code_below (suc k) xs = digit (code k xs) (bit (contains_or xs k)) (2 ^ k) (2 ^ suc k) (code_below k xs) (bit_below (contains_or xs k)) (power k)
  where
    digit : (c b w v : ℕ) → c < w → b ≤ 1 → v ≡ w + w → c + c + b < v
    digit c b w v h k e = omega (arith, e)

same_bit : {A B : Type 0} (s : A ⊎ ¬ A) (t : B ⊎ ¬ B) → bit s ≡ bit t → A ↔ B
same_bit (inl a) (inl b) e = (λ x. b, λ x. a)
same_bit (inl a) (inr n) e = absurd (omega (arith, e))
same_bit (inr n) (inl b) e = absurd (omega (arith, e))
same_bit (inr n) (inr m) e = (λ a. absurd (n a), λ b. absurd (m b))

-- one number, one set
pub same_code : (k : ℕ) (xs ys : List ℕ) → code k xs ≡ code k ys → (j : ℕ) → j < k → Contains xs j ↔ Contains ys j
same_code zero xs ys e j l = absurd (omega arith)
same_code (suc k) xs ys e j l = by (same_or_other j k) (λ n. same_code k xs ys
    (halves (code k xs) (code k ys) (bit (contains_or xs k)) (bit (contains_or ys k)) (bit_below (contains_or xs k)) (bit_below (contains_or ys k)) e) j (at j k l n))
  where
    halves : (c d a b : ℕ) → a ≤ 1 → b ≤ 1 → c + c + a ≡ d + d + b → c ≡ d
    halves c d a b h i e = omega (arith, e)

    digits : (c d a b : ℕ) → a ≤ 1 → b ≤ 1 → c + c + a ≡ d + d + b → a ≡ b
    digits c d a b h i e = omega (arith, e)

    at : (j k : ℕ) → j < suc k → j ≢ k → j < k
    at j k l n = grind arith

    by : (j ≡ k) ⊎ (j ≢ k) → ((j ≢ k) → Contains xs j ↔ Contains ys j) → Contains xs j ↔ Contains ys j
    by (inl f) lower = subst (λ j. Contains xs j ↔ Contains ys j) (sym f) (same_bit (contains_or xs k) (contains_or ys k)
        (digits (code k xs) (code k ys) (bit (contains_or xs k)) (bit (contains_or ys k)) (bit_below (contains_or xs k)) (bit_below (contains_or ys k)) e))
    by (inr n) lower = lower n

-- lists with all their numbers below k
pub same_sets : (k : ℕ) (xs ys : List ℕ) → All (λ j. j < k) xs → All (λ j. j < k) ys → code k xs ≡ code k ys → (j : ℕ) → Contains xs j ↔ Contains ys j
same_sets k xs ys h i e j =
    (λ c. (same_code k xs ys e j (All-contains (λ j. j < k) xs j h c)).0 c, λ c. (same_code k xs ys e j (All-contains (λ j. j < k) ys j i c)).1 c)
