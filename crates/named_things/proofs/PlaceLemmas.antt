-- Places of names in a list that grows.
use Rattle.std.proofs.Common.{◌≡◌, ℕ, zero, suc, ◌<◌, Bool, true, false, cond, List, [], ◌∷◌, ◌++◌, length, Option, Some, None, refl, sym, ap, ◌∙◌, arith}
use Rattle.std.specs.Option.{option_map}
use Rattle.std.specs.Str.{bytes_eq}
use Rattle.std.proofs.lemmas.Slice.Eq.{bytes_eq-Decides}
use Rattle.program_law.specs.Places.{place_of}

abbrev pub at_place : ℕ → Option ℕ
at_place k = Some k

place_here : (b : Bool) (o : Option ℕ) → b ≡ true → cond b (Some 0) (option_map suc o) ≡ at_place 0
place_here b o e = rw e refl

-- a name that is found stays where it is
pub place_stays : (names more : List (List ℕ)) (name : List ℕ) (k : ℕ) → place_of names name ≡ Some k → place_of (names ++ more) name ≡ Some k
place_stays [] more name k e = absurd cc
place_stays (n ∷ ns) more name k e = stays_at (bytes_eq name n) (place_of ns name) (place_of (ns ++ more) name) k e (λ j. place_stays ns more name j)
  where
    stays_at : (b : Bool) (old new : Option ℕ) (k : ℕ) → cond b (Some 0) (option_map suc old) ≡ Some k → ((j : ℕ) → old ≡ Some j → new ≡ Some j) → cond b (Some 0) (option_map suc new) ≡ Some k
    stays_at true old new k e h = e
    stays_at false None new k e h = absurd cc
    stays_at false (Some j) new k e h = rw (h j refl) e

-- a name that is put last is found there
pub place_pushed : (names : List (List ℕ)) (name : List ℕ) → place_of names name ≡ None → place_of (names ++ name ∷ []) name ≡ Some (length names)
place_pushed [] name e = place_here (bytes_eq name name) None ((bytes_eq-Decides name name).1 refl)
place_pushed (n ∷ ns) name e = pushed_at (bytes_eq name n) (place_of ns name) (place_of (ns ++ name ∷ []) name) (length ns) e (place_pushed ns name)
  where
    pushed_at : (b : Bool) (old new : Option ℕ) (k : ℕ) → cond b (Some 0) (option_map suc old) ≡ None → (old ≡ None → new ≡ Some k) → cond b (Some 0) (option_map suc new) ≡ Some (suc k)
    pushed_at true old new k e h = absurd cc
    pushed_at false (Some j) new k e h = absurd cc
    pushed_at false None new k e h = rw (h refl) refl

-- a place is within the names
pub place_below : (names : List (List ℕ)) (name : List ℕ) (k : ℕ) → place_of names name ≡ Some k → k < length names
place_below [] name k e = absurd cc
place_below (n ∷ ns) name k e = below_at (bytes_eq name n) (place_of ns name) (length ns) k e (λ j. place_below ns name j)
  where
    below_at : (b : Bool) (o : Option ℕ) (len k : ℕ) → cond b (Some 0) (option_map suc o) ≡ Some k → ((j : ℕ) → o ≡ Some j → j < len) → k < suc len
    below_at true o len k e h = let z : zero ≡ k = cc in omega arith
    below_at false None len k e h = absurd cc
    below_at false (Some j) len k e h = let s : suc j ≡ k = cc in omega (arith, h j refl)

-- two names at one place are the same
pub place_same : (names : List (List ℕ)) (a b : List ℕ) (k : ℕ) → place_of names a ≡ Some k → place_of names b ≡ Some k → a ≡ b
place_same [] a b k e f = absurd cc
place_same (n ∷ ns) a b k e f = same_at (bytes_eq a n) (bytes_eq b n) (place_of ns a) (place_of ns b) k e f (λ p q. (bytes_eq-Decides a n).0 p ∙ sym ((bytes_eq-Decides b n).0 q)) (λ j. place_same ns a b j)
  where
    same_at : (s t : Bool) (o p : Option ℕ) (k : ℕ) → cond s (Some 0) (option_map suc o) ≡ Some k → cond t (Some 0) (option_map suc p) ≡ Some k → (s ≡ true → t ≡ true → a ≡ b) → ((j : ℕ) → o ≡ Some j → p ≡ Some j → a ≡ b) → a ≡ b
    same_at true true o p k e f h g = h refl refl
    same_at true false o None k e f h g = absurd cc
    same_at true false o (Some j) k e f h g = absurd cc
    same_at false true None p k e f h g = absurd cc
    same_at false true (Some j) p k e f h g = absurd cc
    same_at false false None p k e f h g = absurd cc
    same_at false false (Some i) None k e f h g = absurd cc
    same_at false false (Some i) (Some j) k e f h g = let s : i ≡ j = cc in g i refl (ap (λ (n : ℕ). at_place n) (sym s))
