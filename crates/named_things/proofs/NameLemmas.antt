-- Names and their places.
use Rattle.std.proofs.Common.{◌≡◌, ℕ, suc, Bool, true, false, cond, eqb, ◌⊎◌, List, [], ◌∷◌, ◌++◌, length, Option, Some, None, true≢false, refl, sym, ap, ◌∙◌, inl, inr}
use Rattle.std.specs.Option.{option_map}
use Rattle.std.specs.Str.{bytes_eq}
use Rattle.std.proofs.lemmas.Bool.{cases_Bool, ne_eqb, eq-eqb, false_from_ne_true}
use Rattle.std.proofs.lemmas.Slice.Eq.{bytes_eq-Decides}
use Rattle.program_law.specs.Places.{place_of}
use Rattle.named_things.specs.Names.{Differ}
use Rattle.named_things.proofs.PlaceLemmas.{at_place, place_same}

pub eq_self : (a : List ℕ) → bytes_eq a a ≡ true
eq_self a = (bytes_eq-Decides a a).1 refl

pub eq_from : (a b : List ℕ) → bytes_eq a b ≡ true → a ≡ b
eq_from a b e = (bytes_eq-Decides a b).0 e

pub ne_from : (a b : List ℕ) → (a ≡ b → ⊥) → bytes_eq a b ≡ false
ne_from a b h = false_from_ne_true (bytes_eq a b) (λ e. h (eq_from a b e))

pub ne_eq : (a b : List ℕ) → bytes_eq a b ≡ false → a ≡ b → ⊥
ne_eq a b e h = true≢false (sym ((bytes_eq-Decides a b).1 h) ∙ e)

pub ne_sym : (a b : List ℕ) → bytes_eq a b ≡ false → bytes_eq b a ≡ false
ne_sym a b e = ne_from b a (λ h. ne_eq a b e (sym h))

pub eq_sym : (a b : List ℕ) → bytes_eq a b ≡ true → bytes_eq b a ≡ true
eq_sym a b e = (bytes_eq-Decides b a).1 (sym (eq_from a b e))

pub none_some : (k : ℕ) → None ≡ at_place k → ⊥
none_some k e = cc

pub some_is : (a b : ℕ) → at_place a ≡ at_place b → a ≡ b
some_is a b e = cc

-- names are the same where their places are
pub same_test : (names : List (List ℕ)) (a b : List ℕ) (j k : ℕ) → place_of names a ≡ Some j → place_of names b ≡ Some k → bytes_eq a b ≡ eqb j k
same_test names a b j k p q = elim (cases_Bool (bytes_eq a b)) [
  | inl e ↦
      let ab : a ≡ b = eq_from a b e in
      let jk : j ≡ k = some_is j k (sym p ∙ ap (place_of names) ab ∙ q) in
      e ∙ sym (eq-eqb j k jk)
  | inr e ↦
      let apart : j ≡ k → ⊥ = λ (jk : j ≡ k). ne_eq a b e (place_same names a b j p (q ∙ ap at_place (sym jk))) in
      e ∙ sym (ne_eqb j k apart)
]

-- a name that isn't there differs from each that is
pub absent_differs : (names : List (List ℕ)) (a b : List ℕ) (k : ℕ) → place_of names a ≡ None → place_of names b ≡ Some k → bytes_eq a b ≡ false
absent_differs names a b k p q = ne_from a b (λ h. none_some k (sym p ∙ ap (place_of names) h ∙ q))

head_none : (b : Bool) (o : Option ℕ) → cond b (Some 0) (option_map suc o) ≡ None → (b ≡ false) × (o ≡ None)
head_none true o e = absurd cc
head_none false None e = (refl, refl)
head_none false (Some k) e = absurd cc

-- a name that isn't there: neither is it the first one nor among the others
pub absent_parts : (n m : List ℕ) (ns : List (List ℕ)) → place_of (n ∷ ns) m ≡ None → (bytes_eq m n ≡ false) × (place_of ns m ≡ None)
absent_parts n m ns e = head_none (bytes_eq m n) (place_of ns m) e

pub absent_head : (n m : List ℕ) (ns : List (List ℕ)) → bytes_eq m n ≡ false → place_of ns m ≡ None → place_of (n ∷ ns) m ≡ None
absent_head n m ns e f = rw (e, f) refl

-- a place behind the first name
pub place_behind : (n m : List ℕ) (ns : List (List ℕ)) (k : ℕ) → place_of (n ∷ ns) m ≡ Some (suc k) → (bytes_eq m n ≡ false) × (place_of ns m ≡ Some k)
place_behind n m ns k e = behind (bytes_eq m n) (place_of ns m) e
  where
    behind : (b : Bool) (o : Option ℕ) → cond b (Some 0) (option_map suc o) ≡ Some (suc k) → (b ≡ false) × (o ≡ Some k)
    behind true o e = absurd cc
    behind false None e = absurd cc
    behind false (Some j) e = (refl, cc)

pub place_first : (n m : List ℕ) (ns : List (List ℕ)) → place_of (n ∷ ns) m ≡ Some 0 → m ≡ n
place_first n m ns e = first (bytes_eq m n) (place_of ns m) refl e
  where
    first : (b : Bool) (o : Option ℕ) → bytes_eq m n ≡ b → cond b (Some 0) (option_map suc o) ≡ Some 0 → m ≡ n
    first true o h e = eq_from m n h
    first false None h e = absurd cc
    first false (Some j) h e = absurd cc

-- a place among names and one more
pub place_cases : (names : List (List ℕ)) (n m : List ℕ) (k : ℕ) → place_of (names ++ n ∷ []) m ≡ Some k → (place_of names m ≡ Some k) ⊎ ((place_of names m ≡ None) × (k ≡ length names))
place_cases [] n m k e = last (bytes_eq m n) e
  where
    last : (b : Bool) → cond b (Some 0) None ≡ Some k → (place_of [] m ≡ Some k) ⊎ ((place_of [] m ≡ None) × (k ≡ 0))
    last true e = inr (refl, cc)
    last false e = absurd cc
place_cases (x ∷ xs) n m k e = more (bytes_eq m x) (place_of xs m) (place_of (xs ++ n ∷ []) m) k e (λ j. place_cases xs n m j)
  where
    more : (b : Bool) (o p : Option ℕ) (k : ℕ) → cond b (Some 0) (option_map suc p) ≡ Some k → ((j : ℕ) → p ≡ Some j → (o ≡ Some j) ⊎ ((o ≡ None) × (j ≡ length xs)))
        → (cond b (Some 0) (option_map suc o) ≡ Some k) ⊎ ((cond b (Some 0) (option_map suc o) ≡ None) × (k ≡ suc (length xs)))
    more true o p k e h = inl e
    more false o None k e h = absurd cc
    more false o (Some j) k e h = elim (h j refl) [
      | inl s ↦ inl (rw s e)
      | inr s ↦ let q : suc j ≡ k = cc in inr (rw s.0 refl, sym q ∙ ap suc s.1)
    ]

pub absent_front : (names more : List (List ℕ)) (m : List ℕ) → place_of (names ++ more) m ≡ None → place_of names m ≡ None
absent_front [] more m e = refl
absent_front (x ∷ xs) more m e = let p = absent_parts x m (xs ++ more) e in absent_head x m xs p.0 (absent_front xs more m p.1)

pub absent_push : (names : List (List ℕ)) (n m : List ℕ) → place_of names m ≡ None → bytes_eq m n ≡ false → place_of (names ++ n ∷ []) m ≡ None
absent_push [] n m e f = rw f refl
absent_push (x ∷ xs) n m e f = let p = absent_parts x m xs e in absent_head x m (xs ++ n ∷ []) p.0 (absent_push xs n m p.1 f)

-- names that differ, and a new one
pub Differ-push : (names : List (List ℕ)) (n : List ℕ) → Differ names → place_of names n ≡ None → Differ (names ++ n ∷ [])
Differ-push [] n d e = (refl, tt)
Differ-push (x ∷ xs) n d e = let p = absent_parts x n xs e in (absent_push xs n x d.0 (ne_sym n x p.0), Differ-push xs n d.1 p.1)
