-- Lists over the same names that differ at one name alone.
use Rattle.std.proofs.Common.{◌≡◌, ℕ, zero, suc, Bool, true, false, cond, List, [], ◌∷◌, map, get_or, set, Option, Some, None, refl, ap, ◌∙◌}
use Rattle.std.specs.Option.{option_map}
use Rattle.std.specs.Str.{bytes_eq}
use Rattle.program_law.specs.Places.{place_of}
use Rattle.named_things.specs.Names.{Differ}
use Rattle.named_things.proofs.NameLemmas.{absent_parts, eq_from}

-- nothing is different where the name doesn't stand
pub unchanged : {X A : Type 0} (name : X → List ℕ) (f g : X → A) (m : List ℕ) (xs : List X) → place_of (map name xs) m ≡ None → ((x : X) → bytes_eq m (name x) ≡ false → g x ≡ f x) → map g xs ≡ map f xs
unchanged name f g m [] absent other = refl
unchanged name f g m (x ∷ xs) absent other =
    let p = absent_parts (name x) m (map name xs) absent in
    let here : g x ≡ f x = other x p.0 in
    let rest : map g xs ≡ map f xs = unchanged name f g m xs p.1 other in
    rw (here, rest) refl

module _ {X A : Type 0} (name : X → List ℕ) (f g : X → A) (h : A → A) (d : A) (m : List ℕ) (other : (x : X) → bytes_eq m (name x) ≡ false → g x ≡ f x) (same : (x : X) → bytes_eq m (name x) ≡ true → g x ≡ h (f x)) where
  -- only the item at the name's place is different
  pub changed_at : (xs : List X) (k : ℕ) → Differ (map name xs) → place_of (map name xs) m ≡ Some k → map g xs ≡ set (map f xs) k (h (get_or (map f xs) k d))
  changed_at [] k differ at = absurd cc
  changed_at (x ∷ xs) k differ at = step (bytes_eq m (name x)) (place_of (map name xs) m) k refl refl at (λ k p. changed_at xs k differ.1 p)
    where
      step : (b : Bool) (o : Option ℕ) (k : ℕ) → bytes_eq m (name x) ≡ b → place_of (map name xs) m ≡ o → cond b (Some 0) (option_map suc o) ≡ Some k
          → ((k : ℕ) → place_of (map name xs) m ≡ Some k → map g xs ≡ set (map f xs) k (h (get_or (map f xs) k d))) → map g (x ∷ xs) ≡ set (map f (x ∷ xs)) k (h (get_or (map f (x ∷ xs)) k d))
      step true o zero e p q again =
          let gone : place_of (map name xs) m ≡ None = ap (place_of (map name xs)) (eq_from m (name x) e) ∙ differ.0 in
          let here : g x ≡ h (f x) = same x e in
          let rest : map g xs ≡ map f xs = unchanged name f g m xs gone other in
          rw (here, rest) refl
      step true o (suc k) e p q again = absurd cc
      step false None k e p q again = absurd cc
      step false (Some j) zero e p q again = absurd cc
      step false (Some j) (suc k) e p q again =
          let jk : j ≡ k = cc in
          let here : g x ≡ f x = other x e in
          let at : place_of (map name xs) m ≡ Some k = p ∙ ap (λ (n : ℕ). Some n) jk in
          let rest : map g xs ≡ set (map f xs) k (h (get_or (map f xs) k d)) = again k at in
          rw (here, rest) refl

-- another value for the name at a place
pub changed_to : {X A : Type 0} (name : X → List ℕ) (f g : X → A) (d : X) (s : A) (m : List ℕ) → ((x : X) → bytes_eq m (name x) ≡ false → g x ≡ f x)
    → (xs : List X) (k : ℕ) → Differ (map name xs) → place_of (map name xs) m ≡ Some k → g (get_or xs k d) ≡ s → map g xs ≡ set (map f xs) k s
changed_to name f g d s m other [] k differ at here = absurd cc
changed_to name f g d s m other (x ∷ xs) k differ at here =
    step (bytes_eq m (name x)) (place_of (map name xs) m) k refl refl at here (λ k p q. changed_to name f g d s m other xs k differ.1 p q)
  where
    step : (b : Bool) (o : Option ℕ) (k : ℕ) → bytes_eq m (name x) ≡ b → place_of (map name xs) m ≡ o → cond b (Some 0) (option_map suc o) ≡ Some k → g (get_or (x ∷ xs) k d) ≡ s
        → ((k : ℕ) → place_of (map name xs) m ≡ Some k → g (get_or xs k d) ≡ s → map g xs ≡ set (map f xs) k s) → map g (x ∷ xs) ≡ set (map f (x ∷ xs)) k s
    step true o zero e p q here again =
        let gone : place_of (map name xs) m ≡ None = ap (place_of (map name xs)) (eq_from m (name x) e) ∙ differ.0 in
        let rest : map g xs ≡ map f xs = unchanged name f g m xs gone other in
        rw (here, rest) refl
    step true o (suc k) e p q here again = absurd cc
    step false None k e p q here again = absurd cc
    step false (Some j) zero e p q here again = absurd cc
    step false (Some j) (suc k) e p q here again =
        let jk : j ≡ k = cc in
        let first : g x ≡ f x = other x e in
        let at : place_of (map name xs) m ≡ Some k = p ∙ ap (λ (n : ℕ). Some n) jk in
        let rest : map g xs ≡ set (map f xs) k s = again k at here in
        rw (first, rest) refl
