-- Things with names, kept as entries of a map.
use Rattle.std.proofs.Common.{◌≡◌, ℕ, zero, suc, ◌+◌, Bool, true, false, cond, ltb, List, [], ◌∷◌, ◌++◌, length, slice_get, Option, Some, None, refl, ap, ◌∙◌, inl, inr, arith}
use Rattle.std.specs.Option.{option_map}
use Rattle.std.specs.List.{position, position_or_len}
use Rattle.std.specs.Map.{keys_of}
use Rattle.std.specs.Str.{bytes_eq}
use Rattle.std.specs.Global.{Vec}
use Rattle.std.proofs.lemmas.Bool.{cases_Bool, cases_lt, lt-ltb, le-ltb}
use Rattle.std.proofs.lemmas.Option.{slice_get-map}
use Rattle.indexmap.specs.Layout.{set_value_at}
use Rattle.indexmap.specs.IndexMap.{insert_entry}
use Rattle.program_law.specs.Changes.{renewed}
use Rattle.program_law.specs.Places.{place_of}
use Rattle.named_things.specs.Named.{named, names_of, things_of}

-- a place by recursion
position_rest : (n len : ℕ) → cond (ltb (1 + n) (suc len)) (Some (1 + n)) None ≡ option_map suc (cond (ltb n len) (Some n) None)
position_rest n len =
    elim (cases_lt n len) [
      | inl lt ↦ let e : 1 + n ≡ suc n = omega arith in rw (lt-ltb (1 + n) (suc len) (omega arith), lt-ltb n len lt, e) refl
      | inr le ↦ rw (le-ltb (1 + n) (suc len) (omega arith), le-ltb n len le) refl
    ]

pub position-cons : {X : Type 0} (p : X → Bool) (x : X) (xs : List X) → position p (x ∷ xs) ≡ cond (p x) (Some 0) (option_map suc (position p xs))
position-cons p x xs =
    elim (cases_Bool (p x)) [
      | inl e ↦ rw (e, lt-ltb 0 (suc (length xs)) (omega arith)) refl
      | inr e ↦ rw e (position_rest (position_or_len p xs) (length xs))
    ]

map_none : (o : Option ℕ) → option_map suc o ≡ None → o ≡ None
map_none None e = refl
map_none (Some x) e = absurd cc

cond_none : (b : Bool) (o : Option ℕ) → cond b (Some 0) (option_map suc o) ≡ None → (b ≡ false) × (o ≡ None)
cond_none true o e = absurd cc
cond_none false o e = (refl, map_none o e)

module _ {A : Type 0} where
  -- the place of a key is the place of its name
  pub place_from_position : (es : List (Vec ℕ × A)) (name : List ℕ) → position (λ k. bytes_eq name k.items) (keys_of es) ≡ place_of (names_of (named es)) name
  place_from_position [] name = refl
  place_from_position (e ∷ es) name = position-cons (λ (q : Vec ℕ). bytes_eq name q.items) e.0 (keys_of es) ∙ ap (λ (r : Option ℕ). cond (bytes_eq name e.0.items) (Some 0) (option_map suc r)) (place_from_position es name)

  -- a new name goes last
  pub named_pushed : (es : List (Vec ℕ × A)) (k : Vec ℕ) (v : A) → place_of (names_of (named es)) k.items ≡ None → named (insert_entry (λ a b. bytes_eq a.items b.items) es k v) ≡ named es ++ (k.items, v) ∷ []
  named_pushed [] k v none = refl
  named_pushed (e ∷ es) k v none =
      let p = cond_none (bytes_eq k.items e.0.items) (place_of (names_of (named es)) k.items) none in
      rw p.0 (ap (λ (l : List (List ℕ × A)). (e.0.items, e.1) ∷ l) (named_pushed es k v p.1))

  -- another thing under a name
  pub named_renewed : (es : List (Vec ℕ × A)) (i : ℕ) (v : A) → named (set_value_at es i v) ≡ renewed (named es) i v
  named_renewed [] i v = refl
  named_renewed (e ∷ es) zero v = refl
  named_renewed (e ∷ es) (suc i) v = ap (λ (l : List (List ℕ × A)). (e.0.items, e.1) ∷ l) (named_renewed es i v)

  pub thing_found : (es : List (Vec ℕ × A)) (i : ℕ) (k : Vec ℕ) (v : A) → slice_get es i ≡ Some (k, v) → slice_get (things_of (named es)) i ≡ Some v
  thing_found es i k v e =
      slice_get-map (λ (t : List ℕ × A). t.1) (named es) i ∙ ap (λ (o : Option (List ℕ × A)). option_map (λ (t : List ℕ × A). t.1) o) (slice_get-map (λ (t : Vec ℕ × A). (t.0.items, t.1)) es i) ∙ ap (λ (o : Option (Vec ℕ × A)). option_map (λ (t : List ℕ × A). t.1) (option_map (λ (t : Vec ℕ × A). (t.0.items, t.1)) o)) e

  pub name_found : (es : List (Vec ℕ × A)) (i : ℕ) (k : Vec ℕ) (v : A) → slice_get es i ≡ Some (k, v) → slice_get (names_of (named es)) i ≡ Some k.items
  name_found es i k v e =
      slice_get-map (λ (t : List ℕ × A). t.0) (named es) i ∙ ap (λ (o : Option (List ℕ × A)). option_map (λ (t : List ℕ × A). t.0) o) (slice_get-map (λ (t : Vec ℕ × A). (t.0.items, t.1)) es i) ∙ ap (λ (o : Option (Vec ℕ × A)). option_map (λ (t : List ℕ × A). t.0) (option_map (λ (t : Vec ℕ × A). (t.0.items, t.1)) o)) e
