-- Regions that are cut, and how they come back.
use Rattle.std.specs.Prelude.{◌≡◌, ℕ, zero, suc, ◌<◌, List, [], ◌∷◌, ◌++◌, map, length, reverse, slice_set, slice_get, slice_index_or, Some}
use Rattle.std.proofs.Common.{refl, arith, ap, sym, ◌∙◌, subst}
use Rattle.std.proofs.lemmas.List.{reverse-append, reverse-reverse, length-reverse}
use Rattle.indexmap.proofs.ReorderLemmas.{map-reverse}
use Rattle.rational.specs.Rational.{ℚ}
use Rattle.program_law.specs.Region.{Region, cut_high, cut_low, bounds_at}
use Rattle.program_regions.specs.declared.descents.Cut.{Cut}
use Rattle.program_regions.specs.declared.descents.Kept.{Kept}
use Rattle.program_regions.specs.Descents.{Descended, regions_before, cuts_of, AreWithin}

pub reverse_last : {T : Type 0} (xs : List (Kept T)) (x : Kept T) → reverse (xs ++ x ∷ []) ≡ x ∷ reverse xs
reverse_last xs x = reverse-append xs (x ∷ [])

-- the bounds before a cut give the region back
pub back_high : (bs : Region) (j : ℕ) (k : ℚ) → j < length bs → slice_set (cut_high bs j k) j (bounds_at bs j) ≡ bs
back_high [] j k h = absurd (omega (arith, h))
back_high (b ∷ bs) zero k h = refl
back_high (b ∷ bs) (suc j) k h = ap (λ (rs : Region). b ∷ rs) (back_high bs j k (omega (arith, h)))

pub back_low : (bs : Region) (j : ℕ) (k : ℚ) → j < length bs → slice_set (cut_low bs j k) j (bounds_at bs j) ≡ bs
back_low [] j k h = absurd (omega (arith, h))
back_low (b ∷ bs) zero k h = refl
back_low (b ∷ bs) (suc j) k h = ap (λ (rs : Region). b ∷ rs) (back_low bs j k (omega (arith, h)))

pub length_high : (bs : Region) (j : ℕ) (k : ℚ) → length (cut_high bs j k) ≡ length bs
length_high [] j k = refl
length_high (b ∷ bs) zero k = refl
length_high (b ∷ bs) (suc j) k = ap (λ (n : ℕ). suc n) (length_high bs j k)

pub length_low : (bs : Region) (j : ℕ) (k : ℚ) → length (cut_low bs j k) ≡ length bs
length_low [] j k = refl
length_low (b ∷ bs) zero k = refl
length_low (b ∷ bs) (suc j) k = ap (λ (n : ℕ). suc n) (length_low bs j k)

module _ {T : Type 0} where
  -- as many regions as cuts
  as_many : (region : Region) (cuts : List (Kept T)) → length (regions_before region cuts) ≡ length cuts
  as_many region [] = refl
  as_many region (c ∷ cs) = ap (λ (n : ℕ). suc n) (as_many (slice_set region c.cut.column c.before) cs)

  pub as_many_kept : (region : Region) (cuts : List (Kept T)) → length (regions_before region (reverse cuts)) ≡ length cuts
  as_many_kept region cuts = as_many region (reverse cuts) ∙ length-reverse cuts

  -- the cuts are those that were kept
  cuts_are : (region : Region) (cuts : List (Kept T)) → map (λ (c : Cut T × Region). c.0) (regions_before region cuts) ≡ map (λ (c : Kept T). c.cut) cuts
  cuts_are region [] = refl
  cuts_are region (c ∷ cs) = ap (λ (l : List (Cut T)). c.cut ∷ l) (cuts_are (slice_set region c.cut.column c.before) cs)

  turned : (cuts : List (Kept T)) → reverse (map (λ (c : Kept T). c.cut) (reverse cuts)) ≡ map (λ (c : Kept T). c.cut) cuts
  turned cuts = ap (λ (l : List (Cut T)). reverse l) (map-reverse (λ (c : Kept T). c.cut) cuts) ∙ reverse-reverse (map (λ (c : Kept T). c.cut) cuts)

  pub cut_at : (d : Descended T) (region : Region) (cuts : List (Kept T)) (room : ℕ) (i : ℕ) (c : Kept T) → record { region = region; before = regions_before region (reverse cuts); room = room } ≡ d
      → i < length cuts → slice_get (cuts_of d.before) i ≡ Some (slice_index_or cuts i c).cut
  cut_at d region cuts room i c e h =
      sym (ap (λ (d : Descended T). slice_get (cuts_of d.before) i) e)
      ∙ ap (λ (l : List (Cut T)). slice_get (reverse l) i) (cuts_are region (reverse cuts))
      ∙ ap (λ (l : List (Cut T)). slice_get l i) (turned cuts)
      ∙ found cuts i c h
    where
      found : (cuts : List (Kept T)) (i : ℕ) (c : Kept T) → i < length cuts → slice_get (map (λ (c : Kept T). c.cut) cuts) i ≡ Some (slice_index_or cuts i c).cut
      found [] i c h = absurd (omega (arith, h))
      found (k ∷ cuts) zero c h = refl
      found (k ∷ cuts) (suc i) c h = found cuts i c (omega (arith, h))

  pub count : (d : Descended T) (region : Region) (cuts : List (Kept T)) (room : ℕ) → record { region = region; before = regions_before region (reverse cuts); room = room } ≡ d → length cuts ≡ length d.before
  count d region cuts room e = sym (as_many_kept region cuts) ∙ ap (λ (d : Descended T). length d.before) e

  pub is_kept : (d : Descended T) (region : Region) (cuts : List (Kept T)) (room : ℕ) (i : ℕ) → record { region = region; before = regions_before region (reverse cuts); room = room } ≡ d → i < length d.before
      → i < length cuts
  is_kept d region cuts room i e h = let a = count d region cuts room e in omega (arith, a, h)

  -- where there is room for a region before, there is room for a cut
  pub has_room : (d : Descended T) (region : Region) (cuts : List (Kept T)) (room : ℕ) → record { region = region; before = regions_before region (reverse cuts); room = room } ≡ d → length d.before < d.room
      → length cuts < room
  has_room d region cuts room e h =
      let a : length d.before ≡ length cuts = ap (λ (d : Descended T). length d.before) (sym e) ∙ as_many_kept region cuts in
      let b : d.room ≡ room = ap (λ (d : Descended T). d.room) (sym e) in
      omega (arith, a, b, h)

  -- one cut more
  pub within_more : (n m : ℕ) (c : Kept T) (cs all : List (Kept T)) → all ≡ c ∷ cs → m ≡ n → c.cut.column < n → AreWithin n cs → AreWithin m all
  within_more n m c cs all e s h w =
      subst (λ (l : List (Kept T)). AreWithin m l) (sym e) (subst (λ (i : ℕ). AreWithin i (c ∷ cs)) (sym s) (h, w))

  pub before_more : (region new : Region) (c : Kept T) (cs all : List (Kept T)) → all ≡ c ∷ cs → slice_set new c.cut.column c.before ≡ region → regions_before new all ≡ (c.cut, region) ∷ regions_before region cs
  before_more region new c cs all e back =
      ap (λ (l : List (Kept T)). regions_before new l) e ∙ ap (λ (r : Region). (c.cut, r) ∷ regions_before r cs) back
