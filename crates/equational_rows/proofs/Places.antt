-- What stands at a place, and sums of what is left from there on.
use Rattle.std.specs.Prelude.{◌≡◌, ◌<◌, ℕ, ◌+◌, List, [], ◌∷◌, drop, length, get_or, slice_get, Some, None}
use Rattle.std.proofs.Common.{sym, ap, ◌∙◌, arith}
use Rattle.std.proofs.lemmas.List.{drop_more, length-map, get_or_default}
use Rattle.std.proofs.lemmas.Option.{get_or_from_slice_get}
use Rattle.rational.specs.Rational.{ℚ}
use Rattle.program_law.specs.declared.Row.{Row}
use Rattle.program_law.specs.Program.{Program, IsProgram, sides}
use Rattle.rational.specs.Vectors.{row_at}
use Rattle.program_law.specs.Region.{Region}
use Rattle.equational_law.specs.Standing.{standing, parts_at, parts}
use Rattle.equational_law.specs.Equations.{slacks_at, row_slacks, bound_slacks_by, bound_slacks}

pub at_place : {A : Type 0} (xs : List A) (i : ℕ) (x : A) → i < length xs → x ≡ get_or xs i x → drop i xs ≡ x ∷ drop (i + 1) xs
at_place {A = A} xs i x h e = drop_more xs i x h ∙ ap (λ (y : A). y ∷ drop (i + 1) xs) (sym e)

pub found : {A : Type 0} (xs : List A) (i : ℕ) (x : A) → i < length xs → slice_get xs i ≡ Some x → drop i xs ≡ x ∷ drop (i + 1) xs
found {A = A} xs i x h e = drop_more xs i x h ∙ ap (λ (y : A). y ∷ drop (i + 1) xs) (get_or_from_slice_get xs i x x e)

pub row_slacks_next : (ss : List Row) (i : ℕ) (s : Row) → i < length ss → slice_get ss i ≡ Some s → row_slacks (drop i ss) ≡ slacks_at s + row_slacks (drop (i + 1) ss)
row_slacks_next ss i s h e = ap row_slacks (found ss i s h e)

pub same_found : {A : Type 0} (xs : List A) (i : ℕ) (x y : A) → slice_get xs i ≡ Some x → slice_get xs i ≡ Some y → x ≡ y
same_found xs i x y e f = cc

-- ---- a program's rows

pub row_found : (p : Program) (i : ℕ) (s : Row) → i < length p.rows → slice_get (sides p) i ≡ Some s → drop i (sides p) ≡ s ∷ drop (i + 1) (sides p)
row_found p i s h e = found (sides p) i s (omega (arith, length-map p.rows (λ r. r.1))) e

pub some_row : (p : Program) (i : ℕ) → i < length p.rows → drop i (sides p) ≡ get_or (sides p) i (record { low = None; high = None }) ∷ drop (i + 1) (sides p)
some_row p i h = drop_more (sides p) i (record { low = None; high = None }) (omega (arith, length-map p.rows (λ r. r.1)))

pub entries_found : (p : Program) → IsProgram p → (i : ℕ) (row : List ℚ) → i < length p.rows → row ≡ row_at p.entries i → drop i p.entries ≡ row ∷ drop (i + 1) p.entries
entries_found p good i row h e = drop_more p.entries i [] (omega (arith, good.height)) ∙ ap (λ (r : List ℚ). r ∷ drop (i + 1) p.entries) (sym e)

-- ---- a region's bounds

pub same_place : {A : Type 0} (xs : List A) (i : ℕ) (x y : A) → i < length xs → x ≡ get_or xs i x → y ≡ get_or xs i y → x ≡ y
same_place xs i x y h e f = e ∙ get_or_default xs i x y h ∙ sym f

pub place_in : {A : Type 0} (xs ys : List A) (i : ℕ) (x : A) → xs ≡ ys → x ≡ get_or xs i x → x ≡ get_or ys i x
place_in {A = A} xs ys i x e f = f ∙ ap (λ (zs : List A). get_or zs i x) e

pub parts_next : (region : Region) (j : ℕ) (b : Row) → j < length region → b ≡ get_or region j b → parts (drop j region) ≡ parts_at (standing b) + parts (drop (j + 1) region)
parts_next region j b h e = ap parts (at_place region j b h e)

pub bound_slacks_next : (region : Region) (j : ℕ) (b : Row) → j < length region → b ≡ get_or region j b → bound_slacks (drop j region) ≡ bound_slacks_by b.low b.high + bound_slacks (drop (j + 1) region)
bound_slacks_next region j b h e = ap bound_slacks (at_place region j b h e)
