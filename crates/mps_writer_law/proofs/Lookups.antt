-- What is found under a name: among names, and among tellings.
use Rattle.std.specs.Prelude.{◌≡◌, ◌≢◌, ◌&&◌, ◌||◌, ℕ, zero, suc, ◌<◌, Bool, true, false, List, [], ◌∷◌, ◌++◌, map, length, Option, Some, None, is_some, unwrap_or, slice_index_or, if◌then◌else◌}
use Rattle.std.proofs.Common.{arith, refl, sym, ap, append_assoc, ◌∙◌, inl, inr}
use Rattle.std.specs.Option.{option_map}
use Rattle.std.specs.Str.{bytes_eq}
use Rattle.std.proofs.lemmas.List.{append-nil, length-append}
use Rattle.std.proofs.lemmas.Slice.Eq.{bytes_eq-Decides}
use Rattle.std.proofs.lemmas.Bool.{cases_Bool, cases_lt}
use Rattle.rational.specs.Rational.{ℚ, zero_ℚ}
use Rattle.rational.specs.Tests.{is_zero}
use Rattle.program_law.proofs.Numbers.{zero_is}
use Rattle.program_law.specs.Places.{place_of}
use Rattle.mps_grammar.specs.Told.{Telling, is_at, is_told}
use Rattle.mps_grammar.specs.Programs.{or_other, value_at}
use Rattle.mps_writer_law.specs.Lines.{each}

-- ---- equal bytes

pub same_bytes : (a : List ℕ) → bytes_eq a a ≡ true
same_bytes a = (bytes_eq-Decides a a).1 refl

pub bytes_same : (a b : List ℕ) → bytes_eq a b ≡ true → a ≡ b
bytes_same a b h = (bytes_eq-Decides a b).0 h

pub other_bytes : (a b : List ℕ) → a ≢ b → bytes_eq a b ≡ false
other_bytes a b h = elim (cases_Bool (bytes_eq a b)) [ inl e ↦ absurd (h (bytes_same a b e)) | inr e ↦ e ]

-- ---- place by place, the last place first

abbrev pub each_back : {A : Type 0} → ℕ → (ℕ → List A) → List A
each_back zero f = []
each_back (suc n) f = f n ++ each_back n f

pub map-append : {A B : Type 0} (h : A → B) (xs ys : List A) → map h (xs ++ ys) ≡ map h xs ++ map h ys
map-append h [] ys = refl
map-append h (x ∷ xs) ys = ap (λ (zs : List _). h x ∷ zs) (map-append h xs ys)

pub map-each : {A B : Type 0} (h : A → B) (n : ℕ) (f : ℕ → List A) → map h (each n f) ≡ each n (λ i. map h (f i))
map-each h zero f = refl
map-each h (suc n) f = map-append h (each n f) (f n) ∙ ap (λ (xs : List _). xs ++ map h (f n)) (map-each h n f)

pub length-each : {A : Type 0} (n : ℕ) (f : ℕ → A) → length (each n (λ i. f i ∷ [])) ≡ n
length-each zero f = refl
length-each (suc n) f = length-append (each n (λ i. f i ∷ [])) (f n ∷ []) ∙ omega (arith, length-each n f)

pub each-cong : {A : Type 0} (n : ℕ) (f g : ℕ → List A) → ((i : ℕ) → i < n → f i ≡ g i) → each n f ≡ each n g
each-cong zero f g h = refl
each-cong (suc n) f g h = ap (λ (xs : List _). xs ++ f n) (each-cong n f g (λ i lt. h i (omega (arith, lt)))) ∙ ap (λ (xs : List _). each n g ++ xs) (h n (omega arith))

each_first : {A : Type 0} (n : ℕ) (f : ℕ → List A) → each (suc n) f ≡ f 0 ++ each n (λ i. f (suc i))
each_first zero f = sym (append-nil (f 0))
each_first (suc n) f = ap (λ (xs : List _). xs ++ f (suc n)) (each_first n f) ∙ append_assoc (f 0) (each n (λ i. f (suc i))) (f (suc n))

-- a list by its places
pub each_place : {A : Type 0} (xs : List A) (d : A) → each (length xs) (λ i. slice_index_or xs i d ∷ []) ≡ xs
each_place [] d = refl
each_place (x ∷ xs) d = each_first (length xs) (λ i. slice_index_or (x ∷ xs) i d ∷ []) ∙ ap (λ (ys : List _). x ∷ ys) (each_place xs d)

pub list_by_place : {A : Type 0} (xs : List A) (n : ℕ) (f : ℕ → A) (d : A) → n ≡ length xs → ((i : ℕ) → i < n → f i ≡ slice_index_or xs i d) → each n (λ i. f i ∷ []) ≡ xs
list_by_place xs n f d e h =
    each-cong n (λ i. f i ∷ []) (λ i. slice_index_or xs i d ∷ []) (λ i lt. ap (λ (x : _). x ∷ []) (h i lt))
    ∙ ap (λ (k : ℕ). each k (λ i. slice_index_or xs i d ∷ [])) e ∙ each_place xs d

-- ---- names

or_assoc : (a b c : Bool) → ((a || b) || c) ≡ (a || (b || c))
or_assoc true b c = refl
or_assoc false b c = refl

pub or_false : (a : Bool) → (a || false) ≡ a
or_false true = refl
or_false false = refl

pub or_true : (a : Bool) → (a || true) ≡ true
or_true true = refl
or_true false = refl

some_suc : (o : Option ℕ) → is_some (option_map suc o) ≡ is_some o
some_suc None = refl
some_suc (Some n) = refl

some_first : (b : Bool) (o : Option ℕ) → is_some (if b then Some 0 else option_map suc o) ≡ (b || is_some o)
some_first true o = refl
some_first false o = some_suc o

-- a name that stands in the one list or in the other
pub known-append : (xs ys : List (List ℕ)) (name : List ℕ) → is_some (place_of (xs ++ ys) name) ≡ (is_some (place_of xs name) || is_some (place_of ys name))
known-append [] ys name = refl
known-append (x ∷ xs) ys name =
    some_first (bytes_eq name x) (place_of (xs ++ ys) name) ∙ ap (λ (b : Bool). bytes_eq name x || b) (known-append xs ys name)
    ∙ sym (or_assoc (bytes_eq name x) (is_some (place_of xs name)) (is_some (place_of ys name)) ∙ refl)
    ∙ ap (λ (b : Bool). b || is_some (place_of ys name)) (sym (some_first (bytes_eq name x) (place_of xs name)))

pub known_cons : (x : List ℕ) (xs : List (List ℕ)) (name : List ℕ) → is_some (place_of (x ∷ xs) name) ≡ (bytes_eq name x || is_some (place_of xs name))
known_cons x xs name = some_first (bytes_eq name x) (place_of xs name)

known_one : (f name : List ℕ) → is_some (place_of (f ∷ []) name) ≡ bytes_eq name f
known_one f name = some_first (bytes_eq name f) None ∙ or_false (bytes_eq name f)

pub unknown_each : (n : ℕ) (f : ℕ → List ℕ) (name : List ℕ) → ((i : ℕ) → i < n → name ≢ f i) → is_some (place_of (each n (λ i. f i ∷ [])) name) ≡ false
unknown_each zero f name h = refl
unknown_each (suc n) f name h =
    known-append (each n (λ i. f i ∷ [])) (f n ∷ []) name
    ∙ rw (unknown_each n f name (λ i lt. h i (omega (arith, lt))), known_one (f n) name, other_bytes name (f n) (h n (omega arith))) refl

-- the i-th name is known among n
pub known_each : (n : ℕ) (f : ℕ → List ℕ) (i : ℕ) → i < n → is_some (place_of (each n (λ i. f i ∷ [])) (f i)) ≡ true
known_each zero f i lt = absurd (omega (arith, lt))
known_each (suc n) f i lt =
    known-append (each n (λ i. f i ∷ [])) (f n ∷ []) (f i)
    ∙ elim (cases_lt i n) [
      | inl below ↦ rw (known_each n f i below) refl
      | inr above ↦ let last : i ≡ n = omega arith in rw (last, known_one (f n) (f n), same_bytes (f n)) (or_true (is_some (place_of (each n (λ i. f i ∷ [])) (f n))))
    ]

-- ---- tellings

or_other_assoc : {A : Type 0} (a b c : Option A) → or_other (or_other a b) c ≡ or_other a (or_other b c)
or_other_assoc None b c = refl
or_other_assoc (Some a) b c = refl

cond_other : (b : Bool) (v : ℚ) (o r : Option ℚ) → or_other (if b then Some v else o) r ≡ (if b then Some v else or_other o r)
cond_other true v o r = refl
cond_other false v o r = refl

pub value-append : (ts us : List Telling) (column row : List ℕ) → value_at (ts ++ us) column row ≡ or_other (value_at ts column row) (value_at us column row)
value-append [] us column row = refl
value-append (t ∷ ts) us column row =
    ap (λ (o : Option ℚ). if is_at column row t then Some t.value else o) (value-append ts us column row)
    ∙ sym (cond_other (is_at column row t) t.value (value_at ts column row) (value_at us column row))

told_cond : (b : Bool) (v : ℚ) (o : Option ℚ) → (b || is_some o) ≡ is_some (if b then Some v else o)
told_cond true v o = refl
told_cond false v o = refl

-- a number is told where there is one
pub told_value : (ts : List Telling) (column row : List ℕ) → is_told ts column row ≡ is_some (value_at ts column row)
told_value [] column row = refl
told_value (t ∷ ts) column row = ap (λ (b : Bool). is_at column row t || b) (told_value ts column row) ∙ told_cond (is_at column row t) t.value (value_at ts column row)

pub none_told : (ts : List Telling) (column row : List ℕ) → value_at ts column row ≡ None → is_told ts column row ≡ false
none_told ts column row e = told_value ts column row ∙ ap is_some e

-- no place tells it
pub value_nowhere : (n : ℕ) (f : ℕ → List Telling) (column row : List ℕ) → ((i : ℕ) → i < n → value_at (f i) column row ≡ None) → value_at (each_back n f) column row ≡ None
value_nowhere zero f column row h = refl
value_nowhere (suc n) f column row h =
    value-append (f n) (each_back n f) column row ∙ rw (h n (omega arith), value_nowhere n f column row (λ i lt. h i (omega (arith, lt)))) refl

pub or_none : {A : Type 0} (o : Option A) → or_other o None ≡ o
or_none None = refl
or_none (Some x) = refl

-- one place alone may tell it
pub value_somewhere : (n : ℕ) (f : ℕ → List Telling) (column row : List ℕ) (j : ℕ) → j < n → ((i : ℕ) → i < n → i ≢ j → value_at (f i) column row ≡ None) → value_at (each_back n f) column row ≡ value_at (f j) column row
value_somewhere zero f column row j lt h = absurd (omega (arith, lt))
value_somewhere (suc n) f column row j lt h =
    value-append (f n) (each_back n f) column row
    ∙ elim (cases_lt j n) [
      | inl below ↦ rw (h n (omega arith) (λ e. omega arith)) (value_somewhere n f column row j below (λ i less other. h i (omega (arith, less)) other))
      | inr above ↦
          let last : j ≡ n = omega arith in
          rw (value_nowhere n f column row (λ i less. h i (omega (arith, less)) (λ e. omega arith)), last) (or_none (value_at (f n) column row))
    ]

-- a number's telling, unless it is 0
abbrev pub telling : List ℕ → List ℕ → ℚ → Telling
telling column row value = record { line = 0; column = column; row = row; value = value }

abbrev pub telling_unless_zero : List ℕ → List ℕ → ℚ → List Telling
telling_unless_zero column row value = if is_zero value then [] else telling column row value ∷ []

pub value_elsewhere : (column row c r : List ℕ) (v : ℚ) → (bytes_eq c column && bytes_eq r row) ≡ false → value_at (telling_unless_zero column row v) c r ≡ None
value_elsewhere column row c r v e = by (is_zero v)
  where
    by : (b : Bool) → value_at (if b then [] else telling column row v ∷ []) c r ≡ None
    by true = refl
    by false = rw e refl

pub value_here : (column row : List ℕ) (v : ℚ) → unwrap_or (value_at (telling_unless_zero column row v) column row) zero_ℚ ≡ v
value_here column row v = by (is_zero v) refl
  where
    by : (b : Bool) → is_zero v ≡ b → unwrap_or (value_at (if b then [] else telling column row v ∷ []) column row) zero_ℚ ≡ v
    by true e = sym (zero_is v e)
    by false e = rw (same_bytes column, same_bytes row) refl

-- one of two names differs
pub column_differs : (c column r row : List ℕ) → c ≢ column → (bytes_eq c column && bytes_eq r row) ≡ false
column_differs c column r row h = rw (other_bytes c column h) refl

pub row_differs : (c column r row : List ℕ) → r ≢ row → (bytes_eq c column && bytes_eq r row) ≡ false
row_differs c column r row h = rw (other_bytes r row h) (by (bytes_eq c column))
  where
    by : (b : Bool) → (b && false) ≡ false
    by true = refl
    by false = refl
