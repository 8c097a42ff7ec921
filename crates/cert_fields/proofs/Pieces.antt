-- The pieces of bytes between the places of one byte.
use Rattle.std.proofs.Common.{◌≡◌, ◌≢◌, ℕ, ◌+◌, ◌-◌, ◌<◌, ◌≤◌, Bool, true, false, cond, List, [], ◌∷◌, length, take, drop, Some, None, refl, sym, ◌∙◌, inl, inr, arith}
use Rattle.std.specs.Prelude.{◌==◌, ◌&&◌, ◌||◌, not}
use Rattle.std.specs.List.{slice_split, onto_first, position, position_or_len, list_any, before_first, All}
use Rattle.std.proofs.lemmas.Bool.{cases_lt, lt-ltb, le-ltb, ne_eqb, eqb-true}
use Rattle.std.proofs.lemmas.List.{take_rest, take_all}
use Rattle.std.proofs.lemmas.List.Splits.{slice_split_first, slice_split_none, length-slice_split}
use Rattle.std.proofs.lemmas.List.Folds.{list_any_none, list_any_at}
use Rattle.std.proofs.lemmas.List.Sums.{fails_before_first, passes_at_first}
use Rattle.cert_fields.specs.Parts.{is_byte, parts_of}
use Rattle.cert_fields.specs.Fields.{behind, is_filled, has_fields}

found_at : {X : Type 0} (p : X → Bool) (xs : List X) (at : ℕ) → position p xs ≡ Some at → (position_or_len p xs ≡ at) × (at < length xs)
found_at p xs at e = elim (cases_lt (position_or_len p xs) (length xs)) [
  | inl lt ↦ let n : position_or_len p xs ≡ at = cc (rw (lt-ltb (position_or_len p xs) (length xs) lt) at e) in (n, omega arith)
  | inr le ↦ absurd (cc (rw (le-ltb (position_or_len p xs) (length xs) le) at e))
]

not_found : {X : Type 0} (p : X → Bool) (xs : List X) → position p xs ≡ None → length xs ≤ position_or_len p xs
not_found p xs e = elim (cases_lt (position_or_len p xs) (length xs)) [
  | inl lt ↦ absurd (cc (rw (lt-ltb (position_or_len p xs) (length xs) lt) at e))
  | inr le ↦ le
]

pub split_first : (byte : ℕ) (bytes : List ℕ) (at : ℕ) → position (is_byte byte) bytes ≡ Some at → slice_split (is_byte byte) bytes ≡ take at bytes ∷ slice_split (is_byte byte) (take (length bytes - (at + 1)) (drop (at + 1) bytes))
split_first byte bytes at e =
    let f = found_at (is_byte byte) bytes at e in
    let within : position_or_len (is_byte byte) bytes < length bytes = omega (arith, f.0, f.1) in
    slice_split_first (is_byte byte) bytes 0 within ∙ rw (f.0, take_rest) refl

pub split_none : (byte : ℕ) (bytes : List ℕ) → position (is_byte byte) bytes ≡ None → slice_split (is_byte byte) bytes ≡ bytes ∷ []
split_none byte bytes e =
    let le = not_found (is_byte byte) bytes e in
    let none : All (λ x. is_byte byte x ≡ false) bytes = λ k d lt. fails_before_first (is_byte byte) bytes k d (omega (arith, le, lt)) in
    slice_split_none (is_byte byte) bytes none

pub is_there : (byte : ℕ) (bytes : List ℕ) (at : ℕ) → position (is_byte byte) bytes ≡ Some at → list_any (is_byte byte) bytes ≡ true
is_there byte bytes at e =
    let f = found_at (is_byte byte) bytes at e in
    let within : position_or_len (is_byte byte) bytes < length bytes = omega (arith, f.0, f.1) in
    list_any_at (is_byte byte) bytes (position_or_len (is_byte byte) bytes) 0 within (passes_at_first (is_byte byte) bytes 0 within)

pub is_absent : (byte : ℕ) (bytes : List ℕ) → position (is_byte byte) bytes ≡ None → list_any (is_byte byte) bytes ≡ false
is_absent byte bytes e =
    let le = not_found (is_byte byte) bytes e in
    list_any_none (is_byte byte) bytes (λ k d lt. fails_before_first (is_byte byte) bytes k d (omega (arith, le, lt)))

pub is_alone : (byte : ℕ) (bytes : List ℕ) → position (is_byte byte) bytes ≡ None → before_first (is_byte byte) bytes ≡ bytes
is_alone byte bytes e = take_all (position_or_len (is_byte byte) bytes) bytes (not_found (is_byte byte) bytes e)

-- ---- a split has a first part

pub record HasFirst (parts : List (List ℕ)) : Type 0 where
  pub first : List ℕ
  pub others : List (List ℕ)
  pub parts_are : parts ≡ first ∷ others

onto_first_has : (b : ℕ) (parts : List (List ℕ)) → HasFirst (onto_first b parts)
onto_first_has b [] = record { first = b ∷ []; others = []; parts_are = refl }
onto_first_has b (p ∷ ps) = record { first = b ∷ p; others = ps; parts_are = refl }

cond_has : (t : Bool) (xs ys : List (List ℕ)) → HasFirst xs → HasFirst ys → HasFirst (cond t xs ys)
cond_has true xs ys p q = p
cond_has false xs ys p q = q

pub split_has_first : (byte : ℕ) (bytes : List ℕ) → HasFirst (slice_split (is_byte byte) bytes)
split_has_first byte [] = record { first = []; others = []; parts_are = refl }
split_has_first byte (x ∷ xs) = cond_has (is_byte byte x) ([] ∷ slice_split (is_byte byte) xs) (onto_first x (slice_split (is_byte byte) xs)) (record { first = []; others = slice_split (is_byte byte) xs; parts_are = refl }) (onto_first_has x (slice_split (is_byte byte) xs))

-- ---- how many parts a line has

some_parts : (line : List ℕ) → 0 < length (parts_of line)
some_parts line = omega (arith, length-slice_split (is_byte 32) line)

another_count : (n : ℕ) (fields : List (List ℕ)) → length fields ≢ n → has_fields n fields ≡ false
another_count n fields h = rw (ne_eqb (length fields) n h) refl

pub not_one : (line one rest : List ℕ) → parts_of line ≡ one ∷ parts_of rest → has_fields 0 (behind (parts_of line)) ≡ false
not_one line one rest e = rw e (another_count 0 (parts_of rest) (λ n. absurd (omega (arith, some_parts rest, n))))

pub not_two : (line one two rest behind_one : List ℕ) → parts_of line ≡ one ∷ parts_of behind_one → parts_of behind_one ≡ two ∷ parts_of rest → has_fields 1 (behind (parts_of line)) ≡ false
not_two line one two rest behind_one e f = rw (e, f) (another_count 1 (two ∷ parts_of rest) (λ n. absurd (omega (arith, some_parts rest, n))))

pub not_three : (line one two three rest behind_one behind_two : List ℕ) → parts_of line ≡ one ∷ parts_of behind_one → parts_of behind_one ≡ two ∷ parts_of behind_two → parts_of behind_two ≡ three ∷ parts_of rest
    → has_fields 2 (behind (parts_of line)) ≡ false
not_three line one two three rest behind_one behind_two e f g = rw (e, f, g) (another_count 2 (two ∷ three ∷ parts_of rest) (λ n. absurd (omega (arith, some_parts rest, n))))

-- ---- empty parts

empty_is : (bytes : List ℕ) → true ≡ (length bytes == 0) → bytes ≡ []
empty_is [] e = refl
empty_is (b ∷ bs) e = absurd (let n = eqb-true (length (b ∷ bs)) 0 (sym e) in omega (arith, n))

pub one_empty : (line one rest : List ℕ) → parts_of line ≡ one ∷ parts_of rest → true ≡ (length rest == 0) → has_fields 1 (behind (parts_of line)) ≡ false
one_empty line one rest e f = rw (e, empty_is rest f) refl

pub one_filled : (line one rest : List ℕ) → parts_of line ≡ one ∷ parts_of rest → false ≡ (length rest == 0) → parts_of rest ≡ rest ∷ [] → has_fields 1 (behind (parts_of line)) ≡ true
one_filled line one rest e f g = rw (e, g, sym f) refl

two_parts : (line one rest two behind_two : List ℕ) → parts_of line ≡ one ∷ parts_of rest → parts_of rest ≡ two ∷ parts_of behind_two → behind (parts_of line) ≡ two ∷ parts_of behind_two
two_parts line one rest two behind_two e f = rw (e, f) refl

either_empty : (two : List ℕ) (more : List (List ℕ)) (n : ℕ) → two ≡ [] → has_fields n (two ∷ more) ≡ false
either_empty two more n e = rw e (both_false (length ([] ∷ more) == n))
  where
    both_false : (t : Bool) → (t && false) ≡ false
    both_false true = refl
    both_false false = refl

pub two_empty : (line one rest two behind_two : List ℕ) → parts_of line ≡ one ∷ parts_of rest → parts_of rest ≡ two ∷ parts_of behind_two → true ≡ ((length two == 0) || (length behind_two == 0)) → has_fields 2 (behind (parts_of line)) ≡ false
two_empty line one rest two behind_two e f h = rw (two_parts line one rest two behind_two e f) (go (length two == 0) refl h)
  where
    go : (t : Bool) → (length two == 0) ≡ t → true ≡ (t || (length behind_two == 0)) → has_fields 2 (two ∷ parts_of behind_two) ≡ false
    go true g h = either_empty two (parts_of behind_two) 2 (empty_is two (sym g))
    go false g h = rw (empty_is behind_two h) (last (is_filled two))
      where
        last : (t : Bool) → (t && false) ≡ false
        last true = refl
        last false = refl

pub two_filled : (line one rest two behind_two : List ℕ) → parts_of line ≡ one ∷ parts_of rest → parts_of rest ≡ two ∷ parts_of behind_two → false ≡ ((length two == 0) || (length behind_two == 0)) → parts_of behind_two ≡ behind_two ∷ []
    → has_fields 2 (behind (parts_of line)) ≡ true
two_filled line one rest two behind_two e f h g = rw (two_parts line one rest two behind_two e f, g) (go (length two == 0) (length behind_two == 0) h)
  where
    go : (t u : Bool) → false ≡ (t || u) → (not t && (not u && true)) ≡ true
    go true u e = absurd cc
    go false true e = absurd cc
    go false false e = refl
