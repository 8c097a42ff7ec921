-- Fields of lines as names.
use Rattle.std.proofs.Common.{◌≡◌, ℕ, zero, suc, ◌≤◌, Bool, true, false, ◌&&◌, not, List, [], ◌∷◌, length, get_or, take, inl, inr, Option, Some, None, refl, ap, arith}
use Rattle.std.specs.Prelude.{◌==◌, nat_le, nat_lt, filter}
use Rattle.std.specs.List.{list_all, list_any, slice_split, onto_first}
use Rattle.std.proofs.lemmas.Bool.{cases_Bool, or_parts}
use Rattle.std.proofs.lemmas.Bool.Decides.{nat_tests}
use Rattle.std.proofs.lemmas.List.Sums.{AllPass-from_list_all}
use Rattle.program_law.specs.Program.{IsName, longest_name}
use Rattle.mps_tokens.specs.FieldsOf.{is_blank, is_filled, fields_of}
use Rattle.mps_grammar.specs.Fields.{Pair, Entries, entries_in}
use Rattle.mps_grammar.specs.Faults.{is_long, has_long, is_plain_byte, is_plain}
use Rattle.mps_fields.specs.Words.{is_graphic, is_word}

both : (a b : Bool) → (a && b) ≡ true → (a ≡ true) × (b ≡ true)
both true true e = (refl, refl)
both true false e = absurd cc
both false b e = absurd cc

graphic_range : (b : ℕ) → is_graphic b ≡ true → (33 ≤ b) × (b ≤ 126)
graphic_range b e =
    let p = both (nat_le 33 b) (nat_le b 126) e in
    let low : nat_le 33 b ≡ true = p.0 in
    let high : nat_le b 126 ≡ true = p.1 in
    (grind (arith, nat_tests), grind (arith, nat_tests))

-- a word that isn't too long is a name
pub word_name : (n : List ℕ) → is_word n ≡ true → is_long n ≡ false → IsName n
word_name n e long =
    let p = both (not (is_zero (length n))) (list_all is_graphic n) e in
    record {
      some = not_zero (length n) p.0;
      short = at_most (length n) long;
      printable = λ k d lt. graphic_range (get_or n k d) (AllPass-from_list_all is_graphic n p.1 k d lt);
    }
  where
    is_zero : ℕ → Bool
    is_zero k = k == 0

    not_zero : (k : ℕ) → not (k == 0) ≡ true → 1 ≤ k
    not_zero zero h = absurd cc
    not_zero (suc k) h = omega arith

    at_most : (k : ℕ) → nat_lt longest_name k ≡ false → k ≤ longest_name
    at_most k h = grind (arith, nat_tests)

-- ---- the words among the fields

abbrev head_of : Option Entries → List ℕ
head_of None = []
head_of (Some e) = e.0

pub entries_word : (fields : List (List ℕ)) (head : List ℕ) (pairs : List Pair) → list_all is_word fields ≡ true → entries_in fields ≡ Some (head, pairs) → is_word head ≡ true
entries_word [] head pairs w e = absurd cc
entries_word (a ∷ []) head pairs w e = absurd cc
entries_word (a ∷ b ∷ []) head pairs w e = absurd cc
entries_word (a ∷ b ∷ c ∷ []) head pairs w e = let same : a ≡ head = ap head_of e in rw (← same) (both (is_word a) (list_all is_word (b ∷ c ∷ [])) w).0
entries_word (a ∷ b ∷ c ∷ d ∷ []) head pairs w e = absurd cc
entries_word (a ∷ b ∷ c ∷ d ∷ f ∷ []) head pairs w e = let same : a ≡ head = ap head_of e in rw (← same) (both (is_word a) (list_all is_word (b ∷ c ∷ d ∷ f ∷ [])) w).0
entries_word (a ∷ b ∷ c ∷ d ∷ f ∷ g ∷ rest) head pairs w e = absurd cc

-- ---- the fields of a line of plain bytes

plain_graphic : (b : ℕ) → is_plain_byte b ≡ true → is_blank b ≡ false → is_graphic b ≡ true
plain_graphic b p e = grind (arith, nat_tests)

onto_graphic : (b : ℕ) (parts : List (List ℕ)) → is_graphic b ≡ true → list_all (list_all is_graphic) parts ≡ true → list_all (list_all is_graphic) (onto_first b parts) ≡ true
onto_graphic b [] g h = rw g refl
onto_graphic b (p ∷ ps) g h = rw g h

split_graphic : (line : List ℕ) → is_plain line ≡ true → list_all (list_all is_graphic) (slice_split is_blank line) ≡ true
split_graphic [] e = refl
split_graphic (b ∷ bs) e =
    let p = both (is_plain_byte b) (is_plain bs) e in
    elim (cases_Bool (is_blank b)) [
      | inl t ↦ rw t (split_graphic bs p.1)
      | inr t ↦ rw t (onto_graphic b (slice_split is_blank bs) (plain_graphic b p.0 t) (split_graphic bs p.1))
    ]

filled_words : (parts : List (List ℕ)) → list_all (list_all is_graphic) parts ≡ true → list_all is_word (filter is_filled parts) ≡ true
filled_words [] e = refl
filled_words (p ∷ ps) e =
    let q = both (list_all is_graphic p) (list_all (list_all is_graphic) ps) e in
    elim (cases_Bool (is_filled p)) [
      | inl t ↦ rw (t, t, q.0) (filled_words ps q.1)
      | inr t ↦ rw t (filled_words ps q.1)
    ]

take_words : (k : ℕ) (fields : List (List ℕ)) → list_all is_word fields ≡ true → list_all is_word (take k fields) ≡ true
take_words zero fields e = refl
take_words (suc k) [] e = refl
take_words (suc k) (f ∷ fs) e =
    let p = both (is_word f) (list_all is_word fs) e in
    rw p.0 (take_words k fs p.1)

pub words_of : (line : List ℕ) → is_plain line ≡ true → list_all is_word (take 6 (fields_of line)) ≡ true
words_of line e = take_words 6 (fields_of line) (filled_words (slice_split is_blank line) (split_graphic line e))

-- no name is too long, so the first isn't
pub head_short : (head : List ℕ) (pairs : List Pair) → has_long (head, pairs) ≡ false → is_long head ≡ false
head_short head pairs e = (or_parts (is_long head) (list_any (λ p. is_long p.0) pairs) e).0
