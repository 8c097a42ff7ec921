-- Texts that are appended one after another.
use Rattle.std.proofs.Common.{◌≡◌, ℕ, zero, suc, ◌+◌, ◌<◌, List, [], ◌∷◌, ◌++◌, length, drop, Some, refl, sym, ap, ◌∙◌, subst, arith, append_assoc, append-nil, true, false}
use Rattle.std.specs.Prelude.{slice_get, Result, Ok, Err}
use Rattle.std.specs.Result.{IsErr}
use Rattle.std.specs.List.{flat_map, AllByRecursion}
use Rattle.std.proofs.lemmas.List.Concat.{flat_map-append}
use Rattle.std.proofs.lemmas.Option.{get_or_from_slice_get, slice_get_within}
use Rattle.std.proofs.Math.Seq.{drop-cons}
use Rattle.rational.specs.Rational.{ℚ, zero_ℚ}
use Rattle.cert_fields.specs.Names.{name_at}
use Rattle.cert_fields.specs.Lines.{line_text}
use Rattle.cert_grammar.specs.Text.{Lines, lines_text, entry_line, entry_lines}
use Rattle.cert_fields.specs.Appending.{Extends, Appends}

pub extends_self : (xs : List ℕ) → Extends xs xs
extends_self xs = record { more = []; is = sym (append-nil xs) }

pub extends_by : (old text new : List ℕ) → new ≡ old ++ text → Extends old new
extends_by old text new e = record { more = text; is = e }

pub extends_then : (old now new : List ℕ) → Extends old now → Extends now new → Extends old new
extends_then old now new a b = record { more = a.more ++ b.more; is = b.is ∙ ap (λ (t : List ℕ). t ++ b.more) a.is ∙ append_assoc old a.more b.more }

-- one text more, and the rest make the whole
pub one_more : (now text new rest all whole : List ℕ) → now ++ all ≡ whole → all ≡ text ++ rest → new ≡ now ++ text → new ++ rest ≡ whole
one_more now text new rest all whole h step e = ap (λ (t : List ℕ). t ++ rest) e ∙ append_assoc now text rest ∙ ap (λ (t : List ℕ). now ++ t) (sym step) ∙ h

pub entries_step : (word : List ℕ) (names : List (List ℕ)) (vs : List ℚ) (j : ℕ) (name : List ℕ) (v : ℚ) → length names ≡ length vs → name ≡ name_at names j → slice_get vs j ≡ Some v
    → lines_text (entry_lines word (drop j names) (drop j vs)) ≡ lines_text (entry_line word name v) ++ lines_text (entry_lines word (drop (j + 1) names) (drop (j + 1) vs))
entries_step word names vs j name v same n e =
    let inside : j < length vs = slice_get_within vs j v e in
    let one : j + 1 ≡ suc j = omega arith in
    let here : lines_text (entry_lines word (drop j names) (drop j vs)) ≡ lines_text (entry_line word name v ++ entry_lines word (drop (suc j) names) (drop (suc j) vs)) =
    rw (drop-cons names j [] (omega (arith, same, inside)), drop-cons vs j zero_ℚ inside, get_or_from_slice_get vs j v zero_ℚ e, n) refl in
    rw one (here ∙ flat_map-append line_text (entry_line word name v) (entry_lines word (drop (suc j) names) (drop (suc j) vs)))

pub nothing_more : (xs : List ℕ) → xs ≡ xs ++ []
nothing_more xs = sym (append-nil xs)

-- memory ran out behind a part of the text
pub stopped : {E : Type 0} (old now new text : List ℕ) (r : Result (Unit {0}) E) → IsErr r → Extends old now → Extends now new → Appends old new text r
stopped old now new text (Ok u) h a b = absurd (no h)
  where
    no : false ≡ true → ⊥
    no e = cc
stopped old now new text (Err e) h a b = extends_then old now new a b

-- a text behind another
pub continued : {E : Type 0} (old mid new first second whole : List ℕ) (r : Result (Unit {0}) E) → mid ≡ old ++ first → Appends mid new second r → whole ≡ first ++ second → Appends old new whole r
continued old mid new first second whole (Ok u) a b e = b ∙ ap (λ (t : List ℕ). t ++ second) a ∙ append_assoc old first second ∙ ap (λ (t : List ℕ). old ++ t) (sym e)
continued old mid new first second whole (Err f) a b e = extends_then old mid new (extends_by old first mid a) b

-- ---- one thing more of a list

pub lines_append : (a b : Lines) → lines_text (a ++ b) ≡ lines_text a ++ lines_text b
lines_append a b = flat_map-append line_text a b

pub lines_step : {A : Type 0} (f : A → Lines) (xs : List A) (k : ℕ) (x : A) → slice_get xs k ≡ Some x → lines_text (flat_map f (drop k xs)) ≡ lines_text (f x) ++ lines_text (flat_map f (drop (k + 1) xs))
lines_step f xs k x e =
    let one : k + 1 ≡ suc k = omega arith in
    let here : lines_text (flat_map f (drop k xs)) ≡ lines_text (f x ++ flat_map f (drop (suc k) xs)) = rw (drop-cons xs k x (slice_get_within xs k x e), get_or_from_slice_get xs k x x e) refl in
    rw one (here ∙ lines_append (f x) (flat_map f (drop (suc k) xs)))

pub all_at : {A : Type 0} (P : A → Type 0) (xs : List A) (k : ℕ) (x : A) → AllByRecursion P xs → slice_get xs k ≡ Some x → P x
all_at P [] k x h e = absurd (cc)
all_at P (y ∷ ys) zero x h e = subst P (some_is y x e) h.0
  where
    some_is : {A : Type 0} (y x : A) → Some y ≡ Some x → y ≡ x
    some_is y x e = cc
all_at P (y ∷ ys) (suc k) x h e = all_at P ys k x h.1 e
