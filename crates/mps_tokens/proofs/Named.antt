-- What stands beside a word, by its number in a table.
use Rattle.std.proofs.Common.{◌≡◌, ℕ, Bool, true, false, List, [], ◌∷◌, map, Option, Some, None, refl, sym, ap, ◌∙◌}
use Rattle.std.specs.Prelude.{if◌then◌else◌}
use Rattle.std.specs.Str.{bytes_eq}
use Rattle.mps_tokens.specs.Cases.{named, numbered}

-- the value of a number that may be missing
abbrev pub by_number : {E : Type 0} → Option ℕ → (ℕ → Option E) → Option E
by_number None f = None
by_number (Some n) f = f n

abbrev joined : {E : Type 0} → Option (Option E) → Option E
joined None = None
joined (Some o) = o

table_step : {E : Type 0} (b : Bool) (f : ℕ → Option E) (n : ℕ) (m : Option ℕ) (y : Option (Option E)) → joined y ≡ by_number m f → joined (if b then Some (f n) else y) ≡ by_number (if b then Some n else m) f
table_step true f n m y h = refl
table_step false f n m y h = h

over_table : {E : Type 0} (f : ℕ → Option E) (table : List (List ℕ × ℕ)) (word : List ℕ) → joined (named (map (λ (e : List ℕ × ℕ). (e.0, f e.1)) table) word) ≡ by_number (named table word) f
over_table f [] word = refl
over_table f (e ∷ es) word = table_step (bytes_eq e.0 word) f e.1 (named es word) _ (over_table f es word)

name_step : {E : Type 0} (b : Bool) (x : E) (y : Option (Option E)) (z : Option E) → joined y ≡ z → joined (if b then Some (Some x) else y) ≡ (if b then Some x else z)
name_step true x y z h = refl
name_step false x y z h = h

over_names : {E : Type 0} (names : List (List ℕ × E)) (word : List ℕ) → joined (named (map (λ (e : List ℕ × E). (e.0, Some e.1)) names) word) ≡ named names word
over_names [] word = refl
over_names (e ∷ es) word = name_step (bytes_eq e.0 word) e.1 _ (named es word) (over_names es word)

-- where each word's value is that of its number
pub named_by_number : {E : Type 0} (f : ℕ → Option E) (table : List (List ℕ × ℕ)) (names : List (List ℕ × E)) (word : List ℕ)
    → map {B = List ℕ × Option E} (λ (e : List ℕ × ℕ). (e.0, f e.1)) table ≡ map (λ (e : List ℕ × E). (e.0, Some e.1)) names → by_number (named table word) f ≡ named names word
named_by_number f table names word e = sym (over_table f table word) ∙ ap (λ t. joined (named t word)) e ∙ over_names names word

-- what is found in a table, as the number that stands there, has the value of the word
pub found_by_number : {E : Type 0} (names : List (List ℕ × E)) (table entries : List (List ℕ × ℕ)) (word : List ℕ) (found : Option ℕ) → entries ≡ table → found ≡ named entries word
    → map {B = List ℕ × Option E} (λ (e : List ℕ × ℕ). (e.0, numbered 1 names e.1)) table ≡ map (λ (e : List ℕ × E). (e.0, Some e.1)) names → by_number found (numbered 1 names) ≡ named names word
found_by_number names table entries word found e f h =
    ap (λ o. by_number o (numbered 1 names)) (f ∙ ap (λ t. named t word) e) ∙ named_by_number (numbered 1 names) table names word h
