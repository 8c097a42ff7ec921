-- What a call appends to a text.
use Rattle.std.specs.Prelude.{◌≡◌, ℕ, List, ◌++◌, Result, Ok, Err}

-- something may have been appended
pub record Extends (old new : List ℕ) : Type 0 where
  pub more : List ℕ
  pub is : new ≡ old ++ more

-- the text was appended, or a part of it where memory ran out
abbrev pub Appends : {E : Type 0} → List ℕ → List ℕ → List ℕ → Result (Unit {0}) E → Type 0
Appends old new text (Ok u) = new ≡ old ++ text
Appends old new text (Err e) = Extends old new
