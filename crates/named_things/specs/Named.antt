-- Things with names, in the order in which they were given.
use Rattle.std.specs.Prelude.{ℕ, List, map}
use Rattle.std.specs.Global.{Vec}

-- the names alone
abbrev pub names_of : {A : Type 0} → List (List ℕ × A) → List (List ℕ)
names_of things = map (λ thing. thing.0) things

-- the things without their names
abbrev pub things_of : {A : Type 0} → List (List ℕ × A) → List A
things_of things = map (λ thing. thing.1) things

-- entries whose names are kept as bytes
abbrev pub named : {A : Type 0} → List (Vec ℕ × A) → List (List ℕ × A)
named entries = map (λ entry. (entry.0.items, entry.1)) entries
