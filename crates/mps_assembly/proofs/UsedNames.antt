-- The names of the objective and the rows of a program.
use Rattle.std.proofs.Common.{◌≡◌, ℕ, Bool, true, false, List, [], ◌∷◌, Option, Some, None, refl, sym, ap, ◌∙◌, if◌then◌else◌, IsSome}
use Rattle.std.specs.Prelude.{unwrap_or}
use Rattle.std.specs.Str.{bytes_eq}
use Rattle.program_law.specs.Places.{place_of}
use Rattle.mps_tokens.specs.declared.words.RowKind.{RowKind}
use Rattle.named_things.specs.Named.{names_of}
use Rattle.mps_grammar.specs.Told.{binds, program_rows, objective_in, used_names}
use Rattle.named_things.specs.Names.{Differ}
use Rattle.named_things.proofs.NameLemmas.{eq_self, ne_from, absent_parts, absent_head}

-- a name that isn't there isn't among the rows of the program
pub absent-bound : (rows : List (List ℕ × RowKind)) (name : List ℕ) → place_of (names_of rows) name ≡ None → place_of (names_of (program_rows rows)) name ≡ None
absent-bound [] name e = refl
absent-bound (r ∷ rs) name e =
    let p = absent_parts r.0 name (names_of rs) e in
    by_kind (binds r.1) p.0 (absent-bound rs name p.1)
  where
    by_kind : (b : Bool) → bytes_eq name r.0 ≡ false → place_of (names_of (program_rows rs)) name ≡ None → place_of (names_of (if b then r ∷ program_rows rs else program_rows rs)) name ≡ None
    by_kind true head rest = absent_head r.0 name (names_of (program_rows rs)) head rest
    by_kind false head rest = rest

bound-differ : (rows : List (List ℕ × RowKind)) → Differ (names_of rows) → Differ (names_of (program_rows rows))
bound-differ [] d = tt
bound-differ (r ∷ rs) d = by_kind (binds r.1) (absent-bound rs r.0 d.0) (bound-differ rs d.1)
  where
    by_kind : (b : Bool) → place_of (names_of (program_rows rs)) r.0 ≡ None → Differ (names_of (program_rows rs)) → Differ (names_of (if b then r ∷ program_rows rs else program_rows rs))
    by_kind true absent rest = (absent, rest)
    by_kind false absent rest = rest

-- the objective is one of the rows
objective-there : (rows : List (List ℕ × RowKind)) (o : List ℕ) → objective_in rows ≡ Some o → place_of (names_of rows) o ≡ None → ⊥
objective-there [] o e absent = absurd cc
objective-there (r ∷ rs) o e absent =
    let p = absent_parts r.0 o (names_of rs) absent in
    by_kind (binds r.1) e p.0 (λ f. objective-there rs o f p.1)
  where
    by_kind : (b : Bool) → (if b then objective_in rs else Some r.0) ≡ Some o → bytes_eq o r.0 ≡ false → (objective_in rs ≡ Some o → ⊥) → ⊥
    by_kind true e head again = again e
    by_kind false e head again = let is : r.0 ≡ o = cc in let bad : true ≡ false = sym (eq_self o) ∙ ap (bytes_eq o) (sym is) ∙ head in absurd cc

-- and none of the rows of the program
objective-apart : (rows : List (List ℕ × RowKind)) (o : List ℕ) → Differ (names_of rows) → objective_in rows ≡ Some o → place_of (names_of (program_rows rows)) o ≡ None
objective-apart [] o d e = refl
objective-apart (r ∷ rs) o d e = by_kind (binds r.1) e (λ f. objective-apart rs o d.1 f)
  where
    by_kind : (b : Bool) → (if b then objective_in rs else Some r.0) ≡ Some o → (objective_in rs ≡ Some o → place_of (names_of (program_rows rs)) o ≡ None) → place_of (names_of (if b then r ∷ program_rows rs else program_rows rs)) o ≡ None
    by_kind true e again =
        let other : bytes_eq o r.0 ≡ false = ne_from o r.0 (λ same. objective-there rs o e (ap (place_of (names_of rs)) same ∙ d.0)) in
        absent_head r.0 o (names_of (program_rows rs)) other (again e)
    by_kind false e again =
        let is : r.0 ≡ o = cc in
        ap (place_of (names_of (program_rows rs))) (sym is) ∙ absent-bound rs r.0 d.0

pub used-differ : (rows : List (List ℕ × RowKind)) → Differ (names_of rows) → IsSome (objective_in rows) → Differ (used_names rows)
used-differ rows d some = by_objective (objective_in rows) refl some
  where
    by_objective : (o : Option (List ℕ)) → objective_in rows ≡ o → IsSome o → Differ (unwrap_or o [] ∷ names_of (program_rows rows))
    by_objective None e some = absurd cc
    by_objective (Some o) e some = (objective-apart rows o d e, bound-differ rows d)
