-- The places of rows among the objective and the rows of the program, when a row more is given.
use Rattle.std.proofs.Common.{◌≡◌, ℕ, zero, suc, ◌+◌, ◌≤◌, Bool, true, false, cond, ◌⊎◌, List, [], ◌∷◌, ◌++◌, length, Option, Some, None, refl, sym, ap, ◌∙◌, inl, inr, arith, length-append}
use Rattle.std.specs.Prelude.{slice_get, is_some, unwrap_or}
use Rattle.std.specs.List.{AllByRecursion}
use Rattle.std.specs.Option.{option_map}
use Rattle.std.specs.Str.{bytes_eq}
use Rattle.std.proofs.lemmas.List.Elements.{filter-append}
use Rattle.mps_tokens.specs.declared.words.RowKind.{RowKind}
use Rattle.program_law.specs.Places.{place_of}
use Rattle.program_law.specs.Program.{IsName}
use Rattle.named_things.specs.Named.{names_of}
use Rattle.mps_grammar.specs.Told.{binds, program_rows, objective_in, used_names}
use Rattle.mps_notes.specs.declared.rows.RowUse.{RowUse}
use Rattle.mps_notes.specs.Names.{AreNames}
use Rattle.mps_notes.specs.Rows.{with_kind, kinds_of, ArePlaced}
use Rattle.named_things.proofs.PlaceLemmas.{place_pushed}
use Rattle.named_things.proofs.NameLemmas.{eq_self, ne_from, ne_sym, absent_parts, absent_head}

abbrev Kinds : Type 0
Kinds = List (List ℕ × RowKind)

pub names_kinds : (rows : List (List ℕ × RowUse)) → names_of (kinds_of rows) ≡ names_of rows
names_kinds [] = refl
names_kinds (r ∷ rs) = ap (λ (l : List (List ℕ)). r.0 ∷ l) (names_kinds rs)

pub names_push : {A : Type 0} (things : List (List ℕ × A)) (n : List ℕ) (a : A) → names_of (things ++ (n, a) ∷ []) ≡ names_of things ++ n ∷ []
names_push [] n a = refl
names_push (t ∷ ts) n a = ap (λ (l : List (List ℕ)). t.0 ∷ l) (names_push ts n a)

pub kinds_push : (rows : List (List ℕ × RowUse)) (n : List ℕ) (kept : RowUse) → kinds_of (rows ++ (n, kept) ∷ []) ≡ kinds_of rows ++ (n, kept.kind) ∷ []
kinds_push [] n kept = refl
kinds_push (r ∷ rs) n kept = ap (λ (l : Kinds). with_kind r ∷ l) (kinds_push rs n kept)

-- ---- one row more

program_push : (rows : Kinds) (r : List ℕ × RowKind) → program_rows (rows ++ r ∷ []) ≡ program_rows rows ++ cond (binds r.1) (r ∷ []) []
program_push rows r = filter-append (λ (x : List ℕ × RowKind). binds x.1) rows (r ∷ [])

abbrev own : List ℕ × RowKind → Option (List ℕ)
own r = cond (binds r.1) None (Some r.0)

abbrev either : Option (List ℕ) → Option (List ℕ) → Option (List ℕ)
either None o = o
either (Some x) o = Some x

objective_push : (rows : Kinds) (r : List ℕ × RowKind) → objective_in (rows ++ r ∷ []) ≡ either (objective_in rows) (own r)
objective_push [] r = refl
objective_push (x ∷ xs) r = by_kind (binds x.1) (objective_push xs r)
  where
    by_kind : (b : Bool) → objective_in (xs ++ r ∷ []) ≡ either (objective_in xs) (own r) → cond b (objective_in (xs ++ r ∷ [])) (Some x.0) ≡ either (cond b (objective_in xs) (Some x.0)) (own r)
    by_kind true e = e
    by_kind false e = refl

-- ---- a name that no row has

absent_program : (rows : Kinds) (n : List ℕ) → place_of (names_of rows) n ≡ None → place_of (names_of (program_rows rows)) n ≡ None
absent_program [] n e = refl
absent_program (r ∷ rs) n e = let p = absent_parts r.0 n (names_of rs) e in by_kind (binds r.1) p.0 (absent_program rs n p.1)
  where
    by_kind : (b : Bool) → bytes_eq n r.0 ≡ false → place_of (names_of (program_rows rs)) n ≡ None → place_of (names_of (cond b (r ∷ program_rows rs) (program_rows rs))) n ≡ None
    by_kind true f g = absent_head r.0 n (names_of (program_rows rs)) f g
    by_kind false f g = g

absent_objective : (rows : Kinds) (n : List ℕ) → place_of (names_of rows) n ≡ None → bytes_eq n [] ≡ false → bytes_eq n (unwrap_or (objective_in rows) []) ≡ false
absent_objective [] n e f = f
absent_objective (r ∷ rs) n e f = let p = absent_parts r.0 n (names_of rs) e in by_kind (binds r.1) p.0 (absent_objective rs n p.1 f)
  where
    by_kind : (b : Bool) → bytes_eq n r.0 ≡ false → bytes_eq n (unwrap_or (objective_in rs) []) ≡ false → bytes_eq n (unwrap_or (cond b (objective_in rs) (Some r.0)) []) ≡ false
    by_kind true f g = g
    by_kind false f g = f

absent_used : (rows : Kinds) (n : List ℕ) → place_of (names_of rows) n ≡ None → bytes_eq n [] ≡ false → place_of (used_names rows) n ≡ None
absent_used rows n e f = absent_head (unwrap_or (objective_in rows) []) n (names_of (program_rows rows)) (absent_objective rows n e f) (absent_program rows n e)

-- ---- the places

pub place_other : (names : List (List ℕ)) (n m : List ℕ) → bytes_eq m n ≡ false → place_of (names ++ n ∷ []) m ≡ place_of names m
place_other [] n m e = rw e refl
place_other (x ∷ xs) n m e = ap (λ (o : Option ℕ). cond (bytes_eq m x) (Some 0) (option_map suc o)) (place_other xs n m e)

-- the used names with a row of the program more
used_bound : (rows : Kinds) (n : List ℕ) (kind : RowKind) → binds kind ≡ true → used_names (rows ++ (n, kind) ∷ []) ≡ used_names rows ++ n ∷ []
used_bound rows n kind b =
    let o : objective_in (rows ++ (n, kind) ∷ []) ≡ objective_in rows = objective_push rows (n, kind) ∙ rw b (same (objective_in rows)) in
    let p : program_rows (rows ++ (n, kind) ∷ []) ≡ program_rows rows ++ (n, kind) ∷ [] = program_push rows (n, kind) ∙ rw b refl in
    rw (o, p) (ap (λ (l : List (List ℕ)). unwrap_or (objective_in rows) [] ∷ l) (names_push (program_rows rows) n kind))
  where
    same : (o : Option (List ℕ)) → either o None ≡ o
    same None = refl
    same (Some x) = refl

append_none : {A : Type 0} (xs : List A) → xs ++ [] ≡ xs
append_none [] = refl
append_none (x ∷ xs) = ap (λ (l : List _). x ∷ l) (append_none xs)

-- with an N row more
used_free : (rows : Kinds) (n : List ℕ) (kind : RowKind) (o : Option (List ℕ)) → binds kind ≡ false → objective_in rows ≡ o → used_names (rows ++ (n, kind) ∷ []) ≡ unwrap_or (either o (Some n)) [] ∷ names_of (program_rows rows)
used_free rows n kind o b e =
    let q : objective_in (rows ++ (n, kind) ∷ []) ≡ either o (Some n) = objective_push rows (n, kind) ∙ rw (b, e) refl in
    let p : program_rows (rows ++ (n, kind) ∷ []) ≡ program_rows rows = program_push rows (n, kind) ∙ rw b (append_none (program_rows rows)) in
    rw (q, p) refl

-- the other rows stay where they are
pub used_kept : (rows : Kinds) (n : List ℕ) (kind : RowKind) (m : List ℕ) → bytes_eq m n ≡ false → bytes_eq m [] ≡ false → place_of (used_names (rows ++ (n, kind) ∷ [])) m ≡ place_of (used_names rows) m
used_kept rows n kind m apart filled = by_kind (binds kind) refl
  where
    by_objective : (o : Option (List ℕ)) → binds kind ≡ false → objective_in rows ≡ o → place_of (used_names (rows ++ (n, kind) ∷ [])) m ≡ place_of (used_names rows) m
    by_objective None b e = ap (λ (l : List (List ℕ)). place_of l m) (used_free rows n kind None b e) ∙ rw (e, apart, filled) refl
    by_objective (Some x) b e = ap (λ (l : List (List ℕ)). place_of l m) (used_free rows n kind (Some x) b e) ∙ rw e refl

    by_kind : (b : Bool) → binds kind ≡ b → place_of (used_names (rows ++ (n, kind) ∷ [])) m ≡ place_of (used_names rows) m
    by_kind true b = ap (λ (l : List (List ℕ)). place_of l m) (used_bound rows n kind b) ∙ place_other (used_names rows) n m apart
    by_kind false b = by_objective (objective_in rows) b refl

pub names_length : {A : Type 0} (things : List (List ℕ × A)) → length (names_of things) ≡ length things
names_length [] = refl
names_length (t ∷ ts) = ap suc (names_length ts)

-- a new row of the program stands behind the others
pub place_bound : (rows : Kinds) (n : List ℕ) (kind : RowKind) → binds kind ≡ true → place_of (names_of rows) n ≡ None → bytes_eq n [] ≡ false → place_of (used_names (rows ++ (n, kind) ∷ [])) n ≡ Some (length (program_rows rows) + 1)
place_bound rows n kind b absent filled =
    let last : length (used_names rows) ≡ length (program_rows rows) + 1 = omega (arith, names_length (program_rows rows)) in
    ap (λ (l : List (List ℕ)). place_of l n) (used_bound rows n kind b) ∙ place_pushed (used_names rows) n (absent_used rows n absent filled) ∙ ap (λ (k : ℕ). Some k) last

-- the first N row is the objective
pub place_objective : (rows : Kinds) (n : List ℕ) (kind : RowKind) → binds kind ≡ false → is_some (objective_in rows) ≡ false → place_of (used_names (rows ++ (n, kind) ∷ [])) n ≡ Some 0
place_objective rows n kind b none = by_objective (objective_in rows) refl none
  where
    by_objective : (o : Option (List ℕ)) → objective_in rows ≡ o → is_some o ≡ false → place_of (used_names (rows ++ (n, kind) ∷ [])) n ≡ Some 0
    by_objective None e f = ap (λ (l : List (List ℕ)). place_of l n) (used_free rows n kind None b e) ∙ rw (eq_self n) refl
    by_objective (Some x) e f = absurd cc

-- a further one isn't used
pub place_unused : (rows : Kinds) (n : List ℕ) (kind : RowKind) → binds kind ≡ false → is_some (objective_in rows) ≡ true → place_of (names_of rows) n ≡ None → bytes_eq n [] ≡ false → place_of (used_names (rows ++ (n, kind) ∷ [])) n ≡ None
place_unused rows n kind b some absent filled = by_objective (objective_in rows) refl some
  where
    by_objective : (o : Option (List ℕ)) → objective_in rows ≡ o → is_some o ≡ true → place_of (used_names (rows ++ (n, kind) ∷ [])) n ≡ None
    by_objective None e f = absurd cc
    by_objective (Some x) e f =
        let same : used_names (rows ++ (n, kind) ∷ []) ≡ used_names rows = used_free rows n kind (Some x) b e ∙ rw e refl in
        ap (λ (l : List (List ℕ)). place_of l n) same ∙ absent_used rows n absent filled

-- ---- what is kept of the rows

pub all_push : {X : Type 0} (P : X → Type 0) (xs : List X) (x : X) → AllByRecursion P xs → P x → AllByRecursion P (xs ++ x ∷ [])
all_push P [] x all here = (here, tt)
all_push P (y ∷ ys) x all here = (all.0, all_push P ys x all.1 here)

pub all_at : {X : Type 0} (P : X → Type 0) (xs : List X) (i : ℕ) (x : X) → AllByRecursion P xs → slice_get xs i ≡ Some x → P x
all_at P [] i x all e = absurd cc
all_at P (y ∷ ys) zero x all e = let same : y ≡ x = cc in rw (← same) all.0
all_at P (y ∷ ys) (suc i) x all e = all_at P ys i x all.1 e

pub get_cases : {X : Type 0} (xs : List X) (x y : X) (i : ℕ) → slice_get (xs ++ x ∷ []) i ≡ Some y → (slice_get xs i ≡ Some y) ⊎ (y ≡ x)
get_cases [] x y zero e = inr cc
get_cases [] x y (suc i) e = absurd cc
get_cases (z ∷ zs) x y zero e = inl e
get_cases (z ∷ zs) x y (suc i) e = get_cases zs x y i e

pub name_filled : (n : List ℕ) → IsName n → bytes_eq n [] ≡ false
name_filled n h = ne_from n [] (λ e. let none : length n ≡ 0 = ap length e in let some : 1 ≤ length n = h.some in omega arith)

pub absent_at : {A : Type 0} (things : List (List ℕ × A)) (n : List ℕ) (i : ℕ) (t : List ℕ × A) → place_of (names_of things) n ≡ None → slice_get things i ≡ Some t → bytes_eq t.0 n ≡ false
absent_at [] n i t absent e = absurd cc
absent_at (x ∷ xs) n zero t absent e =
    let p = absent_parts x.0 n (names_of xs) absent in
    let same : x ≡ t = cc in
    rw (← same) (ne_sym n x.0 p.0)
absent_at (x ∷ xs) n (suc i) t absent e = absent_at xs n i t (absent_parts x.0 n (names_of xs) absent).1 e

pub named_at : {A : Type 0} (things : List (List ℕ × A)) (i : ℕ) (t : List ℕ × A) → slice_get things i ≡ Some t → slice_get (names_of things) i ≡ Some t.0
named_at [] i t e = absurd cc
named_at (x ∷ xs) zero t e = let same : x ≡ t = cc in rw same refl
named_at (x ∷ xs) (suc i) t e = named_at xs i t e

pub placed_push : (rows : List (List ℕ × RowUse)) (n : List ℕ) (kept : RowUse) → AreNames (names_of rows) → place_of (names_of rows) n ≡ None → ArePlaced rows
    → kept.place ≡ place_of (used_names (kinds_of (rows ++ (n, kept) ∷ []))) n → ArePlaced (rows ++ (n, kept) ∷ [])
placed_push rows n kept names absent placed new i row e =
    elim (get_cases rows (n, kept) row i e) [
      | inl s ↦
          let apart = absent_at rows n i row absent s in
          let filled = name_filled row.0 (all_at IsName (names_of rows) i row.0 names (named_at rows i row s)) in
          placed i row s ∙ sym (ap (λ (l : Kinds). place_of (used_names l) row.0) (kinds_push rows n kept) ∙ used_kept (kinds_of rows) n kept.kind row.0 apart filled)
      | inr s ↦ rw s new
    ]

pub program_count : (rows : Kinds) (n : List ℕ) (kind : RowKind) → binds kind ≡ true → length (program_rows (rows ++ (n, kind) ∷ [])) ≡ length (program_rows rows) + 1
program_count rows n kind b = ap length (program_push rows (n, kind) ∙ rw b refl) ∙ length-append (program_rows rows) ((n, kind) ∷ [])

pub program_same : (rows : Kinds) (n : List ℕ) (kind : RowKind) → binds kind ≡ false → program_rows (rows ++ (n, kind) ∷ []) ≡ program_rows rows
program_same rows n kind b = program_push rows (n, kind) ∙ rw b (append_none (program_rows rows))

pub objective_same : (rows : Kinds) (n : List ℕ) (kind : RowKind) → binds kind ≡ true → is_some (objective_in (rows ++ (n, kind) ∷ [])) ≡ is_some (objective_in rows)
objective_same rows n kind b = ap is_some (objective_push rows (n, kind)) ∙ rw b (same (objective_in rows))
  where
    same : (o : Option (List ℕ)) → is_some (either o None) ≡ is_some o
    same None = refl
    same (Some x) = refl

pub objective_there : (rows : Kinds) (n : List ℕ) (kind : RowKind) → binds kind ≡ false → is_some (objective_in (rows ++ (n, kind) ∷ [])) ≡ true
objective_there rows n kind b = ap is_some (objective_push rows (n, kind)) ∙ rw b (there (objective_in rows))
  where
    there : (o : Option (List ℕ)) → is_some (either o (Some n)) ≡ true
    there None = refl
    there (Some x) = refl
