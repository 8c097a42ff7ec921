-- Trails: where their steps lead, and how they come back.
use Rattle.std.specs.Prelude.{◌≡◌, ℕ, ◌≤◌, ℤ, pos, ◌+ℤ◌, reverse, List, [], ◌∷◌, ◌++◌, map, take, length, slice_get, Some, unsigned_abs}
use Rattle.std.proofs.Common.{◌+◌, sym, ◌∙◌, ap, ap₂, subst, arith, append_assoc, append-nil}
use Rattle.std.proofs.lemmas.List.{map_push, reverse-append, length-reverse, length-map, take_more, take_all}
use Rattle.std.proofs.lemmas.Option.{get_or_from_slice_get, slice_get_within}
use Rattle.frac_core.specs.Parts.{max_part}
use Rattle.rational.specs.Rational.{whole}
use Rattle.program_law.specs.Region.{Region, cut_high, cut_low}
use Rattle.program_law.specs.Program.{Program, bounds}
use Rattle.program_regions.specs.declared.descents.Cut as cuts
use Rattle.program_regions.specs.Descents.{cuts_of}
use Rattle.branching_law.specs.declared.Cut.{Cut}
use Rattle.branching_law.specs.declared.Cut.TheVariants.{Above}
use Rattle.branching_law.specs.declared.Turn.{Turn}
use Rattle.branching_law.specs.Paths.{region_of, below, above}
use Rattle.branching_law.proofs.PathRegions.{behind_last}
use Rattle.search_steps.specs.declared.trails.Trail.{Trail}
use Rattle.search_steps.specs.Trails.{Step, path_by, waiting_by, with_other, path_of, waiting_of, IsStepFrom, AreSteps, IsTrail, GoesBelow}

-- ---- the path, from the root on

reverse_first : {A : Type 0} (x : A) (xs : List A) → reverse (x ∷ xs) ≡ reverse xs ++ x ∷ []
reverse_first x xs = reverse-append (x ∷ []) xs

abbrev note_of : cuts.Cut Turn → Turn
note_of c = c.note

path_is : (root : List Turn) (steps : List Step) → root ++ map note_of (cuts_of steps) ≡ path_by root steps
path_is root [] = append-nil root
path_is root (s ∷ steps) =
    ap (λ (cs : List (cuts.Cut Turn)). root ++ map note_of cs) (reverse_first s.0 (map (λ (s : Step). s.0) steps))
    ∙ ap (λ (ts : List Turn). root ++ ts) (map_push note_of (cuts_of steps) s.0)
    ∙ sym (append_assoc root (map note_of (cuts_of steps)) (s.0.note ∷ []))
    ∙ ap (λ (ts : List Turn). ts ++ s.0.note ∷ []) (path_is root steps)

pub path_more : (root path new : List Turn) (cs : List (cuts.Cut Turn)) (i : ℕ) (c : cuts.Cut Turn) → slice_get cs i ≡ Some c → path ≡ root ++ map note_of (take i cs) → new ≡ path ++ c.note ∷ []
    → new ≡ root ++ map note_of (take (i + 1) cs)
path_more root path new cs i c there so is =
    let e : take (i + 1) cs ≡ take i cs ++ c ∷ [] =
    take_more cs i c (slice_get_within cs i c there) ∙ ap (λ (d : cuts.Cut Turn). take i cs ++ d ∷ []) (get_or_from_slice_get cs i c c there) in
    is ∙ ap (λ (ts : List Turn). ts ++ c.note ∷ []) so ∙ append_assoc root (map note_of (take i cs)) (c.note ∷ [])
    ∙ ap (λ (ts : List Turn). root ++ ts) (sym (ap (λ (l : List (cuts.Cut Turn)). map note_of l) e ∙ map_push note_of (take i cs) c))

pub path_all : (root path : List Turn) (steps : List Step) (i : ℕ) → length steps ≤ i → path ≡ root ++ map note_of (take i (cuts_of steps)) → path ≡ path_by root steps
path_all root path steps i h so =
    let size : length (cuts_of steps) ≡ length steps = length-reverse (map (λ (s : Step). s.0) steps) ∙ length-map steps (λ (s : Step). s.0) in
    so ∙ ap (λ (l : List (cuts.Cut Turn)). root ++ map note_of l) (take_all i (cuts_of steps) (omega (arith, h, size))) ∙ path_is root steps

-- ---- on to a lower side

pub goes_below : (old new : Trail) (j : ℕ) (k : ℤ) (s : Step) → new.turns ≡ old.turns → new.walk.before ≡ s ∷ old.walk.before → s.0.note ≡ below j k → GoesBelow old j k new
goes_below old new j k s turns steps turn = record {
  turns = turns;
  path = ap₂ path_by turns steps ∙ ap (λ (t : Turn). path_of old ++ t ∷ []) turn;
  waiting = ap₂ waiting_by turns steps ∙ ap (λ (t : Turn). with_other t.cut (path_of old) t.column t.k (waiting_of old)) turn;
}

steps_of : (p : Program) (old new : Trail) (rest : List Step) (s : Step) → new.turns ≡ old.turns → new.walk.before ≡ s ∷ rest → IsStepFrom p (path_by old.turns rest) s → AreSteps p old.turns rest
    → AreSteps p new.turns new.walk.before
steps_of p old new rest s turns steps one others =
    subst (λ (ts : List Turn). AreSteps p ts new.walk.before) (sym turns) (subst (λ (ss : List Step). AreSteps p old.turns ss) (sym steps) (one, others))

pub below_trail : (p : Program) (old new : Trail) (j : ℕ) (k : ℤ) (t : Turn) → IsTrail p old → new.turns ≡ old.turns
    → new.walk.before ≡ (record { column = j; note = t }, old.walk.region) ∷ old.walk.before → t ≡ below j k → new.walk.region ≡ cut_high old.walk.region j (whole k)
    → unsigned_abs (t.k +ℤ pos 1) ≤ max_part → IsTrail p new
below_trail p old new j k t trail turns steps turn region next =
    let one : IsStepFrom p (path_of old) (record { column = j; note = t }, old.walk.region) = record { region = trail.region; column = ap (λ (t : Turn). t.column) turn; next = next } in
    record {
      region = region ∙ ap (λ (r : Region). cut_high r j (whole k)) trail.region ∙ sym (behind_last (bounds p) (path_of old) (below j k))
          ∙ sym (ap (λ (path : List Turn). region_of p path) (goes_below old new j k (record { column = j; note = t }, old.walk.region) turns steps turn).path);
      steps = steps_of p old new old.walk.before (record { column = j; note = t }, old.walk.region) turns steps one trail.steps;
    }

-- ---- back, and over to the other side

module _ (p : Program) (t u : Trail) (c : cuts.Cut Turn) (steps : t.walk.before ≡ (c, u.walk.region) ∷ u.walk.before) (trail : IsTrail p t) where
  last_step : IsStepFrom p (path_by t.turns u.walk.before) (c, u.walk.region) × AreSteps p t.turns u.walk.before
  last_step = subst (λ (ss : List Step). AreSteps p t.turns ss) steps trail.steps

  pub next_fits : unsigned_abs (c.note.k +ℤ pos 1) ≤ max_part
  next_fits = last_step.0.next

  pub undone_trail : u.turns ≡ t.turns → IsTrail p u
  undone_trail turns = record {
    region = last_step.0.region ∙ ap (λ (ts : List Turn). region_of p (path_by ts u.walk.before)) (sym turns);
    steps = subst (λ (ts : List Turn). AreSteps p ts u.walk.before) (sym turns) last_step.1;
  }

  pub turned_trail : (v : Trail) (note : Turn) → v.turns ≡ t.turns → note ≡ above c.note.column c.note.k → v.walk.before ≡ (record { column = c.column; note = note }, u.walk.region) ∷ u.walk.before
      → v.walk.region ≡ cut_low u.walk.region c.column (whole (c.note.k +ℤ pos 1)) → IsTrail p v
  turned_trail v note turns turn before region =
      let column = last_step.0.column in
      let one : IsStepFrom p (path_by t.turns u.walk.before) (record { column = c.column; note = note }, u.walk.region) = record {
        region = last_step.0.region;
        column = ap (λ (t : Turn). t.column) turn ∙ column;
        next = subst (λ (t : Turn). unsigned_abs (t.k +ℤ pos 1) ≤ max_part) (sym turn) last_step.0.next;
      } in
      record {
        region = region ∙ ap₂ (λ (r : Region) (j : ℕ). cut_low r j (whole (c.note.k +ℤ pos 1))) last_step.0.region (sym column)
            ∙ sym (behind_last (bounds p) (path_by t.turns u.walk.before) (above c.note.column c.note.k))
            ∙ ap (λ (t' : Turn). region_of p (path_by t.turns u.walk.before ++ t' ∷ [])) (sym turn)
            ∙ sym (ap₂ (λ (ts : List Turn) (ss : List Step). region_of p (path_by ts ss)) turns before);
        steps = steps_of p t v u.walk.before (record { column = c.column; note = note }, u.walk.region) turns before one last_step.1;
      }

pub undone_waiting : (t u : Trail) (c : cuts.Cut Turn) → t.walk.before ≡ (c, u.walk.region) ∷ u.walk.before → u.turns ≡ t.turns → c.note.cut ≡ Above → waiting_of u ≡ waiting_of t
undone_waiting t u c steps turns cut =
    ap (λ (ts : List Turn). waiting_by ts u.walk.before) turns
    ∙ sym (ap (λ (ss : List Step). waiting_by t.turns ss) steps
    ∙ ap (λ (c' : Cut). with_other c' (path_by t.turns u.walk.before) c.note.column c.note.k (waiting_by t.turns u.walk.before)) cut)

-- ---- a root

pub root_path : (trail : Trail) → trail.walk.before ≡ [] → path_of trail ≡ trail.turns
root_path trail none = ap (λ (ss : List Step). path_by trail.turns ss) none

pub root_waiting : (trail : Trail) → trail.walk.before ≡ [] → waiting_of trail ≡ []
root_waiting trail none = ap (λ (ss : List Step). waiting_by trail.turns ss) none
