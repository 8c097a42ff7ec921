-- A calculation and its list: it ends as the list does, with a value where there is no event, and the list's tests all hold exactly
-- where a fact does.
use Rattle.std.specs.Prelude.{◌≡◌, ℕ, List, [], ◌∷◌, ◌++◌, Bool, true, false, Result, Ok, Err}
use Rattle.std.specs.List.{All}
use Rattle.std.proofs.Common.{sym, subst, ◌∙◌, ap, refl, cond}
use Rattle.std.proofs.lemmas.List.{append_assoc, map-append}
use Rattle.std.proofs.lemmas.List.Elements.{All-nil, All-cons, All-head, All-tail, All-append, All-map}
use Rattle.rational.specs.Rational.{ℚ}
use Rattle.frac_core.specs.Parts.{max_part}
use Rattle.frac_core.specs.Calculated.{tried, exact_of}
use Rattle.frac_core.specs.declared.fractions.Op.{Op}
use Rattle.frac_core.specs.declared.fractions.Refused.{Refused}
use Rattle.frac_core.specs.declared.fractions.Tried.{Tried}
use Rattle.frac_core.specs.declared.fractions.Tried.TheVariants.{Is, Past as PastTried}
use Rattle.frac_core.specs.Operations.{operation, Tries}
use Rattle.frac_core.proofs.Operations.{tries_one}
use Rattle.frac_core.proofs.Values.{tried-value}
use Rattle.cert_check_law.specs.declared.Event.{Event}
use Rattle.cert_check_law.specs.declared.Event.TheVariants.{Past, Failed}
use Rattle.cert_check_law.specs.Chain.{◌>>=◌, answered, op, test}
use Rattle.cert_check_law.specs.Entries.{Entry, Operation, Test, operations, Holds, Passes, event_of, IsFirstEvent}
use Rattle.cert_check_law.proofs.Settled.{Settles}

abbrev pub EndsWith : {A : Type 0} → List Entry → A → Result A Event → Type 0
EndsWith entries v (Ok x) = (x ≡ v) × All Passes entries
EndsWith entries v (Err e) = IsFirstEvent entries e

-- C is what is known of sizes; the first part needs nothing of it
pub record Listed {A : Type 0} (C : Type 0) (r : Result A Event) (entries : List Entry) (v : A) (T : Type 0) : Type 0 where
  pub ends : EndsWith entries v r
  pub tells : C → All Holds entries → T
  pub needs : C → T → All Holds entries

-- operations alone
abbrev pub Works : {A : Type 0} → Type 0 → Result A Event → List Refused → A → Type 0
Works C r ops v = Listed C r (operations ops) v (Unit {0})

-- ---- lists

split : {X : Type 0} (P : X → Type 0) (xs ys : List X) → All P (xs ++ ys) → All P xs × All P ys
split P [] ys h = (All-nil P, h)
split P (x ∷ xs) ys h =
    let rest = split P xs ys (All-tail P x (xs ++ ys) h) in (All-cons P x xs (All-head P x (xs ++ ys) h) rest.0, rest.1)

All-one : {X : Type 0} (P : X → Type 0) (x : X) → P x → All P (x ∷ [])
All-one P x h = All-cons P x [] h (All-nil P)

operations_hold : (ops : List Refused) → All Holds (operations ops)
operations_hold ops = All-map Holds Operation ops (λ i o h. tt)

-- ---- one after another

ends_after : {A : Type 0} (xs ys : List Entry) (v : A) (r : Result A Event) → All Passes xs → EndsWith ys v r → EndsWith (xs ++ ys) v r
ends_after xs ys v (Ok x) h k = (k.0, All-append Passes xs ys h k.1)
ends_after xs ys v (Err e) h k = record {
  earlier = xs ++ k.earlier;
  entry = k.entry;
  later = k.later;
  place = ap (λ l. xs ++ l) k.place ∙ sym (append_assoc xs k.earlier (k.entry ∷ k.later));
  before = All-append Passes xs k.earlier h k.before;
  stops = k.stops;
  event = k.event;
}

ends_in_turn : {A B : Type 0} (xs ys : List Entry) (v : A) (w : B) (r : Result A Event) (f : A → Result B Event) → EndsWith xs v r → EndsWith ys w (f v) → EndsWith (xs ++ ys) w (r >>= f)
ends_in_turn xs ys v w (Ok x) f h k = ends_after xs ys w (f x) h.1 (subst (λ u. EndsWith ys w (f u)) (sym h.0) k)
ends_in_turn xs ys v w (Err e) f h k = record {
  earlier = h.earlier;
  entry = h.entry;
  later = h.later ++ ys;
  place = ap (λ l. l ++ ys) h.place ∙ append_assoc h.earlier (h.entry ∷ h.later) ys;
  before = h.before;
  stops = h.stops;
  event = h.event;
}

-- the facts of both parts
pub joined : {C : Type 0} {A B : Type 0} {T U : Type 0} {v : A} {w : B} {xs ys : List Entry} (r : Result A Event) (f : A → Result B Event) → Listed C r xs v T → Listed C (f v) ys w U → Listed C (r >>= f) (xs ++ ys) w (T × U)
joined {v = v} {w = w} {xs = xs} {ys = ys} r f h k = record {
  ends = ends_in_turn xs ys v w r f h.ends k.ends;
  tells = λ c a. let parts = split Holds xs ys a in (h.tells c parts.0, k.tells c parts.1);
  needs = λ c p. All-append Holds xs ys (h.needs c p.0) (k.needs c p.1);
}

pub converted : {C : Type 0} {A : Type 0} {T U : Type 0} {v : A} {xs : List Entry} (r : Result A Event) → (C → T → U) → (C → U → T) → Listed C r xs v T → Listed C r xs v U
converted r f g h = record { ends = h.ends; tells = λ c a. f c (h.tells c a); needs = λ c u. h.needs c (g c u) }

-- the fact of the second part, behind operations
pub after : {C : Type 0} {A B : Type 0} {U : Type 0} {v : A} {w : B} {xs ys : List Entry} (r : Result A Event) (f : A → Result B Event) → Listed C r xs v (Unit {0}) → Listed C (f v) ys w U → Listed C (r >>= f) (xs ++ ys) w U
after r f h k = converted (r >>= f) (λ c p. p.1) (λ c u. (tt, u)) (joined r f h k)

-- the fact of the first part, before operations
pub before : {C : Type 0} {A B : Type 0} {T : Type 0} {v : A} {w : B} {xs ys : List Entry} (r : Result A Event) (f : A → Result B Event) → Listed C r xs v T → Listed C (f v) ys w (Unit {0}) → Listed C (r >>= f) (xs ++ ys) w T
before r f h k = converted (r >>= f) (λ c p. p.0) (λ c t. (t, tt)) (joined r f h k)

-- operations behind operations
pub and_then : {C : Type 0} {A B : Type 0} {v : A} {w : B} (xs ys : List Refused) (r : Result A Event) (f : A → Result B Event) → Works C r xs v → Works C (f v) ys w → Works C (r >>= f) (xs ++ ys) w
and_then {C = C} {w = w} xs ys r f h k = subst (λ l. Listed C (r >>= f) l w (Unit {0})) (sym (map-append Operation xs ys)) (after r f h k)

-- another value of the end
pub turned : {C : Type 0} {A B : Type 0} {T : Type 0} {v : A} {xs : List Entry} (r : Result A Event) (g : A → B) → Listed C r xs v T → Listed C (r >>= λ x. Ok (g x)) xs (g v) T
turned {v = v} {xs = xs} r g h = record { ends = by r h.ends; tells = h.tells; needs = h.needs }
  where
    by : (r : Result _ Event) → EndsWith xs v r → EndsWith xs (g v) (r >>= λ x. Ok (g x))
    by (Ok x) k = (ap g k.0, k.1)
    by (Err e) k = k

pub of_value : {C : Type 0} {A : Type 0} {T : Type 0} {v w : A} {xs : List Entry} (r : Result A Event) → v ≡ w → Listed C r xs v T → Listed C r xs w T
of_value {C = C} {T = T} {xs = xs} r e h = subst (λ z. Listed C r xs z T) e h

-- ---- the parts

-- nothing is calculated
pub done : {C : Type 0} {A : Type 0} {T : Type 0} (x : A) → T → Listed C (Ok x) [] x T
done x t = record { ends = (refl, All-nil Passes); tells = λ c a. t; needs = λ c u. All-nil Holds }

-- nothing is calculated, where sizes rule it out
pub vacuous : {A : Type 0} {C T : Type 0} (x : A) → (C → ⊥) → Listed C (Ok x) [] x T
vacuous x f = record { ends = (refl, All-nil Passes); tells = λ c a. absurd (f c); needs = λ c t. All-nil Holds }

pub chosen : {C : Type 0} {A : Type 0} {T : Type 0} {v : A} (b : Bool) (r s : Result A Event) (xs ys : List Entry) → (b ≡ true → Listed C r xs v T) → (b ≡ false → Listed C s ys v T) → Listed C (cond b r s) (cond b xs ys) v T
chosen true r s xs ys f g = f refl
chosen false r s xs ys f g = g refl

clash : false ≡ true → ⊥
clash e = cc

-- the first entry of a list is its first event
pub stopped : (entry : Entry) (later : List Entry) → ¬ (Passes entry) → IsFirstEvent (entry ∷ later) (event_of entry)
stopped entry later h = record { earlier = []; entry = entry; later = later; place = refl; before = All-nil Passes; stops = h; event = refl }

pub tested : {C : Type 0} {T : Type 0} (b : Bool) (rule place : ℕ) → (b ≡ true → T) → (T → b ≡ true) → Listed C (test b rule place) (Test b rule place ∷ []) tt T
tested b rule place f g = record {
  ends = by b;
  tells = λ c a. f (All-head Holds (Test b rule place) [] a);
  needs = λ c t. All-one Holds (Test b rule place) (g t);
}
  where
    by : (b : Bool) → EndsWith (Test b rule place ∷ []) tt (test b rule place)
    by true = (refl, All-one Passes (Test true rule place) refl)
    by false = stopped (Test false rule place) [] clash

-- operations that answer by trying them in order
pub of_tries : {C : Type 0} (ops : List Refused) (t : Tried) (v : ℚ) → Tries max_part ops t → ((q : ℚ) → t ≡ Is q → q ≡ v) → Works C (answered t) ops v
of_tries ops t v h value = record { ends = by t h value; tells = λ c a. tt; needs = λ c u. operations_hold ops }
  where
    by : (t : Tried) → Tries max_part ops t → ((q : ℚ) → t ≡ Is q → q ≡ v) → EndsWith (operations ops) v (answered t)
    by (Is q) h value = (value q refl, All-map Passes Operation ops h)
    by (PastTried r) h value = record {
      earlier = operations h.earlier;
      entry = Operation r;
      later = operations h.later;
      place = ap operations h.place ∙ map-append Operation h.earlier (r ∷ h.later);
      before = All-map Passes Operation h.earlier h.within;
      stops = h.past;
      event = refl;
    }

pub operated : {C : Type 0} (o : Op) (x y : ℚ) → Works C (op o x y) (operation o x y ∷ []) (exact_of o x y)
operated o x y = of_tries (operation o x y ∷ []) (tried o x y) (exact_of o x y) (tries_one max_part o x y) (tried-value max_part o x y)

-- ---- what it settles

-- of a list whose tests all hold the first event is an operation
holds_first : (entries : List Entry) (rule place : ℕ) → IsFirstEvent entries (Failed rule place) → All Holds entries → ⊥
holds_first entries rule place h a = by h.entry h.event h.stops (All-head Holds h.entry h.later (split Holds h.earlier (h.entry ∷ h.later) (subst (All Holds) h.place a)).1)
  where
    by : (entry : Entry) → Failed rule place ≡ event_of entry → ¬ (Passes entry) → Holds entry → ⊥
    by (Operation o) e s k = absurd cc
    by (Test b r q) e s k = s k

passing_holds : (entries : List Entry) → All Passes entries → All Holds entries
passing_holds [] h = All-nil Holds
passing_holds (entry ∷ entries) h = All-cons Holds entry entries (by entry (All-head Passes entry entries h)) (passing_holds entries (All-tail Passes entry entries h))
  where
    by : (entry : Entry) → Passes entry → Holds entry
    by (Operation o) k = tt
    by (Test b r q) k = k

pub settled : {C : Type 0} {A : Type 0} {T : Type 0} {v : A} {xs : List Entry} (r : Result A Event) → C → Listed C r xs v T → Settles r v T
settled {xs = xs} (Ok x) c h = record { ends = (h.ends.0, h.tells c (passing_holds xs h.ends.1)) }
settled (Err (Past r)) c h = record { ends = tt }
settled {xs = xs} (Err (Failed rule place)) c h = record { ends = λ t. holds_first xs rule place h.ends (h.needs c t) }
