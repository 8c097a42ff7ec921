-- Known bytes that grow step by step.
use Rattle.std.proofs.Common.{ℕ, ◌+◌, List, ◌++◌, take, drop, Option, Some, None, sym, ◌∙◌, append_assoc}
use Rattle.std.proofs.lemmas.List.{take-append-drop}
use Rattle.std.proofs.Math.Seq.{take-add}
use Rattle.std.specs.Io.KnownBytes.{Appends, Keeps}
use Rattle.qp_streams.specs.Streams.{TakesFront}

pub Appends-then : (a b c : Option (List ℕ)) (x y : List ℕ) → Appends a b x → Appends b c y → Appends a c (x ++ y)
Appends-then None b c x y p q = tt
Appends-then (Some a) None c x y p q = absurd p
Appends-then (Some a) (Some b) None x y p q = absurd q
Appends-then (Some a) (Some b) (Some c) x y p q = rw (q, p) (append_assoc a x y)

pub Appends-kept : (a b c : Option (List ℕ)) (x : List ℕ) → Appends a b x → Keeps b c → Appends a c x
Appends-kept None b c x p q = tt
Appends-kept (Some a) None c x p q = absurd p
Appends-kept (Some a) (Some b) None x p q = absurd q
Appends-kept (Some a) (Some b) (Some c) x p q = q ∙ p

pub one_more_piece : (a b c : Option (List ℕ)) (m n : ℕ) (xs : List ℕ) → Appends a b (take m xs) → Appends b c (take n (drop m xs)) → Appends a c (take (m + n) xs)
one_more_piece a b c m n xs p q = rw (take-add m n xs) (Appends-then a b c (take m xs) (take n (drop m xs)) p q)

pub front_taken : (a b c : Option (List ℕ)) (m : ℕ) (xs : List ℕ) → Appends a b (take m xs) → Keeps b c → TakesFront a c xs
front_taken a b c m xs p q = (take m xs, drop m xs, sym (take-append-drop m xs), Appends-kept a b c (take m xs) p q)
