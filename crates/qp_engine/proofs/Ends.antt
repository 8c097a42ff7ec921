-- How a run that met what was due ended.
use Rattle.std.proofs.Common.{◌≡◌, ℕ, ◌<◌, List, length, Option, Some, None, IfSome, sym, subst, codes}
use Rattle.std.specs.Io.KnownBytes.{Appends}
use Rattle.qp_answers.specs.Said.{Said, HasText}
use Rattle.qp_engine.specs.Due.{longest, IsDue}
use Rattle.qp_answers.specs.Answers.{file_due}
use Rattle.qp_engine.specs.Sampling.{IsSampleDue}
use Rattle.qp_engine.specs.Runs.{Meets, MeetsDue}
use Rattle.qp_words.specs.declared.order.Order.{Order}
use Rattle.qp_engine.proofs.Judged.{long_due}
use Rattle.qp_answers.specs.declared.status.Status.{Status}
use Rattle.qp_answers.specs.declared.status.Status.TheVariants as status

-- ---- what was taken

pub meets_whole : (due : Said) (s : Status) (old new : Option (List ℕ)) → s ≡ due.status → HasText s → Appends old new due.text → Meets due s old new
meets_whole due status.Done old new e h a = (sym e, a)
meets_whole due status.FileRefused old new e h a = (sym e, a)
meets_whole due status.Usage old new e h a = (sym e, a)
meets_whole due status.Withheld old new e h a = (sym e, a)
meets_whole due status.Rejected old new e h a = (sym e, a)
meets_whole due status.ReadFault old new e h a = absurd h
meets_whole due status.WriteFault old new e h a = absurd h
meets_whole due status.Memory old new e h a = absurd h

pub not_read_fault : (s : Status) → HasText s → s ≡ status.ReadFault → ⊥
not_read_fault s h e = subst HasText e h

pub not_write_fault : (s : Status) → HasText s → s ≡ status.WriteFault → ⊥
not_write_fault s h e = subst HasText e h

-- ---- an input that is told

pub refused_long : (order : Order) (left : Option (List ℕ)) (a : Said) → IfSome left (λ input. longest < length input) → a ≡ file_due 0 (codes "TextLong") → IfSome left (λ input. IsDue order input a)
refused_long order None a long e = tt
refused_long order (Some input) a long e = long_due order input a long e

-- ---- a sample

same_order : (a b : Order) → Some a ≡ Some b → a ≡ b
same_order a b e = cc

-- what is due for the order that the words give is due for any order that they give
pub sampled_for : (ordered order : Order) (s : Status) (old new : Option (List ℕ)) → Some ordered ≡ Some order → MeetsDue (IsSampleDue ordered) s old new → MeetsDue (IsSampleDue order) s old new
sampled_for ordered order s old new e m = subst (λ o. MeetsDue (IsSampleDue o) s old new) (same_order ordered order e) m
