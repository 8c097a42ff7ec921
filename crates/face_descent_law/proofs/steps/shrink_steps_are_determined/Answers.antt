use Rattle.std.proofs.Common.{sym, subst}
use Rattle.face_descent_law.specs.Step.{IsCapped}
use Rattle.face_descent_law.proofs.OneStep.{IsToldNearest, nearest_told, nearest_is, capped_is, one_capped, turned_is, one_shrink, still_ops}
use Rattle.face_descent_law.proofs.steps.shrink_steps_are_determined.Goals as goal

pub returns : goal.returns
returns c = record {
  one = one_shrink;
  nearest = λ z d s e. (nearest_is z d s e, λ told. subst (IsToldNearest z d) told (nearest_told z d e));
  none = λ z d e told. subst (IsToldNearest z d) told (nearest_told z d e);
  capped = λ z d s e. ((λ h. one_capped z d s _ h (capped_is z d e)), λ same. subst (IsCapped z d) (sym same) (capped_is z d e));
  direction = turned_is;
  still = still_ops;
}
