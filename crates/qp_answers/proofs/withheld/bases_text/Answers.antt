use Rattle.qp_answers.proofs.Written.{behind_first}
use Rattle.qp_answers.proofs.withheld.bases_text.Goals as goal

pub returns : goal.returns
returns c = behind_first _ _ _ _ _ _ _ _ c.in_ok-text.ensures c.in_ok-extend_from_slice.ensures.items c.in_ok-push_site.ensures c.in_ok-extend_from_slice-2.ensures.items
