use Rattle.std.proofs.Common.{sym}
use Rattle.cert_fields.proofs.Pieces.{split_first, split_none, is_there, is_absent, is_alone}
use Rattle.cert_fields.proofs.splitting.split_at.Goals as goal

pub returns-in-Some-clause-parts : goal.returns-in-Some-clause-parts
returns-in-Some-clause-parts c = split_first c.args.byte c.args.bytes.now _ (sym c.in-Some.ensures)

pub returns-in-Some-clause-there : goal.returns-in-Some-clause-there
returns-in-Some-clause-there c = is_there c.args.byte c.args.bytes.now _ (sym c.in-Some.ensures)

pub returns-in-None-clause-whole : goal.returns-in-None-clause-whole
returns-in-None-clause-whole c = split_none c.args.byte c.args.bytes.now (sym c.in-None.ensures)

pub returns-in-None-clause-absent : goal.returns-in-None-clause-absent
returns-in-None-clause-absent c = is_absent c.args.byte c.args.bytes.now (sym c.in-None.ensures)

pub returns-in-None-clause-alone : goal.returns-in-None-clause-alone
returns-in-None-clause-alone c = is_alone c.args.byte c.args.bytes.now (sym c.in-None.ensures)
