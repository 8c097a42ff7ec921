use Rattle.std.proofs.Common.{Ok, sym, ap, ◌∙◌}
use Rattle.cert_text_law.proofs.Accepts.{read_writable}
use Rattle.cert_text_law.proofs.TextBack.{text_back}
use Rattle.cert_text.proofs.reading.read_certificate.Goals as goal

pub returns-clause-text : goal.returns-clause-text
returns-clause-text c = text_back c.args.p.now c.args.line c.args.text.now c.in_ok-certificate.certificate (c.in_ok-put_lines.ensures.0 ∙ ap Ok (sym c.in_ok-certificate.ensures))

pub returns-clause-writable : goal.returns-clause-writable
returns-clause-writable c = read_writable c.args.p.now c.args.line c.args.text.now c.in_ok-certificate.certificate (c.in_ok-put_lines.ensures.0 ∙ ap Ok (sym c.in_ok-certificate.ensures))
