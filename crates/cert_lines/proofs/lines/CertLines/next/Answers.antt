use Rattle.std.proofs.Common.{◌<◌, length, IfSome, Ok, refl, subst, arith}
use Rattle.cert_lines.specs.Steps.{Goes}
use Rattle.cert_lines.proofs.lines.CertLines.next.Goals as goal

pub invariant_of-self : goal.invariant_of-self
invariant_of-self c =
    let s = c.self.inside in
    let o = c.in-Ok-Some in
    let next = subst (λ step. Goes s.program.now s.text.now s.line s.given (Ok step)) o.field-0-is (o.ensures.read s.text.now s.line s.given c.self.invariant.0) in
    let shorter = subst (λ step. IfSome step (λ step. length step.rest.now < length s.rest.now)) o.field-0-is o.ensures.shorter in
    (next.2, omega (arith, c.self.invariant.1, shorter), c.self.invariant.2, c.self.invariant.3)

pub returns-in-Ok-Some-clause-gives : goal.returns-in-Ok-Some-clause-gives
returns-in-Ok-Some-clause-gives c =
    let s = c.self.inside in
    let o = c.in-Ok-Some in
    let next = subst (λ step. Goes s.program.now s.text.now s.line s.given (Ok step)) o.field-0-is (o.ensures.read s.text.now s.line s.given c.self.invariant.0) in
    rw (← c.self.view_is) (refl, next.0)

pub returns-in-Ok-Some-clause-within : goal.returns-in-Ok-Some-clause-within
returns-in-Ok-Some-clause-within c =
    let s = c.self.inside in
    let o = c.in-Ok-Some in
    let next = subst (λ step. Goes s.program.now s.text.now s.line s.given (Ok step)) o.field-0-is (o.ensures.read s.text.now s.line s.given c.self.invariant.0) in
    rw (← c.self.view_is) next.1

pub returns-in-Ok-None-clause-gives : goal.returns-in-Ok-None-clause-gives
returns-in-Ok-None-clause-gives c =
    let s = c.self.inside in
    let o = c.in-Ok-None in
    let end = subst (λ step. Goes s.program.now s.text.now s.line s.given (Ok step)) o.field-0-is (o.ensures.read s.text.now s.line s.given c.self.invariant.0) in
    rw (← c.self.view_is) (refl, end.0, end.1, end.2)

pub returns-in-Err-clause-gives : goal.returns-in-Err-clause-gives
returns-in-Err-clause-gives c =
    let s = c.self.inside in
    let fault = c.in-Err.ensures.read s.text.now s.line s.given c.self.invariant.0 in
    rw (← c.self.view_is) (refl, fault.0, fault.1)
