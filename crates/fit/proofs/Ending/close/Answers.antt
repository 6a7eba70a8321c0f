use mathlib.Core.Path.{refl}
use lib.ListN.{length, take}
use Rattle.refusal.proofs.Verdicts.{passed_on}
use Rattle.fit.specs.Ends.{job_at, point_at}
use Rattle.fit.proofs.Closing.{closes, closes-refused}
use Rattle.fit.proofs.Ending.close.Goals as goal

pub returns-in_err-z : goal.returns-in_err-z
returns-in_err-z c =
    let a = c.args in
    let e = a.self.now in
    rw (passed_on c.from_residual.ensures.1 refl) (closes-refused (job_at e) e.initial a.stop (point_at e) c.in_err-z.ensures.0)

pub returns : goal.returns
returns c =
    let a = c.args in
    let e = a.self.now in
    let s = c.show.ensures in
    closes (job_at e) e.initial a.stop (point_at e) (take (length e.task.now.places.now) c.slope_at.new.g) _ _ _ _ c.in_ok-z.ensures.0 c.reason-k.ensures s.0 s.1
