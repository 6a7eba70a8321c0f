use mathlib.Core.Path.{sym, ◌∙◌}
use Rattle.fit.specs.Ends.{job_at, point_at}
use Rattle.fit.proofs.Closing.{known}
use Rattle.fit.proofs.Ending.stop_at.Goals as goal

pub returns-then-keeps_norm : goal.returns-then-keeps_norm
returns-then-keeps_norm c =
    let a = c.args in
    let e = a.self.now in
    let s = c.show.ensures in
    known (job_at e) e.initial a.k (point_at e) _ _ _ c.requires.0 (sym c.keeps_norm.ensures ∙ c.if-keeps_norm.true) s.0 s.1
