use Rattle.likelihood.proofs.Terms.{with-deviance, without-deviance}
use Rattle.likelihood.proofs.plus_term.Goals as goal

pub returns-then-w : goal.returns-then-w
returns-then-w c = with-deviance _ _ _ _ _ _ c.ln.ensures.lent _ _ c.if-w.true c.ln-ratio.ensures.lent

pub returns : goal.returns
returns c = without-deviance _ _ _ _ _ _ c.ln.ensures.lent _ c.if-w.false
