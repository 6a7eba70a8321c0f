use native.Mathlib.Omega.{arith}
use Rattle.sizes.proofs.Small.{power-fits}
use Rattle.sizes.proofs.power.Goals as goal

pub pow-requires : goal.pow-requires
pow-requires g c = let h = power-fits g.row.B c.args.n c.requires.0 c.requires.1 c.requires.2 in omega (arith, h.1, h.2)

pub returns : goal.returns
returns g c = let h = power-fits g.row.B c.args.n c.requires.0 c.requires.1 c.requires.2 in (c.pow.ensures, omega (arith, c.pow.ensures, h.0), omega (arith, c.pow.ensures, h.1))
