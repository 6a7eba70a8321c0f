use Rattle.choi.proofs.Steps.{term_is}
use Rattle.choi.proofs.Sizes.add_term.Goals as goal

pub returns : goal.returns
returns c =
    let a = c.args in
    let g = c.filled_of-g in
    let k = c.place_of-k in
    let u = c.unit_of in
    term_is a.self.n a.a a.f.column a.f.power a.w a.j a.r a.out.now g.result.column g.result.power k.result u.result c.signed.result g.ensures.0 g.ensures.1 k.ensures.0 u.ensures c.signed.ensures
