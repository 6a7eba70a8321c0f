use Rattle.pauli.proofs.Digits.{stored}
use Rattle.pauli.proofs.Sizes.add_entry.Goals as goal

pub returns : goal.returns
returns c =
    let a = c.args in
    let f = c.filled_of-f in
    stored a.self.n a.self.d a.code a.row f.result.column f.result.power a.w _ a.out.now a.self.side f.ensures.0 f.ensures.1 c.unit_of.ensures
