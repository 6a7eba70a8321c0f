use Rattle.inversion.proofs.Halves.{start_back}
use Rattle.inversion.proofs.start_row.Goals as goal

pub returns : goal.returns
returns c =
    let a = c.args in
    start_back a.n a.i _ _ a.a.now a.entries.now _ _ c.requires.1 c.requires.2 c.requires.3 c.row.ensures c.copy_from_slice.ensures.after c.clear.ensures
