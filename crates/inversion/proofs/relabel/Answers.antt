use Rattle.inversion.proofs.Places.{places_same}
use Rattle.inversion.proofs.relabel.Goals as goal

pub returns-then-p-k : goal.returns-then-p-k
returns-then-p-k c =
    let a = c.args in
    places_same a.k a.p a.places.now c.if-p-k.true
