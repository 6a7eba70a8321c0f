use Rattle.lists.proofs.Filling.{Filled, mapped}
use Rattle.inversion.specs.Kept.{relabelled}
use Rattle.inversion.proofs.relabel.Given as goal

abbrev pub invariant-loop-place : goal.invariant-loop-place
invariant-loop-place l = Filled (mapped 0 (λ _. relabelled l.k l.p) l.initial.places) l.initial.places l.place-index l.places
