use Rattle.std.proofs.Common.{◌≡◌, ◌++◌, [], take, drop}
use Rattle.gate_set.specs.GateSet.{state_in, measured}
use Rattle.gate_set.specs.Models.{model_at, row_at}
use Rattle.gate_set.proofs.Turned.{Turned}
use Rattle.gate_set.proofs.probabilities_under.Given as goal

abbrev pub invariant-loop-k : goal.invariant-loop-k
invariant-loop-k g l = Turned [] (λ k x y. take l.d y ≡ state_in l.d (model_at l.models k).numbers.now) l.initial.x-items l.k l.x-items

abbrev pub invariant-loop-k-2 : goal.invariant-loop-k-2
invariant-loop-k-2 g l = Turned [] (λ k x y. y ≡ measured l.d l.e (model_at l.models k).numbers.now (take l.d (row_at l.states k)) ++ drop l.e x) l.initial.out l.k l.out
