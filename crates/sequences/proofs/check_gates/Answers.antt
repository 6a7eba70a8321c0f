use Rattle.std.proofs.Common.{ap, ◌∙◌}
use Rattle.gate_set.specs.GateSet.{present_of}
use Rattle.sequences.proofs.check_gates.Goals as goal

pub returns : goal.returns
returns c = c.check_sequence.ensures ∙ ap (present_of c.args.gates) c.indices-room.ensures.1
