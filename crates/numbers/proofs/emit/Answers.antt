use native.Mathlib.Omega.{arith}
use Rattle.lists.proofs.Filling.{fill_none, fill_more, fill-front}
use Rattle.numbers.specs.Slice.{words_of}
use Rattle.numbers.proofs.emit.Goals as goal

pub loop-i-init : goal.loop-i-init
loop-i-init c = fill_none _ _

pub loop-i-preserved : goal.loop-i-preserved
loop-i-preserved c = fill_more _ _ _ _ _ (omega arith) c.loop-i.invariant c.word_of.ensures

pub returns : goal.returns
unfolding words_of
returns c = fill-front _ _ _ c.loop-i.i _ (omega arith) (omega arith) c.loop-i.invariant
