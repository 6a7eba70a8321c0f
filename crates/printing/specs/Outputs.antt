-- What an output has done with the text that it was given.
use Rattle.std.specs.Prelude.{ℕ, List, IsNone, Some, ◌≡◌}
use Rattle.std.specs.declared.option.Option.{Option}
use Rattle.std.specs.Io.KnownBytes.{Appends}
use Rattle.std.specs.declared.io.Error.{Error}
use Rattle.printing.specs.declared.output.Output.{Output}

abbrev pub writer_of : {W : Type 0} → Output W → W
writer_of o = o.writer

-- the error of the write that failed, if one did
abbrev pub error_of : {W : Type 0} → Output W → Option Error
error_of o = o.error

-- no write has failed
abbrev pub IsWhole : {W : Type 0} → Output W → Type 0
IsWhole o = IsNone (error_of o)

-- where no write has failed by p, none had by o, and in between the writer was given bs and nothing else; where one had failed by o, nothing has changed
pub record Writes {W : Type 0} (contents : W → Option (List ℕ)) (o p : Output W) (bs : List ℕ) : Type 0 where
  pub whole : IsWhole p → IsWhole o
  pub text : IsWhole p → Appends (contents (writer_of o)) (contents (writer_of p)) bs
  pub kept : (e : Error) → error_of o ≡ Some e → p ≡ o
