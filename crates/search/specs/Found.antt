-- What a search leaves beside its answer.
use Rattle.std.specs.Prelude.{Err, None, Some, Ok, ◌<◌, ◌≡◌, List, Float}
use Rattle.descent.specs.Fit.{Search, Job, trial, backtracks}

-- where a trial was found, it is one of the B, and t holds its numbers
abbrev pub FoundAt : Job → List Float → List Float → List Float → Search → Type 0
FoundAt J xs g t (Ok None) = Unit {0}
FoundAt J xs g t (Ok (Some a)) = (t ≡ trial J xs g a.trial) × (a.trial < backtracks J)
FoundAt J xs g t (Err r) = Unit {0}
