-- What a sheet shows of a stopping reason (document 01).
use Rattle.std.specs.Prelude.{ℕ, Bool, true, false}
use Rattle.descent.specs.declared.GstTermination.{GstTermination}
use Rattle.descent.specs.declared.GstTermination.TheVariants.{GradientTolerance, ObjectiveTolerance, MaximumIterations, LineSearchStalled}

-- R, document 01's number of a stopping reason
abbrev pub stop_number : GstTermination → ℕ
stop_number GradientTolerance = 1
stop_number ObjectiveTolerance = 2
stop_number MaximumIterations = 3
stop_number LineSearchStalled = 4

-- V, the Rust's `converged`: a tolerance stopped the fit, and not a limit or a stalled search
abbrev pub converged : GstTermination → Bool
converged GradientTolerance = true
converged ObjectiveTolerance = true
converged MaximumIterations = false
converged LineSearchStalled = false
