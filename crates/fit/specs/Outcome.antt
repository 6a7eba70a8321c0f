-- What a fit hands back, and the job that a fit card gives.
use Rattle.std.specs.Prelude.{Result, Ok, Err, ℕ, ◌+◌, ◌*◌, List, Float}
use Rattle.refusal.specs.declared.Refusal.{Refusal}
use Rattle.card_layout.specs.declared.Header.{Header}
use Rattle.likelihood.specs.declared.Diagnostics.{Diagnostics}
use Rattle.descent.specs.declared.GstTermination.{GstTermination}
use Rattle.descent.specs.Fit.{Job, Point, Fitted, Outcome, fitted, unfitted, size, model_of, diagnostics_in}
use Rattle.parameters.specs.Parameters.{config_of, places_of}
use Rattle.objective.specs.Job.{job_by}
use Rattle.fit.specs.declared.Shown.{Shown}

-- the job of a fit card
abbrev pub job_of : List ℕ → Header → Job
job_of s h = job_by s h (places_of s h) (config_of s)

-- what a sheet shows beside its model of a fit that stops at p for the reason r, n evaluations later, with a gradient of norm z and the diagnostics f
abbrev pub shown_by : Diagnostics → GstTermination → Float → Point → ℕ → Diagnostics → Shown
shown_by d r z p n f =
    record { stop = r; steps = p.steps; evaluations = p.evaluations + n; initial = d; final_fit = f; objective = p.objective; norm = z }

abbrev pub shown_of : Job → Diagnostics → GstTermination → Float → Point → Shown
shown_of J d r z p = shown_by d r z p (2 * size J) (diagnostics_in (J.likelihood (model_of J p.coordinates)))

-- what is shown, with the model's numbers
abbrev pub fitted_of : Shown → List Float → Fitted
fitted_of f m =
    record { stop = f.stop; steps = f.steps; evaluations = f.evaluations; initial = f.initial; final = f.final_fit; objective = f.objective; norm = f.norm; model = m }

-- what a sheet shows, or why the fit is refused
abbrev pub Fitting : Type 0
Fitting = Result Shown Refusal

-- an answer with the model's numbers that it left
abbrev pub outcome_of : Fitting → List Float → Outcome
outcome_of (Ok f) m = fitted (fitted_of f m)
outcome_of (Err r) m = unfitted r
