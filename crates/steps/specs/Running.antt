-- A running fit, as the code keeps it, and what it stands for.
use Rattle.std.specs.Prelude.{Option, Some, None, Result, Ok, Err, ℕ, ◌+◌, ◌≤◌, ◌<◌, ◌≡◌, Bool, true, false, cond, List, take, Float}
use Rattle.lists.specs.Fold.{fold}
use Rattle.refusal.specs.declared.Refusal.{Refusal}
use Rattle.descent.specs.declared.GstTermination.{GstTermination}
use Rattle.descent.specs.declared.GstTermination.TheVariants.{GradientTolerance, ObjectiveTolerance, MaximumIterations, LineSearchStalled}
use Rattle.descent.specs.Fit.{Job, slopes, unusable, Point, State, going, stopped, refused, iterations, gradient, norm, step, next}
use Rattle.steps.specs.declared.Running.{Running}

-- the point of a running fit with n coordinates, and its state
abbrev pub point_of : ℕ → Running → Point
point_of n r = record { coordinates = take n r.coordinates; objective = r.objective; steps = r.steps; evaluations = r.evaluations }

abbrev pub state_by : Option GstTermination → Point → State
state_by None p = going p
state_by (Some k) p = stopped k p

abbrev pub state_of : ℕ → Running → State
state_of n r = state_by r.stop (point_of n r)

-- what a point's gradient gives: its norm, or why it is unusable
abbrev pub Slope : Type 0
Slope = Result Float Refusal

-- what was found of the gradient at a point: its numbers g with their norm, or that it is unusable
abbrev pub Sloped : Job → Point → List Float → Slope → Type 0
Sloped J p g (Ok z) = (gradient J p.coordinates p.objective ≡ slopes g) × (z ≡ norm J g)
Sloped J p g (Err x) = gradient J p.coordinates p.objective ≡ unusable x

-- z is the norm of the gradient at the point
pub record Steep (J : Job) (p : Point) (z : Float) : Type 0 where
  pub slope : List Float
  pub sloped : Sloped J p slope (Ok z)

-- the reasons for which a fit stops at a gradient that it has worked out there
abbrev pub keeps_norm : GstTermination → Bool
keeps_norm GradientTolerance = true
keeps_norm ObjectiveTolerance = false
keeps_norm MaximumIterations = false
keeps_norm LineSearchStalled = true

-- then it keeps the gradient's norm, so that it need not be worked out again
abbrev pub Normed : Job → Point → Float → Option GstTermination → Type 0
Normed J p z None = Unit {0}
Normed J p z (Some k) = keeps_norm k ≡ true → Steep J p z

-- a running fit whose counts have room for a step more
pub record Underway (r : Running) : Type 0 where
  pub steps : r.steps < 65536
  pub evaluations : r.evaluations < 4294967296

-- q is where the step from r leads, with n coordinates
pub record Follows (J : Job) (n : ℕ) (r q : Running) : Type 0 where
  pub state : state_of n q ≡ step J (point_of n r)
  pub steps : q.steps ≤ r.steps + 1
  pub evaluations : q.evaluations ≤ r.evaluations + 383
  pub normed : Normed J (point_of n q) q.norm q.stop

-- or the step refuses the fit
abbrev pub Led : Job → ℕ → Running → Result Running Refusal → Type 0
Led J n r (Ok q) = Follows J n r q
Led J n r (Err x) = refused x ≡ step J (point_of n r)

-- q is where the steps from r lead: as many as there may be, unless the fit stops before
pub record Ran (J : Job) (n : ℕ) (r q : Running) : Type 0 where
  pub state : state_of n q ≡ fold (iterations J) (λ i s. next J s) (state_of n r)
  pub underway : Underway q
  pub normed : Normed J (point_of n q) q.norm q.stop

-- or one of them refuses the fit
abbrev pub Ended : Job → ℕ → Running → Result Running Refusal → Type 0
Ended J n r (Ok q) = Ran J n r q
Ended J n r (Err x) = refused x ≡ fold (iterations J) (λ i s. next J s) (state_of n r)

-- the same point with n evaluations more and its gradient's norm, where the fit stops
abbrev pub rest_of : Running → ℕ → Float → GstTermination → Running
rest_of r n z k = record { coordinates = r.coordinates; objective = r.objective; norm = z; steps = r.steps; evaluations = r.evaluations + n; stop = Some k }

-- an accepted step to the coordinates t, of objective v, after n evaluations more; b says whether the drop passes its test
abbrev pub accepted_of : Running → List Float → Float → ℕ → Bool → Running
accepted_of r t v n b =
    record { coordinates = t; objective = v; norm = r.norm; steps = r.steps + 1; evaluations = r.evaluations + n; stop = cond b (Some ObjectiveTolerance) None }
