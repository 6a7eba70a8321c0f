-- The end of a fit, as the code keeps it: its job, its point and its state.
use Rattle.std.specs.Prelude.{length}
use Rattle.descent.specs.Fit.{Job, Point, State}
use Rattle.objective.specs.Tasks.{job_in}
use Rattle.steps.specs.Running.{point_of, state_by}
use Rattle.fit.specs.declared.Ending.{Ending}

abbrev pub job_at : Ending → Job
job_at e = job_in e.task.now

abbrev pub point_at : Ending → Point
point_at e = point_of (length e.task.now.places.now) e.at.now

abbrev pub state_at : Ending → State
state_at e = state_by e.at.now.stop (point_at e)
