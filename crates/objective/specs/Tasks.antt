-- A fit's task, as the code keeps it, and the job that it stands for.
use Rattle.std.specs.Prelude.{List, Float}
use Rattle.diagnostics.specs.Diagnostics.{Roomy}
use Rattle.descent.specs.Fit.{Job}
use Rattle.objective.specs.declared.task.Task.{Task}
use Rattle.objective.specs.Job.{job_by}

abbrev pub job_in : Task → Job
job_in t = job_by t.records.now.card.bytes.now t.records.now.card.header t.places.now t.config

-- room for its models
abbrev pub RoomFor : Task → List Float → List Float → Type 0
RoomFor t model columns = Roomy t.records.now.card.header model columns
