-- The kinds of a card and of a coordinate, under document 01's numbers.
use Rattle.std.specs.Prelude.{◌≡◌, ℕ, ◌≤◌, ◌<◌, true, Result, MatchResult}
use Rattle.card_layout.specs.declared.kind.Kind.{Kind}
use Rattle.card_layout.specs.declared.kind.Kind.TheVariants.{Density, Projected, Process, Physical, Fit, Model, Diagnostics}
use Rattle.card_layout.specs.declared.kind.CoordinateKind.{CoordinateKind}
use Rattle.card_layout.specs.declared.kind.CoordinateKind.TheVariants.{State, Effect, Gate}
use Rattle.card_layout.specs.declared.kind.UnknownKind.{UnknownKind}
use Rattle.card_layout.specs.Limits.{unknown}

abbrev pub number_of : Kind → ℕ
number_of Density = 1
number_of Projected = 2
number_of Process = 3
number_of Physical = 4
number_of Fit = 5
number_of Model = 6
number_of Diagnostics = 7

-- the kind with this number, or that no kind has it
abbrev pub Numbers : ℕ → Result Kind UnknownKind → Type 0
Numbers k r = MatchResult r (λ kind. number_of kind ≡ k) (λ e. (e.0 ≡ k) × (unknown k ≡ true))

abbrev pub coordinate_number_of : CoordinateKind → ℕ
coordinate_number_of State = 1
coordinate_number_of Effect = 2
coordinate_number_of Gate = 3

-- the same of a coordinate: no kind has 0, nor a number above 3
abbrev pub CoordinateNumbers : ℕ → Result CoordinateKind UnknownKind → Type 0
CoordinateNumbers k r = MatchResult r (λ kind. coordinate_number_of kind ≡ k) (λ e. (e.0 ≡ k) × (1 ≤ k → 3 < k))
