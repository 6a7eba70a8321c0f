-- Water filling (Smolin, Gambetta and Smith 2012): of all lists of probabilities the one nearest to a list of eigenvalues. The largest stay above zero, each
-- less by the same amount, so that they sum to one; the others become zero. In float operations as the Rust's `project_density_with_tolerance` has them.
use Rattle.std.specs.Prelude.{Bool, cond, List, ℕ, ◌+◌, length, pos, Float}
use Rattle.std.specs.Float.Ieee.{lt, of_int}
use Rattle.std.specs.Float.{binary64}
use Rattle.lists.specs.Build.{build}
use Rattle.lists.specs.Fold.{fold}
use Rattle.numbers.specs.Number.{zero_f, minus_zero_f, one_f, ◌+ᶠ◌, ◌-ᶠ◌, ◌/ᶠ◌, max}
use Rattle.numbers.specs.Slice.{at}
use Rattle.sorting.specs.Sort.{descending}

-- what each of k numbers has to lose, where their sum is to become one
unfoldable pub excess : Float → ℕ → Float
excess sum k = (sum -ᶠ one_f) /ᶠ of_int binary64 (pos k)

-- the first k numbers of u added to s, one by one
unfoldable pub sum_from : Float → List Float → ℕ → Float
sum_from s u k = fold k (λ i sum. sum +ᶠ at u i) s

-- number i of the descending list u stays above zero where it and those before it lose their excess
unfoldable pub stays : List Float → ℕ → Bool
stays u i = lt (excess (sum_from zero_f u (i + 1)) (i + 1)) (at u i)

-- how many of the largest stay: up to the last one that does
unfoldable pub active_count : List Float → ℕ
active_count u = fold (length u) (λ i active. cond (stays u i) (i + 1) active) 0

-- what the active ones lose; where none is active, (-0 - 1) / 0, which is -infinity
unfoldable pub threshold : List Float → Float
threshold u = excess (sum_from minus_zero_f u (active_count u)) (active_count u)

-- each number of w less t, and zero where that is below it
unfoldable pub lowered : Float → List Float → List Float
lowered t w = build (length w) (λ k. max (at w k -ᶠ t) zero_f)

-- the probabilities, in the order of w
unfoldable pub filling : List Float → List Float
filling w = lowered (threshold (descending w)) w
