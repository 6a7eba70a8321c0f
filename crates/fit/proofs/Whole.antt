-- The whole fit, from the card's model on. Assumes nothing.
use Rattle.std.proofs.Common.{Ok}
use Prim.Native.Nat.{ℕ, ◌≤◌, ◌<◌}
use mathlib.Core.Path.{◌≡◌, sym, ap, ap₂, subst, ◌∙◌}
use mathlib.Core.List.{List, map, ◌++◌}
use native.Mathlib.Omega.{arith}
use lib.ListN.{length, take, drop, get_or}
use lib.Ieee.{Float}
use Rattle.lists.specs.Fold.{fold}
use Rattle.lists.proofs.Parts.{front-is}
use Rattle.numbers.specs.Slice.{at}
use Rattle.card_layout.specs.declared.Header.{Header}
use Rattle.card_places.specs.Shape.{Shaped}
use Rattle.card_places.proofs.ByKind.{at5, words5}
use Rattle.model_words.specs.Words.{model_numbers, numbers_of}
use Rattle.likelihood.specs.declared.Diagnostics.{Diagnostics}
use Rattle.likelihood.specs.Multinomial.{Likelihood}
use Rattle.descent.specs.declared.GstOptimizerConfig.{GstOptimizerConfig}
use Rattle.descent.specs.Fit.{Job, State, going, Outcome, iterations, coordinates_of, objective_of, next, begin_by, after, finished, fit_by, fit_of}
use Rattle.parameters.specs.Parameters.{config_of, places_of}
use Rattle.parameters.proofs.Places.{length-places}
use Rattle.objective.specs.Job.{job_by, Placed}
use Rattle.objective.specs.Tasks.{job_in}
use Rattle.objective.specs.declared.task.Task.{Task}
use Rattle.objective.proofs.Maps.{length-map}
use Rattle.fit.specs.Outcome.{job_of}

-- the card's likelihood is l
module _ (J : Job) (l : Likelihood) (h : l ≡ J.likelihood J.model) where
  pub fit-by : (o : Outcome) {k : Likelihood} → l ≡ k → o ≡ fit_by J k → o ≡ fit_of J
  unfolding fit_of
  fit-by o e f = f ∙ ap (fit_by J) (sym e ∙ h)

-- the card's model fits, with the diagnostics d
module _ (J : Job) (d : Diagnostics) (h : J.likelihood J.model ≡ Ok d) where
  -- the first point, whose coordinates xs have the objective o
  pub begins : (xs : List Float) (o : Float) → xs ≡ coordinates_of J J.model → o ≡ objective_of J d.log_likelihood xs
      → going (record { coordinates = xs; objective = o; steps = 0; evaluations = 1 }) ≡ begin_by J (Ok d)
  begins xs o a b = rw (b, a)

  -- the steps lead from the first state to s
  pub fit-ends : (t s : State) → t ≡ begin_by J (Ok d) → s ≡ fold (iterations J) (λ i s. next J s) t → finished J d s ≡ fit_of J
  unfolding fit_of after
  fit-ends t s a b =
      ap (finished J d) (b ∙ ap (fold (iterations J) (λ i s. next J s)) (a ∙ ap (begin_by J) (sym h))) ∙ ap (fit_by J) (sym h)

-- a task t, the model of whose card fits, with the diagnostics d
module _ (t : Task) (d : Diagnostics) (h : (job_in t).likelihood (job_in t).model ≡ Ok d) where
  -- from its anchor, which was copied to the front of a room, and whose objective is o, the steps lead to s
  pub fit_leads : (copied room : List Float) (o : Float) (s : State) → copied ≡ t.anchor.now
      → ((s : List ℕ) (h : Header) (ps : List ℕ) → t.anchor.now ≡ map (at (numbers_of s h)) ps → length t.anchor.now ≡ length ps
      → o ≡ objective_of (job_by s h ps t.config) d.log_likelihood t.anchor.now)
      → s ≡ fold (iterations (job_in t)) (λ i s. next (job_in t) s)
      (going (record { coordinates = take (length t.places.now) (copied ++ drop (length t.places.now) room); objective = o; steps = 0; evaluations = 1 }))
      → finished (job_in t) d s ≡ fit_of (job_in t)
  fit_leads copied room o s a b e =
      let J = job_in t in
      let k = t.records.now.card in
      let n = length-map (at (numbers_of k.bytes.now k.header)) t.places.now in
      let f = front-is (length t.places.now) copied room (coordinates_of J J.model) (a ∙ t.anchored) n in
      fit-ends J d h _ s
      (begins J d h _ o f
      (b k.bytes.now k.header t.places.now t.anchored (ap length t.anchored ∙ n) ∙ ap (λ (xs : List Float). objective_of J d.log_likelihood xs) (t.anchored ∙ sym f)))
      e

-- the controls of a fit card
pub controls-in : (s : List ℕ) (h : Header) → Shaped s h → h.kind ≡ 5 → 72 ≤ length s
controls-in s h w k = omega (arith, w.length, words5 h k, at5 h k)

module _ (s : List ℕ) (h : Header) (k : h.kind ≡ 5) (few : h.coordinates ≤ 64) (i : (i : ℕ) → i < h.coordinates → get_or (places_of s h) i 0 < model_numbers h) where
  -- the places ps are those of its coordinates
  pub placed_by : (ps : List ℕ) → ps ≡ places_of s h → Placed h ps
  placed_by ps e =
      subst (Placed h) (sym e)
      (record { kind = omega arith; few = omega (arith, length-places s h); inside = λ j l. i j (omega (arith, length-places s h)) })

-- the job of a card by its places and controls
pub job-by : (s : List ℕ) (h : Header) (ps : List ℕ) (c : GstOptimizerConfig) → ps ≡ places_of s h → c ≡ config_of s → job_by s h ps c ≡ job_of s h
job-by s h ps c a b = ap₂ (job_by s h) a b
