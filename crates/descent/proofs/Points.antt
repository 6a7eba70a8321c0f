-- Every sheet of a fit is that of its points. Assumes nothing.
use Rattle.std.proofs.Common.{Err, Ok}
use Rattle.likelihood.specs.declared.Unfit.TheVariants.{Probabilities, Refused}
use Prim.Native.Nat.{ℕ, zero, suc, ◌≤◌, ◌<◌}
use mathlib.Core.Path.{◌≡◌, refl, sym, ap, ap₂, subst, subst₂, ◌∙◌}
use mathlib.Core.Bool.{Bool, true, false, cond}
use mathlib.Core.List.{List, []}
use native.Mathlib.Omega.{arith}
use lib.ListN.{get_or}
use lib.Ieee.{Float}
use Rattle.lists.specs.Build.{build}
use Rattle.lists.specs.Fold.{fold}
use Rattle.lists.proofs.Filling.{length-build, get_or-build}
use Rattle.booleans.proofs.Joined.{clash}
use Rattle.refusal.specs.declared.Refusal.{Refusal}
use Rattle.likelihood.specs.declared.Diagnostics.{Diagnostics}
use Rattle.likelihood.specs.Multinomial.{Likelihood}
use Rattle.descent.specs.declared.GstTermination.{GstTermination}
use Rattle.descent.specs.declared.GstTermination.TheVariants.{GradientTolerance, ObjectiveTolerance, MaximumIterations, LineSearchStalled}
use Rattle.descent.specs.Fit.{Job, Point, State, going, stopped, refused, Slopes, slopes, unusable, iterations, coordinates_of, gradient, flat, small, counted, step, next, begin_by, after, reason_at, closed_by, closed, finished, fit_by, fit_of}
use Rattle.descent.specs.Claim.{Sound, Accepts, BornOut, DropTo, rank, Claimed, evaluation, objective_at, objective_in, norm_by, refused_trial}
use Rattle.descent.proofs.Laws.{split, one_more}
use Rattle.descent.proofs.Models.{put-length, put_other, own, own-evaluation, value-diagnosed}
use Rattle.descent.proofs.Steps.{model_at, flat_at, Good, Moves, Stepped, moved, dropped, level, stuck, gone, same-gradient, same-flat, stepped}

module _ (J : Job) where
  abbrev model_in : State → List Float
  model_in (going p) = model_at J p
  model_in (stopped r p) = model_at J p
  model_in (refused r) = []

  -- the model after k steps
  abbrev point : ℕ → List Float
  point k = model_in (after J k)

  -- n accepted steps lead to p
  record Trace (n : ℕ) (p : Point) : Type 0 where
    pub good : Good J p
    pub count : p.steps ≡ n
    pub here : point n ≡ model_at J p
    pub each : (k : ℕ) → k < n → Accepts J (point k) (point (suc k))
    pub tilted : (k : ℕ) → k < n → flat_at J (point k) ≡ false

  -- the drops of the first n steps fail the test
  abbrev Quiet : ℕ → Type 0
  Quiet n = (k : ℕ) → k < n → small J (objective_at J (point k)) (objective_at J (point (suc k))) ≡ false

  -- what n steps have come to
  data Reached (n : ℕ) : State → Type 0 where
    on : (p : Point) → Trace n p → Quiet n → Reached n (going p)
    fell : (p : Point) (k : ℕ) → k < n → Trace (suc k) p → Quiet k → DropTo J point (suc k) → Reached n (stopped ObjectiveTolerance p)
    flattened : (p : Point) (k : ℕ) → k < n → Trace k p → Quiet k → flat_at J (point k) ≡ true → Reached n (stopped GradientTolerance p)
    stalled : (p : Point) (k : ℕ) → k < n → Trace k p → Quiet k → flat_at J (point k) ≡ false → BornOut J point k LineSearchStalled → Reached n (stopped LineSearchStalled p)
    left : (r : Refusal) → Reached n (refused r)

  -- ---- the steps

  -- the same point, more evaluations counted
  recount : {n : ℕ} {p : Point} (k : ℕ) → Trace n p → Trace n (counted J k p)
  recount k t = record { good = record { read = t.good.read; value = t.good.value }; count = t.count; here = t.here; each = t.each; tilted = t.tilted }

  module _ (n : ℕ) (p : Point) (t : Trace n p) where
    -- the step from p on, where point n + 1 is q's model
    extend : (q : Point) → Moves J p q → point (suc n) ≡ model_at J q → Trace (suc n) q
    extend q mv e = record {
      good = mv.good;
      count = mv.count ∙ ap suc t.count;
      here = e;
      each = one_more n t.each (subst₂ (Accepts J) (sym t.here) (sym e) mv.accepts);
      tilted = one_more n t.tilted (ap (flat_at J) t.here ∙ mv.tilted);
    }

    the-drop : (q : Point) → Moves J p q → point (suc n) ≡ model_at J q → small J (objective_at J (point n)) (objective_at J (point (suc n))) ≡ small J p.objective q.objective
    the-drop q mv e = ap₂ (small J) (ap (objective_at J) t.here ∙ ap objective_in t.good.value) (ap (objective_at J) e ∙ ap objective_in mv.good.value)

    advance : (u : State) → after J (suc n) ≡ u → Quiet n → Stepped J p u → Reached (suc n) u
    advance u e h (moved q mv f) = on q (extend q mv (ap model_in e)) (one_more n h (the-drop q mv (ap model_in e) ∙ f))
    advance u e h (dropped q mv f) = fell q n (omega arith) (extend q mv (ap model_in e)) h (the-drop q mv (ap model_in e) ∙ f)
    advance u e h (level k f) = flattened (counted J k p) n (omega arith) (recount k t) h (ap (flat_at J) t.here ∙ f)
    advance u e h (stuck k f r) =
        stalled (counted J k p) n (omega arith) (recount k t) h (ap (flat_at J) t.here ∙ f)
        (λ j l. ap (λ (m : List Float). refused_trial J m j) t.here ∙ r j l)
    advance u e h (gone r) = left r

  start : Sound J → (L : Likelihood) → J.likelihood J.model ≡ L → after J 0 ≡ begin_by J L → Reached 0 (begin_by J L)
  start s (Ok d) l e =
      on _
      (record {
        good = record {
          read = ap (coordinates_of J) (own J);
          value = ap (evaluation J) (own J) ∙ own-evaluation J (Ok d) s.finite l;
        };
        count = refl;
        here = ap model_in e;
        each = λ k h. absurd (omega arith);
        tilted = λ k h. absurd (omega arith);
      })
      (λ k h. absurd (omega arith))
  start s (Err Probabilities) l e = left _
  start s (Err (Refused r)) l e = left r

  forward : Sound J → (n : ℕ) {u : State} → after J (suc n) ≡ next J u → Reached n u → Reached (suc n) (next J u)
  forward s n e (on p t h) = advance n p t (step J p) e h (stepped J p t.good s)
  forward s n e (fell p k l t h d) = fell p k (omega arith) t h d
  forward s n e (flattened p k l t h f) = flattened p k (omega arith) t h f
  forward s n e (stalled p k l t h f r) = stalled p k (omega arith) t h f r
  forward s n e (left r) = left r

  reached : Sound J → (n : ℕ) → Reached n (after J n)
  unfolding after fold
  reached s zero = start s (J.likelihood J.model) refl refl
  reached s (suc n) = forward s n refl (reached s n)

  first-point : (d : Diagnostics) → J.likelihood J.model ≡ Ok d → point 0 ≡ J.model
  unfolding after fold
  first-point d l = ap (λ (L : Likelihood). model_in (begin_by J L)) l ∙ own J

  listed-point : (n k : ℕ) → k ≤ n → get_or (build (suc n) point) k [] ≡ point k
  listed-point n k h = get_or-build [] (suc n) k point (omega arith)

  -- ---- the reasons

  -- a drop that the quiet rules out
  no_drop : (k n : ℕ) → k ≤ n → Quiet n → DropTo J point k → ⊥
  no_drop zero n l h d = d
  no_drop (suc k) n l h d = clash _ d (h k l)

  -- n accepted steps end at p: the reason r is true there, none that the Rust prefers is, and none was before
  record Ends (n : ℕ) (p : Point) (r : GstTermination) : Type 0 where
    pub trace : Trace n p
    pub allowed : n ≤ iterations J
    pub borne_out : BornOut J point n r
    pub in_order : (q : GstTermination) → rank q < rank r → BornOut J point n q → ⊥
    pub not_before : (k : ℕ) (q : GstTermination) → k < n → BornOut J point k q → ⊥

  last-rank : (r : GstTermination) → rank r ≤ 3
  last-rank ObjectiveTolerance = omega arith
  last-rank GradientTolerance = omega arith
  last-rank MaximumIterations = omega arith
  last-rank LineSearchStalled = omega arith

  -- the drops of the first m steps fail the test: they are all, but for the last where that is the reason
  ends : (n m : ℕ) (p : Point) (r : GstTermination) → Trace n p → n ≤ iterations J → Quiet m → n ≤ suc m → BornOut J point n r
      → (0 < rank r → n ≤ m) → (1 < rank r → flat_at J (point n) ≡ false) → (2 < rank r → n < iterations J) → Ends p.steps p r
  ends n m p r t i h l b before-drop before-flat before-limit =
      subst (λ (k : ℕ). Ends k p r) (sym t.count) (record { trace = t; allowed = i; borne_out = b; in_order = better; not_before = earlier })
    where
      better : (q : GstTermination) → rank q < rank r → BornOut J point n q → ⊥
      better ObjectiveTolerance u c = no_drop n m (before-drop u) h c
      better GradientTolerance u c = clash _ c (before-flat u)
      better MaximumIterations u c = omega (arith, before-limit u)
      better LineSearchStalled u c = omega (arith, last-rank r)

      earlier : (k : ℕ) (q : GstTermination) → k < n → BornOut J point k q → ⊥
      earlier k ObjectiveTolerance u c = no_drop k m (omega arith) h c
      earlier k GradientTolerance u c = clash _ c (t.tilted k u)
      earlier k MaximumIterations u c = omega arith
      earlier k LineSearchStalled u c = let a = t.each k u in clash _ (c a.trial_number a.allowed) a.stands

  -- two sequences of points that agree up to n
  module _ (f g : ℕ → List Float) (n : ℕ) (e : (k : ℕ) → k ≤ n → f k ≡ g k) where
    carry : (k : ℕ) (r : GstTermination) → k ≤ n → BornOut J f k r → BornOut J g k r
    carry k GradientTolerance l b = subst (λ (m : List Float). flat_at J m ≡ true) (e k l) b
    carry zero ObjectiveTolerance l b = b
    carry (suc k) ObjectiveTolerance l b = subst₂ (λ (m o : List Float). small J (objective_at J m) (objective_at J o) ≡ true) (e k (omega arith)) (e (suc k) l) b
    carry k MaximumIterations l b = b
    carry k LineSearchStalled l b = λ j i. subst (λ (m : List Float). refused_trial J m j ≡ true) (e k l) (b j i)

  -- ---- the sheet

  module _ (d : Diagnostics) (l : J.likelihood J.model ≡ Ok d) where
    closing : (r : GstTermination) (p : Point) → ((g : List Float) → gradient J p.coordinates p.objective ≡ slopes g → Ends p.steps p (reason_at r (flat J g))) → Claimed J (closed J d r p)
    unfolding closed
    closing r p f = go (gradient J p.coordinates p.objective) refl
      where
        go : (G : Slopes) → gradient J p.coordinates p.objective ≡ G → Claimed J (closed_by J d r p G)
        go (slopes g) e =
            let n = p.steps in
            let z = f g e in
            let t = z.trace in (
              build (suc n) point,
              record {
                number_of = length-build (suc n) point;
                starts = listed-point n 0 (omega arith) ∙ first-point d l;
                ends = listed-point n n (omega arith) ∙ t.here;
                each = λ k u. subst₂ (Accepts J) (sym (listed-point n k (omega arith))) (sym (listed-point n (suc k) u)) (t.each k u);
                allowed = z.allowed;
                keeps = λ k q. put_other J.places p.coordinates J.model k q;
                as_long = put-length J.places p.coordinates J.model;
                initially = l;
                finally = value-diagnosed J (model_at J p) p.objective t.good.value;
                afresh = t.good.value;
                steepness = ap (norm_by J) (same-gradient J p t.good ∙ e);
                borne_out = carry point _ n (λ k u. sym (listed-point n k u)) n (reason_at r (flat J g)) (omega arith) z.borne_out;
                in_order = λ q u c. z.in_order q u (carry _ point n (listed-point n) n q (omega arith) c);
                not_before = λ k q u c. z.not_before k q u (carry _ point n (listed-point n) k q (omega arith) c);
              },
            )
        go (unusable x) e = tt

    finishing : {u : State} → Reached (iterations J) u → Claimed J (finished J d u)
    finishing (on p t h) =
        closing MaximumIterations p (λ g e.
        let n = iterations J in
        let f : flat_at J (point n) ≡ flat J g = ap (flat_at J) t.here ∙ same-flat J p t.good g e in
        split (λ (b : Bool). Ends p.steps p (cond b GradientTolerance MaximumIterations)) (flat J g)
        (λ b. ends n n p GradientTolerance t (omega arith) h (omega arith) (f ∙ b) (λ _. omega arith) (λ u. absurd (omega arith)) (λ u. absurd (omega arith)))
        (λ b. ends n n p MaximumIterations t (omega arith) h (omega arith) refl (λ _. omega arith) (λ _. f ∙ b) (λ u. absurd (omega arith))))
    finishing (fell p k i t h b) =
        closing ObjectiveTolerance p (λ g e. ends (suc k) k p ObjectiveTolerance t i h (omega arith) b (λ u. absurd (omega arith)) (λ u. absurd (omega arith)) (λ u. absurd (omega arith)))
    finishing (flattened p k i t h b) =
        closing GradientTolerance p (λ g e. ends k k p GradientTolerance t (omega arith) h (omega arith) b (λ _. omega arith) (λ u. absurd (omega arith)) (λ u. absurd (omega arith)))
    finishing (stalled p k i t h f b) =
        closing LineSearchStalled p (λ g e. ends k k p LineSearchStalled t (omega arith) h (omega arith) b (λ _. omega arith) (λ _. f) (λ _. i))
    finishing (left r) = tt

-- every sheet of a fit has the claim
pub claimed : (J : Job) → Sound J → Claimed J (fit_of J)
unfolding fit_of
claimed J s = go (J.likelihood J.model) refl
  where
    go : (L : Likelihood) → J.likelihood J.model ≡ L → Claimed J (fit_by J L)
    go (Ok d) l = finishing J d l (reached J s (iterations J))
    go (Err Probabilities) l = tt
    go (Err (Refused r)) l = tt
