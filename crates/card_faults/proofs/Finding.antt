-- What `find_map` over the numbers below n finds. Assumes nothing.
use Rattle.std.proofs.Common.{◌≡◌, ℕ, ◌+◌, ◌-◌, ◌<◌, ◌≤◌, ap₂, Option, None, Some, MatchOption, IfSome, IsSomeAnd, IsTrue, arith, ap, subst, ◌∙◌}
use Rattle.std.specs.Option.{option_map}
use Rattle.std.specs.declared.ops.Range.{Range}
use Rattle.std.specs.Iterator.Runs.{SomeRun, AllItemsGive, IsFirstToGive}
use Rattle.std.proofs.iter.Yields.{nat_range_steps}
use Rattle.std.proofs.iter.runs.Sources.{range_runs}
use denote.Param.Members.{Mut, Called}

known : (o : Option ℕ) (k : ℕ) (P Q : ℕ → Type 0) → ((x : ℕ) → P x → Q x) → option_map (λ y. y) o ≡ Some k → IfSome o P → Q k
known None k P Q f e h = absurd (cc)
known (Some x) k P Q f e h = let i : x ≡ k = cc in subst Q i (f x h)

known_and : (o : Option ℕ) (k : ℕ) (P Q : ℕ → Type 0) → ((x : ℕ) → P x → Q x) → option_map (λ y. y) o ≡ Some k → IsSomeAnd o P → Q k
known_and None k P Q f e h = absurd h
known_and (Some x) k P Q f e h = let i : x ≡ k = cc in subst Q i (f x h)

module _ {F : Type 0} {g : Mut F (ℕ × Unit {0}) (Option ℕ)} (f : F) (part : ℕ → Option ℕ) (n : ℕ) (s : Range ℕ) where
  pub first_from_find_map : (r : Option ℕ)
      → SomeRun nat_range_steps s (λ p. MatchOption r (IsTrue p.whole × AllItemsGive p g f None) (λ y. (i : ℕ) × (i < p.len) × (p.len ≡ i + 1) × IsFirstToGive p g f (Some y) None i))
      → s.start ≡ 0 → s.end ≡ n
      → ((x : ℕ) (o : Option ℕ) (q : F) → Called g f (x, tt) o q → (q ≡ f) × (part x ≡ o))
      → MatchOption r ((k : ℕ) → k < n → part k ≡ None) (λ y. (i : ℕ) × (i < n) × (part i ≡ Some y) × ((k : ℕ) → k < i → part k ≡ None))
  first_from_find_map None w a b calls =
      let up = range_runs w.0 w.0.seen in
      let long : w.0.len ≡ n = up.1 w.2.0 ∙ ap₂ ◌-◌ (ap (λ (t : Range ℕ). t.end) w.1 ∙ b) (ap (λ (t : Range ℕ). t.start) w.1 ∙ a) ∙ omega arith in
      λ k d.
      let at : option_map (λ (y : ℕ). y) (w.0.at k) ≡ Some k = up.3 k (omega (arith, long)) ∙ ap Some (ap (λ (t : Range ℕ). t.start + k) w.1 ∙ omega (arith, a)) in
      known (w.0.at k) k (λ x. Called g f (x, tt) None f) (λ x. part x ≡ None) (λ x h. (calls x None f h).1) at (w.2.1 (λ x o q h. (calls x.0 o q h).0) k)
  first_from_find_map (Some y) w a b calls =
      let up = range_runs w.0 w.0.seen in
      let few : w.0.len ≤ n = omega (arith, up.0, ap (λ (t : Range ℕ). t.end) w.1 ∙ b, ap (λ (t : Range ℕ). t.start) w.1 ∙ a) in
      let at : (k : ℕ) → k < w.0.len → option_map (λ (y : ℕ). y) (w.0.at k) ≡ Some k = λ k d. up.3 k d ∙ ap Some (ap (λ (t : Range ℕ). t.start + k) w.1 ∙ omega (arith, a)) in
      let first = w.2.3 (λ x o q h. (calls x.0 o q h).0) in
      let i = w.2.0 in (
        i,
        omega (arith, w.2.1, few),
        known_and (w.0.at i) i (λ x. Called g f (x, tt) (Some y) f) (λ x. part x ≡ Some y) (λ x h. (calls x (Some y) f h).1) (at i w.2.1) first.0,
        λ k d. known_and (w.0.at k) k (λ x. Called g f (x, tt) None f) (λ x. part x ≡ None) (λ x h. (calls x None f h).1) (at k (omega (arith, d, w.2.1))) (first.1 k d),
      )
