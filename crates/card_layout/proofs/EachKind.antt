-- The kinds, one by one, and what word 0's rule says of each field. Assumes nothing.
use Prim.Native.Nat.{ℕ, zero, suc, ◌≤◌, ◌<◌, zero-le}
use mathlib.Core.Bool.{true, false, ◌||◌, ◌&&◌}
use mathlib.Core.Path.{◌≡◌, refl, sym, ap, ◌∙◌}
use mathlib.Core.Logic.{◌⊎◌, inl, inr, ⊎_elim}
use native.Mathlib.Nat.{eq-or-lt_of_le}
use native.Mathlib.Omega.{arith}
use lib.Arith.{le-zero}
use borrow.Author.Tests.{ne_eqb, eq-eqb, lt-ltb, le-ltb, ltb-true, ltb-false, eqb-false}
use lib.Dec.{ltb, eqb, lit≤}
use Rattle.booleans.proofs.Joined.{neither, second-not}
use Rattle.card_layout.specs.declared.Header.{Header}
use Rattle.card_layout.specs.declared.kind.Kind.{Kind}
use Rattle.card_layout.specs.declared.kind.Kind.TheVariants.{Density, Projected, Process, Physical, Fit, Model, Diagnostics}
use Rattle.card_layout.specs.Kinds.{number_of}
use Rattle.card_layout.specs.Limits.{up_to, unknown, limits_of, Keeps, Limited}
use Rattle.card_layout.specs.Rules.{past, no_matrix, word0_breaks, qubits_break}

-- the number of a card whose kind is told
pub number-is : {k : ℕ} {x y : Kind} → number_of x ≡ k → x ≡ y → k ≡ number_of y
number-is e f = sym e ∙ ap number_of f

-- a number that no kind has
pub other_kind : (k : ℕ) → (1 ≤ k → k ≤ 7 → ⊥) → unknown k ≡ true
unfolding unknown
other_kind zero h = refl
other_kind (suc k) h = rw (ne_eqb (suc k) 0 (λ e. omega arith), lt-ltb 7 (suc k) (omega arith)) refl

-- one within the limits has one of the kinds
pub known : (k : ℕ) → 1 ≤ k → k ≤ 7 → unknown k ≡ false
unfolding unknown
known zero l m = absurd (omega arith)
known (suc k) l m = rw (ne_eqb (suc k) 0 (λ e. omega arith), le-ltb 7 (suc k) (omega arith)) refl

-- the number of a kind, and which it is
pub known_number : (x : Kind) → unknown (number_of x) ≡ false
unfolding unknown
known_number Density = refl
known_number Projected = refl
known_number Process = refl
known_number Physical = refl
known_number Fit = refl
known_number Model = refl
known_number Diagnostics = refl

-- it lacks every field
pub limits_none : (k : ℕ) → unknown k ≡ true → up_to 0 0 0 0 0 0 0 ≡ limits_of k
unfolding limits_of unknown
limits_none zero e = refl
limits_none (suc k) e =
    let d = rw (ne_eqb (suc k) 0 (λ q. omega arith)) at e in
    let h : 7 < suc k = ltb-true 7 (suc k) d in
    rw (ne_eqb (suc k) 1 (omega arith), ne_eqb (suc k) 2 (omega arith), ne_eqb (suc k) 3 (omega arith), ne_eqb (suc k) 4 (omega arith), ne_eqb (suc k) 5 (omega arith), ne_eqb (suc k) 6 (omega arith), ne_eqb (suc k) 7 (omega arith))

-- what holds of each kind that is there
pub by_kind : (P : ℕ → Type 0) → P 1 → P 2 → P 3 → P 4 → P 5 → P 6 → P 7 → (k : ℕ) → 1 ≤ k → k ≤ 7 → P k
by_kind P a b c d e f g zero l m = absurd (omega arith)
by_kind P a b c d e f g (suc zero) l m = a
by_kind P a b c d e f g (suc (suc zero)) l m = b
by_kind P a b c d e f g (suc (suc (suc zero))) l m = c
by_kind P a b c d e f g (suc (suc (suc (suc zero)))) l m = d
by_kind P a b c d e f g (suc (suc (suc (suc (suc zero))))) l m = e
by_kind P a b c d e f g (suc (suc (suc (suc (suc (suc zero)))))) l m = f
by_kind P a b c d e f g (suc (suc (suc (suc (suc (suc (suc zero))))))) l m = g
by_kind P a b c d e f g (suc (suc (suc (suc (suc (suc (suc (suc k)))))))) l m = absurd (omega arith)

-- no field is past its limit
pub not-past : (m h : Header) → past m h ≡ false → Keeps m h
unfolding past
not-past m h e =
    let a = neither _ _ e in
    let b = neither _ _ a.1 in
    let c = neither _ _ b.1 in
    let d = neither _ _ c.1 in
    let f = neither _ _ d.1 in
    let g = neither _ _ f.1 in
    record {
      qubits = λ q. le-zero (ltb-false _ _ (second-not _ _ (eq-eqb _ _ q) a.0));
      dimension = ltb-false _ _ b.0;
      effects = ltb-false _ _ c.0;
      gates = ltb-false _ _ d.0;
      records = ltb-false _ _ f.0;
      coordinates = ltb-false _ _ g.0;
      rest = ltb-false _ _ g.1;
    }

-- a number that is not 0
some : (n : ℕ) → eqb n 0 ≡ false → 1 ≤ n
some zero e = absurd (eqb-false 0 0 e refl)
some (suc n) e = omega arith

-- ---- A header whose word keeps its rule
module _ (h : Header) (rule : word0_breaks h ≡ false) where
  parts : (unknown h.kind ≡ false) × (no_matrix h ≡ false) × (past (limits_of h.kind) h ≡ false)
  unfolding word0_breaks
  parts =
      let a = neither (unknown h.kind) (no_matrix h || past (limits_of h.kind) h) rule in
      let b = neither (no_matrix h) (past (limits_of h.kind) h) a.1 in
      (a.0, b.0, b.1)

  pub least-kind : 1 ≤ h.kind
  unfolding unknown
  least-kind = some h.kind (neither (eqb h.kind 0) (ltb 7 h.kind) parts.0).0

  pub most-kind : h.kind ≤ 7
  unfolding unknown
  most-kind = ltb-false 7 h.kind (neither (eqb h.kind 0) (ltb 7 h.kind) parts.0).1

  pub some-matrix : h.kind ≡ 2 → 1 ≤ h.dimension
  unfolding no_matrix
  some-matrix k = some h.dimension (second-not (eqb h.kind 2) (eqb h.dimension 0) (eq-eqb h.kind 2 k) parts.1)

  pub keeps : Keeps (limits_of h.kind) h
  keeps = not-past (limits_of h.kind) h parts.2

  -- what holds of each kind holds of the header's
  pub at-kind : (P : ℕ → Type 0) → P 1 → P 2 → P 3 → P 4 → P 5 → P 6 → P 7 → P h.kind
  at-kind P a b c d e f g = by_kind P a b c d e f g h.kind least-kind most-kind

  -- a field that kinds 1 to 4 lack is that of a kind with a model
  models : (f : Header → ℕ) → f (limits_of 1) ≡ 0 → f (limits_of 2) ≡ 0 → f (limits_of 3) ≡ 0 → f (limits_of 4) ≡ 0 → f h ≤ f (limits_of h.kind) → 0 < f h → 5 ≤ h.kind
  models f a b c d e l =
      at-kind (λ k. 0 < f (limits_of k) → 5 ≤ k) (λ z. absurd (omega arith)) (λ z. absurd (omega arith)) (λ z. absurd (omega arith))
      (λ z. absurd (omega arith)) (λ z. lit≤ tt) (λ z. lit≤ tt) (λ z. lit≤ tt) (omega arith)

  -- only a kind with a model has effects or gates, only 5 and 7 have records, only 5 has coordinates
  pub effects-kind : 0 < h.effects → 5 ≤ h.kind
  unfolding limits_of
  effects-kind = models (λ m. m.effects) refl refl refl refl keeps.effects

  pub gates-kind : 0 < h.gates → 5 ≤ h.kind
  unfolding limits_of
  gates-kind = models (λ m. m.gates) refl refl refl refl keeps.gates

  pub records-kind : 0 < h.records → (h.kind ≡ 5) ⊎ (h.kind ≡ 7)
  unfolding limits_of
  records-kind l =
      at-kind (λ k. 0 < (limits_of k).records → (k ≡ 5) ⊎ (k ≡ 7)) (λ z. absurd (omega arith)) (λ z. absurd (omega arith)) (λ z. absurd (omega arith))
      (λ z. absurd (omega arith)) (λ z. inl refl) (λ z. absurd (omega arith)) (λ z. inr refl) (omega (arith, keeps.records))

  pub coordinates-kind : 0 < h.coordinates → h.kind ≡ 5
  unfolding limits_of
  coordinates-kind l =
      at-kind (λ k. 0 < (limits_of k).coordinates → k ≡ 5) (λ z. absurd (omega arith)) (λ z. absurd (omega arith)) (λ z. absurd (omega arith))
      (λ z. absurd (omega arith)) (λ z. refl) (λ z. absurd (omega arith)) (λ z. absurd (omega arith)) (omega (arith, keeps.coordinates))

  -- a model stands in kinds 5, 6 and 7
  pub model-kind : 5 ≤ h.kind → (h.kind ≡ 5) ⊎ ((h.kind ≡ 6) ⊎ (h.kind ≡ 7))
  model-kind =
      at-kind (λ k. 5 ≤ k → (k ≡ 5) ⊎ ((k ≡ 6) ⊎ (k ≡ 7))) (λ z. absurd (omega arith)) (λ z. absurd (omega arith)) (λ z. absurd (omega arith))
      (λ z. absurd (omega arith)) (λ z. inl refl) (λ z. inr (inl refl)) (λ z. inr (inr refl))

  -- n, in the kinds that have it
  module _ (few : qubits_break h ≡ false) where
    right-qubits : (m : ℕ) → (limits_of h.kind).qubits ≡ m → 0 < m → (eqb h.qubits 0 ≡ false) × (ltb m h.qubits ≡ false)
    unfolding qubits_break
    right-qubits m e l =
        let f : ltb 0 m && (eqb h.qubits 0 || ltb m h.qubits) ≡ false = rw e at few in
        neither (eqb h.qubits 0) (ltb m h.qubits) (second-not (ltb 0 m) (eqb h.qubits 0 || ltb m h.qubits) (lt-ltb 0 m l) f)

    pub some-qubits : 0 < (limits_of h.kind).qubits → 1 ≤ h.qubits
    some-qubits l = some h.qubits (right-qubits (limits_of h.kind).qubits refl l).0

    pub few-qubits : h.qubits ≤ (limits_of h.kind).qubits
    few-qubits =
        let m = (limits_of h.kind).qubits in
        ⊎_elim
        (λ (e : 0 ≡ m). let z : h.qubits ≡ 0 = keeps.qubits (sym e) in omega arith)
        (λ (l : 0 < m). ltb-false m h.qubits (right-qubits m refl l).1)
        (eq-or-lt_of_le (zero-le {n = m}))

    pub limited : Limited h
    unfolding limits_of past
    limited =
        let m = limits_of h.kind in
        let top = up_to 0 3 16 16 8 200 64 in
        let w : Keeps m h = keeps in
        let b : Keeps top m = not-past top m (at-kind (λ k. past top (limits_of k) ≡ false) refl refl refl refl refl refl refl) in
        let q : m.qubits ≤ 3 = at-kind (λ k. (limits_of k).qubits ≤ 3) (lit≤ tt) (lit≤ tt) (lit≤ tt) (lit≤ tt) (lit≤ tt) (lit≤ tt) (lit≤ tt) in
        record {
          least = least-kind;
          most = most-kind;
          qubits = omega (arith, few-qubits);
          dimension = omega arith;
          effects = omega arith;
          gates = omega arith;
          records = omega arith;
          coordinates = omega arith;
          rest = omega arith;
        }
