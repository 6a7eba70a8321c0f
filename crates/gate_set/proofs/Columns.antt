-- Gates by columns: a row times such a matrix is the matrix itself times a column, sum by sum in the same order. Assumes nothing.
use Prim.Native.Nat.{ℕ, ◌+◌, ◌-◌, ◌*◌, ◌≤◌, ◌<◌}
use mathlib.Core.Path.{◌≡◌, sym, ap, ◌∙◌}
use mathlib.Core.List.{List, ◌++◌}
use native.Mathlib.Nat.{suc-mul}
use native.Mathlib.Numerals.{add-one}
use native.Mathlib.Omega.{arith}
use lib.ListN.{length, get_or, take, drop}
use lib.Seq.{drop-drop}
use lib.Ieee.{Float}
use Rattle.lists.specs.Part.{part}
use Rattle.lists.proofs.Filling.{length-build, build-same}
use Rattle.lists.proofs.Folding.{fold_same}
use Rattle.lists.proofs.Joined.{Written, written-part, length-joined, part-joined}
use Rattle.lists.proofs.Parts.{row_in, lent-long}
use Rattle.numbers.specs.Number.{◌*ᶠ◌}
use Rattle.numbers.specs.Slice.{at}
use Rattle.numbers.proofs.Products.{product-comm}
use Rattle.matrix.specs.Product.{cell, sum_of, dot_of, mat_vec_of, row_mat_of, transposed_of}
use Rattle.matrix.proofs.Sums.{sum_same, lent-row, dot-lent}
use Rattle.matrix.proofs.Transposes.{length-transposed, transposed-whole, transposed}
use Rattle.gate_set.specs.GateSet.{state_in, effect_in, gate_in, through, measured, probabilities_of, columns_in, through_by, probabilities_by}

pub length-columns-in : (d e gates : ℕ) (m : List Float) → length (columns_in d e gates m) ≡ gates * (d * d)
unfolding columns_in
length-columns-in d e gates m = length-joined gates (d * d) _ (λ g _. length-transposed d (gate_in d e m g))

pub length-measured : (d e : ℕ) (m x : List Float) → length (measured d e m x) ≡ e
unfolding measured
length-measured d e m x = length-build e _

pub length-probabilities : (d e : ℕ) (m : List Float) (sequence : List ℕ) → length (probabilities_of d e m sequence) ≡ e
unfolding probabilities_of
length-probabilities d e m sequence = length-measured d e m _

pub length-probabilities-by : (d e : ℕ) (m columns : List Float) (sequence : List ℕ) → length (probabilities_by d e m columns sequence) ≡ e
unfolding probabilities_by
length-probabilities-by d e m columns sequence = length-measured d e m _

-- effect k lies within a model
pub effect-within : (d e k : ℕ) (m : List Float) → k < e → d + e * d ≤ length m → d + k * d + d ≤ length m
effect-within d e k m h l = omega (arith, row_in k e d h)

-- it was lent by its places s and t, as row k + 1 of the model, and measures x
pub effect-measured : (d e k : ℕ) (m x : List Float) (s t : ℕ) → (s ≡ (k + 1) * d) × (t ≡ (k + 1) * d + d) → k < e → d + e * d ≤ length m
    → dot_of (length (take (t - s) (drop s m))) (take (t - s) (drop s m)) x ≡ dot_of d (effect_in d m k) x
effect-measured d e k m x s t (p, q) h l =
    let z : (k + 1) * d ≡ d + k * d = rw add-one (omega (arith, suc-mul k d)) in
    dot-lent m x s t d (omega arith) (omega (arith, effect-within d e k m h l)) ∙ ap (λ (j : ℕ). dot_of d (part j d m) x) (p ∙ z)

-- a state was loaded, put through a sequence and measured
pub run-measured : (d e : ℕ) (m columns : List Float) (sequence : List ℕ) (out s x y : List Float) → s ≡ state_in d m → x ≡ through_by d columns sequence s
    → y ≡ measured d e m x ++ drop e out → y ≡ probabilities_by d e m columns sequence ++ drop e out
unfolding probabilities_by
run-measured d e m columns sequence out s x y a b c = c ∙ ap (λ (x : List Float). measured d e m x ++ drop e out) (b ∙ ap (through_by d columns sequence) a)

-- gate k of a sequence, by columns
abbrev pub gate_by : ℕ → List Float → List ℕ → ℕ → List Float → List Float
gate_by d columns sequence k y = row_mat_of d y (part (get_or sequence k 0 * (d * d)) (d * d) columns)

-- gate g, lent from v, the gates of a model, by its places a and b
module _ (d e g : ℕ) (m v : List Float) (q : v ≡ drop (d + e * d) m) (a b : ℕ) (p : (a ≡ g * (d * d)) × (b ≡ g * (d * d) + d * d)) where
  gate-is : take (b - a) (drop a v) ≡ gate_in d e m g
  gate-is = lent-row v g (d * d) a b p ∙ rw (q, drop-drop)

  -- it was transposed and put behind the gates before it, at the places s and t
  pub gate-written : (o out y : List Float) (s t : ℕ) → (s ≡ g * (d * d)) × (t ≡ g * (d * d) + d * d) → t ≤ length out → Written (λ g. transposed_of d (gate_in d e m g)) o g out
      → y ≡ transposed_of d (take (b - a) (drop a v)) ++ drop (d * d) (take (t - s) (drop s out)) → Written (λ g. transposed_of d (gate_in d e m g)) o (g + 1) (take s out ++ (y ++ drop (t - s) (drop s out)))
  unfolding columns_in
  gate-written o out y s t (k, l) h w f =
      let z : t ≡ s + d * d = omega arith in
      written-part (λ g. transposed_of d (gate_in d e m g)) o g (d * d) s t out y (length-columns-in d e g m ∙ sym k) z (length-transposed d (gate_in d e m g)) w
      (f ∙ transposed-whole d _ (take (t - s) (drop s out)) (lent-long s t (d * d) out z h) ∙ ap (transposed_of d) gate-is)

by-columns : (d : ℕ) (x a : List Float) → row_mat_of d x (transposed_of d a) ≡ mat_vec_of d a x
unfolding row_mat_of mat_vec_of
by-columns d x a =
    build-same d _ (λ i. sum_of d (λ j. cell d a i j *ᶠ at x j))
    (λ i h.
    sum_same d _ (λ j. cell d a i j *ᶠ at x j)
    (λ j l. product-comm (at x j) (cell d (transposed_of d a) j i) ∙ ap (λ (t : Float). t *ᶠ at x j) (transposed d a i j h l)))

-- gate g by columns, among all gates of a model
gate-columns : (d e gates g : ℕ) (m rest : List Float) → g < gates → part (g * (d * d)) (d * d) (columns_in d e gates m ++ rest) ≡ transposed_of d (gate_in d e m g)
unfolding columns_in
gate-columns d e gates g m rest l = part-joined gates (d * d) g (λ g. transposed_of d (gate_in d e m g)) rest (λ g. length-transposed d (gate_in d e m g)) l

-- gates by columns give the model's probabilities
pub same-probabilities : (d e gates : ℕ) (m columns rest : List Float) (sequence : List ℕ) → columns ≡ columns_in d e gates m ++ rest
    → ((k : ℕ) → k < length sequence → get_or sequence k 0 < gates) → probabilities_by d e m columns sequence ≡ probabilities_of d e m sequence
unfolding probabilities_by probabilities_of through
same-probabilities d e gates m columns rest sequence q h =
    ap (measured d e m)
    (fold_same (λ k y. row_mat_of d y (part (get_or sequence k 0 * (d * d)) (d * d) columns)) (λ k. mat_vec_of d (gate_in d e m (get_or sequence k 0))) (length sequence) (state_in d m)
    (λ k y l.
    ap (row_mat_of d y) (ap (part (get_or sequence k 0 * (d * d)) (d * d)) q ∙ gate-columns d e gates (get_or sequence k 0) m rest (h k l))
    ∙ by-columns d y (gate_in d e m (get_or sequence k 0))))
