-- From a verdict and the numbers in the work slice to the sheet. Assumes nothing.
use Rattle.std.proofs.Common.{Err, Ok}
use Rattle.refusal.specs.Verdicts.{good, Verdict, first_of, after}
use Prim.Native.Nat.{ℕ, ◌+◌, ◌*◌, ◌^◌, ◌≤◌}
use mathlib.Core.Bool.{Bool}
use mathlib.Core.Path.{◌≡◌, refl, sym, ap, ap₂, ◌∙◌}
use mathlib.Core.List.{List, [], ◌++◌}
use native.Mathlib.Nat.{mul-le-mul, pow-le-pow_right}
use native.Mathlib.Omega.{arith}
use lib.Dec.{lit<}
use lib.ListN.{length, drop}
use lib.Ieee.{Float}
use Rattle.lists.specs.Build.{over}
use Rattle.numbers.specs.Word.{word_at}
use Rattle.numbers.specs.Slice.{number_at, numbers_at, words_of}
use Rattle.refusal.specs.declared.Refusal.{Refusal}
use Rattle.refusal.proofs.Verdicts.{both-good}
use Rattle.pauli.specs.Density.{density_of, inverted_of, computed_of}
use Rattle.pauli.proofs.Sums.{length-density}
use Rattle.pauli.proofs.Admission.{computed-density}
use Rattle.density.specs.Projection.{projected_verdict}
use Rattle.density.proofs.Outcome.{length-projected}
use Rattle.transfer.specs.Process.{transfer_of, process_of, process_numbers}
use Rattle.transfer.proofs.Processes.{length-transfer, computed-process}
use Rattle.physical.specs.Physical.{trace_preserving, unital}
use Rattle.positivity.specs.Positivity.{Positivity, positivity_verdict, completely_positive, told}
use Rattle.sizes.proofs.Small.{product_le, square-most, four-most}
use Rattle.card_layout.specs.declared.Header.{Header}
use Rattle.card_layout.specs.Limits.{Limited}
use Rattle.card_places.specs.Places.{model_words}
use Rattle.model.specs.Checked.{checked_of}
use Rattle.model_words.specs.Words.{model_numbers, model_words_of}
use Rattle.gauge.specs.Gauge.{new_model, gauged_of, gauged_numbers}
use Rattle.gauge.proofs.Gauges.{good-model, model-length}
use Rattle.outcome.specs.declared.Answer.{Answer}
use Rattle.outcome.specs.declared.Answer.TheVariants.{Density, Projected, Process, Physical, Model}
use Rattle.outcome.specs.Outcome.{Answered, refused, shown, Gives}
use Rattle.outcome.proofs.Outcomes.{stays, same_outcome, same_answer, not-shown, is-shown, emitted}
use Rattle.sheets.specs.Sheets.{vectors_of, density_sheet, estimate_of, projection_numbers, projected_sheet, process_sheet_of, process_sheet, physical_of, physical_sheet, gauge_verdict, gauge_numbers, gauge_sheet}

-- ---- sizes

-- at most 8 rows of two parts an entry
pub parts-most : (d : ℕ) → d ≤ 8 → 2 * (d * d) ≤ 128
parts-most d h = omega (arith, mul-le-mul {n₁ = d} {m₁ = d} {n₂ = 8} {m₂ = 8} h h)

-- a card's model has at most 2,320 numbers and 2,328 words
module _ (h : Header) (l : Limited h) where
  pub numbers-most : model_numbers h ≤ 2320
  numbers-most = omega (arith, product_le h.effects h.dimension 16 16 l.effects l.dimension, product_le h.gates (h.dimension * h.dimension) 8 256 l.gates (square-most h.dimension l.dimension), l.dimension)

  pub words-most : model_words h ≤ 2328
  words-most = omega (arith, product_le h.effects h.dimension 16 16 l.effects l.dimension, product_le h.gates (1 + h.dimension * h.dimension) 8 257 l.gates (omega (arith, square-most h.dimension l.dimension)), l.dimension)

-- the parts of a density matrix of up to three qubits
pub two-most : (n : ℕ) → n ≤ 3 → 2 * (2 ^ n * 2 ^ n) ≤ 128
two-most n h = parts-most (2 ^ n) (pow-le-pow_right {n = 2} (lit< tt) {i = n} {j = 3} h)

-- ---- kind 1

module _ (s : List ℕ) (n : ℕ) (w : Verdict) (e : w ≡ inverted_of n (number_at s 1) (numbers_at s 2 (4 ^ n))) where
  pub density_refused : (r : Refusal) → w ≡ Err r → refused r ≡ density_sheet s n
  unfolding density_sheet
  density_refused r f = not-shown _ _ _ w r e f

  pub density_shown : (d : ℕ) (work₀ work : List Float) (l m : List ℕ) → w ≡ good → d ≡ 2 ^ n
      → work ≡ over (computed_of n (number_at s 1) (numbers_at s 2 (4 ^ n))) work₀ → m ≡ words_of (2 * (d * d)) work ++ drop (2 * (d * d)) l → Gives (density_sheet s n) l m (Ok (Density d))
  unfolding density_sheet
  density_shown d work₀ work l m f k o p =
      let es = numbers_at s 2 (4 ^ n) in
      let c = computed-density n (number_at s 1) es (sym e ∙ f) in
      same_answer (ap (λ (x : ℕ). Ok (Density x)) k)
      (is-shown _ _ _ w l m e f
      (emitted (density_of n es) (drop (length (density_of n es)) work₀) work (2 * (2 ^ n * 2 ^ n)) (2 * (d * d)) l m (length-density n (2 ^ n) es refl) (ap (λ (x : ℕ). 2 * (x * x)) k)
      (o ∙ ap (λ (x : List Float). over x work₀) c) p))

-- ---- kind 2

-- the parts of an estimate
pub estimate-most : (d : ℕ) → d ≤ 16 → 2 * (d * d) ≤ 512
estimate-most d h = omega (arith, square-most d h)

module _ (s : List ℕ) (d : ℕ) (w : Verdict) (e : w ≡ projected_verdict d (number_at s 1) (word_at s 2) (estimate_of s d)) where
  pub projected_refused : (r : Refusal) → w ≡ Err r → refused r ≡ projected_sheet s d
  unfolding projected_sheet
  projected_refused r f = not-shown _ _ _ w r e f

  pub projected_shown : (q : ℕ) (work₀ work : List Float) (l m : List ℕ) → w ≡ good → q ≡ d * d
      → work ≡ over (projection_numbers s d) work₀ → m ≡ words_of (2 * q) work ++ drop (2 * q) l → Gives (projected_sheet s d) l m (Ok (Projected d))
  unfolding projected_sheet
  projected_shown q work₀ work l m f k o p =
      let x = projection_numbers s d in
      is-shown _ _ _ w l m e f
      (emitted x (drop (length x) work₀) work (2 * (d * d)) (2 * q) l m (length-projected d (number_at s 1) (word_at s 2) (estimate_of s d) (sym f ∙ e)) (ap (λ (y : ℕ). 2 * y) k) o p)

-- ---- kind 3

module _ (s : List ℕ) (n p : ℕ) (k : p ≡ 4 ^ n) (w : Verdict) (e : w ≡ process_of (number_at s 1) (vectors_of s p) p) where
  pub process_refused : (r : Refusal) → w ≡ Err r → refused r ≡ process_sheet s n
  unfolding process_sheet_of
  process_refused r f = not-shown _ _ _ w r e f ∙ ap (process_sheet_of s) k

  pub process_shown : (q : ℕ) (work₀ work : List Float) (l m : List ℕ) → w ≡ good → q ≡ p * p
      → work ≡ over (process_numbers (number_at s 1) (vectors_of s p) p) work₀ → m ≡ words_of q work ++ drop q l → Gives (process_sheet s n) l m (Ok (Process p))
  unfolding process_sheet_of
  process_shown q work₀ work l m f h o g =
      let t = number_at s 1 in
      let v = vectors_of s p in
      let c = computed-process t v p (sym e ∙ f) in
      same_outcome (ap (process_sheet_of s) k)
      (is-shown _ _ _ w l m e f
      (emitted (transfer_of t v p) (drop (length (transfer_of t v p)) work₀) work (p * p) q l m (length-transfer t v p) h (o ∙ ap (λ (x : List Float). over x work₀) c) g))

-- ---- kind 4

pub transfer-most : (n : ℕ) → n ≤ 2 → 4 ^ n * 4 ^ n ≤ 256
transfer-most n h = square-most (4 ^ n) (four-most n h)

-- a sheet without numbers: what was found, and what is shown of it
module _ (f : Bool → Answer) (found : Positivity) (l : List ℕ) where
  pub told-refused : (v : Verdict) (b : Bool) (r : Refusal) → found ≡ told v b → found ≡ Err r → Gives (shown v (f b) []) l l (Err r)
  told-refused (Ok _) b r e g = let z : ◌≡◌ {A = ℕ} 0 1 = cc in absurd (omega arith)
  told-refused (Err q) b r e g = let h : q ≡ r = cc in same_answer (ap Err (sym h)) (stays l refl)

  pub told-known : (v : Verdict) (b c : Bool) → found ≡ told v b → found ≡ Ok c → Gives (shown v (f b) []) l l (Ok (f c))
  told-known (Ok _) b c e g = let h : b ≡ c = cc in same_answer (ap (λ (x : Bool). Ok (f x)) (sym h)) (record { answer = refl; written = refl })
  told-known (Err q) b c e g = let z : ◌≡◌ {A = ℕ} 0 1 = cc in absurd (omega arith)

module _ (n : ℕ) (t : Float) (rotations : ℕ) (transfer : List Float) (found : Positivity) (e : found ≡ told (positivity_verdict n t rotations transfer) (completely_positive n t rotations transfer)) where
  pub physical_refused : (r : Refusal) → found ≡ Err r → (l : List ℕ) → Gives (physical_of n t rotations transfer) l l (Err r)
  unfolding physical_of
  physical_refused r f l = told-refused (Physical (trace_preserving (4 ^ n) t transfer) (unital (4 ^ n) t transfer)) found l (positivity_verdict n t rotations transfer) (completely_positive n t rotations transfer) r e f

  pub physical_shown : (p : ℕ) (a b c : Bool) → p ≡ 4 ^ n → found ≡ Ok c → a ≡ trace_preserving p t transfer → b ≡ unital p t transfer
      → (l : List ℕ) → Gives (physical_of n t rotations transfer) l l (Ok (Physical a b c))
  unfolding physical_of
  physical_shown p a b c k f g h l =
      same_answer (ap₂ (λ (x y : Bool). Ok (Physical x y c)) (g ∙ ap (λ (q : ℕ). trace_preserving q t transfer) k) (h ∙ ap (λ (q : ℕ). unital q t transfer) k))
      (told-known (Physical (trace_preserving (4 ^ n) t transfer) (unital (4 ^ n) t transfer)) found l (positivity_verdict n t rotations transfer) (completely_positive n t rotations transfer) c e f)

-- the card's values, as they were loaded
module _ (s : List ℕ) (n : ℕ) where
  pub physical-of-card : (m : ℕ) (t : Float) (rotations : ℕ) (transfer : List Float) {r : Answered} → m ≡ 4 ^ n * 4 ^ n → t ≡ number_at s 1 → rotations ≡ word_at s 2 → transfer ≡ numbers_at s 3 m
      → ((l : List ℕ) → Gives (physical_of n t rotations transfer) l l r) → (l : List ℕ) → Gives (physical_sheet s n) l l r
  physical-of-card m t rotations transfer k a b v g l =
      same_outcome
      (ap₂ (λ (x : Float) (y : ℕ). physical_of n x y transfer) a b ∙ ap (physical_of n (number_at s 1) (word_at s 2)) (v ∙ ap (numbers_at s 3) k))
      (g l)

-- ---- kind 6

module _ (s : List ℕ) (h : Header) where
  -- the model's verdict, as a call gave it
  pub model_refused : (w : Verdict) (r : Refusal) → w ≡ checked_of s h → w ≡ Err r → (Err r ≡ gauge_verdict s h) × ([] ≡ gauge_numbers s h)
  unfolding gauge_verdict gauge_numbers
  model_refused w r e f = (ap (λ (x : Verdict). first_of x (gauged_of s h)) (sym f ∙ e), ap (λ (x : Verdict). after x (λ _. []) (gauged_numbers s h)) (sym f ∙ e))

  pub model_good : (w : Verdict) → w ≡ checked_of s h → w ≡ good → (gauged_of s h ≡ gauge_verdict s h) × (gauged_numbers s h ≡ gauge_numbers s h)
  unfolding gauge_verdict gauge_numbers
  model_good w e f = (ap (λ (x : Verdict). first_of x (gauged_of s h)) (sym f ∙ e), ap (λ (x : Verdict). after x (λ _. []) (gauged_numbers s h)) (sym f ∙ e))

  -- where all is good the new model was computed
  pub computed_model : good ≡ gauge_verdict s h → gauge_numbers s h ≡ new_model s h
  unfolding gauge_verdict gauge_numbers
  computed_model e =
      let b = both-good (checked_of s h) (gauged_of s h) e in
      ap (λ (x : Verdict). after x (λ _. []) (gauged_numbers s h)) (sym b.0) ∙ good-model s h b.1

  pub length_new_model : (x : List Float) → x ≡ new_model s h → length x ≡ model_numbers h
  length_new_model x e = ap length e ∙ model-length s h

  pub gauge_refused : (w : Verdict) (r : Refusal) → w ≡ gauge_verdict s h → w ≡ Err r → refused r ≡ gauge_sheet s h
  unfolding gauge_sheet
  gauge_refused w r e f = not-shown _ _ _ w r e f

  pub gauge_shown : (w : Verdict) (count : ℕ) (front : List Float) (l m : List ℕ) → w ≡ gauge_verdict s h → w ≡ good → count ≡ model_words h → front ≡ new_model s h
      → m ≡ over (model_words_of s h front) l → Gives (gauge_sheet s h) l m (Ok (Model count))
  unfolding gauge_sheet
  gauge_shown w count front l m e f k g p = same_answer (ap (λ (x : ℕ). Ok (Model x)) k) (is-shown _ _ _ w l m e f (p ∙ ap (λ (x : List Float). over (model_words_of s h x) l) g))
