-- Every sheet is sound: a refusal writes nothing, and none is refusal 16. Assumes nothing.
use Rattle.std.proofs.Common.{Err, Ok}
use Rattle.refusal.specs.Verdicts.{good, Verdict, after, tolerance_of}
use Prim.Native.Nat.{ℕ, ◌*◌, ◌^◌}
use mathlib.Core.Path.{refl}
use mathlib.Core.Bool.{not, cond}
use mathlib.Core.List.{List}
use borrow.Author.Tests.{eqb-false}
use lib.Ieee.{Float, lt}
use Rattle.lists.proofs.Folding.{fold-keeps}
use Rattle.numbers.specs.Number.{one_f, ◌-ᶠ◌, abs, positive}
use Rattle.numbers.specs.Word.{word_at}
use Rattle.numbers.specs.Slice.{at, number_at, numbers_at, all_finite}
use Rattle.refusal.specs.declared.Refusal.TheVariants.{NonFinite, InvalidNormalization, InvalidTolerance, Operator, SingularGaugeTransform, SingularProcessDesign, EigensolverDidNotConverge}
use Rattle.pauli.specs.Density.{density_of, vet_of, admitted, tested_of}
use Rattle.inversion.specs.Inversion.{invertible}
use Rattle.transfer.specs.Vectors.{vector_of, vetted_of}
use Rattle.eigen.specs.Jacobi.{Spectrum, spectrum, unknown, Values, values, unknown_values}
use Rattle.density.specs.Projection.{spectral_numbers, spectral_verdict, admission, spectrum_of, projected_verdict}
use Rattle.transfer.specs.Process.{inputs_of, transfer_of, solved_of, screened}
use Rattle.choi.specs.Choi.{choi_of, choi_tested}
use Rattle.positivity.specs.Positivity.{known, choi_values, positivity_verdict}
use Rattle.card_layout.specs.declared.Header.{Header}
use Rattle.card_parts.specs.Model.{transform_of}
use Rattle.model.proofs.Refusals.{lower-model}
use Rattle.gauge.specs.Gauge.{threshold_of, inverted_of as gauge_inverted, new_model, gauged_of}
use Rattle.refusal.proofs.Lower.{Lower, lower-good, lower-refused, lower-either, lower-first, lower-finite, lower-numbers}
use Rattle.outcome.proofs.Refusals.{Sound, shown-sound}
use Rattle.sheets.specs.Sheets.{vectors_of, density_sheet, estimate_of, projected_sheet, process_sheet_of, physical_of, gauge_verdict, gauge_sheet}

-- a test's own refusal, or what follows a verdict
lower-after : {v w : Verdict} → Lower v → Lower w → Lower (after v Err w)
lower-after {v = Ok _} p q = q
lower-after {v = Err r} p q = p

lower-vet : (t : Float) (es : List Float) → Lower (vet_of t es)
unfolding vet_of
lower-vet t es =
    lower-either (not (all_finite es)) (lower-refused NonFinite (eqb-false 3 16 refl))
    (lower-either (lt t (abs (at es 0 -ᶠ one_f))) (lower-refused (InvalidNormalization (at es 0)) (eqb-false 4 16 refl)) lower-good)

by-tolerance : (t : Float) {v w : Verdict} → Lower v → Lower w → Lower (cond (not (positive t)) (Err InvalidTolerance) (after v Err w))
by-tolerance t p q = lower-either (not (positive t)) (lower-refused InvalidTolerance (eqb-false 5 16 refl)) (lower-after p q)

pub density-sound : (s : List ℕ) (n : ℕ) → Sound (density_sheet s n)
unfolding density_sheet admitted tested_of
density-sound s n =
    shown-sound _ _ _ (by-tolerance (number_at s 1) (lower-vet (number_at s 1) (numbers_at s 2 (4 ^ n))) (lower-finite Operator (density_of n (numbers_at s 2 (4 ^ n))) (eqb-false 6 16 refl)))

lower-spectral : (d : ℕ) (s : Spectrum) → Lower (spectral_verdict d s)
unfolding spectral_verdict
lower-spectral d (spectrum w v) = lower-finite Operator (spectral_numbers d (spectrum w v)) (eqb-false 6 16 refl)
lower-spectral d unknown = lower-refused EigensolverDidNotConverge (eqb-false 12 16 refl)

pub projected-sound : (s : List ℕ) (d : ℕ) → Sound (projected_sheet s d)
unfolding projected_sheet projected_verdict admission
projected-sound s d =
    let t = number_at s 1 in
    let e = estimate_of s d in
    shown-sound _ _ _
    (lower-first
    (lower-either (not (all_finite e)) (lower-refused NonFinite (eqb-false 3 16 refl))
    (lower-either (not (positive t)) (lower-refused InvalidTolerance (eqb-false 5 16 refl)) lower-good))
    (lower-spectral d (spectrum_of d t (word_at s 2) e)))

lower-vectors : (t : Float) (v : List Float) (p : ℕ) → Lower (vetted_of t v p)
unfolding vetted_of
lower-vectors t v p = fold-keeps _ Lower _ good lower-good (λ k found _ q. lower-first q (lower-vet t (vector_of v p k)))

pub process-sound : (s : List ℕ) (p : ℕ) → Sound (process_sheet_of s p)
unfolding process_sheet_of screened solved_of
process-sound s p =
    let t = number_at s 1 in
    let v = vectors_of s p in
    shown-sound _ _ _
    (by-tolerance t (lower-vectors t v p)
    (lower-either (not (invertible p t (inputs_of v p))) (lower-refused SingularProcessDesign (eqb-false 11 16 refl)) (lower-finite NonFinite (transfer_of t v p) (eqb-false 3 16 refl))))

lower-known : (v : Values) → Lower (known v)
lower-known (values w) = lower-good
lower-known unknown_values = lower-refused EigensolverDidNotConverge (eqb-false 12 16 refl)

pub physical-sound : (n : ℕ) (t : Float) (rotations : ℕ) (transfer : List Float) → Sound (physical_of n t rotations transfer)
unfolding physical_of positivity_verdict tolerance_of choi_tested
physical-sound n t rotations transfer =
    shown-sound _ _ _
    (lower-first (lower-numbers (4 ^ n * 4 ^ n) transfer)
    (lower-first (lower-either (positive t) lower-good (lower-refused InvalidTolerance (eqb-false 5 16 refl)))
    (lower-first (lower-finite Operator (choi_of n transfer) (eqb-false 6 16 refl)) (lower-known (choi_values n t rotations transfer)))))

pub gauge-sound : (s : List ℕ) (h : Header) → Sound (gauge_sheet s h)
unfolding gauge_sheet gauge_verdict gauged_of gauge_inverted
gauge-sound s h =
    let t = transform_of s h in
    let d = h.dimension in
    shown-sound _ _ _
    (lower-first (lower-model s h)
    (lower-first
    (lower-either (not (all_finite t)) (lower-refused NonFinite (eqb-false 3 16 refl))
    (lower-either (invertible d (threshold_of d) t) lower-good (lower-refused SingularGaugeTransform (eqb-false 10 16 refl))))
    (lower-finite NonFinite (new_model s h) (eqb-false 3 16 refl))))
