-- Document 01's worked cards, as rows of one list: a card's words, and the outcome of its sheet.
use Rattle.std.specs.Prelude.{Ok, ℕ, ◌≡◌, refl, true, false, List, [], ◌∷◌}
use Rattle.std.specs.Float.{binary64}
use Rattle.std.specs.Float.Ieee.{is_nan, of_bits, of_fields, odd, to_bits, add, sub, mul, div, sqrt, neg, sum, round, units, lt, le, eq, span, climb, size, of_int}
use Rattle.lists.specs.Build.{from, build, joined}
use Rattle.lists.specs.Fold.{fold}
use Rattle.numbers.specs.Word.{word_at}
use Rattle.numbers.specs.Number.{finite, positive, abs, max, negative, precedes}
use Rattle.numbers.specs.Slice.{numbers_at, words_of, blank, all_finite}
use Rattle.card_layout.specs.Layout.{times, model_roles, record_roles, after_word0, layout, breaks, faulty}
use Rattle.card_layout.specs.Limits.{unknown, limits_of}
use Rattle.card_layout.specs.Rules.{past, no_matrix, word0_breaks, qubits_break, sequence_breaks, indices_break, coordinate_breaks}
use Rattle.card_places.specs.Places.{model_at}
use Rattle.card_examples.specs.Rows.{card}
use Rattle.card.specs.Reading.{header, examined, word_at_fault, size_at_fault, at_fault, lowest, fault_of, length_read, read_of}
use Rattle.pauli.specs.Exact.{product, pauli_matrices, string_entry}
use Rattle.pauli.specs.Density.{pinned, weight, density_part, density_of, vet_of, admitted, tested_of}
use Rattle.matrix.specs.Product.{sum_of, dot_of, mat_vec_of, row_mat_of, mat_mul_of}
use Rattle.elimination.specs.Rows.{swapped, divided_row, less_row, eliminated_row, eliminated, cleared_by}
use Rattle.pivots.specs.Pivots.{scale_of, larger_row, pivot_row}
use Rattle.inversion.specs.Inversion.{beside_at, beside_identity, column_reduced, reduction_of, right_halves, invertible, inverse_of}
use Rattle.card_parts.specs.Model.{model_of, state_of, effect_of, name_of, gate_of, transform_of}
use Rattle.model.specs.Checked.{any_of, checked_of}
use Rattle.model_words.specs.Words.{numbers_of, gate_words, gates_words, model_words_of}
use Rattle.gauge.specs.Gauge.{threshold_of, inverted_of, inverse_in, new_state, new_effect, new_gate, transformed, new_model, gauged_of}
use Rattle.rounding.specs.Units.{units_of}
use Rattle.significand.specs.Significand.{significand_of, exponent_of}
use Rattle.complex.specs.Arithmetic.{plus, minus, times as complex_times, scaled, divided, conjugate, min, magnitude}
use Rattle.entries.specs.Entries.{entries, parts_of, matrix}
use Rattle.magnitudes.specs.Pivot.{scale_by, scale_of as matrix_scale, larger, pivot_in, pivot_of}
use Rattle.turns.specs.Rotation.{tangent, turn_of, turned_p, turned_q, columns_at, columns_turned, turned_at, turned}
use Rattle.sorting.specs.Sort.{before, insert, order_by, sorted_by}
use Rattle.filling.specs.Filling.{excess, sum_from, stays, active_count, threshold, lowered, filling}
use Rattle.eigen.specs.Jacobi.{jacobi, unit_at as unit_vector_at, unit, diagonal, columns_in, ascending, eig_of, values_of}
use Rattle.density.specs.Projection.{halved_at, halved, term_at, mixed_at, mixed, spectral_numbers, spectral_verdict, admission, projected_verdict, projected_numbers}
use Rattle.choi.specs.Choi.{coefficient, term, choi_part, choi_of, choi_tested}
use Rattle.positivity.specs.Positivity.{none_below, choi_values, positivity_verdict, completely_positive}
use Rattle.physical.specs.Physical.{unit_at, near, near_unit, trace_preserving, unital}
use Rattle.sheets.specs.Sheets.{density_sheet, projected_sheet, process_sheet_of, physical_of, gauge_verdict, gauge_sheet}
use Rattle.gate_set.specs.GateSet.{through, measured, probabilities_of, present_of}
use Rattle.likelihood.specs.Multinomial.{bad_probability, any_bad, failing, clamped, total_of, counted_of, plus_term, with_term, with_terms, with_record}
use Rattle.diagnostics.specs.Diagnostics.{counts_of, record_onward, likelihood_by}
use Rattle.logarithm.specs.Series.{nested, ln1p, ln_ratio, entry_of}
use Rattle.logarithm.specs.Steps.{poly, part as ln_part, ln_of, ln_by, ln}
use Rattle.card_parts.specs.Parts.{sequence_of, count_in, coordinate_in}
use Rattle.gst_sheets.specs.Sheets.{tolerance_sheet, diagnostics_sheet}
use Rattle.parameters.specs.Parameters.{config_of, good_config, has_entry, place_of, places_of, repeated, parameter_verdict, parameters_verdict, request_verdict}
use Rattle.descent.specs.Fit.{put, usable, distance, objective_of, evaluate, displacement, derivative, gradient, norm, step_length, trial, search_to, step, after as after_steps, closed, fit_of}
use Rattle.fit_sheets.specs.Sheets.{fit_words, request_sheet, fit_sheet}
use Rattle.tomography.specs.Sheet.{model_sheet, kind_sheet, sheet_of}
use Rattle.refusal.specs.declared.Refusal.TheVariants.{InvalidNormalization, Operator, SingularGaugeTransform, EigensolverDidNotConverge}
use Rattle.refusal.specs.Verdicts.{finite_or, checked_numbers, tolerance_of}
use Rattle.outcome.specs.declared.Answer.TheVariants.{Density, Projected, Physical, Fit, Model, Diagnostics}
use Rattle.outcome.specs.Outcome.{Outcome, refused}

pub record Row : Type 0 where
  pub words : List ℕ
  pub outcome : Outcome

-- every row's card has the row's outcome
abbrev pub Right : List Row → Type 0
Right [] = Unit {0}
Right (r ∷ rs) = (sheet_of (card r.words 0) ≡ r.outcome) × Right rs

-- |0><0|
abbrev pub zero_state : Outcome
zero_state = record { answer = Ok (Density 2); words = 0x3ff0000000000000 ∷ 0 ∷ 0 ∷ 0 ∷ 0 ∷ 0 ∷ 0 ∷ 0 ∷ [] }

abbrev pub rows : List Row
rows =
    -- kind 1: expectations 1, 0, 0, 1
    record { words = 0x1100000000000000 ∷ 0x3eb0000000000000 ∷ 0x3ff0000000000000 ∷ 0 ∷ 0 ∷ 0x3ff0000000000000 ∷ []; outcome = zero_state }
    -- identity 1.5 with tolerance 0.5 is pinned to 1
    ∷ record { words = 0x1100000000000000 ∷ 0x3fe0000000000000 ∷ 0x3ff8000000000000 ∷ 0 ∷ 0 ∷ 0x3ff0000000000000 ∷ []; outcome = zero_state }
    -- 1.5 + 2^-52 is too far from 1
    ∷ record { words = 0x1100000000000000 ∷ 0x3fe0000000000000 ∷ 0x3ff8000000000001 ∷ 0 ∷ 0 ∷ 0x3ff0000000000000 ∷ []; outcome = refused (InvalidNormalization (of_bits binary64 0x3ff8000000000001)) }
    -- expectations 1, 0, 0, 2^60: the trace is 0 by rounding
    ∷ record { words = 0x1100000000000000 ∷ 0x3eb0000000000000 ∷ 0x3ff0000000000000 ∷ 0 ∷ 0 ∷ 0x43b0000000000000 ∷ []; outcome = record { answer = Ok (Density 2); words = 0x43a0000000000000 ∷ 0 ∷ 0 ∷ 0 ∷ 0 ∷ 0 ∷ 0xc3a0000000000000 ∷ 0 ∷ [] } }
    -- kind 2, diag(1, 0.5, -0.5): one rotation tests that it is diagonal
    ∷ record { words = 0x2003000000000000 ∷ 0x3eb0000000000000 ∷ 1 ∷ 0x3ff0000000000000 ∷ 0 ∷ 0 ∷ 0 ∷ 0 ∷ 0 ∷ 0 ∷ 0 ∷ 0x3fe0000000000000 ∷ 0 ∷ 0 ∷ 0 ∷ 0 ∷ 0 ∷ 0 ∷ 0 ∷ 0xbfe0000000000000 ∷ 0 ∷ []; outcome = record { answer = Ok (Projected 3); words = 0x3fe8000000000000 ∷ 0 ∷ 0 ∷ 0 ∷ 0 ∷ 0 ∷ 0 ∷ 0 ∷ 0x3fd0000000000000 ∷ 0 ∷ 0 ∷ 0 ∷ 0 ∷ 0 ∷ 0 ∷ 0 ∷ 0 ∷ 0 ∷ [] } }
    -- the 1 by 1 estimate 2^60: one is lost beside it
    ∷ record { words = 0x2001000000000000 ∷ 0x3eb0000000000000 ∷ 1 ∷ 0x43b0000000000000 ∷ 0 ∷ []; outcome = refused Operator }
    -- [[0, 1], [1, 0]]: what the last rotation gives is not tested
    ∷ record { words = 0x2002000000000000 ∷ 0x3eb0000000000000 ∷ 1 ∷ 0 ∷ 0 ∷ 0x3ff0000000000000 ∷ 0 ∷ 0x3ff0000000000000 ∷ 0 ∷ 0 ∷ 0 ∷ []; outcome = refused EigensolverDidNotConverge }
    ∷ record { words = 0x2002000000000000 ∷ 0x3eb0000000000000 ∷ 2 ∷ 0 ∷ 0 ∷ 0x3ff0000000000000 ∷ 0 ∷ 0x3ff0000000000000 ∷ 0 ∷ 0 ∷ 0 ∷ []; outcome = record { answer = Ok (Projected 2); words = 0x3fdffffffffffffe ∷ 0 ∷ 0x3fdffffffffffffe ∷ 0 ∷ 0x3fdffffffffffffe ∷ 0 ∷ 0x3fdffffffffffffe ∷ 0 ∷ [] } }
    -- kind 4, diag(1, 1, -1, 1) at tolerance 0.25 and 2 rotations: it keeps the trace and the identity, and isn't completely positive
    ∷ record { words = 0x4100000000000000 ∷ 0x3fd0000000000000 ∷ 2 ∷ 0x3ff0000000000000 ∷ 0 ∷ 0 ∷ 0 ∷ 0 ∷ 0x3ff0000000000000 ∷ 0 ∷ 0 ∷ 0 ∷ 0 ∷ 0xbff0000000000000 ∷ 0 ∷ 0 ∷ 0 ∷ 0 ∷ 0x3ff0000000000000 ∷ []; outcome = record { answer = Ok (Physical true true false); words = [] } }
    -- kind 6, state (1, 2) and one effect (1, 1): the transform diag(1, 2^-45) is singular
    ∷ record { words = 0x6002010000000000 ∷ 0x3ff0000000000000 ∷ 0x4000000000000000 ∷ 0x3ff0000000000000 ∷ 0x3ff0000000000000 ∷ 0x3ff0000000000000 ∷ 0 ∷ 0 ∷ 0x3d20000000000000 ∷ []; outcome = refused SingularGaugeTransform }
    -- diag(1, 2^-44) is not: state (1, 2^-43) and effect (1, 2^44)
    ∷ record { words = 0x6002010000000000 ∷ 0x3ff0000000000000 ∷ 0x4000000000000000 ∷ 0x3ff0000000000000 ∷ 0x3ff0000000000000 ∷ 0x3ff0000000000000 ∷ 0 ∷ 0 ∷ 0x3d30000000000000 ∷ []; outcome = record { answer = Ok (Model 4); words = 0x3ff0000000000000 ∷ 0x3d40000000000000 ∷ 0x3ff0000000000000 ∷ 0x42b0000000000000 ∷ [] } }
    -- kind 7, counts 1 and 1 at the probabilities 2^-1074 and 1: the deviance is infinite
    ∷ record { words = 0x7001020000010000 ∷ 0x3eb0000000000000 ∷ 0x3ff0000000000000 ∷ 1 ∷ 0x3ff0000000000000 ∷ 0 ∷ 0 ∷ 0 ∷ 0 ∷ 0 ∷ 1 ∷ 1 ∷ []; outcome = record { answer = Ok Diagnostics; words = 0xc0874385446d71c3 ∷ 0x7ff0000000000000 ∷ [] } }
    -- kind 5, state 1, effects 0.5 and 0.5, no gates, counts 1 and 1, default controls: effect 0 is moved, and both its probes fail
    ∷ record { words = 0x5001020000010100 ∷ 200 ∷ 0x3fb999999999999a ∷ 0x3ee4f8b588e368f1 ∷ 0x3e45798ee2308c3a ∷ 0x3d719799812dea11 ∷ 0x3e112e0be826d695 ∷ 24 ∷ 0 ∷ 0x3ff0000000000000 ∷ 0x3fe0000000000000 ∷ 0x3fe0000000000000 ∷ 0 ∷ 0 ∷ 0 ∷ 0 ∷ 0 ∷ 1 ∷ 1 ∷ 0x2000000000000000 ∷ []; outcome = record { answer = Ok (Fit 1 0 5 true 3); words = 0xbff62e42fefa39ef ∷ 0 ∷ 0xbff62e42fefa39ef ∷ 0 ∷ 0x3ff62e42fefa39ef ∷ 0 ∷ 0x3ff0000000000000 ∷ 0x3fe0000000000000 ∷ 0x3fe0000000000000 ∷ [] } }
    ∷ []

pub rows_right : Right rows
unfolding card is_nan from build joined fold word_at finite positive abs max negative precedes numbers_at words_of blank all_finite times model_roles record_roles after_word0 layout breaks faulty unknown limits_of past no_matrix word0_breaks qubits_break sequence_breaks indices_break model_at header examined word_at_fault size_at_fault at_fault lowest fault_of length_read read_of product pauli_matrices string_entry pinned weight density_part density_of vet_of admitted tested_of sum_of dot_of mat_vec_of row_mat_of mat_mul_of swapped divided_row less_row eliminated_row eliminated cleared_by scale_of larger_row pivot_row beside_at beside_identity column_reduced reduction_of right_halves invertible inverse_of model_of state_of effect_of name_of gate_of transform_of any_of checked_of numbers_of gate_words gates_words model_words_of threshold_of inverted_of inverse_in new_state new_effect new_gate transformed new_model gauged_of finite_or checked_numbers units_of significand_of exponent_of plus minus complex_times scaled divided conjugate min magnitude entries parts_of matrix scale_by matrix_scale larger pivot_in pivot_of tangent turn_of turned_p turned_q columns_at columns_turned turned_at turned before insert order_by sorted_by excess sum_from stays active_count threshold lowered filling jacobi unit_vector_at unit diagonal columns_in ascending eig_of values_of coefficient term choi_part choi_of choi_tested none_below choi_values tolerance_of positivity_verdict completely_positive unit_at near near_unit trace_preserving unital halved_at halved term_at mixed_at mixed spectral_numbers spectral_verdict admission projected_verdict projected_numbers density_sheet projected_sheet process_sheet_of physical_of gauge_verdict gauge_sheet through measured probabilities_of present_of bad_probability any_bad failing clamped total_of counted_of plus_term with_term with_terms with_record counts_of record_onward likelihood_by nested ln1p ln_ratio entry_of poly ln_part ln_of ln_by ln sequence_of count_in tolerance_sheet diagnostics_sheet config_of good_config has_entry place_of places_of repeated parameter_verdict parameters_verdict request_verdict coordinate_in coordinate_breaks put usable distance objective_of evaluate displacement derivative gradient norm step_length trial search_to step after_steps closed fit_of fit_words request_sheet fit_sheet model_sheet kind_sheet sheet_of of_bits of_fields odd to_bits add sub mul div sqrt neg sum round units lt le eq span climb size of_int
rows_right = (refl, (refl, (refl, (refl, (refl, (refl, (refl, (refl, (refl, (refl, (refl, (refl, (refl, tt)))))))))))))
