-- Every sheet of a fit card whose coordinates name different entries bears the buyer's statement. Assumes nothing.
use Rattle.std.proofs.Common.{Err, Ok}
use Rattle.refusal.specs.Verdicts.{good, Verdict, after}
use Prim.Native.Nat.{ℕ, ◌+◌, ◌*◌, ◌≤◌, ◌<◌}
use mathlib.Core.Path.{◌≡◌, refl, sym, ap, subst, ◌∙◌}
use mathlib.Core.Bool.{Bool, true}
use mathlib.Core.List.{List, ◌++◌}
use native.Mathlib.Omega.{arith}
use lib.ListN.{length, get_or, take, length-append, get_or-append}
use lib.Seq.{get_or-append-add, take_at}
use Rattle.lists.specs.Build.{over}
use Rattle.lists.proofs.Parts.{row_in}
use Rattle.numbers.specs.Number.{word, finite}
use Rattle.numbers.specs.Word.{word_at}
use Rattle.numbers.specs.Slice.{at, words_of}
use Rattle.numbers.proofs.Slices.{length-words}
use Rattle.refusal.specs.declared.Refusal.{Refusal}
use Rattle.card_layout.specs.declared.Header.{Header}
use Rattle.card_layout.specs.declared.Coordinate.{Coordinate}
use Rattle.card_places.specs.Places.{model_at, model_words}
use Rattle.card_parts.specs.Model.{name_of}
use Rattle.card_parts.specs.Parts.{coordinate_in}
use Rattle.model.specs.Checked.{checked_of}
use Rattle.model_words.specs.Words.{vector_numbers, numbers_of, model_words_of}
use Rattle.model_words.proofs.Sizes.{length-model}
use Rattle.model_words.proofs.Entries.{length-model-words, name-word}
use Rattle.descent.specs.Fit.{Fitted, fitted, unfitted, fit_of}
use Rattle.descent.specs.Fit as descent
use Rattle.descent.specs.Claim.{distinct, Sound, Claimed, Counted}
use Rattle.descent.proofs.Points.{claimed}
use Rattle.descent.proofs.Counts.{evaluations-bound}
use Rattle.parameters.specs.Parameters.{config_of, has_entry, place_of, places_of, request_verdict}
use Rattle.parameters.proofs.Places.{length-places, place_at, places-inside, entries-there, request-good}
use Rattle.fit.specs.Outcome.{job_of}
use Rattle.outcome.specs.declared.Answer.TheVariants.{Fit}
use Rattle.outcome.specs.Outcome.{Answered, Outcome, refused, Gives}
use Rattle.fit_sheets.specs.Sheets.{fit_numbers, fit_words, outcome_sheet, request_sheet, fit_sheet}
use Rattle.fit_sheets.specs.Buyer.{name_place, word_place, Buyer}
use Rattle.fit_sheets.proofs.Entries.{same_word, finite-map, stands}

-- ---- the words of a sheet, at the front of the result

module _ (s : List ℕ) (h : Header) (f : Fitted) (l : List ℕ) where
  length-fit : length (fit_words s h f) ≡ 6 + model_words h
  unfolding fit_words
  length-fit =
      let six = fit_numbers f.initial f.final f.objective f.norm in
      omega (arith, length-append (words_of 6 six) (model_words_of s h f.model), length-words 6 six, length-model-words s h f.model)

  all_words : take (6 + model_words h) (over (fit_words s h f) l) ≡ fit_words s h f
  all_words = take_at (fit_words s h f) _ (6 + model_words h) length-fit

  model-word : (w : ℕ) → w < model_words h → get_or (over (fit_words s h f) l) (6 + w) 0 ≡ get_or (model_words_of s h f.model) w 0
  unfolding fit_words
  model-word w k =
      let six = words_of 6 (fit_numbers f.initial f.final f.objective f.norm) in
      get_or-append (fit_words s h f) _ 0 (6 + w) (omega (arith, length-fit))
      ∙ ap (λ (n : ℕ). get_or (six ++ model_words_of s h f.model) (n + w) 0) (sym (length-words 6 _))
      ∙ get_or-append-add six (model_words_of s h f.model) w 0

module _ (s : List ℕ) (h : Header) (bytes : (i : ℕ) → get_or s i 0 < 256) (passed : checked_of s h ≡ good) (request : request_verdict s h ≡ good)
    (different : distinct (places_of s h) ≡ true) where
  -- the job of such a card is sound
  finite-at : (i : ℕ) → i < h.coordinates → finite (at (numbers_of s h) (get_or (places_of s h) i 0)) ≡ true
  finite-at i l =
      let p = stands s h passed (coordinate_in s h i) (entries-there s h (request-good s h request).1 i l) in
      ap (λ (k : ℕ). finite (at (numbers_of s h) k)) (place_at s h i l) ∙ ap finite p.own ∙ p.finite-there

  sound : Sound (job_of s h)
  sound =
      record {
        different = different;
        inside = λ i l. omega (arith, places-inside s h (request-good s h request).1 i (omega (arith, length-places s h)), length-model s h);
        finite = finite-map (numbers_of s h) (places_of s h) (λ i l. finite-at i (omega (arith, length-places s h)));
      }

  -- what no coordinate names
  module _ (f : Fitted) (l : List ℕ) where
    entry_kept : (c : Coordinate) → has_entry h c ≡ true → at f.model (place_of h c) ≡ at (numbers_of s h) (place_of h c)
        → get_or (over (fit_words s h f) l) (6 + word_place h c) 0 ≡ word_at s (model_at h + word_place h c)
    entry_kept c e k =
        let p = stands s h passed c e in
        model-word s h f l (word_place h c) p.within ∙ p.shown f.model ∙ ap word (k ∙ p.own) ∙ same_word s bytes (model_at h + word_place h c) p.finite-there

    name-kept : (g : ℕ) → g < h.gates → get_or (over (fit_words s h f) l) (6 + name_place h g) 0 ≡ word_at s (model_at h + name_place h g)
    unfolding name_of
    name-kept g k =
        let n : vector_numbers h + (g * (1 + h.dimension * h.dimension) + 0) ≡ name_place h g = omega arith in
        let m : model_at h + h.dimension + h.effects * h.dimension + g * (1 + h.dimension * h.dimension) ≡ model_at h + name_place h g = omega arith in
        model-word s h f l (name_place h g) (omega (arith, row_in g h.gates (1 + h.dimension * h.dimension) k))
        ∙ ap (λ (w : ℕ). get_or (model_words_of s h f.model) w 0) (sym n)
        ∙ name-word s h f.model g k
        ∙ ap (word_at s) m

    -- a fit of the card
    module _ (e : fit_of (job_of s h) ≡ fitted f) where
      at_most : f.evaluations ≤ 1 + 2 * h.coordinates * (word_at s 1 + 1) + word_at s 1 * word_at s 7
      unfolding config_of
      at_most =
          subst (λ (n : ℕ). f.evaluations ≤ 1 + 2 * n * (word_at s 1 + 1) + word_at s 1 * word_at s 7) (length-places s h)
          (subst (Counted (job_of s h)) e (evaluations-bound (job_of s h)))

      borne : {R S E : ℕ} {v : Bool} {M : ℕ} {m : List ℕ}
          → ◌≡◌ {A = Answered} (Ok (Fit R S E v M)) (outcome_sheet s h (fitted f)).answer
          → m ≡ over (fit_words s h f) l → Buyer s h R S E v m
      borne {R} {S} {E} {v} {M} {m} a w =
          let c = subst (Claimed (job_of s h)) e (claimed (job_of s h) sound) in
          subst (Buyer s h R S E v) (sym w)
          (record {
            fit = f;
            reason = cc;
            steps = cc;
            evaluations = cc;
            convergence = cc;
            words = all_words s h f l;
            points = c.0;
            claim = c.1;
            entries = λ x t k. entry_kept x t (c.1.keeps (place_of h x) k);
            names = name-kept;
            counted = let q : E ≡ f.evaluations = cc in omega (arith, at_most);
          })

-- ---- the sheet

-- a refusal is no fit
never-fit : {A : Type 0} {R S E : ℕ} {v : Bool} {M : ℕ} {r : Refusal}
    → ◌≡◌ {A = Answered} (Ok (Fit R S E v M)) (Err r) → A
never-fit e = cc

pub buyer : (s : List ℕ) (h : Header) → ((i : ℕ) → get_or s i 0 < 256)
    → distinct (places_of s h) ≡ true → {R S E : ℕ} {v : Bool} {M : ℕ} {l m : List ℕ}
    → Gives (fit_sheet s h) l m (Ok (Fit R S E v M)) → Buyer s h R S E v m
unfolding fit_sheet request_sheet
buyer s h bytes different {R} {S} {E} {v} {M} {l} {m} g = checked (checked_of s h) refl g.answer g.written
  where
    sheet : descent.Outcome → Outcome
    sheet o = outcome_sheet s h o

    ended : checked_of s h ≡ good → request_verdict s h ≡ good
        → (o : descent.Outcome) → fit_of (job_of s h) ≡ o
        → ◌≡◌ {A = Answered} (Ok (Fit R S E v M)) (sheet o).answer
        → m ≡ over (sheet o).words l → Buyer s h R S E v m
    ended c q (fitted f) e a w = borne s h bytes c q different f l e a w
    ended c q (unfitted r) e a w = never-fit a

    requested : checked_of s h ≡ good → (x : Verdict) → request_verdict s h ≡ x
        → ◌≡◌ {A = Answered} (Ok (Fit R S E v M)) (after x refused (sheet (fit_of (job_of s h)))).answer
        → m ≡ over (after x refused (sheet (fit_of (job_of s h)))).words l
        → Buyer s h R S E v m
    requested c (Ok _) q a w = ended c q (fit_of (job_of s h)) refl a w
    requested c (Err r) q a w = never-fit a

    checked : (x : Verdict) → checked_of s h ≡ x
        → ◌≡◌ {A = Answered} (Ok (Fit R S E v M)) (after x refused (request_sheet s h)).answer
        → m ≡ over (after x refused (request_sheet s h)).words l → Buyer s h R S E v m
    checked (Ok _) c a w = requested c (request_verdict s h) refl a w
    checked (Err r) c a w = never-fit a
