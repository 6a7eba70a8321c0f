-- What a good verdict says of a request: its controls, that it has records and coordinates, and that the place of each coordinate is one of the
-- model's numbers. Assumes nothing.
use Rattle.refusal.specs.Verdicts.{good}
use Prim.Native.Nat.{ℕ, ◌+◌, ◌*◌, ◌<◌}
use mathlib.Core.Path.{◌≡◌, sym}
use mathlib.Core.Bool.{Bool, true, false, cond, not, ◌&&◌}
use mathlib.Core.List.{List}
use native.Mathlib.Omega.{arith}
use borrow.Author.Tests.{ltb-true, eqb-false, not-false}
use lib.Dec.{eqb, ltb}
use lib.ListN.{length, get_or}
use Rattle.lists.proofs.Filling.{length-build, get_or-build}
use Rattle.lists.proofs.Parts.{entry-fits}
use Rattle.booleans.proofs.Joined.{and_both}
use Rattle.refusal.proofs.Verdicts.{passed, held, each-good}
use Rattle.card_layout.specs.declared.Header.{Header}
use Rattle.card_layout.specs.declared.Coordinate.{Coordinate}
use Rattle.card_parts.specs.Parts.{coordinate_in}
use Rattle.model_words.specs.Words.{model_numbers}
use Rattle.parameters.specs.Parameters.{config_of, good_config, has_entry, place_of, places_of, repeated, parameter_verdict, parameters_verdict, request_verdict}

-- by cases: where the test of a case holds, its number is below m
by-case : (a b : Bool) (p q r : Bool) (x y z m : ℕ) → (p ≡ true → x < m) → (q ≡ true → y < m) → (r ≡ true → z < m) → cond a p (cond b q r) ≡ true → cond a x (cond b y z) < m
by-case true b p q r x y z m f g h e = f e
by-case false true p q r x y z m f g h e = g e
by-case false false p q r x y z m f g h e = h e

-- entry j of part k of n, each of w numbers
within : (k j n w : ℕ) → ltb k n && ltb j w ≡ true → k * w + j < n * w
within k j n w e =
    let p = and_both (ltb k n) (ltb j w) e in
    entry-fits k j n w (ltb-true k n p.0) (ltb-true j w p.1)

-- an entry that exists is one of the model's numbers
place_inside : (h : Header) (c : Coordinate) → has_entry h c ≡ true → place_of h c < model_numbers h
unfolding has_entry place_of
place_inside h c =
    by-case (eqb c.kind 1) (eqb c.kind 2) _ _ _ _ _ _ (model_numbers h)
    (λ (e : ltb c.column h.dimension ≡ true). omega (arith, ltb-true c.column h.dimension e))
    (λ e. omega (arith, within c.which c.column h.effects h.dimension e))
    (λ e. omega (arith, within c.which (c.row * h.dimension + c.column) h.gates (h.dimension * h.dimension) e))

module _ (s : List ℕ) (h : Header) where
  entry-there : (i : ℕ) → parameter_verdict s h i ≡ good → has_entry h (coordinate_in s h i) ≡ true
  unfolding parameter_verdict
  entry-there i e = held (has_entry h (coordinate_in s h i)) _ (passed (repeated s h i) _ _ (sym e)).1

  pub length-places : length (places_of s h) ≡ h.coordinates
  unfolding places_of
  length-places = length-build h.coordinates _

  pub place_at : (i : ℕ) → i < h.coordinates → get_or (places_of s h) i 0 ≡ place_of h (coordinate_in s h i)
  unfolding places_of
  place_at i l = get_or-build 0 h.coordinates i (λ i. place_of h (coordinate_in s h i)) l

  pub entries-there : parameters_verdict s h ≡ good → (i : ℕ) → i < h.coordinates → has_entry h (coordinate_in s h i) ≡ true
  unfolding parameters_verdict
  entries-there e i l = entry-there i (each-good h.coordinates (parameter_verdict s h) e i l)

  pub places-inside : parameters_verdict s h ≡ good → (i : ℕ) → i < h.coordinates → get_or (places_of s h) i 0 < model_numbers h
  places-inside e i l = rw (place_at i l) (place_inside h (coordinate_in s h i) (entries-there e i l))

  pub request-good : request_verdict s h ≡ good → (good_config (config_of s) ≡ true) × (parameters_verdict s h ≡ good) × (0 < h.records) × (0 < h.coordinates)
  unfolding request_verdict
  request-good e =
      let a = passed (not (good_config (config_of s))) _ _ (sym e) in
      let b = passed (eqb h.records 0) _ _ a.1 in
      let c = passed (eqb h.coordinates 0) _ _ b.1 in
      let n = eqb-false h.records 0 b.0 in
      let m = eqb-false h.coordinates 0 c.0 in
      (not-false _ a.0, sym c.1, omega arith, omega arith)
