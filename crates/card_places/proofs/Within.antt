-- A shaped card has every word of its layout: the parts that begin at a place and have n words end within the card. Assumes nothing.
use Prim.Native.Nat.{ℕ, ◌+◌, ◌*◌, ◌≤◌, ◌<◌}
use mathlib.Core.Path.{◌≡◌}
use mathlib.Core.Bool.{false}
use mathlib.Core.List.{List}
use native.Mathlib.Omega.{arith}
use lib.ListN.{length}
use Rattle.card_layout.specs.declared.Header.{Header}
use Rattle.card_layout.specs.Rules.{word0_breaks, qubits_break}
use Rattle.card_layout.specs.Layout.{Role, number, layout}
use Rattle.card_layout.proofs.EachKind.{limited}
use Rattle.card_layout.proofs.Lengths.{length-each, length-model, length-record}
use Rattle.card_places.specs.Places.{wanted_words, model_at, model_words, state_at, effect_at, gate_name_at, transform_at, record_at, record_words, index_at, count_at, coordinate_at}
use Rattle.card_places.specs.Shape.{Shaped}
use Rattle.card_places.proofs.Standing.{Stands, stands-fits, controls-stand, model-stands, state-stands, effect-stands, gate-stands, transform-stands, record-stands, coordinate-stands}

pub shaped : (s : List ℕ) (h : Header) → word0_breaks h ≡ false → qubits_break h ≡ false → length s ≡ 8 * wanted_words h → Shaped s h
shaped s h w q l = record { word0 = w; qubits = q; limits = limited h w q; length = l }

module _ (s : List ℕ) (h : Header) (a : Shaped s h) where
  -- what stands in the layout is on the card
  ends : {part : List Role} {p : ℕ} (n : ℕ) → Stands (layout h) p part → length part ≡ n → (p + n) * 8 ≤ length s
  ends n x e = omega (arith, a.length, stands-fits x)

  pub word0_inside : 8 ≤ length s
  unfolding layout
  word0_inside = omega (arith, a.length)

  pub controls_inside : h.kind ≡ 5 → (1 + 8) * 8 ≤ length s
  controls_inside e = ends 8 (controls-stand h e) (omega arith)

  pub model_inside : 5 ≤ h.kind → (model_at h + model_words h) * 8 ≤ length s
  model_inside k = ends (model_words h) (model-stands h a.word0 k) (length-model h.dimension h.effects h.gates)

  pub state_inside : 5 ≤ h.kind → (state_at h + h.dimension) * 8 ≤ length s
  state_inside k = ends h.dimension (state-stands h a.word0 k) (length-each h.dimension number)

  pub effect_inside : (k : ℕ) → k < h.effects → (effect_at h k + h.dimension) * 8 ≤ length s
  effect_inside k l = ends h.dimension (effect-stands h a.word0 k l) (length-each h.dimension number)

  -- a gate with its name
  pub gate_inside : (g : ℕ) → g < h.gates → (gate_name_at h g + (1 + h.dimension * h.dimension)) * 8 ≤ length s
  gate_inside g l = ends (1 + h.dimension * h.dimension) (gate-stands h a.word0 g l) (omega (arith, length-each (h.dimension * h.dimension) number))

  pub transform_inside : h.kind ≡ 6 → (transform_at h + h.dimension * h.dimension) * 8 ≤ length s
  transform_inside e = ends (h.dimension * h.dimension) (transform-stands h e) (length-each (h.dimension * h.dimension) number)

  -- a whole record, so each of its words
  pub record_inside : (r : ℕ) → r < h.records → (record_at h r + record_words h) * 8 ≤ length s
  record_inside r l = ends (record_words h) (record-stands h a.word0 r l) (length-record h.effects)

  pub index_inside : (r k : ℕ) → r < h.records → k < 64 → index_at h r k * 8 + 8 ≤ length s
  index_inside r k l m = omega (arith, record_inside r l)

  pub count_inside : (r k : ℕ) → r < h.records → k < h.effects → count_at h r k * 8 + 8 ≤ length s
  count_inside r k l m = omega (arith, record_inside r l)

  pub coordinate_inside : (c : ℕ) → c < h.coordinates → coordinate_at h c * 8 + 8 ≤ length s
  coordinate_inside c l = omega (arith, ends 1 (coordinate-stands h a.word0 c l) (omega arith))
