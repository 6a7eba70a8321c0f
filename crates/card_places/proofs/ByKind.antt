-- Kind by kind: the words after word 0, where the model stands, and how many words there are. Assumes nothing.
use Prim.Native.Nat.{ℕ, zero, suc, ◌+◌, ◌*◌, ◌^◌}
use mathlib.Core.Path.{◌≡◌, refl}
use mathlib.Core.List.{List, [], ◌∷◌, ◌++◌}
use native.Mathlib.Nat.{pow-suc}
use native.Mathlib.Omega.{arith}
use lib.ListN.{length-append}
use Rattle.card_layout.specs.declared.Header.{Header}
use Rattle.card_layout.specs.Limits.{most_rotations}
use Rattle.card_layout.specs.Layout.{Role, number, at_most, control_roles, coordinate, times, numbers, model_roles, record_roles, after_word0, layout}
use Rattle.card_layout.proofs.Lengths.{length-times, length-each, length-vectors, length-model, length-records}
use Rattle.card_places.specs.Places.{wanted_words, model_at, record_at, coordinate_at, transform_at}

-- the words after word 0
pub after1 : (h : Header) → h.kind ≡ 1 → after_word0 h ≡ number ∷ numbers (4 ^ h.qubits)
unfolding after_word0
after1 h e = rw e

pub after2 : (h : Header) → h.kind ≡ 2 → after_word0 h ≡ number ∷ at_most (most_rotations h.dimension) ∷ times (h.dimension * h.dimension) (number ∷ number ∷ [])
unfolding after_word0
after2 h e = rw e

pub after3 : (h : Header) → h.kind ≡ 3 → after_word0 h ≡ number ∷ (times (4 ^ h.qubits) (numbers (4 ^ h.qubits)) ++ times (4 ^ h.qubits) (numbers (4 ^ h.qubits)))
unfolding after_word0
after3 h e = rw e

pub after4 : (h : Header) → h.kind ≡ 4 → after_word0 h ≡ number ∷ at_most (most_rotations (4 ^ h.qubits)) ∷ numbers (16 ^ h.qubits)
unfolding after_word0
after4 h e = rw e

module _ (h : Header) where
  -- the parts of kinds 5 to 7
  abbrev pub model : List Role
  model = model_roles h.dimension h.effects h.gates

  abbrev pub records : List Role
  records = times h.records (record_roles h.effects)

  abbrev pub coordinates : List Role
  coordinates = times h.coordinates (coordinate ∷ [])

  abbrev pub transform : List Role
  transform = numbers (h.dimension * h.dimension)

pub after5 : (h : Header) → h.kind ≡ 5 → after_word0 h ≡ control_roles ++ (model h ++ (records h ++ coordinates h))
unfolding after_word0
after5 h e = rw e

pub after6 : (h : Header) → h.kind ≡ 6 → after_word0 h ≡ model h ++ transform h
unfolding after_word0
after6 h e = rw e

pub after7 : (h : Header) → h.kind ≡ 7 → after_word0 h ≡ number ∷ (model h ++ records h)
unfolding after_word0
after7 h e = rw e

-- the model's place
pub at5 : (h : Header) → h.kind ≡ 5 → model_at h ≡ 9
unfolding model_at
at5 h e = rw e

pub at6 : (h : Header) → h.kind ≡ 6 → model_at h ≡ 1
unfolding model_at
at6 h e = rw e

pub at7 : (h : Header) → h.kind ≡ 7 → model_at h ≡ 2
unfolding model_at
at7 h e = rw e

pub sixteen-four : (n : ℕ) → 16 ^ n ≡ 4 ^ n * 4 ^ n
sixteen-four zero = refl
sixteen-four (suc n) = rw (pow-suc 16 n, pow-suc 4 n, sixteen-four n) (omega arith)

-- the words in all
pub words1 : (h : Header) → h.kind ≡ 1 → wanted_words h ≡ 2 + 4 ^ h.qubits
unfolding layout
words1 h e = rw (after1 h e) (omega (arith, length-each (4 ^ h.qubits) number))

pub words2 : (h : Header) → h.kind ≡ 2 → wanted_words h ≡ 3 + 2 * (h.dimension * h.dimension)
unfolding layout
words2 h e = rw (after2 h e) (omega (arith, length-times (h.dimension * h.dimension) (number ∷ number ∷ [])))

pub words3 : (h : Header) → h.kind ≡ 3 → wanted_words h ≡ 2 + 2 * (4 ^ h.qubits * 4 ^ h.qubits)
unfolding layout
words3 h e =
    let v = times (4 ^ h.qubits) (numbers (4 ^ h.qubits)) in
    rw (after3 h e) (omega (arith, length-append v v, length-vectors (4 ^ h.qubits) (4 ^ h.qubits)))

pub words4 : (h : Header) → h.kind ≡ 4 → wanted_words h ≡ 3 + 4 ^ h.qubits * 4 ^ h.qubits
unfolding layout
words4 h e = rw (after4 h e) (omega (arith, length-each (16 ^ h.qubits) number, sixteen-four h.qubits))

pub words5 : (h : Header) → h.kind ≡ 5 → wanted_words h ≡ coordinate_at h h.coordinates
unfolding layout
words5 h e =
    rw (after5 h e)
    (omega (
      arith,
      at5 h e,
      length-append control_roles (model h ++ (records h ++ coordinates h)),
      length-append (model h) (records h ++ coordinates h),
      length-append (records h) (coordinates h),
      length-model h.dimension h.effects h.gates,
      length-records h.records h.effects,
      length-each h.coordinates coordinate,
    ))

pub words6 : (h : Header) → h.kind ≡ 6 → wanted_words h ≡ transform_at h + h.dimension * h.dimension
unfolding layout
words6 h e =
    rw (after6 h e)
    (omega (
      arith,
      at6 h e,
      length-append (model h) (transform h),
      length-model h.dimension h.effects h.gates,
      length-each (h.dimension * h.dimension) number,
    ))

pub words7 : (h : Header) → h.kind ≡ 7 → wanted_words h ≡ record_at h h.records
unfolding layout
words7 h e =
    rw (after7 h e)
    (omega (
      arith,
      at7 h e,
      length-append (model h) (records h),
      length-model h.dimension h.effects h.gates,
      length-records h.records h.effects,
    ))
