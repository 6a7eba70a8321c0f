-- The places are those of the layout: at `record_at h r` a record stands, at `gate_at h g` a gate's numbers, and so on. Assumes nothing.
use Prim.Native.Nat.{ℕ, zero, suc, ◌+◌, ◌*◌, ◌-◌, ◌≤◌, ◌<◌}
use mathlib.Core.Path.{◌≡◌, refl, sym, ap, ◌∙◌}
use mathlib.Core.Bool.{false}
use mathlib.Core.Logic.{⊎_elim}
use mathlib.Core.List.{List, [], ◌∷◌, ◌++◌, append_assoc, append-nil}
use native.Mathlib.Nat.{add-zero, add-suc}
use native.Mathlib.Omega.{arith}
use lib.ListN.{length, length-append, get_or, get_or-append}
use lib.Seq.{get_or-append-add}
use Rattle.card_layout.specs.declared.Header.{Header}
use Rattle.card_layout.specs.Rules.{word0_breaks}
use Rattle.card_layout.specs.Layout.{Role, word0, number, name, coordinate, control_roles, times, numbers, model_roles, record_roles, layout}
use Rattle.card_layout.proofs.Lengths.{length-times, length-each, length-vectors, length-model, length-record, length-records}
use Rattle.card_layout.proofs.EachKind.{effects-kind, gates-kind, records-kind, coordinates-kind, model-kind}
use Rattle.card_places.specs.Places.{model_at, state_at, effect_at, gate_name_at, after_model, transform_at, record_at, coordinate_at}
use Rattle.card_places.proofs.ByKind.{model, records, coordinates, transform, after5, after6, after7, at5, at6, at7}

-- `part` stands in l at place p
pub record Stands (l : List Role) (p : ℕ) (part : List Role) : Type 0 where
  pub front : List Role
  pub back : List Role
  pub whole : l ≡ front ++ (part ++ back)
  pub place : length front ≡ p

-- a part of a part
pub inside : {l m part : List Role} {p q : ℕ} (r : ℕ) → Stands l p m → Stands m q part → p + q ≡ r → Stands l r part
inside {part = part} r a b e =
    record {
      front = a.front ++ b.front;
      back = b.back ++ a.back;
      whole =
          a.whole
          ∙ rw (b.whole, append_assoc b.front (part ++ b.back) a.back, append_assoc part b.back a.back)
          (sym (append_assoc a.front b.front (part ++ (b.back ++ a.back))));
      place = omega (arith, length-append a.front b.front, a.place, b.place);
    }

-- the first of two parts, and the second
pub first : (a b : List Role) → Stands (a ++ b) 0 a
first a b = record { front = []; back = b; whole = refl; place = refl }

pub second : (a b : List Role) (p : ℕ) → length a ≡ p → Stands (a ++ b) p b
second a b p e = record { front = a; back = []; whole = ap (λ (x : List Role). a ++ x) (sym (append-nil b)); place = e }

-- one of n equal parts
times-add : (a b : ℕ) (l : List Role) → times (a + b) l ≡ times a l ++ times b l
unfolding times
times-add a zero l = rw (add-zero a) (sym (append-nil (times a l)))
times-add a (suc b) l = rw (add-suc a b, times-add a b l) (append_assoc (times a l) (times b l) l)

times-front : (n : ℕ) (l : List Role) → times (suc n) l ≡ l ++ times n l
unfolding times
times-front zero l = sym (append-nil l)
times-front (suc n) l = ap (λ (x : List Role). x ++ l) (times-front n l) ∙ append_assoc l (times n l) l

pub among : (n i : ℕ) (l : List Role) (p : ℕ) → i < n → i * length l ≡ p → Stands (times n l) p l
among n i l p h e =
    let k : n ≡ i + suc (n - suc i) = omega arith in
    record {
      front = times i l;
      back = times (n - suc i) l;
      whole =
          ap (λ (m : ℕ). times m l) k
          ∙ times-add i (suc (n - suc i)) l
          ∙ ap (λ (x : List Role). times i l ++ x) (times-front (n - suc i) l);
      place = length-times i l ∙ e;
    }

-- a part is within the whole, and its roles are the whole's
pub stands-fits : {l part : List Role} {p : ℕ} → Stands l p part → p + length part ≤ length l
stands-fits {part = part} a =
    omega (arith, a.place, ap length a.whole, length-append a.front (part ++ a.back), length-append part a.back)

pub stands-role : {l part : List Role} {p : ℕ} → Stands l p part → (z : Role) (j : ℕ) → j < length part → get_or l (p + j) z ≡ get_or part j z
stands-role {part = part} {p = p} a z j h =
    ap (λ (x : List Role). get_or x (p + j) z) a.whole
    ∙ ap (λ (n : ℕ). get_or (a.front ++ (part ++ a.back)) (n + j) z) (sym a.place)
    ∙ get_or-append-add a.front (part ++ a.back) j z
    ∙ get_or-append part a.back z j h

-- ---- The parts of a card
-- what stands after word 0, l being the words there
laid : (a b c l : List Role) (p : ℕ) (w : List Role) → w ≡ word0 ∷ l → l ≡ a ++ (b ++ c) → suc (length a) ≡ p → Stands w p b
laid a b c l p w v e q = record { front = word0 ∷ a; back = c; whole = v ∙ ap (λ (x : List Role). word0 ∷ x) e; place = q }

module _ (h : Header) where
  pub controls-stand : h.kind ≡ 5 → Stands (layout h) 1 control_roles
  unfolding layout
  controls-stand e = laid [] control_roles _ _ 1 (layout h) refl (after5 h e) refl

  -- what follows the model, in kinds 5, 6 and 7
  pub after5-stands : h.kind ≡ 5 → Stands (layout h) (after_model h) (records h ++ coordinates h)
  unfolding layout
  after5-stands e =
      laid (control_roles ++ model h) (records h ++ coordinates h) [] _ (after_model h) (layout h) refl
      (after5 h e ∙ ap (λ (x : List Role). control_roles ++ (model h ++ x)) (sym (append-nil (records h ++ coordinates h))))
      (omega (arith, at5 h e, length-append control_roles (model h), length-model h.dimension h.effects h.gates))

  pub transform-stands : h.kind ≡ 6 → Stands (layout h) (transform_at h) (transform h)
  unfolding layout
  transform-stands e =
      laid (model h) (transform h) [] _ (transform_at h) (layout h) refl
      (after6 h e ∙ ap (λ (x : List Role). model h ++ x) (sym (append-nil (transform h))))
      (omega (arith, at6 h e, length-model h.dimension h.effects h.gates))

  pub after7-stands : h.kind ≡ 7 → Stands (layout h) (after_model h) (records h)
  unfolding layout
  after7-stands e =
      laid (number ∷ model h) (records h) [] _ (after_model h) (layout h) refl
      (after7 h e ∙ ap (λ (x : List Role). number ∷ (model h ++ x)) (sym (append-nil (records h))))
      (omega (arith, at7 h e, length-model h.dimension h.effects h.gates))

  module _ (rule : word0_breaks h ≡ false) where
    pub model-stands : 5 ≤ h.kind → Stands (layout h) (model_at h) (model h)
    unfolding layout
    model-stands k =
        ⊎_elim
        (λ (e : h.kind ≡ 5). laid control_roles (model h) _ _ (model_at h) (layout h) refl (after5 h e) (sym (at5 h e)))
        (λ x.
        ⊎_elim
        (λ (e : h.kind ≡ 6). laid [] (model h) _ _ (model_at h) (layout h) refl (after6 h e) (sym (at6 h e)))
        (λ (e : h.kind ≡ 7). laid (number ∷ []) (model h) _ _ (model_at h) (layout h) refl (after7 h e) (sym (at7 h e)))
        x)
        (model-kind h rule k)

    pub state-stands : 5 ≤ h.kind → Stands (layout h) (state_at h) (numbers h.dimension)
    unfolding model_roles
    state-stands k = inside (state_at h) (model-stands k) (first (numbers h.dimension) _) (omega arith)

    pub effect-stands : (k : ℕ) → k < h.effects → Stands (layout h) (effect_at h k) (numbers h.dimension)
    unfolding model_roles
    effect-stands k l =
        let d = h.dimension in
        inside (effect_at h k) (model-stands (effects-kind h rule (omega arith)))
        (inside (d + k * d) (second (numbers d) _ d (length-each d number))
        (inside (k * d) (first (times h.effects (numbers d)) _) (among h.effects k (numbers d) (k * d) l (ap (λ (x : ℕ). k * x) (length-each d number))) (omega arith))
        refl)
        (omega arith)

    -- a gate: its name, then its numbers
    pub gate-stands : (g : ℕ) → g < h.gates → Stands (layout h) (gate_name_at h g) (name ∷ numbers (h.dimension * h.dimension))
    unfolding model_roles
    gate-stands g l =
        let d = h.dimension in
        let w = 1 + d * d in
        inside (gate_name_at h g) (model-stands (gates-kind h rule (omega arith)))
        (inside (d + (h.effects * d + g * w)) (second (numbers d) _ d (length-each d number))
        (inside (h.effects * d + g * w) (second (times h.effects (numbers d)) _ (h.effects * d) (length-vectors h.effects d))
        (among h.gates g (name ∷ numbers (d * d)) (g * w) l (ap (λ (x : ℕ). g * x) (omega (arith, length-each (d * d) number)))) refl)
        refl)
        (omega arith)

    pub record-stands : (r : ℕ) → r < h.records → Stands (layout h) (record_at h r) (record_roles h.effects)
    record-stands r l =
        let w = 5 + h.effects in
        let part = among h.records r (record_roles h.effects) (r * w) l (ap (λ (x : ℕ). r * x) (length-record h.effects)) in
        ⊎_elim
        (λ (e : h.kind ≡ 5). inside (record_at h r) (after5-stands e) (inside (r * w) (first (records h) (coordinates h)) part (omega arith)) refl)
        (λ (e : h.kind ≡ 7). inside (record_at h r) (after7-stands e) part refl)
        (records-kind h rule (omega arith))

    pub coordinate-stands : (c : ℕ) → c < h.coordinates → Stands (layout h) (coordinate_at h c) (coordinate ∷ [])
    coordinate-stands c l =
        let w = h.records * (5 + h.effects) in
        inside (coordinate_at h c) (after5-stands (coordinates-kind h rule (omega arith)))
        (inside (w + c) (second (records h) (coordinates h) w (length-records h.records h.effects)) (among h.coordinates c (coordinate ∷ []) c l (omega arith)) refl)
        (omega arith)
