-- Writing fields and reading them are inverse to each other. Assumes nothing.
use Prim.Native.Nat.{ℕ, ◌+◌, ◌*◌, ◌/◌, ◌%◌, ◌<◌, ◌^◌}
use mathlib.Core.Path.{◌≡◌, ap, ◌∙◌}
use lib.Arith.{digits_div, digits_mod}
use native.Mathlib.Omega.{arith}
use Rattle.card_layout.specs.declared.Header.{Header}
use Rattle.card_layout.specs.declared.Coordinate.{Coordinate}
use Rattle.card_layout.specs.Fields.{header_of, coordinate_of, length_of, rest_of}
use Rattle.card_parts.specs.Writing.{word0_of, coordinate_word, length_word, Sized, SizedCoordinate}

-- ---- Writing what was read gives the word
-- a word by the digits above each field: those above the field before it, and that field
word0-joined : (w a b c d e f g n1 n2 n3 n4 n5 n6 n7 : ℕ) → a * 2 ^ 4 + n1 ≡ b → b * 2 ^ 8 + n2 ≡ c → c * 2 ^ 8 + n3 ≡ d → d * 2 ^ 8 + n4 ≡ e → e * 2 ^ 16 + n5 ≡ f → f * 2 ^ 8 + n6 ≡ g → g * 2 ^ 8 + n7 ≡ w
    → a * 2 ^ 60 + n1 * 2 ^ 56 + n2 * 2 ^ 48 + n3 * 2 ^ 40 + n4 * 2 ^ 32 + n5 * 2 ^ 16 + n6 * 2 ^ 8 + n7 ≡ w
word0-joined w a b c d e f g n1 n2 n3 n4 n5 n6 n7 p1 p2 p3 p4 p5 p6 p7 = omega arith

pub word0-read : (w : ℕ) → w < 2 ^ 64 → word0_of (header_of w) ≡ w
unfolding word0_of
word0-read w h =
    word0-joined w (w / 2 ^ 60 % 2 ^ 4) (w / 2 ^ 56) (w / 2 ^ 48) (w / 2 ^ 40) (w / 2 ^ 32) (w / 2 ^ 16) (w / 2 ^ 8)
    (w / 2 ^ 56 % 2 ^ 4) (w / 2 ^ 48 % 2 ^ 8) (w / 2 ^ 40 % 2 ^ 8) (w / 2 ^ 32 % 2 ^ 8) (w / 2 ^ 16 % 2 ^ 16) (w / 2 ^ 8 % 2 ^ 8) (w % 2 ^ 8)
    (omega arith) (omega arith) (omega arith) (omega arith) (omega arith) (omega arith) (omega arith)

coordinate-joined : (w a b c n1 n2 n3 : ℕ) → a * 2 ^ 12 + n1 ≡ b → b * 2 ^ 24 + n2 ≡ c → c * 2 ^ 24 + n3 ≡ w → a * 2 ^ 60 + n1 * 2 ^ 48 + n2 * 2 ^ 24 + n3 ≡ w
coordinate-joined w a b c n1 n2 n3 p1 p2 p3 = omega arith

pub coordinate-read : (w : ℕ) → w < 2 ^ 64 → coordinate_word (coordinate_of w) ≡ w
unfolding coordinate_word
coordinate-read w h =
    coordinate-joined w (w / 2 ^ 60 % 2 ^ 4) (w / 2 ^ 48) (w / 2 ^ 24) (w / 2 ^ 48 % 2 ^ 12) (w / 2 ^ 24 % 2 ^ 24) (w % 2 ^ 24)
    (omega arith) (omega arith) (omega arith)

-- of a record's first word, where the bits below the length are zero
pub length-read : (w : ℕ) → w < 2 ^ 64 → rest_of w ≡ 0 → length_word (length_of w) ≡ w
unfolding length_word
length-read w h z = omega arith

-- ---- Reading what was written gives the fields, if each is within its bits: so two such headers with one word are the same
-- the digit f < b at B, with `hi` above it and `lo` below
digit : (w hi f lo B b : ℕ) → w ≡ (hi * b + f) * B + lo → f < b → lo < B → w / B % b ≡ f
digit w hi f lo B b e h l = rw e (ap (λ (x : ℕ). x % b) (digits_div (hi * b + f) {m = B} {r = lo} l) ∙ digits_mod hi {m = b} {r = f} h)

last : (w hi f b : ℕ) → w ≡ hi * b + f → f < b → w % b ≡ f
last w hi f b e h = rw e (digits_mod hi {m = b} {r = f} h)

abbrev header : ℕ → ℕ → ℕ → ℕ → ℕ → ℕ → ℕ → ℕ → Header
header k n d e g r c z = record { kind = k; qubits = n; dimension = d; effects = e; gates = g; records = r; coordinates = c; rest = z }

same-header : {k n d e g r c z k' n' d' e' g' r' c' z' : ℕ} → k ≡ k' → n ≡ n' → d ≡ d' → e ≡ e' → g ≡ g' → r ≡ r' → c ≡ c' → z ≡ z' → header k n d e g r c z ≡ header k' n' d' e' g' r' c' z'
same-header p q t u v w x y = rw (p, q, t, u, v, w, x, y)

abbrev coordinate : ℕ → ℕ → ℕ → ℕ → Coordinate
coordinate k w r c = record { kind = k; which = w; row = r; column = c }

same-coordinate : {k w r c k' w' r' c' : ℕ} → k ≡ k' → w ≡ w' → r ≡ r' → c ≡ c' → coordinate k w r c ≡ coordinate k' w' r' c'
same-coordinate p q t u = rw (p, q, t, u)

pub read-word0 : (h : Header) → Sized h → header_of (word0_of h) ≡ h
unfolding word0_of
read-word0 h s =
    let k = h.kind in
    let n = h.qubits in
    let d = h.dimension in
    let e = h.effects in
    let g = h.gates in
    let r = h.records in
    let c = h.coordinates in
    let z = h.rest in
    same-header
    (digit _ 0 k (n * 2 ^ 56 + d * 2 ^ 48 + e * 2 ^ 40 + g * 2 ^ 32 + r * 2 ^ 16 + c * 2 ^ 8 + z) (2 ^ 60) (2 ^ 4) (omega arith) s.kind (omega arith))
    (digit _ k n (d * 2 ^ 48 + e * 2 ^ 40 + g * 2 ^ 32 + r * 2 ^ 16 + c * 2 ^ 8 + z) (2 ^ 56) (2 ^ 4) (omega arith) s.qubits (omega arith))
    (digit _ (k * 2 ^ 4 + n) d (e * 2 ^ 40 + g * 2 ^ 32 + r * 2 ^ 16 + c * 2 ^ 8 + z) (2 ^ 48) (2 ^ 8) (omega arith) s.dimension (omega arith))
    (digit _ (k * 2 ^ 12 + n * 2 ^ 8 + d) e (g * 2 ^ 32 + r * 2 ^ 16 + c * 2 ^ 8 + z) (2 ^ 40) (2 ^ 8) (omega arith) s.effects (omega arith))
    (digit _ (k * 2 ^ 20 + n * 2 ^ 16 + d * 2 ^ 8 + e) g (r * 2 ^ 16 + c * 2 ^ 8 + z) (2 ^ 32) (2 ^ 8) (omega arith) s.gates (omega arith))
    (digit _ (k * 2 ^ 28 + n * 2 ^ 24 + d * 2 ^ 16 + e * 2 ^ 8 + g) r (c * 2 ^ 8 + z) (2 ^ 16) (2 ^ 16) (omega arith) s.records (omega arith))
    (digit _ (k * 2 ^ 44 + n * 2 ^ 40 + d * 2 ^ 32 + e * 2 ^ 24 + g * 2 ^ 16 + r) c z (2 ^ 8) (2 ^ 8) (omega arith) s.coordinates (omega arith))
    (last _ (k * 2 ^ 52 + n * 2 ^ 48 + d * 2 ^ 40 + e * 2 ^ 32 + g * 2 ^ 24 + r * 2 ^ 8 + c) z (2 ^ 8) (omega arith) s.rest)

pub read-coordinate : (c : Coordinate) → SizedCoordinate c → coordinate_of (coordinate_word c) ≡ c
unfolding coordinate_word
read-coordinate c s =
    let k = c.kind in
    let w = c.which in
    let r = c.row in
    let x = c.column in
    same-coordinate
    (digit _ 0 k (w * 2 ^ 48 + r * 2 ^ 24 + x) (2 ^ 60) (2 ^ 4) (omega arith) s.kind (omega arith))
    (digit _ k w (r * 2 ^ 24 + x) (2 ^ 48) (2 ^ 12) (omega arith) s.which (omega arith))
    (digit _ (k * 2 ^ 12 + w) r x (2 ^ 24) (2 ^ 24) (omega arith) s.row (omega arith))
    (last _ (k * 2 ^ 36 + w * 2 ^ 24 + r) x (2 ^ 24) (omega arith) s.column)

pub read_length : (n : ℕ) → n < 2 ^ 8 → (length_of (length_word n) ≡ n) × (rest_of (length_word n) ≡ 0)
unfolding length_word
read_length n h = (digit _ 0 n 0 (2 ^ 56) (2 ^ 8) (omega arith) h (omega arith), last _ n 0 (2 ^ 56) (omega arith) (omega arith))
