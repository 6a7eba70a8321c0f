-- A rotation of classical Jacobi on a Hermitian matrix (Golub and Van Loan, section 8.5): columns p and q are turned, then rows p and q, so that entry (p, q) is zero.
-- Operations and their order are the Rust's.
use Rattle.std.specs.Prelude.{cond, List, ℕ, eqb, Float}
use Rattle.std.specs.Float.Ieee.{neg, le}
use Rattle.numbers.specs.Number.{zero_f, one_f, two_f, ◌+ᶠ◌, ◌-ᶠ◌, ◌*ᶠ◌, ◌/ᶠ◌}
use Rattle.root.specs.Root.{sqrt}
use Rattle.complex.specs.declared.Complex.{Complex}
use Rattle.complex.specs.Arithmetic.{plus, minus, times, scaled, divided, conjugate}
use Rattle.entries.specs.Entries.{entry_at, matrix}
use Rattle.magnitudes.specs.declared.Pivot.{Pivot}
use Rattle.turns.specs.declared.Turn.{Turn}

abbrev pub real : Float → Complex
real x = record { re = x; im = zero_f }

-- the smaller root of t² + 2 tau t = 1
unfoldable pub tangent : Float → Float
tangent tau =
    cond (le zero_f tau)
    (one_f /ᶠ (tau +ᶠ sqrt (one_f +ᶠ tau *ᶠ tau)))
    (neg one_f /ᶠ (neg tau +ᶠ sqrt (one_f +ᶠ tau *ᶠ tau)))

-- the rotation that brings the pivot to zero: cosine, sine, the pivot's phase, and the two diagonal entries after it
unfoldable pub turn_of : ℕ → List Complex → Pivot → Turn
turn_of n a g =
    let app = (entry_at n a g.p g.p).re in
    let aqq = (entry_at n a g.q g.q).re in
    let t = tangent ((aqq -ᶠ app) /ᶠ (two_f *ᶠ g.best)) in
    let c = one_f /ᶠ sqrt (one_f +ᶠ t *ᶠ t) in
    let s = t *ᶠ c in
    record {
      p = g.p;
      q = g.q;
      c = c;
      s = s;
      phase = divided (entry_at n a g.p g.q) g.best;
      pp = c *ᶠ c *ᶠ app +ᶠ s *ᶠ s *ᶠ aqq -ᶠ two_f *ᶠ c *ᶠ s *ᶠ g.best;
      qq = s *ᶠ s *ᶠ app +ᶠ c *ᶠ c *ᶠ aqq +ᶠ two_f *ᶠ c *ᶠ s *ᶠ g.best;
    }

-- x and y being the entries of a row in columns p and q: what they are turned to
unfoldable pub turned_p : Turn → Complex → Complex → Complex
turned_p t x y = minus (scaled (times x t.phase) t.c) (scaled y t.s)

unfoldable pub turned_q : Turn → Complex → Complex → Complex
turned_q t x y = plus (scaled (times x t.phase) t.s) (scaled y t.c)

-- entry (i, j) where columns p and q are turned
unfoldable pub columns_at : ℕ → Turn → List Complex → ℕ → ℕ → Complex
columns_at n t a i j =
    cond (eqb j t.p) (turned_p t (entry_at n a i t.p) (entry_at n a i t.q))
    (cond (eqb j t.q) (turned_q t (entry_at n a i t.p) (entry_at n a i t.q)) (entry_at n a i j))

-- r rows, columns p and q turned: so turn the vectors
unfoldable pub columns_turned : ℕ → ℕ → Turn → List Complex → List Complex
columns_turned r n t a = matrix r n (columns_at n t a)

-- entry (i, j) of the matrix after the rotation: rows p and q are the conjugates of columns p and q
unfoldable pub turned_at : ℕ → Turn → List Complex → ℕ → ℕ → Complex
turned_at n t a i j =
    cond (eqb i t.p) (cond (eqb j t.p) (real t.pp) (cond (eqb j t.q) (real zero_f) (conjugate (columns_at n t a j t.p))))
    (cond (eqb i t.q) (cond (eqb j t.p) (real zero_f) (cond (eqb j t.q) (real t.qq) (conjugate (columns_at n t a j t.q))))
    (columns_at n t a i j))

unfoldable pub turned : ℕ → Turn → List Complex → List Complex
turned n t a = matrix n n (turned_at n t a)
