-- A rotation in steps: row by row, columns p and q with rows p and q beside them, then the four entries where they meet.
use Rattle.std.specs.Prelude.{List, ℕ, ◌+◌, ◌*◌, set}
use Rattle.numbers.specs.Number.{zero_f}
use Rattle.complex.specs.declared.Complex.{Complex}
use Rattle.complex.specs.Arithmetic.{conjugate}
use Rattle.entries.specs.Entries.{entry_at}
use Rattle.turns.specs.declared.Turn.{Turn}
use Rattle.turns.specs.Rotation.{real, turned_p, turned_q}

-- entries (i, q) and (i, p)
unfoldable pub row_turned : ℕ → Turn → ℕ → List Complex → List Complex
row_turned n t i a =
    set (set a (i * n + t.q) (turned_q t (entry_at n a i t.p) (entry_at n a i t.q))) (i * n + t.p)
    (turned_p t (entry_at n a i t.p) (entry_at n a i t.q))

-- entries (i, q) and (i, p), and their conjugates in (q, i) and (p, i)
unfoldable pub row_rotated : ℕ → Turn → ℕ → List Complex → List Complex
row_rotated n t i a =
    let u = turned_p t (entry_at n a i t.p) (entry_at n a i t.q) in
    let w = turned_q t (entry_at n a i t.p) (entry_at n a i t.q) in
    set (set (row_turned n t i a) (t.q * n + i) (conjugate w)) (t.p * n + i) (conjugate u)

-- the four entries where rows and columns p and q meet
unfoldable pub crossed : ℕ → Turn → List Complex → List Complex
crossed n t a =
    set (set (set (set a (t.q * n + t.q) (real t.qq)) (t.q * n + t.p) (real zero_f)) (t.p * n + t.q) (real zero_f)) (t.p * n + t.p) (real t.pp)
