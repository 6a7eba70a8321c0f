-- Lists joined one after the other, and the loops that write them so. Assumes nothing.
use mathlib.Core.Path.{◌≡◌, refl, sym, ap, ◌∙◌}
use mathlib.Core.List.{List, [], ◌++◌, append_assoc, append-nil}
use mathlib.Core.Logic.{⊎_elim}
use Prim.Native.Nat.{ℕ, zero, suc, ◌+◌, ◌-◌, ◌*◌, ◌<◌}
use native.Mathlib.Nat.{suc-mul, zero-mul, not-suc-le-zero, eq-or-lt_of_le, le_of_suc-le-suc}
use native.Mathlib.Numerals.{add-one}
use native.Mathlib.Omega.{arith}
use lib.ListN.{length, get_or, take, drop, length-append, length-drop, drop_of_length-le}
use lib.Seq.{take_all, take_at, drop_at, drop-drop, get_or-append-add, get_or-take, get_or-drop}
use Rattle.lists.specs.Build.{over, joined}
use Rattle.lists.specs.Part.{part}

module _ {A : Type 0} where
  -- all of a list from p on, as it is lent, and what is beyond it
  pub rest-lent : (p e : ℕ) (l : List A) → e ≡ length l → take (e - p) (drop p l) ≡ drop p l
  rest-lent p e l h = take_all (e - p) (drop p l) (omega (arith, length-drop p l))

  rest-beyond : (p e : ℕ) (l : List A) → e ≡ length l → drop (e - p) (drop p l) ≡ []
  rest-beyond p e l h = drop_of_length-le (drop p l) {i = e - p} (omega (arith, length-drop p l))

  -- a was written over the front of l; the rest, `p..`, was lent, and x was written over its front
  pub over-onto : (a x l : List A) (p e : ℕ) (out ys : List A) → length a ≡ p → e ≡ length out → out ≡ over a l → ys ≡ over x (take (e - p) (drop p out))
      → take p out ++ (ys ++ drop (e - p) (drop p out)) ≡ over (a ++ x) l
  over-onto a x l p e out ys k h o y =
      rw (rest-beyond p e out h, append-nil, y, rest-lent p e out h, o, take_at a (drop (length a) l) p k, drop_at a (drop (length a) l) p k, drop-drop, length-append, append_assoc)

  -- lists of w entries each
  pub length-joined : (n w : ℕ) (f : ℕ → List A) → ((i : ℕ) → i < n → length (f i) ≡ w) → length (joined n f) ≡ n * w
  unfolding joined
  length-joined zero w f h = rw zero-mul
  length-joined (suc n) w f h =
      let a : length (joined n f) ≡ n * w = length-joined n w f (λ i l. h i (omega arith)) in
      let b : length (f n) ≡ w = h n (omega arith) in
      omega (arith, length-append (joined n f) (f n), suc-mul n w)

  -- one of them, whatever follows
  pub part-joined : (n w i : ℕ) (f : ℕ → List A) (r : List A) → ((j : ℕ) → length (f j) ≡ w) → i < n → part (i * w) w (joined n f ++ r) ≡ f i
  unfolding joined
  part-joined zero w i f r h l = absurd (not-suc-le-zero l)
  part-joined (suc n) w i f r h l = rw append_assoc (⊎_elim last (λ (q : i < n). part-joined n w i f (f n ++ r) h q) (eq-or-lt_of_le (le_of_suc-le-suc l)))
    where
      last : i ≡ n → part (i * w) w (joined n f ++ (f n ++ r)) ≡ f i
      last q = rw (q, drop_at (joined n f) (f n ++ r) (n * w) (length-joined n w f (λ j _. h j)), take_at (f n) r w (h n))

  -- entry j of list i
  pub joined-entry : (z : A) (n w i j : ℕ) (f : ℕ → List A) → ((k : ℕ) → length (f k) ≡ w) → i < n → j < w → get_or (joined n f) (i * w + j) z ≡ get_or (f i) j z
  joined-entry z n w i j f h l k =
      sym (get_or-drop (i * w) (joined n f) j z)
      ∙ sym (get_or-take w (drop (i * w) (joined n f)) j z k)
      ∙ ap (λ (x : List A). get_or (part (i * w) w x) j z) (sym (append-nil (joined n f)))
      ∙ ap (λ (x : List A). get_or x j z) (part-joined n w i f [] h l)

  -- entry i of what follows a list of n
  pub behind : (z : A) (x y : List A) (n i : ℕ) → length x ≡ n → get_or (x ++ y) (n + i) z ≡ get_or y i z
  behind z x y n i e = ap (λ (k : ℕ). get_or (x ++ y) (k + i) z) (sym e) ∙ get_or-append-add x y i z

  -- a loop that writes them: what stands in l after i turns
  abbrev pub Written : (ℕ → List A) → List A → ℕ → List A → Type 0
  Written f l i out = out ≡ over (joined i f) l

  pub written_none : (f : ℕ → List A) (l : List A) → Written f l 0 l
  unfolding joined
  written_none f l = refl

  pub written-more : (f : ℕ → List A) (l : List A) (i p e : ℕ) (out x ys : List A) → length (joined i f) ≡ p → e ≡ length out → Written f l i out → x ≡ f i → ys ≡ over x (take (e - p) (drop p out))
      → Written f l (i + 1) (take p out ++ (ys ++ drop (e - p) (drop p out)))
  unfolding joined
  written-more f l i p e out x ys k h o g y = over-onto (joined i f) x l p e out ys k h o y ∙ rw (add-one, g)

  -- the same, where only the place of list i was lent, `p..e`
  pub written-part : (f : ℕ → List A) (l : List A) (i w p e : ℕ) (out ys : List A) → length (joined i f) ≡ p → e ≡ p + w → length (f i) ≡ w → Written f l i out → ys ≡ f i
      → Written f l (i + 1) (take p out ++ (ys ++ drop (e - p) (drop p out)))
  unfolding joined
  written-part f l i w p e out ys k h g o y =
      let q : e - p ≡ w = omega arith in
      rw (q, y, o, take_at (joined i f) (drop (length (joined i f)) l) p k, drop_at (joined i f) (drop (length (joined i f)) l) p k, drop-drop, add-one, length-append, g, append_assoc)

  pub written-end : (f : ℕ → List A) (l : List A) (i n : ℕ) (out : List A) → i ≡ n → Written f l i out → Written f l n out
  written-end f l i n out h o = rw (← h) o
