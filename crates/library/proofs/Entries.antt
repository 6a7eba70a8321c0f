-- The verdicts of the library's entries, and their outcomes carried from a call to its caller. Assumes nothing.
use Rattle.std.proofs.Common.{Err, Ok}
use Rattle.std.specs.Result.{IsErrAnd}
use Rattle.refusal.specs.Verdicts.{good, Verdict, first_of, after}
use Prim.Native.Nat.{ℕ, ◌^◌, ◌≤◌, ◌<◌}
use mathlib.Core.Bool.{cond}
use mathlib.Core.Path.{◌≡◌, refl, sym, ap, subst, ◌∙◌}
use mathlib.Core.List.{List, [], ◌++◌}
use native.Mathlib.Nat.{pos_of_ne-zero}
use native.Mathlib.Omega.{arith}
use borrow.Author.Tests.{ltb-false, eqb-false, le-leb, lt-leb, leb-false}
use lib.Dec.{eqb, leb, ltb}
use lib.ListN.{length, drop}
use lib.Ieee.{Float}
use Rattle.lists.proofs.Choices.{yes, no}
use Rattle.sizes.proofs.Small.{four-most}
use Rattle.booleans.proofs.Joined.{neither}
use Rattle.refusal.specs.declared.Refusal.{Refusal}
use Rattle.refusal.specs.declared.Refusal.TheVariants.{InvalidCard}
use Rattle.refusal.proofs.Verdicts.{passed, both-good}
use Rattle.matrix.specs.Product.{mat_vec_of}
use Rattle.transfer.specs.Apply.{applied_of, applied_numbers}
use Rattle.transfer.proofs.Applied.{good-numbers}
use Rattle.choi.specs.Choi.{choi_of, normalized_choi, choi_numbers}
use Rattle.choi.proofs.Values.{good-choi}
use Rattle.outcome.specs.declared.Answer.{Answer}
use Rattle.outcome.specs.Outcome.{Answered, shown, Gives}
use Rattle.outcome.proofs.Outcomes.{returned, not-shown, is-shown}
use Rattle.library.specs.Entries.{qubits_of, setting_verdict, apply_verdict, apply_numbers, choi_verdict, choi_left}

-- ---- the number of qubits

module _ (most n : ℕ) where
  pub some : good ≡ qubits_of most n → 1 ≤ n
  unfolding qubits_of
  some e = pos_of_ne-zero (eqb-false n 0 (neither (eqb n 0) (ltb most n) (passed _ _ _ e).0).0)

  pub few : good ≡ qubits_of most n → n ≤ most
  unfolding qubits_of
  few e = ltb-false most n (neither (eqb n 0) (ltb most n) (passed _ _ _ e).0).1

-- ---- an entry: v is its verdict, as the call w gave it

module _ {v w : Verdict} (answer : ℕ → Answer) (n : ℕ) (words : List ℕ) {result₀ : List ℕ} (e : w ≡ v) where
  pub entry-refused : {r : Refusal} {a : Answered} → IsErrAnd a (λ q. q ≡ r) → w ≡ Err r → Gives (shown v (answer n) words) result₀ result₀ a
  entry-refused {r = r} i f = returned result₀ i (not-shown v (answer n) words w r e f)

  pub entry-shown : {count : ℕ} {result₁ : List ℕ} → count ≡ n → w ≡ good → result₁ ≡ words ++ drop (length words) result₀ → Gives (shown v (answer n) words) result₀ result₁ (Ok (answer count))
  entry-shown {result₁ = result₁} k f p =
      subst (λ (m : ℕ). Gives (shown v (answer n) words) result₀ result₁ (Ok (answer m))) (sym k) (is-shown v (answer n) words w result₀ result₁ e f p)

-- ---- settings

module _ (n index : ℕ) where
  pub setting-refused : (w : Verdict) (r : Refusal) → w ≡ qubits_of 3 n → w ≡ Err r → Err r ≡ setting_verdict n index
  unfolding setting_verdict
  setting-refused w r e f = ap (λ (x : Verdict). first_of x (cond (leb (3 ^ n) index) (Err (InvalidCard index)) good)) (sym f ∙ e)

  -- the number of qubits is good, and the index decides
  setting-by : good ≡ qubits_of 3 n → cond (leb (3 ^ n) index) (Err (InvalidCard index)) good ≡ setting_verdict n index
  unfolding setting_verdict
  setting-by e = ap (λ (x : Verdict). first_of x (cond (leb (3 ^ n) index) (Err (InvalidCard index)) good)) e

  pub setting-absent : (count : ℕ) → good ≡ qubits_of 3 n → count ≡ 3 ^ n → count ≤ index → Err (InvalidCard index) ≡ setting_verdict n index
  setting-absent count e c h = yes good (le-leb (3 ^ n) index (rw (← c) h)) ∙ setting-by e

  pub setting-there : (count : ℕ) → good ≡ qubits_of 3 n → count ≡ 3 ^ n → index < count → good ≡ setting_verdict n index
  setting-there count e c h = no (Err (InvalidCard index)) (lt-leb (3 ^ n) index (rw (← c) h)) refl ∙ setting-by e

  pub setting-in : good ≡ setting_verdict n index → (n ≤ 3) × (index < 3 ^ n)
  unfolding setting_verdict
  setting-in e =
      let b = both-good (qubits_of 3 n) (cond (leb (3 ^ n) index) (Err (InvalidCard index)) good) e in
      (few 3 n b.0, leb-false (3 ^ n) index (passed _ _ _ b.1).0)

-- ---- transfer matrices

pub size-two : (n p : ℕ) → n ≤ 2 → p ≡ 4 ^ n → p ≤ 16
size-two n p h e = omega (arith, four-most n h, e)

-- the number of qubits is tested first: v is the verdict that follows, and the numbers are what is computed then
first-few : (most n : ℕ) (v : Verdict) → good ≡ first_of (qubits_of most n) v → n ≤ most
first-few most n v e = few most n (both-good (qubits_of most n) v e).0

module _ (most n : ℕ) (v : Verdict) (numbers : List Float) where
  first-refused : (w : Verdict) (r : Refusal) → w ≡ qubits_of most n → w ≡ Err r → (Err r ≡ first_of (qubits_of most n) v) × ([] ≡ after (qubits_of most n) (λ _. []) numbers)
  first-refused w r e f = (ap (λ (x : Verdict). first_of x v) (sym f ∙ e), ap (λ (x : Verdict). after x (λ _. []) numbers) (sym f ∙ e))

  goes_on : good ≡ qubits_of most n → (v ≡ first_of (qubits_of most n) v) × (numbers ≡ after (qubits_of most n) (λ _. []) numbers)
  goes_on g = (ap (λ (x : Verdict). first_of x v) g, ap (λ (x : Verdict). after x (λ _. []) numbers) g)

  computed : (shown : List Float) → (good ≡ v → shown ≡ numbers) → good ≡ first_of (qubits_of most n) v → shown ≡ after (qubits_of most n) (λ _. []) numbers
  computed shown f e =
      let b = both-good (qubits_of most n) v e in
      f b.1 ∙ (goes_on b.0).1

-- ---- a transfer matrix applied

module _ (n : ℕ) (values input : List Float) where
  pub apply-refused : (w : Verdict) (r : Refusal) → w ≡ qubits_of 2 n → w ≡ Err r → (Err r ≡ apply_verdict n values input) × ([] ≡ apply_numbers n values input)
  unfolding apply_verdict apply_numbers
  apply-refused = first-refused 2 n (applied_of (4 ^ n) values input) (applied_numbers (4 ^ n) values input)

  pub apply-goes-on : (p : ℕ) → good ≡ qubits_of 2 n → p ≡ 4 ^ n → (applied_of p values input ≡ apply_verdict n values input) × (applied_numbers p values input ≡ apply_numbers n values input)
  unfolding apply_verdict apply_numbers
  apply-goes-on p g e =
      let o = goes_on 2 n (applied_of (4 ^ n) values input) (applied_numbers (4 ^ n) values input) g in
      (ap (λ (k : ℕ). applied_of k values input) e ∙ o.0, ap (λ (k : ℕ). applied_numbers k values input) e ∙ o.1)

  pub apply-few : good ≡ apply_verdict n values input → n ≤ 2
  unfolding apply_verdict
  apply-few = first-few 2 n (applied_of (4 ^ n) values input)

  pub apply-numbers : good ≡ apply_verdict n values input → mat_vec_of (4 ^ n) values input ≡ apply_numbers n values input
  unfolding apply_verdict apply_numbers
  apply-numbers = computed 2 n (applied_of (4 ^ n) values input) (applied_numbers (4 ^ n) values input) (mat_vec_of (4 ^ n) values input) (good-numbers (4 ^ n) values input)

-- ---- a Choi matrix

module _ (n : ℕ) (values : List Float) where
  pub choi-refused : (w : Verdict) (r : Refusal) → w ≡ qubits_of 2 n → w ≡ Err r → (Err r ≡ choi_verdict n values) × ([] ≡ choi_left n values)
  unfolding choi_verdict choi_left
  choi-refused = first-refused 2 n (normalized_choi n values) (choi_numbers n values)

  pub choi-goes-on : good ≡ qubits_of 2 n → (normalized_choi n values ≡ choi_verdict n values) × (choi_numbers n values ≡ choi_left n values)
  unfolding choi_verdict choi_left
  choi-goes-on = goes_on 2 n (normalized_choi n values) (choi_numbers n values)

  pub choi-few : good ≡ choi_verdict n values → n ≤ 2
  unfolding choi_verdict
  choi-few = first-few 2 n (normalized_choi n values)

  pub choi-numbers : good ≡ choi_verdict n values → choi_of n values ≡ choi_left n values
  unfolding choi_verdict choi_left
  choi-numbers = computed 2 n (normalized_choi n values) (choi_numbers n values) (choi_of n values) (good-choi n values)
