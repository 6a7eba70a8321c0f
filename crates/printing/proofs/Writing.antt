-- Writes one after the other, lines one after the other, and a word's digits. Assumes nothing.
use Rattle.std.specs.Simd.{first_chunks}
use Rattle.std.proofs.Common.{ℕ, zero, suc, ◌+◌, ◌*◌, ◌<◌, ◌≤◌, get_or, ◌-◌, ◌^◌, List, [], ◌∷◌, ◌++◌, ◌≡◌, ap, refl, subst, ◌∙◌, sym, false, length, replicate, arith, append-nil}
use Rattle.std.specs.declared.option.Option.{Option}
use Rattle.std.specs.Fmt.{padded_integral, format_spec, char_count}
use Rattle.std.proofs.KnownBytes.{Appends-nil, Appends-trans}
use Rattle.std.proofs.lemmas.Grind.{flat_map-append}
use Rattle.lists.specs.Build.{build}
use Rattle.lists.proofs.Filling.{build-none, build-suc}
use Rattle.printing.specs.declared.output.Output.{Output}
use Rattle.printing.specs.Outputs.{error_of, Writes}
use Rattle.printing.specs.Text.{lines_text}

module _ {W : Type 0} {contents : W → Option (List ℕ)} where
  pub writes_nothing : (o : Output W) → Writes contents o o []
  writes_nothing o = record { whole = λ h. h; text = λ _. Appends-nil _; kept = λ _ _. refl }

  pub writes_both : {o p q : Output W} {bs cs : List ℕ} → Writes contents o p bs → Writes contents p q cs → Writes contents o q (bs ++ cs)
  writes_both a b = record {
    whole = λ h. a.whole (b.whole h);
    text = λ h. Appends-trans _ _ _ _ _ (a.text (b.whole h)) (b.text h);
    kept = λ e h. b.kept e (ap error_of (a.kept e h) ∙ h) ∙ a.kept e h;
  }

-- what `{:016x}` writes
pub zeros_padded : (ds : List ℕ) → padded_integral (format_spec 32 0 4 16 (2 ^ 64 - 1)) false [] ds ≡ replicate (16 - length ds) 48 ++ ds
unfolding padded_integral char_count
zeros_padded ds = let short : 16 - length ds - 0 - 0 ≡ 16 - length ds = omega arith in rw (short, append-nil ds)

lines_more : (n : ℕ) (line : ℕ → List ℕ) → lines_text (build (n + 1) line) ≡ lines_text (build n line) ++ (line n ++ 10 ∷ [])
lines_more n line =
    ap lines_text (build-suc n line)
    ∙ flat_map-append (λ l. l ++ 10 ∷ []) (build n line) (line n ∷ [])
    ∙ ap (λ t. lines_text (build n line) ++ t) (append-nil _)

module _ {W : Type 0} {contents : W → Option (List ℕ)} where
  -- no line yet
  pub writes_no_line : (o : Output W) (line : ℕ → List ℕ) → Writes contents o o (lines_text (build 0 line))
  writes_no_line o line = subst (Writes contents o o) (ap lines_text (sym (build-none line))) (writes_nothing o)

  -- one line more
  pub writes_one_more : {o p q : Output W} (n : ℕ) (line : ℕ → List ℕ) → Writes contents o p (lines_text (build n line)) → Writes contents p q (line n ++ 10 ∷ [])
      → Writes contents o q (lines_text (build (n + 1) line))
  writes_one_more {o = o} {q = q} n line a b = subst (Writes contents o q) (sym (lines_more n line)) (writes_both a b)

-- entry k of a matrix is the pair of its two words
pub entry_at : (k m : ℕ) (words : List ℕ) → k < m → 2 * m ≤ length words → get_or (first_chunks 2 m words) k [] ≡ get_or words (2 * k) 0 ∷ get_or words (2 * k + 1) 0 ∷ []
entry_at k zero words h l = absurd (omega arith)
entry_at k (suc m) [] h l = absurd (omega arith)
entry_at k (suc m) (a ∷ []) h l = absurd (omega arith)
entry_at zero (suc m) (a ∷ b ∷ words) h l = refl
entry_at (suc k) (suc m) (a ∷ b ∷ words) h l =
    let e : 2 * suc k ≡ suc (suc (2 * k)) = omega arith in
    let f : 2 * suc k + 1 ≡ suc (suc (2 * k + 1)) = omega arith in
    rw (f, e) (entry_at k m words (omega arith) (omega arith))
