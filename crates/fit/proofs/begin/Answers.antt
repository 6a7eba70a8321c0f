use mathlib.Core.Path.{◌≡◌, ap, ◌∙◌}
use mathlib.Core.List.{List, map}
use native.Mathlib.Omega.{arith}
use Prim.Native.Nat.{ℕ}
use lib.ListN.{length, get_or}
use lib.Ieee.{Float, nan}
use Rattle.lists.specs.Build.{build}
use Rattle.objective.proofs.Maps.{build-map}
use lib.Seq.{length-take-le}
use borrow.Author.Rules.{rules}
use Rattle.numbers.specs.Slice.{at}
use Rattle.model_words.specs.Words.{numbers_of}
use Rattle.model_words.proofs.Sizes.{length-model}
use Rattle.diagnostics.specs.Diagnostics.{likelihood_of}
use mathlib.Core.Bool.{true}
use Rattle.objective.proofs.Puts.{whole-over}
use Rattle.fit.proofs.begin.Goals as goal

pub returns : goal.returns
returns c =
    let a = c.args in
    let k = a.records.now.card in
    let s = k.bytes.now in
    let h = k.header in
    let n = c.model_numbers-n in
    let m : c.load.new.out ≡ numbers_of s h = c.load.ensures ∙ whole-over (numbers_of s h) _ (omega (arith, length-model s h, length-take-le n.result a.model.now (search rules), n.ensures.0)) in
    let len : length a.anchor.now ≡ length a.places.now = c.requires.2 in
    (c.fit_diagnostics.ensures.0 ∙ ap (λ (m : List Float). likelihood_of true a.tolerance s h m) m, c.gather.ensures ∙ ap (λ (n : ℕ). build n (λ k. at c.load.new.out (get_or a.places.now k 0))) len ∙ build-map (at c.load.new.out) 0 nan a.places.now ∙ ap (λ (m : List Float). map (at m) a.places.now) m)
