use Rattle.std.proofs.Common.{◌≡◌, Err, arith, refl, sym, ap, ◌∙◌, List}
use lib.Ieee.{Float}
use Rattle.lists.proofs.Parts.{over-front}
use Rattle.lists.specs.Build.{over}
use Rattle.refusal.specs.Verdicts.{good, checked_numbers}
use Rattle.refusal.proofs.Verdicts.{first-refuses, second-decides, passed_on}
use Rattle.matrix.specs.Product.{mat_vec_of}
use Rattle.matrix.proofs.Sums.{length-mat-vec}
use Rattle.transfer.specs.Apply.{applied_of}
use Rattle.transfer.proofs.Applied.{verdict-is, refused-numbers, good-numbers, good-lengths}
use Rattle.transfer.proofs.apply_expectations.Goals as goal

pub returns-in_err-check_numbers : goal.returns-in_err-check_numbers
returns-in_err-check_numbers c =
    let e : Err c.in_err-check_numbers.field-0.0 ≡ applied_of c.args.p c.args.values.now c.args.input.now =
    verdict-is _ _ _ _ _ (checked_numbers c.args.p c.args.input.now) _ c.square.ensures.0 c.check_numbers.ensures refl (first-refuses _ _ _ c.in_err-check_numbers.was) in
    (passed_on c.from_residual.ensures.1 e, ap (λ (x : List Float). over x c.args.out.now) (refused-numbers _ _ _ _ _ e refl))

pub returns-in_err-check_numbers-2 : goal.returns-in_err-check_numbers-2
returns-in_err-check_numbers-2 c =
    let e : Err c.in_err-check_numbers-2.field-0.0 ≡ applied_of c.args.p c.args.values.now c.args.input.now =
    verdict-is _ _ _ _ _ _ _ c.square.ensures.0 c.check_numbers.ensures c.check_numbers-2.ensures (second-decides _ _ _ c.in_ok-check_numbers.was (sym c.in_err-check_numbers-2.was)) in
    (passed_on c.from_residual-in_err-check_numbers-2.ensures.1 e, ap (λ (x : List Float). over x c.args.out.now) (refused-numbers _ _ _ _ _ e refl))

pub mat_vec-requires : goal.mat_vec-requires
mat_vec-requires c =
    let v : good ≡ applied_of c.args.p c.args.values.now c.args.input.now =
    verdict-is _ _ _ _ _ _ _ c.square.ensures.0 c.check_numbers.ensures c.check_numbers-2.ensures (second-decides _ _ _ c.in_ok-check_numbers.was (sym c.in_ok-check_numbers-2.was)) in
    let l = good-lengths c.args.p c.args.values.now c.args.input.now v in
    (c.requires.0, omega (arith, l.0), omega (arith, l.1), c.requires.1)

pub returns : goal.returns
returns c =
    let a = c.args.values.now in
    let x = c.args.input.now in
    let g : good ≡ applied_of c.args.p a x =
    verdict-is _ _ _ _ _ _ _ c.square.ensures.0 c.check_numbers.ensures c.check_numbers-2.ensures (second-decides _ _ _ c.in_ok-check_numbers.was (sym c.in_ok-check_numbers-2.was)) in
    (g, over-front (mat_vec_of c.args.p a x) c.args.out.now (length-mat-vec _ _ _) c.mat_vec.ensures ∙ ap (λ (x : List Float). over x c.args.out.now) (good-numbers _ _ _ g))
