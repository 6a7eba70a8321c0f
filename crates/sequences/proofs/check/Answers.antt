use Rattle.std.proofs.Common.{ℕ, sym, ap, ◌∙◌}
use native.Mathlib.Nat.{le_of_eq}
use Rattle.refusal.specs.Verdicts.{counted_of}
use Rattle.refusal.proofs.Verdicts.{first-refuses, second-decides, passed_on, counted}
use Rattle.sequences.specs.Sequences.{given_verdict, sequence_verdict}
use Rattle.sequences.proofs.Sequences.{within, stops, goes_on}
use Rattle.sequences.proofs.check.Goals as goal

pub model_size-requires : goal.model_size-requires
model_size-requires c = (within _ _ _ _ (sym c.in_ok-check_limits.was ∙ c.check_limits.ensures)).0

pub returns-in_err-check_limits : goal.returns-in_err-check_limits
unfolding sequence_verdict
returns-in_err-check_limits c =
    passed_on c.from_residual.ensures.1
    (stops _ _ _ c.check_limits.ensures _ c.in_err-check_limits.was)

pub returns-in_err-check_count : goal.returns-in_err-check_count
unfolding sequence_verdict given_verdict
returns-in_err-check_count c =
    passed_on c.from_residual-in_err-check_count.ensures.1
    (goes_on _ _ _ c.check_limits.ensures _ c.in_ok-check_limits.was
    (stops _ _ _ (c.check_count.ensures ∙ ap (λ (k : ℕ). counted_of k c.args.numbers.now) c.model_size.ensures) _ c.in_err-check_count.was))

pub invariant_of-check : goal.invariant_of-check
invariant_of-check c =
    record {
      sized = (within _ _ _ _ (sym c.in_ok-check_limits.was ∙ c.check_limits.ensures)).0;
      enough = le_of_eq (sym (counted _ c.args.numbers.now (sym c.in_ok-check_count.was ∙ c.check_count.ensures) ∙ c.model_size.ensures));
    }

pub returns-in_err-check : goal.returns-in_err-check
unfolding sequence_verdict given_verdict
returns-in_err-check c =
    passed_on c.from_residual-in_err-check.ensures.1
    (goes_on _ _ _ c.check_limits.ensures _ c.in_ok-check_limits.was
    (goes_on _ _ _ (c.check_count.ensures ∙ ap (λ (k : ℕ). counted_of k c.args.numbers.now) c.model_size.ensures) _ c.in_ok-check_count.was
    (first-refuses _ _ _ (sym c.in_err-check.ensures))))

pub check_gates-requires : goal.check_gates-requires
check_gates-requires c = (within _ _ _ _ (sym c.in_ok-check_limits.was ∙ c.check_limits.ensures)).1

pub returns : goal.returns
unfolding sequence_verdict given_verdict
returns c =
    goes_on _ _ _ c.check_limits.ensures _ c.in_ok-check_limits.was
    (goes_on _ _ _ (c.check_count.ensures ∙ ap (λ (k : ℕ). counted_of k c.args.numbers.now) c.model_size.ensures) _ c.in_ok-check_count.was
    (second-decides _ _ _ (sym c.in_ok-check.ensures) c.check_gates.ensures))
