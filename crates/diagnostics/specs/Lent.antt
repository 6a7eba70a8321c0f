-- The records that the code is lent, and its models. They are the crate's own: no other crate's statement names them.
use Rattle.std.specs.Prelude.{ℕ, ◌<◌, ◌≡◌, Ok, Bool, List, length, get_or, Float}
use Rattle.std.specs.Float.Ieee.{nan}
use Rattle.card_layout.specs.declared.Header.{Header}
use Rattle.gate_set.specs.declared.Model.{Model}
use Rattle.gate_set.specs.Models.{model_at}
use Rattle.likelihood.specs.declared.Diagnostics.{Diagnostics}
use Rattle.likelihood.specs.Multinomial.{Likelihood, onward, log_in}
use Rattle.diagnostics.specs.declared.weighed.WeighedRecords.{WeighedRecords}
use Rattle.diagnostics.specs.Diagnostics.{record_onward, likelihood_by, likelihood_of, Columned}

-- record r under the model with the numbers m
abbrev pub step_of : WeighedRecords → List Float → ℕ → Diagnostics → Likelihood
step_of c m r d = record_onward (log_in c.weighing.tables.now) c.weighing.deviance c.weighing.tolerance c.records.now.card.bytes.now c.records.now.card.header m r d

-- all of them
abbrev pub all_of : WeighedRecords → List Float → Likelihood
all_of c m = likelihood_by (log_in c.weighing.tables.now) c.weighing.deviance c.weighing.tolerance c.records.now.card.bytes.now c.records.now.card.header m

-- past the last model
abbrev pub no_sum : Likelihood
no_sum = Ok (record { log_likelihood = nan; deviance = nan })

-- the likelihood under model k, so far
abbrev pub sum_at : List Likelihood → ℕ → Likelihood
sum_at ls k = get_or ls k no_sum

-- what follows each of the n likelihoods ls is ks
abbrev pub EachOnward : ℕ → (ℕ → Diagnostics → Likelihood) → List Likelihood → List Likelihood → Type 0
EachOnward n next ls ks = (length ks ≡ length ls) × ((k : ℕ) → k < n → sum_at ks k ≡ onward (next k) (sum_at ls k))

-- each model's gates stand by columns
abbrev pub AllColumned : Header → List Model → Type 0
AllColumned h ms = (k : ℕ) → k < length ms → Columned h (model_at ms k).numbers.now (model_at ms k).columns.now

abbrev pub AllKept : WeighedRecords → List Model → Type 0
AllKept c ms = AllColumned c.records.now.card.header ms

-- with record r the likelihoods ls become ks
abbrev pub AllAdded : WeighedRecords → List Model → ℕ → List Likelihood → List Likelihood → Type 0
AllAdded c ms r ls ks = EachOnward (length ms) (λ k. step_of c (model_at ms k).numbers.now r) ls ks

-- those of all records
abbrev pub AllSummed : WeighedRecords → List Model → List Likelihood → Type 0
AllSummed c ms ls = (k : ℕ) → k < length ms → sum_at ls k ≡ all_of c (model_at ms k).numbers.now

-- those of a card
abbrev pub AllFitted : Bool → Float → List ℕ → Header → List Model → List Likelihood → Type 0
AllFitted deviance tolerance s h ms ls = (k : ℕ) → k < length ms → sum_at ls k ≡ likelihood_of deviance tolerance s h (model_at ms k).numbers.now
