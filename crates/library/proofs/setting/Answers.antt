use Rattle.library.proofs.Entries.{setting-in, entry-refused, entry-shown}
use Rattle.library.specs.Entries.{setting_entry}
use Rattle.outcome.specs.declared.Answer.TheVariants.{Setting}
use Rattle.designs.specs.Settings.{setting_of}
use Rattle.designs.proofs.Sizes.{length-setting}
use Rattle.lists.proofs.Parts.{over-front}
use native.Mathlib.Omega.{arith}
use mathlib.Core.Path.{refl, sym, ◌∙◌}
use Rattle.library.proofs.setting.Goals as goal

pub setting-requires : goal.setting-requires
setting-requires c =
    let s = setting-in _ _ (sym c.in_ok-check_setting.was ∙ c.check_setting.ensures) in
    let r = c.requires in
    (s.0, s.1, omega (arith, s.0, r))

pub returns-in_err-check_setting : goal.returns-in_err-check_setting
unfolding setting_entry
returns-in_err-check_setting c = entry-refused Setting _ _ c.check_setting.ensures c.from_residual.ensures.1 c.in_err-check_setting.was

pub returns : goal.returns
unfolding setting_entry
returns c =
    entry-shown Setting _ _ c.check_setting.ensures refl c.in_ok-check_setting.was (over-front (setting_of c.args.n c.args.index) c.args.res.now (length-setting _ _) c.setting.ensures)
