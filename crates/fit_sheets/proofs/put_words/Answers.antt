use mathlib.Core.Path.{refl}
use Rattle.fit.specs.Outcome.{fitted_of}
use Rattle.fit_sheets.proofs.Shown.{fit_written}
use Rattle.fit_sheets.proofs.put_words.Goals as goal

pub returns : goal.returns
returns c =
    let a = c.args in
    fit_written _ _ (fitted_of a.f a.model.now) a.res.now _ _ _ c.put_numbers.ensures refl c.put.ensures
