use mathlib.Core.Path.{refl, sym}
use Rattle.choi.proofs.Places.{parts-most}
use Rattle.positivity.proofs.Found.{rows_in, choi-fits, choi-length, choi-front, choi-good}
use Rattle.positivity.proofs.test_choi.Goals as goal

pub normalized_choi-requires : goal.normalized_choi-requires
normalized_choi-requires c = (c.requires.0, c.requires.1, parts-most _ c.requires.1)

pub slice_bounds-matrix-end : goal.slice_bounds-matrix-end
slice_bounds-matrix-end c =
    let choi = c.normalized_choi.ensures in
    choi-fits _ _ _ choi.0 c.in_ok-normalized_choi.was _ _ choi.1 _ _ c.four_to-p.ensures.0 refl

pub slice_bounds-test_matrix-end : goal.slice_bounds-test_matrix-end
slice_bounds-test_matrix-end c =
    let choi = c.normalized_choi.ensures in
    sym (choi-length _ _ _ choi.0 c.in_ok-normalized_choi.was _ _ choi.1 _ _ c.four_to-p.ensures.0 refl)

pub test_matrix-requires : goal.test_matrix-requires
test_matrix-requires c =
    let choi = c.normalized_choi.ensures in
    let k = c.four_to-p.ensures.0 in
    let r = rows_in _ _ c.requires.1 k in
    (choi-length _ _ _ choi.0 c.in_ok-normalized_choi.was _ _ choi.1 _ _ k refl, r.0, r.1)

pub returns : goal.returns
returns c =
    let choi = c.normalized_choi.ensures in
    let k = c.four_to-p.ensures.0 in
    let g = c.in_ok-normalized_choi.was in
    choi-good _ _ _ choi.0 _ _ _ _ _ g k (choi-front _ _ _ choi.0 g _ _ choi.1 _ _ k refl) c.test_matrix.ensures
