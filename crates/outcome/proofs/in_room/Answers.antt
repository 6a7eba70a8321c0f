use mathlib.Core.Path.{◌≡◌, refl, sym, ◌∙◌}
use mathlib.Core.Bool.{true}
use Rattle.outcome.specs.Outcome.{roomy}
use Rattle.outcome.proofs.Outcomes.{stays, same_outcome, crowded, room_for, housed, blank-same}
use Rattle.outcome.proofs.in_room.Goals as goal
use Rattle.outcome.proofs.in_room.Goals.{then-has_room, else-has_room}

pub run-answer-requires : goal.run-answer-requires
run-answer-requires g c =
    let long = room_for c.args.res.now c.args.work.now (sym c.has_room.ensures ∙ c.if-has_room.true) in
    c.requires _ _ long.0 long.1

pub returns : goal.returns
returns g c o runs =
    record {
      gives =
          elim c.if-has_room.branch [
            | then-has_room w ↦
                let e : roomy c.args.res.now c.args.work.now ≡ true = sym c.has_room.ensures ∙ w.if-has_room.true in
                let long = room_for _ _ e in
                rw (w.res-is, w.answer-is) (same_outcome (housed c.args.res.now c.args.work.now e refl) (runs.gives _ _ _ _ _ long.0 long.1 w.run-answer.ensures))
            | else-has_room w ↦ rw (w.res-is, w.answer-is) (stays _ (crowded c.args.res.now c.args.work.now o (sym c.has_room.ensures ∙ w.if-has_room.false)))
          ];
      blanked = c.clear.ensures ∙ blank-same _ _ c.if-has_room.auto.work;
    }
