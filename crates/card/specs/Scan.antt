-- The size's fault by itself. That the lowest place at fault is the earlier of it and the first word at fault along the layout is `found` of
-- proofs/Lowest.antt.
use Rattle.std.specs.Prelude.{None, Some, ℕ, ◌*◌, ◌%◌, List, cond, length, ltb, eqb}
use Rattle.numbers.specs.Word.{words_in}
use Rattle.card_layout.specs.Limits.{most_words}
use Rattle.card_faults.specs.Walk.{Fault}

unfoldable pub size_fault : List ℕ → Fault
size_fault s =
    cond (eqb (length s) 0) (Some 0)
    (cond (ltb (most_words * 8) (length s)) (Some most_words)
    (cond (ltb 0 (length s % 8)) (Some (words_in s))
    None))
