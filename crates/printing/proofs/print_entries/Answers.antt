use Rattle.std.proofs.Common.{ℕ, ◌≡◌, ◌<◌, ◌≤◌, ◌/◌, List, [], ◌∷◌, take, append_assoc, length, get_or, ap, ◌∙◌, arith}
use Rattle.std.proofs.lemmas.List.{get_or-take, length-take-le}
use Rattle.printing.proofs.Writing.{writes_no_line, writes_one_more, entry_at}
use Rattle.printing.specs.Text.{word_text, entry_line}
use Rattle.printing.proofs.print_entries.Goals as goal

pub loop-re-init : goal.loop-re-init
loop-re-init g c = writes_no_line _ _

pub loop-re-preserved : goal.loop-re-preserved
loop-re-preserved g c =
    let res = c.args.res.now in
    let i = c.loop-re.re-index in
    let found = c.as_chunks.ensures in
    let some : c.args.count ≤ length c.as_chunks.result.0.now = omega (arith, found.front_len, c.requires) in
    let h : i < c.args.count = omega (arith, length-take-le c.args.count c.as_chunks.result.0.now some) in
    let p = get_or-take c.args.count c.as_chunks.result.0.now i [] h ∙ ap (λ (l : List (List ℕ)). get_or l i []) found.front ∙ entry_at i (length res / 2) res (omega (arith, c.requires)) (omega arith) in
    let re = get_or (get_or (take c.args.count c.as_chunks.result.0.now) i []) 0 0 in
    let im = get_or (get_or (take c.args.count c.as_chunks.result.0.now) i []) 1 0 in
    writes_one_more i (entry_line res) c.loop-re.invariant
    (rw (← (ap (λ (l : List ℕ). get_or l 0 0) p), ← (ap (λ (l : List ℕ). get_or l 1 0) p), append_assoc (word_text re) (32 ∷ word_text im) (10 ∷ [])) c.writeln.ensures)

pub returns : goal.returns
returns g c =
    let some : c.args.count ≤ length c.as_chunks.result.0.now = omega (arith, c.as_chunks.ensures.front_len, c.requires) in
    let e : c.args.count ≡ c.loop-re.re-index = omega (arith, length-take-le c.args.count c.as_chunks.result.0.now some) in
    rw e c.loop-re.invariant
