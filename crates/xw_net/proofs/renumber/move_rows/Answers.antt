use Rattle.std.proofs.Common.{◌≡◌, ℕ, length, sym, ◌∙◌, ap, subst}
use Rattle.xw_net.specs.Room.{counts_of, size_at, row_at}
use Rattle.xw_net.specs.Renumber.{same_before}
use Rattle.xw_net.proofs.Nets.RenumberedLights.{IsFrom, moved_more}
use Rattle.xw_net.proofs.renumber.move_rows.Goals as goal

pub loop-light-preserved : goal.loop-light-preserved
loop-light-preserved g c =
    let known : ℕ → ℕ = λ k. counts_of (g.R.Rows.entries c.args.words.now) (size_at c.args.after.now k) in
    let so_far = c.loop-light.invariant in
    let row = row_at c.move_row.new.spare c.loop-light.light in
    let words : c.known-known.result ≡ known c.loop-light.light = c.known-known.ensures ∙ ap (λ n. length (g.R.Rows.entries c.args.words.now n)) c.size_at.ensures in
    let from = subst (λ n. IsFrom c.loop-light.rows n (same_before c.args.before.now c.args.after.now c.loop-light.light) row) words
    (subst (λ same. IsFrom c.loop-light.rows c.known-known.result same row) c.same.ensures (c.move_row.ensures.bits, c.move_row.ensures.room)) in
    let moved = moved_more c.args.before.now c.args.after.now known c.args.rows.now c.args.spare.now c.loop-light.rows c.loop-light.spare c.move_row.new.rows c.move_row.new.spare c.loop-light.light
    c.requires.after
    (record { done = λ k lt. (so_far.bits k lt, so_far.room k lt); left = so_far.left; kept = so_far.kept })
    from
    c.move_row.ensures.others
    (λ other none. c.move_row.ensures.kept other (λ e. none (sym c.same.ensures ∙ e))) in
    record { bits = λ k lt. (moved.done k lt).0; room = λ k lt. (moved.done k lt).1; left = moved.left; kept = moved.kept }
