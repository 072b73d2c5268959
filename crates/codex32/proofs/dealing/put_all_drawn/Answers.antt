use Rattle.std.specs.Prelude.{slice_range}
use Rattle.std.proofs.Common.{◌≡◌, ◌+◌, ◌-◌, ◌*◌, ◌<◌, ◌≤◌, ℕ, length, subst, arith}
use Rattle.codex32.specs.HeaderParts.{threshold_number}
use Rattle.codex32.specs.Split.{IsPayloadString, drawn_for, split_index, string_size, text_at}
use Rattle.codex32.proofs.DealtTexts.{drawn-here, length-part}
use Rattle.codex32.proofs.TextAt.{texts-more}
use Rattle.codex32.proofs.dealing.put_all_drawn.Goals as goal

pub loop-j-preserved : goal.loop-j-preserved
loop-j-preserved c =
    let random = c.args.random.now in
    let m = c.args.size in
    let j : ℕ = c.loop-j.j in
    let count : ℕ = threshold_number c.args.threshold - 1 in
    let less : j < count = omega (arith, c.loop-j-test.true, c.drawn_count-j-end.ensures.value) in
    let room : count * m ≤ length random = omega (arith, c.requires.random_is) in
    let size : length (slice_range random (j * m) (j * m + m)) ≡ m = length-part count m random j room less in
    texts-more (string_size m) (λ k text. IsPayloadString c.args.threshold c.args.identifier (split_index k) (drawn_for m random k) text) c.loop-j.texts c.put_drawn.new.texts j c.loop-j.invariant
    (drawn-here c.args.threshold c.args.identifier count m random c.put_drawn.new.texts j room less c.put_drawn.ensures.here)
    (λ k below. subst (λ (n : ℕ). text_at (string_size n) c.put_drawn.new.texts k ≡ text_at (string_size n) c.loop-j.texts k) size (c.put_drawn.ensures.before k below))
