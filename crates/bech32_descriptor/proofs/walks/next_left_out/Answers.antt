use Rattle.std.specs.Prelude.{set}
use Rattle.std.proofs.Common.{◌<◌, ◌≤◌, ◌+◌, ℕ, List, length, length-append, get_or, take, drop, ap, ◌∙◌, arith}
use Rattle.std.proofs.lemmas.List.{length-drop, length-take-le}
use Rattle.bech32_descriptor.proofs.Told.{left_next}
use Rattle.bech32_descriptor.proofs.walks.next_left_out.Goals as goal

pub returns-then-place-text-clause-rest : goal.returns-then-place-text-clause-rest
returns-then-place-text-clause-rest c low = absurd (omega arith)

pub set_byte-requires-clause-within : goal.set_byte-requires-clause-within
set_byte-requires-clause-within c =
    let text = c.args.text.now in
    let i = c.args.place in
    let low : i < length text = c.requires.within in
    let few : i ≤ length text = omega arith in
    let more : i + 1 < length text = omega arith in
    omega (arith, ap (λ (u : List ℕ). length u) c.requires.rest, length-append (take i text) (drop (i + 1) text), length-take-le i text few, length-drop (i + 1) text, more)

pub returns-clause-rest : goal.returns-clause-rest
returns-clause-rest c low =
    let text = c.args.text.now in
    let i = c.args.place in
    c.set_byte.ensures.text ∙ ap (λ (u : List ℕ). set u i (get_or text i 0)) c.requires.rest ∙ left_next text i low
