use Rattle.std.specs.Prelude.{set}
use Rattle.std.proofs.Common.{◌≡◌, ◌<◌, ◌+◌, ℕ, List, length, get_or, sym, ap, subst, ◌∙◌, arith}
use Rattle.std.proofs.lemmas.List.{length-set, set-get_or, set-set}
use Rattle.std.proofs.lemmas.Bool.{false≢true}
use Rattle.bech32_descriptor.specs.Descriptor.{IsDescriptor}
use Rattle.bech32_descriptor.proofs.Told.{swap_not_told, swap_told}
use Rattle.bech32_descriptor.proofs.walks.swapped_at.Goals as goal

pub returns-then-place-text-clause-all : goal.returns-then-place-text-clause-all
returns-then-place-text-clause-all c =
    swap_not_told c.args.text.now c.args.place (λ q. let low : c.args.place + 1 < length c.args.text.now = q.0 in omega (arith, low))

pub returns-then-first-second-clause-all : goal.returns-then-first-second-clause-all
returns-then-first-second-clause-all c = swap_not_told c.args.text.now c.args.place (λ q. q.1 c.if-first-second.true)

pub is_right_with-right-requires : goal.is_right_with-right-requires
is_right_with-right-requires c =
    let text = c.args.text.now in
    let size : length c.set_byte-half.new.text ≡ length text =
    ap (λ (u : List ℕ). length u) c.set_byte-half.ensures.text ∙ length-set text c.args.place (get_or text (c.args.place + 1) 0) in
    let low : c.args.place < length text = c.requires.within in
    record { ready = c.set_byte-half.ensures.ready; within = omega (arith, size) }

pub bounds-text-place-3 : goal.bounds-text-place-3
bounds-text-place-3 c =
    omega (arith, ap (λ (u : List ℕ). length u) (c.is_right_with-right.ensures.text ∙ c.set_byte-half.ensures.text), length-set c.args.text.now c.args.place (get_or c.args.text.now (c.args.place + 1) 0), c.requires.within)

pub returns-then-not-right-clause-text : goal.returns-then-not-right-clause-text
returns-then-not-right-clause-text c =
    let text = c.args.text.now in
    let i = c.args.place in
    ap (λ (u : List ℕ). set u i (get_or text i 0)) (c.is_right_with-right.ensures.text ∙ c.set_byte-half.ensures.text)
    ∙ set-set text i (get_or text (i + 1) 0) (get_or text i 0) ∙ set-get_or text i 0

pub returns-then-not-right-clause-all : goal.returns-then-not-right-clause-all
returns-then-not-right-clause-all c =
    let text = c.args.text.now in
    let i = c.args.place in
    swap_not_told text i (λ q. false≢true (sym c.if-not-right.true
    ∙ c.is_right_with-right.ensures.right.1 (subst (λ (u : List ℕ). IsDescriptor (set u (i + 1) (get_or text i 0))) (sym c.set_byte-half.ensures.text) q.2)))

pub returns-clause-text : goal.returns-clause-text
returns-clause-text c =
    let text = c.args.text.now in
    let i = c.args.place in
    ap (λ (u : List ℕ). set u i (get_or text i 0)) (c.is_right_with-right.ensures.text ∙ c.set_byte-half.ensures.text)
    ∙ set-set text i (get_or text (i + 1) 0) (get_or text i 0) ∙ set-get_or text i 0

pub returns-clause-all : goal.returns-clause-all
returns-clause-all c =
    let text = c.args.text.now in
    let i = c.args.place in
    let within : i + 1 < length text = omega arith in
    swap_told text i (
      within,
      (λ e. c.if-first-second.false e),
      subst (λ (u : List ℕ). IsDescriptor (set u (i + 1) (get_or text i 0))) c.set_byte-half.ensures.text (c.is_right_with-right.ensures.right.0 c.if-not-right.false),
    )
