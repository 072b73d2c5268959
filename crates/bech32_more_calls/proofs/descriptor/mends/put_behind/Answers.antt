use Rattle.std.proofs.Common.{◌≡◌, ◌-◌, ◌++◌, ◌∙◌, ℕ, List, length, length-drop, take, drop, ap, refl, arith}
use Rattle.std.proofs.lemmas.List.{append-nil, drop_all, take_rest}
use Rattle.bech32_more_calls.proofs.descriptor.mends.put_behind.Goals as goal

pub put_at_front-requires : goal.put_at_front-requires
put_at_front-requires c =
    let old = c.args.texts.now in
    let end : ℕ = c.args.end in
    let rest : length (take (length old - end) (drop end old)) ≡ length old - end = ap length (take_rest old end) ∙ length-drop end old in
    omega (arith, rest, c.if-text-texts.false)

pub returns : goal.returns
returns c =
    let old = c.args.texts.now in
    let end : ℕ = c.args.end in
    let text = c.args.text.now in
    let new = c.put_at_front.new.buffer in (
      refl,
      omega (arith, c.if-text-texts.false, c.requires),
      ap (λ (l : List ℕ). take end old ++ (new ++ l)) (drop_all (length old - end) (drop end old) (omega (arith, length-drop end old)))
          ∙ ap (λ (l : List ℕ). take end old ++ l) (append-nil new ∙ c.put_at_front.ensures.buffer ∙ ap (λ (l : List ℕ). text ++ drop (length text) l) (take_rest old end)),
    )
