use Rattle.std.specs.Prelude.{set}
use Rattle.std.proofs.Common.{◌≡◌, ◌<◌, ◌≤◌, ◌+◌, ◌++◌, ◌∷◌, [], ℕ, List, append-nil, append_assoc, get_or, length, take, drop, ap, subst, ◌∙◌, arith}
use Rattle.bech32_descriptor.specs.Edits.{IsToldAt}
use Rattle.bech32_descriptor.specs.declared.edits.Change.{Change}
use Rattle.bech32_descriptor.proofs.Told.{change_parts, swap_parts}
use Rattle.bech32_descriptor.proofs.mends.made_text.Goals as goal

pub text_with-requires : goal.text_with-requires
text_with-requires g c =
    let low : c.args.edit.place < length c.args.text.now = (subst (λ (ch : Change). IsToldAt c.args.edit.place ch c.args.text.now) c.in-Changed.is c.requires.told).0 in
    record { within = (omega (arith, low), omega (arith, low)); few = (c.requires.few, omega arith) }

pub text_with-requires-in-Swapped : goal.text_with-requires-in-Swapped
text_with-requires-in-Swapped g c =
    let low : c.args.edit.place + 1 < length c.args.text.now = (subst (λ (ch : Change). IsToldAt c.args.edit.place ch c.args.text.now) c.in-Swapped.is c.requires.told).0 in
    record { within = (omega (arith, low), omega (arith, low)); few = (c.requires.few, omega arith) }

pub text_with-requires-in-LeftOut : goal.text_with-requires-in-LeftOut
text_with-requires-in-LeftOut g c =
    let low : c.args.edit.place < length c.args.text.now = (subst (λ (ch : Change). IsToldAt c.args.edit.place ch c.args.text.now) c.in-LeftOut.is c.requires.told).0 in
    record { within = (omega (arith, low), omega (arith, low)); few = (c.requires.few, omega arith) }

pub text_with-requires-in-PutIn : goal.text_with-requires-in-PutIn
text_with-requires-in-PutIn g c =
    let low : c.args.edit.place ≤ length c.args.text.now = (subst (λ (ch : Change). IsToldAt c.args.edit.place ch c.args.text.now) c.in-PutIn.is c.requires.told).0 in
    record { within = (low, low); few = (c.requires.few, omega arith) }

pub returns-in-Changed : goal.returns-in-Changed
returns-in-Changed g c =
    let text = c.args.text.now in
    let i = c.args.edit.place in
    let b = c.in-Changed.b in
    let low : i < length text = (subst (λ (ch : Change). IsToldAt i ch text) c.in-Changed.is c.requires.told).0 in
    let parts : (take i text ++ (b ∷ [])) ++ drop (i + 1) text ≡ set text i b = append_assoc (take i text) (b ∷ []) (drop (i + 1) text) ∙ change_parts text i b low in
    rw c.in-Changed.is (rw (← parts) c.text_with.ensures)

pub returns-in-Swapped : goal.returns-in-Swapped
returns-in-Swapped g c =
    let text = c.args.text.now in
    let i = c.args.edit.place in
    let x = get_or text (i + 1) 0 in
    let y = get_or text i 0 in
    let low : i + 1 < length text = (subst (λ (ch : Change). IsToldAt i ch text) c.in-Swapped.is c.requires.told).0 in
    let parts : (take i text ++ (x ∷ y ∷ [])) ++ drop (i + 2) text ≡ set (set text i x) (i + 1) y = append_assoc (take i text) (x ∷ y ∷ []) (drop (i + 2) text) ∙ swap_parts text i x y low in
    rw c.in-Swapped.is (rw (← parts) c.text_with-in-Swapped.ensures)

pub returns-in-LeftOut : goal.returns-in-LeftOut
returns-in-LeftOut g c =
    let text = c.args.text.now in
    let i = c.args.edit.place in
    let parts : (take i text ++ []) ++ drop (i + 1) text ≡ take i text ++ drop (i + 1) text = ap (λ (u : List ℕ). u ++ drop (i + 1) text) (append-nil (take i text)) in
    rw c.in-LeftOut.is (rw (← parts) c.text_with-in-LeftOut.ensures)

pub returns-in-PutIn : goal.returns-in-PutIn
returns-in-PutIn g c =
    let text = c.args.text.now in
    let i = c.args.edit.place in
    let b = c.in-PutIn.b in
    let parts : (take i text ++ (b ∷ [])) ++ drop i text ≡ take i text ++ b ∷ drop i text = append_assoc (take i text) (b ∷ []) (drop i text) in
    rw c.in-PutIn.is (rw (← parts) c.text_with-in-PutIn.ensures)
