use Rattle.std.proofs.Common.{◌≡◌, ◌++◌, ℕ, List, length, ◌+◌}
use Rattle.bech32_gf.specs.Fe32.{elements_of}
use Rattle.bech32_near.specs.edits.Edits.{AreAllOf, value_put}
use Rattle.bech32_near.specs.edits.Walks.{ArePowers, HasLengthsFor, IsAcceptedAt, IsWordOf, with_zero}
use Rattle.bech32_near.specs.declared.edits.edit.Edit.{Edit}
use Rattle.bech32_near.proofs.Kept.{IsLower}
use Rattle.bech32_near.proofs.edits.walks.push_put_in_at.Given as goal

abbrev pub invariant-loop-value : goal.invariant-loop-value
invariant-loop-value g l =
    let number = g.Ck.MidstateRepr.PackedFe32.number in
    let code = g.Ck.Checksum.code in
    (hrp : List ℕ) → HasLengthsFor code hrp (length l.characters + 1)
    → IsWordOf number code l.with_none (with_zero hrp (elements_of l.characters) l.location)
    → ArePowers number code l.location 1 l.powers.one l.powers.two l.powers.four l.powers.eight l.powers.sixteen
    → (edits : List Edit) × (l.found.items ≡ l.initial.found.items ++ edits)
    × AreAllOf (IsLower (IsAcceptedAt 2 code hrp (elements_of l.characters) l.location) (λ e. value_put e.change) l.value) edits
