use Rattle.std.proofs.Common.{◌≡◌, ◌<◌, ◌++◌, List, length}
use Rattle.bech32_gf.specs.Fe32.{elements_of}
use Rattle.bech32_hrp.specs.HrpBytes.{hrp_bytes}
use Rattle.bech32_near.specs.edits.Edits.{AreAllOf}
use Rattle.bech32_near.specs.edits.Walks.{ArePowers, IsAcceptedOfKind, IsWordOf, without_one}
use Rattle.bech32_near.specs.declared.edits.edit.Edit.{Edit}
use Rattle.bech32_near.proofs.Kept.{IsLower}
use Rattle.bech32_near.proofs.edits.walks.Original.push_left_out.Given as goal

abbrev pub invariant-loop-location : goal.invariant-loop-location
invariant-loop-location g l =
    let number = g.Ck.MidstateRepr.PackedFe32.number in
    let code = g.Ck.Checksum.code in
    record {
      powers : ArePowers number code l.location 1 l.powers.one l.powers.two l.powers.four l.powers.eight l.powers.sixteen;
      rest : l.location < length l.self.characters.now → IsWordOf number code l.rest (without_one (hrp_bytes l.self.hrp) (elements_of l.self.characters.now) l.location);
      kept : (edits : List Edit) × (l.found.items ≡ l.initial.found.items ++ edits)
          × AreAllOf (IsLower (IsAcceptedOfKind 1 code (hrp_bytes l.self.hrp) (elements_of l.self.characters.now)) (λ e. e.location) l.location) edits;
    }
