use Rattle.std.proofs.Common.{◌≡◌, ◌++◌, List}
use Rattle.bech32_gf.specs.Fe32.{elements_of}
use Rattle.bech32_hrp.specs.HrpBytes.{hrp_bytes}
use Rattle.bech32_near.specs.edits.Edits.{AreAllOf}
use Rattle.bech32_near.specs.edits.Walks.{ArePowers, IsAcceptedOfKind}
use Rattle.bech32_near.specs.declared.edits.edit.Edit.{Edit}
use Rattle.bech32_near.proofs.Kept.{IsLower}
use Rattle.bech32_near.proofs.edits.walks.Original.push_swapped.Given as goal

abbrev pub invariant-loop-location : goal.invariant-loop-location
invariant-loop-location g l =
    let code = g.Ck.Checksum.code in
    record {
      powers : ArePowers g.Ck.MidstateRepr.PackedFe32.number code l.location 2 l.pairs.one l.pairs.two l.pairs.four l.pairs.eight l.pairs.sixteen;
      kept : (edits : List Edit) × (l.found.items ≡ l.initial.found.items ++ edits)
          × AreAllOf (IsLower (IsAcceptedOfKind 0 code (hrp_bytes l.self.hrp) (elements_of l.self.characters.now)) (λ e. e.location) l.location) edits;
    }
