use Rattle.std.proofs.Common.{◌≡◌, ◌<◌, ◌+◌, ℕ, suc, length, slice_index_or, sym, ◌∙◌, refl, arith}
use Rattle.std.proofs.Math.Decide.{dec_lt}
use Rattle.std.proofs.lemmas.List.{length-set}
use Rattle.bech32_gf.specs.Fe32 as fe32
use Rattle.bech32_bch.proofs.Loops.{get_any}
use Rattle.bech32_lookup.proofs.OneError.{behind}
use Rattle.bech32_lookup.proofs.Valued.{all_zero, one_behind, zeros_behind}
use Rattle.bech32_lookup.proofs.erased.behind_first.Goals as goal

pub loop-i-init : goal.loop-i-init
loop-i-init c = record {
  room = refl;
  read = λ n h. absurd (omega arith);
  rest = λ n h. all_zero _ refl 26 (suc n);
}

pub loop-i-preserved : goal.loop-i-preserved
loop-i-preserved c =
    let i : ℕ = c.loop-i.i in
    let three : length c.args.found.now ≡ 3 = omega arith in
    let within : i < length c.args.found.now = omega arith in
    let room : i + 1 < length c.loop-i.values = omega (arith, c.loop-i.invariant.room, three) in
    let x = slice_index_or c.args.found.now i c.index-found-i.result in
    record {
      room = length-set _ _ _ ∙ c.loop-i.invariant.room;
      read = one_behind c.loop-i.values c.args.found.now i x room (get_any c.args.found.now i c.index-found-i.result fe32.zero within) c.loop-i.invariant.read;
      rest = zeros_behind c.loop-i.values i x c.loop-i.invariant.rest;
    }

pub returns : goal.returns
returns c = λ n. elim (dec_lt n c.loop-i.i) [
  | yes less ↦ c.loop-i.invariant.read n less
  | no more ↦ c.loop-i.invariant.rest n (omega arith) ∙ sym (behind c.args.found.now n (omega arith))
]
