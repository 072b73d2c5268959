use Rattle.std.proofs.Common.{◌≡◌, ◌<◌, ◌-◌, ◌*◌, ◌/◌, ◌∙◌, length, take, drop, ap, arith, length-drop}
use Rattle.std.proofs.lemmas.List.{take_rest}
use Rattle.bech32_gf.specs.Alphabet.{is_data}
use Rattle.bech32_decode.proofs.DataBytes.{group_more}
use Rattle.bech32_decode.proofs.Letters.{is_data-drop}
use Rattle.bech32_decode.proofs.data_bytes.put_groups.Goals as goal

pub put_group-requires-clause-data : goal.put_group-requires-clause-data
put_group-requires-clause-data c =
    let n = c.loop-group.group * 8 in
    ap is_data (take_rest c.args.characters.now n) ∙ is_data-drop n c.args.characters.now c.requires.data

pub put_group-requires-clause-enough : goal.put_group-requires-clause-enough
put_group-requires-clause-enough c =
    let cs = c.args.characters.now in
    let n = c.loop-group.group * 8 in
    let size : length (take (length cs - n) (drop n cs)) ≡ length cs - n = ap length (take_rest cs n) ∙ length-drop n cs in
    omega arith

pub loop-group-preserved : goal.loop-group-preserved
loop-group-preserved c =
    let i = c.loop-group.group in
    let cs = c.args.characters.now in
    let below : i < length cs / 8 = omega arith in
    group_more i cs _ c.args.buffer.now c.loop-group.buffer _ below (take_rest cs (i * 8)) c.loop-group.invariant c.put_group.ensures
