use Rattle.std.proofs.Common.{◌∙◌, ◌*◌, ◌/◌, length, refl, ap, arith}
use Rattle.std.proofs.lemmas.List.{take_rest}
use Rattle.bech32_gf.specs.Alphabet.{is_data}
use Rattle.bech32_decode.proofs.DataBytes.{all_bytes, groups_fit, rest_fits}
use Rattle.bech32_decode.proofs.Letters.{is_data-drop}
use Rattle.bech32_decode.proofs.data_bytes.put_data_bytes.Goals as goal

pub put_groups-requires-clause-room : goal.put_groups-requires-clause-room
put_groups-requires-clause-room c =
    let fit = groups_fit c.args.characters.now in
    omega (arith, c.requires.room, fit)

pub put_rest-requires-clause-data : goal.put_rest-requires-clause-data
put_rest-requires-clause-data c =
    let cs = c.args.characters.now in
    ap is_data (take_rest cs (length cs / 8 * 8)) ∙ is_data-drop (length cs / 8 * 8) cs c.requires.data

pub put_rest-requires-clause-room : goal.put_rest-requires-clause-room
put_rest-requires-clause-room c =
    let cs = c.args.characters.now in
    let fit = rest_fits cs _ (take_rest cs (length cs / 8 * 8)) in
    omega (arith, c.requires.room, fit)

pub returns-clause-count : goal.returns-clause-count
returns-clause-count c =
    let cs = c.args.characters.now in
    (all_bytes (length cs / 8) c.put_rest.result cs _ c.args.buffer.now c.put_groups.new.buffer c.put_rest.new.buffer refl (take_rest cs (length cs / 8 * 8)) c.put_groups.ensures c.put_rest.ensures.count c.put_rest.ensures.buffer).0

pub returns-clause-buffer : goal.returns-clause-buffer
returns-clause-buffer c =
    let cs = c.args.characters.now in
    (all_bytes (length cs / 8) c.put_rest.result cs _ c.args.buffer.now c.put_groups.new.buffer c.put_rest.new.buffer refl (take_rest cs (length cs / 8 * 8)) c.put_groups.ensures c.put_rest.ensures.count c.put_rest.ensures.buffer).1
