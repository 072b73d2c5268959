use Rattle.std.proofs.lemmas.Result.{err_from_is_err_and}
use Rattle.bech32.proofs.Spellings.{refused_by_checked}
use Rattle.bech32.proofs.content.padded.Goals as goal

pub returns-in_err-checked : goal.returns-in_err-checked
returns-in_err-checked g c =
    let p = err_from_is_err_and c.from_residual.result c.from_residual.ensures.1 in
    rw p.1 (rw p.2 (refused_by_checked g.Ck.Checksum.code c.args.s.now c.in_err-checked.field-0.0 c.in_err-checked.ensures.refused))

pub returns-in_err-validate_segwit_padding : goal.returns-in_err-validate_segwit_padding
returns-in_err-validate_segwit_padding g c =
    let p = err_from_is_err_and c.from_residual-in_err-validate_segwit_padding.result c.from_residual-in_err-validate_segwit_padding.ensures.1 in
    let read = c.in_ok-checked.ensures.parts in
    rw p.1 (rw p.2 (record {
      hrp = _;
      data_part = read.data_part;
      accepted = read.accepted;
      characters = _;
      before = read.characters;
      refusal = c.in_err-validate_segwit_padding.ensures;
    }))

pub returns : goal.returns
returns g c = (c.in_ok-checked.ensures.parts, c.in_ok-validate_segwit_padding.ensures)
