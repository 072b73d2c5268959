use Rattle.bech32_checksum.specs.Code.{bech32m}
use Rattle.bech32_decode.proofs.Addresses.{versioned-before, room-of_version, refused-by_data, outcome-from_data}
use Rattle.std.proofs.lemmas.Result.{err_from_is_err_and}
use Rattle.bech32_decode.proofs.reading.Reading+Bech32m.address.Goals as goal

pub characters-characters-requires : goal.characters-characters-requires
characters-characters-requires c =
    room-of_version c.in_ok-version.version c.args.self.now.data_part.now c.in_ok-version.ensures.1.data_length

pub data_of_version-requires-clause-versioned : goal.data_of_version-requires-clause-versioned
data_of_version-requires-clause-versioned c =
    versioned-before bech32m c.args.self.now.data_part.now c.characters-characters.result.now c.in_ok-version.version _ c.characters-characters.ensures.before c.in_ok-version.ensures.0 c.in_ok-validate_sizes.ensures.1

pub returns-in_err-validate_sizes : goal.returns-in_err-validate_sizes
returns-in_err-validate_sizes c =
    let s = c.args.self.now in
    let p = err_from_is_err_and c.from_residual-in_err-validate_sizes.result c.from_residual-in_err-validate_sizes.ensures.1 in
    rw p.1 (rw p.2 (refused-by_data s.text.now s.hrp.now s.data_part.now c.in_ok-version.version _ c.in_ok-version.ensures.0 c.in_ok-version.ensures.1
    c.characters-characters.result.now c.characters-characters.ensures.before _ c.in_err-validate_sizes.ensures))

pub returns : goal.returns
returns c =
    let s = c.args.self.now in
    outcome-from_data s.text.now s.hrp.now s.data_part.now c.in_ok-version.version _ c.in_ok-version.ensures.0 c.in_ok-version.ensures.1
    c.characters-characters.result.now c.characters-characters.ensures.before
    (versioned-before bech32m s.data_part.now c.characters-characters.result.now c.in_ok-version.version _ c.characters-characters.ensures.before c.in_ok-version.ensures.0 c.in_ok-validate_sizes.ensures.1)
    c.data_of_version.result (c.data_of_version.ensures _ c.in_ok-validate_sizes.ensures.0)
