use Rattle.std.proofs.Common.{◌≢◌, []}
use Rattle.bech32_checksum.specs.Code.{bech32m}
use Rattle.bech32_decode.proofs.Addresses.{no_elements, some_of, versioned-before, room-of_version, refused-by_data, outcome-from_data}
use Rattle.bech32_decode.proofs.reading.Reading+Bech32m.short_address.Goals as goal

pub characters-characters-requires : goal.characters-characters-requires
characters-characters-requires c =
    room-of_version c.in_ok-version.version c.args.self.now.data_part.now c.in_ok-version.ensures.1.data_length

pub data_of_version-requires-clause-versioned : goal.data_of_version-requires-clause-versioned
data_of_version-requires-clause-versioned c =
    let characters = c.characters-characters.result.now in
    let some : characters ≢ [] = some_of characters c.is_empty.result c.is_empty.ensures c.if-is_empty.false in
    versioned-before bech32m c.args.self.now.data_part.now characters c.in_ok-version.version _ c.characters-characters.ensures.before c.in_ok-version.ensures.0 some

pub returns-then-is_empty : goal.returns-then-is_empty
returns-then-is_empty c =
    let s = c.args.self.now in
    let characters = c.characters-characters.result.now in
    refused-by_data s.text.now s.hrp.now s.data_part.now c.in_ok-version.version _ c.in_ok-version.ensures.0 c.in_ok-version.ensures.1
    characters c.characters-characters.ensures.before _ (no_elements characters c.is_empty.result c.is_empty.ensures c.if-is_empty.true)

pub returns : goal.returns
returns c =
    let s = c.args.self.now in
    let characters = c.characters-characters.result.now in
    let some : characters ≢ [] = some_of characters c.is_empty.result c.is_empty.ensures c.if-is_empty.false in
    outcome-from_data s.text.now s.hrp.now s.data_part.now c.in_ok-version.version _ c.in_ok-version.ensures.0 c.in_ok-version.ensures.1
    characters c.characters-characters.ensures.before
    (versioned-before bech32m s.data_part.now characters c.in_ok-version.version _ c.characters-characters.ensures.before c.in_ok-version.ensures.0 some)
    c.data_of_version.result (c.data_of_version.ensures _ c.requires)
