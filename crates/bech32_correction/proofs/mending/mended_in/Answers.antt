use Rattle.std.proofs.Common.{rules, ◌≡◌, length, drop, string_bytes, vec_items, ap, subst, sym, ◌∙◌, arith}
use Rattle.std.specs.Str.{IsUtf8}
use Rattle.bech32_hrp.specs.Hrp.{lowered}
use Rattle.bech32_correction.proofs.MendedText.{first_items, mend_may, mended-utf8, spelled-from_mend}
use Rattle.bech32_correction.proofs.mending.mended_in.Goals as goal

pub mend-requires : goal.mend-requires
mend-requires g c =
    let same : c.as_mut_slice.result.now ≡ lowered c.args.text.now = search rules in
    mend_may c.args.text.now c.as_mut_slice.result.now c.args.listing.now same c.requires

pub from_utf8_unchecked-requires : goal.from_utf8_unchecked-requires
from_utf8_unchecked-requires g c =
    let same : c.as_mut_slice.result.now ≡ lowered c.args.text.now = search rules in
    let size : length c.mend.new.text ≡ c.into_bytes-bytes.result.len = omega (arith, c.mend.auto.text, ap length c.as_mut_slice.ensures.value, c.into_bytes-bytes.result.ok.0) in
    subst IsUtf8 (sym (first_items c.into_bytes-bytes.result.len c.mend.new.text (drop (length c.mend.new.text) c.into_bytes-bytes.result.items) size))
    (mended-utf8 c.args.text.now c.as_mut_slice.result.now c.mend.new.text c.args.listing.now same c.requires c.mend.ensures)

pub returns : goal.returns
returns g c = λ hrp data_part is.
    let same : c.as_mut_slice.result.now ≡ lowered c.args.text.now = search rules in
    let size : length c.mend.new.text ≡ c.into_bytes-bytes.result.len = omega (arith, c.mend.auto.text, ap length c.as_mut_slice.ensures.value, c.into_bytes-bytes.result.ok.0) in
    let held : string_bytes c.from_utf8_unchecked.result ≡ _ = ap vec_items c.from_utf8_unchecked.ensures.value in
    held ∙ first_items c.into_bytes-bytes.result.len c.mend.new.text (drop (length c.mend.new.text) c.into_bytes-bytes.result.items) size
    ∙ spelled-from_mend c.args.text.now c.as_mut_slice.result.now c.mend.new.text c.args.listing.now same c.requires c.mend.ensures hrp data_part is
