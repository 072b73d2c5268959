use Rattle.std.proofs.Common.{◌≡◌, ◌∙◌, sym, rules}
use Rattle.std.specs.Iterator.{size}
use Rattle.bech32_bits.specs.Bits.{count_bytes}
use Rattle.bech32_bits.specs.FesToBytes.{bytes_source, bytes_gives, bytes_left}
use Rattle.bech32_bits.proofs.AdaptorWalks.{walk_length}
use Rattle.bech32_bits.proofs.ByteCuts.{length-cut_bytes}
use Rattle.bech32_bits.proofs.FesToBytes.len.Goals as goal

pub returns-clause-exact : goal.returns-clause-exact
returns-clause-exact g c exact bytes d =
    let left : c.bytes_len.result ≡ size (bytes_left g.I.Iterator.remaining c.args.self.now) = search rules in
    let s = c.args.self.now in
    left ∙ sym (walk_length g.I.Iterator.next_gives bytes_source bytes_gives g.I.Iterator.remaining (count_bytes s.padded s.count) _ bytes (length-cut_bytes s.padded s.count s.held.value) exact d)
