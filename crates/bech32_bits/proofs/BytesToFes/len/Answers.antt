use Rattle.std.proofs.Common.{◌≡◌, ◌∙◌, ap, sym, min, ℕ, rules}
use Rattle.std.specs.Iterator.{size}
use Rattle.bech32_bits.specs.Bits.{fes_count}
use Rattle.bech32_bits.specs.BytesToFes.{fes_source, fes_gives, fes_left}
use Rattle.bech32_bits.proofs.AdaptorWalks.{walk_length}
use Rattle.bech32_bits.proofs.RoundTrip.{length-fives}
use Rattle.bech32_bits.proofs.BytesToFes.len.Goals as goal

pub returns-clause-exact : goal.returns-clause-exact
returns-clause-exact g c exact fes d =
    let left : c.unwrap_or.result ≡ min (size (fes_left g.I.Iterator.remaining c.args.self.now)) 18446744073709551615 = search rules in
    let count = c.args.self.now.count in
    left ∙ ap (λ (n : ℕ). min n 18446744073709551615) (sym (walk_length g.I.Iterator.next_gives fes_source fes_gives g.I.Iterator.remaining (fes_count count) _ fes (length-fives count c.args.self.now.held) exact d))
