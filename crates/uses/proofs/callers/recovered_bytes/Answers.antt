use Rattle.std.proofs.Common.{Vec, Global, ℕ, string_bytes}
use Rattle.bech32_bits.proofs.RoundTrip.{bytes-below}
use Rattle.uses.proofs.Recovered.{bytes-given, same_bytes}
use Rattle.uses.proofs.callers.recovered_bytes.Goals as goal

pub returns : goal.returns
returns c =
    let (payload, string, elements) = c.in_ok-text.ensures.string in
    let text = string_bytes c.in_ok-text.text in
    bytes-given (λ (v : Vec ℕ Global). v.items) text c.args.secret.now c.bytes_of.result (rw c.deref.ensures at c.bytes_of.ensures)
    (λ s of. same_bytes text c.args.secret.now payload s _ _ _ of string elements (bytes-below c.args.secret.now c.type_inv.secret))
